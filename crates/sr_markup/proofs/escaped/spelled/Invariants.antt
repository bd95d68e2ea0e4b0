use Rattle.std.proofs.Common.{◌≡◌, string_bytes}
use Rattle.std.specs.List.{flat_map}
use Rattle.sr_markup.specs.Escapes.{spelled_char}
use Rattle.sr_markup.proofs.escaped.spelled.Given as goal

-- the characters so far, as they are spelled
abbrev pub invariant-loop-c : goal.invariant-loop-c
invariant-loop-c l = string_bytes l.out ≡ flat_map spelled_char l.yielded
