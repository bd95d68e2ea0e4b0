-- What a command line is refused for.
use Rattle.std.specs.Prelude.{◌≡◌}
use Rattle.clap.specs.Values.{kind_of}
use Rattle.clap.specs.declared.error.kind.ErrorKind.TheVariants as kind
use Rattle.sr_options.specs.declared.refusal.Refused.{Refused}
use Rattle.sr_options.specs.declared.refusal.Refused.TheVariants as refused

-- the version was asked for
abbrev pub AsksVersion : Refused → Type 0
AsksVersion (refused.Parser e) = kind_of e ≡ kind.DisplayVersion
AsksVersion other = ⊥
