use Rattle.std.proofs.Common.{take}
use Rattle.sr_session.specs.Octets.{Lacks}
use Rattle.sr_words.proofs.words.near_place_of.Given as goal

abbrev pub invariant-loop-at : goal.invariant-loop-at
invariant-loop-at l = Lacks l.octet (take l.at l.octets)
