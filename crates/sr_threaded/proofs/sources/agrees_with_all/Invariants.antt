use Rattle.std.proofs.Common.{Bool, ◌≤◌, length, vec_capacity}
use Rattle.std.specs.Prelude.{◌&&◌}
use Rattle.sr_forwarding.specs.Framings.{Trailed}
use Rattle.sr_forwarding.specs.Limits.{longest_frame}
use Rattle.sr_threaded.specs.Sources.{AgreesWithAll}
use Rattle.sr_threaded.proofs.sources.agrees_with_all.Given as goal

-- whatever comes of those that are left, it and what came of the others makes what comes of all
abbrev pub invariant-loop-end : goal.invariant-loop-end
invariant-loop-end g l =
    (longest_frame ≤ vec_capacity l.buffer)
    × ((d : Bool) → AgreesWithAll (Trailed l.fn.framing.lan l.fn.framing.net) l.fn.worker l.fn.own l.fn.arrivals l.rest d
    → AgreesWithAll (Trailed l.fn.framing.lan l.fn.framing.net) l.fn.worker l.fn.own l.fn.arrivals l.fn.ends (l.all && d))

abbrev pub decreases-loop-end : goal.decreases-loop-end
decreases-loop-end g l = length l.rest
