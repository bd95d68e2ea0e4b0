use Rattle.std.proofs.Common.{◌≡◌, ◌++◌, ◌∷◌, rules}
use Rattle.std.proofs.lemmas.List.{nil_from_length}
use Rattle.sr_ports.specs.Parts.{part}
use Rattle.sr_ports.specs.Rests.{rest_of, IsRest}
use Rattle.sr_ports.proofs.RestLemmas.{on_from}
use Rattle.sr_ports.proofs.rests.Rests.walk.Goals as goal

pub loop-entry-preserved : goal.loop-entry-preserved
loop-entry-preserved c w others =
    let front : c.loop-entry.entries_left.now ≡ c.in-Some.entry.now ∷ c.in-Some.behind.now = search rules in
    on_from (λ es. IsRest (part w (es ++ others)) (rest_of w c.loop-entry.self)) front
    (c.loop-entry.invariant w others) (c.step.ensures w (c.in-Some.behind.now ++ others))

pub returns : goal.returns
returns c w others =
    on_from (λ es. IsRest (part w (es ++ others)) (rest_of w c.loop-entry.self)) (nil_from_length c.loop-entry.entries_left.now c.in_default.ensures.cases)
    (c.loop-entry.invariant w others) (λ h. h, λ h. h)
