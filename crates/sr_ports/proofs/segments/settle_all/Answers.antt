use Rattle.std.proofs.Common.{◌≡◌, ◌∷◌, ◌++◌, sym, ap, ◌∙◌, rules}
use Rattle.std.proofs.lemmas.List.{nil_from_length}
use Rattle.sr_ports.specs.Parts.{part, entries_in}
use Rattle.sr_ports.specs.Rests.{rest_of, IsRest}
use Rattle.sr_ports.proofs.RestLemmas.{on_from, whole}
use Rattle.sr_ports.proofs.segments.settle_all.Goals as goal

pub loop-segment-init : goal.loop-segment-init
loop-segment-init c w = c.of-rests.ensures w (part w (entries_in c.args.segments.now))

pub loop-segment-preserved : goal.loop-segment-preserved
loop-segment-preserved c w =
    let front : c.loop-segment.segments_left.now ≡ c.in-Some-split_first.segment.now ∷ c.in-Some-split_first.behind.now = search rules in
    on_from (λ es. IsRest (part w es) (rest_of w c.loop-segment.rests))
    (ap entries_in front ∙ ap (λ es. es ++ entries_in c.in-Some-split_first.behind.now) (sym c.as_slice.ensures.value))
    (c.loop-segment.invariant w) (c.walk.ensures w (entries_in c.in-Some-split_first.behind.now))

pub returns : goal.returns
returns c =
    whole c.args.segments.now c.args.logs.now c.settlement.result (search rules) (c.settlement.ensures (entries_in c.args.segments.now) c.args.logs.now (λ w.
    on_from (λ ss. IsRest (part w (entries_in ss)) (rest_of w c.loop-segment.rests)) (nil_from_length c.loop-segment.segments_left.now c.in_default-split_first.ensures.cases)
    (c.loop-segment.invariant w) (λ h. h, λ h. h)))
