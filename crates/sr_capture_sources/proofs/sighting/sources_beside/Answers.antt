use Rattle.sr_capture_audit.specs.PassLemmas.{taken_within}
use Rattle.sr_capture_script.specs.Merging.{feed_of}
use Rattle.sr_capture_sources.specs.declared.sighting.Beside.{Beside}
use Rattle.sr_capture_sources.specs.Sighting.{SightsMore}
use Rattle.sr_capture_sources.proofs.Sighted.{sighted_all}
use Rattle.sr_capture_sources.proofs.sighting.sources_beside.Goals as goal

pub returns-clause-sources : goal.returns-clause-sources
returns-clause-sources g c sa sb sc fa fb fc =
    let all = c.args.captures.now in
    let x = feed_of all.a sa in
    let y = feed_of all.b sb in
    let z = feed_of all.c sc in
    let choice = c.args.choice.now in
    sighted_all choice x y z _ c.in_ok-told.told.1.sighting
    (record { each = c.new.ensures.sources; out = c.new.ensures.left_out; few = c.new.ensures.few })
    (taken_within (λ (b : Beside _). b.sighting) _ (λ o h n. SightsMore h o n) (λ o h n is. is.sighted) choice x y z _ c.in_ok-told.told.1
    (c.in_ok-told.ensures.takes sa sb sc fa fb fc))

pub returns-clause-takes : goal.returns-clause-takes
returns-clause-takes g c sa sb sc fa fb fc =
    let all = c.args.captures.now in
    taken_within (λ (b : Beside _). b.other) _ _ (λ o h n is. is.other) c.args.choice.now (feed_of all.a sa) (feed_of all.b sb) (feed_of all.c sc) _
    c.in_ok-told.told.1 (c.in_ok-told.ensures.takes sa sb sc fa fb fc)
