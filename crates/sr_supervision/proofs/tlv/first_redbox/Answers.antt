use Rattle.std.proofs.Common.{◌≡◌, Option, ap, ◌∙◌}
use Rattle.std.specs.Option.{option_or}
use Rattle.sr_frame.specs.declared.fields.Mac.{Mac}
use Rattle.sr_supervision.specs.Tlvs.{redbox_in}
use Rattle.sr_supervision.proofs.TlvLemmas.{left_after}
use Rattle.sr_supervision.proofs.tlv.first_redbox.Goals as goal

pub loop-tlv-preserved : goal.loop-tlv-preserved
loop-tlv-preserved c =
    let t = c.in-Some.tlv in
    let next = rw c.in-Some.is at c.in_ok-tlv.ensures.tlv in
    let redbox : c.or-redbox.result ≡ option_or c.loop-tlv.redbox (redbox_in t.kind t.value.now) = c.or-redbox.ensures ∙ ap (λ (r : Option Mac). option_or c.loop-tlv.redbox r) c.redbox_of.ensures in
    rw redbox (left_after _ c.loop-tlv.rest.now c.in-Some.behind.now t.value.now t.kind c.loop-tlv.redbox c.loop-tlv.invariant next.1 next.0)
