use Rattle.std.proofs.Common.{Err, ap, sym, subst, ◌∙◌}
use Rattle.sr_frame.specs.Frame.{spelling}
use Rattle.sr_frame.specs.View.{fields_of}
use Rattle.sr_hsr_tag.specs.Tagged.{IsTagged}
use Rattle.sr_forwarding.specs.OctetLemmas.{type_of_frame, short_payload}
use Rattle.sr_forwarding.specs.ParcelLemmas.{tagged_is_parcel}
use Rattle.sr_forwarding.proofs.hsr_framing.read_tagged.Goals as goal

pub of_parts-requires : goal.of_parts-requires
of_parts-requires c =
    let p = c.in-Ok._plain in
    tagged_is_parcel _ _ (fields_of p) c.in-Ok.tag c.requires p.legal
    (subst (λ o. IsTagged o (spelling (fields_of p)) c.in-Ok.tag) (sym c.requires.spelled) c.in-Ok.ensures.found)

pub returns-in-Err-NotTagged-clause-err : goal.returns-in-Err-NotTagged-clause-err
returns-in-Err-NotTagged-clause-err c =
    λ e. c.in-Err-NotTagged.ensures.not_tagged.0 (ap Err c.in-Err-NotTagged.field-0-is) (sym (type_of_frame _ _ c.requires) ∙ e)

pub returns-in-Err-Truncated-clause-err : goal.returns-in-Err-Truncated-clause-err
returns-in-Err-Truncated-clause-err c =
    let cut = c.in-Err-Truncated.ensures.truncated.0 (ap Err c.in-Err-Truncated.field-0-is) in
    (type_of_frame _ _ c.requires ∙ cut.0, short_payload _ _ c.requires cut.1)
