use Rattle.std.proofs.Common.{◌≡◌, ◌≢◌, ◌<◌, length, true, false, sym, refl, ◌∙◌, arith}
use Rattle.sr_frame.specs.Frame.{least_len}
use Rattle.sr_hsr_tag.specs.Faults.{untag_fault_of}
use Rattle.sr_hsr_tag.specs.declared.fault.TagFault.{TagFault}
use Rattle.sr_hsr_tag.specs.declared.fault.TagFault.TheVariants as tag
use Rattle.sr_hsr_tag.specs.declared.fault.UntagFault.TheVariants.{TooShort}
use Rattle.sr_hsr_tag.proofs.reading.untagged_view.Goals as goal

never_too_short : (fault : TagFault) → untag_fault_of fault ≢ TooShort
never_too_short tag.NotTagged e = cc
never_too_short tag.Truncated e = cc

pub returns-in_err-tag-clause-only : goal.returns-in_err-tag-clause-only
returns-in_err-tag-clause-only c plain t is frame = absurd (c.in_err-tag.ensures.only plain t is)

pub returns-in_err-tag-clause-too_short : goal.returns-in_err-tag-clause-too_short
returns-in_err-tag-clause-too_short c = (
  λ e. let is : TooShort ≡ untag_fault_of c.in_err-tag.field-0.0 = rw e at c.from_residual.ensures.1 in absurd (never_too_short _ (sym is)),
  λ w. absurd (c.in_err-tag.ensures.only w.0 w.1 w.2),
)

pub returns-in_default-clause-only : goal.returns-in_default-clause-only
returns-in_default-clause-only c plain t is frame =
    let same = (c.in_ok-tag.ensures.only plain t is).1 in
    let short = c.in_default.ensures.short.0 refl in
    let short_too : length plain < least_len plain = rw same at short in
    absurd (omega (arith, frame.least))

pub returns-clause-only : goal.returns-clause-only
returns-clause-only c plain t is frame =
    let at = c.in_ok-tag.ensures.only plain t is in
    (c.in-Some.ensures.found ∙ at.1, at.0)

pub returns-clause-too_short : goal.returns-clause-too_short
returns-clause-too_short c = (
  λ e. absurd cc,
  λ w. let same = (c.in_ok-tag.ensures.only w.0 w.1 w.2).1 in
      let no : true ≡ false = c.in-Some.ensures.short.1 (rw same w.3) in
      absurd cc,
)
