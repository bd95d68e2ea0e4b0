use Rattle.std.proofs.Common.{arith}
use Rattle.sr_frame.specs.View.{fields_of}
use Rattle.sr_hsr_tag.specs.TagLemmas.{tagged_is_long, tag_at_front}
use Rattle.sr_hsr_tag.proofs.reading.parted.Goals as goal

pub returns-then-frame-clause-only : goal.returns-then-frame-clause-only
returns-then-frame-clause-only c plain t is =
    let at = tagged_is_long (fields_of c.args.frame.now) plain t c.args.frame.now.legal is in
    absurd (c.if-frame.true at.0)

pub returns-in_default-clause-only : goal.returns-in_default-clause-only
returns-in_default-clause-only c plain t is =
    let at = tagged_is_long (fields_of c.args.frame.now) plain t c.args.frame.now.legal is in
    let short = c.in_default.ensures.cases in
    absurd (omega (arith, at.1))

pub returns-clause-only : goal.returns-clause-only
returns-clause-only c plain t is =
    let w = c.in-Some.ensures.cases in
    tag_at_front (fields_of c.args.frame.now) c.in-Some.front.now c.in-Some.rest.now plain c.tag_of.result t c.args.frame.now.legal w.0 w.1 c.tag_of.ensures.spelled c.tag_of.ensures.fits is
