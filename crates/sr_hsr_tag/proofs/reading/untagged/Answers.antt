use Rattle.std.proofs.Common.{◌∙◌, rules}
use Rattle.sr_hsr_tag.proofs.reading.untagged.Goals as goal

pub returns-in_err-plain-clause-only : goal.returns-in_err-plain-clause-only
returns-in_err-plain-clause-only c plain t is frame = absurd (c.in_err-plain.ensures.only plain t is frame)

pub returns-clause-only : goal.returns-clause-only
returns-clause-only c plain t is frame = c.in_ok-own.ensures ∙ (c.in_ok-plain.ensures.only plain t is frame).0

pub returns-clause-found : goal.returns-clause-found
returns-clause-found c = search rules
