use Rattle.std.proofs.Common.{arith, refl}
use Rattle.std.proofs.lemmas.Grind.{common_steps}
use Rattle.sr_supervision.proofs.TlvLemmas.{ends_empty, ends_at_zero, past_head, past_value}
use Rattle.sr_supervision.proofs.tlv.next_tlv.Goals as goal

pub returns-in_default-clause-end : goal.returns-in_default-clause-end
returns-in_default-clause-end c = ends_empty c.args.octets.now c.in_default.ensures.cases

pub returns-then-kind-eq-END_OF_TLVS-clause-end : goal.returns-then-kind-eq-END_OF_TLVS-clause-end
returns-then-kind-eq-END_OF_TLVS-clause-end c = ends_at_zero c.args.octets.now c.in-Some.after.now c.in-Some.kind.now c.in-Some.ensures.cases.0 c.if-kind-eq-END_OF_TLVS.true

pub returns-in_default-split_first-clause-past : goal.returns-in_default-split_first-clause-past
returns-in_default-split_first-clause-past c = (
  refl,
  past_head c.args.octets.now c.in-Some.after.now c.in-Some.kind.now c.in-Some.ensures.cases.0 c.if-kind-eq-END_OF_TLVS.false c.in_default-split_first.ensures.cases,
)

pub returns-in_default-split_at_checked-clause-past : goal.returns-in_default-split_at_checked-clause-past
returns-in_default-split_at_checked-clause-past c = (
  refl,
  past_value c.args.octets.now c.in-Some.after.now c.in-Some-split_first.after.now c.in-Some.kind.now c.in-Some-split_first.len.now c.in-Some.ensures.cases.0 c.in-Some-split_first.ensures.cases.0 c.if-kind-eq-END_OF_TLVS.false (omega (arith, c.from.ensures, c.in_default-split_at_checked.ensures.cases)),
)

pub returns-clause-tlv : goal.returns-clause-tlv
returns-clause-tlv c = grind (arith, common_steps)
