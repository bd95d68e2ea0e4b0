use Rattle.std.proofs.Common.{◌≡◌, ◌<◌, arith, refl, subst}
use Rattle.sr_audit.proofs.ListingLemmas.{AreSettled, all_settled, left_more, settled_more, stays_too, settles_stays}
use Rattle.sr_audit.proofs.pending.Pending.end_stretch.Goals as goal

pub loop-steps-preserved : goal.loop-steps-preserved
loop-steps-preserved c =
    let i = c.loop-steps.invariant in
    let few : c.loop-steps.steps < 1024 = omega arith in
    let m = left_more c.args.spans.now c.args.src c.args.greatest.0 c.loop-steps.steps c.kept_number.result c.args.self.now c.loop-steps.self
    c.settle.new.self c.args.list.now.items c.loop-steps.list.items c.settle.new.list.items few i.2 c.kept_number.ensures i.1
    c.in_ok-settle.ensures.listed c.settle.ensures.settled in (
      stays_too c.args.self.now c.loop-steps.self c.settle.new.self i.0
          (settles_stays c.kept_number.result.0 c.loop-steps.self c.settle.new.self c.settle.ensures.settled),
      m.0,
      m.1,
      λ places. settled_more c.args.greatest.0 c.loop-steps.steps c.kept_number.result.0 c.loop-steps.self c.settle.new.self few
          (i.0.room places) c.kept_number.ensures (i.3 places) c.settle.ensures.settled,
    )

pub returns-clause-listed : goal.returns-clause-listed
returns-clause-listed c = record {
  count = c.loop-steps.steps;
  all = omega arith;
  listed = c.loop-steps.invariant.1;
}

pub returns-clause-settled : goal.returns-clause-settled
returns-clause-settled c = λ places.
    let all : c.loop-steps.steps ≡ 1024 = omega arith in
    record {
      fates = all_settled c.args.greatest.0 c.loop-steps.self
          (subst (λ n. AreSettled c.args.greatest.0 n c.loop-steps.self) all (c.loop-steps.invariant.3 places));
      reach = refl;
    }
