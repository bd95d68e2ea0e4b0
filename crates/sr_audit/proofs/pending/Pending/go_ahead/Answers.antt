use Rattle.std.proofs.Common.{rules, ◌≡◌, ◌<◌, ◌≤◌, ◌-◌, ◌∙◌, ap, arith}
use Rattle.sr_audit.specs.Listings.{steps_before}
use Rattle.sr_audit.proofs.ListingLemmas.{gone_more, over_more, stays_too}
use Rattle.sr_audit.proofs.pending.Pending.go_ahead.Goals as goal

pub loop-left-preserved : goal.loop-left-preserved
loop-left-preserved c =
    let i = c.loop-left.invariant in
    let g = c.in_ok-go_over.ensures.over in
    let within : c.loop-left.left < c.args.steps = omega arith in
    let number : c.steps_before-seq.result.0 ≡ steps_before c.args.x.arrival.seq.0 (c.args.steps - c.loop-left.left - 1) =
    c.steps_before-seq.ensures ∙ ap (steps_before c.args.x.arrival.seq.0) (omega arith) in (
      stays_too c.args.self.now c.loop-left.self c.go_over.new.self i.0 c.go_over.ensures.stays,
      g.passed.reach ∙ g.settled.reach ∙ i.1,
      λ few. gone_more c.args.spans.now c.args.x.src c.args.x.arrival.seq.0 c.args.steps c.loop-left.left c.steps_before-seq.result.0
          c.args.x.arrival.time c.args.self.now c.loop-left.self c.go_over.new.self c.args.list.now.items c.loop-left.list.items
          c.go_over.new.list.items within few (i.2 few).1 number (i.2 few).0 g,
      λ places few. over_more c.args.spans.now c.args.x.src c.args.x.arrival.seq.0 c.args.x.arrival.time c.args.steps c.loop-left.left
          c.steps_before-seq.result.0 c.args.self.now c.loop-left.self c.go_over.new.self c.loop-left.list.items c.go_over.new.list.items
          within few (i.0.room places) number (i.3 places few) g,
    )

pub returns-clause-passed : goal.returns-clause-passed
returns-clause-passed c = λ places few.
    let over = c.loop-left.invariant.3 places few in
    let all : c.args.steps ≤ c.loop-left.left = omega arith in
    record {
      fates = λ i less. over.fates i less (omega (arith, all));
      times = λ i less. over.times i less (omega (arith, all));
      others = λ i from less.
          let k = over.others i from less in
          record { fate = k.fate; time = k.time; packet = k.packet };
      reach = search rules;
    }
