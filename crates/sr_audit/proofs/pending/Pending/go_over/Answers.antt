use Rattle.std.proofs.Common.{◌++◌, ◌∙◌, ap, subst}
use Rattle.sr_audit.specs.declared.pending.Fate.TheVariants.{PassedOver}
use Rattle.sr_audit.specs.Listings.{listed_of, SettlesNumber}
use Rattle.sr_audit.proofs.ListingLemmas.{stays_too, settles_stays, puts_stays}
use Rattle.sr_audit.proofs.pending.Pending.go_over.Goals as goal

pub returns-clause-over : goal.returns-clause-over
returns-clause-over c = record {
  listed = c.in_ok-settle.ensures.listed
      ∙ ap (λ n. c.args.list.now.items ++ listed_of c.args.spans.now c.args.self.now c.args.src (record { 0 = n })) c.steps_before.ensures;
  mid = c.settle.new.self;
  settled = subst (λ n. SettlesNumber n c.args.self.now c.settle.new.self) c.steps_before.ensures c.settle.ensures.settled;
  passed = c.put.ensures;
}

pub returns-clause-stays : goal.returns-clause-stays
returns-clause-stays c =
    stays_too c.args.self.now c.settle.new.self c.put.new.self
    (settles_stays c.steps_before.result.0 c.args.self.now c.settle.new.self c.settle.ensures.settled)
    (puts_stays c.args.seq.0 c.args.time 0 PassedOver c.settle.new.self c.put.new.self c.put.ensures)
