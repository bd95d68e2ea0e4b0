use Rattle.std.proofs.Common.{rules, subst}
use Rattle.std.proofs.lemmas.Result.{on_ok_weaker}
use Rattle.sr_audit.specs.Taken.{IsKeptIn}
use Rattle.sr_audit.proofs.ListingLemmas.{lists_end}
use Rattle.sr_audit.proofs.PendingLemmas.{ends_all, ends_empty, on_ok_both}
use Rattle.sr_audit.proofs.pending.Pending.end.Goals as goal

pub returns-clause-listed : goal.returns-clause-listed
returns-clause-listed c = on_ok_weaker c.end_stretch.result (λ waits xs kept.
    lists_end c.args.spans.now c.args.self.now c.args.src _ xs _ c.args.list.now.items c.end_stretch.new.list.items
    (subst (IsKeptIn xs) c.in-Some.is kept) c.greatest-greatest.ensures waits) c.end_stretch.ensures.listed

pub returns-clause-ends : goal.returns-clause-ends
returns-clause-ends c = on_ok_both c.end_stretch.result (λ waits settled. ends_all c.args.spans.now c.args.src c.args.self.now
    c.end_stretch.new.self c.args.list.now.items c.end_stretch.new.list.items c.end_stretch.ensures.stays.listed (λ xs kept.
    lists_end c.args.spans.now c.args.self.now c.args.src _ xs _ c.args.list.now.items c.end_stretch.new.list.items
    (subst (IsKeptIn xs) c.in-Some.is kept) c.greatest-greatest.ensures waits) settled) c.end_stretch.ensures.listed c.end_stretch.ensures.settled

pub returns-in_default-clause-ends : goal.returns-in_default-clause-ends
returns-in_default-clause-ends c = ends_empty c.args.spans.now c.args.src c.args.self.now c.args.list.now.items (search rules)
