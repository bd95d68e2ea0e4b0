use Rattle.std.proofs.Common.{rules, ◌≡◌, false, is_some}
use Rattle.std.proofs.lemmas.Result.{on_ok_weaker}
use Rattle.std.specs.Map.{lookup}
use Rattle.sr_frame.specs.Addresses.{mac_eq}
use Rattle.sr_audit.specs.Pendings.{arrivals_from, LeavesNothing}
use Rattle.sr_audit.proofs.PendingLemmas.{changes_none, last_of_none, leaves_nothing, lists_last, none_left}
use Rattle.sr_audit.proofs.listing.Listing.finish.Goals as goal

pub returns-clause-listed : goal.returns-clause-listed
returns-clause-listed c = on_ok_weaker c.finish_known.result (λ at xs lists.
    lists_last c.args.self.now.spans c.args.self.now.first xs c.args.src c.args.self.now.sources.entries
    c.finish_known.new.self.sources.entries c.args.list.now.items c.finish_known.new.list.items at lists) c.finish_known.ensures.ended

pub returns-clause-settled : goal.returns-clause-settled
returns-clause-settled c = on_ok_weaker c.finish_known.result (λ at xs lists.
    leaves_nothing c.args.self.now.spans c.args.self.now.first xs c.args.src c.args.self.now.sources.entries
    c.finish_known.new.self.sources.entries c.args.list.now.items c.finish_known.new.list.items at lists) c.finish_known.ensures.ended

pub returns-then-is_none-clause-settled : goal.returns-then-is_none-clause-settled
returns-then-is_none-clause-settled c =
    let lacks : is_some (lookup (mac_eq c.args.src) c.args.self.now.sources.entries) ≡ false = search rules in
    λ xs lists. none_left (lookup (mac_eq c.args.src) c.args.self.now.sources.entries)
    (λ p. LeavesNothing (arrivals_from c.args.src xs) p) lacks

pub returns-then-is_none-clause-listed : goal.returns-then-is_none-clause-listed
returns-then-is_none-clause-listed c =
    let lacks : is_some (lookup (mac_eq c.args.src) c.args.self.now.sources.entries) ≡ false = search rules in
    λ xs lists. last_of_none c.args.self.now.spans c.args.src (arrivals_from c.args.src xs)
    (lookup (mac_eq c.args.src) c.args.self.now.sources.entries) c.args.list.now.items lacks

pub returns-then-is_none-clause-others : goal.returns-then-is_none-clause-others
returns-then-is_none-clause-others c = changes_none c.args.src c.args.self.now.sources.entries
