use Rattle.std.proofs.Common.{ap, sym, ◌∙◌}
use Rattle.sr_workers.specs.Work.{moment}
use Rattle.sr_workers.proofs.Steps.{finished_as, stopped_as, worked_whole, worked_last}
use Rattle.sr_workers.proofs.Calling.{called_ended}
use Rattle.sr_workers.proofs.running.run_worker.Goals as goal

pub returns-in-Ok-clause-worked : goal.returns-in-Ok-clause-worked
returns-in-Ok-clause-worked g c =
    let e = c.ended_as.ensures in
    worked_whole _ _ e.fault_is (e.held ∙ c.in-Ok.ensures.ok.held) (finished_as _ _ _ _ _ _ _ _ _ _ (ap (λ l. moment (g.E.Enters.count c.args.kit.pass) l (g.F.Feed.handed c.args.kit.feed) (g.F.Feed.asked c.args.kit.feed) (g.F.Feed.given c.args.kit.feed) (g.F.Feed.losses c.args.kit.feed) (g.F.Feed.failed c.args.kit.feed) 0) c.new-log.ensures.empty)
    (λ i. moment (g.E.Enters.count (sym e.seat_is i)) (sym e.log i).pairs.items (g.F.Feed.handed (sym e.feed i)) (g.F.Feed.asked (sym e.feed i)) (g.F.Feed.given (sym e.feed i)) (g.F.Feed.losses (sym e.feed i)) (g.F.Feed.failed (sym e.feed i)) (sym e.unread i)) (ap g.F.Feed.ended (sym e.feed)) c.in-Ok.ensures.ok.did)

pub returns-clause-worked : goal.returns-clause-worked
returns-clause-worked g c =
    let e = c.ended_as-in-Err.ensures in
    worked_last _ _ c.in-Err.fault e.fault_is (stopped_as _ _ _ _ _ _ _ _ _ _ _ (sym e.held) (ap (λ l. moment (g.E.Enters.count c.args.kit.pass) l (g.F.Feed.handed c.args.kit.feed) (g.F.Feed.asked c.args.kit.feed) (g.F.Feed.given c.args.kit.feed) (g.F.Feed.losses c.args.kit.feed) (g.F.Feed.failed c.args.kit.feed) 0) c.new-log.ensures.empty)
    (λ i. moment (g.E.Enters.count (sym e.seat_is i)) (sym e.log i).pairs.items (g.F.Feed.handed (sym e.feed i)) (g.F.Feed.asked (sym e.feed i)) (g.F.Feed.given (sym e.feed i)) (g.F.Feed.losses (sym e.feed i)) (g.F.Feed.failed (sym e.feed i)) (sym e.unread i)) c.in-Err.ensures.err.did)

pub returns-in-Ok-clause-called : goal.returns-in-Ok-clause-called
returns-in-Ok-clause-called g c =
    let e = c.ended_as.ensures in called_ended _ _ _ _ _ _ _ _ _ _ _ _ _ _ _ _ _ _ e.fault_is e.seat_is (ap g.F.Feed.handed e.feed) c.new-log.ensures.empty (ap (λ l. l.pairs.items) e.log) e.unread c.in-Ok.ensures.ok.calls

pub returns-clause-called : goal.returns-clause-called
returns-clause-called g c =
    let e = c.ended_as-in-Err.ensures in called_ended _ _ _ _ _ _ _ _ _ _ _ _ _ _ _ _ _ _ e.fault_is e.seat_is (ap g.F.Feed.handed e.feed) c.new-log.ensures.empty (ap (λ l. l.pairs.items) e.log) e.unread c.in-Err.ensures.err.calls
