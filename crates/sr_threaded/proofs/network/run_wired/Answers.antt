use mir.Syntax.{of_param}
use denote.Exit.{unseen, if_kept}
use denote.Param.Send.{Quiet}
use Rattle.std.proofs.Common.{Bool, true, false, sym, ◌∙◌}
use Rattle.sr_node.specs.States.{state_of}
use Rattle.sr_threaded.specs.Ran.{starts_at}
use Rattle.sr_threaded.proofs.Running.{all_ran}
use Rattle.sr_threaded.proofs.network.run_wired.Goals as goal

-- where nothing is seen of what a value left, what it left says the same to every thread
nothing_seen : {D : Type 0} (b : Bool) → Quiet {D = D} (if_kept b unseen unseen)
nothing_seen true = λ d w. tt
nothing_seen false = λ d w. tt

-- the types' bounds, as a job on another thread has them
pub map_vec-requires-after_bounds : goal.map_vec-requires-after_bounds
map_vec-requires-after_bounds g c κs within i x low is = (
  record { owned = c.type_bounds.send-N.owned; leaving = λ k. nothing_seen (k (of_param 0)) },
  record { owned = c.type_bounds.send-G.owned; leaving = λ k. nothing_seen (k (of_param 1)) },
  record { owned = c.type_bounds.send-F.owned; leaving = λ k. nothing_seen (k (of_param 2)) },
  record { shared = c.type_bounds.sync-W.shared },
)

pub returns-in-Ok-all_of-clause-ran : goal.returns-in-Ok-all_of-clause-ran
returns-in-Ok-all_of-clause-ran g c =
    let feed = g.F.Feed in
    let meaning = g.G.Framing.meaning in
    let role = g.N.Role.meaning in
    all_ran feed (λ w. starts_at feed (state_of role w.node) (meaning w.a) (meaning w.b) (meaning w.host) w.turns w.at_a w.at_b w.at_host)
    c.args.nodes.items c.in-Ok.outcomes.items c.in-Ok-all_of.ends.items
    (sym c.in-Ok.outcomes.ok.0 ∙ c.in-Ok.ensures.len ∙ c.args.nodes.ok.0) c.in-Ok-all_of.ensures.all
    (λ i d low. let job = (c.in-Ok.ensures.each i d low).1 in (job.job, job.job_is, job.call.met))
