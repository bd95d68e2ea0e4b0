use Rattle.std.proofs.Common.{ap, ◌∙◌}
use Rattle.sr_session.specs.RunLemmas.{runs_from}
use Rattle.sr_script.specs.declared.counts.Counts.{Counts}
use Rattle.sr_script.specs.Stations.{Station, start_of}
use Rattle.sr_script.specs.Tallies.{tally_dialogue, with_counts}
use Rattle.sr_script.proofs.runs.run_over.Goals as goal

pub returns-in-Frames-clause-runs : goal.returns-in-Frames-clause-runs
returns-in-Frames-clause-runs g c = rw c.in-Frames.is (runs_from _ _ _ _ _ _ _ c.run_owned.result c.in-Ok.ensures c.run_owned.ensures.runs)

pub returns-in-Status-clause-runs : goal.returns-in-Status-clause-runs
returns-in-Status-clause-runs g c = rw c.in-Status.is (runs_from _ _ _ _ _ _ _ c.run_owned-in-Status.result c.in-Ok.ensures c.run_owned-in-Status.ensures.runs)

pub returns-in-Tally-clause-runs : goal.returns-in-Tally-clause-runs
returns-in-Tally-clause-runs g c =
    let begun = ap (λ (s : Station). with_counts s c.none-counts.result) c.in-Ok.ensures
    ∙ ap (λ (counts : Counts). with_counts (start_of c.args.setup.now) counts) c.none-counts.ensures in
    rw c.in-Tally.is (runs_from tally_dialogue _ _ _ _ _ _ c.run_owned-in-Tally.result begun c.run_owned-in-Tally.ensures.runs)
