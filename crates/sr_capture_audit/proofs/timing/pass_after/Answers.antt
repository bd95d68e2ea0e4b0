use Rattle.sr_capture_script.specs.Passing.{wanted}
use Rattle.sr_capture_audit.proofs.Timings.{folds_timed}
use Rattle.sr_capture_audit.proofs.timing.pass_after.Goals as goal

pub returns-clause-takes : goal.returns-clause-takes
returns-clause-takes g c sa sb sc fa fb fc =
    let took = c.in_ok-pass_over.ensures.takes sa sb sc fa fb fc in
    record {
      merged = took.merged;
      came = took.came;
      taken = folds_timed _ _ (wanted c.args.choice.now took.merged) c.pass_over.new.pass took.taken;
    }
