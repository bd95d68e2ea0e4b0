use Rattle.sr_capture_audit.proofs.Counted.{mirrored}
use Rattle.sr_capture_audit.proofs.Mirrored.{all_mirrored}
use Rattle.sr_capture_audit.proofs.counts.Counts.of_mirror.Goals as goal

pub returns-clause-mirrored : goal.returns-clause-mirrored
returns-clause-mirrored c xs all e =
    mirrored c.args.self.now xs c.saturating_add.result c.saturating_add-2.result c.saturating_add-3.result all e c.saturating_add.ensures
    c.saturating_add-2.ensures c.saturating_add-3.ensures

pub returns-clause-audited : goal.returns-clause-audited
returns-clause-audited c subject xs seen is are e =
    mirrored c.args.self.now seen c.saturating_add.result c.saturating_add-2.result c.saturating_add-3.result (all_mirrored subject xs seen is are) e
    c.saturating_add.ensures c.saturating_add-2.ensures c.saturating_add-3.ensures
