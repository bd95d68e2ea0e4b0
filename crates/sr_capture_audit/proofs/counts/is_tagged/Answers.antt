use Rattle.sr_capture_audit.proofs.Counted.{tagged_is}
use Rattle.sr_capture_audit.proofs.counts.is_tagged.Goals as goal

pub returns-in-Some : goal.returns-in-Some
returns-in-Some c =
    tagged_is c.args.octets.now c.in-Some.behind.now c.type_at.result c.starts_with.result c.type_at.ensures c.in-Some.ensures.lookup.0.2
    c.starts_with.ensures.value
