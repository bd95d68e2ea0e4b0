use Rattle.sr_forwarding.specs.OctetLemmas.{supervision_is}
use Rattle.sr_forwarding.proofs.HeaderLemmas.{header_is}
use Rattle.sr_frame.specs.View.{fields_of}
use Rattle.sr_forwarding.proofs.header.Header.of.Goals as goal

pub returns : goal.returns
returns c =
    let v = c.args.frame.now in
    header_is v c.is_supervision.result c.args.seq c.args.path (supervision_is (fields_of v) c.is_supervision.result v.legal c.is_supervision.ensures)
