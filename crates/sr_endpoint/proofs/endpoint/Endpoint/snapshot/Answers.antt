use Rattle.std.proofs.Common.{IfOk, subst}
use Rattle.sr_dup_snapshots.specs.Snapshots.{IsSnapshot}
use Rattle.sr_node.specs.Images.{State}
use Rattle.sr_endpoint.proofs.endpoint.Endpoint.snapshot.Goals as goal

pub returns : goal.returns
returns c =
    subst (λ (s : State). IfOk c.snapshot.result (λ octets. IsSnapshot s.core.width octets.items s.core.sources)) c.in_ok-image.ensures c.snapshot.ensures
