use Rattle.std.proofs.Common.{◌≡◌, ℕ, List, IfOk, subst}
use Rattle.sr_frame.specs.declared.fields.Mac.{Mac}
use Rattle.sr_forwarding.specs.Proxies.{recent_of}
use Rattle.sr_node.specs.Images.{State}
use Rattle.sr_endpoint.proofs.endpoint.Endpoint.proxied.Goals as goal

pub returns : goal.returns
returns c =
    subst (λ (s : State). IfOk c.recent_of.result (λ recent. recent.items ≡ recent_of s.role.proxied s.core.time)) c.in_ok-image.ensures
    (subst (λ (ps : List (Mac × ℕ)). IfOk c.recent_of.result (λ recent. recent.items ≡ recent_of ps c.in_ok-image.image.time)) c.addresses.ensures c.recent_of.ensures)
