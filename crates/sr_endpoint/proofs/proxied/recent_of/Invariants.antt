use Rattle.std.proofs.Common.{◌≡◌, take}
use Rattle.sr_forwarding.specs.Proxies.{recent_of}
use Rattle.sr_endpoint.proofs.proxied.recent_of.Given as goal

-- of the addresses so far those that are not forgotten
abbrev pub invariant-loop-mac : goal.invariant-loop-mac
invariant-loop-mac l = l.recent.items ≡ recent_of (take l.mac-index l.proxied) l.now
