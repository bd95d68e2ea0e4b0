use Rattle.std.proofs.Common.{rules}
use Rattle.sr_forwarding.proofs.kind.RoleKind.routes_by_dst_known.Goals as goal

pub returns-in-San : goal.returns-in-San
returns-in-San c = search rules
