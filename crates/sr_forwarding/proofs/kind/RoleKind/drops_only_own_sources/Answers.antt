use Rattle.std.proofs.Common.{rules}
use Rattle.sr_forwarding.proofs.kind.RoleKind.drops_only_own_sources.Goals as goal

pub returns-in-San : goal.returns-in-San
returns-in-San c = search rules
