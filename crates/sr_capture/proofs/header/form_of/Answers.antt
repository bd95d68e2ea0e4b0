use Rattle.std.proofs.Common.{rules}
use Rattle.sr_capture.proofs.header.form_of.Goals as goal

pub returns-then-link-ne-ETHERNET-clause-refused : goal.returns-then-link-ne-ETHERNET-clause-refused
returns-then-link-ne-ETHERNET-clause-refused c = search rules

pub returns-clause-found : goal.returns-clause-found
returns-clause-found c = search rules
