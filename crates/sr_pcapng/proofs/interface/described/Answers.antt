use Rattle.std.proofs.Common.{rules}
use Rattle.sr_pcapng.proofs.interface.described.Goals as goal

pub returns-then-link-ne-ETHERNET-clause-refused : goal.returns-then-link-ne-ETHERNET-clause-refused
returns-then-link-ne-ETHERNET-clause-refused c = search rules

pub returns-in-Some-clause-read : goal.returns-in-Some-clause-read
returns-in-Some-clause-read c = search rules

pub returns-in-None-clause-refused : goal.returns-in-None-clause-refused
returns-in-None-clause-refused c = search rules

pub returns-in-Only-Some-clause-refused : goal.returns-in-Only-Some-clause-refused
returns-in-Only-Some-clause-refused c = search rules
