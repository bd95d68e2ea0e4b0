use Rattle.std.proofs.Common.{rules}
use Rattle.sr_pcapng.proofs.reading.read_section.Goals as goal

pub returns-clause-read : goal.returns-clause-read
returns-clause-read c = search rules

pub returns-then-half_at-ne-VERSION-clause-refused : goal.returns-then-half_at-ne-VERSION-clause-refused
returns-then-half_at-ne-VERSION-clause-refused c = search rules
