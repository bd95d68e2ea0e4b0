use Rattle.std.proofs.Common.{rules}
use Rattle.sr_frame.proofs.owned.Frame.copy.Goals as goal

pub invariant_of-result : goal.invariant_of-result
invariant_of-result c = search rules

pub returns-clause-ok : goal.returns-clause-ok
returns-clause-ok c = search rules

pub returns-in_err-octets-clause-short : goal.returns-in_err-octets-clause-short
returns-in_err-octets-clause-short c = search rules

pub returns-in_err-octets-clause-long : goal.returns-in_err-octets-clause-long
returns-in_err-octets-clause-long c = search rules

pub returns-clause-short : goal.returns-clause-short
returns-clause-short c = search rules

pub returns-clause-long : goal.returns-clause-long
returns-clause-long c = search rules
