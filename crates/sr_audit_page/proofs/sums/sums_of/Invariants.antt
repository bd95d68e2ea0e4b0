use Rattle.std.proofs.Common.{◌≡◌, take}
use Rattle.std.specs.Prelude.{fold}
use Rattle.sr_audit_page.specs.Sums.{no_sums, sums_with}
use Rattle.sr_audit_page.proofs.sums.sums_of.Given as goal

-- the figures of the sources so far
abbrev pub invariant-loop-row : goal.invariant-loop-row
invariant-loop-row l = l.sums ≡ fold sums_with no_sums (take l.row-index l.rows)
