use Rattle.std.proofs.Common.{◌≡◌, take}
use Rattle.std.specs.Prelude.{fold}
use Rattle.sr_audit_page.specs.Grounds.{no_grounds, grounds_with}
use Rattle.sr_audit_page.proofs.grounds.grounds_of.Given as goal

-- what the verdicts so far say is wrong
abbrev pub invariant-loop-verdict : goal.invariant-loop-verdict
invariant-loop-verdict l = l.own ≡ fold grounds_with no_grounds (take l.verdict-index l.verdicts)
