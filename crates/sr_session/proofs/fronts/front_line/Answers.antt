use Rattle.std.proofs.Common.{arith}
use Rattle.sr_session.proofs.LeftLines.{no_line, one_line}
use Rattle.sr_session.proofs.WaitingTexts.{line_found}
use Rattle.sr_session.proofs.fronts.front_line.Goals as goal

pub returns-in_err-at-clause-only : goal.returns-in_err-at-clause-only
returns-in_err-at-clause-only c line at =
    absurd (no_line c.args.octets.now line c.min.result c.in_err-at.ensures at (omega (arith, at.within, at.short, c.min.ensures)))

pub returns-clause-whole : goal.returns-clause-whole
returns-clause-whole c =
    line_found c.args.octets.now c.min.result c.in_ok-at.at (omega (arith, c.min.ensures)) c.in_ok-at.ensures

pub returns-clause-only : goal.returns-clause-only
returns-clause-only c line at =
    one_line c.args.octets.now _ line (line_found c.args.octets.now c.min.result c.in_ok-at.at (omega (arith, c.min.ensures)) c.in_ok-at.ensures) at
