use Rattle.std.proofs.Common.{take_all, subst, arith}
use Rattle.sr_session.specs.Octets.{Lacks}
use Rattle.sr_session.specs.OctetLemmas.{Lacks-more}
use Rattle.sr_words.proofs.words.near_place_of.Goals as goal

pub loop-at-preserved : goal.loop-at-preserved
loop-at-preserved c = Lacks-more c.args.octet c.args.octets.now c.loop-at.at c.loop-at-test.true c.if-octets-at.false c.loop-at.invariant

pub returns : goal.returns
returns c = subst (Lacks c.args.octet) (take_all c.loop-at.at c.args.octets.now (omega arith)) c.loop-at.invariant
