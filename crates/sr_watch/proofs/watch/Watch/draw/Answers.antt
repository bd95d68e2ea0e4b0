use Rattle.std.proofs.Common.{rules, ◌≡◌, None, arith}
use Rattle.sr_watch.proofs.FollowLemmas.{drawn, over, no_more}
use Rattle.sr_watch.proofs.watch.Watch.draw.Goals as goal

pub returns-then-is_none-clause-goes : goal.returns-then-is_none-clause-goes
returns-then-is_none-clause-goes c =
    let free : c.args.self.now.next ≡ None = search rules in
    drawn c.args.self.now c.release.result c.release.new.self c.next_from-self.result free c.release.ensures.next c.release.ensures.rest
    c.next_from-self.ensures

pub returns-then-is_none-clause-over : goal.returns-then-is_none-clause-over
returns-then-is_none-clause-over c =
    over c.release.result c.next_from-self.result c.args.self.now.hold c.release.new.self c.release.ensures.next c.release.ensures.rest
    c.next_from-self.ensures

pub returns-then-is_none-clause-left : goal.returns-then-is_none-clause-left
returns-then-is_none-clause-left c =
    let more = no_more c.release.result c.next_from-self.result c.args.self.now.hold c.release.new.self c.release.ensures.next
    c.release.ensures.rest c.next_from-self.ensures in
    omega (arith, more)
