use Rattle.std.proofs.Common.{◌≡◌, ◌∙◌, sym, ap, arith, Some, take}
use Rattle.sr_streams.specs.Courses.{seat}
use Rattle.sr_streams.specs.Spots.{spot_rank}
use Rattle.sr_streams.proofs.Entering.{kept_there, kept_in}
use Rattle.sr_streams.proofs.numbers.Numbers.enter.Goals as goal

pub returns-then-rank-clause-ok : goal.returns-then-rank-clause-ok
returns-then-rank-clause-ok c spots few keeps =
    let seats : seat (spot_rank c.args.spot) c.args.self.now.recent.items ≡ Some c.in-Some.at = sym (ap (λ r. seat r c.args.self.now.recent.items) c.rank.ensures) ∙ sym c.seat.ensures ∙ c.in-Some.is in
    let same : spot_rank c.index-older.result.now ≡ spot_rank c.args.spot = sym c.rank-2.ensures ∙ c.if-rank.true ∙ c.rank-3.ensures in
    kept_there spots c.args.spot c.index-older.result.now c.in-Some.at c.args.self.now seats c.index-older.ensures same keeps

pub returns-clause-ok : goal.returns-clause-ok
returns-clause-ok c spots few keeps =
    let seats : seat (spot_rank c.args.spot) c.args.self.now.recent.items ≡ Some c.in-Some.at = sym (ap (λ r. seat r c.args.self.now.recent.items) c.rank.ensures) ∙ sym c.seat.ensures ∙ c.in-Some.is in
    let items = c.truncate.ensures.items ∙ ap (take 256) c.in-Ok.ensures.items in
    kept_in spots c.args.spot c.index-older.result.now c.before-newer.result c.in-Some.at c.args.self.now _ seats c.index-older.ensures
    (λ same. c.if-rank.false (c.rank-2.ensures ∙ same ∙ sym c.rank-3.ensures)) c.before-newer.ensures items c.max-self.ensures
    (c.with-self.ensures (omega (arith, keeps.sums.came, few))) keeps
