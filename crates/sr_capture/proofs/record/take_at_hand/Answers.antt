use Rattle.std.proofs.Common.{◌≡◌, ◌+◌, ◌≤◌, take, drop, subst, refl, arith, rules}
use Rattle.std.specs.Io.BufRead.{FillKeeps}
use Rattle.std.proofs.BufReadLemmas.{Consumes_shown}
use Rattle.sr_capture.specs.TakingLemmas.{loses_consumed}
use Rattle.sr_capture.proofs.Bodies.{record_at_hand}
use Rattle.sr_capture.proofs.record.take_at_hand.Goals as goal

pub returns-clause-taken : goal.returns-clause-taken
returns-clause-taken g c =
    let xs = c.in-Ok.available.now in
    let head = c.in-Some.head in
    let near = c.kept_of-near.result in
    let rested = c.fill_buf.follows.lender-at-none in
    let filled = subst (FillKeeps _ (g.R.Read.remaining rested) (g.R.BufRead.consumable_len rested)) c.in-Ok.is c.fill_buf.follows.holds-at-none in
    let taken = Consumes_shown _ _ _ _ xs (16 + head.held) c.in-Some.ensures.1 c.in-Ok.ensures.front c.in-Ok.ensures.end filled.0 filled.1 c.consume.ensures.bytes in
    let kept : c.extend_from_slice.new.self.items ≡ take near (drop 16 xs) = search rules in
    let all : c.from-packet.result ≤ 1524 → near ≡ c.from-packet.result = λ small. omega (arith, c.kept_of-near.ensures.all (omega (arith, small, c.from-packet.ensures)), c.from-packet.ensures) in
    λ _. record_at_hand c.args.form _ head near xs _ _ (loses_consumed _ _ _ taken.0) c.in-Some.ensures.0 c.in-Some.ensures.1
    (omega (arith, c.from-packet.ensures, c.wanted_of-wanted.ensures)) all refl refl kept refl
