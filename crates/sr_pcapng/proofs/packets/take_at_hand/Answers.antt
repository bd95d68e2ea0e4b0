use Rattle.std.proofs.Common.{◌≡◌, ℕ, List, [], ◌∷◌, length, sym, subst, refl}
use Rattle.std.specs.Io.BufRead.{FillKeeps}
use Rattle.std.proofs.BufReadLemmas.{Consumes_shown}
use Rattle.sr_capture.specs.Taking.{Loses}
use Rattle.sr_capture.specs.TakingLemmas.{loses_consumed}
use Rattle.sr_pcapng.specs.PacketBlocks.{InEnhanced}
use Rattle.sr_pcapng.proofs.Steps.{step_at_hand}
use Rattle.sr_pcapng.proofs.packets.take_at_hand.Goals as goal

pub returns-in-Ok-true-clause-taken : goal.returns-in-Ok-true-clause-taken
returns-in-Ok-true-clause-taken g c =
    let xs = c.in-Ok.available.now in
    let block = c.in-Some-enhanced_at_hand.block.now in
    let hand = c.in-Some-enhanced_at_hand.ensures in
    let rested = c.fill_buf.follows.lender-at-none in
    let filled = subst (FillKeeps _ (g.R.Read.remaining rested) (g.R.BufRead.consumable_len rested)) c.in-Ok.is c.fill_buf.follows.holds-at-none in
    let taken = Consumes_shown _ _ _ _ xs (length block) hand.whole c.in-Ok.ensures.front c.in-Ok.ensures.end filled.0 filled.1 c.consume.ensures.bytes in
    let lost = subst (λ (l : List ℕ). Loses l (g.R.Read.remaining c.args.reader.now) (g.R.Read.remaining c.consume.new.self)) (sym hand.front) (loses_consumed _ _ _ taken.0) in
    let given = rw c.in-Ok-true.field-0-test at c.in-Ok-true.ensures.read in
    let inside = subst (InEnhanced c.args.track.now.wanted c.in-Some.section block) given.2.1 given.1 in
    (block, refl, lost, (given.2.0, step_at_hand c.args.track.now c.in-Some.section block (given.2.0 ∷ []) c.in-Some.is hand.is hand.packet inside, given.2.2))

pub returns-in-Ok-false-clause-taken : goal.returns-in-Ok-false-clause-taken
returns-in-Ok-false-clause-taken g c =
    let xs = c.in-Ok.available.now in
    let block = c.in-Some-enhanced_at_hand.block.now in
    let hand = c.in-Some-enhanced_at_hand.ensures in
    let rested = c.fill_buf.follows.lender-at-none in
    let filled = subst (FillKeeps _ (g.R.Read.remaining rested) (g.R.BufRead.consumable_len rested)) c.in-Ok.is c.fill_buf.follows.holds-at-none in
    let taken = Consumes_shown _ _ _ _ xs (length block) hand.whole c.in-Ok.ensures.front c.in-Ok.ensures.end filled.0 filled.1 c.consume-in-Ok-false.ensures.bytes in
    let lost = subst (λ (l : List ℕ). Loses l (g.R.Read.remaining c.args.reader.now) (g.R.Read.remaining c.consume-in-Ok-false.new.self)) (sym hand.front) (loses_consumed _ _ _ taken.0) in
    let given = rw c.in-Ok-false.field-0-test at c.in-Ok-false.ensures.read in
    let inside = subst (InEnhanced c.args.track.now.wanted c.in-Some.section block) given.2 given.1 in
    (block, refl, lost, step_at_hand c.args.track.now c.in-Some.section block [] c.in-Some.is hand.is hand.packet inside)
