use Rattle.std.proofs.Common.{◌≡◌, ◌-◌, length, inr, refl, sym, ap, ◌∙◌, rules, arith}
use Rattle.sr_capture.specs.Numbers.{word_at}
use Rattle.sr_pcapng.proofs.Blocks.{begun, lacks_rest, block_is, ends_otherwise}
use Rattle.sr_pcapng.proofs.block.take_block.Goals as goal

pub returns-in-Err-clause-fault : goal.returns-in-Err-clause-fault
returns-in-Err-clause-fault g c =
    let t = rw c.in-Some.is at c.in_ok-order.ensures.taken in
    let at : c.len.result ≡ length c.fill.new.kept.items = search (rules, c.len.ensures) in
    lacks_rest c.args.own _ c.take_front.new.block.items c.fill.new.kept.items c.in-Some.order c.in-Some.size _ _ _ t.0 t.1 c.in-Err.ensures.err c.in-Err.ensures.fault at

pub returns-then-word_at-size-clause-fault : goal.returns-then-word_at-size-clause-fault
returns-then-word_at-size-clause-fault g c =
    let t = rw c.in-Some.is at c.in_ok-order.ensures.taken in
    let f = rw c.in-Ok-true.field-0-test at c.in-Ok-true.ensures.taken in
    let tail : c.word_at.result ≡ word_at c.in-Some.order c.fill.new.kept.items (c.in-Some.size - 4) =
    c.word_at.ensures ∙ ap (λ l. word_at c.in-Some.order l (c.in-Some.size - 4)) c.deref.ensures.value in
    inr (
      refl,
      inr (
        c.fill.new.kept.items,
        (begun c.args.own c.take_front.new.block.items _ c.in-Some.order c.in-Some.size _ _ _ t.0 t.1 f.0).lost,
        inr (
          refl,
          ends_otherwise c.args.own c.take_front.new.block.items c.fill.new.kept.items c.in-Some.order c.in-Some.size _ _ _ t.0 t.1 f.0 f.1 (λ e. c.if-word_at-size.true (tail ∙ e)),
        ),
      ),
    )

pub returns-clause-taken : goal.returns-clause-taken
returns-clause-taken g c =
    let t = rw c.in-Some.is at c.in_ok-order.ensures.taken in
    let f = rw c.in-Ok-true.field-0-test at c.in-Ok-true.ensures.taken in
    let tail : c.word_at.result ≡ word_at c.in-Some.order c.fill.new.kept.items (c.in-Some.size - 4) =
    c.word_at.ensures ∙ ap (λ l. word_at c.in-Some.order l (c.in-Some.size - 4)) c.deref.ensures.value in
    let is : c.word_at.result ≡ c.in-Some.size = grind (arith, c.if-word_at-size.false) in (
      (begun c.args.own c.take_front.new.block.items _ c.in-Some.order c.in-Some.size _ _ _ t.0 t.1 f.0).lost,
      block_is c.args.own c.take_front.new.block.items c.fill.new.kept.items c.in-Some.order c.in-Some.size _ _ _ t.0 t.1 f.0 f.1 (sym tail ∙ is),
    )
