use Rattle.std.proofs.Common.{◌≡◌, ◌∙◌, ◌+◌, ◌-◌, ◌&&◌, Some, suc, length, take, drop, sym, ap, arith}
use Rattle.sr_dup_table.specs.Widths.{numbers_in}
use Rattle.sr_dup_snapshots.specs.Snapshots.{source_len}
use Rattle.sr_dup_snapshots.specs.Reading.{source_in, sources_in, follows, are_in_order}
use Rattle.sr_dup_snapshots.proofs.ReadLemmas.{order-next, order-none, none-left, left-more}
use Rattle.sr_dup_snapshots.proofs.reading.are_in_order.Goals as goal

pub loop-place-preserved : goal.loop-place-preserved
loop-place-preserved c =
    let w = numbers_in c.args.text.width in
    let rest = c.loop-place.rest.now in
    let count = c.args.text.count in
    let more : count - c.loop-place.place ≡ suc (count - (c.loop-place.place + 1)) = omega (arith, c.loop-place-test.true) in
    let front : c.split_at.result.0.now ≡ take (source_len w) rest = c.split_at.ensures.front ∙ ap (λ n. take n rest) c.source_len-len.ensures.len in
    let back : c.split_at.result.1.now ≡ drop (source_len w) rest = c.split_at.ensures.back ∙ ap (λ n. drop n rest) c.source_len-len.ensures.len in
    record {
      rest = (left-more (source_len w) count c.loop-place.place (length rest) c.loop-place-test.true c.loop-place.invariant.rest).1 (length c.split_at.result.1.now)
          (omega (arith, c.split_at.ensures.back_len, c.source_len-len.ensures.len));
      order =
          (λ i. are_in_order (Some (c.in-Some.ensures.some i)) (sources_in w (count - (c.loop-place.place + 1)) c.split_at.result.1.now))
          ∙ (λ i. are_in_order (Some (source_in w (front i)).0) (sources_in w (count - (c.loop-place.place + 1)) (back i)))
          ∙ (λ i. (c.in-Some.ensures.follows ∙ ap (λ x. follows c.loop-place.last (source_in w x)) front) i && are_in_order (Some (source_in w (take (source_len w) rest)).0) (sources_in w (count - (c.loop-place.place + 1)) (drop (source_len w) rest)))
          ∙ sym (order-next w c.loop-place.last (count - c.loop-place.place) (count - (c.loop-place.place + 1)) rest more)
          ∙ c.loop-place.invariant.order;
    }

pub returns-in_default : goal.returns-in_default
returns-in_default c =
    let w = numbers_in c.args.text.width in
    let rest = c.loop-place.rest.now in
    let last = c.loop-place.last in
    let count = c.args.text.count in
    let next = count - (c.loop-place.place + 1) in
    let more : count - c.loop-place.place ≡ suc next = omega (arith, c.loop-place-test.true) in
    let front : c.split_at.result.0.now ≡ take (source_len w) rest = c.split_at.ensures.front ∙ ap (λ n. take n rest) c.source_len-len.ensures.len in
    (λ i. (c.in_default.ensures.follows ∙ ap (λ x. follows last (source_in w x)) front) i
    && are_in_order (Some (source_in w (take (source_len w) rest)).0) (sources_in w next (drop (source_len w) rest)))
    ∙ sym (order-next w last (count - c.loop-place.place) next rest more)
    ∙ c.loop-place.invariant.order

pub returns : goal.returns
returns c =
    let w = numbers_in c.args.text.width in
    let left : c.args.text.count - c.loop-place.place ≡ 0 = omega (arith, c.loop-place-test.false) in
    sym (ap (are_in_order c.loop-place.last) (ap (λ n. sources_in w n c.loop-place.rest.now) left ∙ none-left w c.loop-place.rest.now) ∙ order-none c.loop-place.last)
    ∙ c.loop-place.invariant.order
