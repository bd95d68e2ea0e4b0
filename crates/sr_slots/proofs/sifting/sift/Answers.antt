use Rattle.std.proofs.Common.{◌≡◌, ◌+◌, ◌∙◌, ap, arith, sym, ◌<◌, refl, length, inl, inr, false, true, rules}
use Rattle.std.proofs.lemmas.Bool.{cases_lt}
use Rattle.std.proofs.lemmas.List.{length-append}
use Rattle.indexmap.proofs.CallerLemmas.{index_map_len-with_value_at}
use Rattle.sr_slots.specs.Places.{entries_of, entries_from}
use Rattle.sr_slots.specs.Calls.{least_rank}
use Rattle.sr_slots.proofs.SiftLemmas.{few, step, step_gone, all_is}
use Rattle.sr_slots.proofs.sifting.sift.Goals.{then-went, else-went}
use Rattle.sr_slots.proofs.sifting.sift.Goals as goal

pub overflow_add-sifted : goal.overflow_add-sifted
overflow_add-sifted g c =
    let s = c.loop-slot.invariant.sifted in
    omega (arith, few _ _ _ _ _ _ _ _ s, c.loop-slot.invariant.small)

pub loop-slot-preserved : goal.loop-slot-preserved
loop-slot-preserved g c =
    let s = c.loop-slot.invariant.sifted in
    let order = g.V.Ranked.rank_of in
    let old = c.args.map.now.entries in
    let now = c.loop-slot.map.entries in
    let within : c.loop-slot.index < length now = c.in-Some.ensures.found.0 refl in
    let was = c.in-Some.slot.now in
    let is = c.sift_at-went.new.slot in
    let there = sym c.in-Some.ensures.value in
    let held = c.sift_at-went.ensures.held in
    let kept = c.sift_at-went.ensures.kept in
    elim c.if-went.branch [
      | then-went w ↦ rw w.sifted-is (record {
        sifted = step_gone _ order old now c.loop-slot.index c.loop-slot.sifted.gone c.loop-slot.sifted.least c.loop-slot.sifted.end s was is there held kept within (c.loop-slot.sifted.gone + 1) c.end_after.result
            (sym c.sift_at-went.ensures.gone ∙ w.if-went.true) refl c.end_after.ensures;
        small = c.loop-slot.invariant.small;
      })
      | else-went w ↦ rw (w.sifted-is, w.min.ensures, c.rank_or_most-rank.ensures) (record {
        sifted = step _ order old now c.loop-slot.index c.loop-slot.sifted.gone c.loop-slot.sifted.least c.loop-slot.sifted.end s was is there held kept within false c.loop-slot.sifted.gone c.end_after.result
            (sym w.if-went.false ∙ c.sift_at-went.ensures.gone) (omega arith) c.end_after.ensures (omega (arith, c.rank_or_most-rank.ensures));
        small = c.loop-slot.invariant.small;
      })
    ]

pub loop-slot-smaller : goal.loop-slot-smaller
loop-slot-smaller g c =
    let within : c.loop-slot.index < length c.loop-slot.map.entries = c.in-Some.ensures.found.0 refl in
    omega (arith, index_map_len-with_value_at c.loop-slot.map c.loop-slot.index c.sift_at-went.new.slot)

pub returns-clause-least : goal.returns-clause-least
returns-clause-least g c =
    let s = c.loop-slot.invariant.sifted in
    let end : c.loop-slot.index ≡ length c.args.map.now.entries =
    elim (cases_lt c.loop-slot.index (length c.loop-slot.map.entries)) [
      | inl within ↦ let bad : false ≡ true = c.in_default.ensures.found.1 within in cc
      | inr over ↦ omega (arith, over, s.at, s.len, ap length s.now_is, length-append s.done s.rest)
    ] in
    s.ranked ∙ ap (λ l. least_rank g.V.Ranked.rank_of (entries_of l)) (all_is _ _ _ _ _ _ _ _ end s)

pub returns-clause-end : goal.returns-clause-end
returns-clause-end g c =
    let s = c.loop-slot.invariant.sifted in
    let end : c.loop-slot.index ≡ length c.args.map.now.entries =
    elim (cases_lt c.loop-slot.index (length c.loop-slot.map.entries)) [
      | inl within ↦ let bad : false ≡ true = c.in_default.ensures.found.1 within in cc
      | inr over ↦ omega (arith, over, s.at, s.len, ap length s.now_is, length-append s.done s.rest)
    ] in
    ap (entries_from c.loop-slot.sifted.end) (sym (all_is _ _ _ _ _ _ _ _ end s)) ∙ s.ends

pub loop-slot-init : goal.loop-slot-init
loop-slot-init g c = search rules
