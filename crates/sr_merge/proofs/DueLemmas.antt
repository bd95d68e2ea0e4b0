-- What is due is written, in runs whose turns are on time.
use Rattle.std.proofs.Common.{
  ◌≡◌,
  ℕ,
  ◌+◌,
  ◌-◌,
  ◌<◌,
  ◌≤◌,
  Bool,
  true,
  false,
  cond,
  not,
  List,
  [],
  ◌∷◌,
  ◌++◌,
  length,
  Option,
  None,
  Some,
  refl,
  sym,
  ap,
  ◌∙◌,
  subst,
  arith,
  inl,
  inr,
}
use Rattle.std.specs.Prelude.{◌||◌, nat_lt, is_some}
use Rattle.std.proofs.lemmas.Bool.Decides.{nat_tests}
use Rattle.std.proofs.lemmas.List.{append_assoc, append-nil, map_push, length-map, map-append}
use Rattle.sr_merge.specs.declared.waiting.Verdict.{Verdict}
use Rattle.sr_merge.specs.Limits.{copy_time, most_held}
use Rattle.sr_merge.specs.Merging.{Read, Pending, Merging, verdict_of, is_new, waiting_behind, sources_told}
use Rattle.sr_merge.specs.MergeRuns.{MergeTurn, took, wrote, MergeRun, reads, written_in, packets_in}
use Rattle.sr_merge.specs.Verdicts.{kept_of_all, in_order, AllBy}
use Rattle.sr_merge.specs.VerdictLemmas.{with_all_more, taken_behind, all_later, all_more, none_early}
use Rattle.sr_merge.specs.WaitingLemmas.{packets_meet, waits_list}
use Rattle.sr_merge.specs.Due.{is_first_due, due, TimelyRun, last_came, ComeInOrder, AreYoung, WhatIsDueIsWritten, AllIsWrittenAtTheEnd}
use Rattle.sr_merge.proofs.RunLemmas.{what_is_new_is_written, each_frame_is_written_once}

-- a run on time is a run
run_of : (turns : List MergeTurn) (m : Merging) → TimelyRun turns m → MergeRun turns m
run_of [] m run = run
run_of (turn ∷ before) m (old, run, goes, on_time) = (old, run_of before old run, goes)

-- what was written, as it would stand if nothing had been
record IsBehind (turns : List MergeTurn) (m : Merging) : Type 0 where
  gone : List Pending
  sources : (kept_of_all (in_order (reads turns))).sources ≡ m.sources
  waiting : (kept_of_all (in_order (reads turns))).waiting ≡ gone ++ m.waiting
  wrote : packets_in gone ≡ written_in turns

is_behind : (turns : List MergeTurn) (m : Merging) → MergeRun turns m → IsBehind turns m
is_behind [] m run = record { gone = []; sources = sym run.0; waiting = sym run.1; wrote = refl }
is_behind (wrote w ∷ before) m (old, run, (sources, list)) =
    let h = is_behind before old run in
    record {
      gone = h.gone ++ w ∷ [];
      sources = h.sources ∙ sym sources;
      waiting = h.waiting ∙ ap (λ l. h.gone ++ l) list ∙ sym (append_assoc h.gone (w ∷ []) m.waiting);
      wrote = map_push (λ v. v.packet) h.gone w ∙ ap (λ l. l ++ w.packet ∷ []) h.wrote;
    }
is_behind (took x ∷ before) m (old, run, (named, taken)) =
    let h = is_behind before old run in
    let time = x.packet.came.time in
    let frame = x.packet.came.frame in
    let fresh = is_new old.sources time frame in
    let e = with_all_more (record { sources = []; waiting = []; untold = 0 }) (in_order (reads before)) x.packet in
    let split = taken_behind fresh x.packet h.gone old.waiting in
    record {
      gone = split.0;
      sources = ap (λ k. k.sources) e ∙ ap (λ s. sources_told s time frame) h.sources ∙ sym taken.sources;
      waiting = ap (λ k. k.waiting) e
          ∙ ap (λ s. waiting_behind (is_new s time frame) x.packet (kept_of_all (in_order (reads before))).waiting) h.sources
          ∙ ap (waiting_behind fresh x.packet) h.waiting
          ∙ split.1
          ∙ ap (λ l. split.0 ++ l) (sym taken.waiting);
      wrote = elim split.2 [
        | inl same ↦ ap packets_in same ∙ h.wrote
        | inr (at, same) ↦ ap packets_in same ∙ packets_meet time at h.gone ∙ h.wrote
      ];
    }

-- where nothing is due of those that wait, what is due is among those that are gone
due_gone : (now : ℕ) (gone ws : List Pending) → due now ws ≡ [] → (rest : List Pending) × (gone ≡ due now (gone ++ ws) ++ rest)
due_gone now [] ws none = ([], sym (append-nil (due now ws) ∙ none))
due_gone now (g ∷ gs) ws none = by (is_first_due now g (gs ++ ws)) (due_gone now gs ws none)
  where
    by : (b : Bool) → ((rest : List Pending) × (gs ≡ due now (gs ++ ws) ++ rest)) →
        (rest : List Pending) × (g ∷ gs ≡ cond b (g ∷ due now (gs ++ ws)) [] ++ rest)
    by true ih = (ih.0, ap (λ l. g ∷ l) ih.1)
    by false ih = (g ∷ gs, refl)

-- packets in the order of their times, none before a time
abbrev Rising : ℕ → List Read → Type 0
Rising since [] = Unit {0}
Rising since (p ∷ ps) = (since ≤ p.came.time) × Rising p.came.time ps

rising_one : (since now : ℕ) (ps : List Read) (p : Read) → since ≤ now → now ≤ p.came.time → Rising since ps → AllBy now ps →
    Rising since (ps ++ p ∷ [])
rising_one since now [] p le later h all = (omega (arith, le, later), tt)
rising_one since now (q ∷ qs) p le later h all = (h.0, rising_one q.came.time now qs p all.0 later h.1 all.1)

rising_more : (new : Bool) (now : ℕ) (ps : List Read) (p : Read) → now ≤ p.came.time → Rising 0 ps → AllBy now ps →
    Rising 0 (ps ++ cond new (p ∷ []) [])
rising_more true now ps p later h all = rising_one 0 now ps p (omega arith) later h all
rising_more false now ps p later h all = subst (Rising 0) (sym (append-nil ps)) h

by_more : (new : Bool) (now : ℕ) (ps : List Read) (p : Read) → now ≤ p.came.time → AllBy now ps →
    AllBy p.came.time (ps ++ cond new (p ∷ []) [])
by_more true now ps p later all =
    let le : p.came.time ≤ p.came.time = omega arith in
    all_more p.came.time ps (p ∷ []) (all_later now p.came.time ps later all) (le, tt)
by_more false now ps p later all = all_more p.came.time ps [] (all_later now p.came.time ps later all) tt

rising_rest : (since : ℕ) (p : Read) (ps : List Read) → Rising since (p ∷ ps) → Rising 0 ps
rising_rest since p [] h = tt
rising_rest since p (q ∷ qs) h = (omega arith, h.1.1)

-- so are those that wait
wait_in_order : (turns : List MergeTurn) (m : Merging) → MergeRun turns m → ComeInOrder (reads turns) →
    Rising 0 (packets_in m.waiting) × AllBy (last_came (reads turns)) (packets_in m.waiting)
wait_in_order [] m run order =
    (subst (λ l. Rising 0 (packets_in l)) (sym run.1) tt, subst (λ l. AllBy 0 (packets_in l)) (sym run.1) tt)
wait_in_order (wrote w ∷ before) m (old, run, (sources, list)) order =
    let h = wait_in_order before old run order in
    let rising = subst (λ l. Rising 0 (packets_in l)) list h.0 in
    let all = subst (λ l. AllBy (last_came (reads before)) (packets_in l)) list h.1 in
    (rising_rest 0 w.packet (packets_in m.waiting) rising, all.1)
wait_in_order (took x ∷ before) m (old, run, (named, taken)) order =
    let h = wait_in_order before old run order.0 in
    let fresh = is_new old.sources x.packet.came.time x.packet.came.frame in
    let e = ap packets_in taken.waiting ∙ waits_list fresh x.packet old.waiting in (
      subst (Rising 0) (sym e) (rising_more fresh (last_came (reads before)) (packets_in old.waiting) x.packet order.1 h.0 h.1),
      subst (AllBy x.packet.came.time) (sym e)
          (by_more fresh (last_came (reads before)) (packets_in old.waiting) x.packet order.1 h.1),
    )

-- where the first is not due, it came less than 400 ms before, and so did those behind it
verdict_none : (o : Option Verdict) → is_some o ≡ false → o ≡ None
verdict_none None h = refl
verdict_none (Some v) h = cc

young_behind : (now early : ℕ) (ps : List Read) → now - early < copy_time → Rising early ps → AreYoung now ps
young_behind now early [] h rising = tt
young_behind now early (p ∷ ps) h rising =
    let le = rising.0 in
    let own : now - p.came.time < copy_time = omega (arith, h, le) in
    (own, young_behind now p.came.time ps own rising.1)

or_left : (a b : Bool) → (a || b) ≡ false → a ≡ false
or_left false b h = refl
or_left true b h = cc

or_right : (a b : Bool) → (a || b) ≡ false → b ≡ false
or_right false b h = h
or_right true b h = cc

undue : (now : ℕ) (w : Pending) (ws : List Pending) → due now (w ∷ ws) ≡ [] → is_first_due now w ws ≡ false
undue now w ws h = by (is_first_due now w ws) h
  where
    by : (b : Bool) → cond b (w ∷ due now ws) [] ≡ [] → b ≡ false
    by true e = cc
    by false e = refl

early_is : (now own : ℕ) → nat_lt (now - own) copy_time ≡ true → now - own < copy_time
early_is now own h = grind (arith, nat_tests)

few_is : (count : ℕ) → not (nat_lt (count + 1) most_held) ≡ false → count + 1 < most_held
few_is count h = grind (arith, nat_tests)

left_young : (now : ℕ) (ws : List Pending) → due now ws ≡ [] → Rising 0 (packets_in ws) → AreYoung now (packets_in ws)
left_young now [] none rising = tt
left_young now (w ∷ ws) none rising =
    let no = undue now w ws none in
    let own = early_is now w.packet.came.time (none_early now w
    (verdict_none (verdict_of now w) (or_left (is_some (verdict_of now w)) (not (nat_lt (length ws + 1) most_held)) no))) in
    (own, young_behind now w.packet.came.time (packets_in ws) own rising.1)

left_few : (now : ℕ) (ws : List Pending) → due now ws ≡ [] → length (packets_in ws) < most_held
left_few now [] none = omega arith
left_few now (w ∷ ws) none =
    let few : length ws + 1 < most_held =
    few_is (length ws) (or_right (is_some (verdict_of now w)) (not (nat_lt (length ws + 1) most_held)) (undue now w ws none)) in
    let same = length-map (w ∷ ws) (λ v. v.packet) in
    omega (arith, few, same)

-- what is due was written
pub what_is_due_is_written : WhatIsDueIsWritten
what_is_due_is_written turns x m (old, run, goes, none) order =
    let now = x.packet.came.time in
    let plain = run_of turns old run in
    let h = is_behind turns old plain in
    let split = due_gone now h.gone old.waiting none in
    let sorted = wait_in_order turns old plain order.0 in
    record {
      early = packets_in split.0;
      due = sym h.wrote
          ∙ ap packets_in split.1
          ∙ map-append (λ v. v.packet) (due now (h.gone ++ old.waiting)) split.0
          ∙ ap (λ l. packets_in (due now l) ++ packets_in split.0) (sym h.waiting);
      left = packets_in old.waiting;
      all = (what_is_new_is_written turns old plain).1;
      young = left_young now old.waiting none sorted.0;
      few = left_few now old.waiting none;
    }

pub all_is_written_at_the_end : AllIsWrittenAtTheEnd
all_is_written_at_the_end turns m run none =
    let plain = run_of turns m run in
    let front : written_in turns ≡ written_in turns ++ packets_in m.waiting =
    sym (append-nil (written_in turns)) ∙ ap (λ l. written_in turns ++ packets_in l) (sym none) in (
      front ∙ (what_is_new_is_written turns m plain).1,
      λ order steady. front ∙ each_frame_is_written_once turns m plain order steady,
    )
