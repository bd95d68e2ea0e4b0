-- What is written in a run, and in a steady one.
use Rattle.std.proofs.Common.{
  ◌≡◌,
  ℕ,
  ◌/◌,
  ◌≤◌,
  Bool,
  true,
  false,
  cond,
  not,
  ◌&&◌,
  List,
  [],
  ◌∷◌,
  ◌++◌,
  Option,
  None,
  Some,
  ℤ,
  refl,
  sym,
  ap,
  ◌∙◌,
  subst,
  ◌⊎◌,
  inl,
  inr,
}
use Rattle.std.specs.Prelude.{map, ◌||◌}
use Rattle.std.specs.List.{list_any}
use Rattle.std.proofs.lemmas.List.{append_assoc}
use Rattle.sr_frame.specs.declared.fields.Mac.{Mac}
use Rattle.sr_dup_window.specs.declared.lane_sets.Lane.TheVariants.{H}
use Rattle.sr_dup_window.specs.declared.lane_sets.Lanes.{Lanes}
use Rattle.sr_dup_window.specs.LaneSets.{has, only}
use Rattle.sr_dup_table.specs.Limits.{window}
use Rattle.sr_dup_table.specs.Sources.{Sources, arrive_answer, after_arrive}
use Rattle.sr_dup_table.specs.Ageing.{left_by}
use Rattle.sr_laws_dup.specs.TableRuns.{
  Arrival,
  Noting,
  TableTurn,
  arrived,
  is_copy,
  was_noted,
  notings_of,
  arrivals_of,
  latest,
  Takes,
  TableRun,
  AreInOrder,
  AreSteady,
}
use Rattle.sr_laws_dup.specs.RunLemmas.{each_pair_is_new_once}
use Rattle.sr_merge.specs.declared.came.FrameId.{FrameId}
use Rattle.sr_merge.specs.Limits.{record_step}
use Rattle.sr_merge.specs.Merging.{Merging, shown_arrival, answer_for, is_new_by, is_new, sources_told}
use Rattle.sr_merge.specs.MergeRuns.{Numbered, IsNumber, HasWhole, MergeTurn, took, wrote, MergeRun, reads, written_in, packets_in, arrival_as, arrivals_read, is_first, firsts, newest_arrival, AreInTime, EachFrameIsWrittenOnce, known_after, news, WhatIsNewIsWritten}
use Rattle.sr_merge.specs.WaitingLemmas.{waits_list}

-- what is written in every run
pub what_is_new_is_written : WhatIsNewIsWritten
what_is_new_is_written [] m run = (run.0, ap packets_in run.1)
what_is_new_is_written (wrote w ∷ before) m (old, run, (sources, list)) =
    let e = what_is_new_is_written before old run in (
      sources ∙ e.0,
      append_assoc (written_in before) (w.packet ∷ []) (packets_in m.waiting)
          ∙ ap (λ l. written_in before ++ l) (sym (ap packets_in list))
          ∙ e.1,
    )
what_is_new_is_written (took x ∷ before) m (old, run, (named, taken)) =
    let e = what_is_new_is_written before old run in
    let time = x.packet.came.time in
    let frame = x.packet.came.frame in (
      taken.sources ∙ ap (λ s. sources_told s time frame) e.0,
      ap (λ l. written_in before ++ l) (ap packets_in taken.waiting ∙ waits_list (is_new old.sources time frame) x.packet old.waiting)
          ∙ sym (append_assoc (written_in before) (packets_in old.waiting) (cond (is_new old.sources time frame) (x.packet ∷ []) []))
          ∙ ap (λ l. l ++ cond (is_new old.sources time frame) (x.packet ∷ []) []) e.1
          ∙ ap (λ s. news (reads before) ++ cond (is_new s time frame) (x.packet ∷ []) []) e.0,
    )

-- an arrival as the record notes it
abbrev noting : Arrival → Noting
noting a = record { arrival = a; lanes = only H }

-- a packet is none to the record
abbrev IsQuiet : Sources → ℕ → Option FrameId → Option ℤ → Type 0
IsQuiet s time frame whole =
    (arrival_as time frame whole ≡ []) × (sources_told s time frame ≡ s) × (is_new s time frame ≡ true)

-- or it is an arrival that the record answers
abbrev IsTold : Sources → ℕ → Option FrameId → Option ℤ → Type 0
IsTold s time frame whole = (a : Arrival) × (fresh : Lanes) × (arrival_as time frame whole ≡ a ∷ [])
    × Takes window s (arrived (noting a) fresh) (sources_told s time frame)
    × (is_new s time frame ≡ has fresh H)

quiet_or_told : (s : Sources) (time : ℕ) (frame : Option FrameId) (whole : Option ℤ) → HasWhole s time frame whole →
    IsQuiet s time frame whole ⊎ IsTold s time frame whole
quiet_or_told s time None whole h = inl (refl, refl, refl)
quiet_or_told s time (Some f) whole h = by (answer_for s f time) refl h
  where
    by : (o : Option Lanes) → answer_for s f time ≡ o → IsNumber f o whole →
        IsQuiet s time (Some f) whole ⊎ IsTold s time (Some f) whole
    by None is e = inl (
      ap (arrival_as time (Some f)) e,
      ap (λ o. left_by window o s (shown_arrival f time)) is,
      ap is_new_by is,
    )
    by (Some fresh) is (n, e, seq) = inr (
      record { src = f.src; number = n; time = time / record_step },
      fresh,
      ap (arrival_as time (Some f)) e,
      (
        refl,
        ap (λ q. arrive_answer window s f.src q (only H) (time / record_step)) (sym seq) ∙ is,
        ap (λ o. left_by window o s (shown_arrival f time)) is
            ∙ ap (λ q. after_arrive window s f.src q (only H) (time / record_step)) seq,
      ),
      ap is_new_by is,
    )

-- the record's own run
record Follows (xs : List Numbered) : Type 0 where
  turns : List TableTurn
  run : TableRun window [] turns (known_after xs)
  notings : notings_of [] turns ≡ map noting (arrivals_read xs)
  late : latest 0 turns ≡ newest_arrival (arrivals_read xs)
  order : AreInTime (arrivals_read xs) → AreInOrder 0 turns

follows : (turns : List MergeTurn) (m : Merging) → MergeRun turns m → Follows (reads turns)
follows [] m run = record { turns = []; run = refl; notings = refl; late = refl; order = λ h. h }
follows (wrote w ∷ before) m (old, run, rest) = follows before old run
follows (took x ∷ before) m (old, run, (named, taken)) =
    let time = x.packet.came.time in
    let frame = x.packet.came.frame in
    let f = follows before old run in
    let same = (what_is_new_is_written before old run).0 in
    elim (quiet_or_told (known_after (reads before)) time frame x.whole (subst (λ s. HasWhole s time frame x.whole) same named)) [
      | inl (none, sources, new) ↦ record {
        turns = f.turns;
        run = subst (TableRun window [] f.turns) (sym sources) f.run;
        notings = f.notings ∙ ap (λ l. map noting (l ++ arrivals_read (reads before))) (sym none);
        late = f.late ∙ ap (λ l. newest_arrival (l ++ arrivals_read (reads before))) (sym none);
        order = λ h. f.order (subst (λ l. AreInTime (l ++ arrivals_read (reads before))) none h);
      }
      | inr (a, fresh, one, takes, new) ↦ record {
        turns = arrived (noting a) fresh ∷ f.turns;
        run = (known_after (reads before), f.run, takes);
        notings = ap (λ l. noting a ∷ l) f.notings ∙ ap (λ l. map noting (l ++ arrivals_read (reads before))) (sym one);
        late = ap (λ l. newest_arrival (l ++ arrivals_read (reads before))) (sym one);
        order = λ h.
            let k = subst (λ l. AreInTime (l ++ arrivals_read (reads before))) one h in
            (f.order k.0, subst (λ t. t ≤ a.time) (sym f.late) k.1);
      }
    ]

-- on the lane of what is written, a copy was noted where one came
noted_came : (src : Mac) (n : ℤ) (xs : List Arrival) → was_noted src n H (map noting xs) ≡ list_any (is_copy src n) xs
noted_came src n [] = refl
noted_came src n (a ∷ xs) = by (is_copy src n a) (noted_came src n xs)
  where
    by : (b : Bool) → was_noted src n H (map noting xs) ≡ list_any (is_copy src n) xs →
        ((b && true) || was_noted src n H (map noting xs)) ≡ (b || list_any (is_copy src n) xs)
    by true h = refl
    by false h = h

arrivals_noted : (xs : List Arrival) → arrivals_of (map noting xs) ≡ xs
arrivals_noted [] = refl
arrivals_noted (a ∷ xs) = ap (λ l. a ∷ l) (arrivals_noted xs)

-- in a steady run the record answers as new what is the first copy of its frame
new_firsts : (turns : List MergeTurn) (m : Merging) → MergeRun turns m → AreInTime (arrivals_read (reads turns)) →
    AreSteady window (arrivals_read (reads turns)) → news (reads turns) ≡ firsts (reads turns)
new_firsts [] m run order steady = refl
new_firsts (wrote w ∷ before) m (old, run, rest) order steady = new_firsts before old run order steady
new_firsts (took x ∷ before) m (old, run, (named, taken)) order steady =
    let time = x.packet.came.time in
    let frame = x.packet.came.frame in
    let xs = arrivals_read (reads before) in
    let f = follows before old run in
    let same = (what_is_new_is_written before old run).0 in
    elim (quiet_or_told (known_after (reads before)) time frame x.whole (subst (λ s. HasWhole s time frame x.whole) same named)) [
      | inl (none, sources, new) ↦
          let ih = new_firsts before old run (subst (λ l. AreInTime (l ++ xs)) none order) (subst (λ l. AreSteady window (l ++ xs)) none steady) in
          ap (λ l. l ++ cond (is_new (known_after (reads before)) time frame) (x.packet ∷ []) []) ih
          ∙ ap (λ b. firsts (reads before) ++ cond b (x.packet ∷ []) []) (new ∙ ap (is_first xs) (sym none))
      | inr (a, fresh, one, takes, new) ↦
          let o = subst (λ l. AreInTime (l ++ xs)) one order in
          let s = subst (λ l. AreSteady window (l ++ xs)) one steady in
          let ih = new_firsts before old run o.0 s.0 in
          let all = ap arrivals_of f.notings ∙ arrivals_noted xs in
          let once = each_pair_is_new_once window (inl refl) (noting a) fresh f.turns (sources_told (known_after (reads before)) time frame) H
          (known_after (reads before), f.run, takes) (
            (f.order o.0, subst (λ t. t ≤ a.time) (sym f.late) o.1),
            subst (λ l. AreSteady window (a ∷ l)) (sym all) s,
          ) in
          let first = once ∙ ap (λ l. not (was_noted a.src a.number H l)) f.notings ∙ ap not (noted_came a.src a.number xs) in
          ap (λ l. l ++ cond (is_new (known_after (reads before)) time frame) (x.packet ∷ []) []) ih
          ∙ ap (λ b. firsts (reads before) ++ cond b (x.packet ∷ []) []) (new ∙ first ∙ ap (is_first xs) (sym one))
    ]

pub each_frame_is_written_once : EachFrameIsWrittenOnce
each_frame_is_written_once turns m run order steady =
    (what_is_new_is_written turns m run).1 ∙ new_firsts turns m run order steady
