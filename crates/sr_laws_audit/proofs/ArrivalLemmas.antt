-- All lines of a source, with one arrival more, and at its end.
use Rattle.std.proofs.Common.{◌≡◌, ℕ, ◌+◌, ◌-◌, ◌%◌, ◌<◌, ◌≤◌, ◌⊎◌, Bool, true, false, cond, List, [], ◌∷◌, ℤ, pos, arith, refl, sym, ap, ◌∙◌, subst, inl, inr}
use Rattle.std.specs.Prelude.{sum_by, nat_lt, ◌+ℤ◌, ◌-ℤ◌}
use Rattle.std.proofs.lemmas.Bool.{cases_Bool, cases_lt, lt-ltb, le-ltb, lt-leb, le-leb}
use Rattle.std.proofs.lemmas.List.Sums.{sum_by-append}
use Rattle.sr_frame.specs.declared.fields.Mac.{Mac}
use Rattle.sr_sequence.specs.Numbers.{wire}
use Rattle.sr_sequence.specs.NumberLemmas.{wire-lt}
use Rattle.sr_sequence.specs.Places.{number_at, steps, IsTheOne}
use Rattle.sr_sequence.specs.declared.Distance.{Distance}
use Rattle.sr_sequence.specs.declared.Distance.TheVariants.{Behind, Ahead}
use Rattle.sr_audit.specs.declared.arrival.Arrival.{Arrival}
use Rattle.sr_audit.specs.declared.listing.Copied.{Copied}
use Rattle.sr_audit.specs.declared.listing.Listed.{Listed}
use Rattle.sr_audit.specs.declared.pending.Pending.{Pending}
use Rattle.sr_audit.specs.declared.span.Spans.{Spans}
use Rattle.sr_audit.specs.Edges.{KeepsTimes}
use Rattle.sr_audit.specs.Fates.{KeepsFates}
use Rattle.sr_audit.specs.Limits.{kept_numbers, epoch_gap}
use Rattle.sr_audit.specs.Listings.{waiting, KeepsPlaces, IsKeptAs, MovesTo, ListsDecided, ListsWaiting, TakesCopy, ListsArrival, ListsEnd}
use Rattle.sr_audit.specs.Looks.{step_to, came_by, by_neither}
use Rattle.sr_audit.specs.Stretches.{Placed, copy_as, top_number, lies_from, goes_to, stretch_begun, current, with_arrival}
use Rattle.sr_audit.proofs.FollowLemmas.{number_is}
use Rattle.sr_laws_audit.specs.Lists.{all_lines}
use Rattle.sr_laws_audit.proofs.TotalLemmas.{total}
use Rattle.sr_laws_audit.proofs.LineLemmas.{KeepsLines, waits}
use Rattle.sr_laws_audit.proofs.StepLemmas.{KeepsStretch, TellsLines, waiting_total}
use Rattle.sr_laws_audit.proofs.GoneLemmas.{behind_told}
use Rattle.sr_laws_audit.proofs.AheadLemmas.{takes_none, ahead_told, begun_told}

-- all that waits was listed
ends_sums : (was now listed waits lines more all : ℕ) → now ≡ was + listed → listed ≡ waits → now ≡ was + more → lines + waits ≡ all →
    lines + more ≡ all
ends_sums was now listed waits lines more all a b c d = omega (arith, a, b, c, d)

pub waiting_told : (spans : Spans) (src : Mac) (f : Listed → ℕ) (z : Placed) (before : List Placed) (rest : List (List Placed))
    (copies : List Copied) (p : Pending) (list after : List Listed) (lines more : ℕ) → KeepsStretch (z ∷ before) copies p →
    ListsWaiting spans p src (wire (top_number (z ∷ before))) list after → sum_by f after ≡ sum_by f list + more →
    lines + total (waits spans src f (z ∷ before) copies) (top_number (z ∷ before) -ℤ pos 1023) 1024
    ≡ sum_by f (all_lines spans src ((z ∷ before) ∷ rest) copies) →
    lines + more ≡ sum_by f (all_lines spans src ((z ∷ before) ∷ rest) copies)
waiting_told spans src f z before rest copies p list after lines more keeps lists sums told_all =
    ends_sums (sum_by f list) (sum_by f after) (sum_by f (waiting spans p src (wire (top_number s)) lists.count))
    (total (waits spans src f s copies) (top_number s -ℤ pos 1023) 1024) lines more _
    (ap (sum_by f) lists.listed ∙ sum_by-append f list (waiting spans p src (wire (top_number s)) lists.count))
    (waiting_total spans src f z before copies p lists.count (omega (arith, lists.all)) keeps
    ∙ ap (total (waits spans src f s copies) (top_number s -ℤ pos 1023)) lists.all)
    sums told_all
  where
    s : List Placed
    s = z ∷ before

-- what is kept stays where the room is made
kept_same : (z : Placed) (before : List Placed) (copies : List Copied) (old at : Pending) → ((seq : ℕ) → IsKeptAs old at seq) →
    at.reach ≡ old.reach → KeepsFates (z ∷ before) old → KeepsTimes (z ∷ before) old.times.items → KeepsLines (z ∷ before) copies old →
    KeepsStretch (z ∷ before) copies at
kept_same z before copies old at same reach fates times lines = record {
  fates = record {
    fates = λ n above below. (same (wire n)).fate ∙ fates.fates n above below;
    reach = reach ∙ fates.reach;
  };
  times = λ n some above. (same (wire n)).time ∙ times n some above;
  lines = record {
    packets = λ n some above. (same (wire n)).packet ∙ lines.packets n some above;
    passed = λ n none lies above. (same (wire n)).time ∙ lines.passed n none lies above;
  };
}

-- a number that is not behind lies ahead
some_way : (reference seq : ℕ) → reference < 65536 → seq < 65536 → 1024 ≤ (reference + (65536 - seq)) % 65536 →
    0 < (seq + (65536 - reference)) % 65536
some_way reference seq fits small far = omega (arith, fits, small, far)

-- where a stretch goes on, or another begins
goes_told : (spans : Spans) (f : Listed → ℕ) (z : Placed) (before : List Placed) (rest : List (List Placed)) (x : Copied) (copies : List Copied)
    (at between new : Pending) (list mid after : List Listed) (lines more : ℕ) → x.arrival.seq.0 < 65536 → KeepsPlaces between →
    KeepsStretch (z ∷ before) copies at →
    MovesTo (step_to (nat_lt (x.arrival.time - z.time) epoch_gap) (lies_from (z ∷ before) x.arrival.seq.0)) x.arrival at between →
    ListsDecided spans at x (wire (top_number (z ∷ before)))
    (step_to (nat_lt (x.arrival.time - z.time) epoch_gap) (lies_from (z ∷ before) x.arrival.seq.0)) list mid →
    TakesCopy
    (cond (goes_to (nat_lt (x.arrival.time - z.time) epoch_gap) (lies_from (z ∷ before) x.arrival.seq.0))
    (came_by (z ∷ before) (number_at (top_number (z ∷ before)) (lies_from (z ∷ before) x.arrival.seq.0))) by_neither)
    x between new mid after →
    sum_by f after ≡ sum_by f list + more →
    lines + total (waits spans x.src f (z ∷ before) copies) (top_number (z ∷ before) -ℤ pos 1023) 1024
    ≡ sum_by f (all_lines spans x.src ((z ∷ before) ∷ rest) copies) →
    TellsLines spans x.src f (with_arrival ((z ∷ before) ∷ rest) x.arrival) (x ∷ copies) new (lines + more)
goes_told spans f z before rest x copies at between new list mid after lines more fits room keeps moves decided taken sums told_all =
    place (cases_lt (steps a.seq.0 (wire t)) kept_numbers) (cases_lt (steps (wire t) a.seq.0) kept_numbers) (cases_Bool soon) moves decided taken
  where
    a : Arrival
    a = x.arrival

    s : List Placed
    s = z ∷ before

    t : ℤ
    t = top_number s

    soon : Bool
    soon = nat_lt (a.time - z.time) epoch_gap

    begun : ListsWaiting spans at x.src (wire t) list mid → TakesCopy by_neither x between new mid after →
        TellsLines spans x.src f (stretch_begun a ∷ s ∷ rest) (x ∷ copies) new (lines + more)
    begun lists taken =
        let same : after ≡ mid = takes_none by_neither x between new mid after refl taken in
        let all : lines + more ≡ sum_by f (all_lines spans x.src (s ∷ rest) copies) =
        waiting_told spans x.src f z before rest copies at list mid lines more keeps lists (ap (sum_by f) (sym same) ∙ sums) told_all in
        subst (TellsLines spans x.src f (stretch_begun a ∷ s ∷ rest) (x ∷ copies) new) (none_more (lines + more))
        (begun_told spans f (s ∷ rest) x copies between new mid after (lines + more) 0 fits room taken
        (ap (sum_by f) same ∙ sym (none_more (sum_by f mid))) all)
      where
        none_more : (n : ℕ) → n + 0 ≡ n
        none_more n = omega arith

    -- by the place of the number
    By : Distance → Type 0
    By p = MovesTo (step_to soon p) a at between → ListsDecided spans at x (wire t) (step_to soon p) list mid →
        TakesCopy (cond (goes_to soon p) (came_by s (number_at t p)) by_neither) x between new mid after →
        TellsLines spans x.src f (cond (goes_to soon p) ((copy_as a (number_at t p) ∷ s) ∷ rest) (stretch_begun a ∷ s ∷ rest)) (x ∷ copies) new
        (lines + more)

    lies : (b : Bool) → nat_lt (steps a.seq.0 (wire t)) kept_numbers ≡ b →
        cond b (Behind (steps a.seq.0 (wire t))) (Ahead (steps (wire t) a.seq.0)) ≡ lies_from s a.seq.0
    lies b e = ap (λ c. cond c (Behind (steps a.seq.0 (wire t))) (Ahead (steps (wire t) a.seq.0))) (sym e)

    one : IsTheOne kept_numbers t a.seq.0 (number_at t (lies_from s a.seq.0))
    one = number_is t a.seq.0 fits

    place : (steps a.seq.0 (wire t) < kept_numbers) ⊎ (kept_numbers ≤ steps a.seq.0 (wire t)) →
        (steps (wire t) a.seq.0 < kept_numbers) ⊎ (kept_numbers ≤ steps (wire t) a.seq.0) → (soon ≡ true) ⊎ (soon ≡ false) → By (lies_from s a.seq.0)
    place (inl less) any (inl near) =
        let behind = lies true (lt-ltb (steps a.seq.0 (wire t)) kept_numbers less) in
        subst By behind
        (rw near (λ passes decided taken.
        behind_told spans f z before rest x copies (t -ℤ pos (steps a.seq.0 (wire t))) (steps a.seq.0 (wire t)) at between new mid after lines more
        refl less (ap (λ p. wire (number_at t p)) behind ∙ one.carried) room keeps (passes less) taken
        (sums ∙ ap (λ l. sum_by f l + more) (sym decided)) told_all))
    place (inl less) any (inr silent) =
        subst By (lies true (lt-ltb (steps a.seq.0 (wire t)) kept_numbers less)) (rw silent (λ all lists taken. begun lists taken))
    place (inr far) (inl close) any =
        let ahead = lies false (le-ltb (steps a.seq.0 (wire t)) kept_numbers far) in
        subst By ahead
        (rw (lt-leb kept_numbers (steps (wire t) a.seq.0) close) (λ passes decided taken.
        ahead_told spans f z before rest x copies (t +ℤ pos (steps (wire t) a.seq.0)) (steps (wire t) a.seq.0) at between new list mid after lines more
        refl (some_way (wire t) a.seq.0 (wire-lt t) fits far) close (ap (λ p. wire (number_at t p)) ahead ∙ one.carried) room keeps
        (passes close) decided taken sums told_all))
    place (inr far) (inr beyond) (inl near) =
        subst By (lies false (le-ltb (steps a.seq.0 (wire t)) kept_numbers far))
        (rw (near, le-leb kept_numbers (steps (wire t) a.seq.0) beyond) (λ all lists taken. begun lists taken))
    place (inr far) (inr beyond) (inr silent) =
        subst By (lies false (le-ltb (steps a.seq.0 (wire t)) kept_numbers far))
        (rw (silent, le-leb kept_numbers (steps (wire t) a.seq.0) beyond) (λ all lists taken. begun lists taken))

-- the first arrival of a source
pub first_told : (spans : Spans) (f : Listed → ℕ) (x : Copied) (copies : List Copied) (old new : Pending) (list after : List Listed)
    (lines more : ℕ) → x.arrival.seq.0 < 65536 → ListsArrival spans [] x old new list after → sum_by f after ≡ sum_by f list + more →
    lines ≡ 0 → TellsLines spans x.src f (stretch_begun x.arrival ∷ []) (x ∷ copies) new (lines + more)
first_told spans f x copies old new list after lines more fits l sums none =
    begun_told spans f [] x copies l.between new l.decided after lines more fits l.still l.taken
    (sums ∙ ap (λ v. sum_by f v + more) (sym l.goes)) none

-- one arrival more
pub arrival_told : (spans : Spans) (f : Listed → ℕ) (ss : List (List Placed)) (x : Copied) (copies : List Copied) (old new : Pending)
    (list after : List Listed) (lines more : ℕ) → x.arrival.seq.0 < 65536 → ((rest : List (List Placed)) → ss ≡ [] ∷ rest → ⊥) →
    KeepsFates (current ss) old → KeepsTimes (current ss) old.times.items → ListsArrival spans ss x old new list after →
    sum_by f after ≡ sum_by f list + more → TellsLines spans x.src f ss copies old lines →
    TellsLines spans x.src f (with_arrival ss x.arrival) (x ∷ copies) new (lines + more)
arrival_told spans f [] x copies old new list after lines more fits some fates times l sums none =
    first_told spans f x copies old new list after lines more fits l sums none
arrival_told spans f ([] ∷ rest) x copies old new list after lines more fits some fates times l sums told_all = absurd (some rest refl)
arrival_told spans f ((z ∷ before) ∷ rest) x copies old new list after lines more fits some fates times l sums told_all =
    goes_told spans f z before rest x copies l.at l.between new list l.decided after lines more fits l.still
    (kept_same z before copies old l.at l.same l.same_reach fates times told_all.0) l.moves l.goes l.taken sums told_all.1

-- at the end
pub end_told : (spans : Spans) (src : Mac) (f : Listed → ℕ) (ss : List (List Placed)) (copies : List Copied) (p : Pending)
    (list after : List Listed) (lines more : ℕ) → ((rest : List (List Placed)) → ss ≡ [] ∷ rest → ⊥) → KeepsFates (current ss) p →
    KeepsTimes (current ss) p.times.items → ListsEnd spans p src ss list after → sum_by f after ≡ sum_by f list + more →
    TellsLines spans src f ss copies p lines → lines + more ≡ sum_by f (all_lines spans src ss copies)
end_told spans src f [] copies p list after lines more some fates times lists sums none =
    nothing (sum_by f list) (sum_by f after) lines more (ap (sum_by f) lists) sums none
  where
    nothing : (was now lines more : ℕ) → now ≡ was → now ≡ was + more → lines ≡ 0 → lines + more ≡ 0
    nothing was now lines more a b c = omega (arith, a, b, c)
end_told spans src f ([] ∷ rest) copies p list after lines more some fates times lists sums told_all = absurd (some rest refl)
end_told spans src f ((z ∷ before) ∷ rest) copies p list after lines more some fates times lists sums told_all =
    waiting_told spans src f z before rest copies p list after lines more
    (record { fates = fates; times = times; lines = told_all.0 }) lists sums told_all.1
