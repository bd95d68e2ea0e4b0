-- When the first copies of the last numbers of a stretch came, as it is kept, with one copy more.
use Rattle.std.proofs.Common.{◌≡◌, ℕ, ◌+◌, ◌-◌, ◌<◌, ◌≤◌, Bool, true, false, cond, ◌||◌, List, ◌∷◌, ℤ, pos, arith, refl, sym, ap, ◌∙◌, subst, inl, inr}
use Rattle.std.specs.Prelude.{min, slice_index_or, ◌+ℤ◌, ◌-ℤ◌, ◌<ℤ◌, ◌≤ℤ◌}
use Rattle.std.specs.Ordering.{int_eq}
use Rattle.std.proofs.lemmas.Bool.{cases_Bool, cases_lt}
use Rattle.std.proofs.lemmas.Bool.Decides.{Decides-int_eq}
use Rattle.std.proofs.lemmas.Int.{ints}
use Rattle.std.proofs.lemmas.List.{get_or-set_same}
use Rattle.sr_sequence.specs.Numbers.{wire}
use Rattle.sr_audit.specs.declared.listing.Copied.{Copied}
use Rattle.sr_audit.specs.declared.listing.Listed.{Listed}
use Rattle.sr_audit.specs.declared.pending.Pending.{Pending}
use Rattle.sr_audit.specs.declared.side.Side.TheVariants.{A, B}
use Rattle.sr_audit.specs.declared.tally.Came.{Came}
use Rattle.sr_audit.specs.Counting.{has_come, came_before_at}
use Rattle.sr_audit.specs.Edges.{first_time, KeepsTimes}
use Rattle.sr_audit.specs.Extents.{bottom_number, size_of}
use Rattle.sr_audit.specs.Limits.{place_in}
use Rattle.sr_audit.specs.Listings.{fate_by, time_kept, steps_before, steps_behind, KeepsPlaces, PassesAhead, PassesOver, TakesCopyIf, TakesCopy}
use Rattle.sr_audit.specs.Looks.{came_by}
use Rattle.sr_audit.specs.Stretches.{Placed, copy_as, came, top_number}
use Rattle.sr_audit.proofs.EdgeLemmas.{first_own, same_place, some_below}
use Rattle.sr_audit.proofs.ExtentLemmas.{greater_ahead, greater_behind}
use Rattle.sr_audit.proofs.FateLemmas.{ahead_near, behind_at, behind_round, le_own, near_own, le_behind, near_behind, place_round, wire_back, wire_on, within}
use Rattle.sr_audit.proofs.FitLemmas.{some_over}
use Rattle.sr_audit.proofs.FrameLemmas.{came-other, first_other}
use Rattle.sr_audit.proofs.ListingLemmas.{puts_other, settles_other}
use Rattle.sr_audit.proofs.RowLemmas.{depth_is, size_is}

takes_first : (k : Came) (x : Copied) (old new : Pending) (before after : List Listed) → KeepsPlaces old → TakesCopy k x old new before after →
    time_kept new x.arrival.seq.0 ≡ cond (has_come k) (time_kept old x.arrival.seq.0) x.arrival.time
takes_first k x old new before after room taken = by (has_come k) (came_before_at k x.arrival.side) taken
  where
    seq : ℕ
    seq = x.arrival.seq.0

    by : (some here : Bool) → TakesCopyIf some here x old new before after → time_kept new seq ≡ cond some (time_kept old seq) x.arrival.time
    by false here taken =
        rw taken.0.times (get_or-set_same old.times.items (place_in seq) x.arrival.time 0 (omega (arith, room.times)))
    by true true taken = ap (λ p. time_kept p seq) taken.0
    by true false taken = ap (λ l. slice_index_or l (place_in seq) 0) taken.0.times

others_first : (k : Came) (x : Copied) (old new : Pending) (before after : List Listed) (n : ℕ) → TakesCopy k x old new before after →
    (place_in n ≡ place_in x.arrival.seq.0 → ⊥) → time_kept new n ≡ time_kept old n
others_first k x old new before after n taken apart = by (has_come k) (came_before_at k x.arrival.side) taken
  where
    by : (some here : Bool) → TakesCopyIf some here x old new before after → time_kept new n ≡ time_kept old n
    by false here taken =
        (puts_other x.arrival.seq.0 x.arrival.time x.packet n (fate_by x.arrival.side) old new apart taken.0).time
    by true true taken = ap (λ p. time_kept p n) taken.0
    by true false taken = (settles_other x.arrival.seq.0 n old new apart taken.0).time

-- the times of a stretch with one copy more, where those of all others stand as they are to be
pub with_first : (s : List Placed) (x : Copied) (m : ℤ) (between new : Pending) (list after : List Listed) → wire m ≡ x.arrival.seq.0 →
    (top_number (copy_as x.arrival m ∷ s) -ℤ pos 1024) <ℤ m → m ≤ℤ top_number (copy_as x.arrival m ∷ s) → KeepsPlaces between →
    ((n : ℤ) → (came A n s || came B n s) ≡ true → (top_number (copy_as x.arrival m ∷ s) -ℤ pos 1024) <ℤ n →
    time_kept between (wire n) ≡ first_time n s) →
    TakesCopy (came_by s m) x between new list after → KeepsTimes (copy_as x.arrival m ∷ s) new.times.items
with_first s x m between new list after carried near le room stand taken =
    λ n some above. elim (cases_Bool (int_eq n m)) [
      | inl same ↦ subst Shows (sym ((Decides-int_eq n m).0 same)) (own (came A m s || came B m s) refl)
      | inr other ↦
          let before_some : (came A n s || came B n s) ≡ true =
          ap (λ b. b || came B n s) (sym (came-other A n c s other)) ∙ ap (λ b. came A n (c ∷ s) || b) (sym (came-other B n c s other)) ∙ some in
          let apart : place_in (wire n) ≡ place_in x.arrival.seq.0 → ⊥ =
          λ met. let one : n ≡ m = same_place (top_number (c ∷ s)) n m above near (some_below (c ∷ s) n some) le (met ∙ ap place_in (sym carried)) in
          let bad : true ≡ false = sym ((Decides-int_eq n m).1 one) ∙ other in cc in
          others_first (came_by s m) x between new list after (wire n) taken apart ∙ stand n before_some above ∙ sym (first_other n c s other)
    ]
  where
    c : Placed
    c = copy_as x.arrival m

    Shows : ℤ → Type 0
    Shows n = time_kept new (wire n) ≡ first_time n (c ∷ s)

    own : (b : Bool) → (came A m s || came B m s) ≡ b → Shows m
    own b is =
        ap (λ q. time_kept new q) carried ∙ takes_first (came_by s m) x between new list after room taken
        ∙ ap (λ v. cond v (time_kept between x.arrival.seq.0) x.arrival.time) is ∙ middle b is
        ∙ sym (first_own c s ∙ ap (λ v. cond v (first_time m s) x.arrival.time) is)
      where
        middle : (v : Bool) → (came A m s || came B m s) ≡ v →
            cond v (time_kept between x.arrival.seq.0) x.arrival.time ≡ cond v (first_time m s) x.arrival.time
        middle true known = ap (λ q. time_kept between q) (sym carried) ∙ stand m known near
        middle false new_one = refl

ahead_far : (t m n : ℤ) (k i : ℕ) → m ≡ t +ℤ pos k → m ≡ n +ℤ pos i → n ≤ℤ t → k ≤ i
ahead_far t m n k i e f le = omega (arith, ints, e, f, le)

ahead_le : (t m n : ℤ) (k : ℕ) → m ≡ t +ℤ pos k → n ≤ℤ t → n ≤ℤ m
ahead_le t m n k e le = omega (arith, ints, e, le)

pub ahead_first : (z : Placed) (before : List Placed) (x : Copied) (m : ℤ) (k : ℕ) (at between new : Pending) (list after : List Listed) →
    m ≡ top_number (z ∷ before) +ℤ pos k → k < 1024 → wire m ≡ x.arrival.seq.0 → KeepsPlaces between →
    KeepsTimes (z ∷ before) at.times.items → PassesAhead x.arrival.seq.0 x.arrival.time k at between →
    TakesCopy (came_by (z ∷ before) m) x between new list after → KeepsTimes (copy_as x.arrival m ∷ z ∷ before) new.times.items
ahead_first z before x m k at between new list after is small carried room keeps passes taken =
    with_first s x m between new list after carried (subst (λ g. (g -ℤ pos 1024) <ℤ m) (sym top) (near_own m))
    (subst (λ g. m ≤ℤ g) (sym top) (le_own m)) room
    (λ n some above. stand n some (subst (λ g. (g -ℤ pos 1024) <ℤ n) top above)) taken
  where
    s : List Placed
    s = z ∷ before

    t : ℤ
    t = top_number s

    top : top_number (copy_as x.arrival m ∷ s) ≡ m
    top = greater_ahead t m k is

    stand : (n : ℤ) → (came A n s || came B n s) ≡ true → (m -ℤ pos 1024) <ℤ n → time_kept between (wire n) ≡ first_time n s
    stand n some above = by (size_of (m -ℤ n)) (size_is n m (ahead_le t m n k is (some_below s n some)))
      where
        by : (i : ℕ) → m ≡ n +ℤ pos i → time_kept between (wire n) ≡ first_time n s
        by i lies =
            let few : i < 1024 = within m n i lies above in
            let at_wire : wire n ≡ steps_before x.arrival.seq.0 i = wire_back m n i x.arrival.seq.0 lies few carried in
            ap (λ q. time_kept between q) at_wire ∙ (passes.others i (ahead_far t m n k i is lies (some_below s n some)) few).time
            ∙ ap (λ q. time_kept at q) (sym at_wire) ∙ keeps n some (ahead_near t m n k is above)

reach_covers : (r d i k j : ℕ) → r ≡ min d 1023 → j ≤ d → j < 1024 → i ≡ k - j → j ≤ k → k ≤ i + r
reach_covers r d i k j e deep few f le = omega (arith, e, deep, few, f, le)

within_depth : (n b t : ℤ) (d j : ℕ) → b ≡ t -ℤ pos d → t ≡ n +ℤ pos j → b ≤ℤ n → j ≤ d
within_depth n b t d j e f le = omega (arith, ints, e, f, le)

pub behind_first : (z : Placed) (before : List Placed) (x : Copied) (m : ℤ) (k : ℕ) (at between new : Pending) (list after : List Listed) →
    m ≡ top_number (z ∷ before) -ℤ pos k → k < 1024 → wire m ≡ x.arrival.seq.0 → KeepsPlaces between →
    at.reach ≡ min (size_of (top_number (z ∷ before) -ℤ bottom_number (z ∷ before))) 1023 → KeepsTimes (z ∷ before) at.times.items →
    PassesOver x.arrival.seq.0 x.arrival.time at.reach k at between →
    TakesCopy (came_by (z ∷ before) m) x between new list after → KeepsTimes (copy_as x.arrival m ∷ z ∷ before) new.times.items
behind_first z before x m k at between new list after is small carried room reach keeps passes taken =
    with_first s x m between new list after carried (subst (λ g. (g -ℤ pos 1024) <ℤ m) (sym top) (near_behind t m k is small))
    (subst (λ g. m ≤ℤ g) (sym top) (le_behind t m k is)) room
    (λ n some above. stand n some (subst (λ g. (g -ℤ pos 1024) <ℤ n) top above)) taken
  where
    s : List Placed
    s = z ∷ before

    t : ℤ
    t = top_number s

    d : ℕ
    d = size_of (t -ℤ bottom_number s)

    top : top_number (copy_as x.arrival m ∷ s) ≡ t
    top = greater_behind t m k is

    stand : (n : ℤ) → (came A n s || came B n s) ≡ true → (t -ℤ pos 1024) <ℤ n → time_kept between (wire n) ≡ first_time n s
    stand n some above = by (size_of (t -ℤ n)) (size_is n t (some_below s n some))
      where
        by : (j : ℕ) → t ≡ n +ℤ pos j → time_kept between (wire n) ≡ first_time n s
        by j lies =
            let few : j < 1024 = within t n j lies above in
            let deep : j ≤ d = within_depth n (bottom_number s) t d j (depth_is z before) lies (some_over s n some) in
            elim (cases_lt k j) [
              | inl lt ↦
                  let place : place_in (wire n) ≡ place_in (steps_behind x.arrival.seq.0 (k + (1024 - j))) =
                  place_round m n (k + (1024 - j)) x.arrival.seq.0 (behind_round t m n k j is lies lt few) carried in
                  ap (λ q. slice_index_or between.times.items q 0) place
                  ∙ (passes.others (k + (1024 - j)) (omega arith) (omega (arith, lt, few))).time
                  ∙ ap (λ q. slice_index_or at.times.items q 0) (sym place) ∙ keeps n some above
              | inr le ↦
                  let at_wire : wire n ≡ steps_behind x.arrival.seq.0 (k - j) =
                  wire_on m n (k - j) x.arrival.seq.0 (behind_at t m n k j is lies le) carried in
                  ap (λ q. time_kept between q) at_wire
                  ∙ (passes.others (k - j) (reach_covers at.reach d (k - j) k j reach deep few refl le) (omega (arith, small))).time
                  ∙ ap (λ q. time_kept at q) (sym at_wire) ∙ keeps n some above
            ]
