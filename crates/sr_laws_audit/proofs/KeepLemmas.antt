-- What is kept of the last numbers of a stretch, beside fates and times, with one copy more.
use Rattle.std.proofs.Common.{◌≡◌, ℕ, ◌+◌, ◌-◌, ◌<◌, ◌≤◌, Bool, true, false, cond, ◌&&◌, not, List, ◌∷◌, ℤ, pos, arith, refl, sym, ap, ◌∙◌, subst, inl, inr}
use Rattle.std.specs.Prelude.{min, slice_index_or, ◌+ℤ◌, ◌-ℤ◌, ◌<ℤ◌, ◌≤ℤ◌, int_lt}
use Rattle.std.specs.Ordering.{int_eq}
use Rattle.std.proofs.lemmas.Bool.{cases_Bool, cases_lt, and_parts}
use Rattle.std.proofs.lemmas.Bool.Decides.{Decides-int_eq}
use Rattle.std.proofs.lemmas.Int.{ints}
use Rattle.std.proofs.lemmas.List.{get_or-set_same}
use Rattle.sr_sequence.specs.Numbers.{wire}
use Rattle.sr_audit.specs.declared.listing.Copied.{Copied}
use Rattle.sr_audit.specs.declared.listing.Listed.{Listed}
use Rattle.sr_audit.specs.declared.pending.Fate.TheVariants.{Settled}
use Rattle.sr_audit.specs.declared.pending.Pending.{Pending}
use Rattle.sr_audit.specs.declared.tally.Came.{Came}
use Rattle.sr_audit.specs.Counting.{has_come, came_before_at}
use Rattle.sr_audit.specs.Extents.{bottom_number, size_of}
use Rattle.sr_audit.specs.Limits.{place_in}
use Rattle.sr_audit.specs.Listings.{fate_kept, time_kept, packet_kept, fate_by, steps_behind, KeepsPlaces, IsKeptAs, PassesAhead, PassesOver, TakesCopyIf, TakesCopy}
use Rattle.sr_audit.specs.Looks.{came_by}
use Rattle.sr_audit.specs.Stretches.{Placed, copy_as, top_number}
use Rattle.sr_audit.proofs.EdgeLemmas.{same_place, some_below}
use Rattle.sr_audit.proofs.FateLemmas.{behind_at, behind_round, place_round, wire_back, wire_on, within}
use Rattle.sr_audit.proofs.FitLemmas.{some_over}
use Rattle.sr_audit.proofs.ListingLemmas.{puts_other, settles_other}
use Rattle.sr_audit.proofs.RowLemmas.{depth_is, size_is}
use Rattle.sr_laws_audit.specs.Lists.{is_in_stretch, reach_time}
use Rattle.sr_laws_audit.proofs.OutcomeLemmas.{some, some_own, some_other}
use Rattle.sr_laws_audit.proofs.LineLemmas.{first_packet, KeepsLines}

-- a number between the least and the greatest
not_true : (b : Bool) → not b ≡ true → b ≡ false
not_true true e = let no : false ≡ true = e in absurd cc
not_true false e = refl

pub le_false : (m n : ℤ) → int_lt m n ≡ false → n ≤ℤ m
le_false m n e = grind (arith, ints)

pub false_le : (m n : ℤ) → n ≤ℤ m → int_lt m n ≡ false
false_le m n e = grind (arith, ints)

pub true_lt : (m n : ℤ) → m <ℤ n → int_lt m n ≡ true
true_lt m n e = grind (arith, ints)

pub within_over : (y : Placed) (s : List Placed) (n : ℤ) → is_in_stretch n (y ∷ s) ≡ true → bottom_number (y ∷ s) ≤ℤ n
within_over y s n is =
    le_false n (bottom_number (y ∷ s)) (not_true (int_lt n (bottom_number (y ∷ s)))
    (and_parts (not (int_lt n (bottom_number (y ∷ s)))) (not (int_lt (top_number (y ∷ s)) n)) is).0)

pub within_below : (y : Placed) (s : List Placed) (n : ℤ) → is_in_stretch n (y ∷ s) ≡ true → n ≤ℤ top_number (y ∷ s)
within_below y s n is =
    le_false (top_number (y ∷ s)) n (not_true (int_lt (top_number (y ∷ s)) n)
    (and_parts (not (int_lt n (bottom_number (y ∷ s)))) (not (int_lt (top_number (y ∷ s)) n)) is).1)

pub within_is : (y : Placed) (s : List Placed) (n : ℤ) → bottom_number (y ∷ s) ≤ℤ n → n ≤ℤ top_number (y ∷ s) → is_in_stretch n (y ∷ s) ≡ true
within_is y s n over below =
    ap (λ b. not b && not (int_lt (top_number (y ∷ s)) n)) (false_le n (bottom_number (y ∷ s)) over)
    ∙ ap (λ b. true && not b) (false_le (top_number (y ∷ s)) n below)

pub within_not_low : (y : Placed) (s : List Placed) (n : ℤ) → n <ℤ bottom_number (y ∷ s) → is_in_stretch n (y ∷ s) ≡ false
within_not_low y s n low = ap (λ b. not b && not (int_lt (top_number (y ∷ s)) n)) (true_lt n (bottom_number (y ∷ s)) low)

pub within_not_high : (y : Placed) (s : List Placed) (n : ℤ) → top_number (y ∷ s) <ℤ n → is_in_stretch n (y ∷ s) ≡ false
within_not_high y s n high =
    ap (λ b. not (int_lt n (bottom_number (y ∷ s))) && not b) (true_lt (top_number (y ∷ s)) n high)
    ∙ and_false (not (int_lt n (bottom_number (y ∷ s))))
  where
    and_false : (b : Bool) → (b && false) ≡ false
    and_false true = refl
    and_false false = refl

pub some_within : (y : Placed) (s : List Placed) (n : ℤ) → some (y ∷ s) n ≡ true → is_in_stretch n (y ∷ s) ≡ true
some_within y s n is = within_is y s n (some_over (y ∷ s) n is) (some_below (y ∷ s) n is)

-- what is kept of other numbers than that of a copy, and the packet that is kept of that
pub takes_kept : (k : Came) (x : Copied) (old new : Pending) (before after : List Listed) (n : ℕ) → TakesCopy k x old new before after →
    (place_in n ≡ place_in x.arrival.seq.0 → ⊥) → IsKeptAs old new n
takes_kept k x old new before after n taken apart = by (has_come k) (came_before_at k x.arrival.side) taken
  where
    by : (come here : Bool) → TakesCopyIf come here x old new before after → IsKeptAs old new n
    by false here taken =
        puts_other x.arrival.seq.0 x.arrival.time x.packet n (fate_by x.arrival.side) old new apart taken.0
    by true true taken = record {
      fate = ap (λ p. fate_kept p n) taken.0;
      time = ap (λ p. time_kept p n) taken.0;
      packet = ap (λ p. packet_kept p n) taken.0;
    }
    by true false taken = settles_other x.arrival.seq.0 n old new apart taken.0

takes_packet : (k : Came) (x : Copied) (old new : Pending) (before after : List Listed) → KeepsPlaces old → TakesCopy k x old new before after →
    packet_kept new x.arrival.seq.0 ≡ cond (has_come k) (packet_kept old x.arrival.seq.0) x.packet
takes_packet k x old new before after room taken = by (has_come k) (came_before_at k x.arrival.side) taken
  where
    seq : ℕ
    seq = x.arrival.seq.0

    by : (come here : Bool) → TakesCopyIf come here x old new before after → packet_kept new seq ≡ cond come (packet_kept old seq) x.packet
    by false here taken =
        rw taken.0.packets (get_or-set_same old.packets.items (place_in seq) x.packet 0 (omega (arith, room.packets)))
    by true true taken = ap (λ p. packet_kept p seq) taken.0
    by true false taken = ap (λ l. slice_index_or l (place_in seq) 0) taken.0.packets

-- the packet of the first copy, with one copy more
packet_other : (n : ℤ) (y : Placed) (s : List Placed) (x : Copied) (copies : List Copied) → int_eq n y.number ≡ false →
    first_packet n (y ∷ s) (x ∷ copies) ≡ first_packet n s copies
packet_other n y s x copies other = ap (λ b. cond (b && not (some s n)) x.packet (first_packet n s copies)) other

packet_own : (y : Placed) (s : List Placed) (x : Copied) (copies : List Copied) →
    first_packet y.number (y ∷ s) (x ∷ copies) ≡ cond (some s y.number) (first_packet y.number s copies) x.packet
packet_own y s x copies =
    let own : int_eq y.number y.number ≡ true = (Decides-int_eq y.number y.number).1 refl in
    ap (λ b. cond (b && not (some s y.number)) x.packet (first_packet y.number s copies)) own ∙ by (some s y.number)
  where
    by : (b : Bool) → cond (true && not b) x.packet (first_packet y.number s copies) ≡ cond b (first_packet y.number s copies) x.packet
    by true = refl
    by false = refl

-- with one copy more, where all others stand as they are to be
pub with_lines : (s : List Placed) (x : Copied) (copies : List Copied) (m : ℤ) (between new : Pending) (list after : List Listed) →
    wire m ≡ x.arrival.seq.0 → (top_number (copy_as x.arrival m ∷ s) -ℤ pos 1024) <ℤ m → m ≤ℤ top_number (copy_as x.arrival m ∷ s) →
    KeepsPlaces between →
    ((n : ℤ) → some s n ≡ true → (top_number (copy_as x.arrival m ∷ s) -ℤ pos 1024) <ℤ n →
    packet_kept between (wire n) ≡ first_packet n s copies) →
    ((n : ℤ) → int_eq n m ≡ false → some s n ≡ false → is_in_stretch n (copy_as x.arrival m ∷ s) ≡ true →
    (top_number (copy_as x.arrival m ∷ s) -ℤ pos 1024) <ℤ n → time_kept between (wire n) ≡ reach_time n (copy_as x.arrival m ∷ s)) →
    TakesCopy (came_by s m) x between new list after → KeepsLines (copy_as x.arrival m ∷ s) (x ∷ copies) new
with_lines s x copies m between new list after carried near le room packets passed taken =
    record {
      packets = λ n is above.
          elim (cases_Bool (int_eq n m)) [
            | inl same ↦ subst Shows (sym ((Decides-int_eq n m).0 same)) (own (some s m) refl)
            | inr other ↦
                (kept n other above (some_below (c ∷ s) n is)).packet ∙ packets n (sym (some_other n c s other) ∙ is) above
                ∙ sym (packet_other n c s x copies other)
          ];
      passed = λ n none is above.
          elim (cases_Bool (int_eq n m)) [
            | inl same ↦
                let here : some (c ∷ s) n ≡ true = ap (some (c ∷ s)) ((Decides-int_eq n m).0 same) ∙ some_own c s in
                let no : true ≡ false = sym here ∙ none in absurd cc
            | inr other ↦
                (kept n other above (within_below c s n is)).time
                ∙ passed n other (sym (some_other n c s other) ∙ none) is above
          ];
    }
  where
    c : Placed
    c = copy_as x.arrival m

    Shows : ℤ → Type 0
    Shows n = packet_kept new (wire n) ≡ first_packet n (c ∷ s) (x ∷ copies)

    kept : (n : ℤ) → int_eq n m ≡ false → (top_number (c ∷ s) -ℤ pos 1024) <ℤ n → n ≤ℤ top_number (c ∷ s) → IsKeptAs between new (wire n)
    kept n other above below =
        takes_kept (came_by s m) x between new list after (wire n) taken
        (λ met. let one : n ≡ m = same_place (top_number (c ∷ s)) n m above near below le (met ∙ ap place_in (sym carried)) in
        let bad : true ≡ false = sym ((Decides-int_eq n m).1 one) ∙ other in cc)

    own : (b : Bool) → some s m ≡ b → Shows m
    own b is =
        ap (λ q. packet_kept new q) carried ∙ takes_packet (came_by s m) x between new list after room taken
        ∙ ap (λ v. cond v (packet_kept between x.arrival.seq.0) x.packet) is ∙ middle b is
        ∙ sym (packet_own c s x copies ∙ ap (λ v. cond v (first_packet m s copies) x.packet) is)
      where
        middle : (v : Bool) → some s m ≡ v →
            cond v (packet_kept between x.arrival.seq.0) x.packet ≡ cond v (first_packet m s copies) x.packet
        middle true known = ap (λ q. packet_kept between q) (sym carried) ∙ packets m known near
        middle false new_one = refl

-- what is kept of a number on the way to one ahead
far_on : (t m n : ℤ) (k i : ℕ) → m ≡ t +ℤ pos k → m ≡ n +ℤ pos i → n ≤ℤ t → k ≤ i
far_on t m n k i e f le = omega (arith, ints, e, f, le)

near_on : (t m n : ℤ) (k i : ℕ) → m ≡ t +ℤ pos k → m ≡ n +ℤ pos i → t <ℤ n → i < k
near_on t m n k i e f lt = omega (arith, ints, e, f, lt)

pub ahead_kept : (t m n : ℤ) (k seq time : ℕ) (at between : Pending) → m ≡ t +ℤ pos k → wire m ≡ seq →
    PassesAhead seq time k at between → (m -ℤ pos 1024) <ℤ n → n ≤ℤ m → n ≤ℤ t → IsKeptAs at between (wire n)
ahead_kept t m n k seq time at between is carried passes above below le = by (size_of (m -ℤ n)) (size_is n m below)
  where
    by : (i : ℕ) → m ≡ n +ℤ pos i → IsKeptAs at between (wire n)
    by i lies =
        let few : i < 1024 = within m n i lies above in
        subst (IsKeptAs at between) (sym (wire_back m n i seq lies few carried)) (passes.others i (far_on t m n k i is lies le) few)

pub ahead_passed : (t m n : ℤ) (k seq time : ℕ) (at between : Pending) → m ≡ t +ℤ pos k → wire m ≡ seq →
    PassesAhead seq time k at between → (m -ℤ pos 1024) <ℤ n → n ≤ℤ m → t <ℤ n → time_kept between (wire n) ≡ time
ahead_passed t m n k seq time at between is carried passes above below lt = by (size_of (m -ℤ n)) (size_is n m below)
  where
    by : (i : ℕ) → m ≡ n +ℤ pos i → time_kept between (wire n) ≡ time
    by i lies =
        let few : i < 1024 = within m n i lies above in
        ap (λ q. time_kept between q) (wire_back m n i seq lies few carried) ∙ passes.times i (near_on t m n k i is lies lt)

-- on the way to one behind
kept_at : (at between : Pending) (q r : ℕ) → place_in q ≡ place_in r → IsKeptAs at between r → IsKeptAs at between q
kept_at at between q r place kept = record {
  fate = ap (λ i. slice_index_or between.fates.items i Settled) place ∙ kept.fate
      ∙ ap (λ i. slice_index_or at.fates.items i Settled) (sym place);
  time = ap (λ i. slice_index_or between.times.items i 0) place ∙ kept.time ∙ ap (λ i. slice_index_or at.times.items i 0) (sym place);
  packet = ap (λ i. slice_index_or between.packets.items i 0) place ∙ kept.packet
      ∙ ap (λ i. slice_index_or at.packets.items i 0) (sym place);
}

covers : (r d i k j : ℕ) → r ≡ min d 1023 → j ≤ d → j < 1024 → i ≡ k - j → j ≤ k → k ≤ i + r
covers r d i k j e deep few f le = omega (arith, e, deep, few, f, le)

not_covers : (r d i k j : ℕ) → r ≡ min d 1023 → d < j → i ≡ k - j → j ≤ k → i + r < k
not_covers r d i k j e deep f le = omega (arith, e, deep, f, le)

no_deeper : (n b t : ℤ) (d j : ℕ) → b ≡ t -ℤ pos d → t ≡ n +ℤ pos j → b ≤ℤ n → j ≤ d
no_deeper n b t d j e f le = omega (arith, ints, e, f, le)

deeper : (n b t : ℤ) (d j : ℕ) → b ≡ t -ℤ pos d → t ≡ n +ℤ pos j → n <ℤ b → d < j
deeper n b t d j e f lt = omega (arith, ints, e, f, lt)

no_further : (t m n : ℤ) (k j : ℕ) → m ≡ t -ℤ pos k → t ≡ n +ℤ pos j → m ≤ℤ n → j ≤ k
no_further t m n k j e f le = omega (arith, ints, e, f, le)

pub behind_kept : (z : Placed) (before : List Placed) (m n : ℤ) (k seq time : ℕ) (at between : Pending) →
    m ≡ top_number (z ∷ before) -ℤ pos k → k < 1024 → wire m ≡ seq →
    at.reach ≡ min (size_of (top_number (z ∷ before) -ℤ bottom_number (z ∷ before))) 1023 →
    PassesOver seq time at.reach k at between → (top_number (z ∷ before) -ℤ pos 1024) <ℤ n → n ≤ℤ top_number (z ∷ before) →
    bottom_number (z ∷ before) ≤ℤ n → IsKeptAs at between (wire n)
behind_kept z before m n k seq time at between is small carried reach passes above below over =
    by (size_of (t -ℤ n)) (size_is n t below)
  where
    t : ℤ
    t = top_number (z ∷ before)

    d : ℕ
    d = size_of (t -ℤ bottom_number (z ∷ before))

    by : (j : ℕ) → t ≡ n +ℤ pos j → IsKeptAs at between (wire n)
    by j lies =
        let few : j < 1024 = within t n j lies above in
        let deep : j ≤ d = no_deeper n (bottom_number (z ∷ before)) t d j (depth_is z before) lies over in
        elim (cases_lt k j) [
          | inl lt ↦
              kept_at at between (wire n) (steps_behind seq (k + (1024 - j)))
              (place_round m n (k + (1024 - j)) seq (behind_round t m n k j is lies lt few) carried)
              (passes.others (k + (1024 - j)) (omega arith) (omega (arith, lt, few)))
          | inr le ↦
              subst (IsKeptAs at between) (sym (wire_on m n (k - j) seq (behind_at t m n k j is lies le) carried))
              (passes.others (k - j) (covers at.reach d (k - j) k j reach deep few refl le) (omega (arith, small)))
        ]

pub behind_passed : (z : Placed) (before : List Placed) (m n : ℤ) (k seq time : ℕ) (at between : Pending) →
    m ≡ top_number (z ∷ before) -ℤ pos k → wire m ≡ seq →
    at.reach ≡ min (size_of (top_number (z ∷ before) -ℤ bottom_number (z ∷ before))) 1023 →
    PassesOver seq time at.reach k at between → n ≤ℤ top_number (z ∷ before) → m ≤ℤ n → n <ℤ bottom_number (z ∷ before) →
    time_kept between (wire n) ≡ time
behind_passed z before m n k seq time at between is carried reach passes below over lt =
    by (size_of (t -ℤ n)) (size_is n t below)
  where
    t : ℤ
    t = top_number (z ∷ before)

    d : ℕ
    d = size_of (t -ℤ bottom_number (z ∷ before))

    by : (j : ℕ) → t ≡ n +ℤ pos j → time_kept between (wire n) ≡ time
    by j lies =
        let le : j ≤ k = no_further t m n k j is lies over in
        let deep : d < j = deeper n (bottom_number (z ∷ before)) t d j (depth_is z before) lies lt in
        ap (λ q. time_kept between q) (wire_on m n (k - j) seq (behind_at t m n k j is lies le) carried)
        ∙ passes.times (k - j) (not_covers at.reach d (k - j) k j reach deep refl le)
