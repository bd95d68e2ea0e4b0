-- A table that a run begins with keeps the epochs of what stands in it.
use Rattle.std.proofs.Common.{◌≡◌, ℕ, zero, suc, pos, ◌<◌, ◌-◌, ◌≤◌, Bool, true, false, cond, ◌||◌, ◌&&◌, List, [], ◌∷◌, ◌++◌, length, Option, None, Some, ℤ, arith, refl, sym, ap, ◌∙◌, subst, inl, inr}
use Rattle.std.specs.Prelude.{nat_lt, ◌-ℤ◌, ◌≤ℤ◌, ◌<ℤ◌, slice_index_or}
use Rattle.std.specs.Ordering.{int_eq}
use Rattle.std.specs.List.{list_any, IsDistinct}
use Rattle.std.specs.Map.{lookup, keys_of}
use Rattle.std.proofs.lemmas.Bool.{cases_Bool, or_cases, and_parts, false_from_ne_true}
use Rattle.std.proofs.lemmas.Bool.Decides.{Decides-int_eq}
use Rattle.std.proofs.lemmas.Int.{ints}
use Rattle.std.proofs.lemmas.List.{append-nil}
use Rattle.std.proofs.lemmas.Map.{lookup-none}
use Rattle.std.proofs.lemmas.Map.Entries.{none_past_head}
use Rattle.std.proofs.lemmas.Map.Keys.{IsDistinct-tail}
use Rattle.sr_frame.specs.declared.fields.Mac.{Mac}
use Rattle.sr_sequence.specs.Numbers.{wire, IsNear}
use Rattle.sr_dup_window.specs.declared.lane_sets.Lane.{Lane}
use Rattle.sr_dup_window.specs.declared.lane_sets.Lanes.{Lanes}
use Rattle.sr_dup_window.specs.LaneSets.{has, none, is_empty}
use Rattle.sr_dup_window.specs.LaneLemmas.{lanes_where-same, some_lane, no_lane}
use Rattle.sr_dup_window.specs.Families.{Family, greater, IsGreatest, StandsFor}
use Rattle.sr_dup_window.specs.FamilyLemmas.{greater_more}
use Rattle.sr_dup_window.specs.Windows.{Window}
use Rattle.sr_dup_window.specs.WindowLemmas.{width-some}
use Rattle.sr_frame.specs.Addresses.{mac_eq}
use Rattle.sr_frame.specs.AddressLemmas.{mac_same, mac_refl, mac_laws}
use Rattle.sr_dup_window.specs.Bins.{IsWidth}
use Rattle.sr_dup_window.specs.Records.{IsWhole}
use Rattle.sr_dup_table.specs.Limits.{forget_time}
use Rattle.sr_dup_table.specs.Sources.{Remembered, Sources}
use Rattle.sr_laws_dup.specs.TableRuns.{Arrival, Noting, epoch, greatest_of, copies_of, IsNearAll, arrivals_of, AreSteady}
use Rattle.sr_laws_dup.specs.Starts.{pairs, stood, IsSourceOf, IsStart, EachPairIsNewAfterAStart, StartsAreSteady}
use Rattle.sr_laws_dup.specs.EpochLemmas.{noted_epoch, top_of, arrivals-epoch, family_of, now_is_live, family_any}
use Rattle.sr_laws_dup.specs.RunLemmas.{KeepsEpoch, Keeps, Kept, keeps_past, new_once_from}

-- no number of pairs lies above the first
pairs_most : (src : Mac) (n : ℤ) (time : ℕ) (marks : List Lanes) (lane : Lane) (x : ℤ) →
    list_any (λ y. int_eq x y.arrival.number && has y.lanes lane) (pairs src n time marks) ≡ true → x ≤ℤ n
pairs_most src n time [] lane x any = let no : false ≡ true = any in absurd cc
pairs_most src n time (m ∷ ms) lane x any =
    elim (cases_Bool (is_empty m)) [
      | inl empty ↦ let rest : x ≤ℤ (n -ℤ pos 1) = pairs_most src (n -ℤ pos 1) time ms lane x (rw empty at any) in omega (arith, ints)
      | inr some ↦
          elim (or_cases (int_eq x n && has m lane) _ (rw some at any)) [
            | inl first ↦ let same : x ≡ n = (Decides-int_eq x n).0 (and_parts (int_eq x n) (has m lane) first).0 in omega (arith, ints)
            | inr later ↦ let rest : x ≤ℤ (n -ℤ pos 1) = pairs_most src (n -ℤ pos 1) time ms lane x later in omega (arith, ints)
          ]
    ]

back_more : (n : ℤ) (k : ℕ) → n -ℤ pos (suc k) ≡ (n -ℤ pos 1) -ℤ pos k
back_more n k = omega (arith, ints)

back_none : (n : ℤ) → n -ℤ pos 0 ≡ n
back_none n = omega (arith, ints)

-- what they have of each number is its mark
pairs_have : (src : Mac) (n : ℤ) (time : ℕ) (marks : List Lanes) (lane : Lane) (k : ℕ) → k < length marks →
    list_any (λ y. int_eq (n -ℤ pos k) y.arrival.number && has y.lanes lane) (pairs src n time marks) ≡ has (slice_index_or marks k none) lane
pairs_have src n time [] lane k less = absurd (omega arith)
pairs_have src n time (m ∷ ms) lane zero less =
    let below : list_any (λ y. int_eq (n -ℤ pos 0) y.arrival.number && has y.lanes lane) (pairs src (n -ℤ pos 1) time ms) ≡ false =
    false_from_ne_true _ (λ t. let le : (n -ℤ pos 0) ≤ℤ (n -ℤ pos 1) = pairs_most src (n -ℤ pos 1) time ms lane (n -ℤ pos 0) t in
    absurd (omega (arith, ints))) in
    elim (cases_Bool (is_empty m)) [
      | inl empty ↦ rw empty (below ∙ sym (no_lane m empty lane))
      | inr some ↦ rw (some, (Decides-int_eq (n -ℤ pos 0) n).1 (back_none n), below) (or_none (has m lane))
    ]
  where
    or_none : (b : Bool) → (b || false) ≡ b
    or_none true = refl
    or_none false = refl
pairs_have src n time (m ∷ ms) lane (suc k) less =
    let rest : list_any (λ y. int_eq (n -ℤ pos (suc k)) y.arrival.number && has y.lanes lane) (pairs src (n -ℤ pos 1) time ms)
    ≡ has (slice_index_or ms k none) lane =
    subst (λ z. list_any (λ y. int_eq z y.arrival.number && has y.lanes lane) (pairs src (n -ℤ pos 1) time ms)
    ≡ has (slice_index_or ms k none) lane) (sym (back_more n k)) (pairs_have src (n -ℤ pos 1) time ms lane k (omega arith)) in
    elim (cases_Bool (is_empty m)) [
      | inl empty ↦ rw empty rest
      | inr some ↦ rw (some, away) rest
    ]
  where
    away : int_eq (n -ℤ pos (suc k)) n ≡ false
    away = false_from_ne_true (int_eq (n -ℤ pos (suc k)) n) (λ t.
        let same : (n -ℤ pos (suc k)) ≡ n = (Decides-int_eq (n -ℤ pos (suc k)) n).0 t in absurd (omega (arith, ints)))

-- the greatest number of pairs is the first
abbrev AllMost : ℤ → List Arrival → Type 0
AllMost n [] = Unit {0}
AllMost n (x ∷ xs) = (x.number ≤ℤ n) × AllMost n xs

greater_most : (a b n : ℤ) → a ≤ℤ n → b ≤ℤ n → greater a b ≤ℤ n
greater_most a b n la lb = grind (arith, ints, la, lb)

greatest_most : (n : ℤ) (y : Arrival) (ys : List Arrival) → AllMost n (y ∷ ys) → greatest_of (y ∷ ys) ≤ℤ n
greatest_most n y [] all = all.0
greatest_most n y (z ∷ zs) all = greater_most (greatest_of (z ∷ zs)) y.number n (greatest_most n z zs all.1) all.0

greatest_first : (x : Arrival) (xs : List Arrival) → AllMost x.number xs → greatest_of (x ∷ xs) ≡ x.number
greatest_first x [] all = refl
greatest_first x (y ∷ ys) all = greater_more (greatest_of (y ∷ ys)) x.number (greatest_most x.number y ys all)

pairs_all : (src : Mac) (l n : ℤ) (time : ℕ) (marks : List Lanes) → l ≤ℤ n → AllMost n (arrivals_of (pairs src l time marks))
pairs_all src l n time [] low = tt
pairs_all src l n time (m ∷ ms) low =
    let rest = pairs_all src (l -ℤ pos 1) n time ms (omega (arith, ints)) in
    elim (cases_Bool (is_empty m)) [
      | inl empty ↦ rw empty rest
      | inr some ↦ rw some (low, rest)
    ]

pairs_top : (src : Mac) (n : ℤ) (time : ℕ) (m : Lanes) (ms : List Lanes) → is_empty m ≡ false → greatest_of (arrivals_of (pairs src n time (m ∷ ms))) ≡ n
pairs_top src n time m ms some =
    rw some (greatest_first (record { src = src; number = n; time = time }) (arrivals_of (pairs src (n -ℤ pos 1) time ms))
    (pairs_all src (n -ℤ pos 1) n time ms (omega (arith, ints))))

-- so a window stands for its pairs
module _ (W : ℕ) (width : IsWidth W) where
  pairs_stand : (src : Mac) (n : ℤ) (time : ℕ) (seen : Window) → IsWhole W seen → seen.reference ≡ wire n →
      StandsFor W seen (family_of (pairs src n time seen.marks)) (top_of (pairs src n time seen.marks))
  pairs_stand src n time seen whole reference = by seen.marks refl
    where
      family : List Lanes → Family
      family marks = family_of (pairs src n time marks)

      has_at : (marks : List Lanes) (lane : Lane) (k : ℕ) → k < length marks → family marks lane (n -ℤ pos k) ≡ has (slice_index_or marks k none) lane
      has_at marks lane k less = family_any (pairs src n time marks) lane (n -ℤ pos k) ∙ pairs_have src n time marks lane k less

      by : (marks : List Lanes) → seen.marks ≡ marks → StandsFor W seen (family seen.marks) (top_of (pairs src n time seen.marks))
      by [] is = let no : 0 ≡ W = sym (ap length is) ∙ whole.count in let some = width-some W width in absurd (omega (arith, no, some))
      by (m ∷ ms) is =
          let first : is_empty m ≡ false = sym (ap (λ l. is_empty (slice_index_or l 0 none)) is) ∙ whole.some in
          let top : top_of (pairs src n time seen.marks) ≡ n =
          ap (λ l. top_of (pairs src n time l)) is ∙ pairs_top src n time m ms first in
          subst (λ g. StandsFor W seen (family seen.marks) g) (sym top) (record {
            top = subst (λ l. IsGreatest (family l) n) (sym is) (greatest m ms first);
            reference = reference;
            count = whole.count;
            shows = λ k less. sym (whole.plain k less) ∙ lanes_where-same (has (slice_index_or seen.marks k none))
                (λ lane. family seen.marks lane (n -ℤ pos k)) (λ lane. sym (has_at seen.marks lane k (shorter k less)));
          })
        where
          shorter : (k : ℕ) → k < W → k < length seen.marks
          shorter k less = let count = whole.count in omega (arith, count, less)

          greatest : (m : Lanes) (ms : List Lanes) → is_empty m ≡ false → IsGreatest (family (m ∷ ms)) n
          greatest m ms first =
              let some = some_lane m first in
              record {
                member = (some.0, subst (λ z. family (m ∷ ms) some.0 z ≡ true) (back_none n) (has_at (m ∷ ms) some.0 0 (omega arith) ∙ some.1));
                most = λ lane x t. pairs_most src n time (m ∷ ms) lane x (sym (family_any (pairs src n time (m ∷ ms)) lane x) ∙ t);
              }

  -- pairs of other sources are passed over
  epoch_past : (q src : Mac) (n : ℤ) (time : ℕ) (marks : List Lanes) (rest : List Noting) (now : ℕ) → mac_eq q src ≡ false →
      noted_epoch q now (pairs src n time marks ++ rest) ≡ noted_epoch q now rest
  epoch_past q src n time [] rest now other = refl
  epoch_past q src n time (m ∷ ms) rest now other =
      elim (cases_Bool (is_empty m)) [
        | inl empty ↦ rw empty (epoch_past q src (n -ℤ pos 1) time ms rest now other)
        | inr some ↦ rw (some, other) (epoch_past q src (n -ℤ pos 1) time ms rest now other)
      ]

  -- its own are all of one time
  epoch_own : (q src : Mac) (n : ℤ) (time : ℕ) (marks : List Lanes) (rest : List Noting) → mac_eq q src ≡ true →
      noted_epoch q time (pairs src n time marks ++ rest) ≡ pairs src n time marks ++ noted_epoch q time rest
  epoch_own q src n time [] rest own = refl
  epoch_own q src n time (m ∷ ms) rest own =
      elim (cases_Bool (is_empty m)) [
        | inl empty ↦ rw empty (epoch_own q src (n -ℤ pos 1) time ms rest own)
        | inr some ↦ rw (some, own, now_is_live time)
            (ap (λ xs. record { arrival = record { src = src; number = n; time = time }; lanes = m } ∷ xs)
            (epoch_own q src (n -ℤ pos 1) time ms rest own))
      ]

  epoch_later : (q src : Mac) (n : ℤ) (time : ℕ) (m : Lanes) (ms : List Lanes) (rest : List Noting) (now : ℕ) → mac_eq q src ≡ true →
      is_empty m ≡ false → noted_epoch q now (pairs src n time (m ∷ ms) ++ rest)
      ≡ cond (nat_lt (now - time) forget_time) (noted_epoch q time (pairs src n time (m ∷ ms) ++ rest)) []
  epoch_later q src n time m ms rest now own some =
      elim (cases_Bool (nat_lt (now - time) forget_time)) [
        | inl live ↦ rw (some, own, live, now_is_live time) refl
        | inr old ↦ rw (some, own, old) refl
      ]

  absent_epoch : (q : Mac) (top : Mac → ℤ) (s : Sources) (now : ℕ) → lookup (mac_eq q) s ≡ None → noted_epoch q now (stood top s) ≡ []
  absent_epoch q top [] now lacks = refl
  absent_epoch q top (e ∷ es) now lacks =
      elim (cases_Bool (mac_eq q e.0)) [
        | inl same ↦ let found : Some e.1 ≡ None = rw same at lacks in absurd cc
        | inr other ↦ epoch_past q e.0 (top e.0) e.1.time e.1.seen.marks (stood top es) now other
            ∙ absent_epoch q top es now (rw other at lacks)
      ]

  -- a table keeps the epochs of the pairs that it has
  entry_keeps : (from : ℕ) (q : Mac) (top : Mac → ℤ) (h : Remembered) (rest : List Noting) → IsSourceOf W from (top q) h →
      ((now : ℕ) → noted_epoch q now rest ≡ []) →
      KeepsEpoch W width q (pairs q (top q) h.time h.seen.marks ++ rest) from h
  entry_keeps from q top h rest is none_left = by h.seen.marks refl
    where
      all : noted_epoch q h.time (pairs q (top q) h.time h.seen.marks ++ rest) ≡ pairs q (top q) h.time h.seen.marks
      all = epoch_own q q (top q) h.time h.seen.marks rest (mac_refl q) ∙ ap (λ xs. pairs q (top q) h.time h.seen.marks ++ xs) (none_left h.time)
          ∙ append-nil (pairs q (top q) h.time h.seen.marks)

      stands : StandsFor W h.seen (family_of (noted_epoch q h.time (pairs q (top q) h.time h.seen.marks ++ rest)))
          (top_of (noted_epoch q h.time (pairs q (top q) h.time h.seen.marks ++ rest)))
      stands = subst (λ xs. StandsFor W h.seen (family_of xs) (top_of xs)) (sym all)
          (pairs_stand q (top q) h.time h.seen is.whole is.reference)

      by : (marks : List Lanes) → h.seen.marks ≡ marks → KeepsEpoch W width q (pairs q (top q) h.time h.seen.marks ++ rest) from h
      by [] same = let no : 0 ≡ W = sym (ap length same) ∙ is.whole.count in let some = width-some W width in absurd (omega (arith, no, some))
      by (m ∷ ms) same =
          let first : is_empty m ≡ false = sym (ap (λ l. is_empty (slice_index_or l 0 none)) same) ∙ is.whole.some in
          record {
            time = is.time;
            stands = stands;
            later = λ now g. subst (λ l. noted_epoch q now (pairs q (top q) h.time l ++ rest)
                ≡ cond (nat_lt (now - h.time) forget_time) (noted_epoch q h.time (pairs q (top q) h.time l ++ rest)) []) (sym same)
                (epoch_later q q (top q) h.time m ms rest now (mac_refl q) first);
          }

  -- what stands behind pairs of others
  keeps_behind : (from : ℕ) (q src : Mac) (n : ℤ) (time : ℕ) (marks : List Lanes) (xs : List Noting) (o : Option Remembered) → mac_eq q src ≡ false →
      Keeps W width q xs from o → Keeps W width q (pairs src n time marks ++ xs) from o
  keeps_behind from q src n time [] xs o other k = k
  keeps_behind from q src n time (m ∷ ms) xs o other k =
      let rest = keeps_behind from q src (n -ℤ pos 1) time ms xs o other k in
      elim (cases_Bool (is_empty m)) [
        | inl empty ↦ rw empty rest
        | inr some ↦ rw some (keeps_past W width q (record { arrival = record { src = src; number = n; time = time }; lanes = m })
            (pairs src (n -ℤ pos 1) time ms ++ xs) from o other rest)
      ]

  each_kept : (from : ℕ) (top : Mac → ℤ) (s : Sources) → IsDistinct mac_eq (keys_of s) →
      ((src : Mac) (h : Remembered) → lookup (mac_eq src) s ≡ Some h → IsSourceOf W from (top src) h) → (q : Mac) →
      Keeps W width q (stood top s) from (lookup (mac_eq q) s)
  each_kept from top [] keys each q = λ now le. refl
  each_kept from top (e ∷ es) keys each q =
      elim (cases_Bool (mac_eq q e.0)) [
        | inr other ↦ rw other (keeps_behind from q e.0 (top e.0) e.1.time e.1.seen.marks (stood top es) (lookup (mac_eq q) es) other
            (each_kept from top es (IsDistinct-tail mac_eq e.0 (keys_of es) keys) further q))
        | inl same ↦ rw same (subst (λ m. KeepsEpoch W width m (stood top (e ∷ es)) from e.1) (sym (mac_same q e.0 same)) here)
      ]
    where
      gone : lookup (mac_eq e.0) es ≡ None
      gone = lookup-none (mac_eq e.0) es (none_past_head mac_laws e.0 e es keys (mac_refl e.0))

      further : (src : Mac) (h : Remembered) → lookup (mac_eq src) es ≡ Some h → IsSourceOf W from (top src) h
      further src h found =
          elim (cases_Bool (mac_eq src e.0)) [
            | inr other ↦ each src h (rw other found)
            | inl same ↦
                let none_there : lookup (mac_eq src) es ≡ None = subst (λ m. lookup (mac_eq m) es ≡ None) (sym (mac_same src e.0 same)) gone in
                absurd (let no : None ≡ Some h = sym none_there ∙ found in cc)
          ]

      here : KeepsEpoch W width e.0 (stood top (e ∷ es)) from e.1
      here = entry_keeps from e.0 top e.1 (stood top es) (each e.0 e.1 (rw (mac_refl e.0) refl))
          (λ now. absent_epoch e.0 top es now gone)

  pub start_kept : (from : ℕ) (top : Mac → ℤ) (s : Sources) → IsStart W from top s → Kept W width (stood top s) from s
  start_kept from top s start = record { each = each_kept from top s start.keys start.each; keys = start.keys }

pub each_pair_is_new_after_a_start : EachPairIsNewAfterAStart
each_pair_is_new_after_a_start w width from top start begun x fresh before t lane run steady =
    new_once_from w width from (stood top start) start (start_kept w width from top start begun) x fresh before t lane run steady.0 steady.1

-- no number of pairs lies a window below the first
abbrev AllAbove : ℤ → List Arrival → Type 0
AllAbove n [] = Unit {0}
AllAbove n (x ∷ xs) = (n <ℤ x.number) × AllAbove n xs

above_less : (m n : ℤ) (xs : List Arrival) → m ≤ℤ n → AllAbove n xs → AllAbove m xs
above_less m n [] le all = tt
above_less m n (x ∷ xs) le all = (let a = all.0 in omega (arith, ints, le, a), above_less m n xs le all.1)

pairs_above : (src : Mac) (n : ℤ) (time : ℕ) (marks : List Lanes) → AllAbove (n -ℤ pos (length marks)) (arrivals_of (pairs src n time marks))
pairs_above src n time [] = tt
pairs_above src n time (m ∷ ms) =
    let rest = above_less (n -ℤ pos (length (m ∷ ms))) ((n -ℤ pos 1) -ℤ pos (length ms)) (arrivals_of (pairs src (n -ℤ pos 1) time ms))
    (omega (arith, ints)) (pairs_above src (n -ℤ pos 1) time ms) in
    elim (cases_Bool (is_empty m)) [
      | inl empty ↦ rw empty rest
      | inr some ↦ rw some (omega (arith, ints), rest)
    ]

greatest_least : (y : Arrival) (ys : List Arrival) → y.number ≤ℤ greatest_of (y ∷ ys)
greatest_least y [] = omega (arith, ints)
greatest_least y (z ∷ zs) = at_least (greatest_of (z ∷ zs)) y.number
  where
    at_least : (a b : ℤ) → b ≤ℤ greater a b
    at_least a b = grind (arith, ints)

near_of : (w : ℕ) → IsWidth w → (n : ℤ) (xs : List Arrival) → AllMost (n -ℤ pos 1) xs → AllAbove (n -ℤ pos w) xs → IsNearAll w xs n
near_of w width n [] most low = tt
near_of w width n (y ∷ ys) most low =
    let upper : greatest_of (y ∷ ys) ≤ℤ (n -ℤ pos 1) = greatest_most (n -ℤ pos 1) y ys most in
    let lower : y.number ≤ℤ greatest_of (y ∷ ys) = greatest_least y ys in
    let least = low.0 in
    by width upper lower least
  where
    by : IsWidth w → greatest_of (y ∷ ys) ≤ℤ (n -ℤ pos 1) → y.number ≤ℤ greatest_of (y ∷ ys) → (n -ℤ pos w) <ℤ y.number → IsNear w (greatest_of (y ∷ ys)) n
    by (inl is) upper lower least = record { above = omega (arith, ints, upper, is); below = omega (arith, ints, lower, least, is) }
    by (inr is) upper lower least = record { above = omega (arith, ints, upper, is); below = omega (arith, ints, lower, least, is) }

-- none of them is a copy of a later number
copies_pairs : (src : Mac) (n l : ℤ) (time : ℕ) (marks : List Lanes) (rest : List Noting) → l <ℤ n → copies_of src n (arrivals_of rest) ≡ [] →
    copies_of src n (arrivals_of (pairs src l time marks ++ rest)) ≡ []
copies_pairs src n l time [] rest less none_left = none_left
copies_pairs src n l time (m ∷ ms) rest less none_left =
    let further = copies_pairs src n (l -ℤ pos 1) time ms rest (omega (arith, ints, less)) none_left in
    let differ : int_eq n l ≡ false = false_from_ne_true (int_eq n l) (λ t. let same : n ≡ l = (Decides-int_eq n l).0 t in absurd (omega (arith, ints, less, same))) in
    elim (cases_Bool (is_empty m)) [
      | inl empty ↦ rw empty further
      | inr some ↦ rw (some, mac_refl src, differ) further
    ]

-- nor is any of another source
copies_other : (q src : Mac) (n l : ℤ) (time : ℕ) (marks : List Lanes) (rest : List Noting) → mac_eq q src ≡ false →
    copies_of q n (arrivals_of rest) ≡ [] → copies_of q n (arrivals_of (pairs src l time marks ++ rest)) ≡ []
copies_other q src n l time [] rest other none_left = none_left
copies_other q src n l time (m ∷ ms) rest other none_left =
    let further = copies_other q src n (l -ℤ pos 1) time ms rest other none_left in
    elim (cases_Bool (is_empty m)) [
      | inl empty ↦ rw empty further
      | inr some ↦ rw (some, other) further
    ]

copies_absent : (q : Mac) (n : ℤ) (top : Mac → ℤ) (s : Sources) → lookup (mac_eq q) s ≡ None → copies_of q n (arrivals_of (stood top s)) ≡ []
copies_absent q n top [] lacks = refl
copies_absent q n top (e ∷ es) lacks =
    elim (cases_Bool (mac_eq q e.0)) [
      | inl same ↦ let found : Some e.1 ≡ None = rw same at lacks in absurd cc
      | inr other ↦ copies_other q e.0 n (top e.0) e.1.time e.1.seen.marks (stood top es) other (copies_absent q n top es (rw other at lacks))
    ]

module _ (W : ℕ) (width : IsWidth W) where
  steady_pairs : (src : Mac) (n : ℤ) (time : ℕ) (marks : List Lanes) (rest : List Noting) → length marks ≤ W →
      ((now : ℕ) → noted_epoch src now rest ≡ []) → ((m : ℤ) → copies_of src m (arrivals_of rest) ≡ []) →
      AreSteady W (arrivals_of rest) → AreSteady W (arrivals_of (pairs src n time marks ++ rest))
  steady_pairs src n time [] rest few none_left none_same steady = steady
  steady_pairs src n time (m ∷ ms) rest few none_left none_same steady =
      let further = steady_pairs src (n -ℤ pos 1) time ms rest (omega (arith, few)) none_left none_same steady in
      elim (cases_Bool (is_empty m)) [
        | inl empty ↦ rw empty further
        | inr some ↦ rw some (further, (near, copies))
      ]
    where
      own : List Noting
      own = pairs src (n -ℤ pos 1) time ms

      epoch_is : epoch src time (arrivals_of (pairs src (n -ℤ pos 1) time ms ++ rest)) ≡ arrivals_of (pairs src (n -ℤ pos 1) time ms)
      epoch_is = sym (arrivals-epoch src time (pairs src (n -ℤ pos 1) time ms ++ rest))
          ∙ ap arrivals_of (epoch_own W width src src (n -ℤ pos 1) time ms rest (mac_refl src)
          ∙ ap (λ xs. pairs src (n -ℤ pos 1) time ms ++ xs) (none_left time) ∙ append-nil (pairs src (n -ℤ pos 1) time ms))

      near : IsNearAll W (epoch src time (arrivals_of (pairs src (n -ℤ pos 1) time ms ++ rest))) n
      near = subst (λ xs. IsNearAll W xs n) (sym epoch_is)
          (near_of W width n (arrivals_of (pairs src (n -ℤ pos 1) time ms)) (pairs_all src (n -ℤ pos 1) (n -ℤ pos 1) time ms (omega (arith, ints)))
          (above_less (n -ℤ pos W) ((n -ℤ pos 1) -ℤ pos (length ms)) (arrivals_of (pairs src (n -ℤ pos 1) time ms)) (omega (arith, ints, few))
          (pairs_above src (n -ℤ pos 1) time ms)))

      none_here : copies_of src n (arrivals_of (pairs src (n -ℤ pos 1) time ms)) ≡ []
      none_here = ap (λ xs. copies_of src n (arrivals_of xs)) (sym (append-nil (pairs src (n -ℤ pos 1) time ms)))
          ∙ copies_pairs src n (n -ℤ pos 1) time ms [] (omega (arith, ints)) refl

      copies : copies_of src n (arrivals_of (pairs src (n -ℤ pos 1) time ms ++ rest))
          ≡ copies_of src n (epoch src time (arrivals_of (pairs src (n -ℤ pos 1) time ms ++ rest)))
      copies = copies_pairs src n (n -ℤ pos 1) time ms rest (omega (arith, ints)) (none_same n)
          ∙ sym (ap (copies_of src n) epoch_is ∙ none_here)

  steady_start : (from : ℕ) (top : Mac → ℤ) (s : Sources) → IsDistinct mac_eq (keys_of s) →
      ((src : Mac) (h : Remembered) → lookup (mac_eq src) s ≡ Some h → IsSourceOf W from (top src) h) → AreSteady W (arrivals_of (stood top s))
  steady_start from top [] keys each = tt
  steady_start from top (e ∷ es) keys each =
      steady_pairs e.0 (top e.0) e.1.time e.1.seen.marks (stood top es) short (λ now. absent_epoch W width e.0 top es now gone)
      (λ m. copies_absent e.0 m top es gone) (steady_start from top es (IsDistinct-tail mac_eq e.0 (keys_of es) keys) further)
    where
      gone : lookup (mac_eq e.0) es ≡ None
      gone = lookup-none (mac_eq e.0) es (none_past_head mac_laws e.0 e es keys (mac_refl e.0))

      short : length e.1.seen.marks ≤ W
      short = let count = (each e.0 e.1 (rw (mac_refl e.0) refl)).whole.count in omega (arith, count)

      further : (src : Mac) (h : Remembered) → lookup (mac_eq src) es ≡ Some h → IsSourceOf W from (top src) h
      further src h found =
          elim (cases_Bool (mac_eq src e.0)) [
            | inr other ↦ each src h (rw other found)
            | inl same ↦
                let none_there : lookup (mac_eq src) es ≡ None = subst (λ m. lookup (mac_eq m) es ≡ None) (sym (mac_same src e.0 same)) gone in
                absurd (let no : None ≡ Some h = sym none_there ∙ found in cc)
          ]

pub starts_are_steady : StartsAreSteady
starts_are_steady w width from top s start = steady_start w width from top s start.keys start.each
