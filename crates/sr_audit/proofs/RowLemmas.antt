-- The rows of the numbers of stretches, with one arrival more.
use Rattle.std.proofs.Common.{◌≡◌, ℕ, zero, suc, ◌+◌, ◌-◌, ◌*◌, ◌%◌, ◌<◌, ◌≤◌, Bool, true, false, cond, ◌||◌, ◌⊎◌, List, [], ◌∷◌, Option, None, Some, ℤ, pos, negsuc, arith, refl, sym, ap, ◌∙◌, subst, inl, inr}
use Rattle.std.specs.Prelude.{slice_index_or, nat_lt, ◌+ℤ◌, ◌-ℤ◌, ◌<ℤ◌, ◌≤ℤ◌}
use Rattle.std.specs.Ordering.{int_eq}
use Rattle.std.proofs.lemmas.Bool.{cases_Bool, cases_lt, false_from_ne_true, lt-ltb, le-ltb, le-leb, lt-leb}
use Rattle.std.proofs.lemmas.Bool.Decides.{Decides-int_eq}
use Rattle.std.proofs.lemmas.Int.{ints}
use borrow.Author.Differences.{up, down}
use Rattle.sr_sequence.specs.Numbers.{wire, IsNear}
use Rattle.sr_sequence.specs.Places.{number_at, steps}
use Rattle.sr_sequence.specs.declared.Distance.{Distance}
use Rattle.sr_sequence.specs.declared.Distance.TheVariants.{Behind, Ahead}
use Rattle.sr_dup_window.specs.Families.{greater, StandsFor}
use Rattle.sr_dup_window.specs.Windows.{window_of, has_of}
use Rattle.sr_dup_window.specs.WindowLemmas.{has-by-family}
use Rattle.sr_audit.specs.declared.arrival.Arrival.{Arrival}
use Rattle.sr_audit.specs.declared.numbers.Numbers.{Numbers}
use Rattle.sr_audit.specs.declared.row.Rows.{Rows}
use Rattle.sr_audit.specs.declared.side.Side.{Side}
use Rattle.sr_audit.specs.declared.side.Side.TheVariants.{A, B}
use Rattle.sr_audit.specs.declared.span.Spans.{Spans}
use Rattle.sr_audit.specs.Edges.{first_time, KeepsTimes}
use Rattle.sr_audit.specs.Extents.{lesser, bottom_number, size_of, length_of}
use Rattle.sr_audit.specs.Following.{family_in, KeepsFigures}
use Rattle.sr_audit.specs.Lanes.{side_lane}
use Rattle.sr_audit.specs.Limits.{kept_numbers, place_in, epoch_gap}
use Rattle.sr_audit.specs.Looks.{step_to, step_by}
use Rattle.sr_audit.specs.Rows.{row_with, row_on, row_of, kept_number, rows_with, rows_on, no_rows, rows_begun, rows_left, rows_of, rows_kept, rows_by, rows_passed, rows_before, KeepsRows}
use Rattle.sr_audit.specs.Stretches.{Placed, copy_as, came, top_number, lies_from, goes_to, stretch_begun, current, with_arrival, stretches}
use Rattle.sr_audit.specs.Taken.{IsKeptIn}
use Rattle.sr_audit.proofs.ExtentLemmas.{length_is, greater_ahead, greater_behind, lesser_ahead, lesser_down, lesser_up}
use Rattle.sr_audit.proofs.FollowLemmas.{family_came, none_stands}
use Rattle.sr_audit.proofs.FrameLemmas.{came-other, first_other}

-- a row in two parts
more_on : (n : ℤ) (j k : ℕ) → (n +ℤ pos j) +ℤ pos k ≡ n +ℤ pos (j + k)
more_on n j k = omega (arith, ints)

split : (spans : Spans) (s : List Placed) (n : ℤ) (j k : ℕ) (r : Rows) →
    rows_on spans s (n +ℤ pos j) k (rows_on spans s n j r) ≡ rows_on spans s n (j + k) r
split spans s n j zero r = ap (λ i. rows_on spans s n i r) (none_more j)
  where
    none_more : (j : ℕ) → j ≡ j + 0
    none_more j = omega arith
split spans s n j (suc k) r =
    let at = more_on n j k in
    ap (λ m. rows_with spans (came A m s) (came B m s) (first_time m s) (rows_on spans s (n +ℤ pos j) k (rows_on spans s n j r))) at
    ∙ ap (rows_with spans (came A (n +ℤ pos (j + k)) s) (came B (n +ℤ pos (j + k)) s) (first_time (n +ℤ pos (j + k)) s)) (split spans s n j k r)
    ∙ ap (λ i. rows_on spans s n i r) (one_more j k)
  where
    one_more : (j k : ℕ) → suc (j + k) ≡ j + suc k
    one_more j k = omega arith

-- numbers of no frame
none_on : (spans : Spans) (s : List Placed) (n : ℤ) (k : ℕ) (r : Rows) →
    ((side : Side) (i : ℕ) → i < k → came side (n +ℤ pos i) s ≡ false) → rows_on spans s n k r ≡ r
none_on spans s n zero r none = refl
none_on spans s n (suc k) r none =
    rw (none A k (omega arith), none B k (omega arith)) (none_on spans s n k r (λ side i lt. none side i (omega (arith, lt))))

-- numbers of which a copy more is none
same_on : (spans : Spans) (y : Placed) (s : List Placed) (n : ℤ) (k : ℕ) (r : Rows) →
    ((i : ℕ) → i < k → int_eq (n +ℤ pos i) y.number ≡ false) → rows_on spans (y ∷ s) n k r ≡ rows_on spans s n k r
same_on spans y s n zero r other = refl
same_on spans y s n (suc k) r other =
    let m = n +ℤ pos k in
    let here : int_eq m y.number ≡ false = other k (omega arith) in
    let ih : rows_on spans (y ∷ s) n k r ≡ rows_on spans s n k r = same_on spans y s n k r (λ i lt. other i (omega (arith, lt))) in
    ap (λ b. rows_with spans b (came B m (y ∷ s)) (first_time m (y ∷ s)) (rows_on spans (y ∷ s) n k r)) (came-other A m y s here)
    ∙ ap (λ b. rows_with spans (came A m s) b (first_time m (y ∷ s)) (rows_on spans (y ∷ s) n k r)) (came-other B m y s here)
    ∙ ap (λ t. rows_with spans (came A m s) (came B m s) t (rows_on spans (y ∷ s) n k r)) (first_other m y s here)
    ∙ ap (rows_with spans (came A m s) (came B m s) (first_time m s)) ih

-- the least number of a stretch
lesser_under : (m n : ℤ) → lesser m n ≤ℤ m
lesser_under m n = grind (arith, ints)

lesser_over : (m n : ℤ) → lesser m n ≤ℤ n
lesser_over m n = grind (arith, ints)

same_le : (m n : ℤ) → m ≡ n → m ≤ℤ n
same_le m n e = omega (arith, ints, e)

trans_le : (k m n : ℤ) → k ≤ℤ m → m ≤ℤ n → k ≤ℤ n
trans_le k m n g h = omega (arith, ints, g, h)

came_over : (side : Side) (s : List Placed) (n : ℤ) → came side n s ≡ true → bottom_number s ≤ℤ n
came_over side [] n is = let no : false ≡ true = is in absurd cc
came_over side (y ∷ []) n is =
    elim (cases_Bool (int_eq n y.number)) [
      | inl same ↦ same_le y.number n (sym ((Decides-int_eq n y.number).0 same))
      | inr other ↦ let no : false ≡ true = sym (came-other side n y [] other) ∙ is in absurd cc
    ]
came_over side (y ∷ z ∷ before) n is =
    elim (cases_Bool (int_eq n y.number)) [
      | inl same ↦ trans_le _ y.number n (lesser_over (bottom_number (z ∷ before)) y.number)
          (same_le y.number n (sym ((Decides-int_eq n y.number).0 same)))
      | inr other ↦ trans_le _ (bottom_number (z ∷ before)) n (lesser_under (bottom_number (z ∷ before)) y.number)
          (came_over side (z ∷ before) n (sym (came-other side n y (z ∷ before) other) ∙ is))
    ]

pub not_below : (side : Side) (s : List Placed) (n : ℤ) → n <ℤ bottom_number s → came side n s ≡ false
not_below side s n lt =
    elim (cases_Bool (came side n s)) [
      | inl is ↦ absurd (crossed n (bottom_number s) lt (came_over side s n is))
      | inr none ↦ none
    ]
  where
    crossed : (m b : ℤ) → m <ℤ b → b ≤ℤ m → ⊥
    crossed m b g h = omega (arith, ints, g, h)

-- it lies no higher than the greatest
lesser_greater : (b t m : ℤ) → b ≤ℤ t → lesser b m ≤ℤ greater t m
lesser_greater b t m le = grind (arith, ints)

bottom_le : (y : Placed) (s : List Placed) → bottom_number (y ∷ s) ≤ℤ top_number (y ∷ s)
bottom_le y [] = same_le y.number y.number refl
bottom_le y (z ∷ s) = lesser_greater (bottom_number (z ∷ s)) (top_number (z ∷ s)) y.number (bottom_le z s)

pub size_is : (b t : ℤ) → b ≤ℤ t → t ≡ b +ℤ pos (size_of (t -ℤ b))
size_is b t le = by (t -ℤ b) refl
  where
    by : (d : ℤ) → t -ℤ b ≡ d → t ≡ b +ℤ pos (size_of d)
    by (pos n) e = omega (arith, ints, e)
    by (negsuc n) e = absurd (no n e)
      where
        no : (n : ℕ) → t -ℤ b ≡ negsuc n → ⊥
        no n e = omega (arith, ints, e, le)

-- the greatest number is the length above the least, less one
top_is : (y : Placed) (s : List Placed) → top_number (y ∷ s) +ℤ pos 1 ≡ bottom_number (y ∷ s) +ℤ pos (length_of (y ∷ s))
top_is y s = one (top_number (y ∷ s)) (bottom_number (y ∷ s)) _ (size_is (bottom_number (y ∷ s)) (top_number (y ∷ s)) (bottom_le y s))
  where
    one : (t b : ℤ) (d : ℕ) → t ≡ b +ℤ pos d → t +ℤ pos 1 ≡ b +ℤ pos (d + 1)
    one t b d e = omega (arith, ints, e)

-- of a stretch whose numbers 1024 and more below the greatest are in a row, the next ones too
sweep : (spans : Spans) (y : Placed) (s : List Placed) (k : ℕ) (r : Rows) →
    rows_on spans (y ∷ s) (top_number (y ∷ s) -ℤ pos 1023) k (rows_on spans (y ∷ s) (bottom_number (y ∷ s)) (length_of (y ∷ s) - 1024) r)
    ≡ rows_on spans (y ∷ s) (bottom_number (y ∷ s)) (length_of (y ∷ s) + k - 1024) r
sweep spans y s k r = by (cases_lt len 1024)
  where
    b : ℤ
    b = bottom_number (y ∷ s)

    t : ℤ
    t = top_number (y ∷ s)

    len : ℕ
    len = length_of (y ∷ s)

    R : ℤ → ℕ → Rows → Rows
    R n j r = rows_on spans (y ∷ s) n j r

    long_at : 1024 ≤ len → t -ℤ pos 1023 ≡ b +ℤ pos (len - 1024)
    long_at le = go t b len (top_is y s) le
      where
        go : (t b : ℤ) (l : ℕ) → t +ℤ pos 1 ≡ b +ℤ pos l → 1024 ≤ l → t -ℤ pos 1023 ≡ b +ℤ pos (l - 1024)
        go t b l e f = omega (arith, ints, e, f)

    short_at : len < 1024 → (t -ℤ pos 1023) +ℤ pos (1024 - len) ≡ b
    short_at lt = go t b len (top_is y s) lt
      where
        go : (t b : ℤ) (l : ℕ) → t +ℤ pos 1 ≡ b +ℤ pos l → l < 1024 → (t -ℤ pos 1023) +ℤ pos (1024 - l) ≡ b
        go t b l e f = omega (arith, ints, e, f)

    below : (i j : ℕ) → len < 1024 → i < j → j ≤ 1024 - len → ((t -ℤ pos 1023) +ℤ pos i) <ℤ b
    below i j lt f g = go t b len i j (top_is y s) lt f g
      where
        go : (t b : ℤ) (l i j : ℕ) → t +ℤ pos 1 ≡ b +ℤ pos l → l < 1024 → i < j → j ≤ 1024 - l → ((t -ℤ pos 1023) +ℤ pos i) <ℤ b
        go t b l i j e lt f g = omega (arith, ints, e, lt, f, g)

    none_low : (j : ℕ) → len < 1024 → j ≤ 1024 - len → R (t -ℤ pos 1023) j r ≡ r
    none_low j lt le = none_on spans (y ∷ s) (t -ℤ pos 1023) j r
        (λ side i f. not_below side (y ∷ s) ((t -ℤ pos 1023) +ℤ pos i) (below i j lt f le))

    nothing : len < 1024 → len - 1024 ≡ 0
    nothing lt = omega (arith, lt)

    by : (len < 1024) ⊎ (1024 ≤ len) → R (t -ℤ pos 1023) k (R b (len - 1024) r) ≡ R b (len + k - 1024) r
    by (inr le) =
        let count : (len - 1024) + k ≡ len + k - 1024 = omega (arith, le) in
        ap (λ n. R n k (R b (len - 1024) r)) (long_at le) ∙ split spans (y ∷ s) b (len - 1024) k r ∙ ap (λ j. R b j r) count
    by (inl lt) = ap (λ j. R (t -ℤ pos 1023) k (R b j r)) (nothing lt) ∙ short lt (cases_lt (1024 - len) k)
      where
        short : len < 1024 → ((1024 - len) < k) ⊎ (k ≤ 1024 - len) → R (t -ℤ pos 1023) k r ≡ R b (len + k - 1024) r
        short lt (inr few) =
            let zero_left : 0 ≡ len + k - 1024 = omega (arith, lt, few) in
            none_low k lt few ∙ ap (λ j. R b j r) zero_left
        short lt (inl more) =
            let parts : k ≡ (1024 - len) + (k - (1024 - len)) = omega (arith, more) in
            let rest : k - (1024 - len) ≡ len + k - 1024 = omega (arith, lt, more) in
            ap (λ j. R (t -ℤ pos 1023) j r) parts ∙ sym (split spans (y ∷ s) (t -ℤ pos 1023) (1024 - len) (k - (1024 - len)) r)
            ∙ ap (λ r. R ((t -ℤ pos 1023) +ℤ pos (1024 - len)) (k - (1024 - len)) r) (none_low (1024 - len) lt (omega arith))
            ∙ ap (λ n. R n (k - (1024 - len)) r) (short_at lt) ∙ ap (λ j. R b j r) rest

-- the numbers that the record keeps
pub wire_up : (z : ℤ) → wire z ≡ (up z + 65535 * down z) % 65536
wire_up (pos n) = omega arith
wire_up (negsuc n) = omega arith

pub kept_is : (t : ℤ) (k : ℕ) → wire ((t -ℤ pos 1023) +ℤ pos k) ≡ kept_number (wire t) k
kept_is t k = go (t -ℤ pos 1023 +ℤ pos k) (wire_up t) (wire_up (t -ℤ pos 1023 +ℤ pos k)) (apart t k)
  where
    apart : (t : ℤ) (k : ℕ) → up (t -ℤ pos 1023 +ℤ pos k) + 1023 + down t ≡ up t + k + down (t -ℤ pos 1023 +ℤ pos k)
    apart t k = omega (arith, ints)

    mods : (a b c d w v k : ℕ) → w ≡ (a + 65535 * b) % 65536 → v ≡ (c + 65535 * d) % 65536 → c + 1023 + b ≡ a + k + d →
        v ≡ (w + 64513 + k) % 65536
    mods a b c d w v k e f g = omega (arith, e, f, g)

    go : (z : ℤ) → wire t ≡ (up t + 65535 * down t) % 65536 → wire z ≡ (up z + 65535 * down z) % 65536 →
        up z + 1023 + down t ≡ up t + k + down z → wire z ≡ (wire t + 64513 + k) % 65536
    go z e f g = mods (up t) (down t) (up z) (down z) (wire t) (wire z) k e f g

pub near_low : (t : ℤ) (k : ℕ) → k < 1024 → (t -ℤ pos 1024) <ℤ ((t -ℤ pos 1023) +ℤ pos k)
near_low t k lt = omega (arith, ints, lt)

pub near_high : (t : ℤ) (k : ℕ) → k < 1024 → ((t -ℤ pos 1023) +ℤ pos k) ≤ℤ (t +ℤ pos 64512)
near_high t k lt = omega (arith, ints, lt)

-- where no copy came, the time says nothing
any_row : (spans : Spans) (a b : Bool) (t u : ℕ) (r : Rows) → ((a || b) ≡ true → t ≡ u) → rows_with spans a b t r ≡ rows_with spans a b u r
any_row spans true b t u r same = ap (λ v. rows_with spans true b v r) (same refl)
any_row spans false true t u r same = ap (λ v. rows_with spans false true v r) (same refl)
any_row spans false false t u r same = refl

-- a row by the record is that of the stretch
kept_on : (spans : Spans) (s : List Placed) (n : Numbers) (moments : List ℕ) →
    StandsFor kept_numbers (window_of n.seen) (family_in s) (top_number s) → KeepsTimes s moments → (k : ℕ) → k ≤ 1024 → (r : Rows) →
    rows_kept spans (window_of n.seen) moments k r ≡ rows_on spans s (top_number s -ℤ pos 1023) k r
kept_on spans s n moments stands times zero le r = refl
kept_on spans s n moments stands times (suc k) le r =
    let t = top_number s in
    let m = (t -ℤ pos 1023) +ℤ pos k in
    let w = window_of n.seen in
    let q = kept_number w.reference k in
    let carried : wire m ≡ q = kept_is t k ∙ ap (λ f. kept_number f k) (sym stands.reference) in
    let near : IsNear kept_numbers t m = record { above = near_low t k (omega (arith, le)); below = near_high t k (omega (arith, le)) } in
    let at_a : has_of kept_numbers w (side_lane A) q ≡ came A m s =
    has-by-family kept_numbers w (family_in s) t m q (side_lane A) (inl refl) stands near carried ∙ family_came s A m in
    let at_b : has_of kept_numbers w (side_lane B) q ≡ came B m s =
    has-by-family kept_numbers w (family_in s) t m q (side_lane B) (inl refl) stands near carried ∙ family_came s B m in
    let time : (came A m s || came B m s) ≡ true → slice_index_or moments (place_in q) 0 ≡ first_time m s =
    λ some. ap (λ p. slice_index_or moments (place_in p) 0) (sym carried) ∙ times m some near.above in
    ap (λ b. rows_with spans b (has_of kept_numbers w (side_lane B) q) (slice_index_or moments (place_in q) 0) (rows_kept spans w moments k r)) at_a
    ∙ ap (λ b. rows_with spans (came A m s) b (slice_index_or moments (place_in q) 0) (rows_kept spans w moments k r)) at_b
    ∙ any_row spans (came A m s) (came B m s) (slice_index_or moments (place_in q) 0) (first_time m s) (rows_kept spans w moments k r) time
    ∙ ap (rows_with spans (came A m s) (came B m s) (first_time m s)) (kept_on spans s n moments stands times k (omega (arith, le)) r)

-- how far the least number of a stretch lies below its greatest
pub depth_is : (y : Placed) (s : List Placed) → bottom_number (y ∷ s) ≡ top_number (y ∷ s) -ℤ pos (size_of (top_number (y ∷ s) -ℤ bottom_number (y ∷ s)))
depth_is y s = turned (top_number (y ∷ s)) (bottom_number (y ∷ s)) _ (size_is (bottom_number (y ∷ s)) (top_number (y ∷ s)) (bottom_le y s))
  where
    turned : (t b : ℤ) (d : ℕ) → t ≡ b +ℤ pos d → b ≡ t -ℤ pos d
    turned t b d e = omega (arith, ints, e)

lt_ne : (n m : ℤ) → n <ℤ m → int_eq n m ≡ false
lt_ne n m lt = false_from_ne_true (int_eq n m) (λ e. crossed ((Decides-int_eq n m).0 e))
  where
    crossed : n ≡ m → ⊥
    crossed e = omega (arith, ints, lt, e)

-- with a copy ahead of the greatest number
ahead_row : (spans : Spans) (z : Placed) (before : List Placed) (rest : List (List Placed)) (x : Arrival) (m : ℤ) (k : ℕ) (r : Rows) →
    m ≡ top_number (z ∷ before) +ℤ pos k → k < 1024 → KeepsRows spans ((z ∷ before) ∷ rest) r →
    KeepsRows spans ((copy_as x m ∷ z ∷ before) ∷ rest) (rows_on spans (z ∷ before) (top_number (z ∷ before) -ℤ pos 1023) k r)
ahead_row spans z before rest x m k r is small keeps =
    let first = rows_begun (rows_left spans rest) in
    let s = z ∷ before in
    let t = top_number s in
    let b = bottom_number s in
    let d = size_of (t -ℤ b) in
    let c = copy_as x m in
    let deep : b ≡ t -ℤ pos d = depth_is z before in
    let bottom : bottom_number (c ∷ s) ≡ b = lesser_ahead t b m d k deep is in
    let deeper : bottom_number (c ∷ s) ≡ top_number (c ∷ s) -ℤ pos (d + k) =
    bottom ∙ deep ∙ further t m d k is ∙ ap (λ g. g -ℤ pos (d + k)) (sym (greater_ahead t m k is)) in
    let len : length_of (c ∷ s) ≡ (d + k) + 1 = length_is c s (d + k) deeper in
    let count : length_of s + k - 1024 ≡ length_of (c ∷ s) - 1024 = omega (arith, len) in
    let others : (i : ℕ) → i < length_of (c ∷ s) - 1024 → int_eq (b +ℤ pos i) m ≡ false =
    λ i lt. lt_ne (b +ℤ pos i) m (lower t b m d k i (length_of (c ∷ s)) deep is len lt) in
    record {
      rows = ap (rows_on spans s (t -ℤ pos 1023) k) keeps.rows ∙ sweep spans z before k first ∙ ap (λ j. rows_on spans s b j first) count
          ∙ sym (same_on spans c s b (length_of (c ∷ s) - 1024) first others)
          ∙ ap (λ n. rows_on spans (c ∷ s) n (length_of (c ∷ s) - 1024) first) (sym bottom);
    }
  where
    further : (t m : ℤ) (d k : ℕ) → m ≡ t +ℤ pos k → t -ℤ pos d ≡ m -ℤ pos (d + k)
    further t m d k e = omega (arith, ints, e)

    lower : (t b m : ℤ) (d k i l : ℕ) → b ≡ t -ℤ pos d → m ≡ t +ℤ pos k → l ≡ (d + k) + 1 → i < l - 1024 → (b +ℤ pos i) <ℤ m
    lower t b m d k i l e f g lt = omega (arith, ints, e, f, g, lt)

-- with a copy that is the greatest number or lies behind it
behind_row : (spans : Spans) (z : Placed) (before : List Placed) (rest : List (List Placed)) (x : Arrival) (m : ℤ) (k : ℕ) (r : Rows) →
    m ≡ top_number (z ∷ before) -ℤ pos k → k < 1024 → KeepsRows spans ((z ∷ before) ∷ rest) r →
    KeepsRows spans ((copy_as x m ∷ z ∷ before) ∷ rest) r
behind_row spans z before rest x m k r is small keeps = record { rows = keeps.rows ∙ by (cases_lt d 1024) }
  where
    first : Rows
    first = rows_begun (rows_left spans rest)

    s : List Placed
    s = z ∷ before

    t : ℤ
    t = top_number (z ∷ before)

    b : ℤ
    b = bottom_number (z ∷ before)

    d : ℕ
    d = size_of (t -ℤ b)

    c : Placed
    c = copy_as x m

    deep : b ≡ t -ℤ pos d
    deep = depth_is z before

    none_left : (l : ℕ) → l ≤ 1024 → 0 ≡ l - 1024
    none_left l le = omega (arith, le)

    lower : (t b m : ℤ) (d k i : ℕ) → b ≡ t -ℤ pos d → m ≡ t -ℤ pos k → k < 1024 → i < (d + 1) - 1024 → (b +ℤ pos i) <ℤ m
    lower t b m d k i e f g lt = omega (arith, ints, e, f, g, lt)

    short : d < 1024 → length_of (c ∷ s) ≤ 1024
    short lt = go (cases_lt k d)
      where
        go : (k < d) ⊎ (d ≤ k) → length_of (c ∷ s) ≤ 1024
        go (inl less) =
            let deeper : bottom_number (c ∷ s) ≡ top_number (c ∷ s) -ℤ pos d =
            lesser_up t b m d k deep is less ∙ deep ∙ ap (λ g. g -ℤ pos d) (sym (greater_behind t m k is)) in
            omega (arith, length_is c s d deeper, lt)
        go (inr more) =
            let deeper : bottom_number (c ∷ s) ≡ top_number (c ∷ s) -ℤ pos k =
            lesser_down t b m d k deep is more ∙ is ∙ ap (λ g. g -ℤ pos k) (sym (greater_behind t m k is)) in
            omega (arith, length_is c s k deeper, small)

    by : (d < 1024) ⊎ (1024 ≤ d) → rows_on spans s b (length_of s - 1024) first ≡ rows_on spans (c ∷ s) (bottom_number (c ∷ s)) (length_of (c ∷ s) - 1024) first
    by (inl lt) =
        let old : length_of s - 1024 ≡ 0 = sym (none_left (length_of s) (omega (arith, lt))) in
        let new : 0 ≡ length_of (c ∷ s) - 1024 = none_left (length_of (c ∷ s)) (short lt) in
        ap (λ j. rows_on spans s b j first) old ∙ ap (λ j. rows_on spans (c ∷ s) (bottom_number (c ∷ s)) j first) new
    by (inr le) =
        let less : k < d = omega (arith, small, le) in
        let bottom : bottom_number (c ∷ s) ≡ b = lesser_up t b m d k deep is less in
        let deeper : bottom_number (c ∷ s) ≡ top_number (c ∷ s) -ℤ pos d =
        bottom ∙ deep ∙ ap (λ g. g -ℤ pos d) (sym (greater_behind t m k is)) in
        let len : length_of (c ∷ s) ≡ d + 1 = length_is c s d deeper in
        let count : length_of s - 1024 ≡ length_of (c ∷ s) - 1024 = omega (arith, len) in
        let others : (i : ℕ) → i < length_of s - 1024 → int_eq (b +ℤ pos i) m ≡ false =
        λ i lt. lt_ne (b +ℤ pos i) m (lower t b m d k i deep is small lt) in
        sym (same_on spans c s b (length_of s - 1024) first others) ∙ ap (λ j. rows_on spans (c ∷ s) b j first) count
        ∙ ap (λ n. rows_on spans (c ∷ s) n (length_of (c ∷ s) - 1024) first) (sym bottom)

-- where a stretch begins
no_deeper : (m : ℤ) → m ≡ m -ℤ pos 0
no_deeper m = omega (arith, ints)

begun_row : (spans : Spans) (x : Arrival) (ss : List (List Placed)) (r : Rows) → KeepsRows spans ss r →
    KeepsRows spans (stretch_begun x ∷ ss) (rows_begun r)
begun_row spans x ss r keeps =
    let len : length_of (stretch_begun x) ≡ 0 + 1 = length_is (copy_as x (pos x.seq.0)) [] 0 (no_deeper (pos x.seq.0)) in
    let none : 0 ≡ length_of (stretch_begun x) - 1024 = omega (arith, len) in
    record {
      rows = ap rows_begun keeps.rows
          ∙ ap (λ j. rows_on spans (stretch_begun x) (bottom_number (stretch_begun x)) j (rows_begun (rows_left spans ss))) none;
    }

-- with one arrival more
goes_row : (spans : Spans) (z : Placed) (before : List Placed) (rest : List (List Placed)) (x : Arrival) (n : Numbers) (moments : List ℕ) (r : Rows) →
    KeepsFigures ((z ∷ before) ∷ rest) n → KeepsTimes (z ∷ before) moments → KeepsRows spans ((z ∷ before) ∷ rest) r →
    KeepsRows spans (with_arrival ((z ∷ before) ∷ rest) x)
    (rows_by spans (window_of n.seen) moments r (step_by (wire (top_number (z ∷ before))) z.time x))
goes_row spans z before rest x n moments r stands times keeps =
    place (cases_lt (steps x.seq.0 (wire t)) kept_numbers) (cases_lt (steps (wire t) x.seq.0) kept_numbers) (cases_Bool soon)
  where
    s : List Placed
    s = z ∷ before

    t : ℤ
    t = top_number s

    soon : Bool
    soon = nat_lt (x.time - z.time) epoch_gap

    -- by the place of the number
    By : Distance → Type 0
    By p = KeepsRows spans (cond (goes_to soon p) ((copy_as x (number_at t p) ∷ s) ∷ rest) (stretch_begun x ∷ s ∷ rest))
        (rows_by spans (window_of n.seen) moments r (step_to soon p))

    lies : (b : Bool) → nat_lt (steps x.seq.0 (wire t)) kept_numbers ≡ b →
        cond b (Behind (steps x.seq.0 (wire t))) (Ahead (steps (wire t) x.seq.0)) ≡ lies_from s x.seq.0
    lies b e = ap (λ c. cond c (Behind (steps x.seq.0 (wire t))) (Ahead (steps (wire t) x.seq.0))) (sym e)

    place : (steps x.seq.0 (wire t) < kept_numbers) ⊎ (kept_numbers ≤ steps x.seq.0 (wire t)) →
        (steps (wire t) x.seq.0 < kept_numbers) ⊎ (kept_numbers ≤ steps (wire t) x.seq.0) → (soon ≡ true) ⊎ (soon ≡ false) → By (lies_from s x.seq.0)
    place (inl less) any (inl near) =
        subst By (lies true (lt-ltb (steps x.seq.0 (wire t)) kept_numbers less))
        (rw near (behind_row spans z before rest x (t -ℤ pos (steps x.seq.0 (wire t))) (steps x.seq.0 (wire t)) r refl less keeps))
    place (inl less) any (inr silent) =
        subst By (lies true (lt-ltb (steps x.seq.0 (wire t)) kept_numbers less)) (rw silent (begun_row spans x (s ∷ rest) r keeps))
    place (inr more) (inl close) any =
        subst By (lies false (le-ltb (steps x.seq.0 (wire t)) kept_numbers more))
        (rw (lt-leb kept_numbers (steps (wire t) x.seq.0) close)
        (subst (KeepsRows spans ((copy_as x (t +ℤ pos (steps (wire t) x.seq.0)) ∷ s) ∷ rest))
        (sym (kept_on spans s n moments stands.seen times (steps (wire t) x.seq.0) (omega (arith, close)) r))
        (ahead_row spans z before rest x (t +ℤ pos (steps (wire t) x.seq.0)) (steps (wire t) x.seq.0) r refl close keeps)))
    place (inr more) (inr far) (inl near) =
        subst By (lies false (le-ltb (steps x.seq.0 (wire t)) kept_numbers more))
        (rw (near, le-leb kept_numbers (steps (wire t) x.seq.0) far) (begun_row spans x (s ∷ rest) r keeps))
    place (inr more) (inr far) (inr silent) =
        subst By (lies false (le-ltb (steps x.seq.0 (wire t)) kept_numbers more))
        (rw (silent, le-leb kept_numbers (steps (wire t) x.seq.0) far) (begun_row spans x (s ∷ rest) r keeps))

pub rows_follow : (spans : Spans) (xs : List Arrival) (x : Arrival) (o : Option Numbers) (moments : List ℕ) (r : Rows) → IsKeptIn xs o →
    KeepsTimes (current (stretches xs)) moments → KeepsRows spans (stretches xs) r →
    KeepsRows spans (stretches (x ∷ xs)) (rows_passed spans x o moments r)
rows_follow spans xs x None moments r none times keeps =
    subst (λ ys. KeepsRows spans (stretches (x ∷ ys)) (rows_begun r)) (sym none)
    (begun_row spans x [] r (subst (λ ys. KeepsRows spans (stretches ys) r) none keeps))
rows_follow spans xs x (Some n) moments r follows times keeps = go (stretches xs) follows times keeps
  where
    go : (ss : List (List Placed)) → KeepsFigures ss n → KeepsTimes (current ss) moments → KeepsRows spans ss r →
        KeepsRows spans (with_arrival ss x) (rows_by spans (window_of n.seen) moments r (step_by (window_of n.seen).reference n.last x))
    go [] stands kept rows = absurd (none_stands n stands.seen)
    go ([] ∷ rest) stands kept rows = absurd (none_stands n stands.seen)
    go ((z ∷ before) ∷ rest) stands kept rows =
        subst (λ f. KeepsRows spans (with_arrival ((z ∷ before) ∷ rest) x) (rows_by spans (window_of n.seen) moments r (step_by f n.last x)))
        (sym stands.seen.reference)
        (subst (λ l. KeepsRows spans (with_arrival ((z ∷ before) ∷ rest) x)
        (rows_by spans (window_of n.seen) moments r (step_by (wire (top_number (z ∷ before))) l x))) (sym stands.last)
        (goes_row spans z before rest x n moments r stands kept rows))

-- the rows at the end
pub rows_end : (spans : Spans) (xs : List Arrival) (o : Option Numbers) (moments : List ℕ) (r : Rows) → IsKeptIn xs o →
    KeepsTimes (current (stretches xs)) moments → KeepsRows spans (stretches xs) r →
    rows_before spans o moments r ≡ rows_of spans (stretches xs)
rows_end spans xs None moments r none times keeps =
    let kept : KeepsRows spans [] r = subst (λ ys. KeepsRows spans (stretches ys) r) none keeps in
    subst (λ ys. r ≡ rows_of spans (stretches ys)) (sym none) kept.rows
rows_end spans xs (Some n) moments r follows times keeps = go (stretches xs) follows times keeps
  where
    go : (ss : List (List Placed)) → KeepsFigures ss n → KeepsTimes (current ss) moments → KeepsRows spans ss r →
        rows_kept spans (window_of n.seen) moments 1024 r ≡ rows_of spans ss
    go [] stands kept rows = absurd (none_stands n stands.seen)
    go ([] ∷ rest) stands kept rows = absurd (none_stands n stands.seen)
    go ((z ∷ before) ∷ rest) stands kept rows =
        let s = z ∷ before in
        let first = rows_begun (rows_left spans rest) in
        let all : length_of s + 1024 - 1024 ≡ length_of s = omega arith in
        kept_on spans s n moments stands.seen kept 1024 (omega arith) r
        ∙ ap (rows_on spans s (top_number s -ℤ pos 1023) 1024) rows.rows ∙ sweep spans z before 1024 first
        ∙ ap (λ j. rows_on spans s (bottom_number s) j first) all

-- the row at the end is that of the last stretch alone
at_end_on : (spans : Spans) (s : List Placed) (n : ℤ) (k : ℕ) (r : Rows) → (rows_on spans s n k r).at_end ≡ row_on spans s n k r.at_end
at_end_on spans s n zero r = refl
at_end_on spans s n (suc k) r =
    ap (row_with spans (came A (n +ℤ pos k) s) (came B (n +ℤ pos k) s) (first_time (n +ℤ pos k) s)) (at_end_on spans s n k r)

pub last_row : (spans : Spans) (ss : List (List Placed)) → (rows_of spans ss).at_end ≡ row_of spans (current ss)
last_row spans [] = refl
last_row spans (s ∷ before) = at_end_on spans s (bottom_number s) (length_of s) (rows_begun (rows_left spans before))

-- what is kept before an arrival came
pub none_in_rows : (spans : Spans) → KeepsRows spans [] no_rows
none_in_rows spans = record { rows = refl }
