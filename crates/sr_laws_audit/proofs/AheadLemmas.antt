-- All lines of the stretches of a source, with one arrival more that lies ahead or begins a stretch.
use Rattle.std.proofs.Common.{◌≡◌, ℕ, ◌+◌, ◌-◌, ◌<◌, Bool, true, false, ◌||◌, ◌&&◌, List, [], ◌∷◌, ◌++◌, ℤ, pos, arith, refl, sym, ap, ◌∙◌, subst, inl, inr}
use Rattle.std.specs.Prelude.{sum_by, ◌+ℤ◌, ◌-ℤ◌, ◌<ℤ◌, ◌≤ℤ◌}
use Rattle.std.specs.Ordering.{int_eq}
use Rattle.std.proofs.lemmas.Bool.{cases_Bool}
use Rattle.std.proofs.lemmas.Bool.Decides.{Decides-int_eq}
use Rattle.std.proofs.lemmas.Int.{ints, by_lt_z}
use Rattle.std.proofs.lemmas.List.Sums.{sum_by-append}
use Rattle.sr_sequence.specs.Numbers.{wire}
use Rattle.sr_audit.specs.declared.listing.Copied.{Copied}
use Rattle.sr_audit.specs.declared.listing.Listed.{Listed}
use Rattle.sr_audit.specs.declared.pending.Pending.{Pending}
use Rattle.sr_audit.specs.declared.side.Side.{Side}
use Rattle.sr_audit.specs.declared.side.Side.TheVariants.{A, B}
use Rattle.sr_audit.specs.declared.span.Spans.{Spans}
use Rattle.sr_audit.specs.declared.tally.Came.{Came}
use Rattle.sr_audit.specs.Counting.{has_come, came_before_at}
use Rattle.sr_audit.specs.Extents.{bottom_number, length_of}
use Rattle.sr_audit.specs.Listings.{left_behind, KeepsPlaces, PassesAhead, TakesCopyIf, TakesCopy}
use Rattle.sr_audit.specs.Looks.{came_by, by_neither}
use Rattle.sr_audit.specs.Stretches.{Placed, copy_as, same_side, came, top_number, stretch_begun}
use Rattle.sr_audit.proofs.EdgeLemmas.{came_below, some_below}
use Rattle.sr_audit.proofs.ExtentLemmas.{length_is, greater_ahead, lesser_ahead}
use Rattle.sr_audit.proofs.FateLemmas.{ahead_near, le_own, near_own, wire_own}
use Rattle.sr_audit.proofs.RowLemmas.{depth_is}
use Rattle.sr_laws_audit.specs.Lists.{is_in_stretch, all_lines}
use Rattle.sr_laws_audit.proofs.OutcomeLemmas.{some}
use Rattle.sr_laws_audit.proofs.TotalLemmas.{total, total_same, total_none, total_split}
use Rattle.sr_laws_audit.proofs.LineLemmas.{KeepsLines, told, waits, reach_same, reach_now}
use Rattle.sr_laws_audit.proofs.KeepLemmas.{false_le, within_below, within_is, within_not_high, within_over, with_lines, ahead_kept, ahead_passed}
use Rattle.sr_laws_audit.proofs.StepLemmas.{KeepsStretch, TellsLines, parted, left_total, none_low, waits_all, deep_of, base_up}
use Rattle.sr_laws_audit.proofs.GoneLemmas.{other_low, others_same, waits_same, up_from}

-- the first copy of a frame lists nothing
pub takes_none : (k : Came) (x : Copied) (old new : Pending) (list after : List Listed) → has_come k ≡ false →
    TakesCopy k x old new list after → after ≡ list
takes_none k x old new list after none taken = by (has_come k) none taken
  where
    by : (b : Bool) → b ≡ false → TakesCopyIf b (came_before_at k x.arrival.side) x old new list after → after ≡ list
    by false e taken = taken.1
    by true e taken = let no : true ≡ false = e in absurd cc

-- numbers above all of a stretch
no_higher : (side : Side) (s : List Placed) (n : ℤ) → top_number s <ℤ n → came side n s ≡ false
no_higher side s n lt =
    elim (cases_Bool (came side n s)) [
      | inl is ↦ absurd (crossed n (top_number s) lt (came_below side s n is))
      | inr none ↦ none
    ]
  where
    crossed : (m t : ℤ) → t <ℤ m → m ≤ℤ t → ⊥
    crossed m t g h = omega (arith, ints, g, h)

-- of a number of which no copy came before one more, no two came
one_side : (e : Bool) (side : Side) → (((e && same_side A side) || false) && ((e && same_side B side) || false)) ≡ false
one_side true A = refl
one_side true B = refl
one_side false A = refl
one_side false B = refl

pub one_more : (y : Placed) (s : List Placed) (n : ℤ) → came A n s ≡ false → came B n s ≡ false →
    (came A n (y ∷ s) && came B n (y ∷ s)) ≡ false
one_more y s n none_a none_b =
    ap (λ a. ((int_eq n y.number && same_side A y.side) || a) && came B n (y ∷ s)) none_a
    ∙ ap (λ b. ((int_eq n y.number && same_side A y.side) || false) && ((int_eq n y.number && same_side B y.side) || b)) none_b
    ∙ one_side (int_eq n y.number) y.side

-- what is kept, with a copy ahead of the greatest number
up_top : (t m : ℤ) (k : ℕ) → m ≡ t +ℤ pos k → t ≤ℤ m
up_top t m k e = omega (arith, ints, e)

up_top_more : (t m : ℤ) (k : ℕ) → m ≡ t +ℤ pos k → 0 < k → t <ℤ m
up_top_more t m k e some = omega (arith, ints, e, some)

ahead_lines : (z : Placed) (before : List Placed) (x : Copied) (copies : List Copied) (m : ℤ) (k : ℕ) (at between new : Pending)
    (list after : List Listed) → m ≡ top_number (z ∷ before) +ℤ pos k → k < 1024 → wire m ≡ x.arrival.seq.0 → KeepsPlaces between →
    KeepsStretch (z ∷ before) copies at → PassesAhead x.arrival.seq.0 x.arrival.time k at between →
    TakesCopy (came_by (z ∷ before) m) x between new list after → KeepsLines (copy_as x.arrival m ∷ z ∷ before) (x ∷ copies) new
ahead_lines z before x copies m k at between new list after is small carried room keeps passes taken =
    with_lines s x copies m between new list after carried (subst (λ g. (g -ℤ pos 1024) <ℤ m) (sym top) (near_own m))
    (subst (λ g. m ≤ℤ g) (sym top) (le_own m)) room
    (λ n is_some above.
    let near : (m -ℤ pos 1024) <ℤ n = subst (λ g. (g -ℤ pos 1024) <ℤ n) top above in
    let below : n ≤ℤ t = some_below s n is_some in
    (ahead_kept t m n k x.arrival.seq.0 x.arrival.time at between is carried passes near (up_from n t m below (up_top t m k is)) below).packet
    ∙ keeps.lines.packets n is_some (ahead_near t m n k is near))
    (λ n other none lies above.
    let near : (m -ℤ pos 1024) <ℤ n = subst (λ g. (g -ℤ pos 1024) <ℤ n) top above in
    let under : n ≤ℤ m = subst (λ g. n ≤ℤ g) top (within_below c s n lies) in
    by_lt_z t n
    (λ high. ahead_passed t m n k x.arrival.seq.0 x.arrival.time at between is carried passes near under high
    ∙ sym (reach_now n c s (within_not_high z before n high)))
    (λ below. let over : bottom_number s ≤ℤ n = subst (λ b. b ≤ℤ n) bottom (within_over c s n lies) in
    let there : is_in_stretch n s ≡ true = within_is z before n over below in
    (ahead_kept t m n k x.arrival.seq.0 x.arrival.time at between is carried passes near under below).time
    ∙ keeps.lines.passed n none there (ahead_near t m n k is near) ∙ sym (reach_same n c s there)))
    taken
  where
    s : List Placed
    s = z ∷ before

    c : Placed
    c = copy_as x.arrival m

    t : ℤ
    t = top_number s

    top : top_number (c ∷ s) ≡ m
    top = greater_ahead t m k is

    bottom : bottom_number (c ∷ s) ≡ bottom_number s
    bottom = lesser_ahead t (bottom_number s) m (deep_of s) k (depth_is z before) is

-- where numbers lie
deep_on : (t b m : ℤ) (d k e : ℕ) → b ≡ t -ℤ pos d → m ≡ t +ℤ pos k → b ≡ m -ℤ pos e → e + 1 ≡ (d + 1) + k
deep_on t b m d k e f g h = omega (arith, ints, f, g, h)

next_of : (t b : ℤ) (d : ℕ) → b ≡ t -ℤ pos d → b +ℤ pos (d + 1) ≡ t +ℤ pos 1
next_of t b d e = omega (arith, ints, e)

in_stretch : (t b : ℤ) (d i : ℕ) → b ≡ t -ℤ pos d → i < d + 1 → (b +ℤ pos i) ≤ℤ t
in_stretch t b d i e lt = omega (arith, ints, e, lt)

from_low : (b : ℤ) (i : ℕ) → b ≤ℤ (b +ℤ pos i)
from_low b i = omega (arith, ints)

base_ahead : (t m : ℤ) (k : ℕ) → m ≡ t +ℤ pos k → m -ℤ pos 1023 ≡ (t -ℤ pos 1023) +ℤ pos k
base_ahead t m k e = omega (arith, ints, e)

base_next : (t m : ℤ) (k : ℕ) → m ≡ t +ℤ pos k → k < 1024 → (m -ℤ pos 1023) +ℤ pos (1024 - k) ≡ t +ℤ pos 1
base_next t m k e few = omega (arith, ints, e, few)

still_in : (t : ℤ) (k i : ℕ) → k < 1024 → i < 1024 - k → (((t -ℤ pos 1023) +ℤ pos k) +ℤ pos i) ≤ℤ t
still_in t k i few lt = omega (arith, ints, few, lt)

above_top : (t : ℤ) (i : ℕ) → t <ℤ ((t +ℤ pos 1) +ℤ pos i)
above_top t i = omega (arith, ints)

below_m : (t m n : ℤ) (k : ℕ) → m ≡ t +ℤ pos k → 0 < k → n ≤ℤ t → n <ℤ m
below_m t m n k e some le = omega (arith, ints, e, some, le)

over_bottom : (t b n : ℤ) (d : ℕ) → b ≡ t -ℤ pos d → t <ℤ n → b ≤ℤ n
over_bottom t b n d e lt = omega (arith, ints, e, lt)

ahead_sums : (lines more left w0 w1 wr v0 v1 vs next all0 all1 rest now was mid : ℕ) → lines + w0 ≡ all0 → all0 ≡ v0 + rest → all1 ≡ v1 + rest →
    w0 ≡ left + wr → w1 ≡ wr + next → v1 ≡ vs + next → vs ≡ v0 → now ≡ mid → mid ≡ was + left → now ≡ was + more →
    (lines + more) + w1 ≡ all1
ahead_sums lines more left w0 w1 wr v0 v1 vs next all0 all1 rest now was mid a b c d e f g h i j =
    omega (arith, a, b, c, d, e, f, g, h, i, j)

pub ahead_told : (spans : Spans) (f : Listed → ℕ) (z : Placed) (before : List Placed) (rest : List (List Placed)) (x : Copied)
    (copies : List Copied) (m : ℤ) (k : ℕ) (at between new : Pending) (list mid after : List Listed) (lines more : ℕ) →
    m ≡ top_number (z ∷ before) +ℤ pos k → 0 < k → k < 1024 → wire m ≡ x.arrival.seq.0 → KeepsPlaces between →
    KeepsStretch (z ∷ before) copies at → PassesAhead x.arrival.seq.0 x.arrival.time k at between →
    mid ≡ list ++ left_behind spans at x.src x.arrival.seq.0 k k →
    TakesCopy (came_by (z ∷ before) m) x between new mid after → sum_by f after ≡ sum_by f list + more →
    lines + total (waits spans x.src f (z ∷ before) copies) (top_number (z ∷ before) -ℤ pos 1023) 1024
    ≡ sum_by f (all_lines spans x.src ((z ∷ before) ∷ rest) copies) →
    TellsLines spans x.src f ((copy_as x.arrival m ∷ z ∷ before) ∷ rest) (x ∷ copies) new (lines + more)
ahead_told spans f z before rest x copies m k at between new list mid after lines more is some_way small carried room keeps passes decided taken sums told_all =
    (ahead_lines z before x copies m k at between new mid after is small carried room keeps passes taken, whole)
  where
    s : List Placed
    s = z ∷ before

    c : Placed
    c = copy_as x.arrival m

    t : ℤ
    t = top_number s

    b : ℤ
    b = bottom_number s

    d : ℕ
    d = deep_of s

    deep : b ≡ t -ℤ pos d
    deep = depth_is z before

    top : top_number (c ∷ s) ≡ m
    top = greater_ahead t m k is

    bottom : bottom_number (c ∷ s) ≡ b
    bottom = lesser_ahead t b m d k deep is

    w : ℤ → ℕ
    w = waits spans x.src f s copies

    w_now : ℤ → ℕ
    w_now = waits spans x.src f (c ∷ s) (x ∷ copies)

    v : ℤ → ℕ
    v = told spans x.src f s copies

    v_now : ℤ → ℕ
    v_now = told spans x.src f (c ∷ s) (x ∷ copies)

    over_now : (n : ℤ) → b ≤ℤ n → bottom_number (c ∷ s) ≤ℤ n
    over_now n le = subst (λ g. g ≤ℤ n) (sym bottom) le

    -- of the numbers up to the greatest one
    same_told : (n : ℤ) → b ≤ℤ n → n ≤ℤ t → v_now n ≡ v n
    same_told n over below = others_same spans x.src f c z before x copies n (other_low m n (below_m t m n k is some_way below)) over below

    same_waits : (n : ℤ) → n ≤ℤ t → w_now n ≡ w n
    same_waits n below =
        by_lt_z n b
        (λ low. none_low spans x.src f (c ∷ s) (x ∷ copies) n (subst (λ g. n <ℤ g) (sym bottom) low)
        ∙ sym (none_low spans x.src f s copies n low))
        (λ over. waits_same spans x.src f c z before x copies n (other_low m n (below_m t m n k is some_way below)) (over_now n over) over below)

    -- of those above it
    new_waits : (n : ℤ) → t <ℤ n → w_now n ≡ v_now n
    new_waits n high =
        waits_all spans x.src f (c ∷ s) (x ∷ copies) n (one_more c s n (no_higher A s n high) (no_higher B s n high))
        (false_le n (bottom_number (c ∷ s)) (over_now n (over_bottom t b n d deep high)))

    deeper : length_of (c ∷ s) ≡ (d + 1) + k
    deeper = deep_on t b m d k (deep_of (c ∷ s)) deep is (sym bottom ∙ depth_is c s ∙ ap (λ n. n -ℤ pos (deep_of (c ∷ s))) top)

    told_parts : total v_now (bottom_number (c ∷ s)) (length_of (c ∷ s)) ≡ total v_now b (d + 1) + total v_now (t +ℤ pos 1) k
    told_parts =
        ap (λ n. total v_now n (length_of (c ∷ s))) bottom ∙ ap (total v_now b) deeper ∙ total_split v_now b (d + 1) k
        ∙ ap (λ n. total v_now b (d + 1) + total v_now n k) (next_of t b d deep)

    told_same : total v_now b (d + 1) ≡ total v b (length_of s)
    told_same = total_same v_now v b (d + 1) (λ i lt. same_told (b +ℤ pos i) (from_low b i) (in_stretch t b d i deep lt))

    as_many : (1024 - k) + k ≡ 1024
    as_many = omega (arith, small)

    as_many_too : k + (1024 - k) ≡ 1024
    as_many_too = omega (arith, small)

    waits_parts : total w_now (m -ℤ pos 1023) 1024 ≡ total w ((t -ℤ pos 1023) +ℤ pos k) (1024 - k) + total v_now (t +ℤ pos 1) k
    waits_parts =
        ap (total w_now (m -ℤ pos 1023)) (sym as_many) ∙ total_split w_now (m -ℤ pos 1023) (1024 - k) k
        ∙ ap (λ n. total w_now (m -ℤ pos 1023) (1024 - k) + total w_now n k) (base_next t m k is small)
        ∙ ap (λ n. total w_now n (1024 - k) + total w_now (t +ℤ pos 1) k) (base_ahead t m k is)
        ∙ ap (λ u. u + total w_now (t +ℤ pos 1) k) (total_same w_now w ((t -ℤ pos 1023) +ℤ pos k) (1024 - k)
        (λ i lt. same_waits (((t -ℤ pos 1023) +ℤ pos k) +ℤ pos i) (still_in t k i small lt)))
        ∙ ap (λ u. total w ((t -ℤ pos 1023) +ℤ pos k) (1024 - k) + u)
        (total_same w_now v_now (t +ℤ pos 1) k (λ i lt. new_waits ((t +ℤ pos 1) +ℤ pos i) (above_top t i)))

    waits_were : total w (t -ℤ pos 1023) 1024 ≡ total w (t -ℤ pos 1023) k + total w ((t -ℤ pos 1023) +ℤ pos k) (1024 - k)
    waits_were = ap (total w (t -ℤ pos 1023)) (sym as_many_too) ∙ total_split w (t -ℤ pos 1023) k (1024 - k)

    lists_left : sum_by f mid ≡ sum_by f list + total w (t -ℤ pos 1023) k
    lists_left =
        ap (sum_by f) decided ∙ sum_by-append f list (left_behind spans at x.src x.arrival.seq.0 k k)
        ∙ ap (λ u. sum_by f list + u) (left_total spans x.src f z before copies at m k x.arrival.seq.0 k is small carried (omega arith) keeps)

    none_came : has_come (came_by s m) ≡ false
    none_came =
        let high : t <ℤ m = up_top_more t m k is some_way in
        ap (λ a. a || came B m s) (no_higher A s m high) ∙ no_higher B s m high

    whole : (lines + more) + total w_now (top_number (c ∷ s) -ℤ pos 1023) 1024 ≡ sum_by f (all_lines spans x.src ((c ∷ s) ∷ rest) (x ∷ copies))
    whole =
        ap (λ n. (lines + more) + total w_now (n -ℤ pos 1023) 1024) top
        ∙ ahead_sums lines more (total w (t -ℤ pos 1023) k) (total w (t -ℤ pos 1023) 1024) (total w_now (m -ℤ pos 1023) 1024)
        (total w ((t -ℤ pos 1023) +ℤ pos k) (1024 - k)) (total v b (length_of s)) _ (total v_now b (d + 1)) (total v_now (t +ℤ pos 1) k) _ _ _ _ _ _
        told_all (parted spans x.src f s rest copies) (parted spans x.src f (c ∷ s) rest (x ∷ copies)) waits_were waits_parts told_parts told_same
        (ap (sum_by f) (takes_none (came_by s m) x between new mid after none_came taken)) lists_left sums

-- with an arrival that begins a stretch
same_number : (m : ℤ) → m ≡ m -ℤ pos 0
same_number m = omega (arith, ints)

same_both : (m n : ℤ) → m ≤ℤ n → n ≤ℤ m → n ≡ m
same_both m n g h = omega (arith, ints, g, h)

low_one : (m : ℤ) (i : ℕ) → i < 1023 → ((m -ℤ pos 1023) +ℤ pos i) <ℤ m
low_one m i lt = omega (arith, ints, lt)

begun_sums : (lines more w1 low high told all1 all0 now was : ℕ) → lines ≡ all0 → w1 ≡ low + high → low ≡ 0 → high ≡ told →
    all1 ≡ told + all0 → now ≡ was → now ≡ was + more → (lines + more) + w1 ≡ all1
begun_sums lines more w1 low high told all1 all0 now was a b c d e f g = omega (arith, a, b, c, d, e, f, g)

pub begun_told : (spans : Spans) (f : Listed → ℕ) (ss : List (List Placed)) (x : Copied) (copies : List Copied) (between new : Pending)
    (mid after : List Listed) (lines more : ℕ) → x.arrival.seq.0 < 65536 → KeepsPlaces between → TakesCopy by_neither x between new mid after →
    sum_by f after ≡ sum_by f mid + more → lines ≡ sum_by f (all_lines spans x.src ss copies) →
    TellsLines spans x.src f (stretch_begun x.arrival ∷ ss) (x ∷ copies) new (lines + more)
begun_told spans f ss x copies between new mid after lines more fits room taken sums told_all = (
  with_lines [] x copies m between new mid after (wire_own x.arrival.seq.0 fits) (near_own m) (le_own m) room
      (λ n is_some above. let no : false ≡ true = is_some in absurd cc)
      (λ n other none lies above.
      let one : n ≡ m = same_both m n (within_over c [] n lies) (within_below c [] n lies) in
      let bad : true ≡ false = sym ((Decides-int_eq n m).1 one) ∙ other in absurd cc)
      taken,
  whole,
)
  where
    m : ℤ
    m = pos x.arrival.seq.0

    c : Placed
    c = copy_as x.arrival m

    w : ℤ → ℕ
    w = waits spans x.src f (c ∷ []) (x ∷ copies)

    v : ℤ → ℕ
    v = told spans x.src f (c ∷ []) (x ∷ copies)

    as_many : 1024 ≡ 1023 + 1
    as_many = omega arith

    one : w (m +ℤ pos 0) ≡ v (m +ℤ pos 0)
    one = waits_all spans x.src f (c ∷ []) (x ∷ copies) (m +ℤ pos 0) (one_more c [] (m +ℤ pos 0) refl refl)
        (false_le (m +ℤ pos 0) m (from_low m 0))

    only : (i : ℕ) → i < 1 → w (m +ℤ pos i) ≡ v (m +ℤ pos i)
    only i lt = let first : i ≡ 0 = omega (arith, lt) in subst (λ j. w (m +ℤ pos j) ≡ v (m +ℤ pos j)) (sym first) one

    whole : (lines + more) + total w (m -ℤ pos 1023) 1024 ≡ sum_by f (all_lines spans x.src ((c ∷ []) ∷ ss) (x ∷ copies))
    whole =
        begun_sums lines more (total w (m -ℤ pos 1023) 1024) (total w (m -ℤ pos 1023) 1023) (total w ((m -ℤ pos 1023) +ℤ pos 1023) 1)
        (total v m (length_of (c ∷ []))) _ _ _ _ told_all
        (ap (total w (m -ℤ pos 1023)) as_many ∙ total_split w (m -ℤ pos 1023) 1023 1)
        (total_none w (m -ℤ pos 1023) 1023
        (λ i lt. none_low spans x.src f (c ∷ []) (x ∷ copies) ((m -ℤ pos 1023) +ℤ pos i) (low_one m i lt)))
        (ap (λ n. total w n 1) (base_up m) ∙ total_same w v m 1 only ∙ ap (total v m) (sym (length_is c [] 0 (same_number m))))
        (parted spans x.src f (c ∷ []) ss (x ∷ copies)) (ap (sum_by f) (takes_none by_neither x between new mid after refl taken)) sums
