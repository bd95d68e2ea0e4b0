-- Calls of one frame, and of all.
use Rattle.std.proofs.Common.{◌≡◌, ℕ, zero, suc, ◌+◌, ◌-◌, ◌≤◌, ◌<◌, Bool, true, false, not, ◌&&◌, ◌||◌, List, ◌∷◌, ℤ, pos, refl, arith}
use Rattle.std.specs.Prelude.{nat_le, nat_lt, ◌+ℤ◌, if◌then◌else◌}
use Rattle.std.specs.Ordering.{int_eq}
use Rattle.std.proofs.lemmas.Bool.{true≢false, ltb-true, ltb-false, leb-true, leb-false, lt-leb, or_left, or_right}
use Rattle.sr_audit.specs.declared.side.Side.{Side}
use Rattle.sr_audit.specs.declared.side.Side.TheVariants.{A, B}
use Rattle.sr_audit.specs.declared.tally.Sides.{Sides}
use Rattle.sr_audit.specs.Edges.{first_time}
use Rattle.sr_audit.specs.Lanes.{other_side}
use Rattle.sr_audit.specs.Stretches.{Placed, same_side, came}
use Rattle.sr_audit.specs.Waiting.{copy_in_time, alone_with, waits_on}
use Rattle.sr_audit.specs.Calls.{one_when, comes_late, called_if, is_called, called_on, alone_if, alone_on, late_if, late_on, CallsAddUp, NoCallIsTakenBack}

grows : (b c : Bool) → (c ≡ false → b ≡ false) → one_when b ≤ one_when c
grows true true off = omega arith
grows true false off = absurd (true≢false (off refl))
grows false true off = omega arith
grows false false off = omega arith

longer_called : (d e : ℕ) → d ≤ e → one_when (nat_le copy_in_time d) ≤ one_when (nat_le copy_in_time e)
longer_called d e le =
    grows (nat_le copy_in_time d) (nat_le copy_in_time e)
    (λ off. lt-leb copy_in_time d (let less = leb-false copy_in_time e off in omega (arith, less, le)))

same_called : (b : Bool) → one_when b ≤ one_when b
same_called b = omega arith

-- a call stays while the mark goes on
marked : (a b : Bool) (mark later first : ℕ) (late : Bool) → mark ≤ later → called_if a b mark first late ≤ called_if a b later first late
marked false b mark later first late le = omega arith
marked true false mark later first late le = longer_called (mark - first) (later - first) (omega (arith, le))
marked true true mark later first late le = same_called late

-- a call stays with a copy more, of this number or not, by this side or by the other one
with_copy : (e sa sb a b late : Bool) (mark later time first first' : ℕ) → mark ≤ later → mark ≤ time → (a ≡ true → first' ≡ first) →
    called_if a b mark first late
    ≤ called_if ((e && sa) || a) ((e && sb) || b) later first' (if (e && sb) && (a && not b) then nat_le copy_in_time (time - first) else late)
with_copy e sa sb false b late mark later time first first' le at same = omega arith
with_copy false sa sb true false late mark later time first first' le at same =
    let f = same refl in longer_called (mark - first) (later - first') (omega (arith, le, f))
with_copy false sa sb true true late mark later time first first' le at same = same_called late
with_copy true true true true false late mark later time first first' le at same =
    longer_called (mark - first) (time - first) (omega (arith, at))
with_copy true true true true true late mark later time first first' le at same = same_called late
with_copy true true false true false late mark later time first first' le at same =
    let f = same refl in longer_called (mark - first) (later - first') (omega (arith, le, f))
with_copy true true false true true late mark later time first first' le at same = same_called late
with_copy true false true true false late mark later time first first' le at same =
    longer_called (mark - first) (time - first) (omega (arith, at))
with_copy true false true true true late mark later time first first' le at same = same_called late
with_copy true false false true false late mark later time first first' le at same =
    let f = same refl in longer_called (mark - first) (later - first') (omega (arith, le, f))
with_copy true false false true true late mark later time first first' le at same = same_called late

stays_first : (e c : Bool) (time first : ℕ) → c ≡ true → (if e && not c then time else first) ≡ first
stays_first true true time first some = refl
stays_first false true time first some = refl
stays_first e false time first some = absurd (true≢false (turned some))
  where
    turned : false ≡ true → true ≡ false
    turned p = cc

one_called : (side : Side) (mark later : ℕ) (y : Placed) (s : List Placed) (m : ℤ) → mark ≤ later → mark ≤ y.time →
    is_called side mark s m ≤ is_called side later (y ∷ s) m
one_called A mark later y s m le at =
    with_copy (int_eq m y.number) (same_side A y.side) (same_side B y.side) (came A m s) (came B m s) (comes_late B m s) mark later y.time
    (first_time m s) (first_time m (y ∷ s)) le at
    (λ some. stays_first (int_eq m y.number) (came A m s || came B m s) y.time (first_time m s) (or_left (came A m s) (came B m s) some))
one_called B mark later y s m le at =
    with_copy (int_eq m y.number) (same_side B y.side) (same_side A y.side) (came B m s) (came A m s) (comes_late A m s) mark later y.time
    (first_time m s) (first_time m (y ∷ s)) le at
    (λ some. stays_first (int_eq m y.number) (came A m s || came B m s) y.time (first_time m s) (or_right (came A m s) (came B m s) some))

sum_le : (a b c d : ℕ) → a ≤ b → c ≤ d → a + c ≤ b + d
sum_le a b c d e f = omega (arith, e, f)

on_mark : (side : Side) (mark later : ℕ) (s : List Placed) (n : ℤ) (k : ℕ) → mark ≤ later →
    called_on side mark s n k ≤ called_on side later s n k
on_mark side mark later s n zero le = omega arith
on_mark side mark later s n (suc k) le =
    let m = n +ℤ pos k in
    sum_le (is_called side mark s m) (is_called side later s m) (called_on side mark s n k) (called_on side later s n k)
    (marked (came side m s) (came (other_side side) m s) mark later (first_time m s) (comes_late (other_side side) m s) le)
    (on_mark side mark later s n k le)

on_copy : (side : Side) (mark later : ℕ) (y : Placed) (s : List Placed) (n : ℤ) (k : ℕ) → mark ≤ later → mark ≤ y.time →
    called_on side mark s n k ≤ called_on side later (y ∷ s) n k
on_copy side mark later y s n zero le at = omega arith
on_copy side mark later y s n (suc k) le at =
    let m = n +ℤ pos k in
    sum_le (is_called side mark s m) (is_called side later (y ∷ s) m) (called_on side mark s n k) (called_on side later (y ∷ s) n k)
    (one_called side mark later y s m le at) (on_copy side mark later y s n k le at)

pub none_back : NoCallIsTakenBack
none_back side mark later y s n k le at = (on_mark side mark later s n k le, on_copy side mark later y s n k le at)

-- a frame is counted once on either hand
turned_test : (d : ℕ) (soon late : Bool) → nat_lt d copy_in_time ≡ soon → nat_le copy_in_time d ≡ late → one_when soon + one_when late ≡ 1
turned_test d true false is not_late = refl
turned_test d false true is not_late = refl
turned_test d true true is not_late =
    absurd (crossed (ltb-true d copy_in_time is) (leb-true copy_in_time d not_late))
  where
    crossed : d < copy_in_time → copy_in_time ≤ d → ⊥
    crossed g h = omega (arith, g, h)
turned_test d false false is not_late =
    absurd (crossed (ltb-false d copy_in_time is) (leb-false copy_in_time d not_late))
  where
    crossed : copy_in_time ≤ d → d < copy_in_time → ⊥
    crossed g h = omega (arith, g, h)

soon_or_called : (d : ℕ) → one_when (nat_lt d copy_in_time) + one_when (nat_le copy_in_time d) ≡ 1
soon_or_called d = turned_test d (nat_lt d copy_in_time) (nat_le copy_in_time d) refl refl

waits_a_by : (soon a b : Bool) (w : Sides) → (if soon then alone_with a b w else w).a ≡ w.a + one_when (soon && (a && not b))
waits_a_by true true true w = omega arith
waits_a_by true true false w = refl
waits_a_by true false true w = omega arith
waits_a_by true false false w = omega arith
waits_a_by false a b w = omega arith

waits_b_by : (soon a b : Bool) (w : Sides) → (if soon then alone_with a b w else w).b ≡ w.b + one_when (soon && (b && not a))
waits_b_by true true true w = omega arith
waits_b_by true true false w = omega arith
waits_b_by true false true w = refl
waits_b_by true false false w = omega arith
waits_b_by false a b w = omega arith

both_tests : (b : Bool) → (b && true) ≡ b
both_tests true = refl
both_tests false = refl

no_test : (b : Bool) → (b && false) ≡ false
no_test true = refl
no_test false = refl

once : (a b late : Bool) (mark first : ℕ) →
    alone_if a b + late_if a b late ≡ one_when (nat_lt (mark - first) copy_in_time && (a && not b)) + called_if a b mark first late
once false b late mark first =
    let none = no_test (nat_lt (mark - first) copy_in_time) in
    rw none refl
once true false late mark first =
    let all = both_tests (nat_lt (mark - first) copy_in_time) in
    let sum = soon_or_called (mark - first) in
    rw all (omega (arith, sum))
once true true late mark first =
    let none = no_test (nat_lt (mark - first) copy_in_time) in
    rw none refl

joined : (alone late waits called alone' late' waits' called' all : ℕ) → alone' + late' ≡ waits' + called' → alone + late ≡ waits + called →
    all ≡ waits' + waits → (alone + alone') + (late + late') ≡ all + (called + called')
joined alone late waits called alone' late' waits' called' all e f g = omega (arith, e, f, g)

pub add_up : CallsAddUp
add_up A mark s n zero = refl
add_up A mark s n (suc k) =
    let m = n +ℤ pos k in
    let soon = nat_lt (mark - first_time m s) copy_in_time in
    joined (alone_if (came A m s) (came B m s)) (late_if (came A m s) (came B m s) (comes_late B m s))
    (one_when (soon && (came A m s && not (came B m s)))) (is_called A mark s m)
    (alone_on A s n k) (late_on A s n k) (waits_on mark s n k).a (called_on A mark s n k) (waits_on mark s n (suc k)).a
    (add_up A mark s n k) (once (came A m s) (came B m s) (comes_late B m s) mark (first_time m s))
    (waits_a_by soon (came A m s) (came B m s) (waits_on mark s n k))
add_up B mark s n zero = refl
add_up B mark s n (suc k) =
    let m = n +ℤ pos k in
    let soon = nat_lt (mark - first_time m s) copy_in_time in
    joined (alone_if (came B m s) (came A m s)) (late_if (came B m s) (came A m s) (comes_late A m s))
    (one_when (soon && (came B m s && not (came A m s)))) (is_called B mark s m)
    (alone_on B s n k) (late_on B s n k) (waits_on mark s n k).b (called_on B mark s n k) (waits_on mark s n (suc k)).b
    (add_up B mark s n k) (once (came B m s) (came A m s) (comes_late A m s) mark (first_time m s))
    (waits_b_by soon (came A m s) (came B m s) (waits_on mark s n k))
