-- Of the captures of a network in which nothing is lost no figure tells of a fault.
use Rattle.std.proofs.Common.{◌≡◌, ℕ, ◌+◌, ◌-◌, ◌<◌, ◌≤◌, Bool, true, false, cond, ◌||◌, ◌&&◌, not, ◌⊎◌, List, [], ◌∷◌, ℤ, pos, arith, refl, sym, ap, ◌∙◌, inl, inr}
use Rattle.std.specs.Prelude.{nat_eq, nat_lt, unsigned_abs, ◌+ℤ◌, ◌-ℤ◌, ◌<ℤ◌, ◌≤ℤ◌}
use Rattle.std.specs.Ordering.{int_eq}
use Rattle.std.proofs.lemmas.Bool.{cases_Bool, lt-ltb, lt-leb, or_parts, and_parts}
use Rattle.std.proofs.lemmas.Bool.Decides.{Decides-int_eq}
use Rattle.std.proofs.lemmas.Int.{ints, by_lt_z}
use Rattle.sr_sequence.specs.Numbers.{wire, IsNear}
use Rattle.sr_sequence.specs.Places.{number_at}
use Rattle.sr_sequence.specs.declared.Distance.{Distance}
use Rattle.sr_sequence.specs.declared.Distance.TheVariants.{Behind, Ahead}
use Rattle.sr_dup_window.specs.Families.{greater}
use Rattle.sr_audit.specs.declared.arrival.Arrival.{Arrival}
use Rattle.sr_audit.specs.declared.side.Side.{Side}
use Rattle.sr_audit.specs.declared.side.Side.TheVariants.{A, B}
use Rattle.sr_audit.specs.declared.span.Spans.{Spans}
use Rattle.sr_audit.specs.Edges.{first_time, is_beyond}
use Rattle.sr_audit.specs.Extents.{lesser, bottom_number}
use Rattle.sr_audit.specs.Lanes.{other_side}
use Rattle.sr_audit.specs.Limits.{epoch_gap, kept_numbers}
use Rattle.sr_audit.specs.Skewing.{skew_by, class_of}
use Rattle.sr_audit.specs.Stretches.{Placed, same_side, came, top_number, goes_to}
use Rattle.sr_audit.proofs.EdgeLemmas.{some_below}
use Rattle.sr_audit.proofs.FrameLemmas.{came-other, first_other}
use Rattle.sr_laws_audit.specs.Outcomes.{OnlyA, OnlyB, same_outcome, outcome_if}
use Rattle.sr_laws_audit.specs.Records.{Passage, PassesInTime, AreRecorded, HasAll, GoesPastBoth, LeavesOut}

-- the greatest number of some copies was sent before the newest one came
pub greater_is : (m n : ℤ) → (greater m n ≡ m) ⊎ (greater m n ≡ n)
greater_is m n = by_lt_z m n (λ lt. inr (upper m n lt)) (λ le. inl (lower m n le))
  where
    upper : (m n : ℤ) → m <ℤ n → greater m n ≡ n
    upper m n lt = grind (arith, ints)

    lower : (m n : ℤ) → n ≤ℤ m → greater m n ≡ m
    lower m n le = grind (arith, ints)

pub top_sent : (apart : ℕ) (p : Passage) (recorded : Spans) (y : Placed) (before : List Placed) → PassesInTime apart p →
    AreRecorded p recorded (y ∷ before) → p.sent (top_number (y ∷ before)) ≤ y.time
top_sent apart p recorded y [] timely (own, rest) = omega (arith, timely.not_early y.side y.number own.goes, own.time)
top_sent apart p recorded y (z ∷ before) timely (own, rest) =
    elim (greater_is (top_number (z ∷ before)) y.number) [
      | inl older ↦
          let e : p.sent (greater (top_number (z ∷ before)) y.number) ≡ p.sent (top_number (z ∷ before)) = ap p.sent older in
          omega (arith, e, top_sent apart p recorded z before timely rest, own.later)
      | inr newer ↦
          let e : p.sent (greater (top_number (z ∷ before)) y.number) ≡ p.sent y.number = ap p.sent newer in
          omega (arith, e, timely.not_early y.side y.number own.goes, own.time)
    ]

-- a copy that came is that of a frame which passes the recorder while it runs
pub record Came (p : Passage) (recorded : Spans) (side : Side) (n : ℤ) : Type 0 where
  pub goes : p.goes side n ≡ true
  pub runs : is_beyond recorded side (p.passes side n) ≡ false

pub side_is : (side own : Side) → same_side side own ≡ true → side ≡ own
side_is A A is = refl
side_is A B is = let no : false ≡ true = is in absurd cc
side_is B A is = let no : false ≡ true = is in absurd cc
side_is B B is = refl

pub came_as : (p : Passage) (recorded : Spans) (side : Side) (n : ℤ) (copies : List Placed) → AreRecorded p recorded copies →
    came side n copies ≡ true → Came p recorded side n
came_as p recorded side n [] recs is = let no : false ≡ true = is in absurd cc
came_as p recorded side n (y ∷ before) (own, recs) is =
    elim (cases_Bool (int_eq n y.number && same_side side y.side)) [
      | inl here ↦
          let both = and_parts (int_eq n y.number) (same_side side y.side) here in
          let number : y.number ≡ n = sym ((Decides-int_eq n y.number).0 both.0) in
          let at : y.side ≡ side = sym (side_is side y.side both.1) in
          let runs_here : is_beyond recorded y.side (p.passes y.side y.number) ≡ false =
          ap (is_beyond recorded y.side) (sym own.time) ∙ own.runs in
          record {
            goes = ap (λ c. p.goes c n) (sym at) ∙ ap (p.goes y.side) (sym number) ∙ own.goes;
            runs = ap (λ c. is_beyond recorded c (p.passes c n)) (sym at) ∙ ap (λ k. is_beyond recorded y.side (p.passes y.side k)) (sym number)
                ∙ runs_here;
          }
      | inr elsewhere ↦
          came_as p recorded side n before recs (sym (ap (λ b. b || came side n before) elsewhere) ∙ is)
    ]

-- the least and the greatest number of a stretch are those of copies
own_side : (side : Side) → same_side side side ≡ true
own_side A = refl
own_side B = refl

pub came_own : (y : Placed) (s : List Placed) → came y.side y.number (y ∷ s) ≡ true
came_own y s =
    ap (λ b. (b && same_side y.side y.side) || came y.side y.number s) ((Decides-int_eq y.number y.number).1 refl)
    ∙ ap (λ b. b || came y.side y.number s) (own_side y.side)

pub or_true : (b : Bool) → (b || true) ≡ true
or_true true = refl
or_true false = refl

pub came_more : (side : Side) (n : ℤ) (y : Placed) (s : List Placed) → came side n s ≡ true → came side n (y ∷ s) ≡ true
came_more side n y s is = ap (λ b. (int_eq n y.number && same_side side y.side) || b) is ∙ or_true (int_eq n y.number && same_side side y.side)

pub lesser_is : (m n : ℤ) → (lesser m n ≡ m) ⊎ (lesser m n ≡ n)
lesser_is m n = by_lt_z m n (λ lt. inl (lower m n lt)) (λ le. inr (upper m n le))
  where
    lower : (m n : ℤ) → m <ℤ n → lesser m n ≡ m
    lower m n lt = grind (arith, ints)

    upper : (m n : ℤ) → n ≤ℤ m → lesser m n ≡ n
    upper m n le = grind (arith, ints)

pub top_came : (y : Placed) (s : List Placed) → (side : Side) × (came side (top_number (y ∷ s)) (y ∷ s) ≡ true)
top_came y [] = (y.side, came_own y [])
top_came y (z ∷ s) =
    elim (greater_is (top_number (z ∷ s)) y.number) [
      | inl older ↦
          let there = top_came z s in
          (there.0, ap (λ n. came there.0 n (y ∷ z ∷ s)) older ∙ came_more there.0 (top_number (z ∷ s)) y (z ∷ s) there.1)
      | inr newer ↦ (y.side, ap (λ n. came y.side n (y ∷ z ∷ s)) newer ∙ came_own y (z ∷ s))
    ]

pub bottom_came : (y : Placed) (s : List Placed) → (side : Side) × (came side (bottom_number (y ∷ s)) (y ∷ s) ≡ true)
bottom_came y [] = (y.side, came_own y [])
bottom_came y (z ∷ s) =
    elim (lesser_is (bottom_number (z ∷ s)) y.number) [
      | inl older ↦
          let there = bottom_came z s in
          (there.0, ap (λ n. came there.0 n (y ∷ z ∷ s)) older ∙ came_more there.0 (bottom_number (z ∷ s)) y (z ∷ s) there.1)
      | inr newer ↦ (y.side, ap (λ n. came y.side n (y ∷ z ∷ s)) newer ∙ came_own y (z ∷ s))
    ]

-- a frame that comes lies less than 1023 behind the greatest number that came
pub own_sent : (apart : ℕ) (p : Passage) (recorded : Spans) (copies : List Placed) (side : Side) (n : ℤ) → PassesInTime apart p →
    AreRecorded p recorded copies → came side n copies ≡ true → p.goes side n ≡ true
own_sent apart p recorded copies side n timely recs is = (came_as p recorded side n copies recs is).goes

pub not_under : (apart : ℕ) (p : Passage) (recorded : Spans) (y z : Placed) (before : List Placed) → PassesInTime apart p →
    AreRecorded p recorded (y ∷ z ∷ before) → (top_number (z ∷ before) -ℤ pos 1023) <ℤ y.number
not_under apart p recorded y z before timely (own, recs) =
    by_lt_z (top_number (z ∷ before) -ℤ pos 1023) y.number (λ above. above) (λ under. absurd (no under))
  where
    over : (t n : ℤ) → n ≤ℤ (t -ℤ pos 1023) → (n +ℤ pos 1023) ≤ℤ t
    over t n le = omega (arith, ints, le)

    no : y.number ≤ℤ (top_number (z ∷ before) -ℤ pos 1023) → ⊥
    no under =
        let there = top_came z before in
        let goes = own_sent apart p recorded (z ∷ before) there.0 (top_number (z ∷ before)) timely recs there.1 in
        let done : p.sent y.number + apart < p.sent (top_number (z ∷ before)) =
        timely.few y.side there.0 y.number (top_number (z ∷ before)) own.goes goes (over (top_number (z ∷ before)) y.number under) in
        omega (arith, done, top_sent apart p recorded z before timely recs, own.later, own.time, timely.not_late y.side y.number own.goes)

-- a copy at its own side did not come before
pub not_repeated : (side own : Side) (f : Side → Bool) → f own ≡ false → (same_side side own && f side) ≡ false
not_repeated A A f none = none
not_repeated A B f none = refl
not_repeated B A f none = refl
not_repeated B B f none = none

-- where the other side has no copy of a frame, its first one came when it passes this side
either_way : (side : Side) (f : Side → Bool) → f side ≡ false → f (other_side side) ≡ false → (f A || f B) ≡ false
either_way A f own other = ap (λ b. b || f B) own ∙ other
either_way B f own other = ap (λ b. b || f B) other ∙ own

this_side : (side own : Side) → same_side (other_side side) own ≡ false → own ≡ side
this_side A A other = refl
this_side A B other = let no : true ≡ false = other in absurd cc
this_side B A other = let no : true ≡ false = other in absurd cc
this_side B B other = refl

pub first_alone : (p : Passage) (recorded : Spans) (side : Side) (n : ℤ) (copies : List Placed) → AreRecorded p recorded copies →
    came side n copies ≡ true → came (other_side side) n copies ≡ false → first_time n copies ≡ p.passes side n
first_alone p recorded side n [] recs is other = let no : false ≡ true = is in absurd cc
first_alone p recorded side n (y ∷ before) (own, recs) is other =
    let parts = or_parts (int_eq n y.number && same_side (other_side side) y.side) (came (other_side side) n before) other in
    elim (cases_Bool (int_eq n y.number)) [
      | inl here ↦
          let number : n ≡ y.number = (Decides-int_eq n y.number).0 here in
          let away : same_side (other_side side) y.side ≡ false =
          sym (ap (λ b. b && same_side (other_side side) y.side) here) ∙ parts.0 in
          let at : y.side ≡ side = this_side side y.side away in
          let once : came side n before ≡ false =
          ap (λ c. came c n before) (sym at) ∙ ap (λ k. came y.side k before) number ∙ own.once in
          let first : (came A n before || came B n before) ≡ false = either_way side (λ c. came c n before) once parts.1 in
          ap (λ b. cond (b && not (came A n before || came B n before)) y.time (first_time n before)) here
          ∙ ap (λ b. cond (true && not b) y.time (first_time n before)) first
          ∙ own.time ∙ ap (λ c. p.passes c y.number) at ∙ ap (p.passes side) (sym number)
      | inr elsewhere ↦
          first_other n y before elsewhere
          ∙ first_alone p recorded side n before recs (sym (came-other side n y before elsewhere) ∙ is) parts.1
    ]

-- no pair is late
pub skew_small : (side : Side) (time first apart : ℕ) → time ≤ first + apart → first ≤ time + apart → unsigned_abs (skew_by side time first) ≤ apart
skew_small A time first apart e f = grind (arith, ints)
skew_small B time first apart e f = grind (arith, ints)

pub not_last : (size : ℕ) → size < epoch_gap → nat_eq (class_of size) 6 ≡ false
not_last size lt =
    ap (λ t. nat_eq (cond (nat_lt size 10000) 0 (cond (nat_lt size 100000) 1 (cond (nat_lt size 1000000) 2 (cond (nat_lt size 10000000) 3
    (cond (nat_lt size 100000000) 4 (cond t 5 6)))))) 6) (lt-ltb size epoch_gap lt)
    ∙ by (nat_lt size 10000) (nat_lt size 100000) (nat_lt size 1000000) (nat_lt size 10000000) (nat_lt size 100000000)
  where
    by : (a b c d e : Bool) → nat_eq (cond a 0 (cond b 1 (cond c 2 (cond d 3 (cond e 4 5))))) 6 ≡ false
    by true b c d e = refl
    by false true c d e = refl
    by false false true d e = refl
    by false false false true e = refl
    by false false false false true = refl
    by false false false false false = refl

pub back_side : (side : Side) → other_side (other_side side) ≡ side
back_side A = refl
back_side B = refl

-- the copies are of one stretch
abbrev pub placed : Side → ℕ → ℤ → Placed
placed side time n = record { side = side; number = n; time = time }

abbrev pub arrival_of : Placed → Arrival
arrival_of y = record { side = y.side; seq = record { 0 = wire y.number }; time = y.time }

pub begins : (n : ℤ) (seq : ℕ) → pos seq ≡ n +ℤ (pos seq -ℤ n)
begins n seq = omega (arith, ints)

pub near_of : (g t n d : ℤ) → g ≡ t +ℤ d → (t -ℤ pos 1023) <ℤ n → n ≤ℤ (t +ℤ pos (65536 - kept_numbers)) → IsNear kept_numbers g (n +ℤ d)
near_of g t n d e above below = record { above = omega (arith, ints, e, above); below = omega (arith, ints, e, below) }

pub closer : (t n : ℤ) → n <ℤ (t +ℤ pos kept_numbers) → n ≤ℤ (t +ℤ pos (65536 - kept_numbers))
closer t n close = omega (arith, ints, close)

pub near_time : (apart : ℕ) (p : Passage) (recorded : Spans) (y z : Placed) (rest : List Placed) → PassesInTime apart p →
    AreRecorded p recorded (y ∷ z ∷ rest) → y.number ≤ℤ top_number (z ∷ rest) → nat_lt (y.time - z.time) epoch_gap ≡ true
near_time apart p recorded y z rest timely (own, recs) le =
    lt-ltb (y.time - z.time) epoch_gap
    (omega (
      arith,
      own.time,
      timely.not_late y.side y.number own.goes,
      timely.in_turn y.number (top_number (z ∷ rest)) le,
      top_sent apart p recorded z rest timely recs,
      timely.soon,
    ))

pub goes_further : (g t n d : ℤ) (soon : Bool) (place : Distance) → g ≡ t +ℤ d → number_at g place ≡ n +ℤ d → n <ℤ (t +ℤ pos kept_numbers) →
    (n ≤ℤ t → soon ≡ true) → goes_to soon place ≡ true
goes_further g t n d soon (Behind k) e at below then = then (omega (arith, ints, e, at))
goes_further g t n d soon (Ahead k) e at below then = ap not (lt-leb kept_numbers k (omega (arith, ints, e, at, below)))

-- a frame that one side alone has passed the other one while that did not run
pub lone_is_outside : (apart : ℕ) (p : Passage) (recorded judged : Spans) (copies : List Placed) (side : Side) (n : ℤ) → PassesInTime apart p →
    AreRecorded p recorded copies → HasAll p recorded copies → GoesPastBoth p → LeavesOut apart recorded judged →
    came side n copies ≡ true → came (other_side side) n copies ≡ false → is_beyond judged (other_side side) (first_time n copies) ≡ true
lone_is_outside apart p recorded judged copies side n timely recs all both leaves is other =
    let was : Came p recorded side n = came_as p recorded side n copies recs is in
    let goes : p.goes (other_side side) n ≡ true = both side n was.goes in
    elim (cases_Bool (is_beyond recorded (other_side side) (p.passes (other_side side) n))) [
      | inr runs ↦ let no : false ≡ true = sym other ∙ all (other_side side) n goes runs in absurd cc
      | inl beyond ↦
          ap (is_beyond judged (other_side side)) (first_alone p recorded side n copies recs is other)
          ∙ leaves (other_side side) (p.passes side n) (p.passes (other_side side) n) (timely.in_time side n was.goes) beyond
          (omega (arith, timely.not_late side n was.goes, timely.not_early (other_side side) n goes))
          (omega (arith, timely.not_late (other_side side) n goes, timely.not_early side n was.goes))
    ]

pub no_only_a : (a b u v : Bool) → (a ≡ true → b ≡ false → v ≡ true) → same_outcome OnlyA (outcome_if a b u v) ≡ false
no_only_a true true u v then = refl
no_only_a true false u true then = refl
no_only_a true false u false then = let no : false ≡ true = then refl refl in absurd cc
no_only_a false true true v then = refl
no_only_a false true false v then = refl
no_only_a false false u v then = refl

pub no_only_b : (a b u v : Bool) → (b ≡ true → a ≡ false → u ≡ true) → same_outcome OnlyB (outcome_if a b u v) ≡ false
no_only_b true true u v then = refl
no_only_b true false u true then = refl
no_only_b true false u false then = refl
no_only_b false true true v then = refl
no_only_b false true false v then = let no : false ≡ true = then refl refl in absurd cc
no_only_b false false u v then = refl

-- no copy is of a number above the greatest one
pub some_at : (side : Side) (n : ℤ) (s : List Placed) → came side n s ≡ true → (came A n s || came B n s) ≡ true
some_at A n s is = ap (λ b. b || came B n s) is
some_at B n s is = ap (λ b. came A n s || b) is ∙ or_true (came A n s)

pub above_top : (c : Side) (s : List Placed) (n : ℤ) → top_number s <ℤ n → came c n s ≡ false
above_top c s n over =
    elim (cases_Bool (came c n s)) [
      | inr none ↦ none
      | inl is ↦ absurd (no (top_number s) n over (some_below s n (some_at c n s is)))
    ]
  where
    no : (t n : ℤ) → t <ℤ n → n ≤ℤ t → ⊥
    no t n over under = omega (arith, ints, over, under)
