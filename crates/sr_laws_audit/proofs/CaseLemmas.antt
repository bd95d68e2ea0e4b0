-- The lists of copies that are worked out.
use Rattle.std.proofs.Common.{ap, ◌≡◌, ℕ, ◌+◌, ◌-◌, ◌<◌, ◌≤◌, Bool, true, false, cond, ◌||◌, ◌⊎◌, ℤ, pos, arith, refl, sym, subst, inl, inr}
use Rattle.std.specs.Prelude.{◌^◌, nat_lt, int_lt, ◌+ℤ◌, ◌<ℤ◌, ◌≤ℤ◌}
use Rattle.std.specs.Ordering.{int_eq}
use Rattle.std.proofs.lemmas.Bool.{or_cases, ltb-true, lt-ltb, or_left, or_right}
use Rattle.std.proofs.lemmas.Bool.Decides.{Decides-int_eq}
use Rattle.std.proofs.lemmas.Int.{ints, by_lt_z}
use Rattle.sr_audit.specs.declared.side.Side.{Side}
use Rattle.sr_audit.specs.declared.side.Side.TheVariants.{A, B}
use Rattle.sr_audit.specs.Edges.{is_beyond}
use Rattle.sr_audit.specs.Stretches.{came}
use Rattle.sr_laws_audit.specs.Records.{PassesInTime, AreRecorded, HasAll, GoesPastBoth, LeavesOut, IsSequential, GoesPastOne, IsFarFromEnds, AreQuietEdges}
use Rattle.sr_laws_audit.specs.Cases.{three_sent, three_pass, three_frames, three_recorded, three_judged, three_copies, ThreeFramesMeetThePremises, ring_goes, ring_frames, ring_span, ring_recorded, ring_copies, RingFramesMeetThePremises, TellsWhatIsLost}

-- one of three numbers
which : (n : ℤ) → (int_eq n (pos 7) || (int_eq n (pos 8) || int_eq n (pos 9))) ≡ true → (n ≡ pos 7) ⊎ ((n ≡ pos 8) ⊎ (n ≡ pos 9))
which n is =
    elim (or_cases (int_eq n (pos 7)) (int_eq n (pos 8) || int_eq n (pos 9)) is) [
      | inl seven ↦ inl ((Decides-int_eq n (pos 7)).0 seven)
      | inr later ↦ elim (or_cases (int_eq n (pos 8)) (int_eq n (pos 9)) later) [
        | inl eight ↦ inr (inl ((Decides-int_eq n (pos 8)).0 eight))
        | inr nine ↦ inr (inr ((Decides-int_eq n (pos 9)).0 nine))
      ]
    ]

by_three : (P : ℤ → Type 0) → P (pos 7) → P (pos 8) → P (pos 9) → (n : ℤ) →
    (int_eq n (pos 7) || (int_eq n (pos 8) || int_eq n (pos 9))) ≡ true → P n
by_three P seven eight nine n is =
    elim (which n is) [
      | inl e ↦ subst P (sym e) seven
      | inr later ↦ elim later [
        | inl e ↦ subst P (sym e) eight
        | inr e ↦ subst P (sym e) nine
      ]
    ]

bounded : (n : ℤ) → (int_eq n (pos 7) || (int_eq n (pos 8) || int_eq n (pos 9))) ≡ true → (pos 7 ≤ℤ n) × (n ≤ℤ pos 9)
bounded = by_three (λ n. (pos 7 ≤ℤ n) × (n ≤ℤ pos 9)) (omega (arith, ints), omega (arith, ints)) (omega (arith, ints), omega (arith, ints))
    (omega (arith, ints), omega (arith, ints))

in_between : (k : ℤ) → pos 7 ≤ℤ k → k ≤ℤ pos 9 → (int_eq k (pos 7) || (int_eq k (pos 8) || int_eq k (pos 9))) ≡ true
in_between k from to =
    by_lt_z k (pos 8)
    (λ less. or_left (int_eq k (pos 7)) (int_eq k (pos 8) || int_eq k (pos 9)) ((Decides-int_eq k (pos 7)).1 (seven k from less)))
    (λ more. or_right (int_eq k (pos 7)) (int_eq k (pos 8) || int_eq k (pos 9)) (by_lt_z k (pos 9)
    (λ less. or_left (int_eq k (pos 8)) (int_eq k (pos 9)) ((Decides-int_eq k (pos 8)).1 (eight k more less)))
    (λ most. or_right (int_eq k (pos 8)) (int_eq k (pos 9)) ((Decides-int_eq k (pos 9)).1 (nine k most to)))))
  where
    seven : (k : ℤ) → pos 7 ≤ℤ k → k <ℤ pos 8 → k ≡ pos 7
    seven k a b = omega (arith, ints, a, b)

    eight : (k : ℤ) → pos 8 ≤ℤ k → k <ℤ pos 9 → k ≡ pos 8
    eight k a b = omega (arith, ints, a, b)

    nine : (k : ℤ) → pos 9 ≤ℤ k → k ≤ℤ pos 9 → k ≡ pos 9
    nine k a b = omega (arith, ints, a, b)

-- steps of time by the numbers' order
stepped : (a b c : ℕ) → a ≤ b → b ≤ c → (m n : ℤ) → m ≤ℤ n →
    cond (int_lt m (pos 8)) a (cond (int_lt m (pos 9)) b c) ≤ cond (int_lt n (pos 8)) a (cond (int_lt n (pos 9)) b c)
stepped a b c ab bc m n le =
    by (int_lt m (pos 8)) (int_lt m (pos 9)) (int_lt n (pos 8)) (int_lt n (pos 9)) (down m n (pos 8) le) (down m n (pos 9) le) (up n)
  where
    down : (m n k : ℤ) → m ≤ℤ n → int_lt n k ≡ true → int_lt m k ≡ true
    down m n k le lt = grind (arith, ints)

    up : (n : ℤ) → int_lt n (pos 8) ≡ true → int_lt n (pos 9) ≡ true
    up n lt = grind (arith, ints)

    by : (m8 m9 n8 n9 : Bool) → (n8 ≡ true → m8 ≡ true) → (n9 ≡ true → m9 ≡ true) → (n8 ≡ true → n9 ≡ true) →
        cond m8 a (cond m9 b c) ≤ cond n8 a (cond n9 b c)
    by true m9 true n9 f g h = omega arith
    by true m9 false true f g h = omega (arith, ab)
    by true m9 false false f g h = omega (arith, ab, bc)
    by false m9 true n9 f g h = let no : false ≡ true = f refl in absurd cc
    by false true false true f g h = omega arith
    by false true false false f g h = omega (arith, bc)
    by false false false true f g h = let no : false ≡ true = g refl in absurd cc
    by false false false false f g h = omega arith

timely : PassesInTime 2 three_frames
timely = record {
  in_turn = stepped 10 20 30 (omega arith) (omega arith);
  not_early = early;
  not_late = late;
  soon = omega arith;
  few = λ side other m n goes_m goes_n far. absurd (no m n (bounded m goes_m).0 (bounded n goes_n).1 far);
  in_time = times;
}
  where
    early : (side : Side) (n : ℤ) → three_frames.goes side n ≡ true → three_sent n ≤ three_pass side n
    early A = by_three (λ n. three_sent n ≤ three_pass A n) (omega arith) (omega arith) (omega arith)
    early B = by_three (λ n. three_sent n ≤ three_pass B n) (omega arith) (omega arith) (omega arith)

    late : (side : Side) (n : ℤ) → three_frames.goes side n ≡ true → three_pass side n ≤ three_sent n + 2
    late A = by_three (λ n. three_pass A n ≤ three_sent n + 2) (omega arith) (omega arith) (omega arith)
    late B = by_three (λ n. three_pass B n ≤ three_sent n + 2) (omega arith) (omega arith) (omega arith)

    times : (side : Side) (n : ℤ) → three_frames.goes side n ≡ true → three_pass side n < 2 ^ 64 - 1
    times A = by_three (λ n. three_pass A n < 2 ^ 64 - 1) (omega arith) (omega arith) (omega arith)
    times B = by_three (λ n. three_pass B n < 2 ^ 64 - 1) (omega arith) (omega arith) (omega arith)

    no : (m n : ℤ) → pos 7 ≤ℤ m → n ≤ℤ pos 9 → (m +ℤ pos 1023) ≤ℤ n → ⊥
    no m n from to far = omega (arith, ints, from, to, far)

recorded : AreRecorded three_frames three_recorded three_copies
recorded = (
  record { goes = refl; time = refl; runs = refl; once = refl; later = omega arith; not_far = omega (arith, ints) },
  (
    record { goes = refl; time = refl; runs = refl; once = refl; later = omega arith; not_far = omega (arith, ints) },
    (
      record { goes = refl; time = refl; runs = refl; once = refl; later = omega arith; not_far = omega (arith, ints) },
      (
        record { goes = refl; time = refl; runs = refl; once = refl; later = omega arith; not_far = omega (arith, ints) },
        (record { goes = refl; time = refl; runs = refl; once = refl; later = omega arith; not_far = tt }, tt),
      ),
    ),
  ),
)

all : HasAll three_frames three_recorded three_copies
all A = by_three (λ n. is_beyond three_recorded A (three_pass A n) ≡ false → came A n three_copies ≡ true) (λ runs. refl) (λ runs. refl) (λ runs. refl)
all B = by_three (λ n. is_beyond three_recorded B (three_pass B n) ≡ false → came B n three_copies ≡ true)
    (λ runs. let no : true ≡ false = runs in absurd cc) (λ runs. refl) (λ runs. refl)

past_both : GoesPastBoth three_frames
past_both A n goes = goes
past_both B n goes = goes

ordered : IsSequential three_frames
ordered = record {
  one_apart = λ side m k n goes_m goes_n from to. in_between k (first m k (bounded m goes_m).0 from) (last k n (bounded n goes_n).1 to);
  in_order = order;
}
  where
    first : (m k : ℤ) → pos 7 ≤ℤ m → m ≤ℤ k → pos 7 ≤ℤ k
    first m k a b = omega (arith, ints, a, b)

    last : (k n : ℤ) → n ≤ℤ pos 9 → k ≤ℤ n → k ≤ℤ pos 9
    last k n a b = omega (arith, ints, a, b)

    order : (side : Side) (m n : ℤ) → three_frames.goes side m ≡ true → three_frames.goes side n ≡ true → m ≤ℤ n → three_pass side m ≤ three_pass side n
    order A m n goes_m goes_n le = stepped 10 20 30 (omega arith) (omega arith) m n le
    order B m n goes_m goes_n le = stepped 12 22 32 (omega arith) (omega arith) m n le

leaves : LeavesOut 2 three_recorded three_judged
leaves A t u small out near_t near_u = elim (or_cases (nat_lt u 10) (nat_lt 36 u) out) [
  | inl early ↦ or_left (nat_lt t 12) (nat_lt 34 t) (lt-ltb t 12 (omega (arith, ltb-true u 10 early, near_t)))
  | inr late ↦ or_right (nat_lt t 12) (nat_lt 34 t) (lt-ltb 34 t (omega (arith, ltb-true 36 u late, near_u)))
]
leaves B t u small out near_t near_u = elim (or_cases (nat_lt u 16) (nat_lt 36 u) out) [
  | inl early ↦ or_left (nat_lt t 18) (nat_lt 34 t) (lt-ltb t 18 (omega (arith, ltb-true u 16 early, near_t)))
  | inr late ↦ or_right (nat_lt t 18) (nat_lt 34 t) (lt-ltb 34 t (omega (arith, ltb-true 36 u late, near_u)))
]

pub three_meet : ThreeFramesMeetThePremises
three_meet = record {
  timely = timely;
  are_recorded = recorded;
  has_all = all;
  past_both = past_both;
  in_order = ordered;
  overlap = (omega arith, omega arith);
  leaves_out = leaves;
}

pub told : TellsWhatIsLost
told = record { all = refl; all_numbers = refl; one = refl; both = refl; twice = refl }

-- the ring
two : (P : ℤ → Type 0) (a b : ℤ) → P a → P b → (n : ℤ) → (int_eq n a || int_eq n b) ≡ true → P n
two P a b at_a at_b n is =
    elim (or_cases (int_eq n a) (int_eq n b) is) [
      | inl e ↦ subst P (sym ((Decides-int_eq n a).0 e)) at_a
      | inr e ↦ subst P (sym ((Decides-int_eq n b).0 e)) at_b
    ]

among : (side : Side) (n : ℤ) → ring_goes side n ≡ true → (int_eq n (pos 7) || (int_eq n (pos 8) || int_eq n (pos 9))) ≡ true
among A = two (λ n. (int_eq n (pos 7) || (int_eq n (pos 8) || int_eq n (pos 9))) ≡ true) (pos 7) (pos 9) refl refl
among B = two (λ n. (int_eq n (pos 7) || (int_eq n (pos 8) || int_eq n (pos 9))) ≡ true) (pos 8) (pos 9) refl refl

ring_timely : PassesInTime 2 ring_frames
ring_timely = record {
  in_turn = timely.in_turn;
  not_early = λ side n goes. timely.not_early side n (among side n goes);
  not_late = λ side n goes. timely.not_late side n (among side n goes);
  soon = timely.soon;
  few = λ side other m n goes_m goes_n. timely.few side other m n (among side m goes_m) (among other n goes_n);
  in_time = λ side n goes. timely.in_time side n (among side n goes);
}

ring_are_recorded : AreRecorded ring_frames ring_recorded ring_copies
ring_are_recorded = (
  record { goes = refl; time = refl; runs = refl; once = refl; later = omega arith; not_far = omega (arith, ints) },
  (
    record { goes = refl; time = refl; runs = refl; once = refl; later = omega arith; not_far = omega (arith, ints) },
    (
      record { goes = refl; time = refl; runs = refl; once = refl; later = omega arith; not_far = omega (arith, ints) },
      (record { goes = refl; time = refl; runs = refl; once = refl; later = omega arith; not_far = tt }, tt),
    ),
  ),
)

ring_all : HasAll ring_frames ring_recorded ring_copies
ring_all A n goes runs = two (λ k. came A k ring_copies ≡ true) (pos 7) (pos 9) refl refl n goes
ring_all B n goes runs = two (λ k. came B k ring_copies ≡ true) (pos 8) (pos 9) refl refl n goes

ring_past_one : GoesPastOne ring_frames
ring_past_one side other m k n goes_m goes_n from to =
    let low = bounded m (among side m goes_m) in
    let high = bounded n (among other n goes_n) in
    elim (which k (in_between k (first m k low.0 from) (last k n high.1 to))) [
      | inl seven ↦ (A, ap (ring_goes A) seven)
      | inr later ↦ elim later [
        | inl eight ↦ (B, ap (ring_goes B) eight)
        | inr nine ↦ (A, ap (ring_goes A) nine)
      ]
    ]
  where
    first : (i j : ℤ) → pos 7 ≤ℤ i → i ≤ℤ j → pos 7 ≤ℤ j
    first i j a b = omega (arith, ints, a, b)

    last : (i j : ℤ) → j ≤ℤ pos 9 → i ≤ℤ j → i ≤ℤ pos 9
    last i j a b = omega (arith, ints, a, b)

ring_quiet : AreQuietEdges 2 ring_frames ring_recorded ring_span
ring_quiet = (refl, by)
  where
    by : (side : Side) (n : ℤ) → ring_goes side n ≡ true → is_beyond ring_recorded side (three_pass side n) ≡ false →
        IsFarFromEnds 2 ring_frames ring_span side n
    by A n goes runs = two (IsFarFromEnds 2 ring_frames ring_span A) (pos 7) (pos 9) (record { begins = omega arith; ends = omega arith })
        (record { begins = omega arith; ends = omega arith }) n goes
    by B n goes runs = two (IsFarFromEnds 2 ring_frames ring_span B) (pos 8) (pos 9) (record { begins = omega arith; ends = omega arith })
        (record { begins = omega arith; ends = omega arith }) n goes

pub ring_meets : RingFramesMeetThePremises
ring_meets = record {
  timely = ring_timely;
  are_recorded = ring_are_recorded;
  has_all = ring_all;
  past_one = ring_past_one;
  quiet = ring_quiet;
}
