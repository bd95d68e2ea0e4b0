-- Where each frame of a source goes past both recorders, no number is of no frame.
use Rattle.std.proofs.Common.{◌≡◌, ℕ, zero, suc, ◌+◌, ◌-◌, ◌<◌, ◌≤◌, Bool, true, false, cond, ◌||◌, ◌&&◌, ◌⊎◌, List, [], ◌∷◌, length, Option, None, Some, ℤ, pos, negsuc, arith, refl, sym, ap, ◌∙◌, inl, inr}
use Rattle.std.specs.Prelude.{count_by, sum_by, nat_lt, ◌+ℤ◌, ◌-ℤ◌, ◌<ℤ◌, ◌≤ℤ◌}
use Rattle.std.specs.Ordering.{int_eq}
use Rattle.std.proofs.lemmas.Bool.{cases_Bool, ltb-true, ltb-false, le-ltb, or_from, or_parts, or_cases, and_parts}
use Rattle.std.proofs.lemmas.Bool.Decides.{Decides-int_eq}
use Rattle.std.proofs.lemmas.Int.{ints, by_lt_z}
use Rattle.std.proofs.lemmas.List.Sums.{sum_by-cons}
use Rattle.sr_sequence.specs.Numbers.{wire}
use Rattle.sr_sequence.specs.NumberLemmas.{wire-lt}
use Rattle.sr_sequence.specs.Places.{number_at, IsTheOne}
use Rattle.sr_audit.specs.declared.arrival.Arrival.{Arrival}
use Rattle.sr_audit.specs.declared.side.Side.{Side}
use Rattle.sr_audit.specs.declared.side.Side.TheVariants.{A, B}
use Rattle.sr_audit.specs.declared.span.Span.{Span}
use Rattle.sr_audit.specs.declared.span.Spans.{Spans}
use Rattle.sr_audit.specs.Edges.{first_time, is_outside, is_beyond}
use Rattle.sr_audit.specs.Extents.{bottom_number, size_of, length_of, jumps_of, restarts_of}
use Rattle.sr_audit.specs.Limits.{epoch_gap, kept_numbers}
use Rattle.sr_audit.specs.Stretches.{Placed, same_side, came, top_number, newest_time, lies_from, goes_on, gone_on, stretch_begun, with_arrival, stretches}
use Rattle.sr_audit.proofs.EdgeLemmas.{some_below}
use Rattle.sr_audit.proofs.FollowLemmas.{number_is}
use Rattle.sr_audit.proofs.FrameLemmas.{count-cons}
use Rattle.sr_laws_audit.specs.Outcomes.{Neither, same_outcome, outcome_if, outcome_of, numbers_from, numbers_with}
use Rattle.sr_laws_audit.specs.Records.{Passage, PassesInTime, IsRecorded, AreRecorded, HasAll, arrivals_by, GoesPastBoth, IsSequential, Overlap, GoesPastOne, AreQuietEdges, LacksNoNumber, RecordsLackNoNumber, RingRecordsLackNoNumber}
use Rattle.sr_laws_audit.proofs.OutcomeLemmas.{each_number, each_break}
use Rattle.sr_laws_audit.proofs.RecordLemmas.{Came, side_is, came_as, top_came, bottom_came, not_under, placed, arrival_of, begins, near_of, closer, near_time, goes_further, some_at, above_top}
use Rattle.sr_laws_audit.proofs.ShiftLemmas.{shift, shifted, came_shifted, top_shifted, IsUnseen, begun_unseen}

abbrev IsOneStretch : List Placed → ℤ → Type 0
IsOneStretch copies d = IsUnseen d × (stretches (arrivals_by copies) ≡ shifted d copies ∷ [])

-- each number lies less than 1024 ahead of the greatest one that came before
abbrev AreClose : List Placed → Type 0
AreClose [] = Unit {0}
AreClose (y ∷ []) = Unit {0}
AreClose (y ∷ z ∷ before) = (y.number <ℤ (top_number (z ∷ before) +ℤ pos kept_numbers)) × AreClose (z ∷ before)

one_stretch : (apart : ℕ) (p : Passage) (recorded : Spans) (y : Placed) (before : List Placed) → PassesInTime apart p →
    AreRecorded p recorded (y ∷ before) → AreClose (y ∷ before) → (d : ℤ) × IsOneStretch (y ∷ before) d
one_stretch apart p recorded y [] timely recs close = (
  pos (wire y.number) -ℤ y.number,
  (
    begun_unseen y.number (wire y.number) refl,
    ap (λ n. (placed y.side y.time n ∷ []) ∷ []) (begins y.number (wire y.number)),
  ),
)
one_stretch apart p recorded y (z ∷ rest) timely (own, recs) close =
    grown (one_stretch apart p recorded z rest timely recs close.1)
  where
    x : Arrival
    x = arrival_of y

    grown : ((d : ℤ) × IsOneStretch (z ∷ rest) d) → (d : ℤ) × IsOneStretch (y ∷ z ∷ rest) d
    grown (d, (unseen, is)) =
        let s = shifted d (z ∷ rest) in
        let g = top_number s in
        let t = top_number (z ∷ rest) in
        let top : g ≡ t +ℤ d = top_shifted d z rest in
        let place = lies_from s (wire y.number) in
        let one : IsTheOne kept_numbers g (wire y.number) (number_at g place) = number_is g (wire y.number) (wire-lt y.number) in
        let number : number_at g place ≡ y.number +ℤ d =
        sym (one.alone (y.number +ℤ d) (near_of g t y.number d top (not_under apart p recorded y z rest timely (own, recs)) (closer t y.number close.0)) (unseen y.number)) in
        let on : goes_on s x ≡ true =
        goes_further g t y.number d (nat_lt (y.time - z.time) epoch_gap) place top number close.0
        (near_time apart p recorded y z rest timely (own, recs)) in (
          d,
          (
            unseen,
            ap (λ ss. with_arrival ss x) is ∙ ap (λ b. cond b (gone_on s x ∷ []) (stretch_begun x ∷ s ∷ [])) on
                ∙ ap (λ n. (placed y.side y.time n ∷ s) ∷ []) number,
          ),
        )

sum_one : (f : List Placed → ℕ) (s : List Placed) (n : ℕ) → f s ≡ n → sum_by f (s ∷ []) ≡ n
sum_one f s n e = omega (arith, sum_by-cons f s [], e)

no_breaks : (len jumps restarts : ℕ) → len ≡ 1 + jumps + restarts → len ≡ 1 → (jumps ≡ 0) × (restarts ≡ 0)
no_breaks len jumps restarts e f = (omega (arith, e, f), omega (arith, e, f))

-- a number of a stretch is one of the copies
back_again : (n d : ℤ) → (n -ℤ d) +ℤ d ≡ n
back_again n d = omega (arith, ints)

came_back : (side : Side) (n d : ℤ) (copies : List Placed) → came side n (shifted d copies) ≡ came side (n -ℤ d) copies
came_back side n d copies = ap (λ k. came side k (shifted d copies)) (sym (back_again n d)) ∙ came_shifted side (n -ℤ d) d copies

-- a time while a recorder runs, or after it or before
inside : (span : Span) (t : ℕ) → is_outside (Some span) t ≡ false → (span.first ≤ t) × (t ≤ span.last)
inside span t in_it =
    let parts = or_parts (nat_lt t span.first) (nat_lt span.last t) in_it in
    (ltb-false t span.first parts.0, ltb-false span.last t parts.1)

outside : (span : Span) (t : ℕ) → is_outside (Some span) t ≡ true → (t < span.first) ⊎ (span.last < t)
outside span t out =
    elim (or_cases (nat_lt t span.first) (nat_lt span.last t) out) [
      | inl early ↦ inl (ltb-true t span.first early)
      | inr late ↦ inr (ltb-true span.last t late)
    ]

behind_it : (span : Span) (t : ℕ) → is_outside (Some span) t ≡ true → span.first ≤ t → span.last < t
behind_it span t out after =
    elim (outside span t out) [
      | inl early ↦ absurd (omega (arith, early, after))
      | inr late ↦ late
    ]

before_it : (span : Span) (t : ℕ) → is_outside (Some span) t ≡ true → t ≤ span.last → t < span.first
before_it span t out before =
    elim (outside span t out) [
      | inl early ↦ early
      | inr late ↦ absurd (omega (arith, late, before))
    ]

-- a frame between two that came passes one of two recorders while it runs
between : (apart : ℕ) (a b : Span) (side far : Side) (low mid high : Side → ℕ) → (a.first + apart ≤ b.last) → (b.first + apart ≤ a.last) →
    let outer : Side → ℕ → Bool = λ c t. is_beyond (record { a = Some a; b = Some b }) c t in
    outer side (low side) ≡ false → outer far (high far) ≡ false → outer A (mid A) ≡ true → outer B (mid B) ≡ true →
    ((c : Side) → low c ≤ mid c) → ((c : Side) → mid c ≤ high c) → mid A ≤ mid B + apart → mid B ≤ mid A + apart → ⊥
between apart a b A A low mid high ab ba from to out_a out_b up down near_a near_b =
    let late = behind_it a (mid A) out_a (omega (arith, (inside a (low A) from).0, up A)) in
    omega (arith, late, (inside a (high A) to).1, down A)
between apart a b A B low mid high ab ba from to out_a out_b up down near_a near_b =
    let late = behind_it a (mid A) out_a (omega (arith, (inside a (low A) from).0, up A)) in
    let early = before_it b (mid B) out_b (omega (arith, (inside b (high B) to).1, down B)) in
    omega (arith, late, early, near_a, ba)
between apart a b B A low mid high ab ba from to out_a out_b up down near_a near_b =
    let late = behind_it b (mid B) out_b (omega (arith, (inside b (low B) from).0, up B)) in
    let early = before_it a (mid A) out_a (omega (arith, (inside a (high A) to).1, down A)) in
    omega (arith, late, early, near_b, ab)
between apart a b B B low mid high ab ba from to out_a out_b up down near_a near_b =
    let late = behind_it b (mid B) out_b (omega (arith, (inside b (low B) from).0, up B)) in
    omega (arith, late, (inside b (high B) to).1, down B)

-- numbers of which none passes a test
none_within : (q : ℤ → Bool) (b : ℤ) (k : ℕ) → ((n : ℤ) → b ≤ℤ n → n <ℤ (b +ℤ pos k) → q n ≡ false) → count_by q (numbers_from b k) ≡ 0
none_within q b zero none = refl
none_within q b (suc k) none =
    count-cons q (b +ℤ pos k) (numbers_from b k)
    ∙ ap (λ t. cond t 1 0 + count_by q (numbers_from b k)) (none (b +ℤ pos k) (over b k) (under b k))
    ∙ ap (λ c. 0 + c) (none_within q b k (λ n above below. none n above (wider b n k below)))
  where
    over : (b : ℤ) (k : ℕ) → b ≤ℤ (b +ℤ pos k)
    over b k = omega (arith, ints)

    under : (b : ℤ) (k : ℕ) → (b +ℤ pos k) <ℤ (b +ℤ pos (suc k))
    under b k = omega (arith, ints)

    wider : (b n : ℤ) (k : ℕ) → n <ℤ (b +ℤ pos k) → n <ℤ (b +ℤ pos (suc k))
    wider b n k below = omega (arith, ints, below)

no_higher : (d b t n : ℤ) → t -ℤ b ≡ d → b ≤ℤ t → n <ℤ (b +ℤ pos (size_of d + 1)) → n ≤ℤ t
no_higher (pos k) b t n e le under = omega (arith, ints, e, under)
no_higher (negsuc k) b t n e le under = absurd (no b t k e le)
  where
    no : (b t : ℤ) (k : ℕ) → t -ℤ b ≡ negsuc k → b ≤ℤ t → ⊥
    no b t k e le = omega (arith, ints, e, le)

no_neither : (a b u v : Bool) → (a ≡ false → b ≡ false → ⊥) → same_outcome Neither (outcome_if a b u v) ≡ false
no_neither true true u v not_both = refl
no_neither true false u true not_both = refl
no_neither true false u false not_both = refl
no_neither false true true v not_both = refl
no_neither false true false v not_both = refl
no_neither false false u v not_both = absurd (not_both refl refl)

less_less : (m n d : ℤ) → m ≤ℤ n → (m -ℤ d) ≤ℤ (n -ℤ d)
less_less m n d le = omega (arith, ints, le)

each_side : (p : Passage) (n : ℤ) (side : Side) → GoesPastBoth p → p.goes side n ≡ true → (c : Side) → p.goes c n ≡ true
each_side p n A both goes A = goes
each_side p n A both goes B = both A n goes
each_side p n B both goes A = both B n goes
each_side p n B both goes B = goes

-- no number between two that came passes both recorders while they do not run
lacks_none : (apart : ℕ) (p : Passage) (a b : Span) (side far : Side) (low mid high : ℤ) → PassesInTime apart p → IsSequential p →
    let spans : Spans = record { a = Some a; b = Some b } in
    a.first + apart ≤ b.last → b.first + apart ≤ a.last → Came p spans side low → Came p spans far high → ((c : Side) → p.goes c low ≡ true) →
    ((c : Side) → p.goes c mid ≡ true) → ((c : Side) → p.goes c high ≡ true) → low ≤ℤ mid → mid ≤ℤ high →
    ((c : Side) → is_beyond spans c (p.passes c mid) ≡ true) → ⊥
lacks_none apart p a b side far low mid high timely order ab ba from to low_goes mid_goes high_goes above below out =
    between apart a b side far (λ c. p.passes c low) (λ c. p.passes c mid) (λ c. p.passes c high) ab ba from.runs to.runs
    (out A) (out B) (λ c. order.in_order c low mid (low_goes c) (mid_goes c) above)
    (λ c. order.in_order c mid high (mid_goes c) (high_goes c) below)
    (omega (arith, timely.not_late A mid (mid_goes A), timely.not_early B mid (mid_goes B)))
    (omega (arith, timely.not_late B mid (mid_goes B), timely.not_early A mid (mid_goes A)))

-- a number between two that came goes past a recorder that runs
abbrev Reaches : Passage → Spans → Type 0
Reaches p recorded = (side far : Side) (low mid high : ℤ) → Came p recorded side low → Came p recorded far high → low ≤ℤ mid → mid ≤ℤ high →
    (c : Side) × Came p recorded c mid

both_reach : (apart : ℕ) (p : Passage) (a b : Span) → PassesInTime apart p → IsSequential p → GoesPastBoth p → a.first + apart ≤ b.last →
    b.first + apart ≤ a.last → Reaches p (record { a = Some a; b = Some b })
both_reach apart p a b timely order both ab ba side far low mid high from to above below =
    elim (cases_Bool (is_beyond spans A (p.passes A mid))) [
      | inr runs ↦ (A, record { goes = mid_goes A; runs = runs })
      | inl out_a ↦ elim (cases_Bool (is_beyond spans B (p.passes B mid))) [
        | inr runs ↦ (B, record { goes = mid_goes B; runs = runs })
        | inl out_b ↦ absurd (lacks_none apart p a b side far low mid high timely order ab ba from to low_goes mid_goes high_goes above below
            (outs out_a out_b))
      ]
    ]
  where
    spans : Spans
    spans = record { a = Some a; b = Some b }

    low_goes : (c : Side) → p.goes c low ≡ true
    low_goes = each_side p low side both from.goes

    high_goes : (c : Side) → p.goes c high ≡ true
    high_goes = each_side p high far both to.goes

    mid_goes : (c : Side) → p.goes c mid ≡ true
    mid_goes c = order.one_apart c low mid high (low_goes c) (high_goes c) above below

    outs : is_beyond spans A (p.passes A mid) ≡ true → is_beyond spans B (p.passes B mid) ≡ true → (c : Side) →
        is_beyond spans c (p.passes c mid) ≡ true
    outs out_a out_b A = out_a
    outs out_a out_b B = out_b

in_span : (span : Span) (side : Side) (t : ℕ) → span.first ≤ t → t ≤ span.last → is_beyond (record { a = Some span; b = Some span }) side t ≡ false
in_span span A t from to = or_from (nat_lt t span.first) (nat_lt span.last t) (le-ltb t span.first from) (le-ltb span.last t to)
in_span span B t from to = or_from (nat_lt t span.first) (nat_lt span.last t) (le-ltb t span.first from) (le-ltb span.last t to)

one_reaches : (apart : ℕ) (p : Passage) (recorded : Spans) (span : Span) → PassesInTime apart p → GoesPastOne p →
    AreQuietEdges apart p recorded span → Reaches p recorded
one_reaches apart p recorded span timely one quiet side far low mid high from to above below =
    let there = one side far low mid high from.goes to.goes above below in
    let c = there.0 in
    let begins = (quiet.1 side low from.goes from.runs).begins in
    let ends = (quiet.1 far high to.goes to.runs).ends in
    let early : p.sent low ≤ p.sent mid = timely.in_turn low mid above in
    let late : p.sent mid ≤ p.sent high = timely.in_turn mid high below in
    let after : span.first ≤ p.passes c mid =
    omega (arith, begins, early, timely.not_late side low from.goes, timely.not_early c mid there.1) in
    let before : p.passes c mid ≤ span.last =
    omega (arith, ends, late, timely.not_early far high to.goes, timely.not_late c mid there.1) in (
      c,
      record { goes = there.1; runs = ap (λ r. is_beyond r c (p.passes c mid)) quiet.0 ∙ in_span span c (p.passes c mid) after before },
    )

-- some copies are all that passed before a time
abbrev HasUpTo : Passage → Spans → ℕ → List Placed → Type 0
HasUpTo p recorded bound copies = (side : Side) (n : ℤ) → p.goes side n ≡ true → is_beyond recorded side (p.passes side n) ≡ false →
    p.passes side n < bound → came side n copies ≡ true

up_to_before : (p : Passage) (recorded : Spans) (bound : ℕ) (y : Placed) (before : List Placed) → IsRecorded p recorded y before →
    y.time ≤ bound → HasUpTo p recorded bound (y ∷ before) → HasUpTo p recorded y.time before
up_to_before p recorded bound y before own le has side n goes runs lt =
    elim (cases_Bool (int_eq n y.number && same_side side y.side)) [
      | inl here ↦
          let both = and_parts (int_eq n y.number) (same_side side y.side) here in
          let number : n ≡ y.number = (Decides-int_eq n y.number).0 both.0 in
          let at : side ≡ y.side = side_is side y.side both.1 in
          let e : p.passes side n ≡ y.time = ap (λ c. p.passes c n) at ∙ ap (p.passes y.side) number ∙ sym own.time in
          absurd (omega (arith, e, lt))
      | inr elsewhere ↦ sym (ap (λ b. b || came side n before) elsewhere) ∙ has side n goes runs (omega (arith, lt, le))
    ]

runs_at : (p : Passage) (recorded : Spans) (y : Placed) (before : List Placed) → IsRecorded p recorded y before → Came p recorded y.side y.number
runs_at p recorded y before own =
    record { goes = own.goes; runs = ap (is_beyond recorded y.side) (sym own.time) ∙ own.runs }

are_close : (apart : ℕ) (p : Passage) (recorded : Spans) (bound : ℕ) (copies : List Placed) → PassesInTime apart p → Reaches p recorded →
    AreRecorded p recorded copies → newest_time copies ≤ bound → HasUpTo p recorded bound copies → AreClose copies
are_close apart p recorded bound [] timely reaches recs le has = tt
are_close apart p recorded bound (y ∷ []) timely reaches recs le has = tt
are_close apart p recorded bound (y ∷ z ∷ rest) timely reaches (own, recs) le has = (
  by_lt_z n (t +ℤ pos kept_numbers) (λ close. close) (λ far. absurd (no far)),
  are_close apart p recorded y.time (z ∷ rest) timely reaches recs own.later now,
)
  where
    before : List Placed
    before = z ∷ rest

    n : ℤ
    n = y.number

    t : ℤ
    t = top_number before

    now : HasUpTo p recorded y.time before
    now = up_to_before p recorded bound y before own le has

    done : (i j : ℤ) → (i +ℤ pos kept_numbers) ≤ℤ j → ((i +ℤ pos 1) +ℤ pos 1023) ≤ℤ j
    done i j far = omega (arith, ints, far)

    below : (i j : ℤ) → (i +ℤ pos kept_numbers) ≤ℤ j → (i +ℤ pos 1) ≤ℤ j
    below i j far = omega (arith, ints, far)

    over : (i : ℤ) → i ≤ℤ (i +ℤ pos 1)
    over i = omega (arith, ints)

    higher : (i : ℤ) → i <ℤ (i +ℤ pos 1)
    higher i = omega (arith, ints)

    there : (side : Side) × (came side t before ≡ true)
    there = top_came z rest

    no : (t +ℤ pos kept_numbers) ≤ℤ n → ⊥
    no far =
        let mid = t +ℤ pos 1 in
        let at = reaches there.0 y.side t mid n (came_as p recorded there.0 t before recs there.1) (runs_at p recorded y before own) (over t)
        (below t n far) in
        let c = at.0 in
        let passed : p.passes c mid < y.time =
        omega (
          arith,
          timely.not_late c mid at.1.goes,
          timely.few c y.side mid n at.1.goes own.goes (done t n far),
          timely.not_early y.side n own.goes,
          own.time,
        ) in
        let none : false ≡ true = sym (above_top c before mid (higher t)) ∙ now c mid at.1.goes at.1.runs passed in
        cc

lacks_no_number : (apart : ℕ) (p : Passage) (recorded : Spans) (copies : List Placed) → PassesInTime apart p → AreRecorded p recorded copies →
    HasAll p recorded copies → Reaches p recorded → LacksNoNumber (arrivals_by copies)
lacks_no_number apart p recorded [] timely recs all reaches = record { neither = refl; jumps = refl; restarts = refl }
lacks_no_number apart p recorded (y ∷ before) timely recs all reaches =
    record {
      neither = (each_number recorded (arrivals_by copies)).neither ∙ ap (sum_by (numbers_with recorded Neither)) is
          ∙ sum_one (numbers_with recorded Neither) s 0
          (none_within (λ n. same_outcome Neither (outcome_of recorded s n)) (bottom_number s) (length_of s)
          (λ n above below. no_neither (came A n s) (came B n s) (is_beyond recorded A (first_time n s)) (is_beyond recorded B (first_time n s))
          (lacked n above below)));
      jumps = none.0;
      restarts = none.1;
    }
  where
    copies : List Placed
    copies = y ∷ before

    one : (d : ℤ) × IsOneStretch copies d
    one = one_stretch apart p recorded y before timely recs
        (are_close apart p recorded y.time copies timely reaches recs (itself y.time) (λ c n goes runs lt. all c n goes runs))
      where
        itself : (n : ℕ) → n ≤ n
        itself n = omega arith

    d : ℤ
    d = one.0

    s : List Placed
    s = shifted d copies

    is : stretches (arrivals_by copies) ≡ s ∷ []
    is = one.1.1

    none : (jumps_of (arrivals_by copies) ≡ 0) × (restarts_of (arrivals_by copies) ≡ 0)
    none = no_breaks (length (stretches (arrivals_by copies))) (jumps_of (arrivals_by copies)) (restarts_of (arrivals_by copies))
        (each_break (arrival_of y) (arrivals_by before)) (ap length is)

    low : (side : Side) × (came side (bottom_number s) s ≡ true)
    low = bottom_came (shift d y) (shifted d before)

    high : (side : Side) × (came side (top_number s) s ≡ true)
    high = top_came (shift d y) (shifted d before)

    level : bottom_number s ≤ℤ top_number s
    level = some_below s (bottom_number s) (some_at low.0 (bottom_number s) s low.1)

    was_low : Came p recorded low.0 (bottom_number s -ℤ d)
    was_low = came_as p recorded low.0 (bottom_number s -ℤ d) copies recs (sym (came_back low.0 (bottom_number s) d copies) ∙ low.1)

    was_high : Came p recorded high.0 (top_number s -ℤ d)
    was_high = came_as p recorded high.0 (top_number s -ℤ d) copies recs (sym (came_back high.0 (top_number s) d copies) ∙ high.1)

    lacked : (n : ℤ) → bottom_number s ≤ℤ n → n <ℤ (bottom_number s +ℤ pos (length_of s)) → came A n s ≡ false → came B n s ≡ false → ⊥
    lacked n above below none_a none_b =
        let over : (bottom_number s -ℤ d) ≤ℤ (n -ℤ d) = less_less (bottom_number s) n d above in
        let under : (n -ℤ d) ≤ℤ (top_number s -ℤ d) =
        less_less n (top_number s) d (no_higher (top_number s -ℤ bottom_number s) (bottom_number s) (top_number s) n refl level below) in
        let there = reaches low.0 high.0 (bottom_number s -ℤ d) (n -ℤ d) (top_number s -ℤ d) was_low was_high over under in
        let no : false ≡ true = sym (not_there there.0) ∙ all there.0 (n -ℤ d) there.1.goes there.1.runs in
        cc
      where
        not_there : (c : Side) → came c (n -ℤ d) copies ≡ false
        not_there A = sym (came_back A n d copies) ∙ none_a
        not_there B = sym (came_back B n d copies) ∙ none_b

by_both : (ra rb : Option Span) (apart : ℕ) (p : Passage) → PassesInTime apart p → GoesPastBoth p → IsSequential p → Overlap apart ra rb →
    Reaches p (record { a = ra; b = rb })
by_both None rb apart p timely both order overlap = absurd overlap
by_both (Some a) None apart p timely both order overlap = absurd overlap
by_both (Some a) (Some b) apart p timely both order overlap = both_reach apart p a b timely order both overlap.0 overlap.1

pub no_number_lacks : RecordsLackNoNumber
no_number_lacks apart p recorded copies timely recs all both order overlap =
    lacks_no_number apart p recorded copies timely recs all (by_both recorded.a recorded.b apart p timely both order overlap)

pub no_ring_number_lacks : RingRecordsLackNoNumber
no_ring_number_lacks apart p recorded span copies timely recs all one quiet =
    lacks_no_number apart p recorded copies timely recs all (one_reaches apart p recorded span timely one quiet)
