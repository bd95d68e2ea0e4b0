-- The copies of all sources together.
use Rattle.std.proofs.Common.{◌≡◌, ℕ, ◌+◌, Bool, true, false, cond, ◌&&◌, List, [], ◌∷◌, length, Option, None, Some, is_some, arith, refl, sym, ap, ◌∙◌, subst, inl, inr, pos}
use Rattle.std.specs.Prelude.{count_by, sum_by}
use Rattle.std.specs.List.{IsDistinct, AllByRecursion}
use Rattle.std.specs.Map.{lookup, keys_of}
use Rattle.std.proofs.lemmas.Bool.{cases_Bool}
use Rattle.std.proofs.lemmas.List.Sums.{sum_by-cons}
use Rattle.sr_sequence.specs.Places.{number_at}
use Rattle.sr_frame.specs.declared.fields.Mac.{Mac}
use Rattle.sr_frame.specs.Addresses.{mac_eq}
use Rattle.sr_frame.specs.AddressLemmas.{mac_same, mac_symm, mac_refl}
use Rattle.sr_audit.specs.declared.arrival.Arrival.{Arrival}
use Rattle.sr_audit.specs.declared.numbers.Numbers.{Numbers}
use Rattle.sr_audit.specs.declared.side.Side.{Side}
use Rattle.sr_audit.specs.declared.side.Side.TheVariants.{A, B}
use Rattle.sr_audit.specs.declared.source.Source.{Source}
use Rattle.sr_audit.specs.declared.span.Spans.{Spans}
use Rattle.sr_audit.specs.Audits.{Sent, of, IsEntryFor}
use Rattle.sr_audit.specs.Laws.{rx_at, of_known, SourcesAddUp}
use Rattle.sr_audit.specs.Shown.{tally_in}
use Rattle.sr_audit.specs.Stretches.{
  Placed,
  copy_as,
  same_side,
  top_number,
  lies_from,
  goes_on,
  gone_on,
  stretch_begun,
  with_arrival,
  stretches,
}
use Rattle.sr_audit.specs.Taken.{IsKeptIn, HasTaken}
use Rattle.sr_audit.specs.Tallies.{copies}
use Rattle.sr_audit.proofs.FrameLemmas.{count-cons}

-- the copies of the stretches at a side are the arrivals there
copies-stretches : (side : Side) (xs : List Arrival) → sum_by (copies side) (stretches xs) ≡ count_by (λ x. same_side side x.side) xs
copies-stretches side [] = refl
copies-stretches side (x ∷ xs) =
    more (stretches xs) (copies-stretches side xs) ∙ sym (count-cons (λ z. same_side side z.side) x xs)
  where
    one : ℕ
    one = cond (same_side side x.side) 1 0

    rest : ℕ
    rest = count_by (λ z. same_side side z.side) xs

    more : (ss : List (List Placed)) → sum_by (copies side) ss ≡ rest → sum_by (copies side) (with_arrival ss x) ≡ one + rest
    more [] e = omega (
      arith,
      e,
      sum_by-cons (copies side) (stretch_begun x) [],
      count-cons (λ (z : Placed). same_side side z.side) (copy_as x (pos x.seq.0)) [],
    )
    more (s ∷ ss) e =
        elim (cases_Bool (goes_on s x)) [
          | inl on ↦ rw on (omega (
            arith,
            e,
            sum_by-cons (copies side) s ss,
            sum_by-cons (copies side) (gone_on s x) ss,
            count-cons (λ (z : Placed). same_side side z.side) (copy_as x (number_at (top_number s) (lies_from s x.seq.0))) s,
          ))
          | inr off ↦ rw off (omega (
            arith,
            e,
            sum_by-cons (copies side) (stretch_begun x) (s ∷ ss),
            count-cons (λ (z : Placed). same_side side z.side) (copy_as x (pos x.seq.0)) [],
          ))
        ]

kept_rx : (side : Side) (xs : List Arrival) (o : Option Numbers) → IsKeptIn xs o → rx_at side (tally_in o) ≡ count_by (λ x. same_side side x.side) xs
kept_rx A xs None none = rw none refl
kept_rx B xs None none = rw none refl
kept_rx A xs (Some n) follows = ap (rx_at A) follows.tally ∙ copies-stretches A xs
kept_rx B xs (Some n) follows = ap (rx_at B) follows.tally ∙ copies-stretches B xs

-- two tests of which no more than one holds
count_either : (p q r : Sent → Bool) → ((x : Sent) → cond (r x) 1 0 ≡ cond (p x) 1 0 + cond (q x) 1 0) → (xs : List Sent) →
    count_by r xs ≡ count_by p xs + count_by q xs
count_either p q r each [] = refl
count_either p q r each (x ∷ xs) = omega (arith, count-cons r x xs, count-cons p x xs, count-cons q x xs, each x, count_either p q r each xs)

-- the arrivals of one source
count-of : (side : Side) (m : Mac) (xs : List Sent) →
    count_by (λ x. same_side side x.side) (of m xs) ≡ count_by (λ x. same_side side x.1.side && mac_eq x.0 m) xs
count-of side m [] = refl
count-of side m (x ∷ xs) =
    by (count-of side m xs) (mac_eq m x.0) refl ∙ sym (count-cons (λ (z : Sent). same_side side z.1.side && mac_eq z.0 m) x xs)
  where
    late : ℕ
    late = count_by (λ (z : Sent). same_side side z.1.side && mac_eq z.0 m) xs

    and_true : (b : Bool) → (b && true) ≡ b
    and_true true = refl
    and_true false = refl

    and_false : (b : Bool) → (b && false) ≡ false
    and_false true = refl
    and_false false = refl

    by : count_by (λ z. same_side side z.side) (of m xs) ≡ late → (t : Bool) → mac_eq m x.0 ≡ t →
        count_by (λ z. same_side side z.side) (cond t (x.1 ∷ of m xs) (of m xs)) ≡ cond (same_side side x.1.side && mac_eq x.0 m) 1 0 + late
    by ih true own =
        let test : (same_side side x.1.side && mac_eq x.0 m) ≡ same_side side x.1.side =
        ap (λ b. same_side side x.1.side && b) (mac_symm x.0 m ∙ own) ∙ and_true (same_side side x.1.side) in
        let is : cond {A = ℕ} (same_side side x.1.side && mac_eq x.0 m) 1 0 ≡ cond (same_side side x.1.side) 1 0 =
        ap (λ b. cond {A = ℕ} b 1 0) test in
        omega (arith, count-cons (λ (z : Arrival). same_side side z.side) x.1 (of m xs), is, ih)
    by ih false other =
        let test : (same_side side x.1.side && mac_eq x.0 m) ≡ false =
        ap (λ b. same_side side x.1.side && b) (mac_symm x.0 m ∙ other) ∙ and_false (same_side side x.1.side) in
        let is : cond {A = ℕ} (same_side side x.1.side && mac_eq x.0 m) 1 0 ≡ 0 = ap (λ b. cond {A = ℕ} b 1 0) test in
        omega (arith, is, ih)

-- an address that is not among those of entries has none
not_there : (m : Mac) (entries : List (Mac × Source)) → AllByRecursion (λ y. mac_eq m y ≡ false) (keys_of entries) →
    lookup (mac_eq m) entries ≡ None
not_there m [] apart = refl
not_there m (e ∷ es) apart = rw apart.0 (not_there m es apart.1)

-- the copies of all entries, each of which says of the arrivals of its source
entries_sum : (spans : Spans) (side : Side) (xs : List Sent) (entries : List (Mac × Source)) → IsDistinct mac_eq (keys_of entries) →
    ((m : Mac) (s : Source) → lookup (mac_eq m) entries ≡ Some s → HasTaken spans (of m xs) s) →
    sum_by (λ e. rx_at side (tally_in e.1.numbers)) entries ≡ of_known side entries xs
unfolding IsDistinct
entries_sum spans side xs [] unique each = sym (none xs)
  where
    none : (ys : List Sent) → count_by (λ x. same_side side x.1.side && false) ys ≡ 0
    none [] = refl
    none (y ∷ ys) =
        let head : cond {A = ℕ} (same_side side y.1.side && false) 1 0 ≡ 0 = no (same_side side y.1.side) in
        omega (arith, head, count-cons (λ (x : Sent). same_side side x.1.side && false) y ys, none ys)
      where
        no : (b : Bool) → cond {A = ℕ} (b && false) 1 0 ≡ 0
        no true = refl
        no false = refl
entries_sum spans side xs (e ∷ es) unique each =
    let own : HasTaken spans (of e.0 xs) e.1 = each e.0 e.1 (rw (mac_refl e.0) refl) in
    let here : rx_at side (tally_in e.1.numbers) ≡ count_by (λ x. same_side side x.1.side && mac_eq x.0 e.0) xs =
    kept_rx side (of e.0 xs) e.1.numbers own.numbers ∙ count-of side e.0 xs in
    let rest : sum_by (λ f. rx_at side (tally_in f.1.numbers)) es ≡ of_known side es xs =
    entries_sum spans side xs es unique.1 (λ m s found. each m s (later m s found)) in
    let both : of_known side (e ∷ es) xs ≡ count_by (λ x. same_side side x.1.side && mac_eq x.0 e.0) xs + of_known side es xs =
    count_either (λ x. same_side side x.1.side && mac_eq x.0 e.0) (λ x. same_side side x.1.side && is_some (lookup (mac_eq x.0) es))
    (λ x. same_side side x.1.side && is_some (lookup (mac_eq x.0) (e ∷ es))) split xs in
    omega (arith, here, rest, both, sum_by-cons (λ (f : Mac × Source). rx_at side (tally_in f.1.numbers)) e es)
  where
    gone : lookup (mac_eq e.0) es ≡ None
    gone = not_there e.0 es unique.0

    later : (m : Mac) (s : Source) → lookup (mac_eq m) es ≡ Some s → lookup (mac_eq m) (e ∷ es) ≡ Some s
    later m s found =
        elim (cases_Bool (mac_eq m e.0)) [
          | inl same ↦
              let no : None ≡ Some s = sym gone ∙ ap (λ k. lookup (mac_eq k) es) (sym (mac_same m e.0 same)) ∙ found in absurd cc
          | inr other ↦ rw other found
        ]

    split : (x : Sent) → cond {A = ℕ} (same_side side x.1.side && is_some (lookup (mac_eq x.0) (e ∷ es))) 1 0
        ≡ cond (same_side side x.1.side && mac_eq x.0 e.0) 1 0 + cond (same_side side x.1.side && is_some (lookup (mac_eq x.0) es)) 1 0
    split x =
        elim (cases_Bool (mac_eq x.0 e.0)) [
          | inl same ↦
              let none : lookup (mac_eq x.0) es ≡ None = ap (λ k. lookup (mac_eq k) es) (mac_same x.0 e.0 same) ∙ gone in
              rw (same, none) (yes (same_side side x.1.side))
          | inr other ↦ rw other (no (same_side side x.1.side) (is_some (lookup (mac_eq x.0) es)))
        ]
      where
        yes : (b : Bool) → cond {A = ℕ} (b && true) 1 0 ≡ cond (b && true) 1 0 + cond (b && false) 1 0
        yes true = refl
        yes false = refl

        no : (b t : Bool) → cond {A = ℕ} (b && t) 1 0 ≡ cond (b && false) 1 0 + cond (b && t) 1 0
        no true true = refl
        no true false = refl
        no false t = refl

pub sources_sum : SourcesAddUp
sources_sum spans xs entries side unique audits =
    entries_sum spans side xs entries unique
    (λ m s found. subst (IsEntryFor spans (length entries) (of m xs)) found (audits.each m))
