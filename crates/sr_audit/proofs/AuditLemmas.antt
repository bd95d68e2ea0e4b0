-- An audit of many sources follows their arrivals.
use Rattle.std.proofs.Common.{
  ◌≡◌,
  ℕ,
  ◌+◌,
  ◌<◌,
  ◌≤◌,
  Bool,
  true,
  false,
  cond,
  List,
  [],
  ◌∷◌,
  ◌++◌,
  length,
  Option,
  None,
  Some,
  is_some,
  arith,
  refl,
  sym,
  ap,
  ◌∙◌,
  subst,
  inl,
  inr,
  length-append,
}
use Rattle.std.specs.Prelude.{◌^◌, ◌-◌, IfSome, IfNone, OnErr, Result, Ok, Err, min, not, count_by}
use Rattle.std.specs.Map.{lookup, set_value}
use Rattle.std.proofs.lemmas.Bool.{cases_Bool}
use Rattle.std.proofs.lemmas.Map.{length-set_value}
use Rattle.sr_frame.specs.declared.fields.Mac.{Mac}
use Rattle.sr_frame.specs.Addresses.{mac_eq}
use Rattle.sr_frame.specs.AddressLemmas.{mac_same, mac_symm, mac_refl}
use Rattle.sr_slots.specs.EntryLemmas.{lookup-set, lookup-push}
use Rattle.sr_audit.specs.declared.arrival.Arrival.{Arrival}
use Rattle.sr_audit.specs.declared.source.Source.{Source}
use Rattle.sr_audit.specs.declared.span.Spans.{Spans}
use Rattle.sr_audit.specs.Limits.{most_audited}
use Rattle.sr_audit.specs.Taken.{HasTaken}
use Rattle.sr_audit.specs.Audits.{Sent, of, IsEntryFor, Audits, left_out_of, IsLeftOut}
use Rattle.sr_audit.proofs.FrameLemmas.{count-cons}

-- no source has more arrivals than there are
length-of : (m : Mac) (xs : List Sent) → length (of m xs) ≤ length xs
length-of m [] = omega arith
length-of m (x ∷ xs) =
    elim (cases_Bool (mac_eq m x.0)) [
      | inl own ↦ rw own (omega (arith, length-of m xs))
      | inr other ↦ rw other (omega (arith, length-of m xs))
    ]

-- more sources
stands_later : (spans : Spans) (count more : ℕ) (xs : List Arrival) (o : Option Source) → count ≤ more → IsEntryFor spans count xs o → IsEntryFor spans more xs o
stands_later spans count more xs None le (inl none) = inl none
stands_later spans count more xs None le (inr full) = inr (omega (arith, le, full))
stands_later spans count more xs (Some s) le taken = taken

-- an entry for a source that has none
pub audits_made : (spans : Spans) (xs : List Sent) (entries : List (Mac × Source)) (src : Mac) (s : Source) → Audits spans xs entries →
    lookup (mac_eq src) entries ≡ None → length entries < most_audited → HasTaken spans [] s → Audits spans xs (entries ++ (src, s) ∷ [])
audits_made spans xs entries src s audits absent few empty =
    record { each = λ m. rw (lookup-push src m s entries absent) (by m (mac_eq src m) refl) }
  where
    none : IsEntryFor spans (length entries) (of src xs) None → of src xs ≡ []
    none (inl nothing) = nothing
    none (inr full) = absurd (omega (arith, few, full))

    longer : length entries ≤ length (entries ++ (src, s) ∷ [])
    longer = omega (arith, length-append entries ((src, s) ∷ []))

    by : (m : Mac) (t : Bool) → mac_eq src m ≡ t →
        IsEntryFor spans (length (entries ++ (src, s) ∷ [])) (of m xs) (cond t (Some s) (lookup (mac_eq m) entries))
    by m true same =
        let nothing : of m xs ≡ [] =
        ap (λ k. of k xs) (sym (mac_same src m same)) ∙ none (subst (IsEntryFor spans (length entries) (of src xs)) absent (audits.each src)) in
        subst (λ ys. HasTaken spans ys s) (sym nothing) empty
    by m false other = stands_later spans (length entries) (length (entries ++ (src, s) ∷ [])) (of m xs) (lookup (mac_eq m) entries) longer
        (audits.each m)

-- an arrival of a source that has no entry, where there are so many
pub audits_left : (spans : Spans) (xs : List Sent) (entries : List (Mac × Source)) (src : Mac) (x : Arrival) → Audits spans xs entries →
    is_some (lookup (mac_eq src) entries) ≡ false → most_audited ≤ length entries → Audits spans ((src, x) ∷ xs) entries
audits_left spans xs entries src x audits absent full = record { each = λ m. by m (mac_eq m src) refl }
  where
    left : (ys : List Arrival) (o : Option Source) → is_some o ≡ false → IsEntryFor spans (length entries) ys o
    left ys None lacks = inr full
    left ys (Some s) lacks = absurd cc

    by : (m : Mac) (t : Bool) → mac_eq m src ≡ t →
        IsEntryFor spans (length entries) (cond t (x ∷ of m xs) (of m xs)) (lookup (mac_eq m) entries)
    by m true same = left (x ∷ of m xs) (lookup (mac_eq m) entries) (ap (λ k. is_some (lookup (mac_eq k) entries)) (mac_same m src same) ∙ absent)
    by m false other = audits.each m

-- an entry that changed, and the arrival that it took
pub audits_taken : (spans : Spans) (xs : List Sent) (entries : List (Mac × Source)) (src : Mac) (x : Arrival) (was is : Source) → length xs + 1 < 2 ^ 64 →
    lookup (mac_eq src) entries ≡ Some was →
    ((ys : List Arrival) → length ys + 1 < 2 ^ 64 → HasTaken spans ys was → HasTaken spans (x ∷ ys) is) → Audits spans xs entries →
    Audits spans ((src, x) ∷ xs) (set_value (mac_eq src) entries is)
audits_taken spans xs entries src x was is few found takes audits =
    record {
      each = λ m. rw (lookup-set src m is entries (ap is_some found), length-set_value (mac_eq src) entries is)
          (by m (mac_eq m src) refl);
    }
  where
    own : (m : Mac) → m ≡ src → HasTaken spans (x ∷ of m xs) is
    own m same = takes (of m xs) (omega (arith, few, length-of m xs))
        (subst (IsEntryFor spans (length entries) (of m xs)) (ap (λ k. lookup (mac_eq k) entries) same ∙ found) (audits.each m))

    by : (m : Mac) (t : Bool) → mac_eq m src ≡ t →
        IsEntryFor spans (length entries) (cond (mac_eq m src) (x ∷ of m xs) (of m xs)) (cond (mac_eq src m) (Some is) (lookup (mac_eq m) entries))
    by m true same = rw (same, mac_symm src m ∙ same) (own m (mac_same m src same))
    by m false other = rw (other, mac_symm src m ∙ other) (audits.each m)

-- an entry that changed in nothing that was taken
pub audits_kept : (spans : Spans) (xs : List Sent) (entries : List (Mac × Source)) (src : Mac) (was is : Source) →
    lookup (mac_eq src) entries ≡ Some was → ((ys : List Arrival) → HasTaken spans ys was → HasTaken spans ys is) → Audits spans xs entries → Audits spans xs (set_value (mac_eq src) entries is)
audits_kept spans xs entries src was is found keeps audits =
    record {
      each = λ m. rw (lookup-set src m is entries (ap is_some found), length-set_value (mac_eq src) entries is)
          (by m (mac_eq src m) refl);
    }
  where
    by : (m : Mac) (t : Bool) → mac_eq src m ≡ t → IsEntryFor spans (length entries) (of m xs) (cond t (Some is) (lookup (mac_eq m) entries))
    by m true own =
        keeps (of m xs) (subst (IsEntryFor spans (length entries) (of m xs))
        (ap (λ k. lookup (mac_eq k) entries) (sym (mac_same src m own)) ∙ found) (audits.each m))
    by m false other = audits.each m

-- the entry that was made is there
pub made_is : (entries : List (Mac × Source)) (src : Mac) (s : Source) → lookup (mac_eq src) entries ≡ None →
    true ≡ is_some (lookup (mac_eq src) (entries ++ (src, s) ∷ []))
made_is entries src s absent = rw (lookup-push src src s entries absent, mac_refl src) refl

-- a look-up that finds nothing
pub nothing_there : {X : Type 0} (o : Option X) → is_some o ≡ false → o ≡ None
nothing_there None lacks = refl
nothing_there (Some x) lacks = absurd cc

-- what holds where there is no answer
pub without_answer : {X : Type 0} {P : Type 0} (o : Option X) → is_some o ≡ false → IfNone o P → P
without_answer None lacks holds = holds
without_answer (Some x) lacks holds = absurd cc

-- a write at an address changes nothing of which addresses have an entry
known_set : (entries : List (Mac × Source)) (src m : Mac) (was is : Source) → lookup (mac_eq src) entries ≡ Some was →
    is_some (lookup (mac_eq m) (set_value (mac_eq src) entries is)) ≡ is_some (lookup (mac_eq m) entries)
known_set entries src m was is found = ap is_some (lookup-set src m is entries (ap is_some found)) ∙ by (mac_eq src m) refl
  where
    by : (t : Bool) → mac_eq src m ≡ t → is_some (cond t (Some is) (lookup (mac_eq m) entries)) ≡ is_some (lookup (mac_eq m) entries)
    by true same = sym (ap (λ k. is_some (lookup (mac_eq k) entries)) (sym (mac_same src m same)) ∙ ap is_some found)
    by false other = refl

pub left_set : (entries : List (Mac × Source)) (src : Mac) (was is : Source) → lookup (mac_eq src) entries ≡ Some was → (xs : List Sent) →
    left_out_of (set_value (mac_eq src) entries is) xs ≡ left_out_of entries xs
left_set entries src was is found xs = λ i. count_by (λ x. not (known_set entries src x.0 was is found i)) xs

pub own_set : (entries : List (Mac × Source)) (src : Mac) (was is : Source) → lookup (mac_eq src) entries ≡ Some was →
    is_some (lookup (mac_eq src) (set_value (mac_eq src) entries is)) ≡ true
own_set entries src was is found = known_set entries src src was is found ∙ ap is_some found

-- an entry for a source of which nothing came
left_push : (entries : List (Mac × Source)) (src : Mac) (s : Source) (xs : List Sent) → lookup (mac_eq src) entries ≡ None → of src xs ≡ [] →
    left_out_of (entries ++ (src, s) ∷ []) xs ≡ left_out_of entries xs
left_push entries src s [] absent nothing = refl
left_push entries src s (x ∷ xs) absent nothing = by (mac_eq src x.0) refl nothing (left_push entries src s xs absent)
  where
    p : Sent → Bool
    p y = not (is_some (lookup (mac_eq y.0) (entries ++ (src, s) ∷ [])))

    q : Sent → Bool
    q y = not (is_some (lookup (mac_eq y.0) entries))

    by : (t : Bool) → mac_eq src x.0 ≡ t → cond t (x.1 ∷ of src xs) (of src xs) ≡ [] →
        (of src xs ≡ [] → left_out_of (entries ++ (src, s) ∷ []) xs ≡ left_out_of entries xs) →
        left_out_of (entries ++ (src, s) ∷ []) (x ∷ xs) ≡ left_out_of entries (x ∷ xs)
    by true own nothing rest = absurd cc
    by false other nothing rest =
        let same : p x ≡ q x =
        ap (λ o. not (is_some o)) (lookup-push src x.0 s entries absent ∙ ap (λ b. cond b (Some s) (lookup (mac_eq x.0) entries)) other) in
        count-cons p x xs ∙ ap (λ b. cond b 1 0 + count_by p xs) same ∙ ap (λ n. cond (q x) 1 0 + n) (rest nothing)
        ∙ sym (count-cons q x xs)

pub left_made : (spans : Spans) (xs : List Sent) (entries : List (Mac × Source)) (src : Mac) (s : Source) → Audits spans xs entries →
    lookup (mac_eq src) entries ≡ None → length entries < most_audited → left_out_of (entries ++ (src, s) ∷ []) xs ≡ left_out_of entries xs
left_made spans xs entries src s audits absent few =
    left_push entries src s xs absent (none (subst (IsEntryFor spans (length entries) (of src xs)) absent (audits.each src)))
  where
    none : IsEntryFor spans (length entries) (of src xs) None → of src xs ≡ []
    none (inl nothing) = nothing
    none (inr full) = absurd (omega (arith, few, full))

-- the count of what is left out, where nothing came, an arrival of a source with an entry, or one of another
pub left_kept : (old new : List (Mac × Source)) (xs : List Sent) (count : ℕ) → left_out_of new xs ≡ left_out_of old xs →
    IsLeftOut old xs count → IsLeftOut new xs count
left_kept old new xs count same is = is ∙ ap (λ n. min n (2 ^ 64 - 1)) (sym same)

pub left_known : (old new : List (Mac × Source)) (xs : List Sent) (src : Mac) (x : Arrival) (count : ℕ) →
    left_out_of new xs ≡ left_out_of old xs → is_some (lookup (mac_eq src) new) ≡ true → IsLeftOut old xs count →
    IsLeftOut new ((src, x) ∷ xs) count
left_known old new xs src x count same known is =
    let none : left_out_of new ((src, x) ∷ xs) ≡ 0 + left_out_of new xs =
    count-cons (λ y. not (is_some (lookup (mac_eq y.0) new))) (src, x) xs
    ∙ ap (λ b. cond (not b) 1 0 + left_out_of new xs) known in
    omega (arith, is, none, same)

pub left_more : (old new : List (Mac × Source)) (xs : List Sent) (src : Mac) (x : Arrival) (count : ℕ) →
    left_out_of new xs ≡ left_out_of old xs → is_some (lookup (mac_eq src) new) ≡ false → IsLeftOut old xs count →
    IsLeftOut new ((src, x) ∷ xs) (min (count + 1) (2 ^ 64 - 1))
left_more old new xs src x count same unknown is =
    let one : left_out_of new ((src, x) ∷ xs) ≡ 1 + left_out_of old xs =
    count-cons (λ y. not (is_some (lookup (mac_eq y.0) new))) (src, x) xs
    ∙ ap (λ b. cond (not b) 1 0 + left_out_of new xs) unknown ∙ ap (λ n. 1 + n) same in
    omega (arith, is, one)

-- what holds where there is an answer
pub with_answer : {X : Type 0} {P : Type 0} (o : Option X) → is_some o ≡ true → IfSome o (λ x. P) → P
with_answer None there holds = absurd cc
with_answer (Some x) there holds = holds

-- what holds holds where there is an error
pub on_any_error : {X E : Type 0} {P : Type 0} (r : Result X E) → P → OnErr r P
on_any_error (Ok x) holds = tt
on_any_error (Err e) holds = holds
