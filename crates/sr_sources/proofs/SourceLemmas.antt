-- What is kept of many sources follows what is told of each.
use Rattle.std.proofs.Common.{
  ◌≡◌,
  ℕ,
  ◌+◌,
  ◌<◌,
  ◌≤◌,
  Bool,
  true,
  false,
  cond,
  ◌||◌,
  List,
  [],
  ◌∷◌,
  ◌++◌,
  length,
  Option,
  None,
  Some,
  is_some,
  arith,
  refl,
  sym,
  ap,
  ◌∙◌,
  subst,
  inl,
  inr,
  length-append,
}
use Rattle.std.specs.Prelude.{◌^◌, ◌-◌, IfSome, IfNone, OnErr, Result, Ok, Err, min, not, count_by}
use Rattle.std.specs.List.{list_any}
use Rattle.std.specs.Map.{lookup, set_value}
use Rattle.std.proofs.lemmas.List.Sums.{sum_by-cons}
use Rattle.std.proofs.lemmas.Map.{length-set_value}
use Rattle.sr_frame.specs.declared.fields.Mac.{Mac}
use Rattle.sr_frame.specs.Addresses.{mac_eq}
use Rattle.sr_frame.specs.AddressLemmas.{mac_same, mac_symm, mac_refl}
use Rattle.sr_prp_trailer.specs.declared.trailer.Lan.{Lan}
use Rattle.sr_prp_trailer.specs.declared.trailer.Lan.TheVariants.{A, B}
use Rattle.sr_slots.specs.EntryLemmas.{lookup-set, lookup-push}
use Rattle.sr_sources.specs.declared.source.Event.{Event}
use Rattle.sr_sources.specs.declared.source.Event.TheVariants.{Frame, Alive, Behind, IsBox}
use Rattle.sr_sources.specs.declared.source.Source.{Source}
use Rattle.sr_sources.specs.Lanes.{lane_with, lane_of}
use Rattle.sr_sources.specs.Limits.{most_sources}
use Rattle.sr_sources.specs.Sources.{
  source_with,
  source_of,
  frames_at,
  last_life,
  last_redbox,
  names_box,
  ShowsEvents,
  SourcesShowEvents,
  Noted,
  events_of,
  IsSourceFor,
  AreSourcesOf,
  passed_over,
  IsPassedOver,
}

-- what is kept of a source is of all of its events
a_shows : (es : List Event) → (source_of es).a ≡ lane_of (frames_at A es)
a_shows [] = refl
a_shows (Frame A x ∷ es) = ap (lane_with x) (a_shows es)
a_shows (Frame B x ∷ es) = a_shows es
a_shows (Alive life ∷ es) = a_shows es
a_shows (Behind redbox ∷ es) = a_shows es
a_shows (IsBox ∷ es) = a_shows es

b_shows : (es : List Event) → (source_of es).b ≡ lane_of (frames_at B es)
b_shows [] = refl
b_shows (Frame A x ∷ es) = b_shows es
b_shows (Frame B x ∷ es) = ap (lane_with x) (b_shows es)
b_shows (Alive life ∷ es) = b_shows es
b_shows (Behind redbox ∷ es) = b_shows es
b_shows (IsBox ∷ es) = b_shows es

life_shows : (es : List Event) → (source_of es).life ≡ last_life es
life_shows [] = refl
life_shows (Frame A x ∷ es) = life_shows es
life_shows (Frame B x ∷ es) = life_shows es
life_shows (Alive life ∷ es) = refl
life_shows (Behind redbox ∷ es) = life_shows es
life_shows (IsBox ∷ es) = life_shows es

redbox_shows : (es : List Event) → (source_of es).redbox ≡ last_redbox es
redbox_shows [] = refl
redbox_shows (Frame A x ∷ es) = redbox_shows es
redbox_shows (Frame B x ∷ es) = redbox_shows es
redbox_shows (Alive life ∷ es) = redbox_shows es
redbox_shows (Behind redbox ∷ es) = refl
redbox_shows (IsBox ∷ es) = redbox_shows es

box_shows : (es : List Event) → (source_of es).is_redbox ≡ list_any names_box es
box_shows [] = refl
box_shows (Frame A x ∷ es) = box_shows es
box_shows (Frame B x ∷ es) = box_shows es
box_shows (Alive life ∷ es) = box_shows es
box_shows (Behind redbox ∷ es) = box_shows es
box_shows (IsBox ∷ es) = refl

pub shows_events : SourcesShowEvents
shows_events es =
    record { at_a = a_shows es; at_b = b_shows es; life = life_shows es; redbox = redbox_shows es; is_redbox = box_shows es }

count-first : {X : Type 0} (p : X → Bool) (x : X) (xs : List X) → count_by p (x ∷ xs) ≡ cond (p x) 1 0 + count_by p xs
count-first p x xs = sum_by-cons (λ y. cond (p y) 1 0) x xs

-- more sources
stands_later : (count more : ℕ) (xs : List Event) (o : Option Source) → count ≤ more → IsSourceFor count xs o → IsSourceFor more xs o
stands_later count more xs None le (inl none) = inl none
stands_later count more xs None le (inr full) = inr (omega (arith, le, full))
stands_later count more xs (Some s) le taken = taken

-- an entry for a source that has none
pub sources_made : (xs : List Noted) (entries : List (Mac × Source)) (src : Mac) (s : Source) → AreSourcesOf xs entries →
    lookup (mac_eq src) entries ≡ None → length entries < most_sources → s ≡ source_of [] → AreSourcesOf xs (entries ++ (src, s) ∷ [])
sources_made xs entries src s all absent few empty =
    record { each = λ m. rw (lookup-push src m s entries absent) (by m (mac_eq src m) refl) }
  where
    none : IsSourceFor (length entries) (events_of src xs) None → events_of src xs ≡ []
    none (inl nothing) = nothing
    none (inr full) = absurd (omega (arith, few, full))

    longer : length entries ≤ length (entries ++ (src, s) ∷ [])
    longer = omega (arith, length-append entries ((src, s) ∷ []))

    by : (m : Mac) (t : Bool) → mac_eq src m ≡ t →
        IsSourceFor (length (entries ++ (src, s) ∷ [])) (events_of m xs) (cond t (Some s) (lookup (mac_eq m) entries))
    by m true same =
        let nothing : events_of m xs ≡ [] =
        ap (λ k. events_of k xs) (sym (mac_same src m same))
        ∙ none (subst (IsSourceFor (length entries) (events_of src xs)) absent (all.each src)) in
        subst (λ (ys : List Event). s ≡ source_of ys) (sym nothing) empty
    by m false other = stands_later (length entries) (length (entries ++ (src, s) ∷ [])) (events_of m xs) (lookup (mac_eq m) entries) longer
        (all.each m)

-- an event of a source that has no entry, where there are so many
pub sources_left : (xs : List Noted) (entries : List (Mac × Source)) (src : Mac) (x : Event) → AreSourcesOf xs entries →
    is_some (lookup (mac_eq src) entries) ≡ false → most_sources ≤ length entries → AreSourcesOf ((src, x) ∷ xs) entries
sources_left xs entries src x all absent full = record { each = λ m. by m (mac_eq m src) refl }
  where
    left : (ys : List Event) (o : Option Source) → is_some o ≡ false → IsSourceFor (length entries) ys o
    left ys None lacks = inr full
    left ys (Some s) lacks = absurd cc

    by : (m : Mac) (t : Bool) → mac_eq m src ≡ t →
        IsSourceFor (length entries) (cond t (x ∷ events_of m xs) (events_of m xs)) (lookup (mac_eq m) entries)
    by m true same = left (x ∷ events_of m xs) (lookup (mac_eq m) entries)
        (ap (λ k. is_some (lookup (mac_eq k) entries)) (mac_same m src same) ∙ absent)
    by m false other = all.each m

-- an entry that changed, and the event that it took
pub sources_taken : (xs : List Noted) (entries : List (Mac × Source)) (src : Mac) (x : Event) (was is : Source) →
    lookup (mac_eq src) entries ≡ Some was → is ≡ source_with x was → AreSourcesOf xs entries →
    AreSourcesOf ((src, x) ∷ xs) (set_value (mac_eq src) entries is)
sources_taken xs entries src x was is found takes all =
    record {
      each = λ m. rw (lookup-set src m is entries (ap is_some found), length-set_value (mac_eq src) entries is)
          (by m (mac_eq m src) refl);
    }
  where
    own : (m : Mac) → m ≡ src → is ≡ source_of (x ∷ events_of m xs)
    own m same = takes ∙ ap (source_with x)
        (subst (IsSourceFor (length entries) (events_of m xs)) (ap (λ k. lookup (mac_eq k) entries) same ∙ found) (all.each m))

    by : (m : Mac) (t : Bool) → mac_eq m src ≡ t →
        IsSourceFor (length entries) (cond (mac_eq m src) (x ∷ events_of m xs) (events_of m xs))
        (cond (mac_eq src m) (Some is) (lookup (mac_eq m) entries))
    by m true same = rw (same, mac_symm src m ∙ same) (own m (mac_same m src same))
    by m false other = rw (other, mac_symm src m ∙ other) (all.each m)

-- the entry that was made is there
pub made_is : (entries : List (Mac × Source)) (src : Mac) (s : Source) → lookup (mac_eq src) entries ≡ None →
    true ≡ is_some (lookup (mac_eq src) (entries ++ (src, s) ∷ []))
made_is entries src s absent = rw (lookup-push src src s entries absent, mac_refl src) refl

-- a look-up that finds nothing
pub nothing_there : {X : Type 0} (o : Option X) → is_some o ≡ false → o ≡ None
nothing_there None lacks = refl
nothing_there (Some x) lacks = absurd cc

-- what holds where there is no answer
pub without_answer : {X : Type 0} {P : Type 0} (o : Option X) → is_some o ≡ false → IfNone o P → P
without_answer None lacks holds = holds
without_answer (Some x) lacks holds = absurd cc

-- a write at an address changes nothing of which addresses have an entry
known_set : (entries : List (Mac × Source)) (src m : Mac) (was is : Source) → lookup (mac_eq src) entries ≡ Some was →
    is_some (lookup (mac_eq m) (set_value (mac_eq src) entries is)) ≡ is_some (lookup (mac_eq m) entries)
known_set entries src m was is found = ap is_some (lookup-set src m is entries (ap is_some found)) ∙ by (mac_eq src m) refl
  where
    by : (t : Bool) → mac_eq src m ≡ t → is_some (cond t (Some is) (lookup (mac_eq m) entries)) ≡ is_some (lookup (mac_eq m) entries)
    by true same = sym (ap (λ k. is_some (lookup (mac_eq k) entries)) (sym (mac_same src m same)) ∙ ap is_some found)
    by false other = refl

pub left_set : (entries : List (Mac × Source)) (src : Mac) (was is : Source) → lookup (mac_eq src) entries ≡ Some was → (xs : List Noted) →
    passed_over (set_value (mac_eq src) entries is) xs ≡ passed_over entries xs
left_set entries src was is found xs = λ i. count_by (λ x. not (known_set entries src x.0 was is found i)) xs

pub own_set : (entries : List (Mac × Source)) (src : Mac) (was is : Source) → lookup (mac_eq src) entries ≡ Some was →
    is_some (lookup (mac_eq src) (set_value (mac_eq src) entries is)) ≡ true
own_set entries src was is found = known_set entries src src was is found ∙ ap is_some found

-- an entry for a source of which nothing came
left_push : (entries : List (Mac × Source)) (src : Mac) (s : Source) (xs : List Noted) → lookup (mac_eq src) entries ≡ None →
    events_of src xs ≡ [] → passed_over (entries ++ (src, s) ∷ []) xs ≡ passed_over entries xs
left_push entries src s [] absent nothing = refl
left_push entries src s (x ∷ xs) absent nothing = by (mac_eq src x.0) refl nothing (left_push entries src s xs absent)
  where
    p : Noted → Bool
    p y = not (is_some (lookup (mac_eq y.0) (entries ++ (src, s) ∷ [])))

    q : Noted → Bool
    q y = not (is_some (lookup (mac_eq y.0) entries))

    by : (t : Bool) → mac_eq src x.0 ≡ t → cond t (x.1 ∷ events_of src xs) (events_of src xs) ≡ [] →
        (events_of src xs ≡ [] → passed_over (entries ++ (src, s) ∷ []) xs ≡ passed_over entries xs) →
        passed_over (entries ++ (src, s) ∷ []) (x ∷ xs) ≡ passed_over entries (x ∷ xs)
    by true own nothing rest = absurd cc
    by false other nothing rest =
        let same : p x ≡ q x =
        ap (λ o. not (is_some o)) (lookup-push src x.0 s entries absent ∙ ap (λ b. cond b (Some s) (lookup (mac_eq x.0) entries)) other) in
        count-first p x xs ∙ ap (λ b. cond b 1 0 + count_by p xs) same ∙ ap (λ n. cond (q x) 1 0 + n) (rest nothing)
        ∙ sym (count-first q x xs)

pub left_made : (xs : List Noted) (entries : List (Mac × Source)) (src : Mac) (s : Source) → AreSourcesOf xs entries →
    lookup (mac_eq src) entries ≡ None → length entries < most_sources → passed_over (entries ++ (src, s) ∷ []) xs ≡ passed_over entries xs
left_made xs entries src s all absent few =
    left_push entries src s xs absent (none (subst (IsSourceFor (length entries) (events_of src xs)) absent (all.each src)))
  where
    none : IsSourceFor (length entries) (events_of src xs) None → events_of src xs ≡ []
    none (inl nothing) = nothing
    none (inr full) = absurd (omega (arith, few, full))

-- the count of what is left out, where nothing came, an event of a source with an entry, or one of another
pub left_kept : (old new : List (Mac × Source)) (xs : List Noted) (count : ℕ) → passed_over new xs ≡ passed_over old xs →
    IsPassedOver old xs count → IsPassedOver new xs count
left_kept old new xs count same is = is ∙ ap (λ n. min n (2 ^ 64 - 1)) (sym same)

pub left_known : (old new : List (Mac × Source)) (xs : List Noted) (src : Mac) (x : Event) (count : ℕ) →
    passed_over new xs ≡ passed_over old xs → is_some (lookup (mac_eq src) new) ≡ true → IsPassedOver old xs count →
    IsPassedOver new ((src, x) ∷ xs) count
left_known old new xs src x count same known is =
    let none : passed_over new ((src, x) ∷ xs) ≡ 0 + passed_over new xs =
    count-first (λ y. not (is_some (lookup (mac_eq y.0) new))) (src, x) xs
    ∙ ap (λ b. cond (not b) 1 0 + passed_over new xs) known in
    omega (arith, is, none, same)

pub left_more : (old new : List (Mac × Source)) (xs : List Noted) (src : Mac) (x : Event) (count : ℕ) →
    passed_over new xs ≡ passed_over old xs → is_some (lookup (mac_eq src) new) ≡ false → IsPassedOver old xs count →
    IsPassedOver new ((src, x) ∷ xs) (min (count + 1) (2 ^ 64 - 1))
left_more old new xs src x count same unknown is =
    let one : passed_over new ((src, x) ∷ xs) ≡ 1 + passed_over old xs =
    count-first (λ y. not (is_some (lookup (mac_eq y.0) new))) (src, x) xs
    ∙ ap (λ b. cond (not b) 1 0 + passed_over new xs) unknown ∙ ap (λ n. 1 + n) same in
    omega (arith, is, one)

-- what holds where there is an answer
pub with_answer : {X : Type 0} {P : Type 0} (o : Option X) → is_some o ≡ true → IfSome o (λ x. P) → P
with_answer None there holds = absurd cc
with_answer (Some x) there holds = holds

-- what holds holds where there is an error
pub on_any_error : {X E : Type 0} {P : Type 0} (r : Result X E) → P → OnErr r P
on_any_error (Ok x) holds = tt
on_any_error (Err e) holds = holds
