-- Signs of life, with one more.
use Rattle.std.proofs.Common.{◌≡◌, ℕ, ◌+◌, ◌<◌, ◌≤◌, Bool, true, false, cond, List, [], ◌∷◌, ◌++◌, length, Option, None, Some, is_some, arith, refl, sym, ap, ◌∙◌, subst, inl, inr, length-append}
use Rattle.std.specs.Prelude.{◌^◌, ◌-◌}
use Rattle.std.specs.Map.{lookup, set_value}
use Rattle.std.proofs.lemmas.Bool.{cases_Bool}
use Rattle.std.proofs.lemmas.Map.{length-set_value}
use Rattle.sr_frame.specs.declared.fields.Mac.{Mac}
use Rattle.sr_frame.specs.Addresses.{mac_eq}
use Rattle.sr_frame.specs.AddressLemmas.{mac_same, mac_symm}
use Rattle.sr_slots.specs.EntryLemmas.{lookup-set, lookup-push}
use Rattle.sr_audit.specs.declared.side.Side.{Side}
use Rattle.sr_audit.specs.declared.side.Side.TheVariants.{A, B}
use Rattle.sr_audit.specs.declared.source.Source.{Source}
use Rattle.sr_audit.specs.Limits.{most_audited}
use Rattle.sr_audit.specs.Shown.{bounded_sum}
use Rattle.sr_audit.specs.Stretches.{same_side}
use Rattle.sr_audit.specs.Hearing.{
  Sign,
  times_at,
  wider,
  gap_of,
  lives_of,
  alive_of,
  lives_with,
  alive_with,
  alive_before,
  HasHeard,
  Reported,
  signs_for,
  IsHeardFor,
  Hears,
}

-- those of a side with one more
lives_more : (t : ℕ) (times : List ℕ) → length times + 1 < 2 ^ 64 → lives_with t (lives_of times) ≡ lives_of (t ∷ times)
lives_more t [] few = refl
lives_more t (u ∷ times) few =
    let sum : bounded_sum (length (u ∷ times)) 1 ≡ length (t ∷ u ∷ times) = omega (arith, few) in
    λ i. record { rx = sum i; last = Some t; gap = Some (wider (t - u) (gap_of (u ∷ times))) }

times_le : (side : Side) (signs : List Sign) → length (times_at side signs) ≤ length signs
times_le side [] = omega arith
times_le side (s ∷ signs) =
    elim (cases_Bool (same_side side s.side)) [
      | inl own ↦ rw own (omega (arith, times_le side signs))
      | inr other ↦ rw other (omega (arith, times_le side signs))
    ]

-- those of an address with one more
pub alive_more : (sign : Sign) (signs : List Sign) → length signs + 1 < 2 ^ 64 →
    Some (alive_with sign.kind sign.side sign.time (alive_before sign.kind (alive_of signs))) ≡ alive_of (sign ∷ signs)
alive_more sign signs few = by sign.side refl signs few
  where
    by : (side : Side) → sign.side ≡ side → (signs : List Sign) → length signs + 1 < 2 ^ 64 →
        Some (alive_with sign.kind sign.side sign.time (alive_before sign.kind (alive_of signs))) ≡ alive_of (sign ∷ signs)
    by A is [] few = rw is refl
    by B is [] few = rw is refl
    by A is (s ∷ before) few =
        let more = lives_more sign.time (times_at A (s ∷ before)) (omega (arith, few, times_le A (s ∷ before))) in
        rw is (λ i. Some (record { kind = sign.kind; a = more i; b = lives_of (times_at B (s ∷ before)) }))
    by B is (s ∷ before) few =
        let more = lives_more sign.time (times_at B (s ∷ before)) (omega (arith, few, times_le B (s ∷ before))) in
        rw is (λ i. Some (record { kind = sign.kind; a = lives_of (times_at A (s ∷ before)); b = more i }))

-- no address has more signs of life than there are
pub length-signs_for : (m : Mac) (signs : List Reported) → length (signs_for m signs) ≤ length signs
length-signs_for m [] = omega arith
length-signs_for m (h ∷ signs) =
    elim (cases_Bool (mac_eq m h.0)) [
      | inl own ↦ rw own (omega (arith, length-signs_for m signs))
      | inr other ↦ rw other (omega (arith, length-signs_for m signs))
    ]

-- more sources
stands_later : (count more : ℕ) (signs : List Sign) (o : Option Source) → count ≤ more → IsHeardFor count signs o → IsHeardFor more signs o
stands_later count more signs None le (inl none) = inl none
stands_later count more signs None le (inr full) = inr (omega (arith, le, full))
stands_later count more signs (Some s) le heard = heard

-- an entry for an address that has none
pub hears_made : (signs : List Reported) (entries : List (Mac × Source)) (mac : Mac) (s : Source) → Hears signs entries →
    lookup (mac_eq mac) entries ≡ None → length entries < most_audited → HasHeard [] s → Hears signs (entries ++ (mac, s) ∷ [])
hears_made signs entries mac s hears absent few empty =
    record { each = λ m. rw (lookup-push mac m s entries absent) (by m (mac_eq mac m) refl) }
  where
    none : IsHeardFor (length entries) (signs_for mac signs) None → signs_for mac signs ≡ []
    none (inl nothing) = nothing
    none (inr full) = absurd (omega (arith, few, full))

    by : (m : Mac) (t : Bool) → mac_eq mac m ≡ t →
        IsHeardFor (length (entries ++ (mac, s) ∷ [])) (signs_for m signs) (cond t (Some s) (lookup (mac_eq m) entries))
    by m true same =
        let nothing : signs_for m signs ≡ [] =
        ap (λ k. signs_for k signs) (sym (mac_same mac m same)) ∙ none (subst (IsHeardFor (length entries) (signs_for mac signs)) absent (hears.each mac)) in
        subst (λ l. HasHeard l s) (sym nothing) empty
    by m false other = stands_later (length entries) (length (entries ++ (mac, s) ∷ [])) (signs_for m signs) (lookup (mac_eq m) entries)
        (omega (arith, length-append entries ((mac, s) ∷ []))) (hears.each m)

-- an entry that changed in nothing that was heard
pub hears_kept : (signs : List Reported) (entries : List (Mac × Source)) (src : Mac) (was is : Source) → lookup (mac_eq src) entries ≡ Some was →
    is.alive ≡ was.alive → Hears signs entries → Hears signs (set_value (mac_eq src) entries is)
hears_kept signs entries src was is found same hears =
    record {
      each = λ m. rw (lookup-set src m is entries (ap is_some found), length-set_value (mac_eq src) entries is)
          (by m (mac_eq src m) refl);
    }
  where
    by : (m : Mac) (t : Bool) → mac_eq src m ≡ t → IsHeardFor (length entries) (signs_for m signs) (cond t (Some is) (lookup (mac_eq m) entries))
    by m true own =
        let heard : HasHeard (signs_for m signs) was =
        subst (IsHeardFor (length entries) (signs_for m signs)) (ap (λ k. lookup (mac_eq k) entries) (sym (mac_same src m own)) ∙ found) (hears.each m) in
        record { alive = λ few. same ∙ heard.alive few }
    by m false other = hears.each m

-- an entry that took a sign of life
pub hears_taken : (signs : List Reported) (entries : List (Mac × Source)) (mac : Mac) (sign : Sign) (was is : Source) →
    lookup (mac_eq mac) entries ≡ Some was → ((ys : List Sign) → HasHeard ys was → HasHeard (sign ∷ ys) is) → Hears signs entries →
    Hears ((mac, sign) ∷ signs) (set_value (mac_eq mac) entries is)
hears_taken signs entries mac sign was is found takes hears =
    record {
      each = λ m. rw (lookup-set mac m is entries (ap is_some found), length-set_value (mac_eq mac) entries is)
          (by m (mac_eq m mac) refl);
    }
  where
    own : (m : Mac) → m ≡ mac → HasHeard (sign ∷ signs_for m signs) is
    own m same = takes (signs_for m signs)
        (subst (IsHeardFor (length entries) (signs_for m signs)) (ap (λ k. lookup (mac_eq k) entries) same ∙ found) (hears.each m))

    by : (m : Mac) (t : Bool) → mac_eq m mac ≡ t →
        IsHeardFor (length entries) (cond (mac_eq m mac) (sign ∷ signs_for m signs) (signs_for m signs))
        (cond (mac_eq mac m) (Some is) (lookup (mac_eq m) entries))
    by m true same = rw (same, mac_symm mac m ∙ same) (own m (mac_same m mac same))
    by m false other = rw (other, mac_symm mac m ∙ other) (hears.each m)

-- a sign of life for an address that has no entry, where there are so many
pub hears_left : (signs : List Reported) (entries : List (Mac × Source)) (mac : Mac) (sign : Sign) → Hears signs entries →
    is_some (lookup (mac_eq mac) entries) ≡ false → most_audited ≤ length entries → Hears ((mac, sign) ∷ signs) entries
hears_left signs entries mac sign hears absent full = record { each = λ m. by m (mac_eq m mac) refl }
  where
    left : (ys : List Sign) (o : Option Source) → is_some o ≡ false → IsHeardFor (length entries) ys o
    left ys None lacks = inr full
    left ys (Some s) lacks = absurd cc

    by : (m : Mac) (t : Bool) → mac_eq m mac ≡ t →
        IsHeardFor (length entries) (cond t (sign ∷ signs_for m signs) (signs_for m signs)) (lookup (mac_eq m) entries)
    by m true same =
        left (sign ∷ signs_for m signs) (lookup (mac_eq m) entries) (ap (λ k. is_some (lookup (mac_eq k) entries)) (mac_same m mac same) ∙ absent)
    by m false other = hears.each m
