-- Where a table is full: exactly where as many others are live as may be.
use Rattle.std.proofs.Common.{◌≡◌, ℕ, suc, ◌<◌, ◌≤◌, Bool, true, false, cond, not, ◌&&◌, nat_lt, List, [], ◌∷◌, length, filter}
use Rattle.std.proofs.Common.{Option, None, Some, refl, sym, ap, ◌∙◌, arith}
use Rattle.std.specs.Map.{lookup}
use Rattle.std.proofs.lemmas.Bool.{ltb-true, ltb-false, le-ltb}
use Rattle.sr_frame.specs.declared.fields.Mac.{Mac}
use Rattle.sr_frame.specs.declared.learn_outcome.LearnOutcome.TheVariants.{New, Known, Full}
use Rattle.sr_frame.specs.Addresses.{mac_eq}
use Rattle.sr_aged_slots.specs.Ages.{is_recent, live_by, room_by}
use Rattle.sr_aged_slots.specs.AgeLemmas.{length-live_by_le}

-- an address that has an entry is kept
pub kept_again : (b : Bool) → cond b Known New ≡ Full → ⊥
kept_again true h = cc
kept_again false h = cc

pub new_is_kept : New ≡ Full → ⊥
new_is_kept h = cc

module _ {X : Type 0} (time : X → ℕ) (span most : ℕ) (m : Mac) (now : ℕ) where
  -- the live entries but one
  abbrev others : List (Mac × X) → List (Mac × X)
  others es = filter (λ e. is_recent span now (time e.1) && not (mac_eq m e.0)) es

  abbrev has_room : List (Mac × X) → Bool
  has_room es = nat_lt (length (room_by time span most now es)) most

  -- those but one that has no entry are all live ones, and otherwise not all
  others_none : (es : List (Mac × X)) → lookup (mac_eq m) es ≡ None → others es ≡ live_by time span now es
  others_none [] h = refl
  others_none (e ∷ es) h = by (mac_eq m e.0) h (is_recent span now (time e.1)) (others_none es)
    where
      by : (t : Bool) → cond t (Some e.1) (lookup (mac_eq m) es) ≡ None → (b : Bool) →
          (lookup (mac_eq m) es ≡ None → others es ≡ live_by time span now es)
          → cond (b && not t) (e ∷ others es) (others es) ≡ cond b (e ∷ live_by time span now es) (live_by time span now es)
      by true h b ih = cc
      by false h true ih = ap (λ l. e ∷ l) (ih h)
      by false h false ih = ih h

  length-others_le : (es : List (Mac × X)) → length (others es) ≤ length es
  length-others_le [] = omega arith
  length-others_le (e ∷ es) = by (is_recent span now (time e.1) && not (mac_eq m e.0)) (length-others_le es)
    where
      by : (b : Bool) → length (others es) ≤ length es → length (cond b (e ∷ others es) (others es)) ≤ suc (length es)
      by true h = omega arith
      by false h = omega arith

  others_some : (es : List (Mac × X)) (x : X) → lookup (mac_eq m) es ≡ Some x → length (others es) < length es
  others_some [] x there = cc
  others_some (e ∷ es) x there = by (mac_eq m e.0) there (is_recent span now (time e.1)) (others_some es x)
    where
      by : (t : Bool) → cond t (Some e.1) (lookup (mac_eq m) es) ≡ Some x → (b : Bool) →
          (lookup (mac_eq m) es ≡ Some x → length (others es) < length es)
          → length (cond (b && not t) (e ∷ others es) (others es)) < suc (length es)
      by true there true ih = omega (arith, length-others_le es)
      by true there false ih = omega (arith, length-others_le es)
      by false there true ih = omega (arith, ih there)
      by false there false ih = omega (arith, ih there)

  -- a new address finds no room exactly where as many as may be are live
  room_where : (es l : List (Mac × X)) → length es ≤ most → length l ≤ length es
      → (nat_lt (length (cond (nat_lt (length es) most) es l)) most ≡ false → length l ≡ most)
      × (length l ≡ most → nat_lt (length (cond (nat_lt (length es) most) es l)) most ≡ false)
  room_where es l few le = by (nat_lt (length es) most) refl
    where
      by : (b : Bool) → nat_lt (length es) most ≡ b → (nat_lt (length (cond b es l)) most ≡ false → length l ≡ most)
          × (length l ≡ most → nat_lt (length (cond b es l)) most ≡ false)
      by true t = (
        λ h. let a : length es < most = ltb-true (length es) most t in
            let b : most ≤ length es = ltb-false (length es) most h in absurd (omega arith),
        λ h. let a : length es < most = ltb-true (length es) most t in absurd (omega arith),
      )
      by false t = (
        λ h. let b : most ≤ length l = ltb-false (length l) most h in omega arith,
        λ h. le-ltb (length l) most (omega arith),
      )

  -- where an address that has an entry is kept, and any other finds room or not, it is answered `full` exactly where `most` others
  -- are live
  pub full_where : {O : Type 0} (es : List (Mac × X)) (answer : Option X → O) (new full : O) → (new ≡ full → ⊥)
      → ((e : X) → answer (Some e) ≡ full → ⊥)
      → answer None ≡ cond (has_room es) new full → length es ≤ most
      → (answer (lookup (mac_eq m) es) ≡ full → length (others es) ≡ most)
      × (length (others es) ≡ most → answer (lookup (mac_eq m) es) ≡ full)
  full_where {O} es answer new full apart kept room few = by (lookup (mac_eq m) es) refl
    where
      none : (b : Bool) → cond b new full ≡ full → b ≡ false
      none true h = absurd (apart h)
      none false h = refl

      by : (o : Option X) → lookup (mac_eq m) es ≡ o
          → (answer o ≡ full → length (others es) ≡ most) × (length (others es) ≡ most → answer o ≡ full)
      by (Some x) there = (λ e. absurd (kept x e), λ e. absurd (omega (arith, others_some es x there)))
      by None there =
          let w = room_where es (live_by time span now es) few (length-live_by_le time span now es) in
          let same : length (others es) ≡ length (live_by time span now es) = ap length (others_none es there) in
          (λ e. same ∙ w.0 (none (has_room es) (sym room ∙ e)), λ e. room ∙ ap (λ b. cond b new full) (w.1 (sym same ∙ e)))
