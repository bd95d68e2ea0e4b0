-- What a table tells that begins with what stood in it.
use Rattle.std.proofs.Common.{◌≡◌, ◌≢◌, ℕ, ◌-◌, ◌≤◌, Bool, true, false, cond, nat_lt, List, [], ◌∷◌, ◌++◌, Option, None, Some, is_some, ℤ, pos, refl, sym, ap, ◌∙◌, subst, arith, inl, inr}
use Rattle.std.specs.Prelude.{◌-ℤ◌}
use Rattle.std.specs.List.{IsDistinct}
use Rattle.std.specs.Map.{lookup, keys_of}
use Rattle.std.proofs.lemmas.Bool.{cases_Bool}
use Rattle.std.proofs.lemmas.Map.{lookup-none}
use Rattle.std.proofs.lemmas.Map.Entries.{none_past_head}
use Rattle.std.proofs.lemmas.Map.Keys.{IsDistinct-tail}
use Rattle.sr_frame.specs.declared.fields.Mac.{Mac}
use Rattle.sr_frame.specs.Addresses.{mac_eq}
use Rattle.sr_frame.specs.AddressLemmas.{mac_same, mac_refl, mac_laws}
use Rattle.sr_slots.specs.Calls.{passing}
use Rattle.sr_dup_window.specs.declared.lane_sets.Lanes.{Lanes}
use Rattle.sr_dup_window.specs.LaneSets.{is_empty}
use Rattle.sr_dup_window.specs.Bins.{IsWidth}
use Rattle.sr_dup_table.specs.Limits.{forget_time}
use Rattle.sr_dup_table.specs.Sources.{Remembered, Sources, is_live}
use Rattle.sr_laws_dup.specs.TableRuns.{Noting}
use Rattle.sr_laws_dup.specs.Starts.{pairs, stood, IsStart}
use Rattle.sr_laws_dup.specs.EpochLemmas.{noted_epoch, top_of, family_of, family_of_epoch}
use Rattle.sr_laws_dup.specs.RunLemmas.{KeepsEpoch, Keeps}
use Rattle.sr_laws_dup.proofs.StartLemmas.{start_kept}
use Rattle.sr_laws_dup_joins.specs.Growths.{newest, numbers}
use Rattle.sr_laws_dup_joins.specs.GrowthLaws.{Tells}
use Rattle.sr_laws_dup_joins.proofs.ListLemmas.{stands-like, Among, number-of}

-- all of one time
abbrev AllAt : ℕ → List Noting → Type 0
AllAt t [] = Unit {0}
AllAt t (x ∷ xs) = (x.arrival.time ≡ t) × AllAt t xs

newest-at : (t : ℕ) (xs : List Noting) → AllAt t xs → xs ≢ [] → newest xs ≡ t
newest-at t [] all some = absurd (some refl)
newest-at t (x ∷ []) all some = omega (arith, all.0)
newest-at t (x ∷ y ∷ xs) all some = omega (arith, all.0, newest-at t (y ∷ xs) all.1 (λ e. cc))

-- the notings of one source at one time, before others
pairs-at : (src : Mac) (n : ℤ) (t : ℕ) (marks : List Lanes) → AllAt t (pairs src n t marks)
pairs-at src n t [] = tt
pairs-at src n t (m ∷ ms) =
    let rest = pairs-at src (n -ℤ pos 1) t ms in
    elim (cases_Bool (is_empty m)) [
      | inl none ↦ rw none rest
      | inr some ↦ rw some (refl, rest)
    ]

epoch-at : (q : Mac) (t now : ℕ) (xs rest : List Noting) → AllAt t xs → ((u : ℕ) → AllAt t (noted_epoch q u rest)) → AllAt t (noted_epoch q now (xs ++ rest))
epoch-at q t now [] rest all others = others now
epoch-at q t now (x ∷ xs) rest all others =
    elim (cases_Bool (mac_eq q x.arrival.src)) [
      | inl own ↦
          elim (cases_Bool (nat_lt (now - x.arrival.time) forget_time)) [
            | inl live ↦ rw (own, live) (all.0, epoch-at q t x.arrival.time xs rest all.1 others)
            | inr old ↦ rw (own, old) tt
          ]
      | inr other ↦ rw other (epoch-at q t now xs rest all.1 others)
    ]

epoch-past : (q src : Mac) (n : ℤ) (time t now : ℕ) (marks : List Lanes) (rest : List Noting) → mac_eq q src ≡ false → AllAt t (noted_epoch q now rest)
    → AllAt t (noted_epoch q now (pairs src n time marks ++ rest))
epoch-past q src n time t now [] rest other all = all
epoch-past q src n time t now (m ∷ ms) rest other all =
    let more = epoch-past q src (n -ℤ pos 1) time t now ms rest other all in
    elim (cases_Bool (is_empty m)) [
      | inl none ↦ rw none more
      | inr some ↦ rw (some, other) more
    ]

-- what stood of a source is of the time when it was last heard
absent-at : (q : Mac) (top : Mac → ℤ) (t now : ℕ) (s : Sources) → lookup (mac_eq q) s ≡ None → AllAt t (noted_epoch q now (stood top s))
absent-at q top t now [] lacks = tt
absent-at q top t now (e ∷ es) lacks =
    elim (cases_Bool (mac_eq q e.0)) [
      | inl same ↦ let found : Some e.1 ≡ None = rw same at lacks in absurd cc
      | inr other ↦ epoch-past q e.0 (top e.0) e.1.time t now e.1.seen.marks (stood top es) other (absent-at q top t now es (rw other at lacks))
    ]

stood-at : (q : Mac) (top : Mac → ℤ) (now : ℕ) (s : Sources) (h : Remembered) → IsDistinct mac_eq (keys_of s) → lookup (mac_eq q) s ≡ Some h
    → AllAt h.time (noted_epoch q now (stood top s))
stood-at q top now [] h keys there = cc
stood-at q top now (e ∷ es) h keys there =
    elim (cases_Bool (mac_eq q e.0)) [
      | inr other ↦
          epoch-past q e.0 (top e.0) e.1.time h.time now e.1.seen.marks (stood top es) other
          (stood-at q top now es h (IsDistinct-tail mac_eq e.0 (keys_of es) keys) (rw other at there))
      | inl same ↦
          let found : Some e.1 ≡ Some h = rw same at there in
          let is : e.1 ≡ h = cc in
          let gone : lookup (mac_eq e.0) es ≡ None = lookup-none (mac_eq e.0) es (none_past_head mac_laws e.0 e es keys (mac_refl e.0)) in
          let absent : lookup (mac_eq q) es ≡ None = subst (λ m. lookup (mac_eq m) es ≡ None) (sym (mac_same q e.0 same)) gone in
          epoch-at q h.time now (pairs e.0 (top e.0) e.1.time e.1.seen.marks) (stood top es)
          (subst (λ t. AllAt t (pairs e.0 (top e.0) e.1.time e.1.seen.marks)) (ap (λ k. k.time) is) (pairs-at e.0 (top e.0) e.1.time e.1.seen.marks))
          (λ u. absent-at q top h.time u es absent)
    ]

-- what is in an epoch of notings is among them, and of the source
pub noted-from : (src : Mac) (now : ℕ) (xs : List Noting) (x : Noting) → Among (noted_epoch src now xs) x → Among xs x × (mac_eq src x.arrival.src ≡ true)
noted-from src now [] x h = absurd h
noted-from src now (y ∷ ys) x h =
    by (mac_eq src y.arrival.src) refl (nat_lt (now - y.arrival.time) forget_time) h (noted-from src now ys x) (noted-from src y.arrival.time ys x)
  where
    by : (b : Bool) → mac_eq src y.arrival.src ≡ b → (live : Bool)
        → Among (cond b (cond live (y ∷ noted_epoch src y.arrival.time ys) []) (noted_epoch src now ys)) x
        → (Among (noted_epoch src now ys) x → Among ys x × (mac_eq src x.arrival.src ≡ true))
        → (Among (noted_epoch src y.arrival.time ys) x → Among ys x × (mac_eq src x.arrival.src ≡ true))
        → Among (y ∷ ys) x × (mac_eq src x.arrival.src ≡ true)
    by false p live g later then = let r = later g in (inr r.0, r.1)
    by true p false g later then = absurd g
    by true p true (inl e) later then = (inl e, ap (λ (z : Noting). mac_eq src z.arrival.src) (sym e) ∙ p)
    by true p true (inr g) later then = let r = then g in (inr r.0, r.1)

module _ (w : ℕ) (width : IsWidth w) (from : ℕ) (top : Mac → ℤ) (start : Sources) (begun : IsStart w from top start) where
  -- each source by its record, from that time on
  pub start_tells : (src : Mac) (now : ℕ) → from ≤ now → Tells w src (noted_epoch src now (stood top start)) (passing (is_live now) (lookup (mac_eq src) start))
  start_tells src now le = by (lookup (mac_eq src) start) refl ((start_kept w width from top start begun).each src)
    where
      xs : List Noting
      xs = stood top start

      tell : (h : Remembered) → lookup (mac_eq src) start ≡ Some h → KeepsEpoch w width src xs from h → Tells w src (noted_epoch src h.time xs) (Some h)
      tell h there k =
          let ys = noted_epoch src h.time xs in
          let same = stands-like w h.seen (family_of ys) (numbers src ys) (top_of ys) (λ lane n. family_of_epoch src h.time n lane xs) k.stands in
          let some : ys ≢ [] = λ none. (let bad : false ≡ true = sym (ap (λ zs. numbers src zs same.top.member.0 (top_of ys)) none) ∙ same.top.member.1 in cc) in
          (newest-at h.time ys (stood-at src top h.time start h begun.keys there) some, top_of ys, same)

      by : (o : Option Remembered) → lookup (mac_eq src) start ≡ o → Keeps w width src xs from o → Tells w src (noted_epoch src now xs) (passing (is_live now) o)
      by None there k = k now le
      by (Some h) there k =
          subst (λ zs. Tells w src zs (cond (is_live now h) (Some h) None)) (sym (k.later now (omega (arith, k.time, le)))) (live (is_live now h))
        where
          live : (b : Bool) → Tells w src (cond b (noted_epoch src h.time xs) []) (cond b (Some h) None)
          live true = tell h there k
          live false = refl

  -- each source of the table has a noting
  pub start_has : (src : Mac) → is_some (lookup (mac_eq src) start) ≡ true → (x : Noting) × Among (stood top start) x × (mac_eq src x.arrival.src ≡ true)
  start_has src some = by (lookup (mac_eq src) start) refl some ((start_kept w width from top start begun).each src)
    where
      by : (o : Option Remembered) → lookup (mac_eq src) start ≡ o → is_some o ≡ true → Keeps w width src (stood top start) from o
          → (x : Noting) × Among (stood top start) x × (mac_eq src x.arrival.src ≡ true)
      by None there some k = cc
      by (Some h) there some k =
          let ys = noted_epoch src h.time (stood top start) in
          let member = k.stands.top.member in
          let r = number-of src ys member.0 (top_of ys) (sym (family_of_epoch src h.time (top_of ys) member.0 (stood top start)) ∙ member.1) in
          let among = noted-from src h.time (stood top start) r.0 r.1 in
          (r.0, among.0, among.1)
