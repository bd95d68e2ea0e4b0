-- Sources at another width.
use Rattle.std.proofs.Common.{◌≡◌, ℕ, Bool, true, false, cond, List, [], ◌∷◌, None, Some, Result, Ok, Err, refl, sym, ap, subst, ◌∙◌, ◌⊎◌, inl, inr}
use Rattle.std.specs.Prelude.{IsErrOf}
use Rattle.std.specs.List.{AllByRecursion}
use Rattle.std.specs.Map.{lookup}
use Rattle.std.specs.Option.{option_map}
use Rattle.std.proofs.lemmas.List.{take_at}
use Rattle.sr_frame.specs.declared.fields.Mac.{Mac}
use Rattle.sr_frame.specs.Addresses.{mac_eq}
use Rattle.sr_dup_window.specs.Windows.{no_marks}
use Rattle.sr_dup_table.specs.declared.fault.DupFault.{DupFault}
use Rattle.sr_dup_table.specs.declared.fault.DupFault.TheVariants.{NoMemory, BadSnapshot}
use Rattle.sr_dup_table.specs.declared.width.Width.{Width}
use Rattle.sr_dup_table.specs.declared.width.Width.TheVariants.{Narrow, Wide}
use Rattle.sr_dup_table.specs.Widths.{numbers_in}
use Rattle.sr_dup_table.specs.Sources.{Remembered, Sources}
use Rattle.sr_dup_table.specs.Same.{AreSame}
use Rattle.sr_dup_snapshots.specs.Snapshots.{IsSource, IsSnapshot}
use Rattle.sr_dup_snapshots.specs.Reading.{sources_in, are_in_order, window_cut, source_cut, recut, IsText, IsReadAs}
use Rattle.sr_dup_snapshots.proofs.SpellLemmas.{AreOctets}
use Rattle.sr_dup_snapshots.proofs.TextLemmas.{eights, one-width, behind-head, only-order, found-text, text-sources}

-- a record of its own width stays as it is
cut-same : (w : ℕ) (e : Mac × Remembered) → IsSource w e → source_cut w e ≡ e
cut-same w e is =
    λ i. (e.0, record { seen = record { reference = e.1.seen.reference; marks = take_at e.1.seen.marks (no_marks w) w is.whole.count i }; time = e.1.time })

pub recut-same : (w : ℕ) (s : Sources) → AllByRecursion (IsSource w) s → recut w s ≡ s
recut-same w [] each = refl
recut-same w (e ∷ s) each = λ i. cut-same w e each.0 i ∷ recut-same w s each.1 i

-- what stands at an address is what stood there, at the other width
abbrev heard_cut : ℕ → Remembered → Remembered
heard_cut w h = record { seen = window_cut w h.seen; time = h.time }

recut-lookup : (w : ℕ) (q : Mac) (s : Sources) → lookup (mac_eq q) (recut w s) ≡ option_map (heard_cut w) (lookup (mac_eq q) s)
recut-lookup w q [] = refl
recut-lookup w q (e ∷ s) = by (mac_eq q e.0) (recut-lookup w q s)
  where
    by : (b : Bool) → lookup (mac_eq q) (recut w s) ≡ option_map (heard_cut w) (lookup (mac_eq q) s)
        → cond b (Some (heard_cut w e.1)) (lookup (mac_eq q) (recut w s)) ≡ option_map (heard_cut w) (cond b (Some e.1) (lookup (mac_eq q) s))
    by true ih = refl
    by false ih = ih

recut-both : (w : ℕ) (s t : Sources) → AreSame s t → AreSame (recut w s) (recut w t)
recut-both w s t same q = recut-lookup w q s ∙ ap (option_map (heard_cut w)) (same q) ∙ sym (recut-lookup w q t)

-- a text is read at each width as its sources recut to that
pub read-as : (width v : Width) (octets : List ℕ) (count : ℕ) (rest : List ℕ) → IsText (numbers_in v) octets count rest → AreOctets octets
    → are_in_order None (sources_in (numbers_in v) count rest) ≡ true
    → IsReadAs (numbers_in width) octets (recut (numbers_in width) (sources_in (numbers_in v) count rest))
read-as width v octets count rest text all order = by width v (found-text (numbers_in v) octets count rest text all order) (text-sources (numbers_in v) octets count rest text all order)
  where
    by : (width v : Width) → IsSnapshot (numbers_in v) octets (sources_in (numbers_in v) count rest) → AllByRecursion (IsSource (numbers_in v)) (sources_in (numbers_in v) count rest)
        → IsReadAs (numbers_in width) octets (recut (numbers_in width) (sources_in (numbers_in v) count rest))
    by Narrow Narrow is each = inl (subst (IsSnapshot 1024 octets) (sym (recut-same 1024 (sources_in 1024 count rest) each)) is)
    by Narrow Wide is each = inr (sources_in 2048 count rest, is, refl)
    by Wide Narrow is each = inr (sources_in 1024 count rest, is, refl)
    by Wide Wide is each = inl (subst (IsSnapshot 2048 octets) (sym (recut-same 2048 (sources_in 2048 count rest) each)) is)

-- one text is the snapshot of tables of one width that know the same
pub snapshots-tell : (v w : Width) (octets : List ℕ) (s t : Sources) → IsSnapshot (numbers_in v) octets s → IsSnapshot (numbers_in w) octets t → (v ≡ w) × AreSame s t
snapshots-tell v w octets s t one two =
    let same = (one-width v w _ _ (sym (behind-head (numbers_in v) octets s one) ∙ behind-head (numbers_in w) octets t two)).0 in
    (same, only-order (numbers_in w) (eights w) octets s t (subst (λ x. IsSnapshot (numbers_in x) octets s) same one) two)

-- what is read of one text at one width is the same
readings-one : (v w : Width) → (v ≡ w → ⊥) → (octets : List ℕ) (s t : Sources)
    → IsSnapshot (numbers_in v) octets s ⊎ ((written : Sources) × IsSnapshot (numbers_in w) octets written × (s ≡ recut (numbers_in v) written))
    → IsSnapshot (numbers_in v) octets t ⊎ ((written : Sources) × IsSnapshot (numbers_in w) octets written × (t ≡ recut (numbers_in v) written))
    → AreSame s t
readings-one v w apart octets s t (inl one) (inl two) = (snapshots-tell v v octets s t one two).1
readings-one v w apart octets s t (inl one) (inr two) = absurd (apart (snapshots-tell v w octets s two.0 one two.1).0)
readings-one v w apart octets s t (inr one) (inl two) = absurd (apart (snapshots-tell v w octets t one.0 two one.1).0)
readings-one v w apart octets s t (inr one) (inr two) =
    let same = recut-both (numbers_in v) one.0 two.0 (snapshots-tell w w octets one.0 two.0 one.1 two.1).1 in
    λ q. ap (lookup (mac_eq q)) one.2 ∙ same q ∙ sym (ap (lookup (mac_eq q)) two.2)

pub readings-are-one : (width : Width) (octets : List ℕ) (s t : Sources) → IsReadAs (numbers_in width) octets s → IsReadAs (numbers_in width) octets t → AreSame s t
readings-are-one Narrow octets s t one two = readings-one Narrow Wide (λ e. cc) octets s t one two
readings-are-one Wide octets s t one two = readings-one Wide Narrow (λ e. cc) octets s t one two

-- a text that is the snapshot of some table is not refused as one of none
not-err : {T : Type 0} (x : T) (e : DupFault) → Ok x ≡ Err e → ⊥
not-err x e bad = cc

other-err : {T : Type 0} (r : Result T DupFault) → r ≡ Err NoMemory → r ≡ Err BadSnapshot → ⊥
other-err r is bad = cc

pub exact-ok : {T P : Type 0} (x : T) → (P → ⊥) → (IsErrOf (Ok x) BadSnapshot → P) × (P → IsErrOf (Ok x) BadSnapshot)
exact-ok x some = (λ bad. absurd (not-err x BadSnapshot bad), λ none. absurd (some none))

pub exact-err : {T P : Type 0} (r : Result T DupFault) → r ≡ Err NoMemory → (P → ⊥) → (IsErrOf r BadSnapshot → P) × (P → IsErrOf r BadSnapshot)
exact-err r is some = (λ bad. absurd (other-err r is bad), λ none. absurd (some none))
