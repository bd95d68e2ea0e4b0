-- Lists of TLVs, read from their front.
use Rattle.std.proofs.Common.{◌≡◌, ◌≢◌, ℕ, ◌<◌, List, [], ◌∷◌, ◌++◌, length, Option, Some, None, sym, ap, subst, refl, ◌∙◌, arith}
use Rattle.std.specs.Option.{option_or}
use Rattle.std.proofs.lemmas.List.{length-append}
use Rattle.sr_frame.specs.FrameLemmas.{same_parts}
use Rattle.sr_frame.specs.declared.fields.Mac.{Mac}
use Rattle.sr_supervision.specs.Tlvs.{IsTlvs, no_more, ended, tlv, RunsPast, in_head, in_value, later, redbox_in}

-- a list that is empty or begins with 0
pub ends_empty : (octets : List ℕ) → length octets ≡ 0 → IsTlvs octets None
ends_empty [] e = no_more
ends_empty (x ∷ xs) e = absurd (omega (arith, e))

pub ends_at_zero : (octets behind : List ℕ) (kind : ℕ) → octets ≡ kind ∷ behind → kind ≡ 0 → IsTlvs octets None
ends_at_zero octets behind kind spelled zero =
    let P : List ℕ → Type 0 = λ o. IsTlvs o None in
    subst P (sym (spelled ∙ ap (λ (k : ℕ). k ∷ behind) zero)) (ended behind)

pub past_head : (octets behind : List ℕ) (kind : ℕ) → octets ≡ kind ∷ behind → kind ≢ 0 → length behind ≡ 0 → RunsPast octets
past_head octets [] kind spelled some none = subst RunsPast (sym spelled) (in_head kind some)
past_head octets (x ∷ xs) kind spelled some none = absurd (omega (arith, none))

pub past_value : (octets behind value : List ℕ) (kind len : ℕ) → octets ≡ kind ∷ behind → behind ≡ len ∷ value → kind ≢ 0 → length value < len → RunsPast octets
past_value octets behind value kind len a b some short = subst RunsPast (sym (a ∙ ap (λ (l : List ℕ). kind ∷ l) b)) (in_value kind len value some short)

option_or_assoc : (a b c : Option Mac) → option_or (option_or a b) c ≡ option_or a (option_or b c)
option_or_assoc None b c = refl
option_or_assoc (Some x) b c = refl

-- what is left of a list, after TLVs in which this RedBox was the first
pub record IsLeft (all rest : List ℕ) (redbox : Option Mac) : Type 0 where
  pub reads : (found : Option Mac) → IsTlvs rest found → IsTlvs all (option_or redbox found)
  pub past : RunsPast rest → RunsPast all

pub left_after : (all rest behind value : List ℕ) (kind : ℕ) (redbox : Option Mac) → IsLeft all rest redbox → rest ≡ kind ∷ length value ∷ value ++ behind → kind ≢ 0 → IsLeft all behind (option_or redbox (redbox_in kind value))
left_after all rest behind value kind redbox left spelled some = record {
  reads = λ found h.
      let P : List ℕ → Type 0 = λ o. IsTlvs o (option_or (redbox_in kind value) found) in
      let Q : Option Mac → Type 0 = λ r. IsTlvs all r in
      subst Q (sym (option_or_assoc redbox (redbox_in kind value) found)) (left.reads _ (subst P (sym spelled) (tlv kind value behind found some h)));
  past = λ h. left.past (subst RunsPast (sym spelled) (later kind value behind some h));
}

-- what stands behind the TLV at the front of a list is a list, and says the rest
tlv_parts : {octets : List ℕ} {found : Option Mac} → IsTlvs octets found → (kind : ℕ) (value behind : List ℕ) → octets ≡ kind ∷ length value ∷ value ++ behind → kind ≢ 0 → (more : Option Mac) × IsTlvs behind more × (found ≡ option_or (redbox_in kind value) more)
tlv_parts no_more kind value behind e some = absurd cc
tlv_parts (ended b) kind value behind e some = let zero : kind ≡ 0 = cc in absurd (some zero)
tlv_parts (tlv k v rest more nz h) kind value behind e some =
    let kinds : k ≡ kind = cc in
    let lengths : length v ≡ length value = cc in
    let parts : v ++ rest ≡ value ++ behind = cc in
    let both = same_parts v value rest behind lengths parts in
    let P : List ℕ → Type 0 = λ o. IsTlvs o more in
    (more, subst P both.1 h, ap (λ (n : ℕ). option_or (redbox_in n v) more) kinds ∙ ap (λ (w : List ℕ). option_or (redbox_in kind w) more) both.0)

none_in_empty : {octets : List ℕ} {found : Option Mac} → IsTlvs octets found → octets ≡ [] → found ≡ None
none_in_empty no_more e = refl
none_in_empty (ended b) e = refl
none_in_empty (tlv k v rest more nz h) e = absurd cc

none_at_zero : {octets : List ℕ} {found : Option Mac} → IsTlvs octets found → (behind : List ℕ) → octets ≡ 0 ∷ behind → found ≡ None
none_at_zero no_more behind e = refl
none_at_zero (ended b) behind e = refl
none_at_zero (tlv k v rest more nz h) behind e = let zero : k ≡ 0 = cc in absurd (nz zero)

-- a list of TLVs has one first RedBox
pub tlvs_once : {octets : List ℕ} {found other : Option Mac} → IsTlvs octets found → IsTlvs octets other → found ≡ other
tlvs_once no_more g = sym (none_in_empty g refl)
tlvs_once (ended b) g = sym (none_at_zero g b refl)
tlvs_once (tlv k v rest more nz h) g =
    let parts = tlv_parts g k v rest refl nz in
    ap (λ (m : Option Mac). option_or (redbox_in k v) m) (tlvs_once h parts.1) ∙ sym parts.2

no_lone_head : {octets : List ℕ} {found : Option Mac} → IsTlvs octets found → (kind : ℕ) → octets ≡ kind ∷ [] → kind ≢ 0 → ⊥
no_lone_head no_more kind e some = cc
no_lone_head (ended b) kind e some = let zero : kind ≡ 0 = cc in some zero
no_lone_head (tlv k v rest more nz h) kind e some = let none : length v ∷ (v ++ rest) ≡ [] = cc in cc

no_short_value : {octets : List ℕ} {found : Option Mac} → IsTlvs octets found → (kind len : ℕ) (value : List ℕ) → octets ≡ kind ∷ len ∷ value → kind ≢ 0 → length value < len → ⊥
no_short_value no_more kind len value e some short = cc
no_short_value (ended b) kind len value e some short = let zero : kind ≡ 0 = cc in some zero
no_short_value (tlv k v rest more nz h) kind len value e some short =
    let lengths : length v ≡ len = cc in
    let parts : v ++ rest ≡ value = cc in
    omega (arith, ap length parts, length-append v rest)

-- no list of TLVs runs past its end
pub never_past : {octets : List ℕ} {found : Option Mac} → RunsPast octets → IsTlvs octets found → ⊥
never_past (in_head k nz) g = no_lone_head g k refl nz
never_past (in_value k len value nz short) g = no_short_value g k len value refl nz short
never_past (later k v rest nz h) g = never_past h (tlv_parts g k v rest refl nz).1
