-- A payload has one meaning: what it says, or why it says nothing.
use Rattle.std.proofs.Common.{◌≡◌, ℕ, ◌+◌, ◌*◌, ◌/◌, ◌%◌, ◌<◌, ◌≤◌, ◌^◌, ◌⊎◌, List, [], ◌∷◌, ◌++◌, length, take, drop, get_or, Option, Result, Ok, Err, eqb, cond, sym, ap, subst, refl, ◌∙◌, arith}
use Rattle.std.specs.Prelude.{IsErrAnd}
use Rattle.std.specs.List.{IsSplitAt}
use Rattle.std.specs.Int.{w16, to_be_bytes, from_be_bytes}
use Rattle.std.proofs.lemmas.List.{length-append, length-take-le, take-append-drop}
use Rattle.std.proofs.lemmas.Nat.{from_be_bytes-to_be_bytes_2}
use Rattle.sr_frame.specs.Frame.{Fields, IsLegal, spelling}
use Rattle.sr_frame.specs.FrameLemmas.{same_parts, spelled_once}
use Rattle.sr_frame.specs.declared.fields.Mac.{Mac}
use Rattle.sr_supervision.specs.declared.message.Life.{Life}
use Rattle.sr_supervision.specs.declared.message.Life.TheVariants.{Hsr, PrpDiscard, PrpAccept, Announce}
use Rattle.sr_supervision.specs.declared.message.Supervision.{Supervision}
use Rattle.sr_supervision.specs.declared.fault.SupFault.{SupFault}
use Rattle.sr_supervision.specs.declared.fault.SupFault.TheVariants.{NotSupervision, Version, FirstTlv, Truncated}
use Rattle.sr_supervision.specs.Supervised.{IsAddressed, IsSupervision, Starts, IsFirstTlv, Says, HasOtherVersion, HasOtherHead, HasOtherFirst, IsCutShort, in_head, in_value, EndsEarly, in_start, in_first, in_later, life_type}
use Rattle.sr_supervision.specs.Tlvs.{IsTlvs, RunsPast}
use Rattle.sr_supervision.specs.Refused.{FirstRefused, Means}
use Rattle.sr_supervision.proofs.TlvLemmas.{tlvs_once, never_past}

-- a number and a rest, by the octets that spell both
number_and_rest : (m n : ℕ) (x y : List ℕ) → m < 2 ^ 16 → n < 2 ^ 16 → to_be_bytes w16 m ++ x ≡ to_be_bytes w16 n ++ y → (m ≡ n) × (x ≡ y)
number_and_rest m n x y p q e =
    let both = same_parts (to_be_bytes w16 m) (to_be_bytes w16 n) x y refl e in
    (sym (from_be_bytes-to_be_bytes_2 m p) ∙ ap (from_be_bytes w16) both.0 ∙ from_be_bytes-to_be_bytes_2 n q, both.1)

-- a payload starts in one way
pub starts_once : (payload : List ℕ) (v q w r : ℕ) (b c : List ℕ) → Starts payload v q b → Starts payload w r c → (v ≡ w) × (q ≡ r) × (b ≡ c)
starts_once payload v q w r b c x y =
    let word = number_and_rest (x.path * 4096 + v) (y.path * 4096 + w) (to_be_bytes w16 q ++ b) (to_be_bytes w16 r ++ c) (omega (arith, x.path_fits, x.version_fits)) (omega (arith, y.path_fits, y.version_fits)) (sym x.spelled ∙ y.spelled) in
    let rest = number_and_rest q r b c x.seq_fits y.seq_fits word.1 in
    (omega (arith, word.0, x.version_fits, y.version_fits), rest.0, rest.1)

starts_long : (payload : List ℕ) (v q : ℕ) (b : List ℕ) → Starts payload v q b → 4 ≤ length payload
starts_long payload v q b x = omega (arith, ap length x.spelled)

named : ℕ → Life
named n = cond (eqb n 23) Hsr (cond (eqb n 20) PrpDiscard (cond (eqb n 21) PrpAccept Announce))

named-life_type : (a : Life) → named (life_type a) ≡ a
unfolding named
named-life_type Hsr = refl
named-life_type PrpDiscard = refl
named-life_type PrpAccept = refl
named-life_type Announce = refl

life_once : (a b : Life) → life_type a ≡ life_type b → a ≡ b
life_once a b e = sym (named-life_type a) ∙ ap named e ∙ named-life_type b

-- octets have one first TLV
pub first_once : (octets : List ℕ) (a b : Life) (m n : Mac) (r s : List ℕ) → IsFirstTlv octets a m r → IsFirstTlv octets b n s → (a ≡ b) × (m ≡ n) × (r ≡ s)
first_once octets a b m n r s x y =
    let same : life_type a ∷ length x.value ∷ (x.value ++ r) ≡ life_type b ∷ length y.value ∷ (y.value ++ s) = sym x.spelled ∙ y.spelled in
    let types : life_type a ≡ life_type b = cc in
    let lengths : length x.value ≡ length y.value = cc in
    let parts : x.value ++ r ≡ y.value ++ s = cc in
    let both = same_parts x.value y.value r s lengths parts in
    let macs : m.0 ≡ n.0 = x.address ∙ ap (λ (l : List ℕ). take 6 l) both.0 ∙ sym y.address in
    (life_once a b types, same_mac m.0 n.0 macs, both.1)
  where
    same_mac : (p q : List ℕ) → p ≡ q → ◌≡◌ {A = Mac} (record { 0 = p }) (record { 0 = q })
    same_mac p q e = cc

no_other_head : (octets : List ℕ) (a : Life) (m : Mac) (r : List ℕ) → IsFirstTlv octets a m r → HasOtherHead octets → ⊥
no_other_head octets a m r x y =
    let same : life_type a ∷ length x.value ∷ (x.value ++ r) ≡ y.kind ∷ y.len ∷ y.rest = sym x.spelled ∙ y.spelled in
    let types : y.kind ≡ life_type a = cc in
    let lengths : length x.value ≡ y.len = cc in
    let P : ℕ → Type 0 = λ n. (n ≡ 6) ⊎ (n ≡ 12) in
    y.other (record { life = a; is_type = types; size = subst P lengths x.size })

no_cut : (octets : List ℕ) (a : Life) (m : Mac) (r : List ℕ) → IsFirstTlv octets a m r → IsCutShort octets → ⊥
no_cut octets a m r x (in_head short) = omega (arith, ap length x.spelled)
no_cut octets a m r x (in_value kind len rest e head short) =
    let same : life_type a ∷ length x.value ∷ (x.value ++ r) ≡ kind ∷ len ∷ rest = sym x.spelled ∙ e in
    let lengths : length x.value ≡ len = cc in
    let parts : x.value ++ r ≡ rest = cc in
    omega (arith, ap length parts, length-append x.value r)

no_cut_head : (octets : List ℕ) → HasOtherHead octets → IsCutShort octets → ⊥
no_cut_head octets y (in_head short) = omega (arith, ap length y.spelled)
no_cut_head octets y (in_value kind len rest e head short) =
    let same : kind ∷ len ∷ rest ≡ y.kind ∷ y.len ∷ y.rest = sym e ∙ y.spelled in
    let kinds : kind ≡ y.kind = cc in
    let lens : len ≡ y.len = cc in
    let P : ℕ → Type 0 = λ n. (n ≡ 6) ⊎ (n ≡ 12) in
    y.other (record { life = head.life; is_type = sym kinds ∙ head.is_type; size = subst P lens head.size })

made : ℕ → Life → Mac → Option Mac → Supervision
made seq life mac redbox = record { seq = record { 0 = seq }; life = life; mac = mac; redbox = redbox }

same_made : (q r : ℕ) (a b : Life) (m n : Mac) (x y : Option Mac) → q ≡ r → a ≡ b → m ≡ n → x ≡ y → made q a m x ≡ made r b n y
same_made q r a b m n x y e1 e2 e3 e4 = cc

made-parts : (s : Supervision) → made s.seq.0 s.life s.mac s.redbox ≡ s
unfolding made
made-parts s = refl

-- a payload says one thing
pub says_once : (payload : List ℕ) (s t : Supervision) → Says payload s → Says payload t → s ≡ t
says_once payload s t x y =
    let start = starts_once payload x.version s.seq.0 y.version t.seq.0 x.behind y.behind x.start y.start in
    let First : List ℕ → Type 0 = λ o. IsFirstTlv o s.life s.mac x.rest in
    let first = first_once y.behind s.life t.life s.mac t.mac x.rest y.rest (subst First start.2 x.first) y.first in
    let List_of : List ℕ → Type 0 = λ o. IsTlvs o s.redbox in
    let redbox = tlvs_once (subst List_of first.2 x.tlvs) y.tlvs in
    sym (made-parts s) ∙ same_made s.seq.0 t.seq.0 s.life t.life s.mac t.mac s.redbox t.redbox start.1 first.0 first.1 redbox ∙ made-parts t

no_other_version : (payload : List ℕ) (v q : ℕ) (b : List ℕ) → Starts payload v q b → v ≤ 1 → HasOtherVersion payload → ⊥
no_other_version payload v q b x known y =
    let start = starts_once payload v q y.version y.seq b y.behind x y.start in
    omega (arith, start.0, known, y.above)

no_other_first : (payload : List ℕ) (s : Supervision) → Says payload s → HasOtherFirst payload → ⊥
no_other_first payload s x y =
    let start = starts_once payload x.version s.seq.0 y.version y.seq x.behind y.behind x.start y.start in
    let First : List ℕ → Type 0 = λ o. IsFirstTlv o s.life s.mac x.rest in
    no_other_head y.behind s.life s.mac x.rest (subst First start.2 x.first) y.head

no_end : (payload : List ℕ) (s : Supervision) → Says payload s → EndsEarly payload → ⊥
no_end payload s x (in_start short) = omega (arith, starts_long payload x.version s.seq.0 x.behind x.start)
no_end payload s x (in_first v q b start known cut) =
    let same = starts_once payload x.version s.seq.0 v q x.behind b x.start start in
    let First : List ℕ → Type 0 = λ o. IsFirstTlv o s.life s.mac x.rest in
    no_cut b s.life s.mac x.rest (subst First same.2 x.first) cut
no_end payload s x (in_later v q b rest life mac start known first past) =
    let same = starts_once payload x.version s.seq.0 v q x.behind b x.start start in
    let First : List ℕ → Type 0 = λ o. IsFirstTlv o s.life s.mac x.rest in
    let tlv = first_once b s.life life s.mac mac x.rest rest (subst First same.2 x.first) first in
    let List_of : List ℕ → Type 0 = λ o. IsTlvs o s.redbox in
    never_past past (subst List_of tlv.2 x.tlvs)

no_end_at_version : (payload : List ℕ) → HasOtherVersion payload → EndsEarly payload → ⊥
no_end_at_version payload y (in_start short) = omega (arith, starts_long payload y.version y.seq y.behind y.start)
no_end_at_version payload y (in_first v q b start known cut) = no_other_version payload v q b start known y
no_end_at_version payload y (in_later v q b rest life mac start known first past) = no_other_version payload v q b start known y

no_end_at_first : (payload : List ℕ) → HasOtherFirst payload → EndsEarly payload → ⊥
no_end_at_first payload y (in_start short) = omega (arith, starts_long payload y.version y.seq y.behind y.start)
no_end_at_first payload y (in_first v q b start known cut) =
    let same = starts_once payload y.version y.seq v q y.behind b y.start start in
    no_cut_head b (subst HasOtherHead same.2 y.head) cut
no_end_at_first payload y (in_later v q b rest life mac start known first past) =
    let same = starts_once payload y.version y.seq v q y.behind b y.start start in
    no_other_head b life mac rest first (subst HasOtherHead same.2 y.head)

-- a payload has one meaning
pub means_once : (payload : List ℕ) (r s : Result Supervision SupFault) → Means payload r → Means payload s → r ≡ s
means_once payload (Ok s) (Ok t) x y = ap (λ (u : Supervision). Ok u) (says_once payload s t x y)
means_once payload (Ok s) (Err NotSupervision) x y = absurd y
means_once payload (Ok s) (Err Version) x y = absurd (no_other_version payload x.version s.seq.0 x.behind x.start x.known y)
means_once payload (Ok s) (Err FirstTlv) x y = absurd (no_other_first payload s x y)
means_once payload (Ok s) (Err Truncated) x y = absurd (no_end payload s x y)
means_once payload (Err NotSupervision) s x y = absurd x
means_once payload (Err Version) (Ok t) x y = absurd (no_other_version payload y.version t.seq.0 y.behind y.start y.known x)
means_once payload (Err Version) (Err NotSupervision) x y = absurd y
means_once payload (Err Version) (Err Version) x y = refl
means_once payload (Err Version) (Err FirstTlv) x y = absurd (no_other_version payload y.version y.seq y.behind y.start y.known x)
means_once payload (Err Version) (Err Truncated) x y = absurd (no_end_at_version payload x y)
means_once payload (Err FirstTlv) (Ok t) x y = absurd (no_other_first payload t y x)
means_once payload (Err FirstTlv) (Err NotSupervision) x y = absurd y
means_once payload (Err FirstTlv) (Err Version) x y = absurd (no_other_version payload x.version x.seq x.behind x.start x.known y)
means_once payload (Err FirstTlv) (Err FirstTlv) x y = refl
means_once payload (Err FirstTlv) (Err Truncated) x y = absurd (no_end_at_first payload x y)
means_once payload (Err Truncated) (Ok t) x y = absurd (no_end payload t y x)
means_once payload (Err Truncated) (Err NotSupervision) x y = absurd y
means_once payload (Err Truncated) (Err Version) x y = absurd (no_end_at_version payload y x)
means_once payload (Err Truncated) (Err FirstTlv) x y = absurd (no_end_at_first payload y x)
means_once payload (Err Truncated) (Err Truncated) x y = refl

-- four octets at the front are a start
pub starts_from : (payload front behind : List ℕ) (word seq : ℕ) → front ≡ take 4 payload → behind ≡ drop 4 payload → front ≡ to_be_bytes w16 word ++ to_be_bytes w16 seq → word < 2 ^ 16 → seq < 2 ^ 16 → Starts payload (word % 4096) seq behind
starts_from payload front behind word seq front_is behind_is spelled word_fits seq_fits =
    let parts : word ≡ word / 4096 * 4096 + word % 4096 = omega arith in
    let whole : payload ≡ front ++ behind = rw (front_is, behind_is) (sym (take-append-drop 4 payload)) in
    record {
      path = word / 4096;
      path_fits = omega arith;
      version_fits = omega arith;
      seq_fits = seq_fits;
      spelled = whole ∙ ap (λ (l : List ℕ). l ++ behind) (spelled ∙ ap (λ (n : ℕ). to_be_bytes w16 n ++ to_be_bytes w16 seq) parts);
    }

pair_of : (xs : List ℕ) → length xs ≡ 2 → xs ≡ get_or xs 0 0 ∷ get_or xs 1 0 ∷ []
pair_of [] e = absurd (omega (arith, e))
pair_of (x ∷ []) e = absurd (omega (arith, e))
pair_of (x ∷ y ∷ []) e = refl
pair_of (x ∷ y ∷ z ∷ zs) e = absurd (omega (arith, e))

split_in_two : (octets front behind : List ℕ) → front ≡ take 2 octets → behind ≡ drop 2 octets → 2 ≤ length octets → octets ≡ get_or front 0 0 ∷ get_or front 1 0 ∷ behind
split_in_two octets front behind front_is behind_is long =
    let whole : octets ≡ front ++ behind = rw (front_is, behind_is) (sym (take-append-drop 2 octets)) in
    let spelled = pair_of front (ap length front_is ∙ length-take-le 2 octets long) in
    whole ∙ ap (λ (l : List ℕ). l ++ behind) spelled

-- head, value and rest of a first TLV
pub first_tlv_from : (octets front behind value rest : List ℕ) (life : Life) (mac : Mac) → front ≡ take 2 octets → behind ≡ drop 2 octets → 2 ≤ length octets → life_type life ≡ get_or front 0 0 → (get_or front 1 0 ≡ 6) ⊎ (get_or front 1 0 ≡ 12) → IsSplitAt behind (get_or front 1 0) value rest → mac.0 ≡ take 6 value → IsFirstTlv octets life mac rest
first_tlv_from octets front behind value rest life mac front_is behind_is long type_is size split address =
    let len = get_or front 1 0 in
    let parts : behind ≡ value ++ rest = sym (ap (λ (l : List ℕ). l ++ rest) split.1 ∙ ap (λ (l : List ℕ). take len behind ++ l) split.2 ∙ take-append-drop len behind) in
    let P : ℕ → Type 0 = λ n. (n ≡ 6) ⊎ (n ≡ 12) in
    record {
      value = value;
      spelled = split_in_two octets front behind front_is behind_is long ∙ ap (λ (l : List ℕ). get_or front 0 0 ∷ len ∷ l) parts
          ∙ ap (λ (k : ℕ). k ∷ len ∷ (value ++ rest)) (sym type_is) ∙ ap (λ (n : ℕ). life_type life ∷ n ∷ (value ++ rest)) (sym split.3);
      size = subst P (sym split.3) size;
      address = address;
    }

-- a first TLV whose value runs past the end
pub cut_in_value : (octets front behind : List ℕ) (life : Life) → front ≡ take 2 octets → behind ≡ drop 2 octets → 2 ≤ length octets → life_type life ≡ get_or front 0 0 → (get_or front 1 0 ≡ 6) ⊎ (get_or front 1 0 ≡ 12) → length behind < get_or front 1 0 → IsCutShort octets
cut_in_value octets front behind life front_is behind_is long type_is size short =
    in_value (get_or front 0 0) (get_or front 1 0) behind (split_in_two octets front behind front_is behind_is long) (record { life = life; is_type = sym type_is; size = size }) short

-- what refuses the first TLV refuses the payload
pub first_refused : (payload behind : List ℕ) (version seq : ℕ) (r : Result Supervision SupFault) (fault : SupFault) → Starts payload version seq behind → version ≤ 1 → FirstRefused behind fault → IsErrAnd r (λ e. e ≡ fault) → Means payload r
first_refused payload behind version seq (Ok s) fault start known refused is = absurd is
first_refused payload behind version seq (Err e) fault start known refused is = of e (subst (FirstRefused behind) (sym is) refused)
  where
    of : (f : SupFault) → FirstRefused behind f → Means payload (Err f)
    of NotSupervision h = h
    of Version h = absurd h
    of FirstTlv h = record { version = version; seq = seq; behind = behind; start = start; known = known; head = h }
    of Truncated h = in_first version seq behind start known h

-- what refuses a later TLV refuses the payload
pub later_refused : (payload behind rest : List ℕ) (version seq : ℕ) (life : Life) (mac : Mac) (r : Result Supervision SupFault) (fault : SupFault) → Starts payload version seq behind → version ≤ 1 → IsFirstTlv behind life mac rest → (fault ≡ Truncated) × RunsPast rest → IsErrAnd r (λ e. e ≡ fault) → Means payload r
later_refused payload behind rest version seq life mac (Ok s) fault start known first refused is = absurd is
later_refused payload behind rest version seq life mac (Err e) fault start known first refused is =
    let P : SupFault → Type 0 = λ f. Means payload (Err f) in
    subst P (sym (is ∙ refused.0)) (in_later version seq behind rest life mac start known first refused.1)

-- what a supervision frame says, its payload says
pub says_payload : (f : Fields) (s : Supervision) → IsLegal f → IsSupervision (spelling f) s → IsAddressed f × Says f.payload s
says_payload f s legal is =
    let same : is.fields ≡ f = spelled_once is.fields f is.legal legal (sym is.spelled) in
    let P : Fields → Type 0 = λ g. Says g.payload s in
    (subst IsAddressed same is.addressed, subst P same is.content)

pub means_of : (payload : List ℕ) (r s : Result Supervision SupFault) → Means payload r → r ≡ s → Means payload s
means_of payload r s h e = subst (Means payload) e h
