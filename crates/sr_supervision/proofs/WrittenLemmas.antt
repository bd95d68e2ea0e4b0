-- The frame that is written, and what it says.
use Rattle.std.proofs.Common.{◌≡◌, ◌≢◌, ℕ, ◌+◌, ◌-◌, ◌≤◌, List, [], ◌∷◌, ◌++◌, length, take, Option, Some, None, sym, ap, subst, refl, ◌∙◌, arith, inl}
use Rattle.std.specs.Prelude.{replicate, unwrap_or}
use Rattle.std.specs.Option.{option_or}
use Rattle.std.specs.Int.{w16, to_be_bytes}
use Rattle.std.proofs.lemmas.List.{append_assoc, append-nil, length-append, length-replicate, take_all}
use Rattle.sr_frame.specs.Frame.{IsLegal, head_of}
use Rattle.sr_frame.specs.LengthLemmas.{length-spelling}
use Rattle.sr_frame.specs.declared.fields.Mac.{Mac}
use Rattle.sr_supervision.specs.declared.message.Supervision.{Supervision}
use Rattle.sr_supervision.specs.Tlvs.{IsTlvs, ended, tlv, redbox_in}
use Rattle.sr_supervision.specs.Supervised.{IsSupervision, supervision_address, life_type}
use Rattle.sr_supervision.specs.Written.{Fits, redbox_tlv, content_octets, written_fields, written}

redbox_len : (r : Option Mac) → ((m : Mac) → r ≡ Some m → length m.0 ≡ 6) → length (redbox_tlv r) ≤ 8
redbox_len None six = omega arith
redbox_len (Some m) six = omega (arith, six m refl)

src_len : (r : Option Mac) (mac : Mac) → length mac.0 ≡ 6 → ((m : Mac) → r ≡ Some m → length m.0 ≡ 6) → length (unwrap_or r mac).0 ≡ 6
src_len None mac len six = len
src_len (Some m) mac len six = six m refl

content_len : (s : Supervision) → Fits s → length (content_octets s) ≤ 22
content_len s is =
    let ends : List ℕ = 0 ∷ 0 ∷ [] in
    omega (arith, is.mac, redbox_len s.redbox is.redbox, length-append (s.mac.0 ++ redbox_tlv s.redbox) ends, length-append s.mac.0 (redbox_tlv s.redbox))

-- what is written, resized to 60 octets
pub resized_is_written : (s : Supervision) (src : Mac) (own x : List ℕ) → Fits s → src ≡ unwrap_or s.redbox s.mac → x ≡ (supervision_address ++ src.0 ++ 0x88 ∷ 0xFB ∷ []) ++ content_octets s → own ≡ take 60 x ++ replicate (60 - length x) 0 → own ≡ written s
resized_is_written s src own x is src_is x_is own_is =
    let content = content_octets s in
    let front = λ (m : Mac). supervision_address ++ m.0 ++ 0x88 ∷ 0xFB ∷ [] in
    let from = unwrap_or s.redbox s.mac in
    let x_from : x ≡ front from ++ content = x_is ∙ ap (λ (m : Mac). front m ++ content) src_is in
    let ends : List ℕ = 0x88 ∷ 0xFB ∷ [] in
    let front_len : length (front from) ≡ 14 = omega (arith, length-append (supervision_address ++ from.0) ends, length-append supervision_address from.0, src_len s.redbox s.mac is.mac is.redbox) in
    let x_len : length x ≡ 14 + length content = omega (arith, ap length x_from, length-append (front from) content, front_len) in
    let all : take 60 x ≡ x = take_all 60 x (omega (arith, x_len, content_len s is)) in
    let count : 60 - length x ≡ 46 - length content = omega (arith, x_len) in
    let zeros : List ℕ = replicate (46 - length content) 0 in
    let bare : head_of (written_fields s) ≡ supervision_address ++ from.0 = append-nil (supervision_address ++ from.0) in
    own_is ∙ ap (λ (l : List ℕ). l ++ replicate (60 - length x) 0) (all ∙ x_from) ∙ ap (λ (k : ℕ). front from ++ content ++ replicate k 0) count
    ∙ append_assoc (front from) content zeros ∙ ap (λ (l : List ℕ). l ++ ends ++ (content ++ zeros)) (sym bare)

legal_written : (s : Supervision) → Fits s → IsLegal (written_fields s)
legal_written s is =
    let content = content_octets s in
    let f = written_fields s in
    let zeros : List ℕ = replicate (46 - length content) 0 in
    let zeros_len : length zeros ≡ 46 - length content = length-replicate (46 - length content) 0 in
    let src = src_len s.redbox s.mac is.mac is.redbox in
    let payload_len : length f.payload ≤ 46 = omega (arith, length-append content zeros, zeros_len, content_len s is) in
    record {
      dst = refl;
      src = src;
      vlan = λ c e. absurd cc;
      ethertype = omega arith;
      untagged = λ _ e. absurd (omega (arith, e));
      size = omega (arith, length-spelling f, payload_len, length-append (head_of f) (to_be_bytes w16 f.ethertype), length-append (supervision_address ++ f.src) [], length-append supervision_address f.src, src);
    }

redbox_is : (m : Mac) → length m.0 ≡ 6 → redbox_in 30 m.0 ≡ Some m
redbox_is m six = rw six refl

-- the later TLVs that are written
tlvs_written : (r : Option Mac) (zeros : List ℕ) → ((m : Mac) → r ≡ Some m → length m.0 ≡ 6) → IsTlvs (redbox_tlv r ++ (0 ∷ 0 ∷ zeros)) r
tlvs_written None zeros six = ended (0 ∷ zeros)
tlvs_written (Some m) zeros six =
    let Of : ℕ → Option Mac → Type 0 = λ n o. IsTlvs (30 ∷ n ∷ m.0 ++ (0 ∷ 0 ∷ zeros)) o in
    let found : option_or (redbox_in 30 m.0) None ≡ Some m = ap (λ (o : Option Mac). option_or o None) (redbox_is m (six m refl)) in
    let some : ◌≢◌ {A = ℕ} 30 0 = λ e. omega (arith, e) in
    let raw : Of (length m.0) (option_or (redbox_in 30 m.0) None) = tlv 30 m.0 (0 ∷ 0 ∷ zeros) None some (ended (0 ∷ zeros)) in
    subst (λ (n : ℕ). Of n (Some m)) (six m refl) (subst (λ (o : Option Mac). Of (length m.0) o) found raw)

-- what is written says the value
pub written_says : (s : Supervision) → Fits s → IsSupervision (written s) s
written_says s is =
    let content = content_octets s in
    let zeros : List ℕ = replicate (46 - length content) 0 in
    let ends : List ℕ = 0 ∷ 0 ∷ [] in
    let rest = redbox_tlv s.redbox ++ (0 ∷ 0 ∷ zeros) in
    let behind = life_type s.life ∷ 6 ∷ s.mac.0 ++ rest in
    let mac_first = s.mac.0 in
    let regroup : s.mac.0 ++ redbox_tlv s.redbox ++ ends ++ zeros ≡ s.mac.0 ++ rest =
    append_assoc (s.mac.0 ++ redbox_tlv s.redbox) ends zeros ∙ append_assoc s.mac.0 (redbox_tlv s.redbox) (0 ∷ 0 ∷ zeros) in
    let payload_is : content ++ zeros ≡ to_be_bytes w16 1 ++ to_be_bytes w16 s.seq.0 ++ behind = ap (λ (l : List ℕ). to_be_bytes w16 1 ++ to_be_bytes w16 s.seq.0 ++ life_type s.life ∷ 6 ∷ l) regroup in
    record {
      fields = written_fields s;
      legal = legal_written s is;
      spelled = refl;
      addressed = record { dst = refl; ethertype = refl };
      content = record {
        version = 1;
        behind = behind;
        rest = rest;
        start = record { path = 0; path_fits = omega arith; version_fits = omega arith; seq_fits = is.seq; spelled = payload_is };
        known = omega arith;
        first = record {
          value = s.mac.0;
          spelled = ap (λ (n : ℕ). life_type s.life ∷ n ∷ s.mac.0 ++ rest) (sym is.mac);
          size = inl is.mac;
          address = sym (take_all 6 s.mac.0 (omega (arith, is.mac)));
        };
        tlvs = tlvs_written s.redbox zeros is.redbox;
      };
    }
