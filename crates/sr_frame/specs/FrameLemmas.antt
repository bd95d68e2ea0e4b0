-- A list of octets is the frame of one set of fields, and is long enough for them.
use Rattle.std.proofs.Common.{◌≡◌, ◌≢◌, ℕ, ◌<◌, ◌^◌, List, ◌++◌, length, take, drop, Option, Some, None, sym, ap, refl, ◌∙◌, arith}
use Rattle.std.specs.Int.{w16, to_be_bytes, from_be_bytes}
use Rattle.std.proofs.lemmas.List.{take_at, drop_at, append_assoc}
use Rattle.std.proofs.lemmas.Nat.{from_be_bytes-to_be_bytes_2}
use Rattle.sr_frame.specs.Frame.{Fields, IsLegal, tag_of, head_of, spelling}

-- two lists that begin with parts of one length are equal part by part
pub same_parts : (a b x y : List ℕ) → length a ≡ length b → a ++ x ≡ b ++ y → (a ≡ b) × (x ≡ y)
same_parts a b x y same e =
    let first : take (length b) (a ++ x) ≡ take (length b) (b ++ y) = ap (take (length b)) e in
    let second : drop (length b) (a ++ x) ≡ drop (length b) (b ++ y) = ap (drop (length b)) e in (
      sym (take_at a x (length b) same) ∙ first ∙ take_at b y (length b) refl,
      sym (drop_at a x (length b) same) ∙ second ∙ drop_at b y (length b) refl,
    )

-- a number is known by the octets that spell it, alone and before a rest
pub number_once : (m n : ℕ) → m < 2 ^ 16 → n < 2 ^ 16 → to_be_bytes w16 m ≡ to_be_bytes w16 n → m ≡ n
number_once m n p q e = sym (from_be_bytes-to_be_bytes_2 m p) ∙ ap (from_be_bytes w16) e ∙ from_be_bytes-to_be_bytes_2 n q

pub number_and_rest : (m n : ℕ) (x y : List ℕ) → m < 2 ^ 16 → n < 2 ^ 16 → to_be_bytes w16 m ++ x ≡ to_be_bytes w16 n ++ y →
    (m ≡ n) × (x ≡ y)
number_and_rest m n x y p q e =
    let both = same_parts (to_be_bytes w16 m) (to_be_bytes w16 n) x y refl e in
    (number_once m n p q both.0, both.1)

-- what follows the addresses, at each case of the tag
tail_once : (v w : Option ℕ) (k l : ℕ) (p q : List ℕ) → ((c : ℕ) → v ≡ Some c → c < 2 ^ 16) → ((c : ℕ) → w ≡ Some c → c < 2 ^ 16) →
    k < 2 ^ 16 → l < 2 ^ 16 → (v ≡ None → k ≢ 0x8100) → (w ≡ None → l ≢ 0x8100) →
    tag_of v ++ (to_be_bytes w16 k ++ p) ≡ tag_of w ++ (to_be_bytes w16 l ++ q) → (v ≡ w) × (k ≡ l) × (p ≡ q)
tail_once None None k l p q vf wf kf lf vu wu e = let b = number_and_rest k l p q kf lf e in (refl, b.0, b.1)
tail_once (Some c) (Some d) k l p q vf wf kf lf vu wu e =
    let a = number_and_rest 0x8100 0x8100 (to_be_bytes w16 c ++ (to_be_bytes w16 k ++ p)) (to_be_bytes w16 d ++ (to_be_bytes w16 l ++ q))
    (omega arith) (omega arith) e in
    let b = number_and_rest c d (to_be_bytes w16 k ++ p) (to_be_bytes w16 l ++ q) (vf c refl) (wf d refl) a.1 in
    let t = number_and_rest k l p q kf lf b.1 in
    (ap (λ (n : ℕ). Some n) b.0, t.0, t.1)
tail_once None (Some d) k l p q vf wf kf lf vu wu e =
    let a = number_and_rest k 0x8100 p (to_be_bytes w16 d ++ (to_be_bytes w16 l ++ q)) kf (omega arith) e in
    absurd (vu refl a.0)
tail_once (Some c) None k l p q vf wf kf lf vu wu e =
    let a = number_and_rest l 0x8100 q (to_be_bytes w16 c ++ (to_be_bytes w16 k ++ p)) lf (omega arith) (sym e) in
    absurd (wu refl a.0)

pub regrouped : (f : Fields) → spelling f ≡ f.dst ++ (f.src ++ (tag_of f.vlan ++ (to_be_bytes w16 f.ethertype ++ f.payload)))
regrouped f =
    append_assoc (head_of f) (to_be_bytes w16 f.ethertype) f.payload
    ∙ append_assoc (f.dst ++ f.src) (tag_of f.vlan) (to_be_bytes w16 f.ethertype ++ f.payload)
    ∙ append_assoc f.dst f.src (tag_of f.vlan ++ (to_be_bytes w16 f.ethertype ++ f.payload))

abbrev fields : List ℕ → List ℕ → Option ℕ → ℕ → List ℕ → Fields
fields dst src vlan ethertype payload = record { dst = dst; src = src; vlan = vlan; ethertype = ethertype; payload = payload }

same_record : (a b s t : List ℕ) (v w : Option ℕ) (k l : ℕ) (p q : List ℕ) → a ≡ b → s ≡ t → v ≡ w → k ≡ l → p ≡ q →
    fields a s v k p ≡ fields b t w l q
same_record a b s t v w k l p q e1 e2 e3 e4 e5 = cc

pub same_fields : (f g : Fields) → f.dst ≡ g.dst → f.src ≡ g.src → f.vlan ≡ g.vlan → f.ethertype ≡ g.ethertype
    → f.payload ≡ g.payload → f ≡ g
same_fields f g a b c d e = same_record f.dst g.dst f.src g.src f.vlan g.vlan f.ethertype g.ethertype f.payload g.payload a b c d e

-- legal fields with one spelling are the same fields
pub spelled_once : (f g : Fields) → IsLegal f → IsLegal g → spelling f ≡ spelling g → f ≡ g
spelled_once f g fl gl e =
    let whole = sym (regrouped f) ∙ e ∙ regrouped g in
    let d = same_parts f.dst g.dst _ _ (fl.dst ∙ sym gl.dst) whole in
    let s = same_parts f.src g.src _ _ (fl.src ∙ sym gl.src) d.1 in
    let t = tail_once f.vlan g.vlan f.ethertype g.ethertype f.payload g.payload
    fl.vlan gl.vlan fl.ethertype gl.ethertype fl.untagged gl.untagged s.1 in
    same_fields f g d.0 s.0 t.0 t.1 t.2
