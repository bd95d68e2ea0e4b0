-- How many octets stand before a frame's payload, and which lists have the length of a frame.
use Rattle.std.proofs.Common.{
  ◌≡◌,
  ◌≢◌,
  ℕ,
  ◌+◌,
  ◌-◌,
  ◌<◌,
  ◌≤◌,
  ◌^◌,
  List,
  ◌++◌,
  length,
  get_or,
  Option,
  Some,
  None,
  sym,
  ap,
  refl,
  ◌∙◌,
  arith,
  inl,
  inr,
  true,
  cond,
  eqb,
  ◌&&◌,
}
use Rattle.std.specs.Prelude.{replicate, max}
use Rattle.std.specs.Int.{w16, to_be_bytes}
use Rattle.std.proofs.lemmas.Bool.{cases_Bool, and_parts, eqb-true, false_from_ne_true}
use Rattle.std.proofs.lemmas.List.{length-append, length-replicate, get_or_append_left, get_or-append_right}
use Rattle.sr_frame.specs.Frame.{Fields, IsLegal, HasFrameLength, least_len, tag_of, head_of, spelling, padded}
use Rattle.sr_frame.specs.FrameLemmas.{regrouped}

-- the octets before the payload
abbrev pub header_of : Fields → List ℕ
header_of f = head_of f ++ to_be_bytes w16 f.ethertype

-- the same fields before another payload
abbrev pub with_payload : Fields → List ℕ → Fields
with_payload f payload = record f { payload = payload }

-- what stands at 12 decides the least length, and more octets behind it change nothing
pub least_len_more : (octets more : List ℕ) → 14 ≤ length octets → least_len (octets ++ more) ≡ least_len octets
least_len_more octets more long =
    let a : get_or (octets ++ more) 12 0 ≡ get_or octets 12 0 = get_or_append_left octets more 0 12 (omega arith) in
    let b : get_or (octets ++ more) 13 0 ≡ get_or octets 13 0 = get_or_append_left octets more 0 13 (omega arith) in
    rw (a, b) refl

pub least_len_bounds : (octets : List ℕ) → (14 ≤ least_len octets) × (least_len octets ≤ 18)
least_len_bounds octets =
    elim (cases_Bool (eqb (get_or octets 12 0) 129 && eqb (get_or octets 13 0) 0)) [
      | inl t ↦ rw t (omega arith, omega arith)
      | inr f ↦ rw f (omega arith, omega arith)
    ]

least_at : (v : Option ℕ) (k : ℕ) (p : List ℕ) (x y : ℕ) → k < 2 ^ 16 → (v ≡ None → k ≢ 0x8100) →
    x ≡ get_or (tag_of v ++ (to_be_bytes w16 k ++ p)) 0 0 → y ≡ get_or (tag_of v ++ (to_be_bytes w16 k ++ p)) 1 0 →
    cond (eqb x 129 && eqb y 0) 18 14 ≡ 14 + length (tag_of v)
least_at None k p x y kf un xe ye =
    let no : (eqb x 129 && eqb y 0) ≡ true → ⊥ =
    λ t. let both = and_parts (eqb x 129) (eqb y 0) t in
    let a : x ≡ 129 = eqb-true x 129 both.0 in
    let b : y ≡ 0 = eqb-true y 0 both.1 in
    un refl (omega arith) in
    rw (false_from_ne_true _ no) refl
least_at (Some c) k p x y kf un xe ye = rw (xe, ye) refl

-- the least length of a frame is what stands before its payload
pub least_len-spelling : (f : Fields) → IsLegal f → least_len (spelling f) ≡ length (header_of f)
least_len-spelling f legal =
    let tail = tag_of f.vlan ++ (to_be_bytes w16 f.ethertype ++ f.payload) in
    let at : (i : ℕ) → get_or (spelling f) (12 + i) 0 ≡ get_or tail i 0 =
    λ i. rw (
      regrouped f,
      get_or-append_right f.dst (f.src ++ tail) 6 (12 + i) 0 legal.dst (omega arith),
      get_or-append_right f.src tail 6 (12 + i - 6) 0 legal.src (omega arith),
    ) (ap (λ (j : ℕ). get_or tail j 0) (omega arith)) in
    let size : length (header_of f) ≡ 14 + length (tag_of f.vlan) =
    omega (
      arith,
      length-append (head_of f) (to_be_bytes w16 f.ethertype),
      length-append (f.dst ++ f.src) (tag_of f.vlan),
      length-append f.dst f.src,
      legal.dst,
      legal.src,
    ) in
    least_at f.vlan f.ethertype f.payload (get_or (spelling f) 12 0) (get_or (spelling f) 13 0)
    legal.ethertype legal.untagged (at 0) (at 1) ∙ sym
    size

pub length-spelling : (f : Fields) → length (spelling f) ≡ length (header_of f) + length f.payload
length-spelling f = length-append (header_of f) f.payload

-- a legal frame has the length of a frame
pub HasFrameLength-spelling : (f : Fields) → IsLegal f → HasFrameLength (spelling f)
HasFrameLength-spelling f legal = record {
  least = omega (arith, least_len-spelling f legal, length-spelling f);
  most = legal.size;
}

-- a shorter payload makes a legal frame too
pub IsLegal-shorter : (f : Fields) (payload : List ℕ) → IsLegal f → length payload ≤ length f.payload → IsLegal (with_payload f payload)
IsLegal-shorter f payload legal short = record {
  dst = legal.dst;
  src = legal.src;
  vlan = legal.vlan;
  ethertype = legal.ethertype;
  untagged = legal.untagged;
  size = omega (arith, legal.size, length-spelling f, length-spelling (with_payload f payload));
}

-- how long a frame is once it is padded
pub length-padded : (f : Fields) (n : ℕ) → IsLegal f → n ≡ max (length f.payload) 46 →
    least_len (spelling f) + n ≡ length (padded (spelling f))
length-padded f n legal n_is =
    let s = spelling f in
    let zeros : List ℕ = replicate (least_len s + 46 - length s) 0 in
    let zeros_len = length-replicate {A = ℕ} (least_len s + 46 - length s) 0 in
    omega (arith, n_is, zeros_len, length-append s zeros, length-spelling f, least_len-spelling f legal)
