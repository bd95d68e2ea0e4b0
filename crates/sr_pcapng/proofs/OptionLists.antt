-- Options, one behind the other.
use Rattle.std.proofs.Common.{◌≡◌, ℕ, ◌+◌, ◌<◌, ◌≤◌, List, [], ◌∷◌, ◌++◌, length, take, drop, sym, ap, subst, refl, ◌∙◌, arith, inl, inr}
use Rattle.std.proofs.lemmas.List.{length-append, take_at, append_cancel_left, take-append-drop}
use Rattle.sr_capture.specs.declared.numbers.ByteOrder.{ByteOrder}
use Rattle.sr_capture.specs.Numbers.{half_at}
use Rattle.sr_pcapng.specs.declared.track.Interface.{Interface}
use Rattle.sr_pcapng.specs.Options.{IsOption, IsEnd, told, Reads}
use Rattle.sr_pcapng.proofs.Blocks.{half_front}

-- fronts of one length
pub same_front : (a b c d : List ℕ) → a ++ b ≡ c ++ d → length a ≡ length c → a ≡ c
same_front a b c d e size = sym (take_at a b (length c) size) ∙ ap (take (length c)) e ∙ take_at c d (length c) refl

pub same_rest : (a b c d : List ℕ) → a ++ b ≡ c ++ d → a ≡ c → b ≡ d
same_rest a b c d e same = append_cancel_left c b d (ap (λ (l : List ℕ). l ++ b) (sym same) ∙ e)

-- numbers at the front of the same octets
same_half : (order : ByteOrder) (a b c d : List ℕ) (at : ℕ) → a ++ b ≡ c ++ d → at + 2 ≤ length a → at + 2 ≤ length c → half_at order a at ≡ half_at order c at
same_half order a b c d at e near far =
    sym (half_front order a b at near) ∙ ap (λ (l : List ℕ). half_at order l at) e ∙ half_front order c d at far

-- options at the front of the same octets
pub one_option : (order : ByteOrder) (a b c d : List ℕ) → a ++ b ≡ c ++ d → IsOption order a → IsOption order c → a ≡ c
one_option order a b c d e x y =
    let two : half_at order a 2 ≡ half_at order c 2 = same_half order a b c d 2 e (omega (arith, x.size)) (omega (arith, y.size)) in
    same_front a b c d e (omega (arith, x.size, y.size, two))

-- an option is no end
pub no_end : (order : ByteOrder) (a b : List ℕ) → IsOption order a → IsEnd order (a ++ b) → ⊥
no_end order a b x (inl none) = omega (arith, ap length none, length-append a b, x.size)
no_end order a b x (inr end) = x.code (sym (half_front order a b 0 (omega (arith, x.size))) ∙ end.1)

-- what is read with the first option, and without it
pub read_first : (order : ByteOrder) (size : ℕ) (octets : List ℕ) (interface : Interface) (options : List (List ℕ)) (known : Interface)
    → IsOption order (take size octets) → Reads order (drop size octets) (told order (take size octets) interface) options known
    → Reads order octets interface (take size octets ∷ options) known
read_first order size octets interface options known is reads =
    (drop size octets, sym (take-append-drop size octets), is, reads)

pub read_behind : (order : ByteOrder) (size : ℕ) (octets : List ℕ) (interface : Interface) (options : List (List ℕ)) (known : Interface)
    → IsOption order (take size octets) → Reads order octets interface options known
    → (left : List (List ℕ)) × Reads order (drop size octets) (told order (take size octets) interface) left known
read_behind order size octets interface [] known is reads =
    absurd (no_end order (take size octets) (drop size octets) is (subst (IsEnd order) (sym (take-append-drop size octets)) reads.0))
read_behind order size octets interface (o ∷ os) known is reads =
    let whole : take size octets ++ drop size octets ≡ o ++ reads.0 = take-append-drop size octets ∙ reads.1 in
    let first : o ≡ take size octets = sym (one_option order (take size octets) (drop size octets) o reads.0 whole is reads.2) in
    let rest : reads.0 ≡ drop size octets = sym (same_rest (take size octets) (drop size octets) o reads.0 whole (sym first)) in
    let by_first : Reads order reads.0 (told order (take size octets) interface) os known =
    subst (λ (l : List ℕ). Reads order reads.0 (told order l interface) os known) first reads.3 in
    (os, subst (λ (l : List ℕ). Reads order l (told order (take size octets) interface) os known) rest by_first)

-- nothing is left
pub read_none : (order : ByteOrder) (octets : List ℕ) (interface : Interface) → IsEnd order octets → Reads order octets interface [] interface
read_none order octets interface end = (end, refl)

-- what begins with no option and no end is not read
pub no_reads : (order : ByteOrder) (octets : List ℕ) (interface known : Interface) (options : List (List ℕ)) → 0 < length octets
    → ((4 ≤ length octets) × (half_at order octets 0 ≡ 0) → ⊥) → ((option rest : List ℕ) → octets ≡ option ++ rest → IsOption order option → ⊥)
    → Reads order octets interface options known → ⊥
no_reads order octets interface known [] some end option (inl none, same) = omega (arith, some, ap length none)
no_reads order octets interface known [] some end option (inr is, same) = end is
no_reads order octets interface known (o ∷ os) some end option reads = option o reads.0 reads.1 reads.2

-- octets tell one thing of an interface
pub one_known : (order : ByteOrder) (octets : List ℕ) (interface x y : Interface) (os ps : List (List ℕ)) → Reads order octets interface os x
    → Reads order octets interface ps y → x ≡ y
one_known order octets interface x y [] [] h k = h.1 ∙ sym k.1
one_known order octets interface x y [] (p ∷ ps) h k = absurd (no_end order p k.0 k.2 (subst (IsEnd order) k.1 h.0))
one_known order octets interface x y (o ∷ os) [] h k = absurd (no_end order o h.0 h.2 (subst (IsEnd order) h.1 k.0))
one_known order octets interface x y (o ∷ os) (p ∷ ps) h k =
    let whole : o ++ h.0 ≡ p ++ k.0 = sym h.1 ∙ k.1 in
    let first : o ≡ p = one_option order o h.0 p k.0 whole h.2 k.2 in
    let rest : h.0 ≡ k.0 = same_rest o h.0 p k.0 whole first in
    let by_first : Reads order h.0 (told order p interface) os x = subst (λ (l : List ℕ). Reads order h.0 (told order l interface) os x) first h.3 in
    one_known order k.0 (told order p interface) x y os ps (subst (λ (l : List ℕ). Reads order l (told order p interface) os x) rest by_first) k.3

-- what is left is read with what is known
pub record Goes (order : ByteOrder) (octets : List ℕ) (interface : Interface) (rest : List ℕ) (known : Interface) : Type 0 where
  pub forth : (options : List (List ℕ)) (last : Interface) → Reads order rest known options last
      → (all : List (List ℕ)) × Reads order octets interface all last
  pub back : (options : List (List ℕ)) (last : Interface) → Reads order octets interface options last
      → (left : List (List ℕ)) × Reads order rest known left last

pub goes_on : (order : ByteOrder) (octets : List ℕ) (interface : Interface) (rest : List ℕ) (known : Interface) (size : ℕ) (first behind : List ℕ) (next : Interface)
    → Goes order octets interface rest known → first ≡ take size rest → behind ≡ drop size rest → IsOption order (take size rest)
    → next ≡ told order first known → Goes order octets interface behind next
goes_on order octets interface rest known size first behind next goes is left option tells =
    let what : next ≡ told order (take size rest) known = tells ∙ ap (λ (l : List ℕ). told order l known) is in
    let own : Goes order octets interface (drop size rest) (told order (take size rest) known) = record {
      forth = λ os e r. goes.forth (take size rest ∷ os) e (read_first order size rest known os e option r);
      back = λ os e r. (let b = goes.back os e r in read_behind order size rest known b.0 e option b.1);
    } in
    let by_rest = subst (λ (l : List ℕ). Goes order octets interface l (told order (take size rest) known)) (sym left) own in
    subst (Goes order octets interface behind) (sym what) by_rest
