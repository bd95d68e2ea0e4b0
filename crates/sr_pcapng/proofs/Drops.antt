-- Options of statistics, one behind the other.
use Rattle.std.proofs.Common.{◌≡◌, ℕ, zero, suc, ◌+◌, ◌≤◌, List, length, drop, Option, None, Bool, true, false, sym, ap, subst, refl, ◌∙◌, arith}
use Rattle.std.specs.Prelude.{if◌then◌else◌}
use Rattle.std.proofs.lemmas.List.{length-drop}
use Rattle.sr_capture.specs.declared.numbers.ByteOrder.{ByteOrder}
use Rattle.sr_pcapng.specs.Statistics.{is_end, option_len, is_option, with_option, drops_in}

-- what is left of options counts, with what is known, as much as all of them
pub record Goes (order : ByteOrder) (octets rest : List ℕ) (known : Option ℕ) : Type 0 where
  pub most : ℕ
  pub enough : length rest ≤ most
  pub same : drops_in most order rest known ≡ drops_in (length octets) order octets None

-- at the end of options
at_end : (most : ℕ) (order : ByteOrder) (xs : List ℕ) (known : Option ℕ) → is_end order xs ≡ true → drops_in most order xs known ≡ known
at_end zero order xs known e = refl
at_end (suc n) order xs known e = subst (λ (b : Bool). (if b then known
    else if is_option order xs then drops_in n order (drop (option_len order xs) xs) (with_option order xs known) else None) ≡ known) (sym e) refl

pub ends : (order : ByteOrder) (octets rest : List ℕ) (known : Option ℕ) → Goes order octets rest known → is_end order rest ≡ true
    → known ≡ drops_in (length octets) order octets None
ends order octets rest known g e = sym (at_end g.most order rest known e) ∙ g.same

-- where nothing is left options end
nothing : (order : ByteOrder) (xs : List ℕ) → length xs ≤ 0 → is_end order xs ≡ false → ⊥
nothing order xs none e = grind (arith, none, e)

-- behind an option that is cut
at_cut : (most : ℕ) (order : ByteOrder) (xs : List ℕ) (known : Option ℕ) → length xs ≤ most → is_end order xs ≡ false → is_option order xs ≡ false
    → drops_in most order xs known ≡ None
at_cut zero order xs known enough e o = absurd (nothing order xs enough e)
at_cut (suc n) order xs known enough e o =
    subst (λ (b : Bool). (if b then known
    else if is_option order xs then drops_in n order (drop (option_len order xs) xs) (with_option order xs known) else None) ≡ None) (sym e)
    (subst (λ (b : Bool). (if b then drops_in n order (drop (option_len order xs) xs) (with_option order xs known) else None) ≡ None) (sym o) refl)

pub breaks : (order : ByteOrder) (octets rest : List ℕ) (known : Option ℕ) → Goes order octets rest known → is_end order rest ≡ false
    → is_option order rest ≡ false → None ≡ drops_in (length octets) order octets None
breaks order octets rest known g e o = sym (at_cut g.most order rest known g.enough e o) ∙ g.same

-- behind an option
at_option : (most : ℕ) (order : ByteOrder) (xs : List ℕ) (known : Option ℕ) → length xs ≤ most → is_end order xs ≡ false → is_option order xs ≡ true
    → (n : ℕ) × (most ≡ n + 1)
    × (drops_in n order (drop (option_len order xs) xs) (with_option order xs known) ≡ drops_in most order xs known)
at_option zero order xs known enough e o = absurd (nothing order xs enough e)
at_option (suc n) order xs known enough e o = (
  n,
  omega arith,
  subst (λ (b : Bool). drops_in n order (drop (option_len order xs) xs) (with_option order xs known) ≡ (if b then known
      else if is_option order xs then drops_in n order (drop (option_len order xs) xs) (with_option order xs known) else None)) (sym e)
      (subst (λ (b : Bool). drops_in n order (drop (option_len order xs) xs) (with_option order xs known)
      ≡ (if b then drops_in n order (drop (option_len order xs) xs) (with_option order xs known) else None)) (sym o) refl),
)

-- an option is no longer than what it stands in front of
fits : (order : ByteOrder) (xs : List ℕ) → is_option order xs ≡ true → option_len order xs ≤ length xs
fits order xs o = grind (arith, o)

shorter : (order : ByteOrder) (xs : List ℕ) → is_option order xs ≡ true → length (drop (option_len order xs) xs) + 4 ≤ length xs
shorter order xs o = omega (arith, fits order xs o, length-drop (option_len order xs) xs)

pub goes_on : (order : ByteOrder) (octets rest left : List ℕ) (size : ℕ) (known next : Option ℕ) → Goes order octets rest known → is_end order rest ≡ false
    → is_option order rest ≡ true → left ≡ drop size rest → size ≡ option_len order rest → next ≡ with_option order rest known → Goes order octets left next
goes_on order octets rest left size known next g e o is sized tells =
    let b = at_option g.most order rest known g.enough e o in
    let behind : left ≡ drop (option_len order rest) rest = is ∙ ap (λ n. drop n rest) sized in
    record {
      most = b.0;
      enough = omega (arith, b.1, g.enough, shorter order rest o, ap length behind);
      same = ap (λ (l : List ℕ). drops_in b.0 order l next) behind ∙ ap (drops_in b.0 order (drop (option_len order rest) rest)) tells ∙ b.2 ∙ g.same;
    }
