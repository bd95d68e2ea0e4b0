-- Blocks that are taken in two pieces.
use Rattle.std.proofs.Common.{◌≡◌, ◌≢◌, ℕ, ◌+◌, ◌-◌, ◌%◌, ◌≤◌, List, [], ◌∷◌, ◌++◌, length, Option, Some, None, false, sym, ap, subst, refl, ◌∙◌, arith, inl, inr}
use Rattle.std.specs.Prelude.{IfSome, take, drop}
use Rattle.std.specs.Int.{w16, w32, from_le_bytes, from_be_bytes}
use Rattle.std.proofs.lemmas.List.{length-append, append-nil, get_or_append_left, length-take, take-append-drop}
use Rattle.sr_capture.specs.declared.fault.CaptureFault.{CaptureFault}
use Rattle.sr_capture.specs.declared.numbers.ByteOrder.{ByteOrder}
use Rattle.sr_capture.specs.declared.numbers.ByteOrder.TheVariants.{Little, Big}
use Rattle.sr_capture.specs.Headers.{IsLack}
use Rattle.sr_capture.specs.Numbers.{two_at, four_at, half_at, word_at}
use Rattle.sr_capture.specs.Taking.{Loses, LeavesNone, Gathers, Fills, FillsBelow}
use Rattle.sr_capture.specs.TakingLemmas.{loses_more, none_left}
use Rattle.sr_pcapng.specs.declared.block.Kind.TheVariants as kind
use Rattle.sr_pcapng.specs.Blocks.{kind_of, BeginsSection, IsSize, HasOrder, BeginsBlock, IsBlock, IsAtHand, EndsOtherwise, EndsEarly, IsNoBlock}

four_is : (a b c d e f g h : ℕ) → a ≡ e → b ≡ f → c ≡ g → d ≡ h → a ∷ b ∷ c ∷ d ∷ [] ≡ e ∷ f ∷ g ∷ h ∷ []
four_is a b c d e f g h p q r s = cc

four_front : (xs ys : List ℕ) (at : ℕ) → at + 4 ≤ length xs → four_at (xs ++ ys) at ≡ four_at xs at
four_front xs ys at near = four_is _ _ _ _ _ _ _ _
    (get_or_append_left xs ys 0 at (omega (arith, near)))
    (get_or_append_left xs ys 0 (at + 1) (omega (arith, near)))
    (get_or_append_left xs ys 0 (at + 2) (omega (arith, near)))
    (get_or_append_left xs ys 0 (at + 3) (omega (arith, near)))

-- a number at the front
pub word_front : (order : ByteOrder) (xs ys : List ℕ) (at : ℕ) → at + 4 ≤ length xs → word_at order (xs ++ ys) at ≡ word_at order xs at
word_front Little xs ys at near = ap (λ (l : List ℕ). from_le_bytes w32 l) (four_front xs ys at near)
word_front Big xs ys at near = ap (λ (l : List ℕ). from_be_bytes w32 l) (four_front xs ys at near)

two_is : (a b c d : ℕ) → a ≡ c → b ≡ d → a ∷ b ∷ [] ≡ c ∷ d ∷ []
two_is a b c d p q = cc

two_front : (xs ys : List ℕ) (at : ℕ) → at + 2 ≤ length xs → two_at (xs ++ ys) at ≡ two_at xs at
two_front xs ys at near = two_is _ _ _ _
    (get_or_append_left xs ys 0 at (omega (arith, near)))
    (get_or_append_left xs ys 0 (at + 1) (omega (arith, near)))

pub half_front : (order : ByteOrder) (xs ys : List ℕ) (at : ℕ) → at + 2 ≤ length xs → half_at order (xs ++ ys) at ≡ half_at order xs at
half_front Little xs ys at near = ap (λ (l : List ℕ). from_le_bytes w16 l) (two_front xs ys at near)
half_front Big xs ys at near = ap (λ (l : List ℕ). from_be_bytes w16 l) (two_front xs ys at near)

-- the order that a front tells
pub order_more : (own : Option ByteOrder) (xs ys : List ℕ) (order : ByteOrder) → 12 ≤ length xs → HasOrder own xs order → HasOrder own (xs ++ ys) order
order_more own xs ys order near (inl h) =
    inl (word_front Big xs ys 0 (omega (arith, near)) ∙ h.0, word_front Big xs ys 8 (omega (arith, near)) ∙ h.1)
order_more own xs ys order near (inr h) =
    inr (λ e. h.0 (sym (word_front Big xs ys 0 (omega (arith, near))) ∙ e), h.1)

-- the order of the whole is that of its front
pub order_less : (own : Option ByteOrder) (xs ys : List ℕ) (order : ByteOrder) → 12 ≤ length xs → HasOrder own (xs ++ ys) order → HasOrder own xs order
order_less own xs ys order near (inl h) =
    inl (sym (word_front Big xs ys 0 (omega (arith, near))) ∙ h.0, sym (word_front Big xs ys 8 (omega (arith, near))) ∙ h.1)
order_less own xs ys order near (inr h) =
    inr (λ e. h.0 (word_front Big xs ys 0 (omega (arith, near)) ∙ e), h.1)

pub begins_more : (own : Option ByteOrder) (xs ys : List ℕ) (order : ByteOrder) (size : ℕ) → BeginsBlock own xs order size → BeginsBlock own (xs ++ ys) order size
begins_more own xs ys order size b = record {
  front = omega (arith, b.front, length-append xs ys);
  in_order = order_more own xs ys order b.front b.in_order;
  long = record {
    told = b.long.told ∙ sym (word_front order xs ys 4 (omega (arith, b.front)));
    least = b.long.least;
    even = b.long.even;
    most = b.long.most;
  };
}

-- what was taken in two pieces
pub record Begun (own : Option ByteOrder) (kept : List ℕ) (order : ByteOrder) (size : ℕ) (a c : Option (List ℕ)) : Type 0 where
  pub lost : Loses kept a c
  pub begins : BeginsBlock own kept order size

pub begun : (own : Option ByteOrder) (held kept : List ℕ) (order : ByteOrder) (size : ℕ) (a b c : Option (List ℕ)) → Loses held a b
    → BeginsBlock own held order size → Gathers held kept b c → Begun own kept order size a c
begun own held kept order size a b c lost begins g = record {
  lost = subst (λ (l : List ℕ). Loses l a c) (sym g.1) (loses_more held g.0 a b c lost g.2);
  begins = subst (λ (l : List ℕ). BeginsBlock own l order size) (sym g.1) (begins_more own held g.0 order size begins);
}

-- a lack behind the front
pub lacks_rest : (own : Option ByteOrder) (fault : CaptureFault) (held kept : List ℕ) (order : ByteOrder) (size : ℕ) (a b c : Option (List ℕ))
    → Loses held a b → BeginsBlock own held order size → FillsBelow size held kept b c → IsLack fault.reason → fault.at ≡ length kept
    → IsNoBlock own fault a c
lacks_rest own fault held kept order size a b c lost begins f lack at =
    let all = begun own held kept order size a b c lost begins f.0 in
    inl (lack, (kept, sym at, all.lost, inr (order, size, all.begins, f.1)))

-- the input ends behind octets
pub ends_in : (P : List ℕ → Type 0) (kept : List ℕ) (a c : Option (List ℕ)) → Loses kept a c → LeavesNone a c → P kept → IfSome a P
ends_in P kept None c lost none h = tt
ends_in P kept (Some xs) None lost none h = absurd lost
ends_in P kept (Some xs) (Some ys) lost none h =
    let all : xs ≡ kept = lost ∙ ap (λ (l : List ℕ). kept ++ l) none ∙ append-nil kept in
    subst P (sym all) h

pub rest_ends : (own : Option ByteOrder) (held kept : List ℕ) (order : ByteOrder) (size : ℕ) (a b c : Option (List ℕ)) → Loses held a b
    → BeginsBlock own held order size → Fills false size held kept b c → IfSome a (EndsEarly own)
rest_ends own held kept order size a b c lost begins f =
    let all = begun own held kept order size a b c lost begins f.0 in
    ends_in (EndsEarly own) kept a c all.lost (none_left held a b c lost f.2)
    (omega (arith, all.begins.front), inr (order, size, all.begins, f.1))

-- a block is whole
pub block_is : (own : Option ByteOrder) (held kept : List ℕ) (order : ByteOrder) (size : ℕ) (a b c : Option (List ℕ)) → Loses held a b
    → BeginsBlock own held order size → Gathers held kept b c → length kept ≡ size → word_at order kept (size - 4) ≡ size → IsBlock own kept order
block_is own held kept order size a b c lost begins g whole tail =
    let all = begun own held kept order size a b c lost begins g in
    record {
      begins = subst (BeginsBlock own kept order) (sym whole) all.begins;
      ends = ap (λ n. word_at order kept (n - 4)) whole ∙ tail ∙ sym whole;
    }

pub ends_otherwise : (own : Option ByteOrder) (held kept : List ℕ) (order : ByteOrder) (size : ℕ) (a b c : Option (List ℕ)) → Loses held a b
    → BeginsBlock own held order size → Gathers held kept b c → length kept ≡ size → word_at order kept (size - 4) ≢ size → EndsOtherwise own kept
ends_otherwise own held kept order size a b c lost begins g whole tail =
    let all = begun own held kept order size a b c lost begins g in
    (order, subst (BeginsBlock own kept order) (sym whole) all.begins, λ e. tail (ap (λ n. word_at order kept (n - 4)) (sym whole) ∙ e ∙ whole))

-- a number in the front of octets stands in them
word_taken : (order : ByteOrder) (xs : List ℕ) (size at : ℕ) → size ≤ length xs → at + 4 ≤ size → word_at order (take size xs) at ≡ word_at order xs at
word_taken order xs size at whole near =
    sym (word_front order (take size xs) (drop size xs) at (omega (arith, length-take size xs, whole, near)))
    ∙ ap (λ (l : List ℕ). word_at order l at) (take-append-drop size xs)

no_section : (order : ByteOrder) (xs : List ℕ) → kind_of order xs ≡ kind.Enhanced → BeginsSection xs → ⊥
no_section order xs is e = other (sym (section_is e) ∙ is)
  where
    section_is : word_at Big xs 0 ≡ 0x0A0D0D0A → kind_of order xs ≡ kind.Section
    section_is h = grind (arith, h)

    other : kind.Section ≡ kind.Enhanced → ⊥
    other h = cc

kind_alike : (order : ByteOrder) (xs ys : List ℕ) → word_at Big xs 0 ≡ word_at Big ys 0 → word_at order xs 0 ≡ word_at order ys 0
    → kind_of order xs ≡ kind_of order ys
kind_alike order xs ys a b = cc

-- a block that is whole at the front of octets
pub at_hand : (order : ByteOrder) (xs : List ℕ) (size : ℕ) → 12 ≤ length xs → kind_of order xs ≡ kind.Enhanced → IsSize order xs size
    → size ≤ length xs → word_at order xs (size - 4) ≡ size → IsAtHand order xs (take size xs)
at_hand order xs size front is long whole tail =
    let len : length (take size xs) ≡ size = omega (arith, length-take size xs, whole) in
    let type = word_taken Big xs size 0 whole (omega (arith, long.least)) in
    let own = word_taken order xs size 0 whole (omega (arith, long.least)) in
    let none : BeginsSection (take size xs) → ⊥ = λ e. no_section order xs is (sym type ∙ e) in
    record {
      front = ap (λ n. take n xs) (sym len);
      whole = omega (arith, len, whole);
      is = record {
        begins = record {
          front = omega (arith, len, long.least);
          in_order = inr (none, refl);
          long = record {
            told = len ∙ long.told ∙ sym (word_taken order xs size 4 whole (omega (arith, long.least)));
            least = omega (arith, len, long.least);
            even = ap (λ n. n % 4) len ∙ long.even;
            most = omega (arith, len, long.most);
          };
        };
        ends = ap (λ n. word_at order (take size xs) (n - 4)) len ∙ word_taken order xs size (size - 4) whole (omega (arith, long.least)) ∙ tail ∙ sym len;
      };
      packet = kind_alike order (take size xs) xs type own ∙ is;
    }
