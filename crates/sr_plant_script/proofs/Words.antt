-- Words of lines, and what they can not be at once.
use Rattle.std.proofs.Common.{◌≡◌, ℕ, ◌<◌, ◌^◌, List, [], ◌∷◌, ◌++◌, subst, refl, sym, ap, ◌∙◌, arith, lit<, inl, inr}
use Rattle.std.specs.Prelude.{◌⊎◌, codes, drop, slice_index}
use Rattle.std.specs.Fmt.{decimal}
use Rattle.std.specs.Int.{IsInRange}
use Rattle.std.specs.Str.Parse.{AllDigits}
use Rattle.std.proofs.lemmas.Str.Parse.{digit_from_value}
use Rattle.sr_session.specs.Octets.{Lacks}
use Rattle.sr_words.specs.WordLemmas.{all_decimal, decimal_lacks}
use Rattle.sr_plant_script.specs.declared.command.Receiver.{Receiver}
use Rattle.sr_plant_script.specs.declared.command.Receiver.TheVariants.{All, Node}
use Rattle.sr_plant_script.specs.declared.command.Verb.TheVariants.{Carry, Drop, Repeat, Cut, Mend}
use Rattle.sr_plant_script.specs.declared.command.Command.{Command}
use Rattle.sr_plant_script.specs.declared.command.Command.TheVariants.{Skip, Send, On, Tick, Flow}
use Rattle.sr_plant_script.specs.Commands.{IsReceiver, IsSending, Says}

-- `all` spells no number
pub all_is_no_number : (n : ℕ) → n < 2 ^ 64 → codes "all" ≡ decimal n → ⊥
all_is_no_number n lt e =
    let digits : AllDigits 10 (codes "all") = subst (AllDigits 10) (sym e) (all_decimal n lt) in
    no_letter (digit_from_value 97 digits.0)
  where
    no_letter : IsInRange 48 57 97 → ⊥
    no_letter r = grind (arith)

apart : (n : ℕ) → 32 < n → n ≡ 32 → ⊥
apart n lt e = omega arith

-- the name of a receiver holds no space
pub receiver_lacks : (word : List ℕ) (receiver : Receiver) → IsReceiver word receiver → Lacks 32 word
receiver_lacks word All h = subst (Lacks 32) (sym h) (apart 97 (lit< tt), (apart 108 (lit< tt), (apart 108 (lit< tt), tt)))
receiver_lacks word (Node node) h = subst (Lacks 32) (sym h.0) (decimal_lacks node h.1)

-- texts that are the same begin with the same octet, and no other word begins as `send` does
first : {x y : ℕ} {xs ys : List ℕ} → x ∷ xs ≡ y ∷ ys → x ≡ y
first {x} {y} {xs} {ys} e = ap (λ (l : List ℕ). slice_index l 0) e

other : (n : ℕ) → n < 115 ⊎ 115 < n → 115 ≡ n → ⊥
other n (inl lt) e = omega arith
other n (inr lt) e = omega arith

-- a line that begins with `send` asks for nothing but a sending
abbrev pub IsSent : List ℕ → Command → List ℕ → Type 0
IsSent rest command os = (node : ℕ) × (receiver : Receiver) × (command ≡ Send node receiver) × IsSending rest node receiver os

pub sent_only : (line rest : List ℕ) → line ≡ codes "send " ++ rest → (command : Command) (os : List ℕ) → Says line command os → IsSent rest command os
sent_only line rest e Skip os h = absurd (elim h.0 [ inl none ↦ empty none | inr comment ↦ mark comment.0 ])
  where
    empty : line ≡ [] → ⊥
    empty none = let p : [] ≡ codes "send " ++ rest = sym none ∙ e in cc

    mark : slice_index line 0 ≡ 35 → ⊥
    mark first = let p : slice_index (codes "send " ++ rest) 0 ≡ 35 = ap (λ (l : List ℕ). slice_index l 0) (sym e) ∙ first in omega arith
sent_only line rest e (Send node receiver) os h =
    let same : rest ≡ decimal node ++ 32 ∷ (h.0 ++ 32 ∷ h.1) = ap (λ (l : List ℕ). drop 5 l) (sym e ∙ h.2) in
    (node, receiver, refl, (h.0, h.1, same, h.3, h.4, h.5))
sent_only line rest e (On Carry place) os h = absurd (other 99 (inl (lit< tt)) (first (sym e ∙ h.0.0)))
sent_only line rest e (On Drop place) os h = absurd (other 100 (inl (lit< tt)) (first (sym e ∙ h.0.0)))
sent_only line rest e (On Repeat place) os h = absurd (other 114 (inl (lit< tt)) (first (sym e ∙ h.0.0)))
sent_only line rest e (On Cut place) os h = absurd (other 99 (inl (lit< tt)) (first (sym e ∙ h.0.0)))
sent_only line rest e (On Mend place) os h = absurd (other 109 (inl (lit< tt)) (first (sym e ∙ h.0.0)))
sent_only line rest e (Tick node time) os h = absurd (other 116 (inr (lit< tt)) (first (sym e ∙ h.0.0)))
sent_only line rest e Flow os h = absurd (other 102 (inl (lit< tt)) (first (sym e ∙ h.0)))
