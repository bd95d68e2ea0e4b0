-- What is spelled has no markup.
use Rattle.std.proofs.Common.{◌≡◌, ◌≢◌, ℕ, ◌≤◌, ◌/◌, ◌%◌, ◌+◌, Bool, true, false, cond, not, ◌&&◌, nat_lt, List, [], ◌∷◌, ◌++◌, map, refl, sym, ap, ◌∙◌, subst, arith, ◌==◌}
use Rattle.std.specs.Prelude.{codes, chars}
use Rattle.std.specs.Char.{digit_char, encode_utf8}
use Rattle.std.specs.List.{flat_map, list_all}
use Rattle.std.proofs.lemmas.Bool.{false≢true, eq-eqb, and_parts}
use Rattle.std.proofs.lemmas.List.Elements.{All-append, All-nil, All-cons}
use Rattle.sr_markup.specs.Escapes.{is_hidden, four_digits, spelled_char, spelled_text, IsPlain, AreWithoutMarkup}

pub same_map : (xs : List ℕ) → map (λ x. x) xs ≡ xs
same_map [] = refl
same_map (x ∷ xs) = ap (λ ys. x ∷ ys) (same_map xs)

-- a test for an octet that is plain
abbrev is_plain : ℕ → Bool
is_plain b = not (b == 60) && (not (b == 62) && (not (b == 34) && not (b == 39)))

apart : (b n : ℕ) → not (b == n) ≡ true → b ≢ n
apart b n h e = false≢true (sym (ap not (eq-eqb b n e)) ∙ h)

tells : (b : ℕ) → is_plain b ≡ true → IsPlain b
tells b h =
    let p = and_parts (not (b == 60)) _ h in
    let q = and_parts (not (b == 62)) _ p.1 in
    let r = and_parts (not (b == 34)) _ q.1 in
    (apart b 60 p.0, apart b 62 q.0, apart b 34 r.0, apart b 39 r.1)

plain_list : (xs : List ℕ) → list_all is_plain xs ≡ true → AreWithoutMarkup xs
plain_list [] h = All-nil IsPlain
plain_list (x ∷ xs) h = let p = and_parts (is_plain x) _ h in All-cons IsPlain x xs (tells x p.0) (plain_list xs p.1)

-- a choice of two plain texts is plain
either : (b : Bool) (xs ys : List ℕ) → (b ≡ true → AreWithoutMarkup xs) → (b ≡ false → AreWithoutMarkup ys) → AreWithoutMarkup (cond b xs ys)
either true xs ys f g = f refl
either false xs ys f g = g refl

one : (b : ℕ) → IsPlain b → AreWithoutMarkup (b ∷ [])
one b h = All-cons IsPlain b [] h (All-nil IsPlain)

high : (b : ℕ) → 128 ≤ b → IsPlain b
high b h = (λ e. omega arith, λ e. omega arith, λ e. omega arith, λ e. omega arith)

two_high : (a b : ℕ) → 128 ≤ a → 128 ≤ b → AreWithoutMarkup (a ∷ b ∷ [])
two_high a b ha hb = All-cons IsPlain a (b ∷ []) (high a ha) (one b (high b hb))

three_high : (a b c : ℕ) → 128 ≤ a → 128 ≤ b → 128 ≤ c → AreWithoutMarkup (a ∷ b ∷ c ∷ [])
three_high a b c ha hb hc = All-cons IsPlain a (b ∷ c ∷ []) (high a ha) (two_high b c hb hc)

four_high : (a b c d : ℕ) → 128 ≤ a → 128 ≤ b → 128 ≤ c → 128 ≤ d → AreWithoutMarkup (a ∷ b ∷ c ∷ d ∷ [])
four_high a b c d ha hb hc hd = All-cons IsPlain a (b ∷ c ∷ d ∷ []) (high a ha) (three_high b c d hb hc hd)

-- the octets of a character that is plain
encode_plain : (c : ℕ) → IsPlain c → AreWithoutMarkup (encode_utf8 c)
unfolding encode_utf8
encode_plain c h =
    either (nat_lt c 128) (c ∷ []) _ (λ _. one c h) (λ _.
    either (nat_lt c 2048) ((192 + c / 64) ∷ (128 + c % 64) ∷ []) _ (λ _. two_high (192 + c / 64) (128 + c % 64) (omega arith) (omega arith)) (λ _.
    either (nat_lt c 65536) ((224 + c / 4096) ∷ (128 + c / 64 % 64) ∷ (128 + c % 64) ∷ [])
    ((240 + c / 262144) ∷ (128 + c / 4096 % 64) ∷ (128 + c / 64 % 64) ∷ (128 + c % 64) ∷ [])
    (λ _. three_high (224 + c / 4096) (128 + c / 64 % 64) (128 + c % 64) (omega arith) (omega arith) (omega arith))
    (λ _. four_high (240 + c / 262144) (128 + c / 4096 % 64) (128 + c / 64 % 64) (128 + c % 64) (omega arith) (omega arith) (omega arith) (omega arith))))

digit_plain : (d : ℕ) → IsPlain (digit_char d)
digit_plain d = (λ e. grind arith, λ e. grind arith, λ e. grind arith, λ e. grind arith)

four : (a b c d : ℕ) → IsPlain a → IsPlain b → IsPlain c → IsPlain d → AreWithoutMarkup (a ∷ b ∷ c ∷ d ∷ [])
four a b c d ha hb hc hd = All-cons IsPlain a (b ∷ c ∷ d ∷ []) ha (All-cons IsPlain b (c ∷ d ∷ []) hb (All-cons IsPlain c (d ∷ []) hc (one d hd)))

digits_plain : (c : ℕ) → AreWithoutMarkup (four_digits c)
digits_plain c =
    four (digit_char (c / 4096 % 16)) (digit_char (c / 256 % 16)) (digit_char (c / 16 % 16)) (digit_char (c % 16))
    (digit_plain (c / 4096 % 16)) (digit_plain (c / 256 % 16)) (digit_plain (c / 16 % 16)) (digit_plain (c % 16))

hidden_plain : (c : ℕ) → AreWithoutMarkup (codes "\\u{" ++ (four_digits c ++ codes "}"))
hidden_plain c =
    All-append IsPlain (codes "\\u{") (four_digits c ++ codes "}") (plain_list (codes "\\u{") refl)
    (All-append IsPlain (four_digits c) (codes "}") (digits_plain c) (plain_list (codes "}") refl))

not_this : (c n : ℕ) → (c == n) ≡ false → c ≢ n
not_this c n h e = false≢true (sym h ∙ eq-eqb c n e)

spelled_plain : (c : ℕ) → AreWithoutMarkup (spelled_char c)
spelled_plain c =
    either (c == 38) _ _ (λ _. plain_list (codes "&amp;") refl) (λ _.
    either (c == 60) _ _ (λ _. plain_list (codes "&lt;") refl) (λ less.
    either (c == 62) _ _ (λ _. plain_list (codes "&gt;") refl) (λ greater.
    either (c == 34) _ _ (λ _. plain_list (codes "&quot;") refl) (λ quote.
    either (c == 39) _ _ (λ _. plain_list (codes "&#39;") refl) (λ mark.
    either (is_hidden c) _ _ (λ _. hidden_plain c)
    (λ _. encode_plain c (not_this c 60 less, not_this c 62 greater, not_this c 34 quote, not_this c 39 mark)))))))

all_plain : (cs : List ℕ) → AreWithoutMarkup (flat_map spelled_char cs)
all_plain [] = All-nil IsPlain
all_plain (c ∷ cs) = All-append IsPlain (spelled_char c) (flat_map spelled_char cs) (spelled_plain c) (all_plain cs)

-- a text as it is spelled
pub text_plain : (text : List ℕ) → AreWithoutMarkup (spelled_text text)
text_plain text = all_plain (chars text)

pub exact_is_plain : (xs text : List ℕ) → xs ≡ spelled_text text → AreWithoutMarkup xs
exact_is_plain xs text e = subst AreWithoutMarkup (sym e) (text_plain text)
