-- A line taken piece by piece.
use Rattle.std.proofs.Common.{◌≡◌, ℕ, ◌<◌, ◌≤◌, List, [], ◌∷◌, ◌++◌, length, take, Option, Some, None, Bool, true, false, not, eqb, sym, ap, refl, subst, ◌∙◌, arith, append_assoc}
use Rattle.std.specs.Io.KnownBytes.{Consumes, IsAtEnd, Keeps}
use Rattle.std.specs.Prelude.{IfSome, OnSome}
use Rattle.std.proofs.lemmas.Bool.{ne_eqb, eqb-true, eqb-false, not-true, not-false}
use Rattle.std.proofs.lemmas.List.{append-nil, length-append, nil_from_length}
use Rattle.sr_session.specs.Lines.{lines_of, before_first_line, TakesLine, BeginsLong, TakesPiece}
use Rattle.sr_session.specs.Octets.{Lacks}
use Rattle.sr_session.specs.OctetLemmas.{Lacks-append}
use Rattle.sr_session.specs.declared.lines.Piece.TheVariants.{Part, Last, End}

-- nothing is shown: nothing is left
pub at_end : (a b : Option (List ℕ)) (shown : List ℕ) → Keeps a b → IfSome a (λ xs. length shown ≡ 0 → xs ≡ []) → length shown ≡ 0
    → Consumes a b [] × OnSome a (IsAtEnd b)
at_end None b shown kept end none = (tt, tt)
at_end (Some x) None shown kept end none = absurd kept
at_end (Some x) (Some y) shown kept end none = (sym kept, kept ∙ end none)

-- the known octets were the line, and then those that are left
abbrev pub Took : List ℕ → Option (List ℕ) → Option (List ℕ) → Type 0
Took line None new = Unit {0}
Took line (Some xs) None = ⊥
Took line (Some xs) (Some ys) = xs ≡ line ++ ys

pub Took-nothing : (known : Option (List ℕ)) → Took [] known known
Took-nothing None = tt
Took-nothing (Some xs) = refl

pub Took-more : (line bs : List ℕ) (old mid new : Option (List ℕ)) → Took line old mid → Consumes mid new bs → Took (line ++ bs) old new
Took-more line bs None mid new t c = tt
Took-more line bs (Some xs) None new t c = absurd t
Took-more line bs (Some xs) (Some ys) None t c = absurd c
Took-more line bs (Some xs) (Some ys) (Some zs) t c = t ∙ ap (λ (l : List ℕ). line ++ l) c ∙ sym (append_assoc line bs zs)

pub lines_line : (line ys : List ℕ) → Lacks 10 line → lines_of (line ++ 10 ∷ ys) ≡ line ∷ lines_of ys
lines_line [] ys h = refl
lines_line (b ∷ bs) ys h =
    let no : eqb b 10 ≡ false = ne_eqb b 10 h.0 in
    rw (no, lines_line bs ys h.1) refl

lines_last : (b : ℕ) (bs : List ℕ) → Lacks 10 (b ∷ bs) → lines_of (b ∷ bs) ≡ (b ∷ bs) ∷ []
lines_last b [] h = let no : eqb b 10 ≡ false = ne_eqb b 10 h.0 in rw no refl
lines_last b (c ∷ cs) h =
    let no : eqb b 10 ≡ false = ne_eqb b 10 h.0 in
    rw (no, lines_last c cs h.1) refl

-- the line ends at an LF
pub TakesLine-last : (line bs : List ℕ) (old mid new : Option (List ℕ)) → Lacks 10 (line ++ bs) → Took line old mid → Consumes mid new (bs ++ 10 ∷ [])
    → TakesLine true (line ++ bs) old new
TakesLine-last line bs None mid new h t c = tt
TakesLine-last line bs (Some xs) None new h t c = absurd t
TakesLine-last line bs (Some xs) (Some ys) None h t c = absurd c
TakesLine-last line bs (Some xs) (Some ys) (Some zs) h t c =
    let whole : xs ≡ (line ++ bs) ++ 10 ∷ zs = t ∙ ap (λ (l : List ℕ). line ++ l) (c ∙ append_assoc bs (10 ∷ []) zs) ∙ sym (append_assoc line bs (10 ∷ zs)) in
    ap lines_of whole ∙ lines_line (line ++ bs) zs h

-- the line ends with the input; an empty one is none
pub TakesLine-end : (line : List ℕ) (more : Bool) (old mid new : Option (List ℕ)) → (more ≡ true → 0 < length line) → (more ≡ false → length line ≡ 0)
    → Lacks 10 line → Took line old mid → Consumes mid new [] → OnSome mid (IsAtEnd new) → TakesLine more line old new
TakesLine-end line more None mid new a b h t c e = tt
TakesLine-end line more (Some xs) None new a b h t c e = absurd t
TakesLine-end line more (Some xs) (Some ys) None a b h t c e = absurd c
TakesLine-end [] true (Some xs) (Some ys) (Some zs) a b h t c e = absurd (omega (arith, a refl))
TakesLine-end [] false (Some xs) (Some ys) (Some zs) a b h t c e = rw (t, c, e) refl
TakesLine-end (l ∷ ls) true (Some xs) (Some ys) (Some zs) a b h t c e = rw (t, c, e) (ap lines_of (append-nil (l ∷ ls)) ∙ lines_last l ls h)
TakesLine-end (l ∷ ls) false (Some xs) (Some ys) (Some zs) a b h t c e = absurd (omega (arith, b refl))

-- a part of a line was taken
pub goes_on : (line more : List ℕ) (old mid new : Option (List ℕ)) → Lacks 10 line → Took line old mid → TakesPiece Part line more mid new
    → (length more ≤ 8001) × Lacks 10 more × Took more old new
goes_on line more old mid new h t p =
    let bytes : Consumes mid new p.0 = subst (Consumes mid new) (append-nil p.0) p.3 in
    (p.4.1, rw p.1 (Lacks-append 10 line p.0 h p.2), rw p.1 (Took-more line p.0 old mid new t bytes))

-- the rest of a line and its LF were taken
pub ends_at_feed : (line more : List ℕ) (old mid new : Option (List ℕ)) → Lacks 10 line → Took line old mid → TakesPiece Last line more mid new
    → TakesLine true more old new
ends_at_feed line more old mid new h t p = rw p.1 (TakesLine-last line p.0 old mid new (Lacks-append 10 line p.0 h p.2) t p.3)

-- nothing more of a line was there
pub ends_at_end : (line more : List ℕ) (flag : Bool) (old mid new : Option (List ℕ)) → Lacks 10 line → Took line old mid → TakesPiece End line more mid new
    → flag ≡ not (eqb (length more) 0) → TakesLine flag more old new
ends_at_end line more flag old mid new h t p is =
    let same : more ≡ line = p.4 in
    let none : p.0 ≡ [] = nil_from_length p.0 (omega (arith, ap length p.1, length-append line p.0, ap length same)) in
    let bytes : Consumes mid new [] = subst (Consumes mid new) (append-nil p.0 ∙ none) p.3 in
    rw same (TakesLine-end line flag old mid new
    (λ yes. let far : eqb (length more) 0 ≡ false = not-true (eqb (length more) 0) (sym is ∙ yes) in
    let apart : length more ≡ 0 → ⊥ = eqb-false (length more) 0 far in omega (arith, ap length same))
    (λ empty. let near : eqb (length more) 0 ≡ true = not-false (eqb (length more) 0) (sym is ∙ empty) in
    let zero_is : length more ≡ 0 = eqb-true (length more) 0 near in omega (arith, ap length same))
    h t bytes p.5)

-- octets without LF in front make the first line that much longer
abbrev LongerBy : List ℕ → List (List ℕ) → Type 0
LongerBy line all = (first : List ℕ) × (rest : List (List ℕ)) × (all ≡ first ∷ rest) × (length line ≤ length first)
    × (take (length line) first ≡ line)

longer : (b : ℕ) (line : List ℕ) (all : List (List ℕ)) → LongerBy line all → LongerBy (b ∷ line) (before_first_line b all)
longer b line all h = (b ∷ h.0, h.1, ap (before_first_line b) h.2, omega (arith, h.3), ap (λ (l : List ℕ). b ∷ l) h.4)

longer_one : (b : ℕ) (all : List (List ℕ)) → LongerBy (b ∷ []) (before_first_line b all)
longer_one b [] = (b ∷ [], [], refl, omega arith, refl)
longer_one b (first ∷ rest) = (b ∷ first, rest, refl, omega arith, refl)

lines_longer : (b : ℕ) (line ys : List ℕ) → Lacks 10 (b ∷ line) → LongerBy (b ∷ line) (lines_of (b ∷ line ++ ys))
lines_longer b [] ys h =
    let no : eqb b 10 ≡ false = ne_eqb b 10 h.0 in
    rw no (longer_one b (lines_of ys))
lines_longer b (c ∷ cs) ys h =
    let no : eqb b 10 ≡ false = ne_eqb b 10 h.0 in
    rw no (longer b (c ∷ cs) (lines_of (c ∷ cs ++ ys)) (lines_longer c cs ys h.1))

-- 8001 octets were taken, and no LF
pub BeginsLong-taken : (line : List ℕ) (old mid : Option (List ℕ)) → Lacks 10 line → length line ≡ 8001 → Took line old mid → IfSome old (BeginsLong line)
BeginsLong-taken line None mid h long t = tt
BeginsLong-taken line (Some xs) None h long t = absurd t
BeginsLong-taken [] (Some xs) (Some ys) h long t = absurd (omega (arith, long))
BeginsLong-taken (b ∷ line) (Some xs) (Some ys) h long t =
    let all = lines_longer b line ys h in
    (all.0, all.1, ap lines_of t ∙ all.2, omega (arith, long, all.3), subst (λ n. b ∷ line ≡ take n all.0) long (sym all.4))
