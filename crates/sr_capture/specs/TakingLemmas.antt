-- What a reader loses, step by step.
use Rattle.std.proofs.Common.{
  ◌≡◌,
  ℕ,
  ◌+◌,
  ◌<◌,
  List,
  [],
  ◌++◌,
  length,
  Option,
  Some,
  None,
  Bool,
  true,
  false,
  sym,
  ap,
  subst,
  refl,
  ◌∙◌,
  arith,
  append_assoc,
}
use Rattle.std.specs.Prelude.{IfSome}
use Rattle.std.specs.Io.KnownBytes.{Keeps, Consumes}
use Rattle.std.proofs.lemmas.List.{length-append, append-nil}
use Rattle.sr_capture.specs.Taking.{Loses, LosesBelow, LeavesNone, TakesAll, Gathers, Fills, FillsBelow}

pub loses_nothing : (a : Option (List ℕ)) → Loses [] a a
loses_nothing None = tt
loses_nothing (Some xs) = refl

-- what is kept is not lost
pub keeps_all : (a b : Option (List ℕ)) → Keeps a b → Loses [] a b
keeps_all None b kept = tt
keeps_all (Some x) None kept = absurd kept
keeps_all (Some x) (Some y) kept = sym kept

-- what was consumed was lost
pub loses_consumed : (bs : List ℕ) (a b : Option (List ℕ)) → Consumes a b bs → Loses bs a b
loses_consumed bs None b taken = tt
loses_consumed bs (Some x) None taken = absurd taken
loses_consumed bs (Some x) (Some y) taken = taken

-- nothing is shown: nothing is left
pub at_end : (a b : Option (List ℕ)) (shown : List ℕ) → Keeps a b → IfSome a (λ xs. length shown ≡ 0 → xs ≡ []) → length shown ≡ 0
    → Loses [] a b × LeavesNone a b
at_end None b shown kept end none = (tt, tt)
at_end (Some x) None shown kept end none = absurd kept
at_end (Some x) (Some y) shown kept end none = (sym kept, kept ∙ end none)

pub loses_more : (first more : List ℕ) (a b c : Option (List ℕ)) → Loses first a b → Loses more b c → Loses (first ++ more) a c
loses_more first more None b c l m = tt
loses_more first more (Some x) None c l m = absurd l
loses_more first more (Some x) (Some y) None l m = absurd m
loses_more first more (Some x) (Some y) (Some z) l m = l ∙ ap (λ (t : List ℕ). first ++ t) m ∙ sym (append_assoc first more z)

pub none_left : (first : List ℕ) (a b c : Option (List ℕ)) → Loses first a b → LeavesNone b c → LeavesNone a c
none_left first None b c l n = tt
none_left first (Some x) None c l n = absurd l
none_left first (Some x) (Some y) None l n = absurd n
none_left first (Some x) (Some y) (Some z) l n = n

-- nothing was taken yet
pub gathers_none : (held : List ℕ) (a : Option (List ℕ)) → Gathers held held a a
gathers_none held a = ([], sym (append-nil held), loses_nothing a)

-- more was taken
pub gathers_on : (held kept more : List ℕ) (a b c : Option (List ℕ)) → Gathers held kept a b
    → (bs : List ℕ) → more ≡ kept ++ bs → Loses bs b c → Gathers held more a c
gathers_on held kept more a b c g bs e m =
    (g.0 ++ bs, e ∙ ap (λ (l : List ℕ). l ++ bs) g.1 ∙ append_assoc held g.0 bs, loses_more g.0 bs a b c g.2 m)

-- the input ends
pub gathers_end : (count : ℕ) (held kept more : List ℕ) (a b c : Option (List ℕ)) → Gathers held kept a b → length kept < count
    → (bs : List ℕ) → more ≡ kept ++ bs → Loses bs b c → length bs ≡ 0 → LeavesNone b c → Fills false count held more a c
gathers_end count held kept more a b c g short bs e m none left =
    let same : length more ≡ length kept + length bs = ap length e ∙ length-append kept bs in
    (gathers_on held kept more a b c g bs e m, omega arith, none_left g.0 a b c g.2 left)

-- none was held
pub taken_is : (whole : Bool) (count : ℕ) (held kept : List ℕ) (a b : Option (List ℕ)) → held ≡ [] → Fills whole count held kept a b
    → TakesAll whole count kept a b
taken_is true count held kept a b none f =
    let same : kept ≡ f.0.0 = f.0.1 ∙ ap (λ (l : List ℕ). l ++ f.0.0) none in
    (subst (λ (l : List ℕ). Loses l a b) (sym same) f.0.2, f.1)
taken_is false count held kept a b none f =
    let same : kept ≡ f.0.0 = f.0.1 ∙ ap (λ (l : List ℕ). l ++ f.0.0) none in
    (subst (λ (l : List ℕ). Loses l a b) (sym same) f.0.2, f.1, f.2)

pub below_is : (count : ℕ) (held kept : List ℕ) (a b : Option (List ℕ)) → held ≡ [] → FillsBelow count held kept a b
    → LosesBelow count kept a b
below_is count held kept a b none f =
    let same : kept ≡ f.0.0 = f.0.1 ∙ ap (λ (l : List ℕ). l ++ f.0.0) none in
    (subst (λ (l : List ℕ). Loses l a b) (sym same) f.0.2, f.1)

-- octets of this length were lost
abbrev pub LosesSome : ℕ → Option (List ℕ) → Option (List ℕ) → Type 0
LosesSome n a b = (bs : List ℕ) × (length bs ≡ n) × Loses bs a b

pub skips_on : (n m : ℕ) (a b c : Option (List ℕ)) → LosesSome n a b → LosesSome m b c → LosesSome (n + m) a c
skips_on n m a b c l k = (l.0 ++ k.0, omega (arith, length-append l.0 k.0, l.1, k.1), loses_more l.0 k.0 a b c l.2 k.2)

pub skips_end : (n : ℕ) (a b c : Option (List ℕ)) → LosesSome n a b → LosesSome 0 b c → LeavesNone b c → LosesSome n a c × LeavesNone a c
skips_end n a b c l k none =
    let all : LosesSome (n + 0) a c = skips_on n 0 a b c l k in
    ((all.0, omega (arith, all.1), all.2), none_left l.0 a b c l.2 none)

-- nothing more was lost
pub loses_no_more : (first : List ℕ) (a b c : Option (List ℕ)) → Loses first a b → Loses [] b c → Loses first a c
loses_no_more first a b c l m = subst (λ (t : List ℕ). Loses t a c) (append-nil first) (loses_more first [] a b c l m)
