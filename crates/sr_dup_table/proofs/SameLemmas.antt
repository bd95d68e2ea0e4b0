-- Tables of as many sources, of which one has all of the other's, know the same.
use Rattle.std.proofs.Common.{◌≡◌, ◌↔◌, ◌≤◌, Bool, true, false, cond, ◌||◌, [], ◌∷◌, length, Option, None, Some, is_some, refl, sym, ap, ◌∙◌, arith}
use Rattle.std.specs.Prelude.{IsSome}
use Rattle.std.specs.List.{IsDistinct, AllByRecursion, list_any}
use Rattle.std.specs.Map.{lookup, keys_of}
use Rattle.std.proofs.lemmas.Bool.{and_parts, and_from}
use Rattle.std.proofs.lemmas.Map.Made.{is_some-lookup, length-from_same_keys}
use Rattle.std.proofs.lemmas.Map.Entries.{length-keys_of}
use Rattle.std.proofs.lemmas.Map.Steps.{length-le_from_keys}
use Rattle.sr_frame.specs.declared.fields.Mac.{Mac}
use Rattle.sr_frame.specs.Addresses.{mac_eq}
use Rattle.sr_frame.specs.AddressLemmas.{mac_same, mac_refl, mac_laws}
use Rattle.sr_dup_table.specs.EqualityLemmas.{Decides-heard}
use Rattle.sr_dup_table.specs.Sources.{Remembered, Sources, Table, IsTable}
use Rattle.sr_dup_table.specs.Same.{AreSame, is_record, has_source, has_all}

is_record-there : (o : Option Remembered) (h : Remembered) → is_record o h ≡ true → o ≡ Some h
is_record-there None h e = cc
is_record-there (Some g) h e = ap Some ((Decides-heard g h).0 e)

there-is_record : (o : Option Remembered) (h : Remembered) → o ≡ Some h → is_record o h ≡ true
there-is_record None h e = cc
there-is_record (Some g) h e = let same : g ≡ h = cc in (Decides-heard g h).1 same

-- what stands in one stands in the other
all_there : (s t : Sources) → has_all t s ≡ true → (src : Mac) (h : Remembered) → lookup (mac_eq src) s ≡ Some h → lookup (mac_eq src) t ≡ Some h
all_there [] t all src h there = cc
all_there (e ∷ s) t all src h there = by (mac_eq src e.0) refl there parts.0 (λ here. all_there s t parts.1 src h here)
  where
    parts : (has_source t e ≡ true) × (has_all t s ≡ true)
    parts = and_parts (has_source t e) (has_all t s) all

    by : (b : Bool) → mac_eq src e.0 ≡ b → cond b (Some e.1) (lookup (mac_eq src) s) ≡ Some h → has_source t e ≡ true
        → (lookup (mac_eq src) s ≡ Some h → lookup (mac_eq src) t ≡ Some h) → lookup (mac_eq src) t ≡ Some h
    by true same here first rest =
        let value : e.1 ≡ h = cc in
        ap (λ m. lookup (mac_eq m) t) (mac_same src e.0 same) ∙ is_record-there (lookup (mac_eq e.0) t) e.1 first ∙ ap Some value
    by false other here first rest = rest here

-- an address that has no record is none of the addresses, and the other way round
pub apart_absent : (m : Mac) (es : Sources) → lookup (mac_eq m) es ≡ None → AllByRecursion (λ y. mac_eq m y ≡ false) (keys_of es)
apart_absent m [] h = tt
apart_absent m (e ∷ es) h = by (mac_eq m e.0) refl h (λ rest. apart_absent m es rest)
  where
    by : (b : Bool) → mac_eq m e.0 ≡ b → cond b (Some e.1) (lookup (mac_eq m) es) ≡ None
        → (lookup (mac_eq m) es ≡ None → AllByRecursion (λ y. mac_eq m y ≡ false) (keys_of es)) → AllByRecursion (λ y. mac_eq m y ≡ false) (keys_of (e ∷ es))
    by true same h rest = cc
    by false other h rest = (other, rest h)

pub absent_apart : (m : Mac) (es : Sources) → AllByRecursion (λ y. mac_eq m y ≡ false) (keys_of es) → lookup (mac_eq m) es ≡ None
absent_apart m [] h = refl
absent_apart m (e ∷ es) h = ap (λ b. cond b (Some e.1) (lookup (mac_eq m) es)) h.0 ∙ absent_apart m es h.1

some_there : (o : Option Remembered) (h : Remembered) → o ≡ Some h → IsSome o
some_there None h e = cc
some_there (Some g) h e = refl

-- an address that stands in one list alone would make it the longer one
absent_too : (s t : Sources) → IsDistinct mac_eq (keys_of s) → length t ≤ length s → has_all t s ≡ true
    → (src : Mac) → lookup (mac_eq src) s ≡ None → (o : Option Remembered) → lookup (mac_eq src) t ≡ o → o ≡ None
unfolding IsDistinct
absent_too s t unique few all src none None at = refl
absent_too s t unique few all src none (Some g) at = absurd (omega (arith, more, length-keys_of s))
  where
    distinct : IsDistinct mac_eq (src ∷ keys_of s)
    distinct = (apart_absent src s none, unique)

    in_list : (q : Mac) (o : Option Remembered) → lookup (mac_eq q) s ≡ o → is_some (lookup (mac_eq q) s) ≡ true → IsSome (lookup (mac_eq q) t)
    in_list q None p e = let bad : false ≡ true = sym (ap is_some p) ∙ e in cc
    in_list q (Some h) p e = some_there (lookup (mac_eq q) t) h (all_there s t all q h p)

    found : (q : Mac) (b : Bool) → mac_eq q src ≡ b → list_any (mac_eq q) (src ∷ keys_of s) ≡ true → IsSome (lookup (mac_eq q) t)
    found q true same any = some_there (lookup (mac_eq q) t) g (ap (λ m. lookup (mac_eq m) t) (mac_same q src same) ∙ at)
    found q false other any =
        in_list q (lookup (mac_eq q) s) refl (is_some-lookup (mac_eq q) s ∙ sym (ap (λ b. b || list_any (mac_eq q) (keys_of s)) other) ∙ any)

    more : length (src ∷ keys_of s) ≤ length t
    more = length-le_from_keys mac_laws (src ∷ keys_of s) t distinct (λ q. found q (mac_eq q src) refl)

pub same_from : (s t : Sources) → IsDistinct mac_eq (keys_of s) → length s ≡ length t → has_all t s ≡ true → AreSame s t
same_from s t unique many all src = by (lookup (mac_eq src) s) refl
  where
    by : (o : Option Remembered) → lookup (mac_eq src) s ≡ o → lookup (mac_eq src) s ≡ lookup (mac_eq src) t
    by None at = at ∙ sym (absent_too s t unique (omega arith) all src at (lookup (mac_eq src) t) refl)
    by (Some h) at = at ∙ sym (all_there s t all src h at)

-- what stands further on stands in the whole
pub there_later : (e : Mac × Remembered) (s : Sources) (src : Mac) (h : Remembered) → AllByRecursion (λ y. mac_eq e.0 y ≡ false) (keys_of s)
    → lookup (mac_eq src) s ≡ Some h → (b : Bool) → mac_eq src e.0 ≡ b → lookup (mac_eq src) (e ∷ s) ≡ Some h
there_later e s src h unique at true same =
    let bad : None ≡ Some h = sym (absent_apart e.0 s unique) ∙ ap (λ m. lookup (mac_eq m) s) (sym (mac_same src e.0 same)) ∙ at in cc
there_later e s src h unique at false apart = ap (λ b. cond b (Some e.1) (lookup (mac_eq src) s)) apart ∙ at

-- sources that all stand in another list are all there
stands_all : (s t : Sources) → IsDistinct mac_eq (keys_of s)
    → ((src : Mac) (h : Remembered) → lookup (mac_eq src) s ≡ Some h → lookup (mac_eq src) t ≡ Some h) → has_all t s ≡ true
unfolding IsDistinct
stands_all [] t unique there = refl
stands_all (e ∷ s) t unique there =
    and_from (has_source t e) (has_all t s)
    (there-is_record (lookup (mac_eq e.0) t) e.1 (there e.0 e.1 (ap (λ b. cond b (Some e.1) (lookup (mac_eq e.0) s)) (mac_refl e.0))))
    (stands_all s t unique.1 (λ src h at. there src h (there_later e s src h unique.0 at (mac_eq src e.0) refl)))

pub same_gives : (s t : Sources) → IsTable s → IsTable t → AreSame s t → (length s ≡ length t) × (has_all t s ≡ true)
same_gives s t one two same = (
  sym (length-keys_of s)
      ∙ length-from_same_keys mac_laws (keys_of s) (keys_of t) one.unique two.unique
      (λ q. sym (is_some-lookup (mac_eq q) s) ∙ ap is_some (same q) ∙ is_some-lookup (mac_eq q) t)
      ∙ length-keys_of t,
  stands_all s t one.unique (λ src h at. sym (same src) ∙ at),
)

-- two tables of one width know the same exactly where their sources do
pub same-tables : {a b t u : Table} {same : Bool} → a ≡ t → b ≡ u → a.width ≡ b.width → ((same ≡ true) ↔ AreSame a.sources b.sources)
    → (same ≡ true) ↔ ((t.width ≡ u.width) × AreSame t.sources u.sources)
same-tables one other width by = rw (← one, ← other) (λ e. (width, by.0 e), λ h. by.1 h.1)
