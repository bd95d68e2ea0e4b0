-- Counts of copies for each link, as copies come and go.
use Rattle.std.proofs.Common.{◌≡◌, ◌≢◌, ℕ, suc, ◌+◌, ◌<◌, ◌==◌, Bool, true, false, ◌||◌, not, List, [], ◌∷◌, ◌++◌, length, take, drop, replicate, get_or, if◌then◌else◌, None, Some, refl, sym, ap, ◌∙◌, inl, inr, arith}
use Rattle.std.proofs.lemmas.Bool.{cases_Bool, ne_eqb, eq-eqb}
use borrow.Author.Tests.{eqb-true}
use Rattle.std.proofs.lemmas.List.{get_or-replicate, length-replicate}
use Rattle.std.specs.List.{filter, remove}
use Rattle.slab.specs.Slab.{Slab}
use Rattle.sr_laws_plant.specs.Lists.{how_many}
use Rattle.sr_laws_plant.specs.ListLemmas.{count_append}
use Rattle.sr_plant.specs.declared.hop.Hop.{Hop}
use Rattle.sr_plant.specs.declared.flight.parcels.Kept.{Kept}
use Rattle.sr_plant.specs.declared.flight.copies.Flying.{Flying}
use Rattle.sr_plant.specs.Copies.{Copy, is_on}
use Rattle.sr_plant.specs.Flights.{copy_in, copies_in, goes_over, is_over, AreOnLinks, IsOneMore}
use Rattle.sr_plant.proofs.ListLemmas.{split_at}
use Rattle.sr_plant.proofs.FlightLemmas.{few_of}

-- the counts of a hop over one link, and over two
or_none : (b : Bool) → (b || false) ≡ b
or_none true = refl
or_none false = refl

or_same : (b : Bool) → (b || (b || false)) ≡ b
or_same true = refl
or_same false = refl

pub over_first : (h : Hop) (fewer more : List ℕ) → h.second ≡ None → IsOneMore (λ l. h.first == l) fewer more → IsOneMore (λ l. goes_over l h) fewer more
over_first h fewer more none one =
    record { len = one.len; each = λ l within. (rw (none, or_none (h.first == l)) (one.each l within)) }

pub over_same : (h : Hop) (second : ℕ) (fewer more : List ℕ) → h.second ≡ Some second → second ≡ h.first →
    IsOneMore (λ l. h.first == l) fewer more → IsOneMore (λ l. goes_over l h) fewer more
over_same h second fewer more is same one =
    record { len = one.len; each = λ l within. (rw (is, same, or_same (h.first == l)) (one.each l within)) }

-- one step and then the other, of which at most one counts
steps : (p q : Bool) (x y z : ℕ) → (p ≡ true → q ≡ true → ⊥) → y ≡ (if p then x + 1 else x) → z ≡ (if q then y + 1 else y) →
    (z ≡ (if p || (q || false) then x + 1 else x)) × (z ≡ (if q || (p || false) then x + 1 else x))
steps true true x y z apart e f = absurd (apart refl refl)
steps true false x y z apart e f = (f ∙ e, f ∙ e)
steps false true x y z apart e f = (omega (arith, e, f), omega (arith, e, f))
steps false false x y z apart e f = (f ∙ e, f ∙ e)

apart_at : (a b l : ℕ) → a ≢ b → (a == l) ≡ true → (b == l) ≡ true → ⊥
apart_at a b l other p q = other (eqb-true a l p ∙ sym (eqb-true b l q))

pub over_both : (h : Hop) (second : ℕ) (x y z : List ℕ) → h.second ≡ Some second → second ≢ h.first →
    IsOneMore (λ l. h.first == l) x y → IsOneMore (λ l. second == l) y z → IsOneMore (λ l. goes_over l h) x z
over_both h second x y z is other one two = record { len = two.len ∙ one.len; each = at }
  where
    at : (l : ℕ) → l < length x → get_or z l 0 ≡ (if goes_over l h then get_or x l 0 + 1 else get_or x l 0)
    at l within =
        rw is (steps (h.first == l) (second == l) (get_or x l 0) (get_or y l 0) (get_or z l 0)
        (apart_at h.first second l (λ e. other (sym e))) (one.each l within) (two.each l (omega (arith, within, one.len)))).0

pub over_both_back : (h : Hop) (second : ℕ) (x y z : List ℕ) → h.second ≡ Some second → second ≢ h.first →
    IsOneMore (λ l. second == l) x y → IsOneMore (λ l. h.first == l) y z → IsOneMore (λ l. goes_over l h) x z
over_both_back h second x y z is other one two = record { len = two.len ∙ one.len; each = at }
  where
    at : (l : ℕ) → l < length x → get_or z l 0 ≡ (if goes_over l h then get_or x l 0 + 1 else get_or x l 0)
    at l within =
        rw is (steps (second == l) (h.first == l) (get_or x l 0) (get_or y l 0) (get_or z l 0)
        (apart_at second h.first l other) (one.each l within) (two.each l (omega (arith, within, one.len)))).1

-- the links of a hop are those that it goes over
pub goes_over_first : (h : Hop) → goes_over h.first h ≡ true
goes_over_first h = rw (eq-eqb h.first h.first refl) refl

pub goes_over_second : (h : Hop) (second : ℕ) → h.second ≡ Some second → second ≢ h.first → goes_over second h ≡ true
goes_over_second h second is other = rw (is, ne_eqb h.first second (λ e. other (sym e)), eq-eqb second second refl) refl

-- what is counted on another link stays
pub beside : (a b : ℕ) (fewer more : List ℕ) → b ≢ a → IsOneMore (λ l. a == l) fewer more → b < length fewer → get_or more b 0 ≡ get_or fewer b 0
beside a b fewer more other one within = rw (ne_eqb a b (λ e. other (sym e))) at (one.each b within)

count_one : {X : Type 0} (p : X → Bool) (x : X) → p x ≡ true → how_many p (x ∷ []) ≡ 1
count_one p x is = rw is refl

count_none : {X : Type 0} (p : X → Bool) (x : X) → p x ≡ false → how_many p (x ∷ []) ≡ 0
count_none p x not = rw not refl

count_removed : {X : Type 0} (p : X → Bool) (xs : List X) (i : ℕ) (x : X) → i < length xs → x ≡ get_or xs i x →
    how_many p xs ≡ how_many p (remove xs i) + how_many p (x ∷ [])
count_removed p xs i x within here =
    let whole : how_many p xs ≡ how_many p (take i xs ++ x ∷ drop (suc i) xs) = ap (how_many p) (split_at xs i x within here) in
    let e = count_append p (take i xs) (x ∷ drop (suc i) xs) in
    let f = count_append p (take i xs) (drop (suc i) xs) in
    let g = count_append p (x ∷ []) (drop (suc i) xs) in
    omega (arith, whole, e, f, g)

-- no copies, and no count above 0
pub counted_none : (counts : List ℕ) (fs : List Flying) (links : ℕ) → counts ≡ replicate links 0 → fs ≡ [] → AreOnLinks counts fs
counted_none counts fs links zeros none link within =
    let inside : link < links = omega (arith, within, ap length zeros, length-replicate {A = ℕ} links 0) in
    rw (none, zeros) (sym (get_or-replicate {A = ℕ} links link 0 0 inside))

-- a copy more at the end
pub counted_more : (old new : List ℕ) (fs : List Flying) (f : Flying) → AreOnLinks old fs → IsOneMore (λ l. goes_over l f.hop) old new →
    AreOnLinks new (fs ++ f ∷ [])
counted_more old new fs f counted more link within =
    let inside : link < length old = omega (arith, within, more.len) in
    let before = counted link inside in
    let all = count_append (is_over link) fs (f ∷ []) in
    elim (cases_Bool (is_over link f)) [
      | inl is ↦ let m = rw is at (more.each link inside) in let one = count_one (is_over link) f is in omega (arith, before, all, m, one)
      | inr not ↦ let m = rw not at (more.each link inside) in let none = count_none (is_over link) f not in omega (arith, before, all, m, none)
    ]

-- a copy less
pub counted_less : (old new : List ℕ) (fs : List Flying) (i : ℕ) (f : Flying) → i < length fs → f ≡ get_or fs i f → AreOnLinks old fs →
    IsOneMore (λ l. goes_over l f.hop) new old → AreOnLinks new (remove fs i)
counted_less old new fs i f there here counted less link within =
    let inside : link < length old = omega (arith, within, less.len) in
    let before = counted link inside in
    let all = count_removed (is_over link) fs i f there here in
    elim (cases_Bool (is_over link f)) [
      | inl is ↦ let m = rw is at (less.each link within) in let one = count_one (is_over link) f is in omega (arith, before, all, m, one)
      | inr not ↦ let m = rw not at (less.each link within) in let none = count_none (is_over link) f not in omega (arith, before, all, m, none)
    ]

-- the first copy goes last
pub counted_turned : (counts : List ℕ) (fs : List Flying) (f : Flying) → AreOnLinks counts (f ∷ fs) → AreOnLinks counts (fs ++ f ∷ [])
counted_turned counts fs f counted link within =
    let before = counted link within in
    let e = count_append (is_over link) fs (f ∷ []) in
    let g = count_append (is_over link) (f ∷ []) fs in
    omega (arith, before, e, g)

-- a count of a link that a copy is on is not 0, and none is above the number of copies
pub some_on : (counts : List ℕ) (fs : List Flying) (i : ℕ) (f : Flying) (link : ℕ) → i < length fs → f ≡ get_or fs i f → AreOnLinks counts fs →
    link < length counts → is_over link f ≡ true → 0 < get_or counts link 0
some_on counts fs i f link there here counted within is =
    let before = counted link within in
    let all = count_removed (is_over link) fs i f there here in
    let one = count_one (is_over link) f is in
    omega (arith, before, all, one)

pub few_on : (counts : List ℕ) (fs : List Flying) (most link : ℕ) → AreOnLinks counts fs → length fs < most → link < length counts → get_or counts link 0 < most
few_on counts fs most link counted few within =
    let before = counted link within in
    let all = few_of (is_over link) fs in
    omega (arith, before, all, few)

-- of copies none of which is on a link a cut takes none
pub none_on : (kept : Slab Kept) (fs : List Flying) (link : ℕ) → how_many (is_over link) fs ≡ 0 →
    filter (λ c. not (is_on link c)) (copies_in kept fs) ≡ copies_in kept fs
none_on kept [] link none = refl
none_on kept (f ∷ fs) link none =
    elim (cases_Bool (is_over link f)) [
      | inl is ↦ let n = rw is at none in absurd (omega (arith, n))
      | inr not ↦
          let n : how_many (is_over link) fs ≡ 0 = rw not at none in
          rw not (ap (λ (cs : List Copy). copy_in kept f ∷ cs) (none_on kept fs link n))
    ]

pub counted_turn : (counts : List ℕ) (fs : List Flying) → AreOnLinks counts fs → AreOnLinks counts (drop 1 fs ++ take 1 fs)
counted_turn counts [] counted = counted
counted_turn counts (f ∷ fs) counted = counted_turned counts fs f counted
