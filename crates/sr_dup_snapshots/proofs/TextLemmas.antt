-- What a text says of the tables of which it is the snapshot.
use Rattle.std.proofs.Common.{◌≡◌, ℕ, ◌*◌, ◌%◌, ◌<◌, ◌≤◌, ◌^◌, true, false, eqb, eqb-true, eq-eqb, take, drop, None, List, ◌++◌, length, arith, refl, sym, ap, subst, ◌∙◌}
use Rattle.std.specs.List.{flat_map, AllByRecursion}
use Rattle.std.specs.Map.{lookup, keys_of}
use Rattle.std.specs.Cmp.Lexicographic.{pointwise}
use lib.Pointwise.{pointwise_decides}
use Rattle.std.specs.Int.{w16, to_be_bytes}
use Rattle.std.proofs.lemmas.List.{append_assoc, take_at, drop_at, length-append, take-append-drop}
use Rattle.sr_frame.specs.Addresses.{mac_eq}
use Rattle.sr_frame.specs.FrameLemmas.{same_parts, number_once, number_and_rest}
use Rattle.sr_dup_table.specs.declared.width.Width.{Width}
use Rattle.sr_dup_table.specs.declared.width.Width.TheVariants.{Narrow, Wide}
use Rattle.sr_dup_table.specs.Widths.{numbers_in}
use Rattle.sr_dup_table.specs.Sources.{Sources}
use Rattle.sr_dup_table.specs.Same.{AreSame}
use Rattle.sr_dup_snapshots.specs.Snapshots.{head, source_len, source_octets, IsSource, IsSnapshot}
use Rattle.sr_dup_snapshots.specs.Reading.{sources_in, are_in_order, IsText}
use Rattle.sr_dup_snapshots.proofs.SpellLemmas.{AreOctets, octets-drop, all-read, all-spelled, all-count, sources-count}
use Rattle.sr_dup_snapshots.proofs.ReadLemmas.{all-after-none, order-from-sorted, sorted-from-order, are-sources}

-- each width has whole octets of numbers
pub eights : (width : Width) → numbers_in width % 8 ≡ 0
eights Narrow = refl
eights Wide = refl

pub some-numbers : (width : Width) → 0 < numbers_in width
some-numbers Narrow = omega arith
some-numbers Wide = omega arith

-- the versions tell the widths
pub one-width : (v w : Width) (xs ys : List ℕ) → head (numbers_in v) ++ xs ≡ head (numbers_in w) ++ ys → (v ≡ w) × (xs ≡ ys)
one-width v w xs ys e =
    let both = same_parts (head (numbers_in v)) (head (numbers_in w)) xs ys refl e in
    (by v w both.0, both.1)
  where
    by : (v w : Width) → head (numbers_in v) ≡ head (numbers_in w) → v ≡ w
    by Narrow Narrow e = refl
    by Narrow Wide e = cc
    by Wide Narrow e = cc
    by Wide Wide e = refl

-- what stands behind the head of a text that is the snapshot of a table
pub behind-head : (w : ℕ) (octets : List ℕ) (s : Sources) → (is : IsSnapshot w octets s)
    → octets ≡ head w ++ (to_be_bytes w16 (length is.ordered) ++ flat_map (source_octets w) is.ordered)
behind-head w octets s is = is.spelled ∙ append_assoc (head w) (to_be_bytes w16 (length is.ordered)) (flat_map (source_octets w) is.ordered)

-- a snapshot is such a text
pub is-text : (w : ℕ) (octets : List ℕ) (s : Sources) → (is : IsSnapshot w octets s) → IsText w octets (length is.ordered) (flat_map (source_octets w) is.ordered)
is-text w octets s is = record { spelled = is.spelled; size = all-count w is.ordered is.each; few = is.few }

-- number and sources of a text
pub text-once : (w : ℕ) (octets : List ℕ) (m n : ℕ) (xs ys : List ℕ) → IsText w octets m xs → IsText w octets n ys → (m ≡ n) × (xs ≡ ys)
text-once w octets m n xs ys one two =
    let whole : (head w ++ to_be_bytes w16 m) ++ xs ≡ (head w ++ to_be_bytes w16 n) ++ ys = sym one.spelled ∙ two.spelled in
    let both = same_parts (head w ++ to_be_bytes w16 m) (head w ++ to_be_bytes w16 n) xs ys refl whole in
    let numbers = same_parts (head w) (head w) (to_be_bytes w16 m) (to_be_bytes w16 n) refl both.0 in
    (number_once m n (omega (arith, one.few)) (omega (arith, two.few)) numbers.1, both.1)

-- so they are the sources that are read there
pub only-sources : (w : ℕ) → w % 8 ≡ 0 → (octets : List ℕ) (count : ℕ) (rest : List ℕ) (s : Sources) → IsText w octets count rest
    → (is : IsSnapshot w octets s) → sources_in w count rest ≡ is.ordered
only-sources w eights octets count rest s text is =
    let parts = text-once w octets count (length is.ordered) rest (flat_map (source_octets w) is.ordered) text (is-text w octets s is) in
    (λ i. sources_in w (parts.0 i) (parts.1 i)) ∙ all-read w eights is.ordered is.each

pub only-order : (w : ℕ) → w % 8 ≡ 0 → (octets : List ℕ) (s t : Sources) → IsSnapshot w octets s → IsSnapshot w octets t → AreSame s t
only-order w eights octets s t one two src =
    let same : one.ordered ≡ two.ordered =
    sym (only-sources w eights octets (length one.ordered) (flat_map (source_octets w) one.ordered) s (is-text w octets s one) one)
    ∙ only-sources w eights octets (length one.ordered) (flat_map (source_octets w) one.ordered) t (is-text w octets s one) two in
    one.same src ∙ ap (lookup (mac_eq src)) same ∙ sym (two.same src)

-- so these are in order
pub only-in-order : (w : ℕ) → w % 8 ≡ 0 → (octets : List ℕ) (count : ℕ) (rest : List ℕ) (s : Sources) → IsText w octets count rest
    → IsSnapshot w octets s → are_in_order None (sources_in w count rest) ≡ true
only-in-order w eights octets count rest s text is =
    ap (are_in_order None) (only-sources w eights octets count rest s text is)
    ∙ order-from-sorted w None is.ordered is.ascending (all-after-none (keys_of is.ordered)) is.each

-- a text of which the sources are in order is their snapshot
found-in-order : (w : ℕ) (octets : List ℕ) (count : ℕ) (rest : List ℕ) → IsText w octets count rest
    → AreOctets rest → are_in_order None (sources_in w count rest) ≡ true → IsSnapshot w octets (sources_in w count rest)
found-in-order w octets count rest text all order =
    let facts = sorted-from-order None (sources_in w count rest) order in
    let many = sources-count w count rest in
    record {
      ordered = sources_in w count rest;
      same = λ src. refl;
      ascending = facts.0;
      few = omega (arith, many, text.few);
      each = are-sources w count rest text.size all facts.2;
      spelled = text.spelled ∙ (λ i. head w ++ to_be_bytes w16 (sym many i) ++ sym (all-spelled w count rest text.size all) i);
    }

pub found-text : (w : ℕ) (octets : List ℕ) (count : ℕ) (rest : List ℕ) → IsText w octets count rest
    → AreOctets octets → are_in_order None (sources_in w count rest) ≡ true → IsSnapshot w octets (sources_in w count rest)
found-text w octets count rest text all =
    found-in-order w octets count rest text
    (subst AreOctets (ap (drop 7) text.spelled ∙ drop_at (head w ++ to_be_bytes w16 count) rest 7 refl) (octets-drop 7 octets all))

-- whose records are whole
pub text-sources : (w : ℕ) (octets : List ℕ) (count : ℕ) (rest : List ℕ) → IsText w octets count rest
    → AreOctets octets → are_in_order None (sources_in w count rest) ≡ true → AllByRecursion (IsSource w) (sources_in w count rest)
text-sources w octets count rest text all order =
    are-sources w count rest text.size
    (subst AreOctets (ap (drop 7) text.spelled ∙ drop_at (head w ++ to_be_bytes w16 count) rest 7 refl) (octets-drop 7 octets all))
    (sorted-from-order None (sources_in w count rest) order).2

-- octets that begin with those of another list
same_octets : (x y : ℕ) → (eqb x y ≡ true → x ≡ y) × (x ≡ y → eqb x y ≡ true)
same_octets x y = (λ h. eqb-true x y h, λ h. eq-eqb x y h)

pub right-head : (w : ℕ) (octets rest : List ℕ) → octets ≡ head w ++ rest → pointwise eqb (take 5 octets) (head w) ≡ true
right-head w octets rest e =
    (pointwise_decides same_octets (take 5 octets) (head w)).1 (ap (take 5) e ∙ take_at (head w) rest 5 refl)

pub head-and-rest : (w : ℕ) (octets rest : List ℕ) → pointwise eqb (take 5 octets) (head w) ≡ true → rest ≡ drop 5 octets → octets ≡ head w ++ rest
head-and-rest w octets rest first behind =
    sym (take-append-drop 5 octets) ∙ (λ i. (pointwise_decides same_octets (take 5 octets) (head w)).0 first i ++ sym behind i)

-- a text with a right head is the snapshot of tables of that width alone
pub right-width : (v w : Width) (octets rest : List ℕ) (s : Sources) → octets ≡ head (numbers_in v) ++ rest → (is : IsSnapshot (numbers_in w) octets s)
    → (v ≡ w) × (rest ≡ to_be_bytes w16 (length is.ordered) ++ flat_map (source_octets (numbers_in w)) is.ordered)
right-width v w octets rest s e is =
    one-width v w rest (to_be_bytes w16 (length is.ordered) ++ flat_map (source_octets (numbers_in w)) is.ordered) (sym e ∙ behind-head (numbers_in w) octets s is)

pub has-number : (v w : Width) (octets rest : List ℕ) (s : Sources) → octets ≡ head (numbers_in v) ++ rest → IsSnapshot (numbers_in w) octets s → 2 ≤ length rest
has-number v w octets rest s e is =
    omega (arith, ap length (right-width v w octets rest s e is).1, length-append (to_be_bytes w16 (length is.ordered)) (flat_map (source_octets (numbers_in w)) is.ordered))

pub right-size : (v w : Width) (octets rest : List ℕ) (s : Sources) (count : ℕ) (sources : List ℕ) → octets ≡ head (numbers_in v) ++ rest
    → rest ≡ to_be_bytes w16 count ++ sources → count < 2 ^ 16 → IsSnapshot (numbers_in w) octets s
    → (count ≤ 1024) × (length sources ≡ source_len (numbers_in v) * count)
right-size v w octets rest s count sources e parts small is =
    let n = length is.ordered in
    let right = right-width v w octets rest s e is in
    let both = number_and_rest n count (flat_map (source_octets (numbers_in w)) is.ordered) sources (omega (arith, is.few)) small (sym right.1 ∙ parts) in (
      omega (arith, is.few, both.0),
      ap length (sym both.1) ∙ all-count (numbers_in w) is.ordered is.each
          ∙ (λ i. source_len (numbers_in (sym right.0 i)) * both.0 i),
    )

-- octets that begin with the head of neither version are no snapshot
pub no-head : (octets : List ℕ) → pointwise eqb (take 5 octets) (head 1024) ≡ false → pointwise eqb (take 5 octets) (head 2048) ≡ false
    → (width : Width) (rest : List ℕ) → octets ≡ head (numbers_in width) ++ rest → ⊥
no-head octets narrow wide Narrow rest e = let bad : true ≡ false = sym (right-head 1024 octets rest e) ∙ narrow in absurd cc
no-head octets narrow wide Wide rest e = let bad : true ≡ false = sym (right-head 2048 octets rest e) ∙ wide in absurd cc

-- a text of which the sources are in order is the snapshot of some table
pub some-table : (width : Width) (octets : List ℕ) (count : ℕ) (rest : List ℕ) → IsText (numbers_in width) octets count rest → AreOctets octets
    → are_in_order None (sources_in (numbers_in width) count rest) ≡ true
    → ((written : Width) (s : Sources) → IsSnapshot (numbers_in written) octets s → ⊥) → ⊥
some-table width octets count rest text all order none =
    none width (sources_in (numbers_in width) count rest) (found-text (numbers_in width) octets count rest text all order)

-- a text of which they are not is that of none
pub no-table : (v : Width) (octets : List ℕ) (count : ℕ) (rest : List ℕ) → IsText (numbers_in v) octets count rest
    → are_in_order None (sources_in (numbers_in v) count rest) ≡ false
    → (written : Width) (s : Sources) → IsSnapshot (numbers_in written) octets s → ⊥
no-table v octets count rest text apart written s is =
    let same : v ≡ written = (one-width v written _ _ (sym (text.spelled ∙ append_assoc (head (numbers_in v)) (to_be_bytes w16 count) rest) ∙ behind-head (numbers_in written) octets s is)).0 in
    let order = only-in-order (numbers_in v) (eights v) octets count rest s text (subst (λ x. IsSnapshot (numbers_in x) octets s) (sym same) is) in
    let bad : true ≡ false = sym order ∙ apart in absurd cc
