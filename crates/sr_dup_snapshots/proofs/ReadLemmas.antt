-- Sources that are read one behind the other: in order, and each as it stands in a table.
use Rattle.std.proofs.Common.{◌≡◌, ℕ, zero, suc, ◌+◌, ◌-◌, ◌*◌, ◌^◌, ◌<◌, ◌≤◌, true, false, cond, ltb, ◌&&◌, not, List, [], ◌∷◌, ◌++◌, length, get_or, take, drop, Option, None, Some, arith, refl, sym, ap, ◌∙◌}
use Rattle.std.specs.Int.{w16, w64, from_be_bytes}
use Rattle.std.specs.List.{AllByRecursion}
use Rattle.std.specs.List.Sorted.{IsStrictlySortedBy}
use Rattle.std.specs.Map.{lookup, keys_of}
use Rattle.std.specs.Ordering.{is_lt, is_eq}
use Rattle.std.specs.declared.cmp.Ordering.{Ordering}
use Rattle.std.specs.declared.cmp.Ordering.TheVariants.{Less, Equal, Greater}
use Rattle.std.proofs.lemmas.Bool.{and_parts, not-true, cond-true, lt-ltb}
use Rattle.std.proofs.lemmas.List.{length-take-le, length-drop}
use Rattle.sr_frame.specs.declared.fields.Mac.{Mac}
use Rattle.sr_frame.specs.Addresses.{mac_eq}
use Rattle.sr_slots.specs.EntryLemmas.{lookup-push}
use Rattle.sr_dup_window.specs.declared.lane_sets.Lanes.{Lanes}
use Rattle.sr_dup_window.specs.LaneSets.{known, none, is_empty}
use Rattle.sr_dup_window.specs.LaneLemmas.{known-lanes_where}
use Rattle.sr_dup_table.specs.Sources.{Remembered, Sources, with_room, live_at}
use Rattle.sr_dup_snapshots.specs.Snapshots.{mac_order, source_len, IsSource}
use Rattle.sr_dup_snapshots.specs.Reading.{is_set, lanes_noted, marks_in, lanes_in, source_in, sources_in, is_after, follows, are_in_order, source_cut, recut}
use Rattle.sr_dup_snapshots.proofs.OrderLemmas.{mac_total, ties}
use Rattle.sr_dup_snapshots.proofs.SpellLemmas.{AreOctets, octets-take, octets-drop, marks-count, marks-at, size-more}

less : (o : Ordering) → is_lt o ≡ true → o ≡ Less
less Less h = refl
less Equal h = cc
less Greater h = cc

-- what comes after a later address comes after an earlier one
after-more : (last : Option Mac) (m q : Mac) → is_after last m ≡ true → is_after (Some m) q ≡ true → is_after last q ≡ true
after-more None m q early late = refl
after-more (Some l) m q early late = ap is_lt (mac_total.trans l m q (less (mac_order l m) early) (less (mac_order m q) late))

-- addresses after the last one stand at none of the sources
abbrev pub AllBefore : Option Mac → Sources → Type 0
AllBefore last s = (q : Mac) → is_after last q ≡ true → lookup (mac_eq q) s ≡ None

pub before-more : (last : Option Mac) (e : Mac × Remembered) (s : Sources) → AllBefore last s → is_after last e.0 ≡ true → AllBefore (Some e.0) (s ++ e ∷ [])
before-more last e s all after q late =
    let other : mac_eq e.0 q ≡ false = ties e.0 q ∙ ap is_eq (less (mac_order e.0 q) late) in
    lookup-push e.0 q e.1 s (all e.0 after)
    ∙ ap (λ b. cond b (Some e.1) (lookup (mac_eq q) s)) other
    ∙ all q (after-more last e.0 q after late)

-- the first of several sources, and the others
pub one-more : (w : ℕ) (count : ℕ) (octets : List ℕ) → 0 < count
    → sources_in w count octets ≡ source_in w (take (source_len w) octets) ∷ sources_in w (count - 1) (drop (source_len w) octets)
unfolding sources_in
one-more w zero octets h = absurd (omega arith)
one-more w (suc count) octets h = ap (λ n. source_in w (take (source_len w) octets) ∷ sources_in w n (drop (source_len w) octets)) (same count)
  where
    same : (n : ℕ) → n ≡ suc n - 1
    same n = omega arith

pub none-left : (w : ℕ) (octets : List ℕ) → sources_in w 0 octets ≡ []
unfolding sources_in
none-left w octets = refl

-- the octets that are left when one source is read
pub left-more : (len count place size : ℕ) → place < count → size ≡ len * (count - place)
    → (len ≤ size) × ((next : ℕ) → next + len ≡ size → next ≡ len * (count - (place + 1)))
left-more len count place size less whole =
    let is : count - place ≡ suc (count - (place + 1)) = omega arith in
    let more = size-more len (count - (place + 1)) size (whole ∙ ap (λ n. len * n) is) in
    (more.0, λ next e. let rest : next ≡ size - len = omega arith in rest ∙ more.1)

pub order-more : (last : Option Mac) (e : Mac × Remembered) (s : Sources) → are_in_order last (e ∷ s) ≡ (follows last e && are_in_order (Some e.0) s)
unfolding are_in_order
order-more last e s = refl

pub order-none : (last : Option Mac) → are_in_order last [] ≡ true
unfolding are_in_order
order-none last = refl

-- sources in order ascend, and each has its greatest number on some lane
abbrev pub HasGreatest : Mac × Remembered → Type 0
HasGreatest e = is_empty (get_or e.1.seen.marks 0 none) ≡ false

all-less : (m : Mac) (ks : List Mac) → AllByRecursion (λ y. is_after (Some m) y ≡ true) ks → AllByRecursion (λ y. mac_order m y ≡ Less) ks
all-less m [] all = tt
all-less m (k ∷ ks) all = (less (mac_order m k) all.0, all-less m ks all.1)

all-after : (m : Mac) (ks : List Mac) → AllByRecursion (λ y. mac_order m y ≡ Less) ks → AllByRecursion (λ y. is_after (Some m) y ≡ true) ks
all-after m [] all = tt
all-after m (k ∷ ks) all = (ap is_lt all.0, all-after m ks all.1)

all-later : (last : Option Mac) (m : Mac) (ks : List Mac) → is_after last m ≡ true → AllByRecursion (λ y. is_after (Some m) y ≡ true) ks → AllByRecursion (λ y. is_after last y ≡ true) ks
all-later last m [] early all = tt
all-later last m (k ∷ ks) early all = (after-more last m k early all.0, all-later last m ks early all.1)

pub all-after-none : (ks : List Mac) → AllByRecursion (λ y. is_after None y ≡ true) ks
all-after-none [] = tt
all-after-none (k ∷ ks) = (refl, all-after-none ks)

pub sorted-from-order : (last : Option Mac) (s : Sources) → are_in_order last s ≡ true
    → IsStrictlySortedBy mac_order (keys_of s) × AllByRecursion (λ y. is_after last y ≡ true) (keys_of s) × AllByRecursion HasGreatest s
unfolding are_in_order IsStrictlySortedBy
sorted-from-order last [] order = (tt, tt, tt)
sorted-from-order last (e ∷ s) order =
    let parts = and_parts (follows last e) (are_in_order (Some e.0) s) order in
    let first = and_parts (is_after last e.0) (not (is_empty (get_or e.1.seen.marks 0 none))) parts.0 in
    let rest = sorted-from-order (Some e.0) s parts.1 in
    ((all-less e.0 (keys_of s) rest.1, rest.0), (first.0, all-later last e.0 (keys_of s) first.0 rest.1), (not-true (is_empty (get_or e.1.seen.marks 0 none)) first.1, rest.2))

pub order-from-sorted : (w : ℕ) (last : Option Mac) (s : Sources) → IsStrictlySortedBy mac_order (keys_of s) → AllByRecursion (λ y. is_after last y ≡ true) (keys_of s)
    → AllByRecursion (IsSource w) s → are_in_order last s ≡ true
unfolding are_in_order IsStrictlySortedBy
order-from-sorted w last [] up after each = refl
order-from-sorted w last (e ∷ s) up after each =
    λ i. (after.0 i && not (each.0.whole.some i)) && order-from-sorted w (Some e.0) s up.1 (all-after e.0 (keys_of s) up.0) each.1 i

-- what is read there stands so in a table
pub from-two : (bs : List ℕ) → AreOctets bs → from_be_bytes w16 bs < 65536
from-two bs all = omega (arith, all 0, all 1)

from-eight : (bs : List ℕ) → AreOctets bs → from_be_bytes w64 bs < 2 ^ 64
from-eight bs all = omega (arith, all 0, all 1, all 2, all 3, all 4, all 5, all 6, all 7)

is-source : (w : ℕ) (c : List ℕ) → length c ≡ source_len w → AreOctets c → HasGreatest (source_in w c) → IsSource w (source_in w c)
is-source w c count all some = record {
  address = length-take-le 6 c (omega (arith, count));
  time = from-eight (take 8 (drop 6 c)) (octets-take 8 (drop 6 c) (octets-drop 6 c all));
  whole = record {
    count = marks-count w (lanes_in c);
    carried = from-two (take 2 (drop 8 (drop 6 c))) (octets-take 2 (drop 8 (drop 6 c)) (octets-drop 8 (drop 6 c) (octets-drop 6 c all)));
    some = some;
    plain = λ k h. ap known (marks-at w (lanes_in c) k h) ∙ known-lanes_where (is_set w (lanes_in c) k) ∙ sym (marks-at w (lanes_in c) k h);
  };
}

pub are-sources : (w : ℕ) (count : ℕ) (octets : List ℕ) → length octets ≡ source_len w * count → AreOctets octets → AllByRecursion HasGreatest (sources_in w count octets)
    → AllByRecursion (IsSource w) (sources_in w count octets)
unfolding sources_in
are-sources w zero octets whole all some = tt
are-sources w (suc count) octets whole all some =
    let len = source_len w in
    let more = size-more len count (length octets) whole in (
      is-source w (take len octets) (length-take-le len octets more.0) (octets-take len octets all) some.0,
      are-sources w count (drop len octets) (length-drop len octets ∙ more.1) (octets-drop len octets all) some.1,
    )

-- a table with room stays as it is
pub roomy : (now : ℕ) (s : Sources) → length s < 1024 → with_room now s ≡ s
roomy now s h = cond-true (ltb (length s) 1024) s (live_at now s) (lt-ltb (length s) 1024 h)

-- a source follows by its address and by the lanes of its greatest number
pub follows-parts : (last : Option Mac) (e : Mac × Remembered) → follows last e ≡ true → (is_after last e.0 ≡ true) × (follows None e ≡ true)
follows-parts last e h = and_parts (is_after last e.0) (not (is_empty (get_or e.1.seen.marks 0 none))) h

-- whether a source can follow, by its address and the lanes of its greatest number
pub follows-by : (w : ℕ) → 0 < w → (last : Option Mac) (source lanes : List ℕ) (src : Mac) (noted : Lanes) → src ≡ record { 0 = take 6 source }
    → lanes ≡ lanes_in source → noted ≡ lanes_noted w lanes 0 → (is_after last src && not (is_empty noted)) ≡ follows last (source_in w source)
follows-by w some last source lanes src noted at behind is =
    let first : noted ≡ get_or (marks_in w (lanes_in source)) 0 none = is ∙ ap (λ l. lanes_noted w l 0) behind ∙ sym (marks-at w (lanes_in source) 0 some) in
    λ i. is_after last (at i) && not (is_empty (first i))

-- the lanes of the greatest number of a source that can follow
pub some-lanes : (w : ℕ) → 0 < w → (source lanes : List ℕ) → lanes ≡ lanes_in source → follows None (source_in w source) ≡ true → is_empty (lanes_noted w lanes 0) ≡ false
some-lanes w some source lanes behind follows_on =
    ap is_empty (ap (λ l. lanes_noted w l 0) behind ∙ sym (marks-at w (lanes_in source) 0 some))
    ∙ not-true (is_empty (get_or (marks_in w (lanes_in source)) 0 none)) follows_on

-- several sources are in order where the first can follow and the others are in order behind it
pub order-next : (w : ℕ) (last : Option Mac) (count next : ℕ) (octets : List ℕ) → count ≡ suc next → are_in_order last (sources_in w count octets)
    ≡ (follows last (source_in w (take (source_len w) octets)) && are_in_order (Some (source_in w (take (source_len w) octets)).0) (sources_in w next (drop (source_len w) octets)))
order-next w last count next octets more =
    let less : count - 1 ≡ next = omega arith in
    ap (are_in_order last) (one-more w count octets (omega arith) ∙ ap (λ n. source_in w (take (source_len w) octets) ∷ sources_in w n (drop (source_len w) octets)) less)
    ∙ order-more last (source_in w (take (source_len w) octets)) (sources_in w next (drop (source_len w) octets))

-- a table of several sources, the next of which can follow
pub CanGoOn : ℕ → ℕ → List ℕ → Sources → Type 0
CanGoOn w count octets s = (last : Option Mac) × AllBefore last s × (are_in_order last (sources_in w count octets) ≡ true)

pub can-begin : (w count : ℕ) (octets : List ℕ) (s : Sources) → s ≡ [] → are_in_order None (sources_in w count octets) ≡ true → CanGoOn w count octets s
unfolding CanGoOn
can-begin w count octets s empty order = (None, (λ q after. ap (lookup (mac_eq q)) empty), order)

pub go-on : (w count next : ℕ) (octets : List ℕ) (s : Sources) → count ≡ suc next → CanGoOn w count octets s
    → (follows None (source_in w (take (source_len w) octets)) ≡ true)
    × (lookup (mac_eq (source_in w (take (source_len w) octets)).0) s ≡ None)
    × ((v : ℕ) → CanGoOn w next (drop (source_len w) octets) (s ++ source_cut v (source_in w (take (source_len w) octets)) ∷ []))
unfolding CanGoOn
go-on w count next octets s more can =
    let e = source_in w (take (source_len w) octets) in
    let both = and_parts (follows can.0 e) (are_in_order (Some e.0) (sources_in w next (drop (source_len w) octets))) (sym (order-next w can.0 count next octets more) ∙ can.2) in
    let parts = follows-parts can.0 e both.0 in
    (parts.1, can.1 e.0 parts.0, λ v. (Some e.0, before-more can.0 (source_cut v e) s can.1 parts.0, both.1))

-- the sources behind one
pub recut-next : (w v count next : ℕ) (octets : List ℕ) → count ≡ suc next
    → recut v (sources_in w count octets) ≡ source_cut v (source_in w (take (source_len w) octets)) ∷ recut v (sources_in w next (drop (source_len w) octets))
recut-next w v count next octets more =
    let less : count - 1 ≡ next = omega arith in
    ap (recut v) (one-more w count octets (omega arith) ∙ ap (λ n. source_in w (take (source_len w) octets) ∷ sources_in w n (drop (source_len w) octets)) less)
