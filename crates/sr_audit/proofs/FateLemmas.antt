-- What is kept of the last numbers of a stretch, with one copy more.
use Rattle.std.proofs.Common.{◌≡◌, ℕ, ◌+◌, ◌-◌, ◌*◌, ◌%◌, ◌<◌, ◌≤◌, Bool, true, false, ◌||◌, List, [], ◌∷◌, ℤ, pos, arith, refl, sym, ap, ◌∙◌, subst, inl, inr}
use Rattle.std.specs.Prelude.{min, max, slice_index_or, ◌+ℤ◌, ◌-ℤ◌, ◌<ℤ◌, ◌≤ℤ◌, int_lt}
use Rattle.std.specs.Ordering.{int_eq}
use Rattle.std.proofs.lemmas.Bool.{cases_Bool, cases_lt}
use Rattle.std.proofs.lemmas.Bool.Decides.{Decides-int_eq}
use Rattle.std.proofs.lemmas.Int.{ints}
use Rattle.std.proofs.lemmas.List.{get_or-set_same}
use borrow.Author.Differences.{up, down}
use Rattle.sr_sequence.specs.Numbers.{wire}
use Rattle.sr_audit.specs.declared.listing.Copied.{Copied}
use Rattle.sr_audit.specs.declared.listing.Listed.{Listed}
use Rattle.sr_audit.specs.declared.pending.Fate.{Fate}
use Rattle.sr_audit.specs.declared.pending.Fate.TheVariants.{Settled}
use Rattle.sr_audit.specs.declared.pending.Pending.{Pending}
use Rattle.sr_audit.specs.declared.side.Side.{Side}
use Rattle.sr_audit.specs.declared.side.Side.TheVariants.{A, B}
use Rattle.sr_audit.specs.declared.tally.Came.{Came}
use Rattle.sr_audit.specs.Counting.{has_come, came_before_at}
use Rattle.sr_audit.specs.Extents.{lesser, bottom_number, size_of}
use Rattle.sr_audit.specs.Fates.{fate_if, fate_of, TellsFates, KeepsFates}
use Rattle.sr_audit.specs.Limits.{kept_numbers, place_in}
use Rattle.sr_audit.specs.Listings.{fate_kept, fate_by, steps_before, steps_behind, KeepsPlaces, PutsFate, SettlesNumber, PassesAhead, PassesOver, TakesCopyIf, TakesCopy}
use Rattle.sr_audit.specs.Looks.{came_by, by_neither}
use Rattle.sr_audit.specs.Stretches.{Placed, copy_as, same_side, came, top_number, stretch_begun}
use Rattle.sr_audit.proofs.EdgeLemmas.{came_below, same_place}
use Rattle.sr_audit.proofs.ExtentLemmas.{greater_ahead, greater_behind, lesser_ahead, lesser_down}
use Rattle.sr_audit.proofs.FrameLemmas.{came-other, came-same}
use Rattle.sr_audit.proofs.ListingLemmas.{puts_other, settles_other}
use Rattle.sr_audit.proofs.RowLemmas.{not_below, depth_is, size_is, wire_up}

-- what is written down of a number
puts_own : (n time packet : ℕ) (fate : Fate) (old new : Pending) → KeepsPlaces old → PutsFate n fate time packet old new →
    fate_kept new n ≡ fate
puts_own n time packet fate old new room puts =
    rw puts.fates (get_or-set_same old.fates.items (place_in n) fate Settled (omega (arith, room.fates)))

settles_own : (n : ℕ) (old new : Pending) → KeepsPlaces old → SettlesNumber n old new → fate_kept new n ≡ Settled
settles_own n old new room settles =
    rw settles.fates (get_or-set_same old.fates.items (place_in n) Settled Settled (omega (arith, room.fates)))

-- a copy that is taken: what becomes of its number, and what is kept of the others
takes_own : (a b low later : Bool) (x : Copied) (old new : Pending) (before after : List Listed) → KeepsPlaces old →
    TakesCopy (record { a = a; b = b }) x old new before after → fate_kept old x.arrival.seq.0 ≡ fate_if a b low →
    fate_kept new x.arrival.seq.0 ≡ fate_if (same_side A x.arrival.side || a) (same_side B x.arrival.side || b) later
takes_own a b low later x old new before after room taken was = by x.arrival.side refl a b taken was
  where
    seq : ℕ
    seq = x.arrival.seq.0

    first : (side : Side) → x.arrival.side ≡ side → PutsFate seq (fate_by x.arrival.side) x.arrival.time x.packet old new →
        fate_kept new seq ≡ fate_by side
    first side is puts = puts_own seq x.arrival.time x.packet (fate_by x.arrival.side) old new room puts ∙ ap fate_by is

    by : (side : Side) → x.arrival.side ≡ side → (a b : Bool) →
        TakesCopyIf (a || b) (came_before_at (record { a = a; b = b }) side) x old new before after →
        fate_kept old seq ≡ fate_if a b low → fate_kept new seq ≡ fate_if (same_side A side || a) (same_side B side || b) later
    by A is false false taken was = first A is taken.0
    by A is true false taken was = ap (λ p. fate_kept p seq) taken.0 ∙ was
    by A is true true taken was = ap (λ p. fate_kept p seq) taken.0 ∙ was
    by A is false true taken was = settles_own seq old new room taken.0
    by B is false false taken was = first B is taken.0
    by B is true false taken was = settles_own seq old new room taken.0
    by B is true true taken was = ap (λ p. fate_kept p seq) taken.0 ∙ was
    by B is false true taken was = ap (λ p. fate_kept p seq) taken.0 ∙ was

takes_other : (k : Came) (x : Copied) (old new : Pending) (before after : List Listed) (n : ℕ) → TakesCopy k x old new before after →
    (place_in n ≡ place_in x.arrival.seq.0 → ⊥) → fate_kept new n ≡ fate_kept old n
takes_other k x old new before after n taken apart = by (has_come k) (came_before_at k x.arrival.side) taken
  where
    by : (some here : Bool) → TakesCopyIf some here x old new before after → fate_kept new n ≡ fate_kept old n
    by false here taken =
        (puts_other x.arrival.seq.0 x.arrival.time x.packet n (fate_by x.arrival.side) old new apart taken.0).fate
    by true true taken = ap (λ p. fate_kept p n) taken.0
    by true false taken = (settles_other x.arrival.seq.0 n old new apart taken.0).fate

takes_reach : (k : Came) (x : Copied) (old new : Pending) (before after : List Listed) → TakesCopy k x old new before after →
    new.reach ≡ old.reach
takes_reach k x old new before after taken = by (has_come k) (came_before_at k x.arrival.side) taken
  where
    by : (some here : Bool) → TakesCopyIf some here x old new before after → new.reach ≡ old.reach
    by false here taken = taken.0.reach
    by true true taken = ap (λ p. p.reach) taken.0
    by true false taken = taken.0.reach

-- the numbers of a stretch with one copy more, where all others stand as they are to be
with_copy : (z : Placed) (before : List Placed) (x : Copied) (m : ℤ) (between new : Pending) (list after : List Listed) →
    wire m ≡ x.arrival.seq.0 → (top_number (copy_as x.arrival m ∷ z ∷ before) -ℤ pos kept_numbers) <ℤ m →
    m ≤ℤ top_number (copy_as x.arrival m ∷ z ∷ before) → KeepsPlaces between →
    ((n : ℤ) → (top_number (copy_as x.arrival m ∷ z ∷ before) -ℤ pos kept_numbers) <ℤ n →
    n ≤ℤ top_number (copy_as x.arrival m ∷ z ∷ before) →
    fate_kept between (wire n)
    ≡ fate_if (came A n (z ∷ before)) (came B n (z ∷ before)) (int_lt n (bottom_number (copy_as x.arrival m ∷ z ∷ before)))) →
    TakesCopy (came_by (z ∷ before) m) x between new list after →
    between.reach
    ≡ min (size_of (top_number (copy_as x.arrival m ∷ z ∷ before) -ℤ bottom_number (copy_as x.arrival m ∷ z ∷ before))) (kept_numbers - 1) →
    KeepsFates (copy_as x.arrival m ∷ z ∷ before) new
with_copy z before x m between new list after carried near le room stand taken reach =
    record {
      fates = λ n above below.
          elim (cases_Bool (int_eq n m)) [
            | inl same ↦ subst Shows (sym ((Decides-int_eq n m).0 same)) own
            | inr other ↦
                let apart : place_in (wire n) ≡ place_in x.arrival.seq.0 → ⊥ =
                λ met. let one : n ≡ m = same_place (top_number (c ∷ s)) n m above near below le (met ∙ ap place_in (sym carried)) in
                let bad : true ≡ false = sym ((Decides-int_eq n m).1 one) ∙ other in cc in
                takes_other (came_by s m) x between new list after (wire n) taken apart ∙ stand n above below
                ∙ sym (ap (λ b. fate_if b (came B n (c ∷ s)) (low n)) (came-other A n c s other)
                ∙ ap (λ b. fate_if (came A n s) b (low n)) (came-other B n c s other))
          ];
      reach = takes_reach (came_by s m) x between new list after taken ∙ reach;
    }
  where
    s : List Placed
    s = z ∷ before

    c : Placed
    c = copy_as x.arrival m

    low : ℤ → Bool
    low n = int_lt n (bottom_number (c ∷ s))

    Shows : ℤ → Type 0
    Shows n = fate_kept new (wire n) ≡ fate_of (c ∷ s) n

    here : int_eq m m ≡ true
    here = (Decides-int_eq m m).1 refl

    own : Shows m
    own =
        ap (λ q. fate_kept new q) carried
        ∙ takes_own (came A m s) (came B m s) (low m) (low m) x between new list after room taken
        (ap (λ q. fate_kept between q) (sym carried) ∙ stand m near le)
        ∙ sym (ap (λ b. fate_if b (came B m (c ∷ s)) (low m)) (came-same A m c s here)
        ∙ ap (λ b. fate_if (same_side A x.arrival.side || came A m s) b (low m)) (came-same B m c s here))

-- a number of a stretch that begins
begun_low : (n t : ℤ) → n ≤ℤ t → int_eq n t ≡ false → int_lt n t ≡ true
begun_low n t le other = grind (arith, ints)

no_size : (t : ℤ) → t -ℤ t ≡ pos 0
no_size t = omega (arith, ints)

pub wire_own : (n : ℕ) → n < 65536 → wire (pos n) ≡ n
wire_own n h = omega (arith, h)

pub le_own : (t : ℤ) → t ≤ℤ t
le_own t = omega (arith, ints)

pub near_own : (t : ℤ) → (t -ℤ pos 1024) <ℤ t
near_own t = omega (arith, ints)

pub begun_fates : (x : Copied) (between new : Pending) (list after : List Listed) → x.arrival.seq.0 < 65536 → KeepsPlaces between →
    ((seq : ℕ) → fate_kept between seq ≡ Settled) → between.reach ≡ 0 → TakesCopy by_neither x between new list after →
    KeepsFates (stretch_begun x.arrival) new
begun_fates x between new list after fits room settled none taken =
    record {
      fates = λ n above below.
          elim (cases_Bool (int_eq n t)) [
            | inl same ↦ subst Shows (sym ((Decides-int_eq n t).0 same)) own
            | inr other ↦
                let apart : place_in (wire n) ≡ place_in x.arrival.seq.0 → ⊥ =
                λ met. let one : n ≡ t = same_place t n t above (near_own t) below (le_own t) (met ∙ ap place_in (sym carried)) in
                let bad : true ≡ false = sym ((Decides-int_eq n t).1 one) ∙ other in cc in
                takes_other by_neither x between new list after (wire n) taken apart ∙ settled (wire n)
                ∙ sym (ap (λ b. fate_if b (came B n (c ∷ [])) (int_lt n t)) (came-other A n c [] other)
                ∙ ap (λ b. fate_if false b (int_lt n t)) (came-other B n c [] other)
                ∙ ap (λ b. fate_if false false b) (begun_low n t below other))
          ];
      reach = takes_reach by_neither x between new list after taken ∙ none ∙ sym (ap (λ d. min (size_of d) 1023) (no_size t));
    }
  where
    t : ℤ
    t = pos x.arrival.seq.0

    c : Placed
    c = copy_as x.arrival t

    carried : wire t ≡ x.arrival.seq.0
    carried = wire_own x.arrival.seq.0 fits

    Shows : ℤ → Type 0
    Shows n = fate_kept new (wire n) ≡ fate_of (c ∷ []) n

    here : int_eq t t ≡ true
    here = (Decides-int_eq t t).1 refl

    own : Shows t
    own =
        ap (λ q. fate_kept new q) carried
        ∙ takes_own false false true (int_lt t t) x between new list after room taken (settled x.arrival.seq.0)
        ∙ sym (ap (λ b. fate_if b (came B t (c ∷ [])) (int_lt t t)) (came-same A t c [] here)
        ∙ ap (λ b. fate_if (same_side A x.arrival.side || false) b (int_lt t t)) (came-same B t c [] here))

-- numbers above all of a stretch
not_above : (side : Side) (s : List Placed) (n : ℤ) → top_number s <ℤ n → came side n s ≡ false
not_above side s n lt =
    elim (cases_Bool (came side n s)) [
      | inl is ↦ absurd (crossed n (top_number s) lt (came_below side s n is))
      | inr none ↦ none
    ]
  where
    crossed : (m t : ℤ) → t <ℤ m → m ≤ℤ t → ⊥
    crossed m t g h = omega (arith, ints, g, h)

-- what the wire carries of a number some steps before another, or behind it
parts_back : (um dm un dn i : ℕ) → um + dn ≡ (un + i) + dm → i < 1024 →
    (un + 65535 * dn) % 65536 ≡ ((um + 65535 * dm) % 65536 + (65536 - i)) % 65536
parts_back um dm un dn i e few = omega (arith, e, few)

pub wire_back : (m n : ℤ) (i seq : ℕ) → m ≡ n +ℤ pos i → i < 1024 → wire m ≡ seq → wire n ≡ steps_before seq i
wire_back m n i seq e few carried =
    wire_up n ∙ parts_back (up m) (down m) (up n) (down n) i (omega (arith, ints, e)) few
    ∙ ap (λ k. (k + (65536 - i)) % 65536) (sym (wire_up m) ∙ carried)

parts_on : (um dm un dn i : ℕ) → un + dm ≡ (um + i) + dn → (un + 65535 * dn) % 65536 ≡ ((um + 65535 * dm) % 65536 + i) % 65536
parts_on um dm un dn i e = omega (arith, e)

pub wire_on : (m n : ℤ) (i seq : ℕ) → n ≡ m +ℤ pos i → wire m ≡ seq → wire n ≡ steps_behind seq i
wire_on m n i seq e carried =
    wire_up n ∙ parts_on (up m) (down m) (up n) (down n) i (omega (arith, ints, e)) ∙ ap (λ k. (k + i) % 65536) (sym (wire_up m) ∙ carried)

parts_round : (um dm un dn i : ℕ) → (un + 1024) + dm ≡ (um + i) + dn →
    (un + 65535 * dn) % 65536 % 1024 ≡ ((um + 65535 * dm) % 65536 + i) % 65536 % 1024
parts_round um dm un dn i e = omega (arith, e)

pub place_round : (m n : ℤ) (i seq : ℕ) → (n +ℤ pos 1024) ≡ (m +ℤ pos i) → wire m ≡ seq → place_in (wire n) ≡ place_in (steps_behind seq i)
place_round m n i seq e carried =
    ap place_in (wire_up n) ∙ parts_round (up m) (down m) (up n) (down n) i (omega (arith, ints, e))
    ∙ ap (λ k. (k + i) % 65536 % 1024) (sym (wire_up m) ∙ carried)

-- where numbers lie
ahead_up : (t m n : ℤ) (k i : ℕ) → m ≡ t +ℤ pos k → m ≡ n +ℤ pos i → i < k → t <ℤ n
ahead_up t m n k i e f lt = omega (arith, ints, e, f, lt)

ahead_down : (t m n : ℤ) (k i : ℕ) → m ≡ t +ℤ pos k → m ≡ n +ℤ pos i → k ≤ i → n ≤ℤ t
ahead_down t m n k i e f le = omega (arith, ints, e, f, le)

pub ahead_near : (t m n : ℤ) (k : ℕ) → m ≡ t +ℤ pos k → (m -ℤ pos 1024) <ℤ n → (t -ℤ pos 1024) <ℤ n
ahead_near t m n k e near = omega (arith, ints, e, near)

pub within : (m n : ℤ) (i : ℕ) → m ≡ n +ℤ pos i → (m -ℤ pos 1024) <ℤ n → i < 1024
within m n i e near = omega (arith, ints, e, near)

over_low : (n b t : ℤ) (d : ℕ) → b ≡ t -ℤ pos d → t <ℤ n → int_lt n b ≡ false
over_low n b t d e lt = grind (arith, ints)

ahead_size : (t m b : ℤ) (d k : ℕ) → b ≡ t -ℤ pos d → m ≡ t +ℤ pos k → m -ℤ b ≡ pos (d + k)
ahead_size t m b d k e f = omega (arith, ints, e, f)

sum_reach : (r d k : ℕ) → r ≡ min d 1023 → min (r + k) 1023 ≡ min (d + k) 1023
sum_reach r d k e = omega (arith, e)

-- with a copy ahead of the greatest number
pub ahead_fates : (z : Placed) (before : List Placed) (x : Copied) (m : ℤ) (k : ℕ) (at between new : Pending) (list after : List Listed) →
    m ≡ top_number (z ∷ before) +ℤ pos k → k < 1024 → wire m ≡ x.arrival.seq.0 → KeepsPlaces between → TellsFates (z ∷ before) at →
    PassesAhead x.arrival.seq.0 x.arrival.time k at between → TakesCopy (came_by (z ∷ before) m) x between new list after →
    KeepsFates (copy_as x.arrival m ∷ z ∷ before) new
ahead_fates z before x m k at between new list after is small carried room keeps passes taken =
    with_copy z before x m between new list after carried (subst (λ g. (g -ℤ pos 1024) <ℤ m) (sym top) (near_own m))
    (subst (λ g. m ≤ℤ g) (sym top) (le_own m)) room
    (λ n above below. stand n (subst (λ g. (g -ℤ pos 1024) <ℤ n) top above) (subst (λ g. n ≤ℤ g) top below)) taken
    (passes.reach ∙ sum_reach at.reach d k keeps.reach ∙ sym (ap (λ e. min (size_of e) 1023) size))
  where
    s : List Placed
    s = z ∷ before

    c : Placed
    c = copy_as x.arrival m

    t : ℤ
    t = top_number s

    d : ℕ
    d = size_of (t -ℤ bottom_number s)

    deep : bottom_number s ≡ t -ℤ pos d
    deep = depth_is z before

    top : top_number (c ∷ s) ≡ m
    top = greater_ahead t m k is

    bottom : bottom_number (c ∷ s) ≡ bottom_number s
    bottom = lesser_ahead t (bottom_number s) m d k deep is

    size : top_number (c ∷ s) -ℤ bottom_number (c ∷ s) ≡ pos (d + k)
    size = ap (λ g. g -ℤ bottom_number (c ∷ s)) top ∙ ap (λ b. m -ℤ b) bottom ∙ ahead_size t m (bottom_number s) d k deep is

    stand : (n : ℤ) → (m -ℤ pos 1024) <ℤ n → n ≤ℤ m →
        fate_kept between (wire n) ≡ fate_if (came A n s) (came B n s) (int_lt n (bottom_number (c ∷ s)))
    stand n above below = by (size_of (m -ℤ n)) (size_is n m below)
      where
        by : (i : ℕ) → m ≡ n +ℤ pos i →
            fate_kept between (wire n) ≡ fate_if (came A n s) (came B n s) (int_lt n (bottom_number (c ∷ s)))
        by i lies =
            let few : i < 1024 = within m n i lies above in
            let at_wire : wire n ≡ steps_before x.arrival.seq.0 i = wire_back m n i x.arrival.seq.0 lies few carried in
            elim (cases_lt i k) [
              | inl less ↦
                  let over : t <ℤ n = ahead_up t m n k i is lies less in
                  ap (λ q. fate_kept between q) at_wire ∙ passes.fates i less
                  ∙ sym (ap (λ b. fate_if b (came B n s) (int_lt n (bottom_number (c ∷ s)))) (not_above A s n over)
                  ∙ ap (λ b. fate_if false b (int_lt n (bottom_number (c ∷ s)))) (not_above B s n over)
                  ∙ ap (λ b. fate_if false false (int_lt n b)) bottom
                  ∙ ap (λ b. fate_if false false b) (over_low n (bottom_number s) t d deep over))
              | inr more ↦
                  ap (λ q. fate_kept between q) at_wire ∙ (passes.others i more few).fate ∙ ap (λ q. fate_kept at q) (sym at_wire)
                  ∙ keeps.fates n (ahead_near t m n k is above) (ahead_down t m n k i is lies more)
                  ∙ ap (λ b. fate_if (came A n s) (came B n s) (int_lt n b)) (sym bottom)
            ]

-- where numbers lie behind the greatest
pub behind_at : (t m n : ℤ) (k j : ℕ) → m ≡ t -ℤ pos k → t ≡ n +ℤ pos j → j ≤ k → n ≡ m +ℤ pos (k - j)
behind_at t m n k j e f le = omega (arith, ints, e, f, le)

pub behind_round : (t m n : ℤ) (k j : ℕ) → m ≡ t -ℤ pos k → t ≡ n +ℤ pos j → k < j → j < 1024 → (n +ℤ pos 1024) ≡ (m +ℤ pos (k + (1024 - j)))
behind_round t m n k j e f lt few = omega (arith, ints, e, f, lt, few)

deeper : (n b t : ℤ) (d j : ℕ) → b ≡ t -ℤ pos d → t ≡ n +ℤ pos j → d < j → n <ℤ b
deeper n b t d j e f lt = omega (arith, ints, e, f, lt)

not_lower : (n b t : ℤ) (d j : ℕ) → b ≡ t -ℤ pos d → t ≡ n +ℤ pos j → j ≤ d → int_lt n b ≡ false
not_lower n b t d j e f le = grind (arith, ints)

not_lower_too : (n b m t : ℤ) (d j : ℕ) → b ≡ t -ℤ pos d → t ≡ n +ℤ pos j → j ≤ d → int_lt n (lesser b m) ≡ false
not_lower_too n b m t d j e f le = grind (arith, ints)

at_least : (m n : ℤ) (i : ℕ) → n ≡ m +ℤ pos i → int_lt n m ≡ false
at_least m n i e = grind (arith, ints)

lower_same : (n b m t : ℤ) (k j : ℕ) → m ≡ t -ℤ pos k → t ≡ n +ℤ pos j → k < j → int_lt n b ≡ int_lt n (lesser b m)
lower_same n b m t k j e f lt = grind (arith, ints)

behind_size : (t m b : ℤ) (d k : ℕ) → b ≡ t -ℤ pos d → m ≡ t -ℤ pos k → t -ℤ lesser b m ≡ pos (max d k)
behind_size t m b d k e f = grind (arith, ints)

most_reach : (r d k : ℕ) → r ≡ min d 1023 → k < 1024 → max r k ≡ min (max d k) 1023
most_reach r d k e few = omega (arith, e, few)

reach_short : (r d i k j : ℕ) → r ≡ min d 1023 → k < 1024 → i ≡ k - j → j ≤ k → i + r < k → d < j
reach_short r d i k j e few f le lt = omega (arith, e, few, f, le, lt)

reach_long : (r d i k j : ℕ) → r ≡ min d 1023 → i ≡ k - j → j ≤ k → k ≤ i + r → j ≤ d
reach_long r d i k j e f le more = omega (arith, e, f, le, more)

pub le_behind : (t m : ℤ) (k : ℕ) → m ≡ t -ℤ pos k → m ≤ℤ t
le_behind t m k e = omega (arith, ints, e)

pub near_behind : (t m : ℤ) (k : ℕ) → m ≡ t -ℤ pos k → k < 1024 → (t -ℤ pos 1024) <ℤ m
near_behind t m k e few = omega (arith, ints, e, few)

-- with a copy of the greatest number, or of one behind it
pub behind_fates : (z : Placed) (before : List Placed) (x : Copied) (m : ℤ) (k : ℕ) (at between new : Pending) (list after : List Listed) →
    m ≡ top_number (z ∷ before) -ℤ pos k → k < 1024 → wire m ≡ x.arrival.seq.0 → KeepsPlaces between → TellsFates (z ∷ before) at →
    PassesOver x.arrival.seq.0 x.arrival.time at.reach k at between → TakesCopy (came_by (z ∷ before) m) x between new list after →
    KeepsFates (copy_as x.arrival m ∷ z ∷ before) new
behind_fates z before x m k at between new list after is small carried room keeps passes taken =
    with_copy z before x m between new list after carried (subst (λ g. (g -ℤ pos 1024) <ℤ m) (sym top) (near_behind t m k is small))
    (subst (λ g. m ≤ℤ g) (sym top) (le_behind t m k is)) room
    (λ n above below. stand n (subst (λ g. (g -ℤ pos 1024) <ℤ n) top above) (subst (λ g. n ≤ℤ g) top below)) taken
    (passes.reach ∙ most_reach at.reach d k keeps.reach small ∙ sym (ap (λ e. min (size_of e) 1023) size))
  where
    s : List Placed
    s = z ∷ before

    c : Placed
    c = copy_as x.arrival m

    t : ℤ
    t = top_number s

    b : ℤ
    b = bottom_number s

    d : ℕ
    d = size_of (t -ℤ b)

    deep : b ≡ t -ℤ pos d
    deep = depth_is z before

    top : top_number (c ∷ s) ≡ t
    top = greater_behind t m k is

    size : top_number (c ∷ s) -ℤ bottom_number (c ∷ s) ≡ pos (max d k)
    size = ap (λ g. g -ℤ bottom_number (c ∷ s)) top ∙ behind_size t m b d k deep is

    Stands : ℤ → Type 0
    Stands n = fate_kept between (wire n) ≡ fate_if (came A n s) (came B n s) (int_lt n (bottom_number (c ∷ s)))

    over : (n : ℤ) (j : ℕ) → t ≡ n +ℤ pos j → j ≤ k → (t -ℤ pos 1024) <ℤ n → n ≤ℤ t → Stands n
    over n j lies le above below =
        let i = k - j in
        let from : n ≡ m +ℤ pos i = behind_at t m n k j is lies le in
        let at_wire : wire n ≡ steps_behind x.arrival.seq.0 i = wire_on m n i x.arrival.seq.0 from carried in
        let few : i < 1024 = omega (arith, small) in
        elim (cases_lt (i + at.reach) k) [
          | inl less ↦
              let short : d < j = reach_short at.reach d i k j keeps.reach small refl le less in
              let under : n <ℤ b = deeper n b t d j deep lies short in
              let bottom : bottom_number (c ∷ s) ≡ m = lesser_down t b m d k deep is (omega (arith, short, le)) in
              ap (λ q. fate_kept between q) at_wire ∙ passes.fates i less
              ∙ sym (ap (λ b. fate_if b (came B n s) (int_lt n (bottom_number (c ∷ s)))) (not_below A s n under)
              ∙ ap (λ b. fate_if false b (int_lt n (bottom_number (c ∷ s)))) (not_below B s n under)
              ∙ ap (λ b. fate_if false false (int_lt n b)) bottom ∙ ap (λ b. fate_if false false b) (at_least m n i from))
          | inr more ↦
              let long : j ≤ d = reach_long at.reach d i k j keeps.reach refl le more in
              ap (λ q. fate_kept between q) at_wire ∙ (passes.others i more few).fate ∙ ap (λ q. fate_kept at q) (sym at_wire)
              ∙ keeps.fates n above below
              ∙ ap (λ b. fate_if (came A n s) (came B n s) b)
              (not_lower n b t d j deep lies long ∙ sym (not_lower_too n b m t d j deep lies long))
        ]

    under : (n : ℤ) (j : ℕ) → t ≡ n +ℤ pos j → k < j → (t -ℤ pos 1024) <ℤ n → n ≤ℤ t → Stands n
    under n j lies lt above below =
        let few : j < 1024 = within t n j lies above in
        let place : place_in (wire n) ≡ place_in (steps_behind x.arrival.seq.0 (k + (1024 - j))) =
        place_round m n (k + (1024 - j)) x.arrival.seq.0 (behind_round t m n k j is lies lt few) carried in
        ap (λ q. slice_index_or between.fates.items q Settled) place
        ∙ (passes.others (k + (1024 - j)) (omega arith) (omega (arith, lt, few))).fate
        ∙ ap (λ q. slice_index_or at.fates.items q Settled) (sym place) ∙ keeps.fates n above below
        ∙ ap (λ b. fate_if (came A n s) (came B n s) b) (lower_same n b m t k j is lies lt)

    stand : (n : ℤ) → (t -ℤ pos 1024) <ℤ n → n ≤ℤ t → Stands n
    stand n above below = by (size_of (t -ℤ n)) (size_is n t below)
      where
        by : (j : ℕ) → t ≡ n +ℤ pos j → Stands n
        by j lies =
            elim (cases_lt k j) [
              | inl lt ↦ under n j lies lt above below
              | inr le ↦ over n j lies le above below
            ]
