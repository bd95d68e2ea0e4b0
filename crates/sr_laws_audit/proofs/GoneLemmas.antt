-- All lines of the stretches of a source, with one arrival more.
use Rattle.std.proofs.Common.{◌≡◌, ℕ, ◌+◌, ◌-◌, ◌<◌, true, false, List, ◌∷◌, ℤ, pos, arith, sym, ap, ◌∙◌, subst, inl, inr}
use Rattle.std.specs.Prelude.{sum_by, ◌+ℤ◌, ◌-ℤ◌, ◌<ℤ◌, ◌≤ℤ◌, int_lt}
use Rattle.std.specs.Ordering.{int_eq}
use Rattle.std.proofs.lemmas.Bool.{cases_Bool}
use Rattle.std.proofs.lemmas.Bool.Decides.{Decides-int_eq}
use Rattle.std.proofs.lemmas.Int.{ints, by_lt_z}
use Rattle.sr_frame.specs.declared.fields.Mac.{Mac}
use Rattle.sr_sequence.specs.Numbers.{wire}
use Rattle.sr_audit.specs.declared.listing.Copied.{Copied}
use Rattle.sr_audit.specs.declared.listing.Listed.{Listed}
use Rattle.sr_audit.specs.declared.pending.Pending.{Pending}
use Rattle.sr_audit.specs.declared.side.Side.TheVariants.{A, B}
use Rattle.sr_audit.specs.declared.span.Spans.{Spans}
use Rattle.sr_audit.specs.Extents.{lesser, bottom_number, length_of}
use Rattle.sr_audit.specs.Listings.{fate_kept, time_kept, packet_kept, KeepsPlaces, IsKeptAs, PassesOver, TakesCopy}
use Rattle.sr_audit.specs.Looks.{came_by}
use Rattle.sr_audit.specs.Stretches.{Placed, copy_as, came, top_number}
use Rattle.sr_audit.proofs.EdgeLemmas.{some_below}
use Rattle.sr_audit.proofs.ExtentLemmas.{greater_behind}
use Rattle.sr_audit.proofs.FateLemmas.{le_behind, near_behind}
use Rattle.sr_audit.proofs.FrameLemmas.{came-other}
use Rattle.sr_audit.proofs.RowLemmas.{depth_is, not_below}
use Rattle.sr_laws_audit.specs.Lists.{is_in_stretch, all_lines}
use Rattle.sr_laws_audit.proofs.OutcomeLemmas.{some, some_own}
use Rattle.sr_laws_audit.proofs.TotalLemmas.{total, total_same, total_none, total_plus, total_split, total_once}
use Rattle.sr_laws_audit.proofs.LineLemmas.{KeepsLines, told, waits_if, waits, line_other, reach_same, reach_now}
use Rattle.sr_laws_audit.proofs.KeepLemmas.{false_le, within_over, within_below, within_is, within_not_low, some_within, with_lines, behind_kept, behind_passed}
use Rattle.sr_laws_audit.proofs.OwnLemmas.{inside, KnowsOwn, own_step}
use Rattle.sr_laws_audit.proofs.StepLemmas.{KeepsStretch, TellsLines, parted, last_low, none_low, inside_low, inside_high, deep_of, whole_total}

-- numbers in order
lesser_le : (b m : ℤ) → lesser b m ≤ℤ b
lesser_le b m = grind (arith, ints)

pub up_from : (k m n : ℤ) → k ≤ℤ m → m ≤ℤ n → k ≤ℤ n
up_from k m n g h = omega (arith, ints, g, h)

under_both : (b m n : ℤ) → n <ℤ b → n <ℤ m → n <ℤ lesser b m
under_both b m n lt less = grind (arith, ints)

over_one : (b m n : ℤ) → lesser b m ≤ℤ n → n <ℤ b → m ≤ℤ n
over_one b m n le lt = grind (arith, ints)

apart_low : (m n : ℤ) → n <ℤ m → n ≡ m → ⊥
apart_low m n lt e = omega (arith, ints, lt, e)

pub other_low : (m n : ℤ) → n <ℤ m → int_eq n m ≡ false
other_low m n lt =
    elim (cases_Bool (int_eq n m)) [
      | inl same ↦ absurd (apart_low m n lt ((Decides-int_eq n m).0 same))
      | inr other ↦ other
    ]

-- another number of a stretch with one copy more
pub others_same : (spans : Spans) (src : Mac) (f : Listed → ℕ) (y : Placed) (z : Placed) (before : List Placed) (x : Copied) (copies : List Copied)
    (n : ℤ) → int_eq n y.number ≡ false → bottom_number (z ∷ before) ≤ℤ n → n ≤ℤ top_number (z ∷ before) →
    told spans src f (y ∷ z ∷ before) (x ∷ copies) n ≡ told spans src f (z ∷ before) copies n
others_same spans src f y z before x copies n other over below =
    ap (sum_by f) (line_other spans src y (z ∷ before) x copies n other (within_is z before n over below))

pub waits_same : (spans : Spans) (src : Mac) (f : Listed → ℕ) (y : Placed) (z : Placed) (before : List Placed) (x : Copied) (copies : List Copied)
    (n : ℤ) → int_eq n y.number ≡ false → bottom_number (y ∷ z ∷ before) ≤ℤ n → bottom_number (z ∷ before) ≤ℤ n →
    n ≤ℤ top_number (z ∷ before) →
    waits spans src f (y ∷ z ∷ before) (x ∷ copies) n ≡ waits spans src f (z ∷ before) copies n
waits_same spans src f y z before x copies n other low over below =
    let s = z ∷ before in
    ap (λ a. waits_if a (came B n (y ∷ s)) (int_lt n (bottom_number (y ∷ s))) (told spans src f (y ∷ s) (x ∷ copies) n)) (came-other A n y s other)
    ∙ ap (λ b. waits_if (came A n s) b (int_lt n (bottom_number (y ∷ s))) (told spans src f (y ∷ s) (x ∷ copies) n)) (came-other B n y s other)
    ∙ ap (λ l. waits_if (came A n s) (came B n s) l (told spans src f (y ∷ s) (x ∷ copies) n)) (false_le n (bottom_number (y ∷ s)) low)
    ∙ ap (waits_if (came A n s) (came B n s) false) (others_same spans src f y z before x copies n other over below)
    ∙ ap (λ l. waits_if (came A n s) (came B n s) l (told spans src f s copies n)) (sym (false_le n (bottom_number s) over))

-- behind the greatest number: what lies below the last 1024 is as it was
low_base : (t m : ℤ) (k d i : ℕ) → m ≡ t -ℤ pos k → k < 1024 → i < d → (((t -ℤ pos 1023) -ℤ pos d) +ℤ pos i) <ℤ m
low_base t m k d i e few lt = omega (arith, ints, e, few, lt)

under_top : (t m n : ℤ) (k : ℕ) → m ≡ t -ℤ pos k → n <ℤ m → n ≤ℤ t
under_top t m n k e lt = omega (arith, ints, e, lt)

deep_base : (t b : ℤ) (d more i : ℕ) → b ≡ t -ℤ pos d → i < more → (((t -ℤ pos 1023) -ℤ pos (more + d)) +ℤ pos i) <ℤ b
deep_base t b d more i e lt = omega (arith, ints, e, lt)

moved_base : (t : ℤ) (d more : ℕ) → ((t -ℤ pos 1023) -ℤ pos (more + d)) +ℤ pos more ≡ (t -ℤ pos 1023) -ℤ pos d
moved_base t d more = omega (arith, ints)

low_same : (spans : Spans) (src : Mac) (f : Listed → ℕ) (y : Placed) (z : Placed) (before : List Placed) (x : Copied) (copies : List Copied)
    (n : ℤ) → n <ℤ y.number → n ≤ℤ top_number (z ∷ before) →
    inside spans src f (y ∷ z ∷ before) (x ∷ copies) n ≡ inside spans src f (z ∷ before) copies n
low_same spans src f y z before x copies n lt below =
    let s = z ∷ before in
    by_lt_z n (bottom_number s)
    (λ low. inside_low spans src f (y ∷ s) (x ∷ copies) n (under_both (bottom_number s) y.number n low lt)
    ∙ sym (inside_low spans src f s copies n low))
    (λ high. inside_high spans src f (y ∷ s) (x ∷ copies) n
    (up_from (bottom_number (y ∷ s)) (bottom_number s) n (lesser_le (bottom_number s) y.number) high)
    ∙ others_same spans src f y z before x copies n (other_low y.number n lt) high below
    ∙ sym (inside_high spans src f s copies n high))

outer_same : (spans : Spans) (src : Mac) (f : Listed → ℕ) (y : Placed) (z : Placed) (before : List Placed) (x : Copied) (copies : List Copied)
    (k more : ℕ) → y.number ≡ top_number (z ∷ before) -ℤ pos k → k < 1024 → deep_of (y ∷ z ∷ before) ≡ more + deep_of (z ∷ before) →
    total (inside spans src f (y ∷ z ∷ before) (x ∷ copies)) ((top_number (z ∷ before) -ℤ pos 1023) -ℤ pos (deep_of (y ∷ z ∷ before)))
    (deep_of (y ∷ z ∷ before))
    ≡ total (inside spans src f (z ∷ before) copies) ((top_number (z ∷ before) -ℤ pos 1023) -ℤ pos (deep_of (z ∷ before))) (deep_of (z ∷ before))
outer_same spans src f y z before x copies k more is few deeper =
    let s = z ∷ before in
    let t = top_number s in
    let d = deep_of s in
    let g = inside spans src f s copies in
    ap (λ j. total (inside spans src f (y ∷ s) (x ∷ copies)) ((t -ℤ pos 1023) -ℤ pos j) j) deeper
    ∙ total_same (inside spans src f (y ∷ s) (x ∷ copies)) g ((t -ℤ pos 1023) -ℤ pos (more + d)) (more + d)
    (λ i lt. let n = ((t -ℤ pos 1023) -ℤ pos (more + d)) +ℤ pos i in
    let low : n <ℤ y.number = low_base t y.number k (more + d) i is few lt in
    low_same spans src f y z before x copies n low (under_top t y.number n k is low))
    ∙ total_split g ((t -ℤ pos 1023) -ℤ pos (more + d)) more d
    ∙ ap (λ v. v + total g (((t -ℤ pos 1023) -ℤ pos (more + d)) +ℤ pos more) d)
    (total_none g ((t -ℤ pos 1023) -ℤ pos (more + d)) more (λ i lt.
    inside_low spans src f s copies (((t -ℤ pos 1023) -ℤ pos (more + d)) +ℤ pos i) (deep_base t (bottom_number s) d more i (depth_is z before) lt)))
    ∙ none_first (total g (((t -ℤ pos 1023) -ℤ pos (more + d)) +ℤ pos more) d)
    ∙ ap (λ n. total g n d) (moved_base t d more)
  where
    none_first : (n : ℕ) → 0 + n ≡ n
    none_first n = omega arith

-- the last 1024 numbers
same_of_window : (w1 i1 w0 i0 : ℕ) → w1 ≡ w0 → i1 ≡ i0 → w1 + i0 ≡ w0 + i1
same_of_window w1 i1 w0 i0 e f = omega (arith, e, f)

low_of_window : (w1 i1 w0 i0 : ℕ) → w1 ≡ i1 → w0 ≡ 0 → i0 ≡ 0 → w1 + i0 ≡ w0 + i1
low_of_window w1 i1 w0 i0 e f g = omega (arith, e, f, g)

window_same : (spans : Spans) (src : Mac) (f : Listed → ℕ) (y : Placed) (z : Placed) (before : List Placed) (x : Copied) (copies : List Copied)
    (n : ℤ) → int_eq n y.number ≡ false → n ≤ℤ top_number (z ∷ before) →
    waits spans src f (y ∷ z ∷ before) (x ∷ copies) n + inside spans src f (z ∷ before) copies n
    ≡ waits spans src f (z ∷ before) copies n + inside spans src f (y ∷ z ∷ before) (x ∷ copies) n
window_same spans src f y z before x copies n other below =
    let s = z ∷ before in
    by_lt_z n (bottom_number s)
    (λ low. low_of_window _ _ _ _ (waits_inside low) (none_low spans src f s copies n low) (inside_low spans src f s copies n low))
    (λ high. let high_now : bottom_number (y ∷ s) ≤ℤ n =
    up_from (bottom_number (y ∷ s)) (bottom_number s) n (lesser_le (bottom_number s) y.number) high in
    same_of_window _ _ _ _ (waits_same spans src f y z before x copies n other high_now high below)
    (inside_high spans src f (y ∷ s) (x ∷ copies) n high_now ∙ others_same spans src f y z before x copies n other high below
    ∙ sym (inside_high spans src f s copies n high)))
  where
    waits_inside : n <ℤ bottom_number (z ∷ before) →
        waits spans src f (y ∷ z ∷ before) (x ∷ copies) n ≡ inside spans src f (y ∷ z ∷ before) (x ∷ copies) n
    waits_inside low =
        let s = z ∷ before in
        ap (λ a. waits_if a (came B n (y ∷ s)) (int_lt n (bottom_number (y ∷ s))) (told spans src f (y ∷ s) (x ∷ copies) n))
        (came-other A n y s other ∙ not_below A s n low)
        ∙ ap (λ b. waits_if false b (int_lt n (bottom_number (y ∷ s))) (told spans src f (y ∷ s) (x ∷ copies) n))
        (came-other B n y s other ∙ not_below B s n low)

in_window : (t m : ℤ) (k : ℕ) → m ≡ t -ℤ pos k → k < 1024 → ((t -ℤ pos 1023) ≤ℤ m) × (m <ℤ ((t -ℤ pos 1023) +ℤ pos 1024))
in_window t m k e few = (low t m k e few, high t m k e)
  where
    low : (t m : ℤ) (k : ℕ) → m ≡ t -ℤ pos k → k < 1024 → (t -ℤ pos 1023) ≤ℤ m
    low t m k e few = omega (arith, ints, e, few)

    high : (t m : ℤ) (k : ℕ) → m ≡ t -ℤ pos k → m <ℤ ((t -ℤ pos 1023) +ℤ pos 1024)
    high t m k e = omega (arith, ints, e)

deeper_now : (t b m : ℤ) (d e : ℕ) → b ≡ t -ℤ pos d → lesser b m ≡ t -ℤ pos e → e ≡ (e - d) + d
deeper_now t b m d e f g = by (lesser_le b m)
  where
    by : lesser b m ≤ℤ b → e ≡ (e - d) + d
    by le = down (lesser b m) le g
      where
        down : (low : ℤ) → low ≤ℤ b → low ≡ t -ℤ pos e → e ≡ (e - d) + d
        down low le g = omega (arith, ints, le, g, f)

-- what is kept, with a copy of the greatest number, or of one behind it
behind_lines : (z : Placed) (before : List Placed) (x : Copied) (copies : List Copied) (m : ℤ) (k : ℕ) (at between new : Pending)
    (list after : List Listed) → m ≡ top_number (z ∷ before) -ℤ pos k → k < 1024 → wire m ≡ x.arrival.seq.0 → KeepsPlaces between →
    KeepsStretch (z ∷ before) copies at → PassesOver x.arrival.seq.0 x.arrival.time at.reach k at between →
    TakesCopy (came_by (z ∷ before) m) x between new list after → KeepsLines (copy_as x.arrival m ∷ z ∷ before) (x ∷ copies) new
behind_lines z before x copies m k at between new list after is small carried room keeps passes taken =
    with_lines s x copies m between new list after carried (subst (λ g. (g -ℤ pos 1024) <ℤ m) (sym top) (near_behind t m k is small))
    (subst (λ g. m ≤ℤ g) (sym top) (le_behind t m k is)) room
    (λ n is_some above.
    let near : (t -ℤ pos 1024) <ℤ n = subst (λ g. (g -ℤ pos 1024) <ℤ n) top above in
    (kept n near (some_below s n is_some) (within_over z before n (some_within z before n is_some))).packet
    ∙ keeps.lines.packets n is_some near)
    (λ n other none lies above.
    let near : (t -ℤ pos 1024) <ℤ n = subst (λ g. (g -ℤ pos 1024) <ℤ n) top above in
    let below : n ≤ℤ t = subst (λ g. n ≤ℤ g) top (within_below c s n lies) in
    by_lt_z n (bottom_number s)
    (λ low. behind_passed z before m n k x.arrival.seq.0 x.arrival.time at between is carried keeps.fates.reach passes below
    (over_one (bottom_number s) m n (within_over c s n lies) low) low
    ∙ sym (reach_now n c s (within_not_low z before n low)))
    (λ high. let there : is_in_stretch n s ≡ true = within_is z before n high below in
    (kept n near below high).time ∙ keeps.lines.passed n none there near ∙ sym (reach_same n c s there)))
    taken
  where
    s : List Placed
    s = z ∷ before

    c : Placed
    c = copy_as x.arrival m

    t : ℤ
    t = top_number s

    top : top_number (c ∷ s) ≡ t
    top = greater_behind t m k is

    kept : (n : ℤ) → (t -ℤ pos 1024) <ℤ n → n ≤ℤ t → bottom_number s ≤ℤ n → IsKeptAs at between (wire n)
    kept n near below high =
        behind_kept z before m n k x.arrival.seq.0 x.arrival.time at between is small carried keeps.fates.reach passes near below high

-- what is kept of the number itself
knows_own : (z : Placed) (before : List Placed) (x : Copied) (copies : List Copied) (m : ℤ) (k : ℕ) (at between : Pending) →
    m ≡ top_number (z ∷ before) -ℤ pos k → k < 1024 → wire m ≡ x.arrival.seq.0 →
    KeepsStretch (z ∷ before) copies at → PassesOver x.arrival.seq.0 x.arrival.time at.reach k at between →
    KnowsOwn (z ∷ before) copies between m x.arrival.seq.0
knows_own z before x copies m k at between is small carried keeps passes = record {
  fate = λ known. (kept known).fate ∙ ap (λ q. fate_kept at q) (sym carried) ∙ keeps.fates.fates m near (le_behind t m k is);
  time = λ known. (kept known).time ∙ ap (λ q. time_kept at q) (sym carried) ∙ keeps.times m known near;
  packet = λ known. (kept known).packet ∙ ap (λ q. packet_kept at q) (sym carried) ∙ keeps.lines.packets m known near;
  lies = λ known. some_within z before m known;
}
  where
    t : ℤ
    t = top_number (z ∷ before)

    near : (t -ℤ pos 1024) <ℤ m
    near = near_behind t m k is small

    kept : some (z ∷ before) m ≡ true → IsKeptAs at between x.arrival.seq.0
    kept known = subst (IsKeptAs at between) carried
        (behind_kept z before m m k x.arrival.seq.0 x.arrival.time at between is small carried keeps.fates.reach passes near
        (le_behind t m k is) (within_over z before m (some_within z before m known)))

-- the lines, with such a copy
behind_sums : (lines more w1 w0 i1 i0 x1 x0 v1 v0 all1 all0 rest now was both1 both0 : ℕ) → lines + w0 ≡ all0 → all0 ≡ v0 + rest →
    all1 ≡ v1 + rest → v0 ≡ x0 + i0 → v1 ≡ x1 + i1 → x1 ≡ x0 → now ≡ was + more → now + both1 ≡ was + both0 → both1 ≡ w1 + i0 →
    both0 ≡ w0 + i1 → (lines + more) + w1 ≡ all1
behind_sums lines more w1 w0 i1 i0 x1 x0 v1 v0 all1 all0 rest now was both1 both0 a b c d e f g h i j =
    omega (arith, a, b, c, d, e, f, g, h, i, j)

pub behind_told : (spans : Spans) (f : Listed → ℕ) (z : Placed) (before : List Placed) (rest : List (List Placed)) (x : Copied)
    (copies : List Copied) (m : ℤ) (k : ℕ) (at between new : Pending) (list after : List Listed) (lines more : ℕ) →
    m ≡ top_number (z ∷ before) -ℤ pos k → k < 1024 → wire m ≡ x.arrival.seq.0 → KeepsPlaces between →
    KeepsStretch (z ∷ before) copies at → PassesOver x.arrival.seq.0 x.arrival.time at.reach k at between →
    TakesCopy (came_by (z ∷ before) m) x between new list after → sum_by f after ≡ sum_by f list + more →
    lines + total (waits spans x.src f (z ∷ before) copies) (top_number (z ∷ before) -ℤ pos 1023) 1024
    ≡ sum_by f (all_lines spans x.src ((z ∷ before) ∷ rest) copies) →
    TellsLines spans x.src f ((copy_as x.arrival m ∷ z ∷ before) ∷ rest) (x ∷ copies) new (lines + more)
behind_told spans f z before rest x copies m k at between new list after lines more is small carried room keeps passes taken sums told_all =
    (behind_lines z before x copies m k at between new list after is small carried room keeps passes taken, whole)
  where
    s : List Placed
    s = z ∷ before

    c : Placed
    c = copy_as x.arrival m

    t : ℤ
    t = top_number s

    top : top_number (c ∷ s) ≡ t
    top = greater_behind t m k is

    w : ℤ → ℕ
    w = waits spans x.src f s copies

    w_now : ℤ → ℕ
    w_now = waits spans x.src f (c ∷ s) (x ∷ copies)

    g : ℤ → ℕ
    g = inside spans x.src f s copies

    g_now : ℤ → ℕ
    g_now = inside spans x.src f (c ∷ s) (x ∷ copies)

    d : ℕ
    d = deep_of s

    d_now : ℕ
    d_now = deep_of (c ∷ s)

    deeper : d_now ≡ (d_now - d) + d
    deeper = deeper_now t (bottom_number s) m d d_now (depth_is z before) (depth_is c s ∙ ap (λ n. n -ℤ pos d_now) top)

    known_high : some s m ≡ true → int_lt m (bottom_number s) ≡ false
    known_high known = false_le m (bottom_number s) (within_over z before m (some_within z before m known))

    high_now : int_lt m (bottom_number (c ∷ s)) ≡ false
    high_now = false_le m (bottom_number (c ∷ s)) (within_over c s m (some_within c s m (some_own c s)))

    own : sum_by f after + (w_now m + g m) ≡ sum_by f list + (w m + g_now m)
    own = own_step spans f s x copies m between new list after carried (knows_own z before x copies m k at between is small carried keeps passes)
        known_high high_now taken

    window : sum_by f after + total (λ n. w_now n + g n) (t -ℤ pos 1023) 1024 ≡ sum_by f list + total (λ n. w n + g_now n) (t -ℤ pos 1023) 1024
    window =
        total_once (λ n. w_now n + g n) (λ n. w n + g_now n) m (sum_by f after) (sum_by f list) (t -ℤ pos 1023) 1024
        (λ i lt other. window_same spans x.src f c z before x copies ((t -ℤ pos 1023) +ℤ pos i) other (last_low t i lt)) own
        (in_window t m k is small).0 (in_window t m k is small).1

    whole_now : total (told spans x.src f (c ∷ s) (x ∷ copies)) (bottom_number (c ∷ s)) (length_of (c ∷ s))
        ≡ total g_now ((t -ℤ pos 1023) -ℤ pos d_now) d_now + total g_now (t -ℤ pos 1023) 1024
    whole_now = whole_total spans x.src f c s (x ∷ copies)
        ∙ ap (λ n. total g_now ((n -ℤ pos 1023) -ℤ pos d_now) d_now + total g_now (n -ℤ pos 1023) 1024) top

    whole : (lines + more) + total w_now (top_number (c ∷ s) -ℤ pos 1023) 1024 ≡ sum_by f (all_lines spans x.src ((c ∷ s) ∷ rest) (x ∷ copies))
    whole =
        ap (λ n. (lines + more) + total w_now (n -ℤ pos 1023) 1024) top
        ∙ behind_sums lines more (total w_now (t -ℤ pos 1023) 1024) (total w (t -ℤ pos 1023) 1024) (total g_now (t -ℤ pos 1023) 1024)
        (total g (t -ℤ pos 1023) 1024) (total g_now ((t -ℤ pos 1023) -ℤ pos d_now) d_now) (total g ((t -ℤ pos 1023) -ℤ pos d) d) _ _ _ _ _ _ _ _ _
        told_all (parted spans x.src f s rest copies) (parted spans x.src f (c ∷ s) rest (x ∷ copies))
        (whole_total spans x.src f z before copies) whole_now
        (outer_same spans x.src f c z before x copies k (d_now - d) is small deeper) sums window
        (total_plus w_now g (t -ℤ pos 1023) 1024) (total_plus w g_now (t -ℤ pos 1023) 1024)
