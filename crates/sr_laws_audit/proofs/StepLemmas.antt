-- All lines of a stretch, with one arrival more.
use Rattle.std.proofs.Common.{◌≡◌, ℕ, zero, suc, ◌+◌, ◌-◌, ◌<◌, ◌≤◌, Bool, true, false, cond, ◌&&◌, List, [], ◌∷◌, ℤ, pos, arith, refl, sym, ap, ◌∙◌}
use Rattle.std.specs.Prelude.{sum_by, ◌+ℤ◌, ◌-ℤ◌, ◌<ℤ◌, ◌≤ℤ◌, int_lt}
use Rattle.std.proofs.lemmas.Int.{ints}
use Rattle.std.proofs.lemmas.List.Sums.{sum_by-append}
use Rattle.sr_frame.specs.declared.fields.Mac.{Mac}
use Rattle.sr_sequence.specs.Numbers.{wire}
use Rattle.sr_sequence.specs.NumberLemmas.{wire_less}
use Rattle.sr_audit.specs.declared.listing.Copied.{Copied}
use Rattle.sr_audit.specs.declared.listing.Listed.{Listed}
use Rattle.sr_audit.specs.declared.pending.Pending.{Pending}
use Rattle.sr_audit.specs.declared.side.Side.TheVariants.{A, B}
use Rattle.sr_audit.specs.declared.span.Spans.{Spans}
use Rattle.sr_audit.specs.Edges.{KeepsTimes}
use Rattle.sr_audit.specs.Extents.{bottom_number, size_of, length_of}
use Rattle.sr_audit.specs.Fates.{TellsFates}
use Rattle.sr_audit.specs.Listings.{listed_of, waiting, steps_before, number_left, left_behind}
use Rattle.sr_audit.specs.Rows.{kept_number}
use Rattle.sr_audit.specs.Stretches.{Placed, came, top_number}
use Rattle.sr_audit.proofs.FateLemmas.{wire_back}
use Rattle.sr_audit.proofs.RowLemmas.{depth_is, kept_is, near_low, not_below}
use Rattle.sr_laws_audit.specs.Lists.{number_lines, before_stretch, all_lines}
use Rattle.sr_laws_audit.specs.Outcomes.{stretch_numbers}
use Rattle.sr_laws_audit.proofs.TotalLemmas.{total, total_zero, total_suc, total_same, total_none, total_split}
use Rattle.sr_laws_audit.proofs.LineLemmas.{KeepsLines, told, waits_if, waits, listed_is, lines_total}
use Rattle.sr_laws_audit.proofs.KeepLemmas.{le_false, false_le, true_lt, within_is}
use Rattle.sr_laws_audit.proofs.OwnLemmas.{inside}

-- all that is kept of a stretch
pub record KeepsStretch (s : List Placed) (copies : List Copied) (p : Pending) : Type 0 where
  pub fates : TellsFates s p
  pub times : KeepsTimes s p.times.items
  pub lines : KeepsLines s copies p

-- what was told so far, with what waits, is what is told of all numbers of the stretches
abbrev pub TellsLines : Spans → Mac → (Listed → ℕ) → List (List Placed) → List Copied → Pending → ℕ → Type 0
TellsLines spans src f [] copies p lines = lines ≡ 0
TellsLines spans src f (s ∷ rest) copies p lines =
    KeepsLines s copies p
    × (lines + total (waits spans src f s copies) (top_number s -ℤ pos 1023) 1024 ≡ sum_by f (all_lines spans src (s ∷ rest) copies))

-- that of one stretch, and those before it
pub parted : (spans : Spans) (src : Mac) (f : Listed → ℕ) (s : List Placed) (rest : List (List Placed)) (copies : List Copied) →
    sum_by f (all_lines spans src (s ∷ rest) copies)
    ≡ total (told spans src f s copies) (bottom_number s) (length_of s) + sum_by f (all_lines spans src rest (before_stretch s copies))
parted spans src f s rest copies =
    sum_by-append f (number_lines spans src s copies (stretch_numbers s)) (all_lines spans src rest (before_stretch s copies))
    ∙ ap (λ t. t + sum_by f (all_lines spans src rest (before_stretch s copies)))
    (lines_total spans src f s copies (bottom_number s) (length_of s))

-- what is listed of the last numbers is what waits of them
pub last_low : (t : ℤ) (i : ℕ) → i < 1024 → ((t -ℤ pos 1023) +ℤ pos i) ≤ℤ t
last_low t i lt = omega (arith, ints, lt)

listed_at : (spans : Spans) (src : Mac) (f : Listed → ℕ) (y : Placed) (s : List Placed) (copies : List Copied) (p : Pending) (i : ℕ) → i < 1024 →
    KeepsStretch (y ∷ s) copies p →
    sum_by f (listed_of spans p src (record { 0 = wire ((top_number (y ∷ s) -ℤ pos 1023) +ℤ pos i) }))
    ≡ waits spans src f (y ∷ s) copies ((top_number (y ∷ s) -ℤ pos 1023) +ℤ pos i)
listed_at spans src f y s copies p i few keeps =
    let n = (top_number (y ∷ s) -ℤ pos 1023) +ℤ pos i in
    let below : n ≤ℤ top_number (y ∷ s) = last_low (top_number (y ∷ s)) i few in
    listed_is spans src f (y ∷ s) copies p n keeps.fates keeps.times keeps.lines (near_low (top_number (y ∷ s)) i few) below
    (λ high. within_is y s n (le_false n (bottom_number (y ∷ s)) high) below)

pub waiting_total : (spans : Spans) (src : Mac) (f : Listed → ℕ) (y : Placed) (s : List Placed) (copies : List Copied) (p : Pending) (k : ℕ) →
    k ≤ 1024 → KeepsStretch (y ∷ s) copies p →
    sum_by f (waiting spans p src (wire (top_number (y ∷ s))) k)
    ≡ total (waits spans src f (y ∷ s) copies) (top_number (y ∷ s) -ℤ pos 1023) k
waiting_total spans src f y s copies p zero few keeps = sym (total_zero (waits spans src f (y ∷ s) copies) (top_number (y ∷ s) -ℤ pos 1023))
waiting_total spans src f y s copies p (suc k) few keeps =
    let t = top_number (y ∷ s) in
    let here : sum_by f (listed_of spans p src (record { 0 = kept_number (wire t) k })) ≡ waits spans src f (y ∷ s) copies ((t -ℤ pos 1023) +ℤ pos k) =
    ap (λ q. sum_by f (listed_of spans p src (record { 0 = q }))) (sym (kept_is t k)) ∙ listed_at spans src f y s copies p k (omega (arith, few)) keeps in
    sum_by-append f (waiting spans p src (wire t) k) (listed_of spans p src (record { 0 = kept_number (wire t) k }))
    ∙ turned (sum_by f (waiting spans p src (wire t) k)) _ _ _ _ (waiting_total spans src f y s copies p k (omega (arith, few)) keeps) here
    (total_suc (waits spans src f (y ∷ s) copies) (t -ℤ pos 1023) k)
  where
    turned : (w l t v s : ℕ) → w ≡ t → l ≡ v → s ≡ v + t → w + l ≡ s
    turned w l t v s e g h = omega (arith, e, g, h)

-- the numbers that a stretch leaves behind on its way are the first of these
left_lies : (t m : ℤ) (k i : ℕ) → m ≡ t +ℤ pos k → i < k → m ≡ ((t +ℤ pos (i + 1)) +ℤ pos (k - i - 1))
left_lies t m k i e lt = omega (arith, ints, e, lt)

left_low : (t : ℤ) (i : ℕ) → (t +ℤ pos (i + 1)) -ℤ pos 1024 ≡ (t -ℤ pos 1023) +ℤ pos i
left_low t i = omega (arith, ints)

left_is : (t m : ℤ) (k i seq : ℕ) → m ≡ t +ℤ pos k → i < k → k < 1024 → wire m ≡ seq → number_left seq k i ≡ wire ((t -ℤ pos 1023) +ℤ pos i)
left_is t m k i seq e lt few carried =
    let way : wire (t +ℤ pos (i + 1)) ≡ steps_before seq (k - i - 1) =
    wire_back m (t +ℤ pos (i + 1)) (k - i - 1) seq (left_lies t m k i e lt) (omega (arith, few)) carried in
    ap (λ q. steps_before q 1024) (sym way) ∙ sym (wire_less (t +ℤ pos (i + 1)) 1024 (omega arith)) ∙ ap wire (left_low t i)

pub left_total : (spans : Spans) (src : Mac) (f : Listed → ℕ) (y : Placed) (s : List Placed) (copies : List Copied) (p : Pending) (m : ℤ)
    (k seq j : ℕ) → m ≡ top_number (y ∷ s) +ℤ pos k → k < 1024 → wire m ≡ seq → j ≤ k → KeepsStretch (y ∷ s) copies p →
    sum_by f (left_behind spans p src seq k j) ≡ total (waits spans src f (y ∷ s) copies) (top_number (y ∷ s) -ℤ pos 1023) j
left_total spans src f y s copies p m k seq zero is few carried le keeps =
    sym (total_zero (waits spans src f (y ∷ s) copies) (top_number (y ∷ s) -ℤ pos 1023))
left_total spans src f y s copies p m k seq (suc j) is few carried le keeps =
    let t = top_number (y ∷ s) in
    let here : sum_by f (listed_of spans p src (record { 0 = number_left seq k j })) ≡ waits spans src f (y ∷ s) copies ((t -ℤ pos 1023) +ℤ pos j) =
    ap (λ q. sum_by f (listed_of spans p src (record { 0 = q }))) (left_is t m k j seq is (omega (arith, le)) few carried)
    ∙ listed_at spans src f y s copies p j (omega (arith, le, few)) keeps in
    sum_by-append f (left_behind spans p src seq k j) (listed_of spans p src (record { 0 = number_left seq k j }))
    ∙ turned (sum_by f (left_behind spans p src seq k j)) _ _ _ _
    (left_total spans src f y s copies p m k seq j is few carried (omega (arith, le)) keeps) here
    (total_suc (waits spans src f (y ∷ s) copies) (t -ℤ pos 1023) j)
  where
    turned : (w l t v s : ℕ) → w ≡ t → l ≡ v → s ≡ v + t → w + l ≡ s
    turned w l t v s e g h = omega (arith, e, g, h)

-- numbers below a stretch, of which no copy came
pub none_low : (spans : Spans) (src : Mac) (f : Listed → ℕ) (s : List Placed) (copies : List Copied) (n : ℤ) → n <ℤ bottom_number s →
    waits spans src f s copies n ≡ 0
none_low spans src f s copies n lt =
    ap (λ a. waits_if a (came B n s) (int_lt n (bottom_number s)) (told spans src f s copies n)) (not_below A s n lt)
    ∙ ap (λ b. waits_if false b (int_lt n (bottom_number s)) (told spans src f s copies n)) (not_below B s n lt)
    ∙ ap (λ l. waits_if false false l (told spans src f s copies n)) (true_lt n (bottom_number s) lt)

pub inside_low : (spans : Spans) (src : Mac) (f : Listed → ℕ) (s : List Placed) (copies : List Copied) (n : ℤ) → n <ℤ bottom_number s →
    inside spans src f s copies n ≡ 0
inside_low spans src f s copies n lt = ap (λ l. cond l 0 (told spans src f s copies n)) (true_lt n (bottom_number s) lt)

pub inside_high : (spans : Spans) (src : Mac) (f : Listed → ℕ) (s : List Placed) (copies : List Copied) (n : ℤ) → bottom_number s ≤ℤ n →
    inside spans src f s copies n ≡ told spans src f s copies n
inside_high spans src f s copies n le = ap (λ l. cond l 0 (told spans src f s copies n)) (false_le n (bottom_number s) le)

-- where one copy, or none, came of a number of a stretch, all that is told of it waits

pub waits_all : (spans : Spans) (src : Mac) (f : Listed → ℕ) (s : List Placed) (copies : List Copied) (n : ℤ) →
    (came A n s && came B n s) ≡ false → int_lt n (bottom_number s) ≡ false → waits spans src f s copies n ≡ told spans src f s copies n
waits_all spans src f s copies n apart high = by (came A n s) (came B n s) apart
  where
    by : (a b : Bool) → (a && b) ≡ false →
        waits_if a b (int_lt n (bottom_number s)) (told spans src f s copies n) ≡ told spans src f s copies n
    by true true both = let bad : true ≡ false = both in absurd cc
    by true false one = refl
    by false true one = refl
    by false false none = ap (λ l. cond l 0 (told spans src f s copies n)) high

-- what is told of a stretch is what is told of the last 1024 numbers, and of those below
abbrev pub deep_of : List Placed → ℕ
deep_of s = size_of (top_number s -ℤ bottom_number s)

low_at : (t b : ℤ) (d i : ℕ) → b ≡ t -ℤ pos d → i < 1023 → ((b -ℤ pos 1023) +ℤ pos i) <ℤ b
low_at t b d i e lt = omega (arith, ints, e, lt)

high_at : (b : ℤ) (i : ℕ) → b ≤ℤ (b +ℤ pos i)
high_at b i = omega (arith, ints)

pub base_up : (b : ℤ) → (b -ℤ pos 1023) +ℤ pos 1023 ≡ b
base_up b = omega (arith, ints)

base_is : (t b : ℤ) (d : ℕ) → b ≡ t -ℤ pos d → b -ℤ pos 1023 ≡ (t -ℤ pos 1023) -ℤ pos d
base_is t b d e = omega (arith, ints, e)

base_on : (t : ℤ) (d : ℕ) → ((t -ℤ pos 1023) -ℤ pos d) +ℤ pos d ≡ t -ℤ pos 1023
base_on t d = omega (arith, ints)

pub whole_total : (spans : Spans) (src : Mac) (f : Listed → ℕ) (y : Placed) (s : List Placed) (copies : List Copied) →
    total (told spans src f (y ∷ s) copies) (bottom_number (y ∷ s)) (length_of (y ∷ s))
    ≡ total (inside spans src f (y ∷ s) copies) ((top_number (y ∷ s) -ℤ pos 1023) -ℤ pos (deep_of (y ∷ s))) (deep_of (y ∷ s))
    + total (inside spans src f (y ∷ s) copies) (top_number (y ∷ s) -ℤ pos 1023) 1024
whole_total spans src f y s copies =
    let t = top_number (y ∷ s) in
    let b = bottom_number (y ∷ s) in
    let d = deep_of (y ∷ s) in
    let g = inside spans src f (y ∷ s) copies in
    let deep : b ≡ t -ℤ pos d = depth_is y s in
    let same : total (told spans src f (y ∷ s) copies) b (d + 1) ≡ total g b (d + 1) =
    total_same (told spans src f (y ∷ s) copies) g b (d + 1) (λ i lt. sym (inside_high spans src f (y ∷ s) copies (b +ℤ pos i) (high_at b i))) in
    let none : total g (b -ℤ pos 1023) 1023 ≡ 0 =
    total_none g (b -ℤ pos 1023) 1023 (λ i lt. inside_low spans src f (y ∷ s) copies ((b -ℤ pos 1023) +ℤ pos i) (low_at t b d i deep lt)) in
    let parts : total g (b -ℤ pos 1023) (1023 + (d + 1)) ≡ total g (b -ℤ pos 1023) 1023 + total g ((b -ℤ pos 1023) +ℤ pos 1023) (d + 1) =
    total_split g (b -ℤ pos 1023) 1023 (d + 1) in
    let up : total g ((b -ℤ pos 1023) +ℤ pos 1023) (d + 1) ≡ total g b (d + 1) = ap (λ n. total g n (d + 1)) (base_up b) in
    let at : total g (b -ℤ pos 1023) (1023 + (d + 1)) ≡ total g ((t -ℤ pos 1023) -ℤ pos d) (d + 1024) =
    ap (λ n. total g n (1023 + (d + 1))) (base_is t b d deep) ∙ ap (total g ((t -ℤ pos 1023) -ℤ pos d)) (as_many d) in
    let last : total g ((t -ℤ pos 1023) -ℤ pos d) (d + 1024) ≡ total g ((t -ℤ pos 1023) -ℤ pos d) d
    + total g (((t -ℤ pos 1023) -ℤ pos d) +ℤ pos d) 1024 = total_split g ((t -ℤ pos 1023) -ℤ pos d) d 1024 in
    let on : total g (((t -ℤ pos 1023) -ℤ pos d) +ℤ pos d) 1024 ≡ total g (t -ℤ pos 1023) 1024 = ap (λ n. total g n 1024) (base_on t d) in
    gathered _ _ _ _ _ _ _ _ _ same none parts up at last on
  where
    as_many : (d : ℕ) → 1023 + (d + 1) ≡ d + 1024
    as_many d = omega arith

    gathered : (whole here none all shifted moved low high_low high : ℕ) → whole ≡ here → none ≡ 0 → all ≡ none + shifted → shifted ≡ here →
        all ≡ moved → moved ≡ low + high_low → high_low ≡ high → whole ≡ low + high
    gathered whole here none all shifted moved low high_low high a b c d e f g = omega (arith, a, b, c, d, e, f, g)
