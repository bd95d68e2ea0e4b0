-- What a listing of many sources lists of one of them.
use Rattle.std.proofs.Common.{◌≡◌, ℕ, zero, suc, ◌+◌, ◌<◌, ◌≤◌, Bool, true, false, cond, ◌||◌, ◌&&◌, List, [], ◌∷◌, ◌++◌, length, Option, None, Some, is_some, ℤ, arith, refl, sym, ap, ◌∙◌, subst, inl, inr}
use Rattle.std.specs.Prelude.{◌^◌, ◌-◌, nat_le, nat_lt, sum_by, MatchBool}
use Rattle.std.specs.List.{list_any}
use Rattle.std.specs.Map.{lookup, keys_of}
use Rattle.std.proofs.lemmas.Bool.{cases_Bool, le-leb}
use Rattle.std.proofs.lemmas.List.Sums.{sum_by-append, sum_by-cons}
use Rattle.std.proofs.lemmas.Map.Entries.{length-keys_of}
use Rattle.std.proofs.lemmas.Map.Made.{is_some-lookup}
use Rattle.sr_frame.specs.declared.fields.Mac.{Mac}
use Rattle.sr_frame.specs.Addresses.{mac_eq}
use Rattle.sr_frame.specs.AddressLemmas.{mac_same, mac_refl}
use Rattle.sr_sequence.specs.Numbers.{wire}
use Rattle.sr_sequence.specs.declared.Distance.{Distance}
use Rattle.sr_sequence.specs.declared.Distance.TheVariants.{Behind, Ahead}
use Rattle.sr_sequence.specs.declared.Seq.{Seq}
use Rattle.sr_audit.specs.declared.arrival.Arrival.{Arrival}
use Rattle.sr_audit.specs.declared.listing.Copied.{Copied}
use Rattle.sr_audit.specs.declared.listing.Listed.{Listed}
use Rattle.sr_audit.specs.declared.listing.Listed.TheVariants.{Lost, Pair, Neither}
use Rattle.sr_audit.specs.declared.pending.Fate.{Fate}
use Rattle.sr_audit.specs.declared.pending.Fate.TheVariants.{Settled, PassedOver, ByA, ByB}
use Rattle.sr_audit.specs.declared.pending.Pending.{Pending}
use Rattle.sr_audit.specs.declared.side.Side.TheVariants.{A, B}
use Rattle.sr_audit.specs.declared.span.Spans.{Spans}
use Rattle.sr_audit.specs.declared.tally.Came.{Came}
use Rattle.sr_audit.specs.Counting.{has_come, came_before_at}
use Rattle.sr_audit.specs.Edges.{is_beyond, KeepsTimes}
use Rattle.sr_audit.specs.Fates.{KeepsFates}
use Rattle.sr_audit.specs.Lanes.{other_side}
use Rattle.sr_audit.specs.Limits.{most_audited, kept_numbers, epoch_gap}
use Rattle.sr_audit.specs.Listings.{fate_kept, time_kept, copy_kept, listed_if_lost, settled_as, listed_of, waiting, paired_as, TakesCopyIf, TakesCopy, number_left, left_behind, ListsWaiting, ListsDecided, greatest_in, ListsArrival, ListsEnd}
use Rattle.sr_audit.specs.Looks.{step_to, look_at}
use Rattle.sr_audit.specs.Pendings.{taken_if, HasPending, arrivals_from, is_listed_at, AreListedFrom, heard_with, IsPendingFor, KeepsSources, IsWas, ListsCopy, ListsLast}
use Rattle.sr_audit.specs.Rows.{kept_number}
use Rattle.sr_audit.specs.Stretches.{Placed, top_number, newest_time, lies_from, stretches, current}
use Rattle.sr_audit.proofs.ExtentLemmas.{no_empty}
use Rattle.sr_audit.proofs.PendingLemmas.{lists_none}
use Rattle.sr_laws_audit.specs.Lists.{first_time_at, first_copy_at, reach_time, line_as, number_line, number_lines, all_lines, before_stretch, copies_from, line_source, lines_from, heard, heard_before, is_listed, wanted_lines, NotesCopy, FinishesSource, AppendsLines, ListingRun, ListsEachOnce}
use Rattle.sr_laws_audit.specs.Outcomes.{Outcome, Paired, OnlyA, OnlyB, EdgeA, EdgeB, Neither as OfNone, outcome_of, stretch_numbers}
use Rattle.sr_laws_audit.proofs.StepLemmas.{TellsLines}
use Rattle.sr_laws_audit.proofs.ArrivalLemmas.{first_told, arrival_told, end_told}

-- the lines of one source
abbrev pub own : Mac → (Listed → ℕ) → Listed → ℕ
own m f l = cond (mac_eq m (line_source l)) (f l) 0

own_from : (m : Mac) (f : Listed → ℕ) (lines : List Listed) → sum_by (own m f) lines ≡ sum_by f (lines_from m lines)
own_from m f [] = refl
own_from m f (l ∷ lines) =
    sum_by-cons (own m f) l lines ∙ ap (λ n. own m f l + n) (own_from m f lines) ∙ by (mac_eq m (line_source l))
  where
    by : (b : Bool) → cond b (f l) 0 + sum_by f (lines_from m lines) ≡ sum_by f (cond b (l ∷ lines_from m lines) (lines_from m lines))
    by true = sym (sum_by-cons f l (lines_from m lines))
    by false = nothing (sum_by f (lines_from m lines))
      where
        nothing : (n : ℕ) → 0 + n ≡ n
        nothing n = omega arith

one_own : (m : Mac) (f : Listed → ℕ) (l : Listed) → mac_eq m (line_source l) ≡ true → sum_by (own m f) (l ∷ []) ≡ sum_by f (l ∷ [])
one_own m f l is = ap (λ b. 0 + cond b (f l) 0) is

one_other : (m : Mac) (f : Listed → ℕ) (l : Listed) → mac_eq m (line_source l) ≡ false → sum_by (own m f) (l ∷ []) ≡ 0
one_other m f l is = ap (λ b. 0 + cond b (f l) 0) is

own_line : (m : Mac) (f : Listed → ℕ) (o : Outcome) (n : ℤ) (s : List Placed) (copies : List Copied) →
    sum_by (own m f) (line_as o m n s copies) ≡ sum_by f (line_as o m n s copies)
own_line m f Paired n s copies = one_own m f (Pair (first_copy_at m A n s copies) (first_time_at B n s)) (mac_refl m)
own_line m f OnlyA n s copies = one_own m f (Lost (first_copy_at m A n s copies)) (mac_refl m)
own_line m f OnlyB n s copies = one_own m f (Lost (first_copy_at m B n s copies)) (mac_refl m)
own_line m f EdgeA n s copies = refl
own_line m f EdgeB n s copies = refl
own_line m f OfNone n s copies = one_own m f (Neither m (record { 0 = wire n }) (reach_time n s)) (mac_refl m)

own_lines : (spans : Spans) (m : Mac) (f : Listed → ℕ) (s : List Placed) (copies : List Copied) (ns : List ℤ) →
    sum_by (own m f) (number_lines spans m s copies ns) ≡ sum_by f (number_lines spans m s copies ns)
own_lines spans m f s copies [] = refl
own_lines spans m f s copies (n ∷ ns) =
    sum_by-append (own m f) (number_line spans m s copies n) (number_lines spans m s copies ns)
    ∙ ap (λ k. k + sum_by (own m f) (number_lines spans m s copies ns)) (own_line m f (outcome_of spans s n) n s copies)
    ∙ ap (λ k. sum_by f (number_line spans m s copies n) + k) (own_lines spans m f s copies ns)
    ∙ sym (sum_by-append f (number_line spans m s copies n) (number_lines spans m s copies ns))

own_all : (spans : Spans) (m : Mac) (f : Listed → ℕ) (ss : List (List Placed)) (copies : List Copied) →
    sum_by (own m f) (all_lines spans m ss copies) ≡ sum_by f (all_lines spans m ss copies)
own_all spans m f [] copies = refl
own_all spans m f (s ∷ rest) copies =
    let here = number_lines spans m s copies (stretch_numbers s) in
    let there = all_lines spans m rest (before_stretch s copies) in
    sum_by-append (own m f) here there ∙ ap (λ k. k + sum_by (own m f) there) (own_lines spans m f s copies (stretch_numbers s))
    ∙ ap (λ k. sum_by f here + k) (own_all spans m f rest (before_stretch s copies)) ∙ sym (sum_by-append f here there)

-- what is listed of another source
none_more : (n k : ℕ) → k ≡ 0 → n + k ≡ n
none_more n k e = omega (arith, e)

appended : (f : Listed → ℕ) (list more : List Listed) → sum_by f more ≡ 0 → sum_by f (list ++ more) ≡ sum_by f list
appended f list more none = sum_by-append f list more ∙ none_more (sum_by f list) (sum_by f more) none

other_lost : (spans : Spans) (m : Mac) (f : Listed → ℕ) (copy : Copied) → mac_eq m copy.src ≡ false →
    sum_by (own m f) (listed_if_lost spans copy) ≡ 0
other_lost spans m f copy other = by (is_beyond spans (other_side copy.arrival.side) copy.arrival.time)
  where
    by : (b : Bool) → sum_by (own m f) (cond b [] (Lost copy ∷ [])) ≡ 0
    by true = refl
    by false = one_other m f (Lost copy) other

other_settled : (spans : Spans) (m : Mac) (f : Listed → ℕ) (p : Pending) (src : Mac) (seq : Seq) (fate : Fate) → mac_eq m src ≡ false →
    sum_by (own m f) (settled_as spans p src seq fate) ≡ 0
other_settled spans m f p src seq Settled other = refl
other_settled spans m f p src seq PassedOver other = one_other m f (Neither src seq (time_kept p seq.0)) other
other_settled spans m f p src seq ByA other = other_lost spans m f (copy_kept p src seq A) other
other_settled spans m f p src seq ByB other = other_lost spans m f (copy_kept p src seq B) other

other_waiting : (spans : Spans) (m : Mac) (f : Listed → ℕ) (p : Pending) (src : Mac) (greatest k : ℕ) → mac_eq m src ≡ false →
    sum_by (own m f) (waiting spans p src greatest k) ≡ 0
other_waiting spans m f p src greatest zero other = refl
other_waiting spans m f p src greatest (suc k) other =
    appended (own m f) (waiting spans p src greatest k) (listed_of spans p src (record { 0 = kept_number greatest k }))
    (other_settled spans m f p src (record { 0 = kept_number greatest k }) (fate_kept p (kept_number greatest k)) other)
    ∙ other_waiting spans m f p src greatest k other

other_left : (spans : Spans) (m : Mac) (f : Listed → ℕ) (p : Pending) (src : Mac) (seq steps k : ℕ) → mac_eq m src ≡ false →
    sum_by (own m f) (left_behind spans p src seq steps k) ≡ 0
other_left spans m f p src seq steps zero other = refl
other_left spans m f p src seq steps (suc k) other =
    appended (own m f) (left_behind spans p src seq steps k) (listed_of spans p src (record { 0 = number_left seq steps k }))
    (other_settled spans m f p src (record { 0 = number_left seq steps k }) (fate_kept p (number_left seq steps k)) other)
    ∙ other_left spans m f p src seq steps k other

other_paired : (m : Mac) (f : Listed → ℕ) (p : Pending) (x : Copied) (fate : Fate) → mac_eq m x.src ≡ false →
    sum_by (own m f) (paired_as p x fate) ≡ 0
other_paired m f p x Settled other = refl
other_paired m f p x PassedOver other = refl
other_paired m f p x ByA other = one_other m f (Pair (copy_kept p x.src x.arrival.seq A) x.arrival.time) other
other_paired m f p x ByB other = one_other m f (Pair x (time_kept p x.arrival.seq.0)) other

other_goes : (spans : Spans) (m : Mac) (f : Listed → ℕ) (p : Pending) (x : Copied) (greatest : ℕ) (soon : Bool) (d : Distance)
    (list mid : List Listed) → mac_eq m x.src ≡ false → ListsDecided spans p x greatest (step_to soon d) list mid →
    sum_by (own m f) mid ≡ sum_by (own m f) list
other_goes spans m f p x greatest soon d list mid other = by soon d
  where
    waited : ListsWaiting spans p x.src greatest list mid → sum_by (own m f) mid ≡ sum_by (own m f) list
    waited lists =
        ap (sum_by (own m f)) lists.listed
        ∙ appended (own m f) list (waiting spans p x.src greatest lists.count) (other_waiting spans m f p x.src greatest lists.count other)

    by : (soon : Bool) (d : Distance) → ListsDecided spans p x greatest (step_to soon d) list mid →
        sum_by (own m f) mid ≡ sum_by (own m f) list
    by true (Behind k) = λ same. ap (sum_by (own m f)) same
    by false (Behind k) = λ lists. waited lists
    by true (Ahead k) =
        elim (cases_Bool (nat_le kept_numbers k)) [
          | inl far ↦ rw far (λ lists. waited lists)
          | inr near ↦ rw near (λ more. ap (sum_by (own m f)) more
              ∙ appended (own m f) list (left_behind spans p x.src x.arrival.seq.0 k k) (other_left spans m f p x.src x.arrival.seq.0 k k other))
        ]
    by false (Ahead k) =
        elim (cases_Bool (nat_le kept_numbers k)) [
          | inl far ↦ rw far (λ lists. waited lists)
          | inr near ↦ rw near (λ more. ap (sum_by (own m f)) more
              ∙ appended (own m f) list (left_behind spans p x.src x.arrival.seq.0 k k) (other_left spans m f p x.src x.arrival.seq.0 k k other))
        ]

other_decided : (spans : Spans) (m : Mac) (f : Listed → ℕ) (p : Pending) (x : Copied) (ss : List (List Placed)) (list mid : List Listed) →
    mac_eq m x.src ≡ false → ListsDecided spans p x (greatest_in ss x.arrival.seq.0) (look_at ss x.arrival).step list mid →
    sum_by (own m f) mid ≡ sum_by (own m f) list
other_decided spans m f p x [] list mid other same = ap (sum_by (own m f)) same
other_decided spans m f p x (s ∷ rest) list mid other decided =
    other_goes spans m f p x (wire (top_number s)) (nat_lt (x.arrival.time - newest_time s) epoch_gap) (lies_from s x.arrival.seq.0) list mid other
    decided

other_taken : (m : Mac) (f : Listed → ℕ) (k : Came) (x : Copied) (p new : Pending) (mid after : List Listed) → mac_eq m x.src ≡ false →
    TakesCopy k x p new mid after → sum_by (own m f) after ≡ sum_by (own m f) mid
other_taken m f k x p new mid after other taken = by (has_come k) (came_before_at k x.arrival.side) taken
  where
    by : (come here : Bool) → TakesCopyIf come here x p new mid after → sum_by (own m f) after ≡ sum_by (own m f) mid
    by false here t = ap (sum_by (own m f)) t.1
    by true true t = ap (sum_by (own m f)) t.1
    by true false t = ap (sum_by (own m f)) t.1
        ∙ appended (own m f) mid (paired_as p x (fate_kept p x.arrival.seq.0)) (other_paired m f p x (fate_kept p x.arrival.seq.0) other)

copy_other : (spans : Spans) (m : Mac) (f : Listed → ℕ) (ys : List Arrival) (x : Copied) (was new : Option Pending) (list after : List Listed) →
    mac_eq m x.src ≡ false → ListsCopy spans ys x was new list after → sum_by (own m f) after ≡ sum_by (own m f) list
copy_other spans m f ys x was None list after other lists = ap (sum_by (own m f)) lists
copy_other spans m f ys x was (Some new) list after other lists = by new.is_listed lists
  where
    by : (b : Bool) → MatchBool b ((old : Pending) × IsWas was old × ListsArrival spans (stretches ys) x old new list after) (after ≡ list) →
        sum_by (own m f) after ≡ sum_by (own m f) list
    by false same = ap (sum_by (own m f)) same
    by true found =
        let l = found.2 in
        other_taken m f (look_at (stretches ys) x.arrival).came x l.between new l.decided after other l.taken
        ∙ other_decided spans m f l.at x (stretches ys) list l.decided other l.goes

-- which sources are listed, by the order of first hearing
listed_rank : (first rank : ℕ) (sources : List (Mac × Pending)) (m : Mac) (p : Pending) → AreListedFrom first rank sources →
    lookup (mac_eq m) sources ≡ Some p → p.is_listed ≡ is_listed_at first (rank + heard_before m (keys_of sources))
listed_rank first rank [] m p are found = let no : None ≡ Some p = found in absurd cc
listed_rank first rank (e ∷ rest) m p are found =
    by (mac_eq m e.0) found (λ later. listed_rank first (rank + 1) rest m p are.1 later)
  where
    last : (n : ℕ) → n ≡ n + 0
    last n = omega arith

    further : (n k : ℕ) → (n + 1) + k ≡ n + (1 + k)
    further n k = omega arith

    by : (t : Bool) → cond t (Some e.1) (lookup (mac_eq m) rest) ≡ Some p →
        (lookup (mac_eq m) rest ≡ Some p → p.is_listed ≡ is_listed_at first ((rank + 1) + heard_before m (keys_of rest))) →
        p.is_listed ≡ is_listed_at first (rank + cond t 0 (1 + heard_before m (keys_of rest)))
    by true own_one on =
        let same : e.1 ≡ p = cc in
        ap (λ q. q.is_listed) (sym same) ∙ are.0 ∙ ap (is_listed_at first) (last rank)
    by false other on = on other ∙ ap (is_listed_at first) (further rank (heard_before m (keys_of rest)))

known_keys : (m : Mac) (old : List (Mac × Pending)) → is_some (lookup (mac_eq m) old) ≡ true → heard_with m (keys_of old) ≡ keys_of old
known_keys m old known =
    ap (λ b. cond (b || nat_le most_audited (length (keys_of old))) (keys_of old) (keys_of old ++ m ∷ []))
    (sym (is_some-lookup (mac_eq m) old) ∙ known)

full_keys : (m : Mac) (old : List (Mac × Pending)) → most_audited ≤ length old → heard_with m (keys_of old) ≡ keys_of old
full_keys m old full =
    ap (λ b. cond (list_any (mac_eq m) (keys_of old) || b) (keys_of old) (keys_of old ++ m ∷ []))
    (le-leb most_audited (length (keys_of old)) (subst (λ n. most_audited ≤ n) (sym (length-keys_of old)) full))
    ∙ or_true (list_any (mac_eq m) (keys_of old))
  where
    or_true : (b : Bool) → cond (b || true) (keys_of old) (keys_of old ++ m ∷ []) ≡ keys_of old
    or_true true = refl
    or_true false = refl

same_known : (m : Mac) (old new : List (Mac × Pending)) → keys_of new ≡ keys_of old →
    is_some (lookup (mac_eq m) new) ≡ is_some (lookup (mac_eq m) old)
same_known m old new same =
    is_some-lookup (mac_eq m) new ∙ ap (list_any (mac_eq m)) same ∙ sym (is_some-lookup (mac_eq m) old)

-- what was told of a source, by what is pending of it
abbrev pub TellsOf : Spans → Mac → (Listed → ℕ) → List Copied → Option Pending → ℕ → Type 0
TellsOf spans m f xs None lines = lines ≡ 0
TellsOf spans m f xs (Some p) lines =
    MatchBool p.is_listed (TellsLines spans m f (stretches (arrivals_from m xs)) (copies_from m xs) p lines) (lines ≡ 0)

-- with a copy of that source
now_none : (f : Listed → ℕ) (list now : List Listed) → list ++ now ≡ list → sum_by f now ≡ 0
now_none f list now same = left (sum_by f list) (sum_by f now) (sym (sum_by-append f list now) ∙ ap (sum_by f) same)
  where
    left : (n k : ℕ) → n + k ≡ n → k ≡ 0
    left n k e = omega (arith, e)

both_none : (lines now : ℕ) → lines ≡ 0 → now ≡ 0 → lines + now ≡ 0
both_none lines now a b = omega (arith, a, b)

from_own : (x : Copied) (xs : List Copied) → arrivals_from x.src (x ∷ xs) ≡ x.arrival ∷ arrivals_from x.src xs
from_own x xs = ap (λ b. cond b (x.arrival ∷ arrivals_from x.src xs) (arrivals_from x.src xs)) (mac_refl x.src)

copies_own : (x : Copied) (xs : List Copied) → copies_from x.src (x ∷ xs) ≡ x ∷ copies_from x.src xs
copies_own x xs = ap (λ b. cond b (x ∷ copies_from x.src xs) (copies_from x.src xs)) (mac_refl x.src)

note_own : (spans : Spans) (first : ℕ) (f : Listed → ℕ) (x : Copied) (xs : List Copied) (old new : List (Mac × Pending))
    (list now : List Listed) (lines : ℕ) → length xs + 1 < 2 ^ 64 → KeepsSources first xs old →
    NotesCopy spans first x old new list (list ++ now) → TellsOf spans x.src f xs (lookup (mac_eq x.src) old) lines →
    TellsOf spans x.src f (x ∷ xs) (lookup (mac_eq x.src) new) (lines + sum_by f now)
note_own spans first f x xs old new list now lines few keeps notes tells =
    by (lookup (mac_eq m) old) (lookup (mac_eq m) new) refl refl tells (notes.listed xs keeps)
  where
    m : Mac
    m = x.src

    keeps_now : KeepsSources first (x ∷ xs) new
    keeps_now = notes.lists xs few keeps

    sums : sum_by f (list ++ now) ≡ sum_by f list + sum_by f now
    sums = sum_by-append f list now

    listed_same : (w q : Pending) → lookup (mac_eq m) old ≡ Some w → lookup (mac_eq m) new ≡ Some q → w.is_listed ≡ q.is_listed
    listed_same w q was is =
        let keys : keys_of new ≡ keys_of old = notes.order ∙ known_keys m old (ap is_some was) in
        listed_rank first 0 old m w keeps.are_listed was ∙ ap (λ ks. is_listed_at first (0 + heard_before m ks)) (sym keys)
        ∙ sym (listed_rank first 0 new m q keeps_now.are_listed is)

    -- where something is pending now
    Told : Pending → Type 0
    Told q = TellsLines spans m f (stretches (arrivals_from m (x ∷ xs))) (copies_from m (x ∷ xs)) q (lines + sum_by f now)

    told_of : (q : Pending) →
        TellsLines spans m f (stretches (x.arrival ∷ arrivals_from m xs)) (x ∷ copies_from m xs) q (lines + sum_by f now) → Told q
    told_of q told =
        subst (λ ys. TellsLines spans m f (stretches ys) (copies_from m (x ∷ xs)) q (lines + sum_by f now)) (sym (from_own x xs))
        (subst (λ ys. TellsLines spans m f (stretches (x.arrival ∷ arrivals_from m xs)) ys q (lines + sum_by f now)) (sym (copies_own x xs)) told)

    new_one : (q : Pending) → lookup (mac_eq m) old ≡ None → lookup (mac_eq m) new ≡ Some q → arrivals_from m xs ≡ []
    new_one q none is = which (subst (IsPendingFor (length old) (arrivals_from m xs)) none (keeps.each m))
      where
        which : IsPendingFor (length old) (arrivals_from m xs) None → arrivals_from m xs ≡ []
        which (inl nothing) = nothing
        which (inr full) =
            let same : is_some (lookup (mac_eq m) new) ≡ is_some (lookup (mac_eq m) old) =
            same_known m old new (notes.order ∙ full_keys m old full) in
            let no : true ≡ false = sym (ap is_some is) ∙ same ∙ ap is_some none in
            absurd cc

    has : (w : Pending) → lookup (mac_eq m) old ≡ Some w → HasPending (arrivals_from m xs) w
    has w was = subst (IsPendingFor (length old) (arrivals_from m xs)) was (keeps.each m)

    on : (w q : Pending) → lookup (mac_eq m) old ≡ Some w → w.is_listed ≡ true →
        ListsArrival spans (stretches (arrivals_from m xs)) x w q list (list ++ now) →
        TellsLines spans m f (stretches (arrivals_from m xs)) (copies_from m xs) w lines → Told q
    on w q was is l told =
        let pending = has w was in
        told_of q (arrival_told spans f (stretches (arrivals_from m xs)) x (copies_from m xs) w q list (list ++ now) lines (sum_by f now)
        notes.fits (no_empty (arrivals_from m xs))
        (subst (λ b. KeepsFates (current (stretches (taken_if b (arrivals_from m xs)))) w) is pending.fates)
        (subst (λ b. KeepsTimes (current (stretches (taken_if b (arrivals_from m xs)))) w.times.items) is pending.times) l sums told)

    begins : (p q : Pending) → arrivals_from m xs ≡ [] → ListsArrival spans (stretches (arrivals_from m xs)) x p q list (list ++ now) →
        lines ≡ 0 → Told q
    begins p q none l zero_lines =
        told_of q (subst (λ ys. TellsLines spans m f (stretches (x.arrival ∷ ys)) (x ∷ copies_from m xs) q (lines + sum_by f now)) (sym none)
        (first_told spans f x (copies_from m xs) p q list (list ++ now) lines (sum_by f now) notes.fits
        (subst (λ ys. ListsArrival spans (stretches ys) x p q list (list ++ now)) none l) sums zero_lines))

    -- by what was pending, and whether the source is listed
    listed_so : (o : Option Pending) (q : Pending) (b : Bool) → lookup (mac_eq m) old ≡ o → lookup (mac_eq m) new ≡ Some q → q.is_listed ≡ b →
        TellsOf spans m f xs o lines →
        MatchBool b ((p : Pending) × IsWas o p × ListsArrival spans (stretches (arrivals_from m xs)) x p q list (list ++ now)) (list ++ now ≡ list) →
        MatchBool b (Told q) (lines + sum_by f now ≡ 0)
    listed_so None q true was is listed zero_lines l = begins l.0 q (new_one q was is) l.2 zero_lines
    listed_so None q false was is listed zero_lines same = both_none lines (sum_by f now) zero_lines (now_none f list now same)
    listed_so (Some w) q true was is listed told l =
        let w_listed : w.is_listed ≡ true = listed_same w q was is ∙ listed in
        on w q was w_listed (subst (λ p. ListsArrival spans (stretches (arrivals_from m xs)) x p q list (list ++ now)) l.1 l.2)
        (subst (λ b. MatchBool b (TellsLines spans m f (stretches (arrivals_from m xs)) (copies_from m xs) w lines) (lines ≡ 0)) w_listed told)
    listed_so (Some w) q false was is listed told same =
        let w_not : w.is_listed ≡ false = listed_same w q was is ∙ listed in
        both_none lines (sum_by f now)
        (subst (λ b. MatchBool b (TellsLines spans m f (stretches (arrivals_from m xs)) (copies_from m xs) w lines) (lines ≡ 0)) w_not told)
        (now_none f list now same)

    by : (o n : Option Pending) → lookup (mac_eq m) old ≡ o → lookup (mac_eq m) new ≡ n → TellsOf spans m f xs o lines →
        ListsCopy spans (arrivals_from m xs) x o n list (list ++ now) → TellsOf spans m f (x ∷ xs) n (lines + sum_by f now)
    by None None was is zero_lines same = both_none lines (sum_by f now) zero_lines (now_none f list now same)
    by (Some w) None was is told same =
        let stays : is_some (lookup (mac_eq m) new) ≡ is_some (lookup (mac_eq m) old) =
        same_known m old new (notes.order ∙ known_keys m old (ap is_some was)) in
        let no : false ≡ true = sym (ap is_some is) ∙ stays ∙ ap is_some was in
        absurd cc
    by o (Some q) was is told lists = listed_so o q q.is_listed was is refl told lists

-- with any copy
note_told : (spans : Spans) (first : ℕ) (m : Mac) (f : Listed → ℕ) (x : Copied) (xs : List Copied) (old new : List (Mac × Pending))
    (list now so_far : List Listed) → length xs + 1 < 2 ^ 64 → KeepsSources first xs old → NotesCopy spans first x old new list (list ++ now) →
    TellsOf spans m (own m f) xs (lookup (mac_eq m) old) (sum_by (own m f) so_far) →
    TellsOf spans m (own m f) (x ∷ xs) (lookup (mac_eq m) new) (sum_by (own m f) (so_far ++ now))
note_told spans first m f x xs old new list now so_far few keeps notes tells =
    subst (TellsOf spans m (own m f) (x ∷ xs) (lookup (mac_eq m) new)) (sym (sum_by-append (own m f) so_far now)) (by (mac_eq m x.src) refl)
  where
    Goes : Mac → Type 0
    Goes k = TellsOf spans k (own k f) xs (lookup (mac_eq k) old) (sum_by (own k f) so_far) →
        TellsOf spans k (own k f) (x ∷ xs) (lookup (mac_eq k) new) (sum_by (own k f) so_far + sum_by (own k f) now)

    by : (b : Bool) → mac_eq m x.src ≡ b →
        TellsOf spans m (own m f) (x ∷ xs) (lookup (mac_eq m) new) (sum_by (own m f) so_far + sum_by (own m f) now)
    by true same =
        subst Goes (sym (mac_same m x.src same))
        (λ told. note_own spans first (own x.src f) x xs old new list now (sum_by (own x.src f) so_far) few keeps notes told) tells
    by false other =
        let none : sum_by (own m f) now ≡ 0 =
        left (sum_by (own m f) list) (sum_by (own m f) now) (sym (sum_by-append (own m f) list now)
        ∙ copy_other spans m f (arrivals_from x.src xs) x (lookup (mac_eq x.src) old) (lookup (mac_eq x.src) new) list (list ++ now) other
        (notes.listed xs keeps)) in
        let kept : TellsOf spans m (own m f) xs (lookup (mac_eq m) new) (sum_by (own m f) so_far + sum_by (own m f) now) =
        subst (TellsOf spans m (own m f) xs (lookup (mac_eq m) new)) (sym (none_more (sum_by (own m f) so_far) (sum_by (own m f) now) none))
        (subst (λ o. TellsOf spans m (own m f) xs o (sum_by (own m f) so_far)) (sym (notes.others m other)) tells) in
        still (lookup (mac_eq m) new) kept
      where
        left : (n k : ℕ) → n + k ≡ n → k ≡ 0
        left n k e = omega (arith, e)

        arrivals_same : arrivals_from m (x ∷ xs) ≡ arrivals_from m xs
        arrivals_same = ap (λ b. cond b (x.arrival ∷ arrivals_from m xs) (arrivals_from m xs)) other

        copies_same : copies_from m (x ∷ xs) ≡ copies_from m xs
        copies_same = ap (λ b. cond b (x ∷ copies_from m xs) (copies_from m xs)) other

        still : (o : Option Pending) → TellsOf spans m (own m f) xs o (sum_by (own m f) so_far + sum_by (own m f) now) →
            TellsOf spans m (own m f) (x ∷ xs) o (sum_by (own m f) so_far + sum_by (own m f) now)
        still None told = told
        still (Some p) told =
            subst (λ ys. MatchBool p.is_listed
            (TellsLines spans m (own m f) (stretches ys) (copies_from m (x ∷ xs)) p (sum_by (own m f) so_far + sum_by (own m f) now))
            (sum_by (own m f) so_far + sum_by (own m f) now ≡ 0)) (sym arrivals_same)
            (subst (λ ys. MatchBool p.is_listed
            (TellsLines spans m (own m f) (stretches (arrivals_from m xs)) ys p (sum_by (own m f) so_far + sum_by (own m f) now))
            (sum_by (own m f) so_far + sum_by (own m f) now ≡ 0)) (sym copies_same) told)

-- behind all copies
pub record RunTells (spans : Spans) (first : ℕ) (m : Mac) (f : Listed → ℕ) (xs : List Copied) (sources : List (Mac × Pending))
    (lines : List Listed) : Type 0 where
  pub keeps : KeepsSources first xs sources
  pub order : keys_of sources ≡ heard xs
  pub tells : TellsOf spans m (own m f) xs (lookup (mac_eq m) sources) (sum_by (own m f) lines)

pub run_tells : (spans : Spans) (first : ℕ) (m : Mac) (f : Listed → ℕ) (xs : List Copied) (sources : List (Mac × Pending)) (lines : List Listed) →
    length xs < 2 ^ 64 → ListingRun spans first xs sources lines → RunTells spans first m f xs sources lines
run_tells spans first m f [] sources lines few run = record {
  keeps = subst (KeepsSources first []) (sym run.0) (lists_none first);
  order = ap keys_of run.0;
  tells = subst (λ ls. TellsOf spans m (own m f) [] (lookup (mac_eq m) sources) (sum_by (own m f) ls)) (sym run.1)
      (subst (λ es. TellsOf spans m (own m f) [] (lookup (mac_eq m) es) 0) (sym run.0) refl);
}
run_tells spans first m f (x ∷ xs) sources lines few run =
    let old = run.0 in
    let so_far = run.1 in
    let now = run.2 in
    let call = run.4 in
    let shorter : length xs + 1 < 2 ^ 64 = one_less (length xs) (length (x ∷ xs)) few (omega arith) in
    let before = run_tells spans first m f xs old so_far (omega (arith, shorter)) run.3 in
    record {
      keeps = call.after.lists xs shorter before.keeps;
      order = call.after.order ∙ ap (heard_with x.src) before.order;
      tells = subst (λ ls. TellsOf spans m (own m f) (x ∷ xs) (lookup (mac_eq m) sources) (sum_by (own m f) ls)) (sym run.5)
          (note_told spans first m f x xs old sources call.before now so_far shorter before.keeps call.after before.tells);
    }
  where
    one_less : (n k : ℕ) → k < 2 ^ 64 → k ≡ n + 1 → n + 1 < 2 ^ 64
    one_less n k lt e = omega (arith, lt, e)

-- with the end of a source
not_listed : (m : Mac) (first : ℕ) (xs : List Copied) (b : Bool) → list_any (mac_eq m) (heard xs) ≡ b → b ≡ false → is_listed first m xs ≡ false
not_listed m first xs b is none = ap (λ t. t && is_listed_at first (heard_before m (heard xs))) (is ∙ none)

wanted_of : (spans : Spans) (first : ℕ) (m : Mac) (xs : List Copied) (b : Bool) → is_listed first m xs ≡ b →
    wanted_lines spans first m xs ≡ cond b (all_lines spans m (stretches (arrivals_from m xs)) (copies_from m xs)) []
wanted_of spans first m xs b is = ap (λ t. cond t (all_lines spans m (stretches (arrivals_from m xs)) (copies_from m xs)) []) is

pub sums_agree : (spans : Spans) (first : ℕ) (f : Listed → ℕ) (xs : List Copied) (sources : List (Mac × Pending)) (lines last : List Listed)
    (m : Mac) → length xs < 2 ^ 64 → ListingRun spans first xs sources lines → AppendsLines (FinishesSource spans first m sources) last →
    sum_by f (lines_from m (lines ++ last)) ≡ sum_by f (wanted_lines spans first m xs)
sums_agree spans first f xs sources lines last m few run ends =
    sym (own_from m f (lines ++ last)) ∙ sum_by-append (own m f) lines last
    ∙ by (lookup (mac_eq m) sources) refl all.tells (ends.after.listed xs all.keeps)
  where
    all : RunTells spans first m f xs sources lines
    all = run_tells spans first m f xs sources lines few run

    sums : sum_by (own m f) (ends.before ++ last) ≡ sum_by (own m f) ends.before + sum_by (own m f) last
    sums = sum_by-append (own m f) ends.before last

    heard_is : list_any (mac_eq m) (heard xs) ≡ is_some (lookup (mac_eq m) sources)
    heard_is = ap (list_any (mac_eq m)) (sym all.order) ∙ sym (is_some-lookup (mac_eq m) sources)

    listed_is : (p : Pending) → lookup (mac_eq m) sources ≡ Some p → is_listed first m xs ≡ p.is_listed
    listed_is p found =
        ap (λ t. t && is_listed_at first (heard_before m (heard xs))) (heard_is ∙ ap is_some found)
        ∙ ap (λ ks. is_listed_at first (heard_before m ks)) (sym all.order)
        ∙ ap (is_listed_at first) (from_none (heard_before m (keys_of sources)))
        ∙ sym (listed_rank first 0 sources m p all.keeps.are_listed found)
      where
        from_none : (n : ℕ) → n ≡ 0 + n
        from_none n = omega arith

    nothing : is_listed first m xs ≡ false → sum_by (own m f) lines ≡ 0 → sum_by (own m f) last ≡ 0 →
        sum_by (own m f) lines + sum_by (own m f) last ≡ sum_by f (wanted_lines spans first m xs)
    nothing none a b =
        both_none (sum_by (own m f) lines) (sum_by (own m f) last) a b ∙ sym (ap (sum_by f) (wanted_of spans first m xs false none))

    at_end : (p : Pending) (b : Bool) → lookup (mac_eq m) sources ≡ Some p → p.is_listed ≡ b →
        MatchBool b (TellsLines spans m (own m f) (stretches (arrivals_from m xs)) (copies_from m xs) p (sum_by (own m f) lines))
        (sum_by (own m f) lines ≡ 0) →
        ListsEnd spans p m (stretches (taken_if b (arrivals_from m xs))) ends.before (ends.before ++ last) →
        sum_by (own m f) lines + sum_by (own m f) last ≡ sum_by f (wanted_lines spans first m xs)
    at_end p true found is told lists =
        let has : HasPending (arrivals_from m xs) p = subst (IsPendingFor (length sources) (arrivals_from m xs)) found (all.keeps.each m) in
        end_told spans m (own m f) (stretches (arrivals_from m xs)) (copies_from m xs) p ends.before (ends.before ++ last)
        (sum_by (own m f) lines) (sum_by (own m f) last) (no_empty (arrivals_from m xs))
        (subst (λ b. KeepsFates (current (stretches (taken_if b (arrivals_from m xs)))) p) is has.fates)
        (subst (λ b. KeepsTimes (current (stretches (taken_if b (arrivals_from m xs)))) p.times.items) is has.times) lists sums told
        ∙ own_all spans m f (stretches (arrivals_from m xs)) (copies_from m xs)
        ∙ sym (ap (sum_by f) (wanted_of spans first m xs true (listed_is p found ∙ is)))
    at_end p false found is none same =
        nothing (listed_is p found ∙ is) none (now_none (own m f) ends.before last same)

    by : (o : Option Pending) → lookup (mac_eq m) sources ≡ o → TellsOf spans m (own m f) xs o (sum_by (own m f) lines) →
        ListsLast spans m (arrivals_from m xs) o ends.before (ends.before ++ last) →
        sum_by (own m f) lines + sum_by (own m f) last ≡ sum_by f (wanted_lines spans first m xs)
    by None found none same =
        nothing (not_listed m first xs (is_some (lookup (mac_eq m) sources)) heard_is (ap is_some found)) none
        (now_none (own m f) ends.before last same)
    by (Some p) found told lists = at_end p p.is_listed found refl told lists

pub each_once : ListsEachOnce
each_once spans first xs sources lines last m few run ends test =
    sums_agree spans first (λ l. cond (test l) 1 0) xs sources lines last m few run ends
