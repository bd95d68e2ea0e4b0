-- Calls of a listing make its runs.
use Rattle.std.proofs.Common.{get_or, take, ◌≡◌, ℕ, ◌+◌, ◌-◌, ◌<◌, Bool, true, false, List, [], ◌∷◌, ◌++◌, length, Option, None, Some, arith, append_assoc, refl, sym, ap, ◌∙◌, subst, inl, inr}
use Rattle.std.specs.Prelude.{◌^◌, nat_le, nat_lt, reverse, MatchBool, Result, Ok, Err, OnOk}
use Rattle.std.specs.Map.{lookup, keys_of}
use Rattle.std.proofs.lemmas.Bool.{cases_Bool}
use Rattle.std.proofs.lemmas.List.{take_more, reverse-append, length-reverse, length-take-le}
use Rattle.sr_frame.specs.declared.fields.Mac.{Mac}
use Rattle.sr_frame.specs.Addresses.{mac_eq}
use Rattle.sr_sequence.specs.Numbers.{wire}
use Rattle.sr_sequence.specs.declared.Distance.{Distance}
use Rattle.sr_sequence.specs.declared.Distance.TheVariants.{Behind, Ahead}
use Rattle.sr_audit.specs.declared.arrival.Arrival.{Arrival}
use Rattle.sr_audit.specs.declared.listing.Copied.{Copied}
use Rattle.sr_audit.specs.declared.listing.Listed.{Listed}
use Rattle.sr_audit.specs.declared.pending.Pending.{Pending}
use Rattle.sr_audit.specs.declared.span.Spans.{Spans}
use Rattle.sr_audit.specs.declared.tally.Came.{Came}
use Rattle.sr_audit.specs.Counting.{has_come, came_before_at}
use Rattle.sr_audit.specs.Limits.{kept_numbers, epoch_gap}
use Rattle.sr_audit.specs.Listings.{fate_kept, waiting, paired_as, TakesCopyIf, TakesCopy, left_behind, ListsWaiting, ListsDecided, greatest_in, ListsArrival, ListsEnd}
use Rattle.sr_audit.specs.Looks.{step_to, look_at}
use Rattle.sr_audit.specs.Pendings.{taken_if, arrivals_from, heard_with, IsWas, KeepsSources, ListsCopy, ListsLast}
use Rattle.sr_audit.specs.Stretches.{Placed, top_number, newest_time, lies_from, stretches}
use Rattle.sr_laws_audit.specs.Lists.{lines_from, wanted_lines, NotesCopy, FinishesSource, ListingRun, AreSameLines}
use Rattle.sr_laws_audit.proofs.RunLemmas.{run_tells, each_once}

-- a list that begins with another
abbrev BeginsWith : List Listed → List Listed → Type 0
BeginsWith list after = (now : List Listed) × (after ≡ list ++ now)

append_none : (list : List Listed) → list ≡ list ++ []
append_none [] = refl
append_none (l ∷ list) = ap (λ ls. l ∷ ls) (append_none list)

same_begins : (list after : List Listed) → after ≡ list → BeginsWith list after
same_begins list after same = ([], same ∙ append_none list)

begins_too : (list mid after : List Listed) → BeginsWith list mid → BeginsWith mid after → BeginsWith list after
begins_too list mid after first second =
    (first.0 ++ second.0, second.1 ∙ ap (λ l. l ++ second.0) first.1 ∙ append_assoc list first.0 second.0)

-- a call only appends
goes_begins : (spans : Spans) (p : Pending) (x : Copied) (greatest : ℕ) (soon : Bool) (d : Distance) (list mid : List Listed) →
    ListsDecided spans p x greatest (step_to soon d) list mid → BeginsWith list mid
goes_begins spans p x greatest soon d list mid = by soon d
  where
    waited : ListsWaiting spans p x.src greatest list mid → BeginsWith list mid
    waited lists = (waiting spans p x.src greatest lists.count, lists.listed)

    by : (soon : Bool) (d : Distance) → ListsDecided spans p x greatest (step_to soon d) list mid → BeginsWith list mid
    by true (Behind k) = λ same. same_begins list mid same
    by false (Behind k) = λ lists. waited lists
    by true (Ahead k) =
        elim (cases_Bool (nat_le kept_numbers k)) [
          | inl far ↦ rw far (λ lists. waited lists)
          | inr near ↦ rw near (λ more. (left_behind spans p x.src x.arrival.seq.0 k k, more))
        ]
    by false (Ahead k) =
        elim (cases_Bool (nat_le kept_numbers k)) [
          | inl far ↦ rw far (λ lists. waited lists)
          | inr near ↦ rw near (λ more. (left_behind spans p x.src x.arrival.seq.0 k k, more))
        ]

decided_begins : (spans : Spans) (p : Pending) (x : Copied) (ss : List (List Placed)) (list mid : List Listed) →
    ListsDecided spans p x (greatest_in ss x.arrival.seq.0) (look_at ss x.arrival).step list mid → BeginsWith list mid
decided_begins spans p x [] list mid same = same_begins list mid same
decided_begins spans p x (s ∷ rest) list mid decided =
    goes_begins spans p x (wire (top_number s)) (nat_lt (x.arrival.time - newest_time s) epoch_gap) (lies_from s x.arrival.seq.0) list mid decided

taken_begins : (k : Came) (x : Copied) (p new : Pending) (mid after : List Listed) → TakesCopy k x p new mid after → BeginsWith mid after
taken_begins k x p new mid after taken = by (has_come k) (came_before_at k x.arrival.side) taken
  where
    by : (come here : Bool) → TakesCopyIf come here x p new mid after → BeginsWith mid after
    by false here t = same_begins mid after t.1
    by true true t = same_begins mid after t.1
    by true false t = (paired_as p x (fate_kept p x.arrival.seq.0), t.1)

copy_begins : (spans : Spans) (ys : List Arrival) (x : Copied) (was new : Option Pending) (list after : List Listed) →
    ListsCopy spans ys x was new list after → BeginsWith list after
copy_begins spans ys x was None list after lists = same_begins list after lists
copy_begins spans ys x was (Some new) list after lists = by new.is_listed lists
  where
    by : (b : Bool) → MatchBool b ((old : Pending) × IsWas was old × ListsArrival spans (stretches ys) x old new list after) (after ≡ list) →
        BeginsWith list after
    by false same = same_begins list after same
    by true found =
        let l = found.2 in
        begins_too list l.decided after (decided_begins spans l.at x (stretches ys) list l.decided l.goes)
        (taken_begins (look_at (stretches ys) x.arrival).came x l.between new l.decided after l.taken)

end_begins : (spans : Spans) (src : Mac) (ys : List Arrival) (o : Option Pending) (list after : List Listed) →
    ListsLast spans src ys o list after → BeginsWith list after
end_begins spans src ys None list after lists = same_begins list after lists
end_begins spans src ys (Some p) list after lists = by (stretches (taken_if p.is_listed ys)) lists
  where
    by : (ss : List (List Placed)) → ListsEnd spans p src ss list after → BeginsWith list after
    by [] same = same_begins list after same
    by (s ∷ rest) waits = (waiting spans p src (wire (top_number s)) waits.count, waits.listed)

-- so does a run go on
pub run_more : (spans : Spans) (first : ℕ) (x : Copied) (copies : List Copied) (old new : List (Mac × Pending)) (list after : List Listed) →
    length copies + 1 < 2 ^ 64 → ListingRun spans first copies old list → NotesCopy spans first x old new list after →
    ListingRun spans first (x ∷ copies) new after
run_more spans first x copies old new list after few run notes =
    let keeps = (run_tells spans first x.src (λ l. 0) copies old list (omega (arith, few)) run).keeps in
    let more = copy_begins spans (arrivals_from x.src copies) x (lookup (mac_eq x.src) old) (lookup (mac_eq x.src) new) list after
    (notes.listed copies keeps) in
    (old, list, more.0, run, record { before = list; after = subst (NotesCopy spans first x old new list) more.1 notes }, more.1)

pub run_ends : (spans : Spans) (first : ℕ) (copies : List Copied) (sources : List (Mac × Pending)) (list after : List Listed) (m : Mac) →
    length copies < 2 ^ 64 → ListingRun spans first copies sources list → FinishesSource spans first m sources list after →
    AreSameLines (lines_from m after) (wanted_lines spans first m copies)
run_ends spans first copies sources list after m few run ends =
    let keeps = (run_tells spans first m (λ l. 0) copies sources list few run).keeps in
    let more = end_begins spans m (arrivals_from m copies) (lookup (mac_eq m) sources) list after (ends.listed copies keeps) in
    subst (λ ls. AreSameLines (lines_from m ls) (wanted_lines spans first m copies)) (sym more.1)
    (each_once spans first copies sources list more.0 m few run
    (record { before = list; after = subst (FinishesSource spans first m sources list) more.1 ends }))

-- the answer of a call
pub note_runs : {T E : Type 0} (r : Result T E) (spans : Spans) (first : ℕ) (x : Copied) (old new : List (Mac × Pending))
    (list after : List Listed) → x.arrival.seq.0 < 65536 →
    OnOk r ((xs : List Copied) → length xs + 1 < 2 ^ 64 → KeepsSources first xs old → KeepsSources first (x ∷ xs) new) →
    OnOk r ((xs : List Copied) → KeepsSources first xs old →
    ListsCopy spans (arrivals_from x.src xs) x (lookup (mac_eq x.src) old) (lookup (mac_eq x.src) new) list after) →
    OnOk r (keys_of new ≡ heard_with x.src (keys_of old)) →
    ((m : Mac) → mac_eq m x.src ≡ false → lookup (mac_eq m) new ≡ lookup (mac_eq m) old) →
    OnOk r ((copies : List Copied) → length copies + 1 < 2 ^ 64 → ListingRun spans first copies old list →
    ListingRun spans first (x ∷ copies) new after)
note_runs (Ok v) spans first x old new list after fits lists listed order others =
    λ copies few run. run_more spans first x copies old new list after few run
    (record { fits = fits; lists = lists; listed = listed; order = order; others = others })
note_runs (Err e) spans first x old new list after fits lists listed order others = tt

-- calls of a listing whose captures and first source are these
run_on : (spans now : Spans) (first at : ℕ) (x : Copied) (copies : List Copied) (old new : List (Mac × Pending)) (list after : List Listed) →
    now ≡ spans → at ≡ first → length copies + 1 < 2 ^ 64 →
    ((cs : List Copied) → length cs + 1 < 2 ^ 64 → ListingRun now at cs old list → ListingRun now at (x ∷ cs) new after) →
    ListingRun spans first copies old list → ListingRun spans first (x ∷ copies) new after
run_on spans now first at x copies old new list after same same_first few on run =
    subst (λ s. ListingRun s first (x ∷ copies) new after) same
    (subst (λ n. ListingRun now n (x ∷ copies) new after) same_first
    (on copies few (subst (λ n. ListingRun now n copies old list) (sym same_first) (subst (λ s. ListingRun s first copies old list) (sym same) run))))

-- with the next of these copies
pub run_next : (spans now : Spans) (first at : ℕ) (xs : List Copied) (i : ℕ) (d : Copied) (old new : List (Mac × Pending))
    (list after : List Listed) → now ≡ spans → at ≡ first → i < length xs → length xs < 2 ^ 64 →
    ((cs : List Copied) → length cs + 1 < 2 ^ 64 → ListingRun now at cs old list → ListingRun now at (get_or xs i d ∷ cs) new after) →
    ListingRun spans first (reverse (take i xs)) old list → ListingRun spans first (reverse (take (i + 1) xs)) new after
run_next spans now first at xs i d old new list after same same_first within few on run =
    subst (λ cs. ListingRun spans first cs new after) (sym back)
    (run_on spans now first at (get_or xs i d) (reverse (take i xs)) old new list after same same_first shorter on run)
  where
    back : reverse (take (i + 1) xs) ≡ get_or xs i d ∷ reverse (take i xs)
    back = ap reverse (take_more xs i d within) ∙ reverse-append (take i xs) (get_or xs i d ∷ [])

    shorter : length (reverse (take i xs)) + 1 < 2 ^ 64
    shorter = omega (arith, length-reverse (take i xs), length-take-le i xs (omega (arith, within)), within, few)

pub ends_on : (spans now : Spans) (first at : ℕ) (src : Mac) (sources : List (Mac × Pending)) (list after : List Listed) → now ≡ spans →
    at ≡ first →
    ((xs : List Copied) → KeepsSources at xs sources → ListsLast now src (arrivals_from src xs) (lookup (mac_eq src) sources) list after) →
    FinishesSource spans first src sources list after
ends_on spans now first at src sources list after same same_first lists = record {
  listed = λ xs keeps. subst (λ s. ListsLast s src (arrivals_from src xs) (lookup (mac_eq src) sources) list after) same
      (lists xs (subst (λ n. KeepsSources n xs sources) (sym same_first) keeps));
}
