-- What is pending of each of many sources follows their arrivals.
use Rattle.std.proofs.Common.{◌≡◌, ℕ, ◌+◌, ◌<◌, ◌≤◌, ◌⊎◌, Bool, true, false, cond, ◌||◌, List, [], ◌∷◌, ◌++◌, length, Option, None, Some, is_some, arith, refl, sym, ap, ◌∙◌, subst, inl, inr, length-append}
use Rattle.std.specs.Prelude.{◌^◌, nat_le, Result, Ok, Err, OnOk, IfSome, MatchBool}
use Rattle.std.specs.List.{list_any}
use Rattle.std.specs.Map.{lookup, set_value, keys_of}
use Rattle.std.proofs.lemmas.Bool.{cases_Bool, lt-leb}
use Rattle.std.proofs.lemmas.List.{map-append}
use Rattle.std.proofs.lemmas.Map.{length-set_value, keys-set_value}
use Rattle.std.proofs.lemmas.Map.Entries.{length-keys_of}
use Rattle.std.proofs.lemmas.Map.Made.{is_some-lookup}
use Rattle.sr_frame.specs.declared.fields.Mac.{Mac}
use Rattle.sr_frame.specs.Addresses.{mac_eq}
use Rattle.sr_frame.specs.AddressLemmas.{mac_same, mac_symm, mac_refl}
use Rattle.sr_slots.specs.EntryLemmas.{lookup-set, lookup-push}
use Rattle.sr_audit.specs.declared.arrival.Arrival.{Arrival}
use Rattle.sr_audit.specs.declared.listing.Copied.{Copied}
use Rattle.sr_audit.specs.declared.listing.Listed.{Listed}
use Rattle.sr_audit.specs.declared.pending.Pending.{Pending}
use Rattle.sr_audit.specs.declared.span.Spans.{Spans}
use Rattle.sr_audit.specs.Edges.{KeepsTimes}
use Rattle.sr_audit.specs.Fates.{KeepsFates}
use Rattle.sr_audit.specs.Limits.{most_audited}
use Rattle.sr_audit.specs.Listings.{KeepsPlaces, ListsArrival, ListsEnd, SettlesAll}
use Rattle.sr_audit.specs.Pendings.{IsRoomMade, taken_if, HasPending, NotesNext, EndsListing, arrivals_from, is_listed_at, AreListedFrom, heard_with, IsPendingFor, KeepsSources, IsWas, ListsCopy, ListsLast, ChangesAtMost, NotesAt, EndsSource, LeavesNothing}
use Rattle.sr_audit.specs.Stretches.{stretches, current}
use Rattle.sr_audit.specs.Taken.{IsKeptIn}
use Rattle.sr_audit.proofs.FollowingLemmas.{KeepsAll, pending_follows}

-- the end of a source's arrivals
left_settled : (xs : List Arrival) (old new : Pending) → IsRoomMade xs old → (KeepsPlaces old → SettlesAll new) → (xs ≡ []) ⊎ SettlesAll new
left_settled [] old new room settled = inl refl
left_settled (x ∷ xs) old new room settled = inr (settled room)

pub ends_as : (spans : Spans) (src : Mac) (old new : Pending) (before after : List Listed) → new.is_listed ≡ old.is_listed →
    ((xs : List Arrival) → IsKeptIn xs old.numbers → ListsEnd spans old src (stretches xs) before after) →
    ((xs : List Arrival) → IsKeptIn xs old.numbers → IsRoomMade xs old → (xs ≡ []) ⊎ SettlesAll new) →
    EndsListing spans src old new before after
ends_as spans src old new before after same ends settled =
    record {
      is_listed = same;
      listed = λ xs has. ends (taken_if old.is_listed xs) has.numbers;
      settled = λ xs has. subst (λ b. (taken_if b xs ≡ []) ⊎ SettlesAll new) (sym same)
          (settled (taken_if old.is_listed xs) has.numbers has.room);
    }

pub ends_all : (spans : Spans) (src : Mac) (old new : Pending) (before after : List Listed) → new.is_listed ≡ old.is_listed →
    ((xs : List Arrival) → IsKeptIn xs old.numbers → ListsEnd spans old src (stretches xs) before after) →
    (KeepsPlaces old → SettlesAll new) → EndsListing spans src old new before after
ends_all spans src old new before after same ends settled =
    ends_as spans src old new before after same ends (λ xs kept room. left_settled xs old new room settled)

-- nothing is listed at the end of a source of which nothing was taken
pub ends_empty : (spans : Spans) (src : Mac) (p : Pending) (list : List Listed) → p.numbers ≡ None → EndsListing spans src p p list list
ends_empty spans src p list none =
    ends_as spans src p p list list refl (λ xs kept. subst (λ ys. ListsEnd spans p src (stretches ys) list list) (sym (nothing xs kept)) refl)
    (λ xs kept room. inl (nothing xs kept))
  where
    nothing : (xs : List Arrival) → IsKeptIn xs p.numbers → xs ≡ []
    nothing xs kept = subst (IsKeptIn xs) none kept

-- room was made, or no place has anything
room_made : (xs : List Arrival) (p : Pending) → IsRoomMade xs p → (p.fates.items ≡ []) ⊎ KeepsPlaces p
room_made [] p places = inl places
room_made (x ∷ xs) p places = inr places

-- what follows from two facts of a result
pub on_ok_both : {T E P Q R : Type 0} (r : Result T E) → (P → Q → R) → OnOk r P → OnOk r Q → OnOk r R
on_ok_both (Ok x) both first second = both first second
on_ok_both (Err e) both first second = tt

-- what is kept at the places stays, and so does the room
pub room_same : (p q : Pending) → q.fates.items ≡ p.fates.items → q.times.items ≡ p.times.items → q.packets.items ≡ p.packets.items →
    KeepsPlaces p → KeepsPlaces q
room_same p q fates times packets room =
    record { fates = ap length fates ∙ room.fates; times = ap length times ∙ room.times; packets = ap length packets ∙ room.packets }

-- the next arrival of a source that is listed
pub notes_listed : (spans : Spans) (x : Copied) (old new : Pending) (before after : List Listed) → x.arrival.seq.0 < 65536 →
    old.is_listed ≡ true →
    new.is_listed ≡ old.is_listed →
    ((xs : List Arrival) → length xs + 1 < 2 ^ 64 → IsKeptIn xs old.numbers → IsKeptIn (x.arrival ∷ xs) new.numbers) →
    ((xs : List Arrival) → IsKeptIn xs old.numbers → (old.fates.items ≡ []) ⊎ KeepsPlaces old → ListsArrival spans (stretches xs) x old new before after) →
    ((old.fates.items ≡ []) ⊎ KeepsPlaces old → KeepsPlaces new) → NotesNext spans x old new before after
notes_listed spans x old new before after fits is same taken listed room =
    record {
      is_listed = same;
      taken = λ xs few has. record {
        numbers = subst (λ b. IsKeptIn (taken_if b (x.arrival ∷ xs)) new.numbers) (sym (same ∙ is)) (taken xs few (kept xs has));
        room = subst (λ b. IsRoomMade (taken_if b (x.arrival ∷ xs)) new) (sym (same ∙ is)) (room (room_made xs old (places xs has)));
        fates = subst (λ b. KeepsFates (current (stretches (taken_if b (x.arrival ∷ xs)))) new) (sym (same ∙ is))
            (told_next xs has).0;
        times = subst (λ b. KeepsTimes (current (stretches (taken_if b (x.arrival ∷ xs)))) new.times.items) (sym (same ∙ is))
            (told_next xs has).1;
      };
      listed = λ yes xs has. lists xs has;
      passed = λ no. let bad : true ≡ false = sym is ∙ no in absurd cc;
    }
  where
    kept : (xs : List Arrival) → HasPending xs old → IsKeptIn xs old.numbers
    kept xs has = subst (λ b. IsKeptIn (taken_if b xs) old.numbers) is has.numbers

    places : (xs : List Arrival) → HasPending xs old → IsRoomMade xs old
    places xs has = subst (λ b. IsRoomMade (taken_if b xs) old) is has.room

    told : (xs : List Arrival) → HasPending xs old → KeepsFates (current (stretches xs)) old
    told xs has = subst (λ b. KeepsFates (current (stretches (taken_if b xs))) old) is has.fates

    kept_times : (xs : List Arrival) → HasPending xs old → KeepsTimes (current (stretches xs)) old.times.items
    kept_times xs has = subst (λ b. KeepsTimes (current (stretches (taken_if b xs))) old.times.items) is has.times

    empty : (xs : List Arrival) → IsRoomMade xs old → xs ≡ [] → old.fates.items ≡ []
    empty [] made none = made
    empty (y ∷ xs) made none = absurd cc

    lists : (xs : List Arrival) → HasPending xs old → ListsArrival spans (stretches xs) x old new before after
    lists xs has = listed xs (kept xs has) (room_made xs old (places xs has))

    told_next : (xs : List Arrival) → HasPending xs old → KeepsAll (current (stretches (x.arrival ∷ xs))) new
    told_next xs has =
        pending_follows spans xs x old new before after fits (empty xs (places xs has)) (told xs has, kept_times xs has) (lists xs has)

-- the next arrival of another source
pub notes_other : (spans : Spans) (x : Copied) (p : Pending) (list : List Listed) → p.is_listed ≡ false → NotesNext spans x p p list list
notes_other spans x p list not_listed =
    record {
      is_listed = refl;
      taken = λ xs few has. record {
        numbers = subst (λ b. IsKeptIn (taken_if b (x.arrival ∷ xs)) p.numbers) (sym not_listed)
            (subst (λ b. IsKeptIn (taken_if b xs) p.numbers) not_listed has.numbers);
        room = subst (λ b. IsRoomMade (taken_if b (x.arrival ∷ xs)) p) (sym not_listed)
            (subst (λ b. IsRoomMade (taken_if b xs) p) not_listed has.room);
        fates = subst (λ b. KeepsFates (current (stretches (taken_if b (x.arrival ∷ xs)))) p) (sym not_listed)
            (subst (λ b. KeepsFates (current (stretches (taken_if b xs))) p) not_listed has.fates);
        times = subst (λ b. KeepsTimes (current (stretches (taken_if b (x.arrival ∷ xs)))) p.times.items) (sym not_listed)
            (subst (λ b. KeepsTimes (current (stretches (taken_if b xs))) p.times.items) not_listed has.times);
      };
      listed = λ yes. let bad : true ≡ false = sym yes ∙ not_listed in absurd cc;
      passed = λ no. refl;
    }

-- what is pending of a source of which nothing came
pub none_pending : (p : Pending) → p.numbers ≡ None → p.fates.items ≡ [] → p.reach ≡ 0 → HasPending [] p
none_pending p none empty deep = by p.is_listed refl
  where
    by : (b : Bool) → p.is_listed ≡ b → HasPending [] p
    by true is = record {
      numbers = subst (λ b. IsKeptIn (taken_if b []) p.numbers) (sym is) (subst (IsKeptIn []) (sym none) refl);
      room = subst (λ b. IsRoomMade (taken_if b []) p) (sym is) empty;
      fates = subst (λ b. KeepsFates (current (stretches (taken_if b []))) p) (sym is) deep;
      times = subst (λ b. KeepsTimes (current (stretches (taken_if b []))) p.times.items) (sym is)
          (λ n some above. let no : false ≡ true = some in absurd cc);
    }
    by false is = record {
      numbers = subst (λ b. IsKeptIn (taken_if b []) p.numbers) (sym is) (subst (IsKeptIn []) (sym none) refl);
      room = subst (λ b. IsRoomMade (taken_if b []) p) (sym is) empty;
      fates = subst (λ b. KeepsFates (current (stretches (taken_if b []))) p) (sym is) deep;
      times = subst (λ b. KeepsTimes (current (stretches (taken_if b []))) p.times.items) (sym is)
          (λ n some above. let no : false ≡ true = some in absurd cc);
    }

-- no source has more arrivals than there are
length-from : (m : Mac) (xs : List Copied) → length (arrivals_from m xs) ≤ length xs
length-from m [] = omega arith
length-from m (x ∷ xs) =
    elim (cases_Bool (mac_eq m x.src)) [
      | inl own ↦ rw own (omega (arith, length-from m xs))
      | inr other ↦ rw other (omega (arith, length-from m xs))
    ]

-- which sources are listed, with one more, or with another value of one
pub listed_push : (first rank : ℕ) (sources : List (Mac × Pending)) (src : Mac) (p : Pending) →
    p.is_listed ≡ is_listed_at first (rank + length sources) → AreListedFrom first rank sources →
    AreListedFrom first rank (sources ++ (src, p) ∷ [])
listed_push first rank [] src p is are = (is ∙ ap (is_listed_at first) (omega arith), tt)
listed_push first rank (e ∷ rest) src p is are =
    (are.0, listed_push first (rank + 1) rest src p (is ∙ ap (is_listed_at first) (omega arith)) are.1)

pub listed_set : (first rank : ℕ) (sources : List (Mac × Pending)) (src : Mac) (was new : Pending) →
    lookup (mac_eq src) sources ≡ Some was → new.is_listed ≡ was.is_listed → AreListedFrom first rank sources →
    AreListedFrom first rank (set_value (mac_eq src) sources new)
listed_set first rank [] src was new found same are = tt
listed_set first rank (e ∷ rest) src was new found same are =
    by (mac_eq src e.0) found (λ other. listed_set first (rank + 1) rest src was new other same are.1)
  where
    by : (t : Bool) → cond t (Some e.1) (lookup (mac_eq src) rest) ≡ Some was →
        (lookup (mac_eq src) rest ≡ Some was → AreListedFrom first (rank + 1) (set_value (mac_eq src) rest new)) →
        AreListedFrom first rank (cond t ((e.0, new) ∷ rest) (e ∷ set_value (mac_eq src) rest new))
    by true own on =
        let same_one : e.1 ≡ was = cc in
        (same ∙ ap (λ q. q.is_listed) (sym same_one) ∙ are.0, are.1)
    by false other on = (are.0, on other)

-- more sources
pending_later : (count more : ℕ) (xs : List Arrival) (o : Option Pending) → count ≤ more → IsPendingFor count xs o → IsPendingFor more xs o
pending_later count more xs None le (inl none) = inl none
pending_later count more xs None le (inr full) = inr (omega (arith, le, full))
pending_later count more xs (Some p) le has = has

-- nothing came
pub lists_none : (first : ℕ) → KeepsSources first [] []
lists_none first = record { each = λ m. inl refl; are_listed = tt }

-- a source that is new
pub lists_made : (first : ℕ) (xs : List Copied) (sources : List (Mac × Pending)) (src : Mac) (p : Pending) →
    lookup (mac_eq src) sources ≡ None → length sources < most_audited → p.is_listed ≡ is_listed_at first (length sources) →
    p.numbers ≡ None → p.fates.items ≡ [] → p.reach ≡ 0 → KeepsSources first xs sources → KeepsSources first xs (sources ++ (src, p) ∷ [])
lists_made first xs sources src p absent few is none empty deep lists =
    record {
      each = λ m. rw (lookup-push src m p sources absent) (by m (mac_eq src m) refl);
      are_listed = listed_push first 0 sources src p (is ∙ ap (is_listed_at first) (omega arith)) lists.are_listed;
    }
  where
    nothing_came : IsPendingFor (length sources) (arrivals_from src xs) None → arrivals_from src xs ≡ []
    nothing_came (inl nothing) = nothing
    nothing_came (inr full) = absurd (omega (arith, few, full))

    longer : length sources ≤ length (sources ++ (src, p) ∷ [])
    longer = omega (arith, length-append sources ((src, p) ∷ []))

    by : (m : Mac) (t : Bool) → mac_eq src m ≡ t →
        IsPendingFor (length (sources ++ (src, p) ∷ [])) (arrivals_from m xs) (cond t (Some p) (lookup (mac_eq m) sources))
    by m true same =
        let nothing : arrivals_from m xs ≡ [] =
        ap (λ k. arrivals_from k xs) (sym (mac_same src m same))
        ∙ nothing_came (subst (IsPendingFor (length sources) (arrivals_from src xs)) absent (lists.each src)) in
        subst (λ ys. HasPending ys p) (sym nothing) (none_pending p none empty deep)
    by m false other =
        pending_later (length sources) (length (sources ++ (src, p) ∷ [])) (arrivals_from m xs) (lookup (mac_eq m) sources) longer (lists.each m)

-- a copy of a source of which nothing is kept, where there are so many
pub lists_left : (first : ℕ) (xs : List Copied) (sources : List (Mac × Pending)) (x : Copied) → lookup (mac_eq x.src) sources ≡ None →
    most_audited ≤ length sources → KeepsSources first xs sources → KeepsSources first (x ∷ xs) sources
lists_left first xs sources x absent full lists =
    record { each = λ m. by m (mac_eq m x.src) refl; are_listed = lists.are_listed }
  where
    left : (ys : List Arrival) (o : Option Pending) → o ≡ None → IsPendingFor (length sources) ys o
    left ys o none = subst (IsPendingFor (length sources) ys) (sym none) (inr full)

    by : (m : Mac) (t : Bool) → mac_eq m x.src ≡ t →
        IsPendingFor (length sources) (cond t (x.arrival ∷ arrivals_from m xs) (arrivals_from m xs)) (lookup (mac_eq m) sources)
    by m true same = left (x.arrival ∷ arrivals_from m xs) (lookup (mac_eq m) sources)
        (ap (λ k. lookup (mac_eq k) sources) (mac_same m x.src same) ∙ absent)
    by m false other = lists.each m

-- a copy that was noted
pub lists_noted : (spans : Spans) (first : ℕ) (xs : List Copied) (sources : List (Mac × Pending)) (x : Copied) (was new : Pending)
    (before after : List Listed) → length xs + 1 < 2 ^ 64 → lookup (mac_eq x.src) sources ≡ Some was →
    NotesNext spans x was new before after → KeepsSources first xs sources → KeepsSources first (x ∷ xs) (set_value (mac_eq x.src) sources new)
lists_noted spans first xs sources x was new before after few found notes lists =
    record {
      each = λ m. rw (lookup-set x.src m new sources (ap is_some found), length-set_value (mac_eq x.src) sources new)
          (by m (mac_eq m x.src) refl);
      are_listed = listed_set first 0 sources x.src was new found notes.is_listed lists.are_listed;
    }
  where
    own : (m : Mac) → m ≡ x.src → HasPending (x.arrival ∷ arrivals_from m xs) new
    own m same = notes.taken (arrivals_from m xs) (omega (arith, few, length-from m xs))
        (subst (IsPendingFor (length sources) (arrivals_from m xs)) (ap (λ k. lookup (mac_eq k) sources) same ∙ found) (lists.each m))

    by : (m : Mac) (t : Bool) → mac_eq m x.src ≡ t →
        IsPendingFor (length sources) (cond (mac_eq m x.src) (x.arrival ∷ arrivals_from m xs) (arrivals_from m xs))
        (cond (mac_eq x.src m) (Some new) (lookup (mac_eq m) sources))
    by m true same = rw (same, mac_symm x.src m ∙ same) (own m (mac_same m x.src same))
    by m false other = rw (other, mac_symm x.src m ∙ other) (lists.each m)

-- the order of first hearing: with a source that has an entry, with a new one, and where 1024 have one
heard_if : (b : Bool) (m : Mac) (keys : List Mac) → (list_any (mac_eq m) keys || nat_le most_audited (length keys)) ≡ b →
    heard_with m keys ≡ cond b keys (keys ++ m ∷ [])
heard_if b m keys is = ap (λ t. cond t keys (keys ++ m ∷ [])) is

pub heard_known : (m : Mac) (sources : List (Mac × Pending)) → is_some (lookup (mac_eq m) sources) ≡ true →
    keys_of sources ≡ heard_with m (keys_of sources)
heard_known m sources known =
    sym (heard_if true m (keys_of sources) (ap (λ b. b || nat_le most_audited (length (keys_of sources)))
    (sym (is_some-lookup (mac_eq m) sources) ∙ known)))

pub heard_new : (m : Mac) (sources : List (Mac × Pending)) (p : Pending) → lookup (mac_eq m) sources ≡ None →
    length sources < most_audited → keys_of (sources ++ (m, p) ∷ []) ≡ heard_with m (keys_of sources)
heard_new m sources p absent few =
    map-append (λ e. e.0) sources ((m, p) ∷ [])
    ∙ sym (heard_if false m (keys_of sources)
    (ap (λ b. b || nat_le most_audited (length (keys_of sources))) (sym (is_some-lookup (mac_eq m) sources) ∙ ap is_some absent)
    ∙ lt-leb most_audited (length (keys_of sources)) (omega (arith, few, length-keys_of sources))))

-- a source that is new has an entry, and changes no other
pub own_made : (sources : List (Mac × Pending)) (src : Mac) (p : Pending) → lookup (mac_eq src) sources ≡ None →
    true ≡ is_some (lookup (mac_eq src) (sources ++ (src, p) ∷ []))
own_made sources src p absent = rw (lookup-push src src p sources absent, mac_refl src) refl

pub others_made : (sources : List (Mac × Pending)) (src : Mac) (p : Pending) → lookup (mac_eq src) sources ≡ None → (m : Mac) →
    mac_eq m src ≡ false → lookup (mac_eq m) (sources ++ (src, p) ∷ []) ≡ lookup (mac_eq m) sources
others_made sources src p absent m other =
    lookup-push src m p sources absent ∙ ap (λ b. cond b (Some p) (lookup (mac_eq m) sources)) (mac_symm src m ∙ other)

-- a write at a source
pub changes_at_most : (sources : List (Mac × Pending)) (src : Mac) (was new : Pending) → lookup (mac_eq src) sources ≡ Some was →
    new.is_listed ≡ was.is_listed → ChangesAtMost src sources (set_value (mac_eq src) sources new)
changes_at_most sources src was new found same =
    record {
      order = keys-set_value (mac_eq src) sources new;
      others = λ m other. lookup-set src m new sources (ap is_some found)
          ∙ ap (λ b. cond b (Some new) (lookup (mac_eq m) sources)) (mac_symm src m ∙ other);
      are_listed = λ first are. listed_set first 0 sources src was new found same are;
    }

pub changes_none : (src : Mac) (sources : List (Mac × Pending)) → ChangesAtMost src sources sources
changes_none src sources = record { order = refl; others = λ m other. refl; are_listed = λ first are. are }

-- what holds of an answer that is there
pub answer_of : {X : Type 0} (o : Option X) (x : X) (Q : X → Type 0) → o ≡ Some x → IfSome o Q → Q x
answer_of o x Q is holds = subst (λ p. IfSome p Q) is holds

-- the sources with a copy that was noted
pub lists_at : (spans : Spans) (first : ℕ) (xs : List Copied) (x : Copied) (old new : List (Mac × Pending)) (before after : List Listed) →
    length xs + 1 < 2 ^ 64 → NotesAt spans x old new before after → KeepsSources first xs old → KeepsSources first (x ∷ xs) new
lists_at spans first xs x old new before after few at lists =
    subst (KeepsSources first (x ∷ xs)) (sym at.written) (lists_noted spans first xs old x at.was at.is before after few at.found at.notes lists)

-- what was listed of it
pub lists_copy : (spans : Spans) (first : ℕ) (xs : List Copied) (x : Copied) (old mid new : List (Mac × Pending)) (before after : List Listed) →
    (is_some (lookup (mac_eq x.src) old) ≡ true → mid ≡ old) → NotesAt spans x mid new before after → KeepsSources first xs mid →
    ListsCopy spans (arrivals_from x.src xs) x (lookup (mac_eq x.src) old) (lookup (mac_eq x.src) new) before after
lists_copy spans first xs x old mid new before after known at lists =
    subst (λ o. ListsCopy spans (arrivals_from x.src xs) x (lookup (mac_eq x.src) old) o before after) (sym own)
    (by at.was.is_listed refl)
  where
    own : lookup (mac_eq x.src) new ≡ Some at.is
    own = ap (lookup (mac_eq x.src)) at.written ∙ lookup-set x.src x.src at.is mid (ap is_some at.found)
        ∙ ap (λ b. cond b (Some at.is) (lookup (mac_eq x.src) mid)) (mac_refl x.src)

    was_is : (o : Option Pending) → lookup (mac_eq x.src) old ≡ o → IsWas o at.was
    was_is None none = tt
    was_is (Some w) some =
        let same : Some at.was ≡ Some w =
        sym at.found ∙ ap (lookup (mac_eq x.src)) (known (ap is_some some)) ∙ some in
        cc

    has : HasPending (arrivals_from x.src xs) at.was
    has = subst (IsPendingFor (length mid) (arrivals_from x.src xs)) at.found (lists.each x.src)

    Own : Type 0
    Own = (was : Pending) × IsWas (lookup (mac_eq x.src) old) was
        × ListsArrival spans (stretches (arrivals_from x.src xs)) x was at.is before after

    by : (b : Bool) → at.was.is_listed ≡ b →
        ListsCopy spans (arrivals_from x.src xs) x (lookup (mac_eq x.src) old) (Some at.is) before after
    by true is = subst (λ b. MatchBool b Own (after ≡ before)) (sym (at.notes.is_listed ∙ is))
        (at.was, was_is (lookup (mac_eq x.src) old) refl, at.notes.listed is (arrivals_from x.src xs) has)
    by false is = subst (λ b. MatchBool b Own (after ≡ before)) (sym (at.notes.is_listed ∙ is)) (at.notes.passed is)

-- nothing is listed of a source without an entry
pub lists_nothing : (spans : Spans) (xs : List Arrival) (x : Copied) (was new : Option Pending) (list : List Listed) → is_some new ≡ false →
    ListsCopy spans xs x was new list list
lists_nothing spans xs x was None list none = refl
lists_nothing spans xs x was (Some p) list none = absurd cc

-- what was listed at the end of a source
pub lists_last : (spans : Spans) (first : ℕ) (xs : List Copied) (src : Mac) (sources new : List (Mac × Pending)) (before after : List Listed) →
    EndsSource spans src sources new before after → KeepsSources first xs sources →
    ListsLast spans src (arrivals_from src xs) (lookup (mac_eq src) sources) before after
lists_last spans first xs src sources new before after at lists =
    subst (λ o. ListsLast spans src (arrivals_from src xs) o before after) (sym at.found)
    (at.ends.listed (arrivals_from src xs) (subst (IsPendingFor (length sources) (arrivals_from src xs)) at.found (lists.each src)))

-- nothing waits of it then
pub leaves_nothing : (spans : Spans) (first : ℕ) (xs : List Copied) (src : Mac) (sources new : List (Mac × Pending))
    (before after : List Listed) → EndsSource spans src sources new before after → KeepsSources first xs sources →
    IfSome (lookup (mac_eq src) new) (λ p. LeavesNothing (arrivals_from src xs) p)
leaves_nothing spans first xs src sources new before after at lists =
    subst (λ o. IfSome o (λ p. LeavesNothing (arrivals_from src xs) p)) (sym own)
    (at.ends.settled (arrivals_from src xs) (subst (IsPendingFor (length sources) (arrivals_from src xs)) at.found (lists.each src)))
  where
    own : lookup (mac_eq src) new ≡ Some at.is
    own = ap (lookup (mac_eq src)) at.written ∙ lookup-set src src at.is sources (ap is_some at.found)
        ∙ ap (λ b. cond b (Some at.is) (lookup (mac_eq src) sources)) (mac_refl src)

pub none_left : (o : Option Pending) (P : Pending → Type 0) → is_some o ≡ false → IfSome o P
none_left None P none = tt
none_left (Some p) P none = absurd cc

pub last_of_none : (spans : Spans) (src : Mac) (xs : List Arrival) (o : Option Pending) (list : List Listed) → is_some o ≡ false →
    ListsLast spans src xs o list list
last_of_none spans src xs None list none = refl
last_of_none spans src xs (Some p) list none = absurd cc
