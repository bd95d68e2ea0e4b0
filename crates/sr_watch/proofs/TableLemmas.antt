-- What is kept of many sources follows their arrivals and their lines.
use Rattle.std.proofs.Common.{◌≡◌, ℕ, ◌+◌, ◌<◌, ◌≤◌, Bool, true, false, cond, List, [], ◌∷◌, ◌++◌, length, Option, None, Some, is_some, arith, refl, sym, ap, ◌∙◌, subst, inl, inr}
use Rattle.std.specs.Prelude.{◌^◌, nat_le, filter, IfSome, IfNone, OnErr, Result, Ok, Err}
use Rattle.std.specs.List.{IsDistinct, AllByRecursion}
use Rattle.std.specs.Map.{lookup, keys_of, set_value}
use Rattle.std.proofs.lemmas.Bool.{cases_Bool}
use Rattle.std.proofs.lemmas.Map.Made.{is_some-lookup}
use Rattle.sr_frame.specs.declared.fields.Mac.{Mac}
use Rattle.sr_frame.specs.Addresses.{mac_eq}
use Rattle.sr_frame.specs.AddressLemmas.{mac_same, mac_symm, mac_refl}
use Rattle.sr_slots.specs.Calls.{passing}
use Rattle.sr_slots.specs.EntryLemmas.{lookup-set, lookup-push, lookup-passing}
use Rattle.sr_audit.specs.declared.arrival.Arrival.{Arrival}
use Rattle.sr_audit.specs.Audits.{Sent, of}
use Rattle.sr_watch.specs.declared.report.SourceLine.{SourceLine}
use Rattle.sr_watch.specs.declared.tracked.Tracked.{Tracked}
use Rattle.sr_watch.specs.Changed.{changes_between, sum_of, as_changes}
use Rattle.sr_watch.specs.Tracking.{Watched, TellsLine}
use Rattle.sr_watch.specs.Forgetting.{left_from}
use Rattle.sr_watch.specs.Ranks.{rank_in}
use Rattle.sr_watch.specs.Watching.{lines_about, IsWatchedFor, Watches, is_tabled, those_sent, lines_by, with_entry_of, tabled_with, TellsSource}

-- no source has more arrivals than there are
length-of : (m : Mac) (xs : List Sent) → length (of m xs) ≤ length xs
length-of m [] = omega arith
length-of m (x ∷ xs) =
    elim (cases_Bool (mac_eq m x.0)) [
      | inl own ↦ rw own (omega (arith, length-of m xs))
      | inr other ↦ rw other (omega (arith, length-of m xs))
    ]

-- an entry for a source that has none
pub watches_made : (xs : List Sent) (lines : List SourceLine) (entries : List (Mac × Tracked)) (src : Mac) (s : Tracked) →
    lookup (mac_eq src) entries ≡ None → Watched [] [] s → Watches xs lines entries → Watches xs lines (entries ++ (src, s) ∷ [])
watches_made xs lines entries src s absent empty watches =
    record { each = λ m. rw (lookup-push src m s entries absent) (by m (mac_eq src m) refl) }
  where
    nothing : (of src xs ≡ []) × (lines_about src lines ≡ [])
    nothing = subst (IsWatchedFor (of src xs) (lines_about src lines)) absent (watches.each src)

    by : (m : Mac) (t : Bool) → mac_eq src m ≡ t →
        IsWatchedFor (of m xs) (lines_about m lines) (cond t (Some s) (lookup (mac_eq m) entries))
    by m true same =
        let none : of m xs ≡ [] = ap (λ k. of k xs) (sym (mac_same src m same)) ∙ nothing.0 in
        let untold : lines_about m lines ≡ [] = ap (λ k. lines_about k lines) (sym (mac_same src m same)) ∙ nothing.1 in
        subst (λ ys. Watched ys (lines_about m lines) s) (sym none) (subst (λ ls. Watched [] ls s) (sym untold) empty)
    by m false other = watches.each m

-- what is kept of a source that has an entry
pub own_of : (xs : List Sent) (lines : List SourceLine) (entries : List (Mac × Tracked)) (m src : Mac) (was : Tracked) → m ≡ src →
    lookup (mac_eq src) entries ≡ Some was → Watches xs lines entries → Watched (of m xs) (lines_about m lines) was
own_of xs lines entries m src was same found watches =
    subst (IsWatchedFor (of m xs) (lines_about m lines)) (ap (λ k. lookup (mac_eq k) entries) same ∙ found) (watches.each m)

-- an entry that changed, and the arrival that it took
pub watches_taken : (xs : List Sent) (lines : List SourceLine) (entries : List (Mac × Tracked)) (src : Mac) (x : Arrival) (was is : Tracked) →
    length xs + 1 < 2 ^ 64 → lookup (mac_eq src) entries ≡ Some was →
    ((ys : List Arrival) (ls : List SourceLine) → length ys + 1 < 2 ^ 64 → Watched ys ls was → Watched (x ∷ ys) ls is) → Watches xs lines entries →
    Watches ((src, x) ∷ xs) lines (set_value (mac_eq src) entries is)
watches_taken xs lines entries src x was is few found takes watches =
    record {
      each = λ m. rw (lookup-set src m is entries (ap is_some found))
          (by m (mac_eq m src) refl);
    }
  where
    by : (m : Mac) (t : Bool) → mac_eq m src ≡ t →
        IsWatchedFor (cond (mac_eq m src) (x ∷ of m xs) (of m xs)) (lines_about m lines)
        (cond (mac_eq src m) (Some is) (lookup (mac_eq m) entries))
    by m true same = rw (same, mac_symm src m ∙ same) (takes (of m xs) (lines_about m lines) (omega (arith, few, length-of m xs))
        (own_of xs lines entries m src was (mac_same m src same) found watches))
    by m false other = rw (other, mac_symm src m ∙ other) (watches.each m)

-- an entry that changed, and the line that was told of it
pub watches_told : (xs : List Sent) (lines : List SourceLine) (entries : List (Mac × Tracked)) (src : Mac) (line : SourceLine) (was is : Tracked) →
    line.source ≡ src → lookup (mac_eq src) entries ≡ Some was →
    ((ys : List Arrival) (ls : List SourceLine) → Watched ys ls was → Watched ys (line ∷ ls) is) → Watches xs lines entries →
    Watches xs (line ∷ lines) (set_value (mac_eq src) entries is)
watches_told xs lines entries src line was is source found keeps watches =
    record {
      each = λ m. rw (lookup-set src m is entries (ap is_some found))
          (subst (λ b. IsWatchedFor (of m xs) (cond b (line ∷ lines_about m lines) (lines_about m lines))
          (cond (mac_eq src m) (Some is) (lookup (mac_eq m) entries))) (sym (ap (mac_eq m) source)) (by m (mac_eq m src) refl));
    }
  where
    by : (m : Mac) (t : Bool) → mac_eq m src ≡ t →
        IsWatchedFor (of m xs) (cond (mac_eq m src) (line ∷ lines_about m lines) (lines_about m lines))
        (cond (mac_eq src m) (Some is) (lookup (mac_eq m) entries))
    by m true same = rw (same, mac_symm src m ∙ same) (keeps (of m xs) (lines_about m lines)
        (own_of xs lines entries m src was (mac_same m src same) found watches))
    by m false other = rw (other, mac_symm src m ∙ other) (watches.each m)

-- a line of a source tells of its arrivals
pub tells_of : (mark : ℕ) (src : Mac) (entries : List (Mac × Tracked)) (line : SourceLine) (was is : Tracked) → line.source ≡ src →
    lookup (mac_eq src) entries ≡ Some was → TellsLine mark was is line → TellsSource mark src entries (set_value (mac_eq src) entries is) line
tells_of mark src entries line was is source found tells =
    record {
      source = source;
      total = λ xs lines few watches. tells.total (of src xs) few (own xs lines watches).tracks;
      last = λ xs lines watches. tells.last (of src xs) (own xs lines watches).tracks;
      waiting = λ xs lines few watches. tells.waiting (of src xs) few (own xs lines watches).tracks;
      since = λ xs lines watches. tells.interval ∙ ap (λ told. changes_between told line.total) (own xs lines watches).since;
      together = λ xs lines few watches.
          let watched = own xs lines watches in
          ap sum_of (first lines) ∙ ((tells.keeps (of src xs) (lines_about src lines) watched).told few).sums
          ∙ ap as_changes (tells.all ∙ tells.total (of src xs) few watched.tracks);
      keeps = λ xs lines watches. watches_told xs lines entries src line was is source found tells.keeps watches;
    }
  where
    own : (xs : List Sent) (lines : List SourceLine) → Watches xs lines entries → Watched (of src xs) (lines_about src lines) was
    own xs lines watches = own_of xs lines entries src src was refl found watches

    first : (lines : List SourceLine) → lines_about src (line ∷ lines) ≡ line ∷ lines_about src lines
    first lines = ap (λ b. cond b (line ∷ lines_about src lines) (lines_about src lines)) (ap (mac_eq src) source ∙ mac_refl src)

-- an entry that changed in nothing that was noted or told
pub watches_kept : (xs : List Sent) (lines : List SourceLine) (entries : List (Mac × Tracked)) (src : Mac) (was is : Tracked) →
    lookup (mac_eq src) entries ≡ Some was → ((ys : List Arrival) (ls : List SourceLine) → Watched ys ls was → Watched ys ls is) →
    Watches xs lines entries → Watches xs lines (set_value (mac_eq src) entries is)
watches_kept xs lines entries src was is found keeps watches =
    record {
      each = λ m. rw (lookup-set src m is entries (ap is_some found)) (by m (mac_eq src m) refl);
    }
  where
    by : (m : Mac) (t : Bool) → mac_eq src m ≡ t →
        IsWatchedFor (of m xs) (lines_about m lines) (cond t (Some is) (lookup (mac_eq m) entries))
    by m true same = keeps (of m xs) (lines_about m lines) (own_of xs lines entries m src was (sym (mac_same src m same)) found watches)
    by m false other = watches.each m

-- the entry that was made is there
pub made_is : (entries : List (Mac × Tracked)) (src : Mac) (s : Tracked) → lookup (mac_eq src) entries ≡ None →
    true ≡ is_some (lookup (mac_eq src) (entries ++ (src, s) ∷ []))
made_is entries src s absent = rw (lookup-push src src s entries absent, mac_refl src) refl

-- a look-up that finds nothing
pub nothing_there : {X : Type 0} (o : Option X) → is_some o ≡ false → o ≡ None
nothing_there None lacks = refl
nothing_there (Some x) lacks = absurd cc

-- what holds where there is no answer
pub without_answer : {X : Type 0} {P : Type 0} (o : Option X) → is_some o ≡ false → IfNone o P → P
without_answer None lacks holds = holds
without_answer (Some x) lacks holds = absurd cc

-- a write at an address changes nothing of which addresses have an entry
known_set : (entries : List (Mac × Tracked)) (src m : Mac) (was is : Tracked) → lookup (mac_eq src) entries ≡ Some was →
    is_some (lookup (mac_eq m) (set_value (mac_eq src) entries is)) ≡ is_some (lookup (mac_eq m) entries)
known_set entries src m was is found = ap is_some (lookup-set src m is entries (ap is_some found)) ∙ by (mac_eq src m) refl
  where
    by : (t : Bool) → mac_eq src m ≡ t → is_some (cond t (Some is) (lookup (mac_eq m) entries)) ≡ is_some (lookup (mac_eq m) entries)
    by true same = sym (ap (λ k. is_some (lookup (mac_eq k) entries)) (sym (mac_same src m same)) ∙ ap is_some found)
    by false other = refl

pub own_set : (entries : List (Mac × Tracked)) (src : Mac) (was is : Tracked) → lookup (mac_eq src) entries ≡ Some was →
    is_some (lookup (mac_eq src) (set_value (mac_eq src) entries is)) ≡ true
own_set entries src was is found = known_set entries src src was is found ∙ ap is_some found

-- what holds where there is an answer
pub with_answer : {X : Type 0} {P : Type 0} (o : Option X) → is_some o ≡ true → IfSome o (λ x. P) → P
with_answer None there holds = absurd cc
with_answer (Some x) there holds = holds

-- what holds holds where there is an error
pub on_any_error : {X E : Type 0} {P : Type 0} (r : Result X E) → P → OnErr r P
on_any_error (Ok x) holds = tt
on_any_error (Err e) holds = holds

either : {X : Type 0} (b : Bool) (xs : List X) → xs ≡ cond b xs xs
either true xs = refl
either false xs = refl

-- the arrivals and the lines of a source, among those of some sources
pub of_those : (stays : Mac → Bool) (m : Mac) (xs : List Sent) → of m (those_sent stays xs) ≡ cond (stays m) (of m xs) []
of_those stays m [] = either (stays m) []
of_those stays m (x ∷ xs) = by (mac_eq m x.0) refl (of_those stays m xs)
  where
    own : (b c : Bool) → b ≡ c → mac_eq m x.0 ≡ true → of m (those_sent stays xs) ≡ cond c (of m xs) [] →
        of m (cond b (x ∷ those_sent stays xs) (those_sent stays xs)) ≡ cond c (x.1 ∷ of m xs) []
    own true true same is rest = ap (λ t. cond t (x.1 ∷ of m (those_sent stays xs)) (of m (those_sent stays xs))) is ∙ ap (λ ys. x.1 ∷ ys) rest
    own false false same is rest = rest
    own true false same is rest = absurd cc
    own false true same is rest = absurd cc

    other : (b : Bool) → mac_eq m x.0 ≡ false → of m (those_sent stays xs) ≡ cond (stays m) (of m xs) [] →
        of m (cond b (x ∷ those_sent stays xs) (those_sent stays xs)) ≡ cond (stays m) (of m xs) []
    other true is rest = ap (λ t. cond t (x.1 ∷ of m (those_sent stays xs)) (of m (those_sent stays xs))) is ∙ rest
    other false is rest = rest

    by : (t : Bool) → mac_eq m x.0 ≡ t → of m (those_sent stays xs) ≡ cond (stays m) (of m xs) [] →
        of m (those_sent stays (x ∷ xs)) ≡ cond (stays m) (cond t (x.1 ∷ of m xs) (of m xs)) []
    by true is rest = own (stays x.0) (stays m) (ap stays (sym (mac_same m x.0 is))) is rest
    by false is rest = other (stays x.0) is rest

about_those : (stays : Mac → Bool) (m : Mac) (lines : List SourceLine) →
    lines_about m (lines_by stays lines) ≡ cond (stays m) (lines_about m lines) []
about_those stays m [] = either (stays m) []
about_those stays m (x ∷ xs) = by (mac_eq m x.source) refl (about_those stays m xs)
  where
    own : (b c : Bool) → b ≡ c → mac_eq m x.source ≡ true → lines_about m (lines_by stays xs) ≡ cond c (lines_about m xs) [] →
        lines_about m (cond b (x ∷ lines_by stays xs) (lines_by stays xs)) ≡ cond c (x ∷ lines_about m xs) []
    own true true same is rest =
        ap (λ t. cond t (x ∷ lines_about m (lines_by stays xs)) (lines_about m (lines_by stays xs))) is ∙ ap (λ ys. x ∷ ys) rest
    own false false same is rest = rest
    own true false same is rest = absurd cc
    own false true same is rest = absurd cc

    other : (b : Bool) → mac_eq m x.source ≡ false → lines_about m (lines_by stays xs) ≡ cond (stays m) (lines_about m xs) [] →
        lines_about m (cond b (x ∷ lines_by stays xs) (lines_by stays xs)) ≡ cond (stays m) (lines_about m xs) []
    other true is rest = ap (λ t. cond t (x ∷ lines_about m (lines_by stays xs)) (lines_about m (lines_by stays xs))) is ∙ rest
    other false is rest = rest

    by : (t : Bool) → mac_eq m x.source ≡ t → lines_about m (lines_by stays xs) ≡ cond (stays m) (lines_about m xs) [] →
        lines_about m (lines_by stays (x ∷ xs)) ≡ cond (stays m) (cond t (x ∷ lines_about m xs) (lines_about m xs)) []
    by true is rest = own (stays x.source) (stays m) (ap stays (sym (mac_same m x.source is))) is rest
    by false is rest = other (stays x.source) is rest

-- where sources are forgotten
pub watches_forgot : (xs : List Sent) (lines : List SourceLine) (old new : List (Mac × Tracked)) (limit : ℕ) → IsDistinct mac_eq (keys_of old) →
    new ≡ left_from limit old → Watches xs lines old → Watches (those_sent (is_tabled new) xs) (lines_by (is_tabled new) lines) new
watches_forgot xs lines old new limit unique is watches =
    record { each = λ m. go m (lookup (mac_eq m) old) (lookup (mac_eq m) new) refl (there m) (watches.each m) }
  where
    test : Tracked → Bool
    test t = nat_le limit (rank_in t)

    there : (m : Mac) → lookup (mac_eq m) new ≡ passing test (lookup (mac_eq m) old)
    there m = ap (lookup (mac_eq m)) is ∙ lookup-passing test m old unique

    all : (m : Mac) (t : Tracked) → is_tabled new m ≡ true → Watched (of m xs) (lines_about m lines) t →
        Watched (of m (those_sent (is_tabled new) xs)) (lines_about m (lines_by (is_tabled new) lines)) t
    all m t tabled watched =
        rw (of_those (is_tabled new) m xs, about_those (is_tabled new) m lines, tabled) watched

    none : (m : Mac) → is_tabled new m ≡ false →
        (of m (those_sent (is_tabled new) xs) ≡ []) × (lines_about m (lines_by (is_tabled new) lines) ≡ [])
    none m gone = (
      of_those (is_tabled new) m xs ∙ ap (λ b. cond b (of m xs) []) gone,
      about_those (is_tabled new) m lines ∙ ap (λ b. cond b (lines_about m lines) []) gone,
    )

    kept : (m : Mac) (t : Tracked) (b : Bool) (n : Option Tracked) → is_tabled new m ≡ is_some n → n ≡ cond b (Some t) None →
        Watched (of m xs) (lines_about m lines) t →
        IsWatchedFor (of m (those_sent (is_tabled new) xs)) (lines_about m (lines_by (is_tabled new) lines)) n
    kept m t true n tabled same watched =
        subst (IsWatchedFor (of m (those_sent (is_tabled new) xs)) (lines_about m (lines_by (is_tabled new) lines))) (sym same)
        (all m t (tabled ∙ ap is_some same) watched)
    kept m t false n tabled same watched =
        subst (IsWatchedFor (of m (those_sent (is_tabled new) xs)) (lines_about m (lines_by (is_tabled new) lines))) (sym same)
        (none m (tabled ∙ ap is_some same))

    go : (m : Mac) (o n : Option Tracked) → is_tabled new m ≡ is_some n → n ≡ passing test o →
        IsWatchedFor (of m xs) (lines_about m lines) o →
        IsWatchedFor (of m (those_sent (is_tabled new) xs)) (lines_about m (lines_by (is_tabled new) lines)) n
    go m None n tabled same watched =
        subst (IsWatchedFor (of m (those_sent (is_tabled new) xs)) (lines_about m (lines_by (is_tabled new) lines))) (sym same)
        (none m (tabled ∙ ap is_some same))
    go m (Some t) n tabled same watched = kept m t (test t) n tabled same watched

-- a source that has an entry gets none, and one that has none gets one behind the others
pub known_tabled : (m : Mac) (entries : List (Mac × Tracked)) → is_some (lookup (mac_eq m) entries) ≡ true →
    keys_of entries ≡ with_entry_of m (keys_of entries)
known_tabled m entries there =
    sym (ap (λ b. cond b (keys_of entries) (keys_of entries ++ m ∷ [])) (sym (is_some-lookup (mac_eq m) entries) ∙ there))

keys_behind : (m : Mac) (s : Tracked) (entries : List (Mac × Tracked)) → keys_of (entries ++ (m, s) ∷ []) ≡ keys_of entries ++ m ∷ []
keys_behind m s [] = refl
keys_behind m s (e ∷ es) = ap (λ ks. e.0 ∷ ks) (keys_behind m s es)

pub made_tabled : (m : Mac) (s : Tracked) (entries : List (Mac × Tracked)) → is_some (lookup (mac_eq m) entries) ≡ false →
    keys_of (entries ++ (m, s) ∷ []) ≡ with_entry_of m (keys_of entries)
made_tabled m s entries lacks =
    keys_behind m s entries
    ∙ sym (ap (λ b. cond b (keys_of entries) (keys_of entries ++ m ∷ [])) (sym (is_some-lookup (mac_eq m) entries) ∙ lacks))

pub tabled_by : (b : Bool) (m : Mac) (old : List Mac) (new : List (Mac × Tracked)) → is_tabled new m ≡ b →
    keys_of new ≡ tabled_with b m old → keys_of new ≡ tabled_with (is_tabled new m) m old
tabled_by b m old new is tabled = tabled ∙ ap (λ t. tabled_with t m old) (sym is)

-- a source whose address is none of some entries has none of them, and one that has one of them is another one
absent_in : (m : Mac) (es : List (Mac × Tracked)) → AllByRecursion (λ y. mac_eq m y ≡ false) (keys_of es) → lookup (mac_eq m) es ≡ None
absent_in m [] apart = refl
absent_in m (e ∷ es) apart = ap (λ b. cond b (Some e.1) (lookup (mac_eq m) es)) apart.0 ∙ absent_in m es apart.1

other_than : (k m : Mac) (es : List (Mac × Tracked)) → AllByRecursion (λ y. mac_eq k y ≡ false) (keys_of es) →
    is_some (lookup (mac_eq m) es) ≡ true → mac_eq m k ≡ false
other_than k m es apart there = by (mac_eq m k) refl
  where
    by : (b : Bool) → mac_eq m k ≡ b → mac_eq m k ≡ false
    by false other = other
    by true same =
        let none : lookup (mac_eq m) es ≡ None =
        absent_in m es (subst (λ q. AllByRecursion (λ y. mac_eq q y ≡ false) (keys_of es)) (sym (mac_same m k same)) apart) in
        let bad : true ≡ false = sym there ∙ ap is_some none in
        cc

-- the addresses of the entries that pass, where each address has one entry
keys_kept : (stays : Mac → Bool) (test : Tracked → Bool) (es : List (Mac × Tracked)) → IsDistinct mac_eq (keys_of es) →
    ((m : Mac) → is_some (lookup (mac_eq m) es) ≡ true → stays m ≡ is_some (passing test (lookup (mac_eq m) es))) →
    keys_of (filter (λ e. test e.1) es) ≡ filter stays (keys_of es)
unfolding IsDistinct
keys_kept stays test [] unique are = refl
keys_kept stays test (e ∷ es) unique are = by (test e.1) refl (keys_kept stays test es unique.1 later)
  where
    later : (m : Mac) → is_some (lookup (mac_eq m) es) ≡ true → stays m ≡ is_some (passing test (lookup (mac_eq m) es))
    later m there =
        let same : lookup (mac_eq m) (e ∷ es) ≡ lookup (mac_eq m) es =
        ap (λ b. cond b (Some e.1) (lookup (mac_eq m) es)) (other_than e.0 m es unique.0 there) in
        are m (ap is_some same ∙ there) ∙ ap (λ o. is_some (passing test o)) same

    own : lookup (mac_eq e.0) (e ∷ es) ≡ Some e.1
    own = ap (λ b. cond b (Some e.1) (lookup (mac_eq e.0) es)) (mac_refl e.0)

    here : (b : Bool) → test e.1 ≡ b → stays e.0 ≡ is_some (cond b (Some e.1) None)
    here b is = are e.0 (ap is_some own) ∙ ap (λ o. is_some (passing test o)) own ∙ ap (λ t. is_some (cond t (Some e.1) None)) is

    by : (b : Bool) → test e.1 ≡ b → keys_of (filter (λ d. test d.1) es) ≡ filter stays (keys_of es) →
        keys_of (cond b (e ∷ filter (λ d. test d.1) es) (filter (λ d. test d.1) es)) ≡ filter stays (e.0 ∷ keys_of es)
    by true is rest =
        ap (λ ks. e.0 ∷ ks) rest
        ∙ sym (ap (λ t. cond t (e.0 ∷ filter stays (keys_of es)) (filter stays (keys_of es))) (here true is))
    by false is rest =
        rest ∙ sym (ap (λ t. cond t (e.0 ∷ filter stays (keys_of es)) (filter stays (keys_of es))) (here false is))

pub keys_forgot : (old new : List (Mac × Tracked)) (limit : ℕ) → IsDistinct mac_eq (keys_of old) → new ≡ left_from limit old →
    keys_of new ≡ filter (is_tabled new) (keys_of old)
keys_forgot old new limit unique is = ap keys_of is ∙ keys_kept (is_tabled new) test old unique there
  where
    test : Tracked → Bool
    test t = nat_le limit (rank_in t)

    there : (m : Mac) → is_some (lookup (mac_eq m) old) ≡ true → is_tabled new m ≡ is_some (passing test (lookup (mac_eq m) old))
    there m was = ap is_some (ap (lookup (mac_eq m)) is ∙ lookup-passing test m old unique)
