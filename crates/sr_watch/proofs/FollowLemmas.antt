-- What a watch keeps, with one call more.
use Rattle.std.proofs.Common.{ℕ, ◌<◌, Bool, true, false, ◌≡◌, suc, ◌+◌, ◌≤◌, List, [], ◌∷◌, ◌++◌, length, drop, Option, None, Some, arith, refl, sym, ap, ◌∙◌, subst}
use Rattle.std.specs.Prelude.{◌^◌, option_to_list}
use Rattle.std.proofs.lemmas.Map.Entries.{length-keys_of}
use Rattle.std.proofs.lemmas.Map.Made.{is_some-lookup}
use Rattle.std.proofs.lemmas.List.Sums.{length-filter, count_by-le-length}
use Rattle.std.specs.Map.{keys_of}
use Rattle.std.specs.Option.{option_map}
use Rattle.sr_frame.specs.declared.fields.Mac.{Mac}
use Rattle.sr_frame.specs.Addresses.{mac_eq}
use Rattle.sr_hold.specs.declared.hold.Released.{Released}
use Rattle.sr_hold.specs.declared.recorder.Recorder.{Recorder}
use Rattle.sr_hold.specs.declared.recorder.Recorder.TheVariants.{A, B}
use Rattle.sr_hold.specs.declared.hold.Held.{Held}
use Rattle.sr_hold.specs.Order.{front_released}
use Rattle.sr_hold.specs.Holding.{due_in as due_in_hold, Holding, next_by, next_of, without_by, without_next}
use Rattle.sr_hold.specs.Turns.{Turn, released_in}
use Rattle.sr_audit.specs.Audits.{Sent}
use Rattle.sr_audit.specs.Limits.{most_audited}
use Rattle.sr_watch.specs.declared.report.SourceLine.{SourceLine}
use Rattle.sr_watch.specs.declared.table.Table.{Table}
use Rattle.sr_watch.specs.declared.tracked.Tracked.{Tracked}
use Rattle.sr_watch.specs.declared.watch.Next.{Next}
use Rattle.sr_watch.specs.declared.watch.Numbered.{Numbered}
use Rattle.sr_watch.specs.declared.watch.Watch.{Watch}
use Rattle.sr_watch.specs.Following.{
  next_as,
  sent_as,
  newest_first,
  due_in,
  Act,
  noted,
  passed,
  told,
  forgot,
  noted_in,
  lines_in,
  taken_in,
  tabled_in,
  FindsNoRoom,
  with_releases,
  with_acts,
  Goes,
  OnlyReleases,
}
use Rattle.sr_watch.specs.Watching.{is_tabled, with_entry_of, tabled_with, left_out_with, Watches}

-- one released more is the newest
newest_last : (xs : List (Released Numbered)) (y : Released Numbered) → newest_first (xs ++ y ∷ []) ≡ sent_as (next_as y) ∷ newest_first xs
newest_last [] y = refl
newest_last (x ∷ xs) y = ap (λ ys. ys ++ sent_as (next_as x) ∷ []) (newest_last xs y)

nothing_more : (xs : List (Released Numbered)) → newest_first (xs ++ []) ≡ newest_first xs
nothing_more [] = refl
nothing_more (x ∷ xs) = ap (λ ys. ys ++ sent_as (next_as x) ∷ []) (nothing_more xs)

-- what a call that releases adds
sent_more : (xs : List (Released Numbered)) (o : Option (Released Numbered)) →
    newest_first (xs ++ option_to_list o) ≡ due_in (option_map next_as o) ++ newest_first xs
sent_more xs None = nothing_more xs
sent_more xs (Some y) = newest_last xs y

-- a call that releases, where nothing waits for memory
pub drawn : (w : Watch) (o : Option (Released Numbered)) (h : Holding Numbered) (n : Option Next) → w.next ≡ None → o ≡ next_of w.hold →
    h ≡ without_next w.hold → n ≡ option_map next_as o →
    OnlyReleases w (record { hold = h; next = n; table = w.table; lans = w.lans; floor = w.floor; settings = w.settings })
drawn w o h n free is rest next =
    record {
      goes = λ slack start turns acts g.
          let f = g.follows in
          let before = with_releases g.releases turns in
          record {
            releases = suc g.releases;
            more = g.more;
            follows = record {
              holds = rest ∙ ap without_next f.holds;
              sent = ap (λ p. newest_first (released_in slack start before ++ option_to_list p)) (sym (is ∙ ap next_of f.holds))
                  ∙ sent_more (released_in slack start before) o
                  ∙ (λ i. due_in (sym next i) ++ (f.sent ∙ ap (λ q. due_in q ++ taken_in (with_acts g.more acts)) free) i);
              watches = f.watches;
              left_out = f.left_out;
              tabled = f.tabled;
              passes = f.passes;
            };
          };
      forgotten = refl;
      lans = refl;
      keeps = record { settings = refl; floor = refl };
    }

-- no more is noted than is taken
few_noted : (acts : List Act) → length (noted_in acts) ≤ length (taken_in acts)
few_noted [] = omega arith
few_noted (noted x ∷ before) = omega (arith, few_noted before)
few_noted (passed x ∷ before) = omega (arith, few_noted before)
few_noted (told line ∷ before) = few_noted before
few_noted (forgot stays ∷ before) =
    omega (arith, length-filter (λ x. stays x.0) (noted_in before), count_by-le-length (λ x. stays x.0) (noted_in before), few_noted before)

-- a source that has no entry, in a table where as many have one as may
no_room : (m : Mac) (entries : List (Mac × Tracked)) (tabled : List Mac) → keys_of entries ≡ tabled → is_tabled entries m ≡ false →
    most_audited ≤ length entries → FindsNoRoom m tabled
no_room m entries tabled same lacks full = subst (FindsNoRoom m) same (
  sym (is_some-lookup (mac_eq m) entries) ∙ lacks,
  subst (λ n. most_audited ≤ n) (sym (length-keys_of entries)) full,
)

-- an arrival that waited for memory is noted, or left out
pub taken : (w : Watch) (n : Next) (t : Table) → w.next ≡ Some n →
    (is_tabled t.sources.entries n.src ≡ true → (xs : List Sent) (lines : List SourceLine) → length xs + 1 < 2 ^ 64 →
    Watches xs lines w.table.sources.entries → Watches (sent_as n ∷ xs) lines t.sources.entries) →
    (is_tabled t.sources.entries n.src ≡ false → (xs : List Sent) (lines : List SourceLine) → Watches xs lines w.table.sources.entries →
    Watches xs lines t.sources.entries) →
    (is_tabled t.sources.entries n.src ≡ false → most_audited ≤ length t.sources.entries) →
    keys_of t.sources.entries ≡ tabled_with (is_tabled t.sources.entries n.src) n.src (keys_of w.table.sources.entries) →
    t.left_out ≡ left_out_with (is_tabled t.sources.entries n.src) w.table.left_out → t.forgotten ≡ w.table.forgotten →
    OnlyReleases w (record { hold = w.hold; next = None; table = t; lans = w.lans; floor = w.floor; settings = w.settings })
taken w n t waits notes passes full tabled left same =
    record {
      goes = λ slack start turns acts g. by slack start turns acts g (is_tabled t.sources.entries n.src) refl;
      forgotten = same;
      lans = refl;
      keeps = record { settings = refl; floor = refl };
    }
  where
    by : (slack start : ℕ) (turns : List (Turn Numbered)) (acts : List Act) (g : Goes slack start turns acts w) (b : Bool) →
        is_tabled t.sources.entries n.src ≡ b →
        Goes slack start turns acts (record { hold = w.hold; next = None; table = t; lans = w.lans; floor = w.floor; settings = w.settings })
    by slack start turns acts g true is =
        let f = g.follows in
        let before = with_acts g.more acts in
        record {
          releases = g.releases;
          more = (true, sent_as n) ∷ g.more;
          follows = record {
            holds = f.holds;
            sent = f.sent ∙ ap (λ q. due_in q ++ taken_in before) waits;
            watches = λ few. notes is (noted_in before) (lines_in before) (let le = few_noted before in omega (arith, few, le))
                (f.watches (omega (arith, few)));
            left_out = left ∙ ap (λ b. left_out_with b w.table.left_out) is ∙ f.left_out;
            tabled = tabled ∙ ap (λ b. tabled_with b n.src (keys_of w.table.sources.entries)) is ∙ ap (with_entry_of n.src) f.tabled;
            passes = f.passes;
          };
        }
    by slack start turns acts g false is =
        let f = g.follows in
        let before = with_acts g.more acts in
        let same : keys_of t.sources.entries ≡ tabled_in before =
        tabled ∙ ap (λ b. tabled_with b n.src (keys_of w.table.sources.entries)) is ∙ f.tabled in
        record {
          releases = g.releases;
          more = (false, sent_as n) ∷ g.more;
          follows = record {
            holds = f.holds;
            sent = f.sent ∙ ap (λ q. due_in q ++ taken_in before) waits;
            watches = λ few. passes is (noted_in before) (lines_in before) (f.watches (omega (arith, few)));
            left_out = left ∙ ap (λ b. left_out_with b w.table.left_out) is ∙ ap (left_out_with false) f.left_out;
            tabled = same;
            passes = (no_room n.src t.sources.entries (tabled_in before) same is (full is), f.passes);
          };
        }

-- what is released is taken out of what waits
fewer : (h : Holding Numbered) (r : Option Recorder) →
    length (without_by r h).a + length (without_by r h).b + length (due_in (option_map next_as (next_by r h))) ≡ length h.a + length h.b
fewer h None = omega arith
fewer h (Some A) = by h.a
  where
    by : (xs : List (Held Numbered)) → length (drop 1 xs) + length h.b + length (due_in (option_map next_as (front_released A xs))) ≡ length xs + length h.b
    by [] = omega arith
    by (x ∷ xs) = omega arith
fewer h (Some B) = by h.b
  where
    by : (xs : List (Held Numbered)) → length h.a + length (drop 1 xs) + length (due_in (option_map next_as (front_released B xs))) ≡ length h.a + length xs
    by [] = omega arith
    by (x ∷ xs) = omega arith

-- where nothing is released all that waits stays
stays : (h : Holding Numbered) (r : Option Recorder) → next_by r h ≡ None → without_by r h ≡ h
stays h None none = refl
stays h (Some A) none = λ i. record h { a = all h.a none i }
  where
    all : (xs : List (Held Numbered)) → front_released A xs ≡ None → drop 1 xs ≡ xs
    all [] none = refl
    all (x ∷ xs) none = absurd cc
stays h (Some B) none = λ i. record h { b = all h.b none i }
  where
    all : (xs : List (Held Numbered)) → front_released B xs ≡ None → drop 1 xs ≡ xs
    all [] none = refl
    all (x ∷ xs) none = absurd cc

-- where nothing is released nothing is to be released behind it
pub over : (o : Option (Released Numbered)) (n : Option Next) (old new : Holding Numbered) → o ≡ next_of old → new ≡ without_next old →
    n ≡ option_map next_as o → n ≡ None → next_of new ≡ None
over o n old new is rest next none =
    let nothing : next_of old ≡ None = sym is ∙ nothing_in o (sym next ∙ none) in
    ap next_of (rest ∙ stays old (due_in_hold old) nothing) ∙ nothing
  where
    nothing_in : (o : Option (Released Numbered)) → option_map next_as o ≡ None → o ≡ None
    nothing_in None none = refl
    nothing_in (Some x) none = absurd cc

-- no more waits than before
pub no_more : (o : Option (Released Numbered)) (n : Option Next) (old new : Holding Numbered) → o ≡ next_of old → new ≡ without_next old →
    n ≡ option_map next_as o → length new.a + length new.b + length (due_in n) ≤ length old.a + length old.b + 0
no_more o n old new is rest next =
    let same : length new.a + length new.b + length (due_in n) ≡ length old.a + length old.b =
    (λ i. length (rest i).a + length (rest i).b + length (due_in ((next ∙ ap (option_map next_as) is) i))) ∙ fewer old (due_in_hold old) in
    omega (arith, same)
