-- A pass over the packets of captures, from one to the next.
use Rattle.std.proofs.Common.{◌≡◌, ◌≤◌, ℕ, ◌+◌, ◌-◌, ◌^◌, Bool, true, false, List, [], ◌∷◌, ◌++◌, length, Option, None, Some, refl, sym, ap, ◌∙◌, subst}
use Rattle.std.specs.Prelude.{map, filter, cond, IfSome, IfNone}
use Rattle.std.specs.List.{FoldsTo}
use Rattle.std.proofs.lemmas.Fn.{FoldsTo-push}
use Rattle.std.proofs.lemmas.List.{append-nil, map-append}
use Rattle.std.proofs.lemmas.List.Elements.{filter-append}
use Rattle.sr_capture.specs.Records.{Shows}
use Rattle.sr_capture.specs.declared.packet.Packet.{Packet}
use Rattle.sr_capture_script.specs.Captures.{file_at, IsDueFirst, HasNoFront, Advances, StopsAt, KeepsOthers}
use Rattle.sr_capture_script.specs.Coming.{HaveCome, StartsAt, IsNextOf}
use Rattle.sr_capture_script.specs.declared.captures.Captures.{Captures}
use Rattle.sr_capture_script.specs.declared.captures.Front.{Front}
use Rattle.sr_capture_script.specs.declared.choice.Choice.{Choice}
use Rattle.sr_capture_script.specs.declared.fault.ScriptFault.{ScriptFault}
use Rattle.sr_capture_script.specs.Items.{Item}
use Rattle.sr_capture_script.specs.Merging.{Feed}
use Rattle.sr_capture_script.specs.Passing.{Handed, given_at, is_wanted_at, wanted_from, wanted, IsItemAt, TakesIf, TakesWanted, IsOfCaptures}
use Rattle.sr_capture_script.specs.Sources.{left_of}
use Rattle.sr_capture_script.specs.declared.fault.ScriptFault.TheVariants.{Endless}
use Rattle.sr_capture_script.proofs.Coming.{came_to, comes_first, stops_first, all_came, starts_more, none_behind}
use Rattle.sr_capture_script.proofs.Going.{length_more}

-- one packet more was taken, if it is wanted
wanted_more : {P : Type 0} (takes : P → Handed → P → Type 0) (choice : Choice) (start : ℕ) (out : List Item) (item : Item) (old now after : P) →
    FoldsTo takes old (wanted_from choice start out) now → TakesIf takes (is_wanted_at choice start item) (given_at start item) now after →
    FoldsTo takes old (wanted_from choice start (out ++ item ∷ [])) after
wanted_more takes choice start out item old now after folds step = by (is_wanted_at choice start item) refl step
  where
    shape : (b : Bool) → is_wanted_at choice start item ≡ b →
        wanted_from choice start (out ++ item ∷ []) ≡ wanted_from choice start out ++ map (given_at start) (cond b (item ∷ []) [])
    shape b e =
        ap (map (given_at start)) (filter-append (is_wanted_at choice start) out (item ∷ [])
        ∙ ap (λ t. filter (is_wanted_at choice start) out ++ cond t (item ∷ []) []) e)
        ∙ map-append (given_at start) (filter (is_wanted_at choice start) out) (cond b (item ∷ []) [])

    by : (b : Bool) → is_wanted_at choice start item ≡ b → TakesIf takes b (given_at start item) now after →
        FoldsTo takes old (wanted_from choice start (out ++ item ∷ [])) after
    by true e own =
        subst (λ l. FoldsTo takes old l after) (sym (shape true e))
        (FoldsTo-push takes old (wanted_from choice start out) now (given_at start item) after folds own)
    by false e own =
        subst (λ l. FoldsTo takes old l after) (sym (shape false e ∙ append-nil (wanted_from choice start out)))
        (subst (λ q. FoldsTo takes old (wanted_from choice start out) q) (sym own) folds)

-- times are counted from the first packet
from_base : {P : Type 0} (takes : P → Handed → P → Type 0) (choice : Choice) (start : ℕ) (out : List Item) (old now : P) → StartsAt start out →
    FoldsTo takes old (wanted_from choice start out) now → FoldsTo takes old (wanted choice out) now
from_base takes choice start [] old now starts folds = folds
from_base takes choice start (x ∷ xs) old now starts folds =
    subst (λ s. FoldsTo takes old (wanted_from choice s (x ∷ xs)) now) (sym starts) folds

-- some packets of three files came, and the pass took those that are wanted
pub record IsPassing {R P : Type 0} (remaining : R → Option (List ℕ)) (takes : P → Handed → P → Type 0) (choice : Choice) (start : ℕ)
    (x y z : Feed) (count : ℕ) (all : Captures R) (next : Option Front) (old now : P) : Type 0 where
  pub out : List Item
  pub many : length out ≡ count
  pub come : HaveCome remaining x y z all out
  pub ahead : IsNextOf all start next out
  pub starts : StartsAt start out
  pub taken : FoldsTo takes old (wanted_from choice start out) now

module _ {R P : Type 0} (remaining : R → Option (List ℕ)) (takes : P → Handed → P → Type 0) (choice : Choice) (start : ℕ) (x y z : Feed) where
  pub passing_none : (all : Captures R) (next : Option Front) (old : P) → IfSome next (λ front. IsDueFirst all front) → IfNone next (HasNoFront all) →
      IfSome next (λ front. front.moment ≡ start) → HaveCome remaining x y z all [] → IsPassing remaining takes choice start x y z 0 all next old old
  passing_none all next old due none first come = record {
    out = [];
    many = refl;
    come = come;
    ahead = record { due = due; none = none; first = λ e. first };
    starts = tt;
    taken = refl;
  }

  pub passing_on : (count : ℕ) (before after : Captures R) (next later : Option Front) (front : Front) (shown : Packet) (old now new : P) → next ≡ Some front →
      shown ≡ (file_at front.inlet before).packet →
      ((item : Item) → IsItemAt front shown item → TakesIf takes (is_wanted_at choice start item) (given_at start item) now new) →
      Advances remaining (file_at front.inlet before) (file_at front.inlet after) → KeepsOthers front.inlet before after →
      IfSome later (λ due. IsDueFirst after due) → IfNone later (HasNoFront after) →
      IsPassing remaining takes choice start x y z count before next old now →
      IsPassing remaining takes choice start x y z (count + 1) after later old new
  passing_on count before after next later front shown old now new is same takes_it goes others due none h =
      let due_now : IsDueFirst before front = subst (λ o. IfSome o (λ f. IsDueFirst before f)) is h.ahead.due in
      let first : h.out ≡ [] → front.moment ≡ start = λ e. subst (λ o. IfSome o (λ f. f.moment ≡ start)) is (h.ahead.first e) in
      let more = comes_first remaining x y z before after front h.out due_now goes others h.come in
      record {
        out = h.out ++ more.item ∷ [];
        many = length_more h.out more.item ∙ ap (λ n. n + 1) h.many;
        come = more.come;
        ahead = record { due = due; none = none; first = λ e. absurd (none_behind h.out more.item e) };
        starts = starts_more start h.out more.item h.starts (λ e. more.when ∙ first e);
        taken = wanted_more takes choice start h.out more.item old now new h.taken (takes_it more.item (record {
          at = more.at;
          when = more.when;
          number = more.number;
          shows = subst (λ p. Shows p more.item.packet) (sym same) more.shown;
        }));
      }

  pub passes_all : (count : ℕ) (all : Captures R) (next : Option Front) (old new : P) → next ≡ None →
      IsPassing remaining takes choice start x y z count all next old new → TakesWanted takes choice x y z old new
  passes_all count all next old new is h = record {
    merged = h.out;
    came = all_came remaining x y z all h.out h.come (subst (λ o. IfNone o (HasNoFront all)) is h.ahead.none);
    taken = from_base takes choice start h.out old new h.starts h.taken;
  }

  pub passing_stuck : (count : ℕ) (before after : Captures R) (next : Option Front) (front : Front) (fault : ScriptFault) (old now : P) → next ≡ Some front →
      StopsAt remaining front.inlet (file_at front.inlet before) (file_at front.inlet after) fault →
      IsPassing remaining takes choice start x y z count before next old now → IsOfCaptures x y z fault
  passing_stuck count before after next front fault old now is stops h =
      let due_now : IsDueFirst before front = subst (λ o. IfSome o (λ f. IsDueFirst before f)) is h.ahead.due in
      let last = stops_first remaining x y z before front stops.0 (left_of remaining (file_at front.inlet after).reader) h.out due_now stops.2 h.come in
      subst (λ f. IsOfCaptures x y z f) (sym stops.1) (h.out ++ last.item ∷ [], last.came)

  pub passing_endless : (count : ℕ) (all : Captures R) (next : Option Front) (old now : P) → 2 ^ 64 - 1 ≤ count →
      IsPassing remaining takes choice start x y z count all next old now → IsOfCaptures x y z Endless
  passing_endless count all next old now many h =
      (h.out, came_to remaining x y z all Endless h.out h.come refl refl refl (subst (λ n. 2 ^ 64 - 1 ≤ n) (sym h.many) many))
