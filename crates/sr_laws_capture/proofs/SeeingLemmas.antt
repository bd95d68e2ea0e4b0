-- Flows by the arrivals of an audit by flow, in whatever order they were heard.
use Rattle.std.proofs.Common.{◌≡◌, Bool, true, false, cond, not, ◌||◌, ◌&&◌, List, [], ◌∷◌, ◌++◌, length, Option, None, Some, is_some, refl, sym, ap, ◌∙◌, subst, inl, inr, ◌⊎◌}
use Rattle.std.specs.Prelude.{nat_le, map, filter, fold}
use Rattle.std.specs.List.{IsDistinct, list_any}
use Rattle.std.specs.Map.{lookup, keys_of}
use Rattle.std.specs.Set.{distinct_count}
use Rattle.std.proofs.lemmas.Bool.{cases_Bool}
use Rattle.std.proofs.lemmas.Map.Entries.{length-keys_of}
use Rattle.std.proofs.lemmas.Map.Made.{is_some-lookup, length-from_keys}
use Rattle.sr_frame.specs.declared.fields.Mac.{Mac}
use Rattle.sr_frame.specs.Addresses.{mac_eq}
use Rattle.sr_frame.specs.AddressLemmas.{mac_same, mac_symm, mac_laws}
use Rattle.sr_slots.specs.EntryLemmas.{lookup-push, distinct-push}
use Rattle.sr_audit.specs.declared.source.Source.{Source}
use Rattle.sr_audit.specs.declared.span.Spans.{Spans}
use Rattle.sr_audit.specs.Audits.{Sent, of}
use Rattle.sr_audit.specs.Shown.{figures_of}
use Rattle.sr_laws_audit.specs.Exactly.{figures_by, HasEachSource}
use Rattle.sr_laws_audit.proofs.ExactLemmas.{tests_are, tests_by}
use Rattle.sr_capture_audit.specs.declared.flows.Sight.TheVariants.{All, Part}
use Rattle.sr_capture_audit.specs.Flows.{flow_end, is_paired, is_unpaired, is_single, with_name, paired_in, ends_in, are_mirrors, lacks_many, shows_part}
use Rattle.sr_laws_capture.specs.Seeing.{ends_by, mirrors_by, FlowsAreByArrivals, SightIsByArrivals}

-- a table that takes a name more, unless it is there
record Takes {X : Type 0} (g : List (Mac × X) → Mac × Mac → List (Mac × X)) : Type 0 where
  same : (t : List (Mac × X)) (n : Mac × Mac) → is_some (lookup (mac_eq n.0) t) ≡ true → g t n ≡ t
  value : Mac × Mac → X
  more : (t : List (Mac × X)) (n : Mac × Mac) → is_some (lookup (mac_eq n.0) t) ≡ false → g t n ≡ t ++ (n.0, value n) ∷ []

none_there : {X : Type 0} (o : Option X) → is_some o ≡ false → o ≡ None
none_there None e = refl
none_there (Some x) e = let bad : true ≡ false = e in absurd cc

named_once : {X : Type 0} (g : List (Mac × X) → Mac × Mac → List (Mac × X)) (takes : Takes g) (t : List (Mac × X)) (n : Mac × Mac) (k : Mac) →
    is_some (lookup (mac_eq k) (g t n)) ≡ (is_some (lookup (mac_eq k) t) || mac_eq k n.0)
named_once {X = X} g takes t n k =
    elim (cases_Bool (is_some (lookup (mac_eq n.0) t))) [
      | inl there ↦
          ap (λ u. is_some (lookup (mac_eq k) u)) (takes.same t n there) ∙ known there (mac_eq k n.0) refl
      | inr new ↦
          ap (λ u. is_some (lookup (mac_eq k) u)) (takes.more t n new)
          ∙ ap is_some (lookup-push n.0 k (takes.value n) t (none_there (lookup (mac_eq n.0) t) new))
          ∙ ap (λ b. is_some (cond b (Some (takes.value n)) (lookup (mac_eq k) t))) (mac_symm n.0 k)
          ∙ added (mac_eq k n.0) (lookup (mac_eq k) t)
    ]
  where
    known : is_some (lookup (mac_eq n.0) t) ≡ true → (b : Bool) → mac_eq k n.0 ≡ b →
        is_some (lookup (mac_eq k) t) ≡ (is_some (lookup (mac_eq k) t) || b)
    known there false e = or_false (is_some (lookup (mac_eq k) t))
      where
        or_false : (b : Bool) → b ≡ (b || false)
        or_false true = refl
        or_false false = refl
    known there true e =
        let here : is_some (lookup (mac_eq k) t) ≡ true = ap (λ m. is_some (lookup (mac_eq m) t)) (mac_same k n.0 e) ∙ there in
        here ∙ sym (ap (λ b. b || true) here)

    added : (b : Bool) (o : Option X) → is_some (cond b (Some (takes.value n)) o) ≡ (is_some o || b)
    added true None = refl
    added true (Some x) = refl
    added false None = refl
    added false (Some x) = refl

named_all : {X : Type 0} (g : List (Mac × X) → Mac × Mac → List (Mac × X)) (takes : Takes g) (t : List (Mac × X)) (ns : List (Mac × Mac)) (k : Mac) →
    is_some (lookup (mac_eq k) (fold g t ns)) ≡ (is_some (lookup (mac_eq k) t) || list_any (λ n. mac_eq k n.0) ns)
named_all g takes t [] k = or_false (is_some (lookup (mac_eq k) t))
  where
    or_false : (b : Bool) → b ≡ (b || false)
    or_false true = refl
    or_false false = refl
named_all g takes t (n ∷ ns) k =
    named_all g takes (g t n) ns k ∙ ap (λ b. b || list_any (λ m. mac_eq k m.0) ns) (named_once g takes t n k)
    ∙ or_more (is_some (lookup (mac_eq k) t)) (mac_eq k n.0) (list_any (λ m. mac_eq k m.0) ns)
  where
    or_more : (a b c : Bool) → ((a || b) || c) ≡ (a || (b || c))
    or_more true b c = refl
    or_more false b c = refl

distinct_all : {X : Type 0} (g : List (Mac × X) → Mac × Mac → List (Mac × X)) (takes : Takes g) (t : List (Mac × X)) (ns : List (Mac × Mac)) →
    IsDistinct mac_eq (keys_of t) → IsDistinct mac_eq (keys_of (fold g t ns))
distinct_all g takes t [] once = once
distinct_all g takes t (n ∷ ns) once = distinct_all g takes (g t n) ns (by (cases_Bool (is_some (lookup (mac_eq n.0) t))))
  where
    by : ((is_some (lookup (mac_eq n.0) t) ≡ true) ⊎ (is_some (lookup (mac_eq n.0) t) ≡ false)) → IsDistinct mac_eq (keys_of (g t n))
    by (inl there) = subst (λ u. IsDistinct mac_eq (keys_of u)) (sym (takes.same t n there)) once
    by (inr new) = subst (λ u. IsDistinct mac_eq (keys_of u)) (sym (takes.more t n new))
        (distinct-push n.0 (takes.value n) t once (none_there (lookup (mac_eq n.0) t) new))

none_distinct : (X : Type 0) → IsDistinct mac_eq (keys_of {K = Mac} {X = X} [])
unfolding IsDistinct
none_distinct X = tt

distinct_named : {X : Type 0} (g : List (Mac × X) → Mac × Mac → List (Mac × X)) (takes : Takes g) (ns : List (Mac × Mac)) →
    IsDistinct mac_eq (keys_of (fold g [] ns))
distinct_named {X = X} g takes ns = distinct_all g takes [] ns (none_distinct X)

-- tests of what is chosen of a list
any_chosen : {A B : Type 0} (p : B → Bool) (h : A → B) (q : A → Bool) (xs : List A) →
    list_any p (map h (filter q xs)) ≡ list_any (λ x. q x && p (h x)) xs
any_chosen p h q [] = refl
any_chosen p h q (x ∷ xs) = by (any_chosen p h q xs) (q x)
  where
    by : list_any p (map h (filter q xs)) ≡ list_any (λ y. q y && p (h y)) xs → (b : Bool) →
        list_any p (map h (cond b (x ∷ filter q xs) (filter q xs))) ≡ ((b && p (h x)) || list_any (λ y. q y && p (h y)) xs)
    by rest true = ap (λ t. p (h x) || t) rest
    by rest false = rest

and_none : (a b : Bool) → a ≡ false → (a && b) ≡ false
and_none a b e = ap (λ t. t && b) e

-- of the arrivals of one flow
one_flow : (spans : Spans) (sent : List Sent) (entries : List (Mac × Source)) (k : Mac) → HasEachSource spans sent entries →
    list_any (λ e. is_paired (figures_of e.1) && mac_eq k e.0) entries ≡ is_paired (figures_by spans (of k sent))
one_flow spans sent entries k has =
    tests_by (λ m f. is_paired f && mac_eq k m) spans sent entries has (λ m. and_none (is_paired (figures_by spans [])) (mac_eq k m) refl)
    ∙ among sent refl
  where
    paired : Mac → Bool
    paired m = is_paired (figures_by spans (of m sent))

    -- the arrivals of that flow alone pass, if any is there
    only : (ys : List Sent) → list_any (λ x. paired x.0 && mac_eq k x.0) ys ≡ (paired k && list_any (λ x. mac_eq k x.0) ys)
    only [] = sym (none (paired k))
      where
        none : (b : Bool) → (b && false) ≡ false
        none true = refl
        none false = refl
    only (y ∷ ys) = by (mac_eq k y.0) refl ∙ ap (λ t. (paired k && mac_eq k y.0) || t) (only ys)
        ∙ both (paired k) (mac_eq k y.0) (list_any (λ x. mac_eq k x.0) ys)
      where
        by : (b : Bool) → mac_eq k y.0 ≡ b → ((paired y.0 && mac_eq k y.0) || list_any (λ x. paired x.0 && mac_eq k x.0) ys)
            ≡ ((paired k && mac_eq k y.0) || list_any (λ x. paired x.0 && mac_eq k x.0) ys)
        by true e = ap (λ m. (paired m && mac_eq k y.0) || list_any (λ x. paired x.0 && mac_eq k x.0) ys) (sym (mac_same k y.0 e))
        by false e = ap (λ t. (paired y.0 && t) || list_any (λ x. paired x.0 && mac_eq k x.0) ys) e
            ∙ ap (λ t. t || list_any (λ x. paired x.0 && mac_eq k x.0) ys) (nothing (paired y.0) (paired k))
            ∙ sym (ap (λ t. (paired k && t) || list_any (λ x. paired x.0 && mac_eq k x.0) ys) e)
          where
            nothing : (a c : Bool) → (a && false) ≡ (c && false)
            nothing true true = refl
            nothing true false = refl
            nothing false true = refl
            nothing false false = refl

        both : (a b c : Bool) → ((a && b) || (a && c)) ≡ (a && (b || c))
        both true b c = refl
        both false b c = refl

    empty : (ys : List Sent) → list_any (λ x. mac_eq k x.0) ys ≡ false → of k ys ≡ []
    empty [] none = refl
    empty (y ∷ ys) none = by (empty ys) (mac_eq k y.0) refl none
      where
        by : (list_any (λ x. mac_eq k x.0) ys ≡ false → of k ys ≡ []) → (b : Bool) → mac_eq k y.0 ≡ b →
            (b || list_any (λ x. mac_eq k x.0) ys) ≡ false → of k (y ∷ ys) ≡ []
        by rest true e nowhere = let bad : true ≡ false = nowhere in absurd cc
        by rest false e nowhere = ap (λ t. cond t (y.1 ∷ of k ys) (of k ys)) e ∙ rest nowhere

    among : (ys : List Sent) → ys ≡ sent → list_any (λ x. paired x.0 && mac_eq k x.0) sent ≡ paired k
    among ys e = only sent ∙ by (list_any (λ x. mac_eq k x.0) sent) refl
      where
        by : (b : Bool) → list_any (λ x. mac_eq k x.0) sent ≡ b → (paired k && list_any (λ x. mac_eq k x.0) sent) ≡ paired k
        by true is = ap (λ t. paired k && t) is ∙ whole (paired k)
          where
            whole : (b : Bool) → (b && true) ≡ b
            whole true = refl
            whole false = refl
        by false is =
            let no : paired k ≡ false = ap (λ l. is_paired (figures_by spans l)) (empty sent is) in
            ap (λ t. t && list_any (λ x. mac_eq k x.0) sent) no ∙ sym no

pub flows_are : FlowsAreByArrivals
flows_are spans sent entries f has are =
    record {
      mirrors = are.mirrors ∙ mirrors;
      single = are.single ∙ ap (λ b. not b && list_any (λ e. is_single (figures_of e.1)) entries) mirrors
          ∙ ap (λ b. not (mirrors_by spans sent) && b) (tests_are is_single spans sent entries has refl);
      paired = λ name. ap (λ t. is_some (lookup (mac_eq name) t)) are.paired
          ∙ named_all with_name takes [] (paired_in entries) name
          ∙ any_chosen (λ n. mac_eq name n.0) (λ e. (e.0, flow_end e.0)) (λ e. is_paired (figures_of e.1)) entries
          ∙ one_flow spans sent entries name has;
    }
  where
    takes : Takes with_name
    takes = record {
      same = λ t n there. ap (λ b. cond b t (t ++ (n.0, record { 0 = n.1 }) ∷ [])) there;
      value = λ n. record { 0 = n.1 };
      more = λ t n new. ap (λ b. cond b t (t ++ (n.0, record { 0 = n.1 }) ∷ [])) new;
    }

    members : (k : Mac) → list_any (mac_eq k) (keys_of (fold with_name [] (ends_in entries))) ≡ list_any (mac_eq k) (ends_by spans sent)
    members k =
        sym (is_some-lookup (mac_eq k) (fold with_name [] (ends_in entries)))
        ∙ named_all with_name takes [] (ends_in entries) k
        ∙ any_chosen (λ n. mac_eq k n.0) (λ e. (flow_end e.0, flow_end e.0)) (λ e. is_paired (figures_of e.1)) entries
        ∙ tests_by (λ m g. is_paired g && mac_eq k (flow_end m)) spans sent entries has
        (λ m. and_none (is_paired (figures_by spans [])) (mac_eq k (flow_end m)) refl)
        ∙ sym (any_chosen (mac_eq k) (λ x. flow_end x.0) (λ x. is_paired (figures_by spans (of x.0 sent))) sent)

    ends : length (fold with_name [] (ends_in entries)) ≡ distinct_count mac_eq (ends_by spans sent)
    ends = sym (length-keys_of (fold with_name [] (ends_in entries)))
        ∙ length-from_keys mac_laws (keys_of (fold with_name [] (ends_in entries))) (ends_by spans sent)
        (distinct_named with_name takes (ends_in entries)) members

    mirrors : are_mirrors entries ≡ mirrors_by spans sent
    mirrors = ap (λ n. nat_le 3 n && not (list_any (λ e. is_unpaired (figures_of e.1)) entries)) ends
        ∙ ap (λ b. nat_le 3 (distinct_count mac_eq (ends_by spans sent)) && not b) (tests_are is_unpaired spans sent entries has refl)

pub sight_is : SightIsByArrivals
sight_is network f spans sent counters has =
    ap (λ b. cond (shows_part network f || b) Part All) (tests_are lacks_many spans sent counters.sources.entries has refl)
