-- The oldest time, through what is done to a table.
use Rattle.std.proofs.Common.{◌≡◌, ◌≢◌, ℕ, suc, ◌-◌, ◌<◌, ◌≤◌, ◌^◌, min, Bool, true, false, cond, not, nat_lt, nat_le, filter, List, [], ◌∷◌, ◌++◌, length, Some, refl, sym, ap, ◌∙◌, arith, inl, inr}
use Rattle.std.specs.Map.{lookup, set_value}
use Rattle.std.proofs.lemmas.Bool.{cases_eq, ltb-true, ltb-false, lt-ltb, le-ltb, leb-true, leb-false}
use Rattle.std.proofs.lemmas.List.{length-append}
use Rattle.std.proofs.lemmas.Map.{length-set_value}
use Rattle.sr_frame.specs.declared.fields.Mac.{Mac}
use Rattle.sr_aged_slots.specs.declared.aged.Aged.{Aged}
use Rattle.sr_aged_slots.specs.Ages.{is_recent, live_at, with_room, oldest_of, IsBounded}
use Rattle.sr_aged_slots.specs.AgeLemmas.{length-live_le}

-- a later time is recent where an earlier one is
pub recent_later : (span now a b : ℕ) → a ≤ b → is_recent span now a ≡ true → is_recent span now b ≡ true
recent_later span now a b le h = let l : now - a < span = ltb-true (now - a) span h in lt-ltb (now - b) span (omega arith)

-- the times less than a span ago are those from a limit on
pub recent_from : (span now time : ℕ) → 0 < span → nat_le (now - (span - 1)) time ≡ is_recent span now time
recent_from span now time some = by (nat_le (now - (span - 1)) time) refl
  where
    by : (b : Bool) → nat_le (now - (span - 1)) time ≡ b → b ≡ is_recent span now time
    by true t = let l : now - (span - 1) ≤ time = leb-true (now - (span - 1)) time t in sym (lt-ltb (now - time) span (omega arith))
    by false t = let l : time < now - (span - 1) = leb-false (now - (span - 1)) time t in sym (le-ltb (now - time) span (omega arith))

module _ {V : Type 0} where
  -- what is left from a limit on is what is live
  pub live_from : (span now limit : ℕ) → 0 < span → limit ≡ now - (span - 1) → (es : List (Mac × Aged V)) → filter (λ e. nat_le limit e.1.time) es ≡ live_at span now es
  live_from span now limit some is es = (λ j. filter (λ e. nat_le (is j) e.1.time) es) ∙ (λ j. filter (λ e. recent_from span now e.1.time some j) es)

  -- the oldest time, where a value is last
  oldest_of-push : (es : List (Mac × Aged V)) (m : Mac) (w : Aged V) → w.time < 2 ^ 64 → oldest_of (es ++ (m, w) ∷ []) ≡ min (oldest_of es) w.time
  oldest_of-push [] m w fits = omega arith
  oldest_of-push (e ∷ es) m w fits = omega (arith, oldest_of-push es m w fits)

  -- the oldest time, where a value becomes no older
  oldest_of-set_le : (test : Mac → Bool) (es : List (Mac × Aged V)) (was w : Aged V) → lookup test es ≡ Some was → was.time ≤ w.time → oldest_of es ≤ oldest_of (set_value test es w)
  oldest_of-set_le test [] was w there later = omega arith
  oldest_of-set_le test (e ∷ es) was w there later = by (test e.0) there (oldest_of-set_le test es was w)
    where
      by : (t : Bool) → cond t (Some e.1) (lookup test es) ≡ Some was → (lookup test es ≡ Some was → was.time ≤ w.time → oldest_of es ≤ oldest_of (set_value test es w))
          → min e.1.time (oldest_of es) ≤ oldest_of (cond t ((e.0, w) ∷ es) (e ∷ set_value test es w))
      by true h ih = let v : e.1 ≡ was = cc in let t : e.1.time ≡ was.time = ap (λ x. x.time) v in omega arith
      by false h ih = omega (arith, ih h later)

  oldest_of-set_same : (test : Mac → Bool) (es : List (Mac × Aged V)) (was w : Aged V) → lookup test es ≡ Some was → was.time ≤ w.time → oldest_of es ≢ was.time → oldest_of (set_value test es w) ≡ oldest_of es
  oldest_of-set_same test [] was w there later other = refl
  oldest_of-set_same test (e ∷ es) was w there later other = by (test e.0) there (oldest_of-set_same test es was w)
    where
      by : (t : Bool) → cond t (Some e.1) (lookup test es) ≡ Some was → (lookup test es ≡ Some was → was.time ≤ w.time → oldest_of es ≢ was.time → oldest_of (set_value test es w) ≡ oldest_of es)
          → oldest_of (cond t ((e.0, w) ∷ es) (e ∷ set_value test es w)) ≡ min e.1.time (oldest_of es)
      by true h ih = let v : e.1 ≡ was = cc in let t : e.1.time ≡ was.time = ap (λ x. x.time) v in omega arith
      by false h ih =
          elim (cases_eq (oldest_of es) was.time) [
            | inl e ↦ let rise = oldest_of-set_le test es was w h later in omega arith
            | inr n ↦ let kept = ih h later n in omega arith
          ]

  module _ (span now : ℕ) where
    -- all are live where the oldest is, and otherwise one is forgotten
    pub all_live : (es : List (Mac × Aged V)) → is_recent span now (oldest_of es) ≡ true → live_at span now es ≡ es
    all_live [] h = refl
    all_live (e ∷ es) h =
        let first : is_recent span now e.1.time ≡ true = recent_later span now (min e.1.time (oldest_of es)) e.1.time (omega arith) h in
        let rest : is_recent span now (oldest_of es) ≡ true = recent_later span now (min e.1.time (oldest_of es)) (oldest_of es) (omega arith) h in
        ap (λ b. cond b (e ∷ live_at span now es) (live_at span now es)) first ∙ ap (λ l. e ∷ l) (all_live es rest)

    some_forgotten : 0 < span → now < 2 ^ 64 → (es : List (Mac × Aged V)) → is_recent span now (oldest_of es) ≡ false → length (live_at span now es) < length es
    some_forgotten span_is fits [] h = let l : span ≤ now - 18446744073709551615 = ltb-false (now - 18446744073709551615) span h in omega arith
    some_forgotten span_is fits (e ∷ es) h = by (is_recent span now e.1.time) refl (some_forgotten span_is fits es)
      where
        by : (b : Bool) → is_recent span now e.1.time ≡ b → (is_recent span now (oldest_of es) ≡ false → length (live_at span now es) < length es)
            → length (cond b (e ∷ live_at span now es) (live_at span now es)) < suc (length es)
        by false t ih = omega (arith, length-live_le span now es)
        by true t ih =
            let a : now - e.1.time < span = ltb-true (now - e.1.time) span t in
            let b : span ≤ now - min e.1.time (oldest_of es) = ltb-false (now - min e.1.time (oldest_of es)) span h in
            omega (arith, ih (le-ltb (now - oldest_of es) span (omega arith)))

    -- a table with as many values as it may have is full exactly where all are live
    pub full_is : (most : ℕ) (es : List (Mac × Aged V)) → 0 < span → now < 2 ^ 64 → length es ≤ most → most ≤ length es
        → is_recent span now (oldest_of es) ≡ not (nat_lt (length (with_room span most now es)) most)
    full_is most es span_is fits few many =
        by (is_recent span now (oldest_of es)) refl ∙ sym (ap (λ b. not (nat_lt (length (cond b es (live_at span now es))) most)) (le-ltb (length es) most many))
      where
        by : (b : Bool) → is_recent span now (oldest_of es) ≡ b → b ≡ not (nat_lt (length (live_at span now es)) most)
        by true e = sym (ap (λ l. not (nat_lt (length l) most)) (all_live es e) ∙ ap not (le-ltb (length es) most many))
        by false e = sym (ap not (lt-ltb (length (live_at span now es)) most (omega (arith, some_forgotten span_is fits es e))))

  module _ (span most : ℕ) where
    -- what is known of the times stays true
    pub bounded_anew : 0 < span → (es : List (Mac × Aged V)) (o : ℕ) → length es ≤ most → o ≡ oldest_of es → IsBounded span most es o true
    bounded_anew span_is es o few is = record { some_span = span_is; few = few; none_older = omega arith; some_as_old = λ e. sym is }

    module _ (test : Mac → Bool) (es : List (Mac × Aged V)) (was w : Aged V) (there : lookup test es ≡ Some was) (later : was.time ≤ w.time) where
      pub bounded_inexact : (o : ℕ) (exact : Bool) → IsBounded span most es o exact → IsBounded span most (set_value test es w) o false
      bounded_inexact o exact h = record {
        some_span = h.some_span;
        few = omega (arith, h.few, length-set_value test es w);
        none_older = omega (arith, h.none_older, oldest_of-set_le test es was w there later);
        some_as_old = λ e. cc;
      }

      pub bounded_again : (o : ℕ) (exact : Bool) → was.time ≢ o → IsBounded span most es o exact → IsBounded span most (set_value test es w) o exact
      bounded_again o exact other h = record {
        some_span = h.some_span;
        few = omega (arith, h.few, length-set_value test es w);
        none_older = omega (arith, h.none_older, oldest_of-set_le test es was w there later);
        some_as_old = λ e. oldest_of-set_same test es was w there later (λ same. other (sym same ∙ h.some_as_old e)) ∙ h.some_as_old e;
      }

    pub bounded_push : (es : List (Mac × Aged V)) (m : Mac) (w : Aged V) (o : ℕ) (exact : Bool) → w.time < 2 ^ 64 → length es < most → IsBounded span most es o exact
        → IsBounded span most (es ++ (m, w) ∷ []) (min o w.time) exact
    bounded_push es m w o exact fits room b = record {
      some_span = b.some_span;
      few = omega (arith, length-append es ((m, w) ∷ []));
      none_older = omega (arith, b.none_older, oldest_of-push es m w fits);
      some_as_old = λ e. oldest_of-push es m w fits ∙ ap (λ n. min n w.time) (b.some_as_old e);
    }
