-- Going over the places in turn, taking out what does not pass.
use Rattle.std.proofs.Common.{◌≡◌, ℕ, ◌+◌, ◌<◌, ◌≤◌, ◌^◌, min, Bool, true, false, not, ◌&&◌, is_some, cond, List, [], ◌∷◌, ◌++◌, length, drop, filter, Option, None, Some, refl, sym, ap, ◌∙◌, subst, append_assoc, append-nil, arith}
use Rattle.std.specs.Map.{values_of}
use Rattle.std.specs.List.{slice_get}
use Rattle.std.proofs.lemmas.List.{length-append, drop_all, drop-append-le}
use Rattle.indexmap.specs.IndexMap.{set_value_at}
use Rattle.sr_frame.specs.declared.fields.Mac.{Mac}
use Rattle.sr_slots.specs.declared.places.Slot.{Slot}
use Rattle.sr_slots.specs.Places.{entry_at, held_at, entries_of, entries_from, held_of}
use Rattle.sr_slots.specs.Calls.{passing, least_rank, rank_or_most}
use Rattle.sr_slots.specs.EntryLemmas.{one_if, least_rank_le}
use Rattle.sr_slots.proofs.PlaceLemmas.{entries-append, held-append, entries_le}

module _ {X : Type 0} where
  pub value_there : (done back : List (Mac × X)) (e : Mac × X) → slice_get (values_of (done ++ e ∷ back)) (length done) ≡ Some e.1
  value_there [] back e = refl
  value_there (d ∷ done) back e = value_there done back e

  pub write_there : (done back : List (Mac × X)) (e : Mac × X) (w : X) → set_value_at (done ++ e ∷ back) (length done) w ≡ done ++ (e.0, w) ∷ back
  write_there [] back e w = refl
  write_there (d ∷ done) back e w = ap (λ l. d ∷ l) (write_there done back e w)

module _ {V : Type 0} where
  least_rank-push : (order : V → ℕ) (es : List (Mac × V)) (m : Mac) (v : V) → order v < 2 ^ 64 → least_rank order (es ++ (m, v) ∷ []) ≡ min (least_rank order es) (order v)
  least_rank-push order [] m v fits = omega arith
  least_rank-push order (e ∷ es) m v fits = omega (arith, least_rank-push order es m v fits)

  -- the least rank with a place more, with a value or without
  least_rank-at : (order : V → ℕ) (es : List (Mac × V)) (m : Mac) (r : Option V) → rank_or_most order r < 2 ^ 64
      → least_rank order (es ++ entry_at m r) ≡ min (least_rank order es) (rank_or_most order r)
  least_rank-at order es m None fits = omega (arith, ap (least_rank order) (append-nil es), least_rank_le order es)
  least_rank-at order es m (Some v) fits = least_rank-push order es m v fits

  length-at : (m : Mac) (r : Option V) → length (entry_at m r) ≡ one_if (is_some r)
  length-at m None = refl
  length-at m (Some v) = refl

  no_rank : (order : V → ℕ) (was : Bool) (r : Option V) → (was && not (is_some r)) ≡ true → rank_or_most order r ≡ 18446744073709551615
  no_rank order was None went = refl
  no_rank order true (Some v) went = cc
  no_rank order false (Some v) went = cc

  -- what does not pass went
  one_went : (test : V → Bool) (was is : Option V) (went : Bool) → is ≡ passing test was → went ≡ (is_some was && not (is_some is))
      → one_if went + one_if (is_some is) ≡ one_if (is_some was)
  one_went test None is went passes gone = by is passes went gone
    where
      by : (is : Option V) → is ≡ None → (went : Bool) → went ≡ false → one_if went + one_if (is_some is) ≡ 0
      by None e false f = refl
      by None e true f = cc
      by (Some v) e went f = cc
  one_went test (Some v) is went passes gone = by (test v) is passes went gone
    where
      by : (b : Bool) (is : Option V) → is ≡ cond b (Some v) None → (went : Bool) → went ≡ not (is_some is) → one_if went + one_if (is_some is) ≡ 1
      by b None e true f = refl
      by b (Some x) e false f = refl
      by b None e false f = cc
      by b (Some x) e true f = cc

  filter_first : (test : V → Bool) (m : Mac) (r : Option V) (ys : List (Mac × V)) → filter (λ e. test e.1) (entry_at m r ++ ys) ≡ entry_at m (passing test r) ++ filter (λ e. test e.1) ys
  filter_first test m None ys = refl
  filter_first test m (Some x) ys = by (test x)
    where
      by : (b : Bool) → cond b ((m, x) ∷ filter (λ e. test e.1) ys) (filter (λ e. test e.1) ys) ≡ entry_at m (cond b (Some x) None) ++ filter (λ e. test e.1) ys
      by true = refl
      by false = refl

  module _ (test : V → Bool) (order : V → ℕ) where
    -- the first places are done: of them those are left that pass, and the others are counted
    pub record Sifted (old now : List (Mac × Slot V)) (index gone least end : ℕ) : Type 0 where
      pub done : List (Mac × Slot V)
      pub rest : List (Mac × Slot V)
      pub now_is : now ≡ done ++ rest
      pub at : length done ≡ index
      pub len : length now ≡ length old
      pub counted : gone + length (entries_of now) ≡ length (entries_of old)
      pub held : held_of now ≡ held_of old
      pub kept : entries_of done ++ filter (λ e. test e.1) (entries_of rest) ≡ filter (λ e. test e.1) (entries_of old)
      pub ranked : least ≡ least_rank order (entries_of done)
      pub ends : entries_from end done ≡ []
      pub end_le : end ≤ index

    pub none_done : (old : List (Mac × Slot V)) → Sifted old old 0 0 18446744073709551615 0
    none_done old = record { done = []; rest = old; now_is = refl; at = refl; len = refl; counted = omega arith; held = refl; kept = refl; ranked = refl; ends = refl; end_le = omega arith }

    -- the place that comes next
    record Next (rest : List (Mac × Slot V)) : Type 0 where
      pub first : Mac × Slot V
      pub back : List (Mac × Slot V)
      pub rest_is : rest ≡ first ∷ back

    next_of : (done rest : List (Mac × Slot V)) → length done < length (done ++ rest) → Next rest
    next_of done [] h = absurd (omega (arith, length-append {A = Mac × Slot V} done []))
    next_of done (e ∷ back) h = record { first = e; back = back; rest_is = refl }

    -- what all of it leaves
    all_done : (old now : List (Mac × Slot V)) (index gone least end : ℕ) → index ≡ length old → (s : Sifted old now index gone least end) → s.rest ≡ []
    all_done old now index gone least end full s = by s.rest refl
      where
        by : (rest : List (Mac × Slot V)) → s.rest ≡ rest → s.rest ≡ []
        by [] e = e
        by (x ∷ rest) e = absurd (omega (arith, full, s.at, s.len, ap length s.now_is, length-append s.done s.rest, ap length e))

    pub all_kept : (old now : List (Mac × Slot V)) (index gone least end : ℕ) → index ≡ length old → (s : Sifted old now index gone least end)
        → entries_of now ≡ filter (λ e. test e.1) (entries_of old)
    all_kept old now index gone least end full s =
        let over = all_done old now index gone least end full s in
        ap entries_of (s.now_is ∙ ap (λ l. s.done ++ l) over ∙ append-nil s.done)
        ∙ sym (append-nil (entries_of s.done))
        ∙ ap (λ l. entries_of s.done ++ filter (λ e. test e.1) (entries_of l)) (sym over)
        ∙ s.kept

    pub all_is : (old now : List (Mac × Slot V)) (index gone least end : ℕ) → index ≡ length old → (s : Sifted old now index gone least end) → s.done ≡ now
    all_is old now index gone least end full s = sym (s.now_is ∙ ap (λ l. s.done ++ l) (all_done old now index gone least end full s) ∙ append-nil s.done)

    module _ (old now : List (Mac × Slot V)) (index gone least end : ℕ) (s : Sifted old now index gone least end) (was w : Slot V)
        (there : slice_get (values_of now) index ≡ Some was) (held : w.held ≡ was.held)
        (passes : w.value ≡ passing test was.value) (within : index < length now) where
      next : Next s.rest
      next = next_of s.done s.rest (omega (arith, s.at, ap length s.now_is))

      now_at : now ≡ s.done ++ next.first ∷ next.back
      now_at = s.now_is ∙ ap (λ l. s.done ++ l) next.rest_is

      was_is : next.first.1 ≡ was
      was_is =
          let a : Some next.first.1 ≡ Some was =
          sym (value_there s.done next.back next.first) ∙ ap (λ l. slice_get (values_of l) (length s.done)) (sym now_at) ∙ ap (slice_get (values_of now)) s.at ∙ there in
          cc

      written : set_value_at now index w ≡ s.done ++ (next.first.0, w) ∷ next.back
      written = ap (λ l. set_value_at l index w) now_at ∙ ap (λ i. set_value_at (s.done ++ next.first ∷ next.back) i w) (sym s.at) ∙ write_there s.done next.back next.first w

      done_entries : entries_of (s.done ++ (next.first.0, w) ∷ []) ≡ entries_of s.done ++ entry_at next.first.0 w.value
      done_entries = entries-append s.done ((next.first.0, w) ∷ []) ∙ ap (λ l. entries_of s.done ++ l) (append-nil (entry_at next.first.0 w.value))

      still_held : held_of (set_value_at now index w) ≡ held_of old
      still_held =
          ap held_of written
          ∙ held-append s.done ((next.first.0, w) ∷ next.back)
          ∙ ap (λ b. held_of s.done ++ (held_at next.first.0 b ++ held_of next.back)) (held ∙ ap (λ v. v.held) (sym was_is))
          ∙ sym (held-append s.done (next.first ∷ next.back))
          ∙ ap held_of (sym now_at)
          ∙ s.held

      still_kept : entries_of (s.done ++ (next.first.0, w) ∷ []) ++ filter (λ e. test e.1) (entries_of next.back) ≡ filter (λ e. test e.1) (entries_of old)
      still_kept =
          ap (λ l. l ++ filter (λ e. test e.1) (entries_of next.back)) done_entries
          ∙ append_assoc (entries_of s.done) (entry_at next.first.0 w.value) (filter (λ e. test e.1) (entries_of next.back))
          ∙ ap (λ r. entries_of s.done ++ (entry_at next.first.0 r ++ filter (λ e. test e.1) (entries_of next.back))) (passes ∙ ap (λ v. passing test v.value) (sym was_is))
          ∙ ap (λ l. entries_of s.done ++ l) (sym (filter_first test next.first.0 next.first.1.value (entries_of next.back)))
          ∙ ap (λ l. entries_of s.done ++ filter (λ e. test e.1) (entries_of l)) (sym next.rest_is)
          ∙ s.kept

      -- how many values there are before and behind the place
      length_with : (v : Slot V) → length (entries_of (s.done ++ (next.first.0, v) ∷ next.back))
          ≡ length (entries_of s.done) + (one_if (is_some v.value) + length (entries_of next.back))
      length_with v = omega (
        arith,
        ap length (entries-append s.done ((next.first.0, v) ∷ next.back)),
        length-append (entries_of s.done) (entry_at next.first.0 v.value ++ entries_of next.back),
        length-append (entry_at next.first.0 v.value) (entries_of next.back),
        length-at next.first.0 v.value,
      )

      before : length (entries_of now) ≡ length (entries_of s.done) + (one_if (is_some was.value) + length (entries_of next.back))
      before = ap (λ l. length (entries_of l)) now_at ∙ ap (λ v. length (entries_of (s.done ++ (next.first.0, v) ∷ next.back))) was_is ∙ length_with was

      -- where the values end then
      ended : (end' : ℕ) → end' ≡ cond (is_some w.value) (index + 1) end → (entries_from end' (s.done ++ (next.first.0, w) ∷ []) ≡ []) × (end' ≤ index + 1)
      ended end' is = by w.value refl is
        where
          item : Mac × Slot V
          item = (next.first.0, w)

          by : (r : Option V) → w.value ≡ r → end' ≡ cond (is_some r) (index + 1) end → (entries_from end' (s.done ++ item ∷ []) ≡ []) × (end' ≤ index + 1)
          by (Some v) e is = (ap entries_of (drop_all end' (s.done ++ item ∷ []) (omega (arith, is, s.at, length-append s.done (item ∷ [])))), omega (arith, is))
          by None e is = (
            ap (λ k. entries_from k (s.done ++ item ∷ [])) is
                ∙ ap entries_of (drop-append-le end s.done (item ∷ []) (omega (arith, s.end_le, s.at)))
                ∙ entries-append (drop end s.done) (item ∷ [])
                ∙ (λ k. s.ends k ++ (entry_at next.first.0 (e k) ++ [])),
            omega (arith, is, s.end_le),
          )

      pub step : (went : Bool) (gone' end' : ℕ) → went ≡ (is_some was.value && not (is_some w.value)) → gone' ≡ gone + one_if went → end' ≡ cond (is_some w.value) (index + 1) end
          → rank_or_most order w.value < 2 ^ 64 → Sifted old (set_value_at now index w) (index + 1) gone' (min least (rank_or_most order w.value)) end'
      step went gone' end' went_is gone_is end_is fits = record {
        done = s.done ++ (next.first.0, w) ∷ [];
        rest = next.back;
        now_is = written ∙ sym (append_assoc s.done ((next.first.0, w) ∷ []) next.back);
        at = omega (arith, length-append s.done ((next.first.0, w) ∷ []), s.at);
        len = omega (arith, ap length written, ap length now_at, length-append s.done ((next.first.0, w) ∷ next.back), length-append s.done (next.first ∷ next.back), s.len);
        counted = omega (arith, s.counted, before, ap (λ l. length (entries_of l)) written, length_with w, one_went test was.value w.value went passes went_is, gone_is);
        held = still_held;
        kept = still_kept;
        ranked =
            ap (λ l. min l (rank_or_most order w.value)) s.ranked
            ∙ sym (least_rank-at order (entries_of s.done) next.first.0 w.value fits)
            ∙ ap (least_rank order) (sym done_entries);
        ends = (ended end' end_is).0;
        end_le = (ended end' end_is).1;
      }

      -- what went has no rank that counts
      pub step_gone : (gone' end' : ℕ) → (is_some was.value && not (is_some w.value)) ≡ true → gone' ≡ gone + 1 → end' ≡ cond (is_some w.value) (index + 1) end
          → Sifted old (set_value_at now index w) (index + 1) gone' least end'
      step_gone gone' end' went gone_is end_is =
          let none : rank_or_most order w.value ≡ 18446744073709551615 = no_rank order (is_some was.value) w.value went in
          let same : min least (rank_or_most order w.value) ≡ least = omega (arith, none, s.ranked, least_rank_le order (entries_of s.done)) in
          subst (λ l. Sifted old (set_value_at now index w) (index + 1) gone' l end') same (step true gone' end' (sym went) gone_is end_is (omega (arith, none)))

    pub few : (old now : List (Mac × Slot V)) (index gone least end : ℕ) → (s : Sifted old now index gone least end) → gone ≤ length old
    few old now index gone least end s = omega (arith, s.counted, entries_le old)
