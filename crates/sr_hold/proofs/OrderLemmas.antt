-- What was released and what waits is in one order.
use Rattle.std.proofs.Common.{◌≡◌, ℕ, ◌<◌, ◌≤◌, max, Bool, true, false, nat_lt, if◌then◌else◌, List, [], ◌∷◌, ◌++◌, length, map, map-id, Some, None, refl, ap, sym, subst, ◌∙◌, arith}
use Rattle.std.proofs.lemmas.Bool.{lt-ltb, true≢false, false≢true}
use Rattle.sr_hold.specs.declared.progress.Progress.{Progress}
use Rattle.sr_hold.specs.declared.recorder.Recorder.{Recorder}
use Rattle.sr_hold.specs.declared.recorder.Recorder.TheVariants.{A, B}
use Rattle.sr_hold.specs.declared.hold.Held.{Held}
use Rattle.sr_hold.specs.declared.hold.Released.{Released}
use Rattle.sr_hold.specs.Marks.{limit, passes}
use Rattle.sr_hold.specs.Paces.{newest_of, told_at, own_moment, arrived, quiet, ended_now, begun_again}
use Rattle.sr_hold.specs.Pacing.{pace_of, with_pace, capture_clock}
use Rattle.sr_hold.specs.Order.{due_at}
use Rattle.sr_hold.specs.Holding.{Holding, line_of, next_by, next_of, due_in}
use Rattle.sr_hold.specs.Turns.{Turn, came, heard, silent, ended, begins, release, state_after, released_in, capture, released_of, first_merged}
use Rattle.sr_hold.specs.Laws.{IsInOneOrder}
use Rattle.sr_hold.proofs.MarkLemmas.{shut_advanced}
use Rattle.sr_hold.proofs.ChainLemmas.{Ascends}
use Rattle.sr_hold.proofs.MergeLemmas.{by_moment, by_order, chain-back, chain-merged}
use Rattle.sr_hold.proofs.HoldLemmas.{Holds, all_hold}
use Rattle.sr_hold.proofs.CleanLemmas.{without-progress, items_fit, whole_fits, is_rank_by_moment, is_rank_by_order}

-- once both have ended, the newest moments lie on this side of the mark
abbrev Shut : Progress → Type 0
Shut g = g.a.is_running ≡ false → g.b.is_running ≡ false → max (newest_of g.a) (newest_of g.b) < limit g.mark

module _ {T : Type 0} where
  shut : (slack start : ℕ) (turns : List (Turn T)) → Shut (state_after slack start turns).progress
  shut slack start [] = λ off_a off_b. absurd (true≢false off_a)
  shut slack start (came A time now item ∷ before) =
      let g = (state_after slack start before).progress in
      shut_advanced (with_pace A (arrived g.mark g.a time now) g)
  shut slack start (came B time now item ∷ before) =
      let g = (state_after slack start before).progress in
      shut_advanced (with_pace B (arrived g.mark g.b time now) g)
  shut slack start (heard r time now ∷ before) =
      let g = (state_after slack start before).progress in
      shut_advanced (with_pace r (told_at (pace_of r g) (own_moment (pace_of r g) time) now) g)
  shut slack start (silent r now ∷ before) =
      let g = (state_after slack start before).progress in
      shut_advanced (with_pace r (quiet g.slack (capture_clock g now) (pace_of r g) now) g)
  shut slack start (ended r ∷ before) =
      let g = (state_after slack start before).progress in
      shut_advanced (with_pace r (ended_now (pace_of r g)) g)
  shut slack start (begins r now ∷ before) =
      let g = (state_after slack start before).progress in
      shut_advanced (with_pace r (begun_again (pace_of r g) now) g)
  shut slack start (release ∷ before) =
      let h = state_after slack start before in
      subst (λ (g : Progress). Shut g) (sym (without-progress (due_in h) h)) (shut slack start before)

  -- a front on this side of the mark is due
  due_a : (b : Bool) (x : Held T) (xs ys : List (Held T)) (g : Progress) → b ≡ true →
      next_by (if b then Some A else None) (record { a = x ∷ xs; b = ys; progress = g }) ≡ None → ⊥
  due_a true x xs ys g on none = cc
  due_a false x xs ys g on none = false≢true on

  due_b : (b : Bool) (y : Held T) (xs ys : List (Held T)) (g : Progress) → b ≡ true →
      next_by (if b then Some B else None) (record { a = xs; b = y ∷ ys; progress = g }) ≡ None → ⊥
  due_b true y xs ys g on none = cc
  due_b false y xs ys g on none = false≢true on

  due_both : (c : Bool) (x y : Held T) (xs ys : List (Held T)) (g : Progress) → passes g.mark x.moment ≡ true → passes g.mark y.moment ≡ true →
      next_by (if c then due_at g.mark B y.moment else due_at g.mark A x.moment) (record { a = x ∷ xs; b = y ∷ ys; progress = g }) ≡ None → ⊥
  due_both true x y xs ys g on_x on_y none = due_b (passes g.mark y.moment) y (x ∷ xs) ys g on_y none
  due_both false x y xs ys g on_x on_y none = due_a (passes g.mark x.moment) x xs (y ∷ ys) g on_x none

  front_passes : (x : Held T) (xs : List (Held T)) (top : ℕ) (g : Progress) → Ascends 0 (x ∷ xs) top → top < limit g.mark →
      passes g.mark x.moment ≡ true
  front_passes x xs top g up lt =
      let below : x.moment ≤ top = up.1 in
      lt-ltb x.moment (limit g.mark) (omega (arith, below, lt))

  nothing_waits : (xs ys : List (Held T)) (g : Progress) (top_a top_b : ℕ) → Ascends 0 xs top_a → Ascends 0 ys top_b →
      top_a < limit g.mark → top_b < limit g.mark → next_of (record { a = xs; b = ys; progress = g }) ≡ None → (xs ≡ []) × (ys ≡ [])
  nothing_waits [] [] g top_a top_b up_a up_b lt_a lt_b none = (refl, refl)
  nothing_waits (x ∷ xs) [] g top_a top_b up_a up_b lt_a lt_b none =
      absurd (due_a (passes g.mark x.moment) x xs [] g (front_passes x xs top_a g up_a lt_a) none)
  nothing_waits [] (y ∷ ys) g top_a top_b up_a up_b lt_a lt_b none =
      absurd (due_b (passes g.mark y.moment) y [] ys g (front_passes y ys top_b g up_b lt_b) none)
  nothing_waits (x ∷ xs) (y ∷ ys) g top_a top_b up_a up_b lt_a lt_b none =
      absurd (due_both (nat_lt y.moment x.moment) x y xs ys g (front_passes x xs top_a g up_a lt_a)
      (front_passes y ys top_b g up_b lt_b) none)

  -- the parts of the law
  each_by : (r : Recorder) (out : List (Released T)) (h : Holding T) (turns : List (Turn T)) →
      Holds (λ (x : Held T). x.item) by_moment out h (capture A turns) (capture B turns) →
      map (λ (x : Held T). x.item) (released_of r out ++ line_of r h) ≡ map (λ (x : Held T). x.item) (capture r turns)
  each_by A out h turns i = i.same_a
  each_by B out h turns i = i.same_b

  moments_by : (r : Recorder) (out : List (Released T)) (h : Holding T) (turns : List (Turn T)) →
      Holds (λ (x : Held T). x) by_order out h (capture A turns) (capture B turns) → released_of r out ++ line_of r h ≡ capture r turns
  moments_by A out h turns i = sym (map-id (released_of A out ++ h.a)) ∙ i.same_a ∙ map-id (capture A turns)
  moments_by B out h turns i = sym (map-id (released_of B out ++ h.b)) ∙ i.same_b ∙ map-id (capture B turns)

  merged_from : (out : List (Released T)) (h : Holding T) (turns : List (Turn T)) →
      Holds (λ (x : Held T). x) by_order out h (capture A turns) (capture B turns) →
      out ≡ first_merged (length out) (capture A turns) (capture B turns)
  merged_from out h turns i =
      sym (chain-merged 0 out h.a h.b i.chain)
      ∙ ap (λ (xs : List (Held T)). first_merged (length out) xs (released_of B out ++ h.b)) (moments_by A out h turns i)
      ∙ ap (λ (ys : List (Held T)). first_merged (length out) (capture A turns) ys) (moments_by B out h turns i)

  over_by : (r : Recorder) (h : Holding T) → (h.a ≡ []) × (h.b ≡ []) → line_of r h ≡ []
  over_by A h none = none.0
  over_by B h none = none.1

  pub in_one_order : (slack start : ℕ) (turns : List (Turn T)) →
      IsInOneOrder turns (released_in slack start turns) (state_after slack start turns)
  in_one_order slack start turns =
      let out = released_in slack start turns in
      let h = state_after slack start turns in
      let i = all_hold (λ (x : Held T). x.item) by_moment slack start turns is_rank_by_moment (items_fit slack start turns) in
      record {
        each = λ r. each_by r out h turns i;
        ordered = chain-back 0 out h.a h.b i.chain;
        moments = λ c r. moments_by r out h turns
            (all_hold (λ (x : Held T). x) by_order slack start turns is_rank_by_order (whole_fits slack start turns c));
        merged = λ c. merged_from out h turns
            (all_hold (λ (x : Held T). x) by_order slack start turns is_rank_by_order (whole_fits slack start turns c));
        over = λ o r.
            let far : max (newest_of h.progress.a) (newest_of h.progress.b) < limit h.progress.mark = shut slack start turns o.a o.b in
            over_by r h (nothing_waits h.a h.b h.progress (newest_of h.progress.a) (newest_of h.progress.b) i.rise_a i.rise_b
            (omega (arith, far)) (omega (arith, far)) o.next);
      }
