-- Where nothing came behind the mark, moments are those of the captures.
use Rattle.std.proofs.Common.{◌≡◌, ℕ, ◌-◌, ◌<◌, ◌≤◌, max, Bool, true, false, nat_lt, if◌then◌else◌, List, [], ◌∷◌, Option, Some, None, refl, ap, sym, ◌∙◌, arith}
use Rattle.std.proofs.lemmas.Bool.{ltb-false}
use Rattle.sr_hold.specs.declared.pace.Pace.{Pace}
use Rattle.sr_hold.specs.declared.progress.Progress.{Progress}
use Rattle.sr_hold.specs.declared.mark.Mark.{Mark}
use Rattle.sr_hold.specs.declared.recorder.Recorder.{Recorder}
use Rattle.sr_hold.specs.declared.recorder.Recorder.TheVariants.{A, B}
use Rattle.sr_hold.specs.declared.hold.Held.{Held}
use Rattle.sr_hold.specs.Marks.{limit}
use Rattle.sr_hold.specs.Paces.{newest_of, own_moment, moment_at, is_behind, more_behind, quiet}
use Rattle.sr_hold.specs.Pacing.{pace_of, capture_clock}
use Rattle.sr_hold.specs.Holding.{Holding, held_at, due_in, without_by}
use Rattle.sr_hold.specs.Turns.{Turn, came, heard, silent, ended, begins, release, after, state_after, newest_with, own_newest}
use Rattle.sr_hold.specs.Laws.{IsClean}
use Rattle.sr_hold.proofs.MarkLemmas.{limit-low, limit-high}
use Rattle.sr_hold.proofs.HoldLemmas.{quiet-newest, Fits, AllFit, IsRank}
use Rattle.sr_hold.proofs.MergeLemmas.{by_moment, by_order}

-- nothing more came behind
none_more : (b : Bool) (n : ℕ) → more_behind b n ≡ 0 → n ≡ 0
none_more true n e = absurd (omega (arith, e))
none_more false n e = e

not_behind : (b : Bool) (n : ℕ) → more_behind b n ≡ 0 → b ≡ false
not_behind true n e = absurd (omega (arith, e))
not_behind false n e = refl

quiet_behind_by : (b : Bool) (p : Pace) (told : ℕ) → (if b then p else record p { told = told }).behind ≡ p.behind
quiet_behind_by true p told = refl
quiet_behind_by false p told = refl

quiet-behind : (slack clock : ℕ) (p : Pace) (now : ℕ) → (quiet slack clock p now).behind ≡ p.behind
quiet-behind slack clock p now = quiet_behind_by (nat_lt (now - p.heard) slack) p (max p.told (clock - slack))

-- an arrival that is not behind has the moment of its own capture, behind the mark
pub own-late : (mark : Mark) (p : Pace) (time : ℕ) → is_behind mark p time ≡ false → limit mark ≤ own_moment p time
own-late mark p time off = ltb-false (own_moment p time) (limit mark) off

pub moment-own : (mark : Mark) (p : Pace) (time : ℕ) → is_behind mark p time ≡ false → moment_at mark p time ≡ own_moment p time
moment-own mark p time off =
    let late = own-late mark p time off in
    let low = limit-low mark.is_inclusive mark.time in
    omega (arith, late, low)

order_over : (r s : Recorder) (m n : ℕ) → m < n → by_order s m ≤ by_order r n
order_over A A m n lt = omega (arith, lt)
order_over A B m n lt = omega (arith, lt)
order_over B A m n lt = omega (arith, lt)
order_over B B m n lt = omega (arith, lt)

module _ {T : Type 0} where
  pub without-progress : (d : Option Recorder) (h : Holding T) → (without_by d h).progress ≡ h.progress
  without-progress None h = refl
  without-progress (Some A) h = refl
  without-progress (Some B) h = refl

  -- it was clean before
  pub clean-before : (t : Turn T) (h : Holding T) → IsClean (after t h) → IsClean h
  clean-before (came A time now item) h c =
      record { a = none_more (is_behind h.progress.mark h.progress.a time) h.progress.a.behind c.a; b = c.b }
  clean-before (came B time now item) h c =
      record { a = c.a; b = none_more (is_behind h.progress.mark h.progress.b time) h.progress.b.behind c.b }
  clean-before (heard A time now) h c = record { a = c.a; b = c.b }
  clean-before (heard B time now) h c = record { a = c.a; b = c.b }
  clean-before (silent A now) h c =
      record { a = sym (quiet-behind h.progress.slack (capture_clock h.progress now) h.progress.a now) ∙ c.a; b = c.b }
  clean-before (silent B now) h c =
      record { a = c.a; b = sym (quiet-behind h.progress.slack (capture_clock h.progress now) h.progress.b now) ∙ c.b }
  clean-before (ended A) h c = record { a = c.a; b = c.b }
  clean-before (ended B) h c = record { a = c.a; b = c.b }
  clean-before (begins A now) h c = record { a = c.a; b = c.b }
  clean-before (begins B now) h c = record { a = c.a; b = c.b }
  clean-before release h c = record {
    a = sym (ap (λ (g : Progress). g.a.behind) (without-progress (due_in h) h)) ∙ c.a;
    b = sym (ap (λ (g : Progress). g.b.behind) (without-progress (due_in h) h)) ∙ c.b;
  }

  -- the newest moments are those of the captures
  pub record AreOwn (h : Holding T) (na nb : ℕ) : Type 0 where
    pub a : newest_of h.progress.a ≡ na
    pub b : newest_of h.progress.b ≡ nb

  own_after : (t : Turn T) (h : Holding T) (na nb : ℕ) → IsClean (after t h) → AreOwn h na nb →
      AreOwn (after t h) (newest_with A t na) (newest_with B t nb)
  own_after (came A time now item) h na nb c own =
      let off = not_behind (is_behind h.progress.mark h.progress.a time) h.progress.a.behind c.a in
      record { a = moment-own h.progress.mark h.progress.a time off ∙ ap (λ n. max time n) own.a; b = own.b }
  own_after (came B time now item) h na nb c own =
      let off = not_behind (is_behind h.progress.mark h.progress.b time) h.progress.b.behind c.b in
      record { a = own.a; b = moment-own h.progress.mark h.progress.b time off ∙ ap (λ n. max time n) own.b }
  own_after (heard A time now) h na nb c own = record { a = ap (λ n. max time n) own.a; b = own.b }
  own_after (heard B time now) h na nb c own = record { a = own.a; b = ap (λ n. max time n) own.b }
  own_after (silent A now) h na nb c own =
      record { a = quiet-newest h.progress.slack (capture_clock h.progress now) h.progress.a now ∙ own.a; b = own.b }
  own_after (silent B now) h na nb c own =
      record { a = own.a; b = quiet-newest h.progress.slack (capture_clock h.progress now) h.progress.b now ∙ own.b }
  own_after (ended A) h na nb c own = record { a = own.a; b = own.b }
  own_after (ended B) h na nb c own = record { a = own.a; b = own.b }
  own_after (begins A now) h na nb c own = record { a = own.a; b = own.b }
  own_after (begins B now) h na nb c own = record { a = own.a; b = own.b }
  own_after release h na nb c own = record {
    a = ap (λ (g : Progress). newest_of g.a) (without-progress (due_in h) h) ∙ own.a;
    b = ap (λ (g : Progress). newest_of g.b) (without-progress (due_in h) h) ∙ own.b;
  }

  pub all_own : (slack start : ℕ) (turns : List (Turn T)) → IsClean (state_after slack start turns) →
      AreOwn (state_after slack start turns) (own_newest A turns) (own_newest B turns)
  all_own slack start [] c = record { a = refl; b = refl }
  all_own slack start (t ∷ before) c =
      let h = state_after slack start before in
      own_after t h (own_newest A before) (own_newest B before) c (all_own slack start before (clean-before t h c))

  -- any arrival fits by its item and the order of moments alone
  item_fit : (r : Recorder) (time : ℕ) (item : T) (h : Holding T) (newest : ℕ) → Fits (λ (x : Held T). x.item) by_moment r time item h newest
  item_fit r time item h newest = record {
    same = refl;
    behind = λ s m lt.
        let high = limit-high h.progress.mark.is_inclusive h.progress.mark.time in
        omega (arith, lt, high);
  }

  pub items_fit : (slack start : ℕ) (turns : List (Turn T)) → AllFit (λ (x : Held T). x.item) by_moment slack start turns
  items_fit slack start [] = tt
  items_fit slack start (came r time now item ∷ before) =
      (item_fit r time item (state_after slack start before) (own_newest r before), items_fit slack start before)
  items_fit slack start (heard r time now ∷ before) = items_fit slack start before
  items_fit slack start (silent r now ∷ before) = items_fit slack start before
  items_fit slack start (ended r ∷ before) = items_fit slack start before
  items_fit slack start (begins r now ∷ before) = items_fit slack start before
  items_fit slack start (release ∷ before) = items_fit slack start before

  -- one that is not behind fits as it is
  whole_fit : (r : Recorder) (time : ℕ) (item : T) (h : Holding T) (newest : ℕ) → newest_of (pace_of r h.progress) ≡ newest →
      is_behind h.progress.mark (pace_of r h.progress) time ≡ false → Fits (λ (x : Held T). x) by_order r time item h newest
  whole_fit r time item h newest own off = record {
    same = ap (λ (m : ℕ). let x : Held T = record { moment = m; item = item } in x)
        (moment-own h.progress.mark (pace_of r h.progress) time off ∙ ap (λ n. max time n) own);
    behind = λ s m lt.
        let late = own-late h.progress.mark (pace_of r h.progress) time off in
        order_over r s m (held_at r time item h).moment (omega (arith, lt, late));
  }

  pub whole_fits : (slack start : ℕ) (turns : List (Turn T)) → IsClean (state_after slack start turns) →
      AllFit (λ (x : Held T). x) by_order slack start turns
  whole_fits slack start [] c = tt
  whole_fits slack start (came A time now item ∷ before) c =
      let h = state_after slack start before in
      let before_clean = clean-before (came A time now item) h c in (
        whole_fit A time item h (own_newest A before) (all_own slack start before before_clean).a
            (not_behind (is_behind h.progress.mark h.progress.a time) h.progress.a.behind c.a),
        whole_fits slack start before before_clean,
      )
  whole_fits slack start (came B time now item ∷ before) c =
      let h = state_after slack start before in
      let before_clean = clean-before (came B time now item) h c in (
        whole_fit B time item h (own_newest B before) (all_own slack start before before_clean).b
            (not_behind (is_behind h.progress.mark h.progress.b time) h.progress.b.behind c.b),
        whole_fits slack start before before_clean,
      )
  whole_fits slack start (heard r time now ∷ before) c =
      whole_fits slack start before (clean-before (heard r time now) (state_after slack start before) c)
  whole_fits slack start (silent r now ∷ before) c =
      whole_fits slack start before (clean-before (silent r now) (state_after slack start before) c)
  whole_fits slack start (ended r ∷ before) c =
      whole_fits slack start before (clean-before (ended r) (state_after slack start before) c)
  whole_fits slack start (begins r now ∷ before) c =
      whole_fits slack start before (clean-before (begins r now) (state_after slack start before) c)
  whole_fits slack start (release ∷ before) c =
      whole_fits slack start before (clean-before release (state_after slack start before) c)

pub is_rank_by_moment : IsRank by_moment
is_rank_by_moment = record { mono = λ r m n le. le; a_first = λ m n le. le; b_first = λ m n lt. omega (arith, lt) }

order_mono : (r : Recorder) (m n : ℕ) → m ≤ n → by_order r m ≤ by_order r n
order_mono A m n le = omega (arith, le)
order_mono B m n le = omega (arith, le)

pub is_rank_by_order : IsRank by_order
is_rank_by_order = record {
  mono = order_mono;
  a_first = λ m n le. omega (arith, le);
  b_first = λ m n lt. omega (arith, lt);
}
