-- What `begin`, `note` and `merge` leave in the ring is what the window shows afterwards.
use Rattle.std.proofs.Common.{◌≡◌, ℕ, ◌+◌, ◌*◌, ◌-◌, ◌%◌, ◌<◌, ◌≤◌, Bool, true, false, cond, eqb, ltb, leb, ◌||◌, ◌⊎◌, List, length, arith, refl, sym, ap, ◌∙◌, subst, inl, inr}
use Rattle.std.proofs.lemmas.Bool.{cases_lt, eq-eqb, lt-ltb, le-ltb, cond-true, cond-false}
use lib.Lanes.{zip2}
use Rattle.sr_sequence.specs.declared.Distance.TheVariants.{Behind, Ahead}
use Rattle.sr_sequence.specs.Places.{place_of, steps}
use Rattle.sr_dup_window.specs.declared.lane_sets.Lanes.{Lanes}
use Rattle.sr_dup_window.specs.declared.record.Record.{Record}
use Rattle.sr_dup_window.specs.LaneSets.{none, union, difference, is_empty}
use Rattle.sr_dup_window.specs.LaneLemmas.{not_empty-union_left, not_empty-union_right}
use Rattle.sr_dup_window.specs.Bins.{lanes_at, is_passed, IsWidth}
use Rattle.sr_dup_window.specs.Windows.{Window, window_of, marks_of, no_marks, marks_with, marks_slid, window_begun, window_noted, noted_at, window_merged, merged_at, lanes_of, lanes_behind, fresh_lanes}
use Rattle.sr_dup_window.specs.RecordLemmas.{record-width}
use Rattle.sr_dup_window.specs.WindowLemmas.{width-some, width-most}
use Rattle.sr_dup_window.proofs.PlaceLemmas.{bin, bin_zero}
use Rattle.sr_dup_window.proofs.ShowLemmas.{Shows, shows_marks, marks_are, marked_shows, noted_shows, passed_shows, united_shows, empty_shows}

-- the width that `begin` asks for
pub width_from : (N : ℕ) → (N ≡ 16) ⊎ (N ≡ 32) → IsWidth (64 * N)
width_from N (inl e) = inl (ap (λ n. 64 * n) e)
width_from N (inr e) = inr (ap (λ n. 64 * n) e)

-- where a number lies, by its 16 bits
pub behind_carried : (r seq w k : ℕ) → r < 65536 → seq < 65536 → Behind k ≡ place_of r seq w → (r + (65536 - k)) % 65536 ≡ seq
behind_carried r seq w k h g e =
    elim (cases_lt (steps seq r) w) [
      | inl less ↦
          let found : place_of r seq w ≡ Behind (steps seq r) = cond-true (ltb (steps seq r) w) (Behind (steps seq r)) (Ahead (steps r seq)) (lt-ltb (steps seq r) w less) in
          let is : k ≡ steps seq r = cc in
          omega arith
      | inr more ↦
          let other : place_of r seq w ≡ Ahead (steps r seq) = cond-false (ltb (steps seq r) w) (Behind (steps seq r)) (Ahead (steps r seq)) (le-ltb (steps seq r) w more) in
          absurd (cc)
    ]

pub ahead_carried : (r seq w a : ℕ) → r < 65536 → seq < 65536 → Ahead a ≡ place_of r seq w → (r + a) % 65536 ≡ seq
ahead_carried r seq w a h g e =
    elim (cases_lt (steps seq r) w) [
      | inl less ↦
          let found : place_of r seq w ≡ Behind (steps seq r) = cond-true (ltb (steps seq r) w) (Behind (steps seq r)) (Ahead (steps r seq)) (lt-ltb (steps seq r) w less) in
          absurd (cc)
      | inr more ↦
          let other : place_of r seq w ≡ Ahead (steps r seq) = cond-false (ltb (steps seq r) w) (Behind (steps seq r)) (Ahead (steps r seq)) (le-ltb (steps seq r) w more) in
          let is : a ≡ steps r seq = cc in
          omega arith
    ]

-- a record whose ring shows these marks up to this reference
is_window : {N : ℕ} (r : Record N) (reference : ℕ) (marks : List Lanes) → r.reference.0 ≡ reference → Shows (64 * N) r.rows reference marks → window_of r ≡ record { reference = reference; marks = marks }
is_window {N} r reference marks e s =
    let P : ℕ → Type 0 = λ n. Shows (64 * N) r.rows n marks in
    let window : ℕ → List Lanes → Window = λ n ms. record { reference = n; marks = ms } in
    ap (window r.reference.0) (marks_are r marks (subst P (sym e) s)) ∙ ap (λ n. window n marks) e

-- what marking, putting, passing over and uniting leave
abbrev pub Marks : List (List ℕ) → List (List ℕ) → Lanes → ℕ → Type 0
Marks rows new lanes place = (p : ℕ) → lanes_at new p ≡ cond (eqb p place) (union (lanes_at rows p) lanes) (lanes_at rows p)

abbrev pub Puts : List (List ℕ) → List (List ℕ) → Lanes → ℕ → Type 0
Puts rows new lanes place = (p : ℕ) → lanes_at new p ≡ cond (eqb p place) (union none lanes) (lanes_at rows p)

abbrev pub Passes : ℕ → List (List ℕ) → List (List ℕ) → ℕ → ℕ → Type 0
Passes rows_count rows new from count = (p : ℕ) → p < 64 * rows_count → lanes_at new p ≡ cond (is_passed (64 * rows_count) from count p || leb (64 * rows_count) count) none (lanes_at rows p)

abbrev pub Unites : ℕ → List (List ℕ) → List (List ℕ) → List (List ℕ) → Type 0
Unites rows_count rows others new = (p : ℕ) → p < 64 * rows_count → lanes_at new p ≡ union (lanes_at rows p) (lanes_at others p)

passes_in : (m n : ℕ) (rows new : List (List ℕ)) (from count : ℕ) → m ≡ n → Passes m rows new from count → Passes n rows new from count
passes_in m n rows new from count e h = let P : ℕ → Type 0 = λ k. Passes k rows new from count in subst P e h

unites_in : (m n : ℕ) (rows others new : List (List ℕ)) → m ≡ n → Unites m rows others new → Unites n rows others new
unites_in m n rows others new e h = let P : ℕ → Type 0 = λ k. Unites k rows others new in subst P e h

-- a place that is marked is not empty, and the others stay
pub some_marked : (rows new : List (List ℕ)) (lanes : Lanes) (p : ℕ) → is_empty lanes ≡ false → Marks rows new lanes p → is_empty (lanes_at new p) ≡ false
some_marked rows new lanes p some marks =
    let at : lanes_at new p ≡ union (lanes_at rows p) lanes = marks p ∙ cond-true (eqb p p) (union (lanes_at rows p) lanes) (lanes_at rows p) (eq-eqb p p refl) in
    ap is_empty at ∙ not_empty-union_right (lanes_at rows p) lanes some

pub some_put : (rows new : List (List ℕ)) (lanes : Lanes) (p : ℕ) → is_empty lanes ≡ false → Puts rows new lanes p → is_empty (lanes_at new p) ≡ false
some_put rows new lanes p some puts =
    let at : lanes_at new p ≡ union none lanes = puts p ∙ cond-true (eqb p p) (union none lanes) (lanes_at rows p) (eq-eqb p p refl) in
    ap is_empty at ∙ not_empty-union_right none lanes some

pub some_kept : (rows new : List (List ℕ)) (lanes : Lanes) (q p : ℕ) → is_empty (lanes_at rows p) ≡ false → Marks rows new lanes q → is_empty (lanes_at new p) ≡ false
some_kept rows new lanes q p some marks = ap is_empty (marks p) ∙ either (eqb p q)
  where
    either : (t : Bool) → is_empty (cond t (union (lanes_at rows p) lanes) (lanes_at rows p)) ≡ false
    either true = not_empty-union_left (lanes_at rows p) lanes some
    either false = some

pub begun_window : {N : ℕ} (new : Record N) (rows : List (List ℕ)) (lanes : Lanes) (seq : ℕ) → seq < 65536 → new.reference.0 ≡ seq → ((p : ℕ) → lanes_at rows p ≡ none) → Marks rows new.rows lanes (seq % (64 * N)) → window_of new ≡ window_begun (64 * N) seq lanes
begun_window {N} new rows lanes seq h ref empty marks =
    let w = 64 * N in
    let width : IsWidth w = record-width new in
    is_window new seq (marks_with (no_marks w) 0 lanes) ref
    (marked_shows w rows new.rows seq (no_marks w) 0 (seq % w) lanes width h (width-some w width) (bin_zero w seq h) (empty_shows w rows seq empty) marks)

pub noted_behind : {N : ℕ} (r new : Record N) (lanes : Lanes) (k seq : ℕ) → seq < 65536 → Behind k ≡ place_of r.reference.0 seq (64 * N) → k < 64 * N → new.reference.0 ≡ r.reference.0 → Marks r.rows new.rows lanes (seq % (64 * N)) → window_of new ≡ window_noted (64 * N) (window_of r) seq lanes
noted_behind {N} r new lanes k seq h at inside ref marks =
    let w = 64 * N in
    let place : bin w r.reference.0 k ≡ seq % w = ap (λ n. n % w) (behind_carried r.reference.0 seq w k r.carried h at) in
    is_window new r.reference.0 (marks_with (marks_of r) k lanes) ref
    (marked_shows w r.rows new.rows r.reference.0 (marks_of r) k (seq % w) lanes (record-width r) r.carried inside place (shows_marks r) marks)
    ∙ ap (noted_at w (window_of r) seq lanes) at

pub noted_ahead : {N : ℕ} (r new : Record N) (rows : List (List ℕ)) (lanes : Lanes) (a seq : ℕ) → seq < 65536 → Ahead a ≡ place_of r.reference.0 seq (64 * N) → 0 < a → a + 64 * N ≤ 65536 → new.reference.0 ≡ seq → Passes (length r.rows) r.rows rows (r.reference.0 % (64 * N)) (a - 1) → Puts rows new.rows lanes (seq % (64 * N)) → window_of new ≡ window_noted (64 * N) (window_of r) seq lanes
noted_ahead {N} r new rows lanes a seq h at some most ref passes puts =
    let w = 64 * N in
    is_window new seq (marks_with (marks_slid w a (marks_of r)) 0 lanes) ref
    (noted_shows w r.rows rows new.rows r.reference.0 (r.reference.0 % w) seq (seq % w) (marks_of r) a lanes (record-width r) r.carried some (omega arith) refl (ahead_carried r.reference.0 seq w a r.carried h at) refl (shows_marks r) (passes_in (length r.rows) N r.rows rows (r.reference.0 % w) (a - 1) r.whole.many passes) puts)
    ∙ ap (noted_at w (window_of r) seq lanes) at

-- what is read of a number in the window
pub read_behind : {N : ℕ} (r : Record N) (k seq : ℕ) → seq < 65536 → Behind k ≡ place_of r.reference.0 seq (64 * N) → k < 64 * N → lanes_at r.rows (seq % (64 * N)) ≡ lanes_of (64 * N) (window_of r) seq
read_behind {N} r k seq h at inside =
    let w = 64 * N in
    ap (λ n. lanes_at r.rows (n % w)) (sym (behind_carried r.reference.0 seq w k r.carried h at))
    ∙ (shows_marks r).each k inside
    ∙ ap (lanes_behind (window_of r)) at

pub fresh_from : {N : ℕ} (r : Record N) (seq : ℕ) (lanes answer known : Lanes) → answer ≡ difference lanes known → known ≡ lanes_of (64 * N) (window_of r) seq → answer ≡ fresh_lanes (64 * N) (window_of r) seq lanes
fresh_from r seq lanes answer known e at = e ∙ ap (difference lanes) at

pub merged_behind : {N : ℕ} (r other new : Record N) (rows : List (List ℕ)) (k : ℕ) → Behind k ≡ place_of r.reference.0 other.reference.0 32768 → k < 32768 → new.reference.0 ≡ r.reference.0 → Passes (length other.rows) other.rows rows (other.reference.0 % (64 * N)) k → Unites (length r.rows) r.rows rows new.rows → window_of new ≡ window_merged (64 * N) (window_of r) (window_of other)
merged_behind {N} r other new rows k at few ref passes unites =
    let w = 64 * N in
    let width : IsWidth w = record-width r in
    let carried : (other.reference.0 + k) % 65536 ≡ r.reference.0 = on_again r.reference.0 other.reference.0 k r.carried few (behind_carried r.reference.0 other.reference.0 32768 k r.carried other.carried at) in
    let slides : Shows w rows r.reference.0 (marks_slid w k (marks_of other)) =
    passed_shows w other.rows rows other.reference.0 (other.reference.0 % w) r.reference.0 (marks_of other) k width other.carried (omega (arith, width-most w width)) refl carried (shows_marks other) (passes_in (length other.rows) N other.rows rows (other.reference.0 % w) k other.whole.many passes) in
    is_window new r.reference.0 (zip2 union (marks_of r) (marks_slid w k (marks_of other))) ref
    (united_shows w r.rows rows new.rows r.reference.0 (marks_of r) (marks_slid w k (marks_of other)) width (shows_marks r) slides (unites_in (length r.rows) N r.rows rows new.rows r.whole.many unites))
    ∙ ap (merged_at w (window_of r) (window_of other)) at
  where
    on_again : (r s k : ℕ) → r < 65536 → k < 32768 → (r + (65536 - k)) % 65536 ≡ s → (s + k) % 65536 ≡ r
    on_again r s k h g e = omega arith

pub merged_ahead : {N : ℕ} (r other new : Record N) (rows : List (List ℕ)) (a : ℕ) → Ahead a ≡ place_of r.reference.0 other.reference.0 32768 → a + 32768 ≤ 65536 → new.reference.0 ≡ other.reference.0 → length rows ≡ length r.rows → Passes (length r.rows) r.rows rows (r.reference.0 % (64 * N)) a → Unites (length rows) rows other.rows new.rows → window_of new ≡ window_merged (64 * N) (window_of r) (window_of other)
merged_ahead {N} r other new rows a at most ref same passes unites =
    let w = 64 * N in
    let width : IsWidth w = record-width r in
    let slides : Shows w rows other.reference.0 (marks_slid w a (marks_of r)) =
    passed_shows w r.rows rows r.reference.0 (r.reference.0 % w) other.reference.0 (marks_of r) a width r.carried (omega (arith, width-most w width)) refl (ahead_carried r.reference.0 other.reference.0 32768 a r.carried other.carried at) (shows_marks r) (passes_in (length r.rows) N r.rows rows (r.reference.0 % w) a r.whole.many passes) in
    is_window new other.reference.0 (zip2 union (marks_slid w a (marks_of r)) (marks_of other)) ref
    (united_shows w rows other.rows new.rows other.reference.0 (marks_slid w a (marks_of r)) (marks_of other) width slides (shows_marks other) (unites_in (length rows) N rows other.rows new.rows (same ∙ r.whole.many) unites))
    ∙ ap (merged_at w (window_of r) (window_of other)) at

-- the greatest number's place stays not empty when rings are united
pub some_united_left : {N : ℕ} (r : Record N) (others new : List (List ℕ)) → Unites (length r.rows) r.rows others new → is_empty (lanes_at new (r.reference.0 % (64 * N))) ≡ false
some_united_left {N} r others new unites =
    let p = r.reference.0 % (64 * N) in
    let inside : p < 64 * length r.rows = omega (arith, width-some (64 * N) (record-width r), r.whole.many) in
    ap is_empty (unites p inside) ∙ not_empty-union_left (lanes_at r.rows p) (lanes_at others p) r.some

pub some_united_right : {N : ℕ} (other : Record N) (rows new : List (List ℕ)) → length rows ≡ N → Unites (length rows) rows other.rows new → is_empty (lanes_at new (other.reference.0 % (64 * N))) ≡ false
some_united_right {N} other rows new many unites =
    let p = other.reference.0 % (64 * N) in
    let inside : p < 64 * length rows = omega (arith, width-some (64 * N) (record-width other)) in
    ap is_empty (unites p inside) ∙ not_empty-union_right (lanes_at rows p) (lanes_at other.rows p) other.some

-- where one reference is behind the other by less than half of the numbers, they are not half of them apart
pub not_apart : (r s k : ℕ) → r < 65536 → s < 65536 → Behind k ≡ place_of r s 32768 → k < 32768 → steps r s ≡ 32768 → ⊥
not_apart r s k h g at few e = let carried = behind_carried r s 32768 k h g at in omega arith
