-- What is known of a record without looking into it.
use Rattle.std.proofs.Common.{◌≡◌, ℕ, ◌+◌, ◌-◌, ◌*◌, ◌/◌, ◌%◌, ◌<◌, ◌||◌, eqb, IsTrue, [], length, get_or, arith, sym, ap, ◌∙◌, inl, inr}
use Rattle.std.proofs.lemmas.Bool.{or_cases, eqb-true}
use Rattle.std.proofs.lemmas.List.FromFn.{length-map-range_with_len, get_or-map-range_with_len}
use Rattle.sr_dup_window.specs.declared.record.Record.{Record}
use Rattle.sr_dup_window.specs.LaneSets.{none, known, is_empty}
use Rattle.sr_dup_window.specs.LaneLemmas.{known-lanes_where}
use Rattle.sr_dup_window.specs.Bins.{has_bit, lanes_at, IsWidth}
use Rattle.sr_dup_window.specs.Windows.{window_of, marks_of}
use Rattle.sr_dup_window.specs.Records.{IsWhole}
use Rattle.sr_dup_window.specs.WindowLemmas.{width-some}

width_is : (N : ℕ) → IsTrue (eqb N 16 || eqb N 32) → IsWidth (64 * N)
width_is N h =
    elim (or_cases (eqb N 16) (eqb N 32) h) [
      | inl e ↦ inl (ap (λ n. 64 * n) (eqb-true N 16 e))
      | inr e ↦ inr (ap (λ n. 64 * n) (eqb-true N 32 e))
    ]

-- the width that the type keeps
pub record-width : {N : ℕ} (r : Record N) → IsWidth (64 * N)
record-width {N} r = width_is N r.width

-- how many lanes a record shows, and where its ring has them
pub marks-count : {N : ℕ} (r : Record N) → length (marks_of r) ≡ 64 * N
unfolding marks_of
marks-count {N} r = length-map-range_with_len (λ k. lanes_at r.rows ((r.reference.0 + (65536 - k)) % 65536 % (64 * N))) 0 (64 * N)

pub marks-at : {N : ℕ} (r : Record N) (k : ℕ) → k < 64 * N →
    get_or (marks_of r) k none ≡ lanes_at r.rows ((r.reference.0 + (65536 - k)) % 65536 % (64 * N))
unfolding marks_of
marks-at {N} r k h = get_or-map-range_with_len (λ k. lanes_at r.rows ((r.reference.0 + (65536 - k)) % 65536 % (64 * N))) 0 (64 * N) k k none
    h (omega arith)

-- a record shows W numbers, the newest of which is noted on some lane
pub record-whole : {N : ℕ} (r : Record N) → IsWhole (64 * N) (window_of r)
record-whole {N} r =
    let some_window : 0 < 64 * N = width-some (64 * N) (record-width r) in
    record {
      count = marks-count r;
      carried = r.carried;
      some = ap is_empty (marks-at r 0 some_window ∙ ap (λ p. lanes_at r.rows (p % (64 * N))) (same r.reference.0 r.carried)) ∙ r.some;
      plain = λ k h.
          let place = (r.reference.0 + (65536 - k)) % 65536 % (64 * N) in
          ap known (marks-at r k h) ∙ known-lanes_where (has_bit (get_or r.rows (place / 64) []) (place % 64)) ∙ sym (marks-at r k h);
    }
  where
    same : (n : ℕ) → n < 65536 → (n + (65536 - 0)) % 65536 ≡ n
    same n h = omega arith
