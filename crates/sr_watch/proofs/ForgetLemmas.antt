-- Forgetting moves counts.
use Rattle.std.proofs.Common.{◌≡◌, ℕ, ◌+◌, ◌<◌, ◌≤◌, true, false, List, [], ◌∷◌, min, arith, refl, sym, ap, ◌∙◌, inl, inr}
use Rattle.std.specs.Prelude.{nat_lt, nat_le, sum_by}
use Rattle.std.proofs.lemmas.Bool.{cases_Bool, leb-true, leb-false, lt-ltb, le-ltb}
use Rattle.std.proofs.lemmas.List.Sums.{sum_by-cons}
use Rattle.sr_frame.specs.declared.fields.Mac.{Mac}
use Rattle.sr_audit.specs.Shown.{bounded_sum}
use Rattle.sr_watch.specs.declared.counts.Counts.{Counts}
use Rattle.sr_watch.specs.declared.counts.Forgotten.{Forgotten}
use Rattle.sr_watch.specs.declared.tracked.Tracked.{Tracked}
use Rattle.sr_watch.specs.Forgetting.{forgot_with, forgotten_from, left_from, MovesCount, ForgettingMovesCounts}
use Rattle.sr_watch.specs.Ranks.{rank_in}

-- a count that is added to, up to the greatest number
abbrev Adds : (Counts → ℕ) → (Forgotten → ℕ) → Type 0
Adds count gone = (c : Counts) (f : Forgotten) → gone (forgot_with c f) ≡ bounded_sum (gone f) (count c)

with_more : (n m k : ℕ) → n ≤ 18446744073709551615 → k ≡ min (n + m) 18446744073709551615 → n ≤ k
with_more n m k few e = omega (arith, few, e)

module _ (count : Counts → ℕ) (gone : Forgotten → ℕ) (adds : Adds count gone) where
  -- that of the forgotten ones does not fall
  grows : (limit : ℕ) (es : List (Mac × Tracked)) (f : Forgotten) → gone (forgotten_from limit es f) < 18446744073709551615 →
      gone f ≤ gone (forgotten_from limit es f)
  grows limit [] f few = omega arith
  grows limit (e ∷ es) f few =
      elim (cases_Bool (nat_lt (rank_in e.1) limit)) [
        | inl below ↦
            let room : gone (forgotten_from limit es (forgot_with e.1.told f)) < 18446744073709551615 = rw below at few in
            let rest = grows limit es (forgot_with e.1.told f) room in
            rw below (let one = adds e.1.told f in omega (arith, one, rest, room))
        | inr above ↦ let room : gone (forgotten_from limit es f) < 18446744073709551615 = rw above at few in rw above (grows limit es f room)
      ]

  moved : (h s g k l m : ℕ) → k ≡ min (g + h) 18446744073709551615 → k ≤ m → m < 18446744073709551615 → s + k ≡ l + m → (h + s) + g ≡ l + m
  moved h s g k l m e f few rest = omega (arith, e, f, few, rest)

  stayed : (h s g l m : ℕ) → s + g ≡ l + m → (h + s) + g ≡ (h + l) + m
  stayed h s g l m rest = omega (arith, rest)

  moves : MovesCount count gone
  moves limit [] f few = refl
  moves limit (e ∷ es) f few =
      elim (cases_Bool (nat_le limit (rank_in e.1))) [
        | inl kept ↦
            let above : nat_lt (rank_in e.1) limit ≡ false = le-ltb (rank_in e.1) limit (leb-true limit (rank_in e.1) kept) in
            let room : gone (forgotten_from limit es f) < 18446744073709551615 = rw above at few in
            rw (kept, above) (ap (λ n. n + gone f) (sum_by-cons sum e es)
            ∙ stayed (count e.1.told) (sum_by sum es) (gone f) (sum_by sum (left_from limit es)) (gone (forgotten_from limit es f)) (moves limit es f room)
            ∙ ap (λ n. n + gone (forgotten_from limit es f)) (sym (sum_by-cons sum e (left_from limit es))))
        | inr out ↦
            let below : nat_lt (rank_in e.1) limit ≡ true = lt-ltb (rank_in e.1) limit (leb-false limit (rank_in e.1) out) in
            let room : gone (forgotten_from limit es (forgot_with e.1.told f)) < 18446744073709551615 = rw below at few in
            rw (out, below) (ap (λ n. n + gone f) (sum_by-cons sum e es)
            ∙ moved (count e.1.told) (sum_by sum es) (gone f) (gone (forgot_with e.1.told f)) (sum_by sum (left_from limit es))
            (gone (forgotten_from limit es (forgot_with e.1.told f))) (adds e.1.told f) (grows limit es (forgot_with e.1.told f) room) room
            (moves limit es (forgot_with e.1.told f) room))
      ]
    where
      sum : Mac × Tracked → ℕ
      sum x = count x.1.told

pub moves_counts : ForgettingMovesCounts
moves_counts = record {
  rx_a = moves (λ c. c.rx.a) (λ f. f.rx.a) (λ c f. refl);
  rx_b = moves (λ c. c.rx.b) (λ f. f.rx.b) (λ c f. refl);
  both = moves (λ c. c.both) (λ f. f.both) (λ c f. refl);
  lost_a = moves (λ c. c.lost.a) (λ f. f.lost.a) (λ c f. refl);
  lost_b = moves (λ c. c.lost.b) (λ f. f.lost.b) (λ c f. refl);
  late_a = moves (λ c. c.late.a) (λ f. f.late.a) (λ c f. refl);
  late_b = moves (λ c. c.late.b) (λ f. f.late.b) (λ c f. refl);
  repeats_a = moves (λ c. c.repeats.a) (λ f. f.repeats.a) (λ c f. refl);
  repeats_b = moves (λ c. c.repeats.b) (λ f. f.repeats.b) (λ c f. refl);
  order_a = moves (λ c. c.order.a) (λ f. f.order.a) (λ c f. refl);
  order_b = moves (λ c. c.order.b) (λ f. f.order.b) (λ c f. refl);
  neither = moves (λ c. c.neither) (λ f. f.neither) (λ c f. refl);
  jumps = moves (λ c. c.jumps) (λ f. f.jumps) (λ c f. refl);
  restarts = moves (λ c. c.restarts) (λ f. f.restarts) (λ c f. refl);
}
