-- What is kept of sources that were forgotten.
use Rattle.std.specs.Prelude.{◌≡◌, ℕ, ◌+◌, ◌-◌, ◌^◌, ◌<◌, nat_lt, nat_le, List, [], ◌∷◌, filter, sum_by, if◌then◌else◌}
use Rattle.sr_frame.specs.declared.fields.Mac.{Mac}
use Rattle.sr_audit.specs.declared.tally.Sides.{Sides}
use Rattle.sr_audit.specs.Shown.{bounded_sum}
use Rattle.sr_watch.specs.declared.counts.Counts.{Counts}
use Rattle.sr_watch.specs.declared.counts.Forgotten.{Forgotten}
use Rattle.sr_watch.specs.declared.tracked.Tracked.{Tracked}
use Rattle.sr_watch.specs.Ranks.{rank_in}

-- counts with those of a source more, each up to 2^64 - 1
abbrev pub sides_with : Sides → Sides → Sides
sides_with s t = record { a = bounded_sum s.a t.a; b = bounded_sum s.b t.b }

abbrev pub none_forgotten : Forgotten
none_forgotten = record {
  sources = 0;
  rx = record { a = 0; b = 0 };
  both = 0;
  lost = record { a = 0; b = 0 };
  late = record { a = 0; b = 0 };
  repeats = record { a = 0; b = 0 };
  order = record { a = 0; b = 0 };
  neither = 0;
  jumps = 0;
  restarts = 0;
}

abbrev pub forgot_with : Counts → Forgotten → Forgotten
forgot_with c f = record {
  sources = bounded_sum f.sources 1;
  rx = sides_with f.rx c.rx;
  both = bounded_sum f.both c.both;
  lost = sides_with f.lost c.lost;
  late = sides_with f.late c.late;
  repeats = sides_with f.repeats c.repeats;
  order = sides_with f.order c.order;
  neither = bounded_sum f.neither c.neither;
  jumps = bounded_sum f.jumps c.jumps;
  restarts = bounded_sum f.restarts c.restarts;
}

-- what is forgotten with those of some sources whose rank is below a limit, and the others
abbrev pub forgotten_from : ℕ → List (Mac × Tracked) → Forgotten → Forgotten
forgotten_from limit [] f = f
forgotten_from limit (e ∷ es) f = forgotten_from limit es (if nat_lt (rank_in e.1) limit then forgot_with e.1.told f else f)

abbrev pub left_from : ℕ → List (Mac × Tracked) → List (Mac × Tracked)
left_from limit es = filter (λ e. nat_le limit (rank_in e.1)) es

-- a count of sources, and that of forgotten ones: of those that are kept and the forgotten ones together it stays, while that of the
-- forgotten ones is less than 2^64 - 1
abbrev pub MovesCount : (Counts → ℕ) → (Forgotten → ℕ) → Type 0
MovesCount count gone = (limit : ℕ) (es : List (Mac × Tracked)) (f : Forgotten) → gone (forgotten_from limit es f) < 2 ^ 64 - 1 →
    sum_by (λ e. count e.1.told) es + gone f
    ≡ sum_by (λ e. count e.1.told) (left_from limit es) + gone (forgotten_from limit es f)

pub record ForgettingMovesCounts : Type 0 where
  pub rx_a : MovesCount (λ c. c.rx.a) (λ f. f.rx.a)
  pub rx_b : MovesCount (λ c. c.rx.b) (λ f. f.rx.b)
  pub both : MovesCount (λ c. c.both) (λ f. f.both)
  pub lost_a : MovesCount (λ c. c.lost.a) (λ f. f.lost.a)
  pub lost_b : MovesCount (λ c. c.lost.b) (λ f. f.lost.b)
  pub late_a : MovesCount (λ c. c.late.a) (λ f. f.late.a)
  pub late_b : MovesCount (λ c. c.late.b) (λ f. f.late.b)
  pub repeats_a : MovesCount (λ c. c.repeats.a) (λ f. f.repeats.a)
  pub repeats_b : MovesCount (λ c. c.repeats.b) (λ f. f.repeats.b)
  pub order_a : MovesCount (λ c. c.order.a) (λ f. f.order.a)
  pub order_b : MovesCount (λ c. c.order.b) (λ f. f.order.b)
  pub neither : MovesCount (λ c. c.neither) (λ f. f.neither)
  pub jumps : MovesCount (λ c. c.jumps) (λ f. f.jumps)
  pub restarts : MovesCount (λ c. c.restarts) (λ f. f.restarts)
