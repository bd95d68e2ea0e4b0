-- Windows of differences between two clocks, and the frames that they hold.
use Rattle.std.specs.Prelude.{
  ℕ,
  ◌+◌,
  ◌-◌,
  ◌*◌,
  ◌/◌,
  ◌^◌,
  nat_lt,
  min,
  max,
  Bool,
  not,
  ◌&&◌,
  List,
  ℤ,
  pos,
  ◌+ℤ◌,
  ◌-ℤ◌,
  int_lt,
  fold,
  filter,
  count_by,
  if◌then◌else◌,
}
use Rattle.sr_clocks.specs.Limits.{copies_width, drift_part}
use Rattle.sr_clocks.specs.declared.pair.Pair.{Pair}
use Rattle.sr_clocks.specs.declared.window.Dense.{Dense}

-- the difference of a frame lies from one to another
abbrev pub is_within : ℤ → ℤ → Pair → Bool
is_within low high p = not (int_lt p.ahead low) && not (int_lt high p.ahead)

-- how many frames a window holds, from its least difference on
abbrev pub held : List Pair → ℕ → ℤ → ℕ
held ps width from = count_by (is_within from (from +ℤ pos width)) ps

-- the denser one of a window and that which begins at a difference: the earlier one where they hold as many
abbrev pub denser : List Pair → ℕ → Dense → Pair → Dense
denser ps width best p =
    if nat_lt best.held (held ps width p.ahead) then record { from = p.ahead; held = held ps width p.ahead } else best

-- the densest window of those that begin at the difference of a frame
abbrev pub densest : List Pair → ℕ → Dense
densest ps width = fold (denser ps width) (record { from = pos 0; held = 0 }) ps

-- the frames that a window holds
abbrev pub near : List Pair → ℕ → ℤ → List Pair
near ps width from = filter (is_within from (from +ℤ pos width)) ps

-- those that lie more than its width from it, to either side
abbrev pub lies_apart : ℕ → ℤ → Pair → Bool
lies_apart width from p = not (is_within (from -ℤ pos width) ((from +ℤ pos width) +ℤ pos width) p)

abbrev pub far : List Pair → ℕ → ℤ → List Pair
far ps width from = filter (lies_apart width from) ps

-- the earliest and the latest time of frames
abbrev pub initial_time : List Pair → ℕ
initial_time ps = fold (λ time p. min time p.time) (2 ^ 64 - 1) ps

abbrev pub final_time : List Pair → ℕ
final_time ps = fold (λ time p. max time p.time) 0 ps

-- how wide a window is: 20 ms, and 200 ppm of the time from the first frame to the last
abbrev pub window_width : List Pair → ℕ
window_width ps = copies_width + (final_time ps - initial_time ps) / drift_part
