-- What a feed tells.
use Rattle.std.specs.Prelude.{ℕ, ◌+◌, ◌-◌, ◌^◌, min, List, [], ◌∷◌}
use Rattle.sr_workers.specs.declared.feed.Turn.{Turn}
use Rattle.sr_workers.specs.declared.feed.Turn.TheVariants as turn
use Rattle.sr_workers.specs.declared.feed.Given.{Given}
use Rattle.sr_workers.specs.declared.feed.Given.TheVariants as given

-- a frame that was handed out at a time, or a time alone
pub data Told : Type 0 where
  Framed : (octets : List ℕ) → (now : ℕ) → Told
  Timed : (now : ℕ) → Told

-- what a turn hands out
abbrev pub told_of : Turn → List ℕ → List Told
told_of (turn.Frame now) octets = Framed octets now ∷ []
told_of (turn.Tick now) octets = Timed now ∷ []
told_of turn.Idle octets = []
told_of turn.End octets = []

-- a turn counts, but for the end
abbrev pub turns_in : Turn → ℕ
turns_in (turn.Frame now) = 1
turns_in (turn.Tick now) = 1
turns_in turn.Idle = 1
turns_in turn.End = 0

abbrev pub IsLastTurn : Turn → Type 0
IsLastTurn (turn.Frame now) = ⊥
IsLastTurn (turn.Tick now) = ⊥
IsLastTurn turn.Idle = ⊥
IsLastTurn turn.End = Unit {0}

-- what is put of a frame that was given
abbrev pub put_of : Given → List ℕ → List (List ℕ)
put_of given.Put octets = octets ∷ []
put_of given.Lost octets = []

-- how many frames are lost: one more where this one is, up to the greatest number
abbrev pub lost_after : ℕ → Given → ℕ
lost_after n given.Put = n
lost_after n given.Lost = min (n + 1) (2 ^ 64 - 1)
