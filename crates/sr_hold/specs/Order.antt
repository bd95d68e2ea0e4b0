-- Which arrival goes first.
use Rattle.std.specs.Prelude.{◌≡◌, ℕ, ◌<◌, ◌≤◌, nat_lt, List, [], ◌∷◌, length, Option, None, Some, if◌then◌else◌}
use Rattle.sr_hold.specs.Limits.{line_room}
use Rattle.sr_hold.specs.declared.mark.Mark.{Mark}
use Rattle.sr_hold.specs.declared.recorder.Recorder.{Recorder}
use Rattle.sr_hold.specs.declared.recorder.Recorder.TheVariants.{A, B}
use Rattle.sr_hold.specs.declared.hold.Held.{Held}
use Rattle.sr_hold.specs.declared.hold.Released.{Released}
use Rattle.sr_hold.specs.declared.hold.Refused.{Refused}
use Rattle.sr_hold.specs.declared.hold.Refused.TheVariants.{Full, AllocFailed}
use Rattle.sr_hold.specs.Marks.{passes}

-- a recorder, if this moment of it lies on this side of the mark
abbrev pub due_at : Mark → Recorder → ℕ → Option Recorder
due_at mark r moment = if passes mark moment then Some r else None

-- of two moments the earlier one goes first, and A before B at equal ones
abbrev pub due : Mark → Option ℕ → Option ℕ → Option Recorder
due mark None None = None
due mark (Some x) None = due_at mark A x
due mark None (Some y) = due_at mark B y
due mark (Some x) (Some y) = if nat_lt y x then due_at mark B y else due_at mark A x

module _ {T : Type 0} where
  -- the moment of the arrival that has waited longest
  abbrev pub front_moment : List (Held T) → Option ℕ
  front_moment [] = None
  front_moment (x ∷ xs) = Some x.moment

  abbrev pub as_released : Recorder → Held T → Released T
  as_released r x = record { recorder = r; moment = x.moment; item = x.item }

  -- that arrival, as it is released
  abbrev pub front_released : Recorder → List (Held T) → Option (Released T)
  front_released r [] = None
  front_released r (x ∷ xs) = Some (as_released r x)

  -- it was given back: the line was full, or an allocation failed
  abbrev pub IsRefusedAt : List (Held T) → T → Refused T → Type 0
  IsRefusedAt line item (Full x) = (x ≡ item) × (line_room ≤ length line)
  IsRefusedAt line item (AllocFailed x) = (x ≡ item) × (length line < line_room)
