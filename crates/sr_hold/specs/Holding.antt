-- What waits of both recorders, and what is released.
use Rattle.std.specs.Prelude.{ℕ, List, [], ◌∷◌, ◌++◌, drop, Option, None, Some}
use Rattle.sr_hold.specs.declared.progress.Progress.{Progress}
use Rattle.sr_hold.specs.declared.recorder.Recorder.{Recorder}
use Rattle.sr_hold.specs.declared.recorder.Recorder.TheVariants.{A, B}
use Rattle.sr_hold.specs.declared.hold.Held.{Held}
use Rattle.sr_hold.specs.declared.hold.Released.{Released}
use Rattle.sr_hold.specs.Paces.{moment_at}
use Rattle.sr_hold.specs.Pacing.{begun, pace_of, arrived_by}
use Rattle.sr_hold.specs.Order.{due, front_moment, front_released}

-- what waits of either recorder, the oldest first, and how far both captures are known
pub record Holding (T : Type 0) : Type 0 where
  pub a : List (Held T)
  pub b : List (Held T)
  pub progress : Progress

module _ {T : Type 0} where
  abbrev pub beginning : ℕ → ℕ → Holding T
  beginning slack now = record { a = []; b = []; progress = begun slack now }

  abbrev pub line_of : Recorder → Holding T → List (Held T)
  line_of A h = h.a
  line_of B h = h.b

  abbrev pub with_line : Recorder → List (Held T) → Holding T → Holding T
  with_line A xs h = record h { a = xs }
  with_line B xs h = record h { b = xs }

  -- what waits stays, and this is known of the captures
  abbrev pub paced : (Progress → Progress) → Holding T → Holding T
  paced f h = record h { progress = f h.progress }

  -- an arrival as it waits
  abbrev pub held_at : Recorder → ℕ → T → Holding T → Held T
  held_at r time item h = record { moment = moment_at h.progress.mark (pace_of r h.progress) time; item = item }

  abbrev pub with_arrival : Recorder → ℕ → ℕ → T → Holding T → Holding T
  with_arrival r time now item h =
      paced (arrived_by r time now) (with_line r (line_of r h ++ held_at r time item h ∷ []) h)

  -- of which recorder the next one to be released is
  abbrev pub due_in : Holding T → Option Recorder
  due_in h = due h.progress.mark (front_moment h.a) (front_moment h.b)

  abbrev pub next_by : Option Recorder → Holding T → Option (Released T)
  next_by None h = None
  next_by (Some r) h = front_released r (line_of r h)

  abbrev pub next_of : Holding T → Option (Released T)
  next_of h = next_by (due_in h) h

  -- it waits no longer
  abbrev pub without_by : Option Recorder → Holding T → Holding T
  without_by None h = h
  without_by (Some r) h = with_line r (drop 1 (line_of r h)) h

  abbrev pub without_next : Holding T → Holding T
  without_next h = without_by (due_in h) h
