-- What the feeds of a threaded network tell, and what they lost.
use Rattle.std.specs.Prelude.{ℕ, Bool, true, false, List, [], ◌∷◌}
use Rattle.sr_workers.specs.Told.{Told, Framed}
use Rattle.sr_lines.specs.declared.cable.Cable.{Cable}
use Rattle.sr_lines.specs.declared.lan.Lan.{Lan as ALan}
use Rattle.sr_lines.specs.declared.line.Line.{Line}
use Rattle.sr_lines.specs.declared.line.Line.TheVariants.{Host, Ring, Lan}

-- the frames of a wire, each handed out at time 0
abbrev pub frames_of : List (List ℕ) → List Told
frames_of [] = []
frames_of (x ∷ xs) = Framed x 0 ∷ frames_of xs

abbrev pub tells_of : {F : Type 0} → (F → Bool) → Line F → Bool
tells_of t (Host f) = t f
tells_of t (Ring c) = true
tells_of t (Lan l) = false

abbrev pub handed_of : {F : Type 0} → (F → List Told) → Line F → List Told
handed_of h (Host f) = h f
handed_of h (Ring c) = frames_of c.ends.take.frames
handed_of h (Lan l) = []

abbrev pub asked_of : {F : Type 0} → (F → ℕ) → Line F → ℕ
asked_of n (Host f) = n f
asked_of n (Ring c) = c.counts.asked
asked_of n (Lan l) = 0

abbrev pub given_of : {F : Type 0} → (F → List (List ℕ)) → Line F → List (List ℕ)
given_of g (Host f) = g f
given_of g (Ring c) = c.ends.send.frames
given_of g (Lan l) = []

abbrev pub losses_of : {F : Type 0} → (F → ℕ) → Line F → ℕ
losses_of n (Host f) = n f
losses_of n (Ring c) = c.counts.lost
losses_of n (Lan l) = l.counts.lost

abbrev pub ended_of : {F : Type 0} → (F → Bool) → Line F → Bool
ended_of e (Host f) = e f
ended_of e (Ring c) = c.counts.ended
ended_of e (Lan l) = l.counts.ended

abbrev pub failed_of : {F : Type 0} → (F → ℕ) → Line F → ℕ
failed_of n (Host f) = n f
failed_of n (Ring c) = c.counts.failures
failed_of n (Lan l) = l.counts.failures

-- how many turns it answered, and how often it failed
abbrev pub asked_by : Cable → ℕ
asked_by c = c.counts.asked

abbrev pub asked_in : ALan → ℕ
asked_in l = l.counts.asked

abbrev pub failed_by : Cable → ℕ
failed_by c = c.counts.failures

abbrev pub failed_in : ALan → ℕ
failed_in l = l.counts.failures

-- how many frames were lost
abbrev pub lost_by : Cable → ℕ
lost_by c = c.counts.lost

abbrev pub lost_in : ALan → ℕ
lost_in l = l.counts.lost

abbrev pub lost_of : {F : Type 0} → Line F → ℕ
lost_of (Host f) = 0
lost_of (Ring c) = lost_by c
lost_of (Lan l) = lost_in l
