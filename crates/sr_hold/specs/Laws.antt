-- What is released and what waits, of every list of turns.
use Rattle.std.specs.Prelude.{◌≡◌, ◌≤◌, ℕ, false, List, [], ◌∷◌, ◌++◌, length, map, None}
use Rattle.sr_hold.specs.declared.recorder.Recorder.{Recorder}
use Rattle.sr_hold.specs.declared.recorder.Recorder.TheVariants.{A, B}
use Rattle.sr_hold.specs.declared.hold.Held.{Held}
use Rattle.sr_hold.specs.declared.hold.Released.{Released}
use Rattle.sr_hold.specs.Marks.{limit}
use Rattle.sr_hold.specs.Holding.{Holding, line_of, next_of}
use Rattle.sr_hold.specs.Turns.{Turn, state_after, released_in, capture, released_of, first_merged, NeverGoesBackFrom}

module _ {T : Type 0} where
  -- the items of some arrivals
  abbrev pub items : List (Held T) → List T
  items xs = map (λ x. x.item) xs

  -- nothing came behind the mark
  pub record IsClean (h : Holding T) : Type 0 where
    pub a : h.progress.a.behind ≡ 0
    pub b : h.progress.b.behind ≡ 0

  -- both recorders have ended, and nothing is to be released
  pub record IsOver (h : Holding T) : Type 0 where
    pub a : h.progress.a.is_running ≡ false
    pub b : h.progress.b.is_running ≡ false
    pub next : next_of h ≡ None

  -- of these turns that was released, and this waits
  pub record IsInOneOrder (turns : List (Turn T)) (out : List (Released T)) (h : Holding T) : Type 0 where
    -- what was released and what waits of a recorder is what came, in its order, each once
    pub each : (r : Recorder) → items (released_of r out ++ line_of r h) ≡ items (capture r turns)
    -- moments never go back
    pub ordered : NeverGoesBackFrom 0 out
    -- where nothing was behind, each moment is that of its own capture
    pub moments : IsClean h → (r : Recorder) → released_of r out ++ line_of r h ≡ capture r turns
    -- what was released is the beginning, where nothing was behind, of the merge of both captures
    pub merged : IsClean h → out ≡ first_merged (length out) (capture A turns) (capture B turns)
    -- once both have ended, and nothing is to be released, nothing waits
    pub over : IsOver h → (r : Recorder) → line_of r h ≡ []

abbrev pub HoldsInOneOrder : Type 0 → Type 0
HoldsInOneOrder T = (slack start : ℕ) (turns : List (Turn T)) →
    IsInOneOrder turns (released_in slack start turns) (state_after slack start turns)

-- no turn puts the mark back
abbrev pub MarkNeverGoesBack : Type 0 → Type 0
MarkNeverGoesBack T = (slack start : ℕ) (t : Turn T) (before : List (Turn T)) →
    limit (state_after slack start before).progress.mark ≤ limit (state_after slack start (t ∷ before)).progress.mark
