-- Lists of turns worked out, and what is none of an order.
use Rattle.std.specs.Prelude.{◌≡◌, ℕ, List, [], ◌∷◌}
use Rattle.sr_hold.specs.declared.recorder.Recorder.{Recorder}
use Rattle.sr_hold.specs.declared.recorder.Recorder.TheVariants.{A, B}
use Rattle.sr_hold.specs.declared.hold.Released.{Released}
use Rattle.sr_hold.specs.Holding.{Holding, beginning}
use Rattle.sr_hold.specs.Turns.{Turn, came, silent, ended, release, state_after, released_in}
use Rattle.sr_hold.specs.Laws.{IsClean, IsInOneOrder}

-- numbers that come by both recorders: 1 and 2 at one time, 3 and 4 one after the other; three calls of release
abbrev pub four_arrivals : List (Turn ℕ)
four_arrivals = release ∷ release ∷ release ∷ came B 21 4 4 ∷ came A 20 3 3 ∷ came A 10 2 1 ∷ came B 10 1 2 ∷ []

-- 7 comes by A at 12, once A was silent for longer than the slack of 5, and B had 2 at 20
abbrev pub one_behind : List (Turn ℕ)
one_behind = came A 12 9 7 ∷ silent A 9 ∷ came B 20 2 2 ∷ []

-- both end behind one arrival
abbrev pub both_ended : List (Turn ℕ)
both_ended = release ∷ ended B ∷ ended A ∷ came A 10 1 1 ∷ []

abbrev pub out : Recorder → ℕ → ℕ → Released ℕ
out r moment item = record { recorder = r; moment = moment; item = item }

pub record WorkedListsAreTold : Type 0 where
  -- A goes first at equal moments, and nothing is released at the mark, 20
  pub released : released_in 5 0 four_arrivals ≡ out A 10 1 ∷ out B 10 2 ∷ []
  -- nothing was behind: so the premise of the law can be met
  pub clean : IsClean (state_after 5 0 four_arrivals)
  -- the mark is at 20: 7 is put forward to it, and counted
  pub put_forward : (state_after 5 0 one_behind).a ≡ record { moment = 20; item = 7 } ∷ []
  pub counted : (state_after 5 0 one_behind).progress.a.behind ≡ 1
  -- all goes once both have ended
  pub over : released_in 5 0 both_ended ≡ out A 10 1 ∷ []

pub record FalseModelsAreRefused : Type 0 where
  -- all is lost
  pub lost : IsInOneOrder four_arrivals [] (beginning 5 0) → ⊥
  -- B goes first at equal moments
  pub b_first : IsInOneOrder four_arrivals (out B 10 2 ∷ out A 10 1 ∷ []) (state_after 5 0 four_arrivals) → ⊥
  -- one is released behind a later one
  pub goes_back : (h : Holding ℕ) → IsInOneOrder four_arrivals (out A 20 3 ∷ out B 10 2 ∷ []) h → ⊥
  -- the item of A is handed out as one of B
  pub others : (h : Holding ℕ) → IsInOneOrder four_arrivals (out B 10 1 ∷ out B 10 2 ∷ []) h → ⊥
