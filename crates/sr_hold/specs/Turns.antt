-- Lists of turns, newest first: what comes of two recorders, and what is released.
use Rattle.std.specs.Prelude.{◌≤◌, ℕ, zero, suc, nat_lt, max, Bool, true, false, List, [], ◌∷◌, ◌++◌, option_to_list, if◌then◌else◌}
use Rattle.sr_hold.specs.declared.recorder.Recorder.{Recorder}
use Rattle.sr_hold.specs.declared.recorder.Recorder.TheVariants.{A, B}
use Rattle.sr_hold.specs.declared.hold.Held.{Held}
use Rattle.sr_hold.specs.declared.hold.Released.{Released}
use Rattle.sr_hold.specs.Pacing.{heard_by, silent_by, ended_by, begun_by}
use Rattle.sr_hold.specs.Order.{as_released}
use Rattle.sr_hold.specs.Holding.{Holding, beginning, with_arrival, paced, next_of, without_next}

-- a call that is not refused
pub data Turn (T : Type 0) : Type 0 where
  came : (recorder : Recorder) (time now : ℕ) (item : T) → Turn T
  heard : (recorder : Recorder) (time now : ℕ) → Turn T
  silent : (recorder : Recorder) (now : ℕ) → Turn T
  ended : (recorder : Recorder) → Turn T
  begins : (recorder : Recorder) (now : ℕ) → Turn T
  release : Turn T

abbrev pub same_recorder : Recorder → Recorder → Bool
same_recorder A A = true
same_recorder A B = false
same_recorder B A = false
same_recorder B B = true

module _ {T : Type 0} where
  -- what waits with one turn more
  abbrev pub after : Turn T → Holding T → Holding T
  after (came r time now item) h = with_arrival r time now item h
  after (heard r time now) h = paced (heard_by r time now) h
  after (silent r now) h = paced (silent_by r now) h
  after (ended r) h = paced (ended_by r) h
  after (begins r now) h = paced (begun_by r now) h
  after release h = without_next h

  -- what waits after all of them
  abbrev pub state_after : ℕ → ℕ → List (Turn T) → Holding T
  state_after slack start [] = beginning slack start
  state_after slack start (t ∷ before) = after t (state_after slack start before)

  -- what a turn releases
  abbrev pub released_by : Turn T → Holding T → List (Released T)
  released_by (came r time now item) h = []
  released_by (heard r time now) h = []
  released_by (silent r now) h = []
  released_by (ended r) h = []
  released_by (begins r now) h = []
  released_by release h = option_to_list (next_of h)

  -- what all of them released, in its order
  abbrev pub released_in : ℕ → ℕ → List (Turn T) → List (Released T)
  released_in slack start [] = []
  released_in slack start (t ∷ before) = released_in slack start before ++ released_by t (state_after slack start before)

  -- the newest moment of a recorder's own capture, with one turn more
  abbrev pub newest_with : Recorder → Turn T → ℕ → ℕ
  newest_with r (came s time now item) newest = if same_recorder r s then max time newest else newest
  newest_with r (heard s time now) newest = if same_recorder r s then max time newest else newest
  newest_with r (silent s now) newest = newest
  newest_with r (ended s) newest = newest
  newest_with r (begins s now) newest = newest
  newest_with r release newest = newest

  abbrev pub own_newest : Recorder → List (Turn T) → ℕ
  own_newest r [] = 0
  own_newest r (t ∷ before) = newest_with r t (own_newest r before)

  -- an arrival of a recorder, at the moment that it has in its own capture
  abbrev pub own_held : ℕ → T → ℕ → Held T
  own_held time item newest = record { moment = max time newest; item = item }

  abbrev pub arrival_of : Recorder → Turn T → ℕ → List (Held T)
  arrival_of r (came s time now item) newest = if same_recorder r s then own_held time item newest ∷ [] else []
  arrival_of r (heard s time now) newest = []
  arrival_of r (silent s now) newest = []
  arrival_of r (ended s) newest = []
  arrival_of r (begins s now) newest = []
  arrival_of r release newest = []

  -- all arrivals of a recorder, in the order of its capture
  abbrev pub capture : Recorder → List (Turn T) → List (Held T)
  capture r [] = []
  capture r (t ∷ before) = capture r before ++ arrival_of r t (own_newest r before)

  -- what was released of a recorder
  abbrev pub held_if : Bool → Released T → List (Held T)
  held_if true x = record { moment = x.moment; item = x.item } ∷ []
  held_if false x = []

  abbrev pub released_of : Recorder → List (Released T) → List (Held T)
  released_of r [] = []
  released_of r (x ∷ later) = held_if (same_recorder r x.recorder) x ++ released_of r later

  -- the first ones of the merge of two captures by moment, that of A first at equal ones
  abbrev pub first_merged : ℕ → List (Held T) → List (Held T) → List (Released T)
  first_merged zero xs ys = []
  first_merged (suc n) [] [] = []
  first_merged (suc n) (x ∷ xs) [] = as_released A x ∷ first_merged n xs []
  first_merged (suc n) [] (y ∷ ys) = as_released B y ∷ first_merged n [] ys
  first_merged (suc n) (x ∷ xs) (y ∷ ys) =
      if nat_lt y.moment x.moment then as_released B y ∷ first_merged n (x ∷ xs) ys
      else as_released A x ∷ first_merged n xs (y ∷ ys)

  -- moments never go back, from one on
  abbrev pub NeverGoesBackFrom : ℕ → List (Released T) → Type 0
  NeverGoesBackFrom low [] = Unit {0}
  NeverGoesBackFrom low (x ∷ later) = (low ≤ x.moment) × NeverGoesBackFrom x.moment later
