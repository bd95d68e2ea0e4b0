-- What a table answers to arrivals one after another, aged or not.
use Rattle.std.specs.Prelude.{◌≡◌, ℕ, ◌≤◌, List, [], ◌∷◌, Option, None, Some}
use Rattle.sr_frame.specs.declared.fields.Mac.{Mac}
use Rattle.sr_dup_window.specs.declared.lane_sets.Lanes.{Lanes}
use Rattle.sr_dup_table.specs.Sources.{Sources, IsTable, live_at, arrive_answer, after_arrive}

-- what a table is shown of an arrival: a source, its number as the wire carries it, some lanes, a time
pub record TableArrival : Type 0 where
  pub src : Mac
  pub seq : ℕ
  pub lanes : Lanes
  pub time : ℕ

-- what the sources answer to an arrival
abbrev pub answer_to : ℕ → Sources → TableArrival → Option Lanes
answer_to w s a = arrive_answer w s a.src a.seq a.lanes a.time

-- the sources after it: a refused one leaves them
abbrev pub left_by : ℕ → Option Lanes → Sources → TableArrival → Sources
left_by w None s a = s
left_by w (Some fresh) s a = after_arrive w s a.src a.seq a.lanes a.time

-- what they answer to each of several in turn
abbrev pub answers : ℕ → Sources → List TableArrival → List (Option Lanes)
answers w s [] = []
answers w s (a ∷ rest) = answer_to w s a ∷ answers w (left_by w (answer_to w s a) s a) rest

-- arrivals in the order of their times, none before this one
abbrev pub AreFrom : ℕ → List TableArrival → Type 0
AreFrom now [] = Unit {0}
AreFrom now (a ∷ rest) = (now ≤ a.time) × AreFrom a.time rest

-- ageing at a time changes no answer to what arrives from then on
abbrev pub AgeingKeepsAnswers : Type 0
AgeingKeepsAnswers = (w : ℕ) (s : Sources) (now : ℕ) (later : List TableArrival) → IsTable s → AreFrom now later →
    answers w (live_at now s) later ≡ answers w s later
