-- What a LAN shows behind a turn that it answered, or a frame that it was given, and what a line says of them.
use Rattle.std.specs.Prelude.{◌≡◌, ◌+◌, ⊤, ℕ, List}
use Rattle.sr_workers.specs.declared.feed.Given.{Given}
use Rattle.sr_workers.specs.declared.feed.Turn.{Turn}
use Rattle.sr_workers.specs.declared.feed.Turn.TheVariants.{Idle}
use Rattle.sr_workers.specs.Told.{told_of, turns_in}
use Rattle.sr_lines.specs.declared.lan.Lan.{Lan as ALan}
use Rattle.sr_lines.specs.declared.line.Line.{Line}
use Rattle.sr_lines.specs.declared.line.Line.TheVariants.{Host, Ring, Lan}
use Rattle.sr_lines.specs.Handed.{asked_in, failed_in}
use Rattle.sr_lines.specs.CableTurns.{AnswersAsItsWire, TakesForItsWire}
use Rattle.sr_lines.specs.Spreading.{sent_by_lan, taken_by_lan, seen_taken_of_lan, seen_sent_to_lan}
use Rattle.sr_lines.specs.Spreading.{HandsOutOf, WereEmpty, SpreadsTo, is_put}

-- A LAN answered a turn, and counts it: what it hands out is the next frame that one of its wires took, and nothing is sent. It has
-- nothing to hand out only where it looked at each wire, and all were empty.
pub record AnswersTurn (before : ALan) (turn : Turn) (octets : List ℕ) (after : ALan) : Type 0 where
  pub counted : asked_in after ≡ asked_in before + turns_in turn
  pub handed : HandsOutOf before.turn (taken_by_lan before) (seen_sent_to_lan before) (taken_by_lan after) after.turn (told_of turn octets)
  pub looked : turn ≡ Idle → WereEmpty (λ i. ⊤) (taken_by_lan before) (seen_sent_to_lan before)
  pub unsent : sent_by_lan after ≡ sent_by_lan before

-- a LAN sends a frame on all wires, but for those that may lose it, and takes none
pub record SendsToAll (before : ALan) (octets : List ℕ) (given : Given) (after : ALan) : Type 0 where
  pub spread : SpreadsTo octets (failed_in before) (sent_by_lan before) (seen_taken_of_lan before) (sent_by_lan after) (is_put given)
  pub untaken : taken_by_lan after ≡ taken_by_lan before

-- a line answers a turn as its host's feed, its wires round a ring or its LAN do
abbrev pub LineAnswers : {F : Type 0} → (F → Turn → List ℕ → F → Type 0) → Line F → Turn → List ℕ → Line F → Type 0
LineAnswers hands (Host f) turn octets (Host g) = hands f turn octets g
LineAnswers hands (Lan l) turn octets (Lan m) = AnswersTurn l turn octets m
LineAnswers hands (Ring c) turn octets (Ring d) = AnswersAsItsWire c turn octets d
LineAnswers hands line turn octets other = ⊥

-- a line takes a frame as its host's feed, its wires round a ring or its LAN do
abbrev pub LineTakes : {F : Type 0} → (F → List ℕ → Given → F → Type 0) → Line F → List ℕ → Given → Line F → Type 0
LineTakes takes (Host f) octets given (Host g) = takes f octets given g
LineTakes takes (Lan l) octets given (Lan m) = SendsToAll l octets given m
LineTakes takes (Ring c) octets given (Ring d) = TakesForItsWire c octets given d
LineTakes takes line octets given other = ⊥
