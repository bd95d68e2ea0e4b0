-- When the captures of an audit begin and end.
use Rattle.std.specs.Prelude.{◌≡◌, ℕ, Bool, true, false, List, [], ◌∷◌, ◌++◌, map, filter, Option, None, Some}
use Rattle.sr_audit.specs.declared.side.Side.{Side}
use Rattle.sr_audit.specs.declared.side.Side.TheVariants.{A, B}
use Rattle.sr_audit.specs.declared.span.Spans.{Spans}
use Rattle.sr_audit.specs.Spans.{span_of}
use Rattle.sr_capture.specs.Records.{Captured}
use Rattle.sr_capture_script.specs.declared.choice.Choice.{Choice}
use Rattle.sr_capture_script.specs.Coming.{AllCame}
use Rattle.sr_capture_script.specs.Items.{Item}
use Rattle.sr_capture_script.specs.Merging.{Feed}
use Rattle.sr_capture_script.specs.Passing.{Handed, wanted}
use Rattle.sr_capture_audit.specs.declared.kind.Kind.{Kind}
use Rattle.sr_capture_audit.specs.declared.kind.Kind.TheVariants.{Numbered}
use Rattle.sr_capture_audit.specs.declared.network.Network.{Network}
use Rattle.sr_capture_audit.specs.declared.network.Subject.{Subject}
use Rattle.sr_capture_audit.specs.declared.network.Tap.{Tap}
use Rattle.sr_capture_audit.specs.declared.network.Tap.TheVariants as tap
use Rattle.sr_capture_audit.specs.declared.spanning.Beside.{Beside}
use Rattle.sr_capture_audit.specs.declared.spanning.Spanning.{Spanning}
use Rattle.sr_capture_audit.specs.Auditing.{tap_at}
use Rattle.sr_capture_audit.specs.Kinds.{IsKind}
use Rattle.sr_capture_audit.specs.Timing.{put_right, all_put_right}

-- the side that a frame with a number came in by; other packets name none
abbrev pub side_named : Kind → Option Side
side_named (Numbered n) = Some n.side
side_named other = None

-- the side of a packet: that of its capture, or at a mirror port the one that it names itself
abbrev pub IsSideOf : Tap → Network → Captured → Option Side → Type 0
IsSideOf (tap.Side own) network packet side = side ≡ Some own
IsSideOf tap.Mirror network packet side = (k : Kind) × IsKind network tap.Mirror packet k × (side ≡ side_named k)

-- a packet of no capture of the audit has none
abbrev pub CameBy : Option Tap → Network → Captured → Option Side → Type 0
CameBy (Some own) network packet side = IsSideOf own network packet side
CameBy None network packet side = side ≡ None

-- packets, each as its side and its time, in order
abbrev pub AreTimed : Subject → List Handed → List (Option Side × ℕ) → Type 0
AreTimed subject [] timed = timed ≡ []
AreTimed subject (x ∷ xs) timed = (side : Option Side) × (rest : List (Option Side × ℕ)) × (timed ≡ (side, x.time) ∷ rest)
    × CameBy (tap_at subject.ports x.inlet) subject.network x.packet side × AreTimed subject xs rest

-- the times of the packets of a side
abbrev pub is_by : Side → Option Side → Bool
is_by A (Some A) = true
is_by B (Some B) = true
is_by side other = false

abbrev pub times_by : Side → List (Option Side × ℕ) → List ℕ
times_by side timed = map (λ t. t.1) (filter (λ t. is_by side t.0) timed)

-- the spans of some packets: from the first to the last of each side
pub record AreSpansOf (subject : Subject) (xs : List Handed) (spans : Spans) : Type 0 where
  pub timed : List (Option Side × ℕ)
  pub are_timed : AreTimed subject xs timed
  pub a : spans.a ≡ span_of (times_by A timed)
  pub b : spans.b ≡ span_of (times_by B timed)

-- spans of one packet more
pub record SpansMore (x : Handed) (old new : Spanning) : Type 0 where
  pub subject : new.subject ≡ old.subject
  pub spans : (xs : List Handed) → AreSpansOf old.subject xs old.spans → AreSpansOf old.subject (xs ++ x ∷ []) new.spans

-- a packet is taken for the spans, at its time by the clock of A, and by the other pass
pub record SpansBeside {P : Type 0} (takes : P → Handed → P → Type 0) (x : Handed) (old new : Beside P) : Type 0 where
  pub spans : SpansMore (put_right old.spanning.subject.clock x) old.spanning new.spanning
  pub other : takes old.other x new.other

-- the spans of three files: of all their packets that are wanted
pub record AreSpansOfAll (choice : Choice) (subject : Subject) (x y z : Feed) (spans : Spans) : Type 0 where
  pub merged : List Item
  pub came : AllCame x y z merged
  pub of_all : AreSpansOf subject (all_put_right subject.clock (wanted choice merged)) spans
