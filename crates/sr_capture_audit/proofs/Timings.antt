-- A pass that takes packets at the times of A's clock.
use Rattle.std.proofs.Common.{◌≡◌, List, [], ◌∷◌, Option, refl, sym, ap, ◌∙◌, subst}
use Rattle.std.specs.List.{FoldsTo}
use Rattle.sr_capture.specs.declared.packet.Packet.{Packet}
use Rattle.sr_clocks.specs.declared.line.Line.{Line}
use Rattle.sr_capture_script.specs.declared.passing.Place.{Place}
use Rattle.sr_capture_script.specs.Passing.{Handed, IsHandedAs}
use Rattle.sr_capture_audit.specs.declared.timing.Timed.{Timed}
use Rattle.sr_capture_audit.specs.Timing.{time_by, put_right, all_put_right, TakesTimed}

-- its place says of a packet what the packet's place said, but for the time
pub place_right : (clock : Option Line) (place own : Place) (shown : Packet) (x : Handed) → own.inlet ≡ place.inlet → own.number ≡ place.number →
    own.time ≡ time_by clock place.inlet place.time → IsHandedAs place shown x → IsHandedAs own shown (put_right clock x)
place_right clock place own shown x inlet number time is = record {
  inlet = is.inlet ∙ sym inlet;
  number = is.number ∙ sym number;
  time = ap (λ i. time_by clock i x.time) is.inlet ∙ ap (time_by clock place.inlet) is.time ∙ sym time;
  shows = is.shows;
}

-- the pass within takes packets at these times
pub folds_timed : {P : Type 0} (takes : P → Handed → P → Type 0) (old : Timed P) (xs : List Handed) (new : Timed P) →
    FoldsTo (λ o h n. TakesTimed takes h o n) old xs new → FoldsTo takes old.pass (all_put_right old.clock xs) new.pass
folds_timed takes old [] new same = ap (λ (t : Timed _). t.pass) same
folds_timed takes old (x ∷ xs) new h = (
  h.0.pass,
  h.1.taken,
  subst (λ c. FoldsTo takes h.0.pass (all_put_right c xs) new.pass) h.1.clock (folds_timed takes h.0 xs new h.2),
)
