-- Coupled networks that lose nothing.
use Rattle.std.specs.Prelude.{◌≡◌, ◌↔◌, ℕ, ◌<◌, Bool}
use Rattle.sr_frame.specs.declared.fields.Mac.{Mac}
use Rattle.sr_dup_window.specs.declared.lane_sets.Lanes.{Lanes}
use Rattle.sr_laws_plant.specs.Lists.{One}
use Rattle.sr_laws_plant.specs.Frames.{Frame}
use Rattle.sr_laws_plant.specs.Handlings.{Handling}
use Rattle.sr_laws_plant.specs.Ideal.{IsIdeal, IsHanded}
use Rattle.sr_laws_plant.specs.Ledger.{Place, lost_in}
use Rattle.sr_laws_plant.specs.PlantEvents.{Plant, IsQuiet, History, turns, done_in}
use Rattle.sr_laws_plant.specs.RingLans.{Shape, size, RingLanPremises}
use Rattle.sr_laws_plant.specs.TwoRings.{TwoShape, all_members, TwoRingsPremises}
use Rattle.sr_laws_plant.specs.Widths.{Widths}

-- no copy of any frame was lost
abbrev pub LosesNone : History → Type 0
LosesNone es = (q : Place) (f : Frame) → lost_in q f (turns es) ≡ 0

-- what each of n members handed up is what is ideal for it
abbrev pub AllIsHanded : ℕ → History → Type 0
AllIsHanded n es = (j : ℕ) → j < n → (f : Frame) → IsHanded j f (done_in es) ↔ IsIdeal j f (done_in es)

-- Where nothing is lost and nothing is in flight, under all premises, each member of a ring with two LANs hands up its ideal: from each
-- member a way leads to each other.
abbrev pub LosslessRingLanIsIdeal : Type 0
LosslessRingLanIsIdeal =
    (s : Shape) (mac : ℕ → Mac) (x : ℕ → Bool) (ws : Widths) (lanes : Handling → Lanes) (es : History) (p : Plant) →
    RingLanPremises s mac x ws lanes es p → IsQuiet p → LosesNone es → AllIsHanded (size s) es

-- so does each member of two rings that have a join
abbrev pub LosslessTwoRingsAreIdeal : Type 0
LosslessTwoRingsAreIdeal =
    (s : TwoShape) (mac : ℕ → Mac) (x : ℕ → Bool) (ws : Widths) (lanes : Handling → Lanes) (es : History) (p : Plant) (join : ℕ × ℕ) →
    One (λ j. j ≡ join) s.joins → TwoRingsPremises s mac x ws lanes es p → IsQuiet p → LosesNone es → AllIsHanded (all_members s) es
