-- The laws over every list of events of a ring.
use Rattle.std.specs.Prelude.{◌≡◌, ◌↔◌, ℕ, Bool, ◌<◌, nat_lt, true}
use Rattle.sr_frame.specs.declared.fields.Mac.{Mac}
use Rattle.sr_dup_window.specs.declared.lane_sets.Lanes.{Lanes}
use Rattle.sr_laws_plant.specs.Lists.{Each}
use Rattle.sr_laws_plant.specs.Frames.{Frame}
use Rattle.sr_laws_plant.specs.Handlings.{Handling, IsSent}
use Rattle.sr_laws_plant.specs.OneNode.{Bars, AreExact, IsSound, IsRouted}
use Rattle.sr_laws_plant.specs.PlantEvents.{Plant, IsQuiet, History, turns, done_in, PlantRun}
use Rattle.sr_laws_plant.specs.Ideal.{IsIdeal, IsHanded, AreIdeal, AreOnce}
use Rattle.sr_laws_plant.specs.RingParts.{Way, IsWhole, IsBeside, Reaches}
use Rattle.sr_laws_plant.specs.Rings.{ring, ring_part, danh_routes}
use Rattle.sr_laws_plant.specs.Premises.{AreAddressed, AreWithinLimits}
use Rattle.sr_laws_plant.specs.Steadiness.{AllSteady}
use Rattle.sr_laws_plant.specs.Tables.{HaveTables}
use Rattle.sr_laws_plant.specs.Widths.{Widths, AreWidths}

-- what happened to a ring of n members: its events, at its members alone, and no frame went where the table of routes does not want it
pub record RingRun (n : ℕ) (es : History) (p : Plant) : Type 0 where
  pub run : PlantRun (ring n) es p
  pub members : Each (λ d. d.node < n) (done_in es)
  pub routed : Each (IsRouted danh_routes) (done_in es)
  pub sound : Each IsSound (done_in es)

-- all premises: a ring, members that are addressed and have tables, and traffic within the limits
pub record RingPremises (n : ℕ) (mac : ℕ → Mac) (x : ℕ → Bool) (ws : Widths) (lanes : Handling → Lanes) (es : History)
    (p : Plant) : Type 0 where
  pub happened : RingRun n es p
  pub tables : HaveTables n mac x ws lanes (ring n) es p happened.run
  pub limits : AreWithinLimits ws (done_in es)

-- an arc from its source to j is whole for a frame
abbrev pub HasWholeArc : ℕ → History → Frame → ℕ → Type 0
HasWholeArc n es f j = (w : Way) × (m : ℕ) × IsWhole (ring n) (ring_part n) f (turns es) w f.src m j

-- from whichever member has it beside the first link, a whole arc brings a frame to its end
abbrev pub ArcsBring : ℕ → History → Type 0
ArcsBring n es =
    (f : Frame) (i j : ℕ) (w : Way) (m : ℕ) → IsSent f (done_in es) → nat_lt i n ≡ true → IsBeside w i f (done_in es) →
    IsWhole (ring n) (ring_part n) f (turns es) w i m j → Reaches danh_routes w j f (done_in es)

-- what is ideal for a member and has a whole arc to it is handed up
abbrev pub LosesNothingRound : ℕ → History → Type 0
LosesNothingRound n es = (f : Frame) (j : ℕ) → IsIdeal j f (done_in es) → HasWholeArc n es f j → IsHanded j f (done_in es)

-- where all that is ideal for j has a whole arc, it is the ideal that j handed up
abbrev pub IsIdealRound : ℕ → History → Type 0
IsIdealRound n es =
    (j : ℕ) → ((f : Frame) → IsIdeal j f (done_in es) → HasWholeArc n es f j) →
    (f : Frame) → IsHanded j f (done_in es) ↔ IsIdeal j f (done_in es)

-- Within the ideal, whatever is lost, repeated, late or much.
abbrev pub RingHandsUpTheIdeal : Type 0
RingHandsUpTheIdeal = (n : ℕ) (es : History) (p : Plant) → RingRun n es p → AreIdeal es

-- Each member's run is steady.
abbrev pub RingIsSteady : Type 0
RingIsSteady =
    (n : ℕ) (mac : ℕ → Mac) (ws : Widths) (es : History) (p : Plant) → RingRun n es p → AreAddressed mac n → AreWidths ws →
    AreWithinLimits ws (done_in es) → AllSteady ws mac (done_in es)

-- Each once, under all premises.
abbrev pub RingHandsUpOnce : Type 0
RingHandsUpOnce =
    (n : ℕ) (mac : ℕ → Mac) (x : ℕ → Bool) (ws : Widths) (lanes : Handling → Lanes) (es : History) (p : Plant) →
    RingPremises n mac x ws lanes es p → AreOnce es

-- All that a whole arc brings, under all premises and in quiet.
abbrev pub RingLosesNothing : Type 0
RingLosesNothing =
    (n : ℕ) (mac : ℕ → Mac) (x : ℕ → Bool) (ws : Widths) (lanes : Handling → Lanes) (es : History) (p : Plant) →
    RingPremises n mac x ws lanes es p → IsQuiet p → ArcsBring n es × LosesNothingRound n es × IsIdealRound n es

-- A ring of members that bar more ports loses nothing, without tables and limits on the traffic.
abbrev pub ExactRingLosesNothing : Type 0
ExactRingLosesNothing =
    (n : ℕ) (bars : Bars) (es : History) (p : Plant) → RingRun n es p → AreExact bars (done_in es) →
    AreOnce es × (IsQuiet p → ArcsBring n es × LosesNothingRound n es × IsIdealRound n es)
