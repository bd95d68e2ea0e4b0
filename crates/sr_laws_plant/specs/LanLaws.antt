-- The laws over every list of events of two LANs.
use Rattle.std.specs.Prelude.{◌≡◌, ◌↔◌, ◌⊎◌, ℕ, Bool, ◌<◌, true}
use Rattle.sr_frame.specs.declared.fields.Mac.{Mac}
use Rattle.sr_frame.specs.declared.ports.Port.{Port}
use Rattle.sr_dup_window.specs.declared.lane_sets.Lanes.{Lanes}
use Rattle.sr_laws_plant.specs.Lists.{Each}
use Rattle.sr_laws_plant.specs.Ports.{is_side}
use Rattle.sr_laws_plant.specs.Frames.{Frame}
use Rattle.sr_laws_plant.specs.Handlings.{Handling, IsSent}
use Rattle.sr_laws_plant.specs.OneNode.{Bars, AreExact, CameIn, IsSound, IsRouted}
use Rattle.sr_laws_plant.specs.PlantEvents.{Plant, IsQuiet, History, turns, done_in, PlantRun}
use Rattle.sr_laws_plant.specs.Ideal.{IsIdeal, IsHanded, AreIdeal, AreOnce}
use Rattle.sr_laws_plant.specs.TwinLans.{twin_lans, danp_routes, IsWholeInLans}
use Rattle.sr_laws_plant.specs.Premises.{AreAddressed, AreWithinLimits}
use Rattle.sr_laws_plant.specs.Steadiness.{AllSteady}
use Rattle.sr_laws_plant.specs.Tables.{HaveTables}
use Rattle.sr_laws_plant.specs.Widths.{Widths, AreWidths}

-- what happened to two LANs of n members: their events, at their members alone, and no frame went where the table of routes does not
-- want it
pub record LanRun (n : ℕ) (es : History) (p : Plant) : Type 0 where
  pub run : PlantRun (twin_lans n) es p
  pub members : Each (λ d. d.node < n) (done_in es)
  pub routed : Each (IsRouted danp_routes) (done_in es)
  pub sound : Each IsSound (done_in es)

-- all premises: two LANs, members that are addressed and have tables, and traffic within the limits
pub record LanPremises (n : ℕ) (mac : ℕ → Mac) (x : ℕ → Bool) (ws : Widths) (lanes : Handling → Lanes) (es : History)
    (p : Plant) : Type 0 where
  pub happened : LanRun n es p
  pub tables : HaveTables n mac x ws lanes (twin_lans n) es p happened.run
  pub limits : AreWithinLimits ws (done_in es)

abbrev pub HasWholeCopy : ℕ → History → Frame → ℕ → Type 0
HasWholeCopy n es f j = IsWholeInLans (twin_lans n) f (turns es) j

-- whichever member put it out: where not all copies of a frame for j were lost, one came in at j, or j is its source
abbrev pub CopiesBring : ℕ → History → Type 0
CopiesBring n es =
    (f : Frame) (j : ℕ) → IsSent f (done_in es) → HasWholeCopy n es f j →
    (j ≡ f.src) ⊎ ((p : Port) × (is_side p ≡ true) × CameIn j p f (done_in es))

-- what is ideal for a member, and of which not all copies for it were lost, is handed up
abbrev pub LosesNothingAcross : ℕ → History → Type 0
LosesNothingAcross n es = (f : Frame) (j : ℕ) → IsIdeal j f (done_in es) → HasWholeCopy n es f j → IsHanded j f (done_in es)

-- where so it is of all that is ideal for j, it is the ideal that j handed up
abbrev pub IsIdealAcross : ℕ → History → Type 0
IsIdealAcross n es =
    (j : ℕ) → ((f : Frame) → IsIdeal j f (done_in es) → HasWholeCopy n es f j) →
    (f : Frame) → IsHanded j f (done_in es) ↔ IsIdeal j f (done_in es)

-- Within the ideal, whatever is lost, repeated, late or much.
abbrev pub LansHandUpTheIdeal : Type 0
LansHandUpTheIdeal = (n : ℕ) (es : History) (p : Plant) → LanRun n es p → AreIdeal es

-- Each member's run is steady.
abbrev pub LansAreSteady : Type 0
LansAreSteady =
    (n : ℕ) (mac : ℕ → Mac) (ws : Widths) (es : History) (p : Plant) → LanRun n es p → AreAddressed mac n → AreWidths ws →
    AreWithinLimits ws (done_in es) → AllSteady ws mac (done_in es)

-- Each once, under all premises.
abbrev pub LansHandUpOnce : Type 0
LansHandUpOnce =
    (n : ℕ) (mac : ℕ → Mac) (x : ℕ → Bool) (ws : Widths) (lanes : Handling → Lanes) (es : History) (p : Plant) →
    LanPremises n mac x ws lanes es p → AreOnce es

-- All that a copy brings in one LAN or the other, under all premises and in quiet.
abbrev pub LansLoseNothing : Type 0
LansLoseNothing =
    (n : ℕ) (mac : ℕ → Mac) (x : ℕ → Bool) (ws : Widths) (lanes : Handling → Lanes) (es : History) (p : Plant) →
    LanPremises n mac x ws lanes es p → IsQuiet p → CopiesBring n es × LosesNothingAcross n es × IsIdealAcross n es

-- Two LANs of members that bar more ports lose nothing, without tables and limits on the traffic.
abbrev pub ExactLansLoseNothing : Type 0
ExactLansLoseNothing =
    (n : ℕ) (bars : Bars) (es : History) (p : Plant) → LanRun n es p → AreExact bars (done_in es) →
    AreOnce es × (IsQuiet p → CopiesBring n es × LosesNothingAcross n es × IsIdealAcross n es)
