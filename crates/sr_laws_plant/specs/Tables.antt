-- Members with tables of duplicate records, step by step beside the plant.
use Rattle.std.specs.Prelude.{◌≡◌, ℕ, Bool, true, false, not, ◌&&◌, ◌||◌, ◌⊎◌, [], ◌∷◌, Option, Some, option_to_list, pos}
use Rattle.sr_frame.specs.declared.fields.Mac.{Mac}
use Rattle.sr_frame.specs.declared.ports.Port.{Port}
use Rattle.sr_frame.specs.declared.ports.Port.TheVariants.{H, A, B, C}
use Rattle.sr_sequence.specs.Numbers.{wire}
use Rattle.sr_dup_window.specs.declared.lane_sets.Lanes.{Lanes}
use Rattle.sr_dup_window.specs.LaneSets.{has, is_empty}
use Rattle.sr_dup_table.specs.Sources.{Sources, live_at, arrive_answer, after_arrive}
use Rattle.sr_laws_plant.specs.Lists.{Each}
use Rattle.sr_laws_plant.specs.Ports.{is_at, is_side, lane_at, inlet_lane}
use Rattle.sr_laws_plant.specs.Handlings.{Handling, is_sending}
use Rattle.sr_laws_plant.specs.Ledger.{Net}
use Rattle.sr_laws_plant.specs.PlantEvents.{Plant, History, done_in, PlantRun}
use Rattle.sr_laws_plant.specs.Widths.{Widths, AreWidths}
use Rattle.sr_laws_plant.specs.Premises.{AreAddressed}
use Rattle.sr_laws_plant.specs.Steadiness.{is_arrival_at}

-- A frame is noted on the lanes of the outlets that want it, and on that which says where it came in: at the interlink the interlink's own.
pub record AreLanes (lanes : Handling → Lanes) : Type 0 where
  pub outlets : (d : Handling) (o : Port) → has (lanes d) (lane_at o) ≡ (d.wanted o || (is_at C o && is_at o d.inlet))
  pub sides : (d : Handling) (o : Port) → is_side o ≡ true → has (lanes d) (inlet_lane o) ≡ is_at o d.inlet

-- a frame of the host goes to all outlets that want it
abbrev pub GoesOut : Handling → Type 0
GoesOut d = is_sending d ≡ true → (o : Port) → d.went o ≡ d.wanted o

-- The lanes of which the table is asked: those of the wanted outlets, and in mode X those that say at which side a copy came in.
pub record AreAsked (x : ℕ → Bool) (d : Handling) (asked : Lanes) : Type 0 where
  pub some : is_empty asked ≡ false
  pub outlets : (o : Port) → d.wanted o ≡ true → has asked (lane_at o) ≡ true
  pub sides : (o : Port) → is_side o ≡ true → x d.node ≡ true → has asked (inlet_lane o) ≡ true

-- in mode X, where an earlier copy came in at this side
abbrev pub is_kept_back : (ℕ → Bool) → Handling → Lanes → Port → Bool
is_kept_back x d fresh H = false
is_kept_back x d fresh A = x d.node && not (has fresh (inlet_lane A))
is_kept_back x d fresh B = x d.node && not (has fresh (inlet_lane B))
is_kept_back x d fresh C = false

-- what came in goes where it is wanted, new, and not kept back
abbrev pub GoesWhereNew : (ℕ → Bool) → Handling → Lanes → Type 0
GoesWhereNew x d fresh = (o : Port) → d.went o ≡ (d.wanted o && (has fresh (lane_at o) && not (is_kept_back x d fresh o)))

-- nothing came in at this member
abbrev pub Rests : ℕ → Option Handling → Type 0
Rests k did = Each (λ d. is_arrival_at k d ≡ false) (option_to_list did)

-- what a table of this width answers of a frame that comes in, on these lanes
abbrev pub table_answer : ℕ → (ℕ → Mac) → Sources → Handling → Lanes → Option Lanes
table_answer w mac s d asked = arrive_answer w s (mac d.frame.src) (wire (pos d.frame.number)) asked d.time

abbrev pub after_handling : ℕ → (ℕ → Mac) → (Handling → Lanes) → Sources → Handling → Sources
after_handling w mac lanes s d = after_arrive w s (mac d.frame.src) (wire (pos d.frame.number)) (lanes d) d.time

-- a numbered frame came in at it, and its table was shown 16 bits of the number
pub record Notes (mac : ℕ → Mac) (x : ℕ → Bool) (ws : Widths) (lanes : Handling → Lanes) (k now : ℕ) (did : Option Handling)
    (s t : Sources) : Type 0 where
  pub handling : Handling
  pub asked : Lanes
  pub fresh : Lanes
  pub did_it : did ≡ Some handling
  pub here : is_arrival_at k handling ≡ true
  pub time : handling.time ≡ now
  pub some : is_empty (lanes handling) ≡ false
  pub asks : AreAsked x handling asked
  pub answer : table_answer (ws.at k) mac s handling asked ≡ Some fresh
  pub after : t ≡ after_handling (ws.at k) mac lanes s handling
  pub goes : GoesWhereNew x handling fresh

-- a member's table over a turn that ends at this time: it stays, it forgets the silent sources, or it notes what came in
abbrev pub TableStep : (ℕ → Mac) → (ℕ → Bool) → Widths → (Handling → Lanes) → ℕ → ℕ → Option Handling → Sources → Sources → Type 0
TableStep mac x ws lanes k now did s t =
    (Rests k did × (t ≡ s)) ⊎ ((Rests k did × (t ≡ live_at now s)) ⊎ Notes mac x ws lanes k now did s t)

-- beside a run of the plant, from the empty table on
abbrev pub MemberRun : (ℕ → Mac) → (ℕ → Bool) → Widths → (Handling → Lanes) → ℕ → (net : Net) (es : History) (p : Plant) →
    PlantRun net es p → Sources → Type 0
MemberRun mac x ws lanes k net [] p run s = s ≡ []
MemberRun mac x ws lanes k net (e ∷ es) p run s =
    (u : Sources) × MemberRun mac x ws lanes k net es run.0 run.1 u × TableStep mac x ws lanes k p.clock e.1.did u s

-- n members with addresses of their own, each with a table; these are in mode X
pub record HaveTables (n : ℕ) (mac : ℕ → Mac) (x : ℕ → Bool) (ws : Widths) (lanes : Handling → Lanes) (net : Net) (es : History) (p : Plant)
    (run : PlantRun net es p) : Type 0 where
  pub addressed : AreAddressed mac n
  pub widths : AreWidths ws
  pub noted : AreLanes lanes
  pub out : Each GoesOut (done_in es)
  pub tables : ℕ → Sources
  pub runs : (k : ℕ) → MemberRun mac x ws lanes k net es p run (tables k)
