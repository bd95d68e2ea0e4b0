-- What a table that came about by such a tree knows.
use Rattle.std.specs.Prelude.{◌≡◌, ◌↔◌, ℕ, ◌≤◌, ℤ, not, ◌&&◌, List, [], Option, None, Some, Contains}
use Rattle.std.specs.Map.{lookup}
use Rattle.sr_frame.specs.declared.fields.Mac.{Mac}
use Rattle.sr_frame.specs.Addresses.{mac_eq}
use Rattle.sr_sequence.specs.Numbers.{wire}
use Rattle.sr_dup_window.specs.declared.lane_sets.Lane.{Lane}
use Rattle.sr_dup_window.specs.declared.lane_sets.Lanes.{Lanes}
use Rattle.sr_dup_window.specs.LaneSets.{has}
use Rattle.sr_dup_window.specs.Families.{StandsFor}
use Rattle.sr_dup_window.specs.Bins.{IsWidth}
use Rattle.sr_dup_table.specs.Sources.{Remembered, Sources, live_at, arrive_answer}
use Rattle.sr_dup_table.specs.Same.{AreSame}
use Rattle.sr_laws_dup.specs.TableRuns.{Noting}
use Rattle.sr_laws_dup_joins.specs.Growths.{Growth, arrived, Grew, arrivals_of, newest, epoch, numbers, latest, IsSteady}

-- a record stands for the cut of the numbers of these arrivals, and was heard with the last of them; there is none where there are none
abbrev pub Tells : ℕ → Mac → List Noting → Option Remembered → Type 0
Tells w src xs None = xs ≡ []
Tells w src xs (Some h) = (newest xs ≡ h.time) × (m : ℤ) × StandsFor w h.seen (numbers src xs) m

-- along any steady tree, what is live of a source stands for the cut of the union of all that its parts took in its epoch
abbrev pub TablesStand : Type 0
TablesStand =
    (w : ℕ) → IsWidth w → (t : Growth) (s : Sources) (src : Mac) (now : ℕ) → Grew w t s → IsSteady w t → latest t ≤ now →
    Tells w src (epoch src now t) (lookup (mac_eq src) (live_at now s))

-- an arrival is new on exactly the asked lanes on which that union, never cut, lacks it
abbrev pub AnswersByTheUnion : Type 0
AnswersByTheUnion =
    (w : ℕ) → IsWidth w → (t : Growth) (s : Sources) (x : Noting) (fresh : Lanes) (lane : Lane) → Grew w t s → IsSteady w (arrived t x) →
    arrive_answer w s x.arrival.src (wire x.arrival.number) x.lanes x.arrival.time ≡ Some fresh →
    has fresh lane
    ≡ (has x.lanes lane && not (numbers x.arrival.src (epoch x.arrival.src x.arrival.time t) lane x.arrival.number))

-- nothing is forgotten at a time: each arrival is in its source's epoch
abbrev pub KeepsAll : ℕ → Growth → Type 0
KeepsAll now t = (x : Noting) → Contains (arrivals_of t) x → Contains (epoch x.arrival.src now t) x

-- tables that took the same arrivals, in any orders and steady trees, know the same, where nothing is forgotten
abbrev pub TablesAgree : Type 0
TablesAgree =
    (w : ℕ) → IsWidth w → (t u : Growth) (one other : Sources) (now : ℕ) → Grew w t one → Grew w u other → IsSteady w t → IsSteady w u →
    latest t ≤ now → latest u ≤ now → KeepsAll now t → KeepsAll now u →
    ((x : Noting) → Contains (arrivals_of t) x ↔ Contains (arrivals_of u) x) → AreSame one other
