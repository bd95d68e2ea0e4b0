-- The tables of a plant's nodes, and the lanes on which they note.
use Rattle.std.proofs.Common.{◌≡◌, ◌≢◌, inl, inr, ℕ, zero, suc, ◌==◌, ◌&&◌, ◌||◌, not, Bool, true, false, List, [], ◌∷◌, Some, slice_get, slice_set, refl, sym, ap, ◌∙◌, subst}
use Rattle.std.proofs.lemmas.Bool.{cases_eq, ne_eqb, true≢false}
use Rattle.sr_frame.specs.declared.ports.Port.{Port}
use Rattle.sr_frame.specs.declared.ports.Port.TheVariants.{H, A, B, C}
use Rattle.sr_dup_window.specs.declared.lane_sets.Lane.{Lane}
use Rattle.sr_dup_window.specs.declared.lane_sets.Lane.TheVariants as lane
use Rattle.sr_dup_window.specs.declared.lane_sets.Lanes.{Lanes}
use Rattle.sr_dup_window.specs.LaneSets.{lanes_where, is_empty}
use Rattle.sr_dup_window.specs.LaneSets as lanes
use Rattle.sr_dup_window.specs.LaneLemmas.{has-lanes_where, some_lane, not_empty}
use Rattle.sr_dup_table.specs.Sources.{Sources}
use Rattle.sr_node.specs.Images.{State}
use Rattle.sr_node.specs.Starts.{is_x}
use Rattle.sr_node.specs.declared.mode.Mode.{Mode}
use Rattle.sr_node.specs.declared.mode.Mode.TheVariants as mode
use Rattle.sr_node.specs.Lanes.{came_in_on, is_asked, is_clear}
use Rattle.sr_laws_plant.specs.Handlings.{Handling}
use Rattle.sr_laws_plant.specs.Ports.{is_at, is_side, lane_at, inlet_lane}
use Rattle.sr_laws_plant.specs.Tables.{AreLanes, AreAsked, is_kept_back}

-- the table of a node
abbrev pub table_at : List State → ℕ → Sources
table_at [] k = []
table_at (m ∷ ms) zero = m.core.sources
table_at (m ∷ ms) (suc k) = table_at ms k

pub table_got : (ms : List State) (i : ℕ) (m : State) → slice_get ms i ≡ Some m → table_at ms i ≡ m.core.sources
table_got [] i m at = absurd cc
table_got (x ∷ ms) zero m at = let same : x ≡ m = cc in ap (λ y. y.core.sources) same
table_got (x ∷ ms) (suc i) m at = table_got ms i m at

table_set : (ms : List State) (i : ℕ) (m y : State) → slice_get ms i ≡ Some m → table_at (slice_set ms i y) i ≡ y.core.sources
table_set [] i m y at = absurd cc
table_set (x ∷ ms) zero m y at = refl
table_set (x ∷ ms) (suc i) m y at = table_set ms i m y at

table_other : (ms : List State) (i k : ℕ) (y : State) → k ≢ i → table_at (slice_set ms i y) k ≡ table_at ms k
table_other [] i k y other = refl
table_other (x ∷ ms) zero zero y other = absurd (other refl)
table_other (x ∷ ms) zero (suc k) y other = refl
table_other (x ∷ ms) (suc i) zero y other = refl
table_other (x ∷ ms) (suc i) (suc k) y other = table_other ms i k y (λ e. other (ap suc e))

-- one table changes, and the others stay
pub by_table : (ms : List State) (i : ℕ) (m y : State) (P : ℕ → Sources → Sources → Type 0) → slice_get ms i ≡ Some m → P i m.core.sources y.core.sources → ((k : ℕ) → (k == i) ≡ false → P k (table_at ms k) (table_at ms k)) →
    (k : ℕ) → P k (table_at ms k) (table_at (slice_set ms i y) k)
by_table ms i m y P at here others k = elim (cases_eq k i) [
  | inl e ↦ subst (λ x. P x (table_at ms x) (table_at (slice_set ms i y) x)) (sym e)
      (subst (λ a. P i a (table_at (slice_set ms i y) i)) (sym (table_got ms i m at)) (subst (λ b. P i m.core.sources b) (sym (table_set ms i m y at)) here))
  | inr ne ↦ subst (λ b. P k (table_at ms k) b) (sym (table_other ms i k y ne)) (others k (ne_eqb k i ne))
]

-- the lanes of the wanted outlets, and that of the port where it came in
abbrev is_wanted_by : (Port → Bool) → Lane → Bool
is_wanted_by wanted lane.H = wanted H
is_wanted_by wanted lane.A = wanted A
is_wanted_by wanted lane.B = wanted B
is_wanted_by wanted lane.C = wanted C
is_wanted_by wanted lane.GotA = false
is_wanted_by wanted lane.GotB = false

abbrev pub lanes_of : Handling → Lanes
lanes_of d = lanes_where (λ l. is_wanted_by d.wanted l || came_in_on d.inlet l)

pub lane_says : (d : Handling) (l : Lane) → lanes.has (lanes_of d) l ≡ (is_wanted_by d.wanted l || came_in_on d.inlet l)
lane_says d l = has-lanes_where (λ l. is_wanted_by d.wanted l || came_in_on d.inlet l) l

pub are_lanes : AreLanes lanes_of
are_lanes = record { outlets = outlets; sides = sides }
  where
    by_side : (port o : Port) → is_side o ≡ true → (d : Handling) → (is_wanted_by d.wanted (inlet_lane o) || came_in_on port (inlet_lane o)) ≡ is_at o port
    by_side H A e d = refl
    by_side A A e d = refl
    by_side B A e d = refl
    by_side C A e d = refl
    by_side H B e d = refl
    by_side A B e d = refl
    by_side B B e d = refl
    by_side C B e d = refl
    by_side port H e d = cc
    by_side port C e d = cc

    sides : (d : Handling) (o : Port) → is_side o ≡ true → lanes.has (lanes_of d) (inlet_lane o) ≡ is_at o d.inlet
    sides d o side = lane_says d (inlet_lane o) ∙ by_side d.inlet o side d

    by_outlet : (d : Handling) (port o : Port) → (is_wanted_by d.wanted (lane_at o) || came_in_on port (lane_at o)) ≡ (d.wanted o || (is_at C o && is_at o port))
    by_outlet d H H = refl
    by_outlet d H A = refl
    by_outlet d H B = refl
    by_outlet d H C = refl
    by_outlet d A H = refl
    by_outlet d A A = refl
    by_outlet d A B = refl
    by_outlet d A C = refl
    by_outlet d B H = refl
    by_outlet d B A = refl
    by_outlet d B B = refl
    by_outlet d B C = refl
    by_outlet d C H = refl
    by_outlet d C A = refl
    by_outlet d C B = refl
    by_outlet d C C = refl

    outlets : (d : Handling) (o : Port) → lanes.has (lanes_of d) (lane_at o) ≡ (d.wanted o || (is_at C o && is_at o d.inlet))
    outlets d o = lane_says d (lane_at o) ∙ by_outlet d d.inlet o

or_later : {b : Bool} (a : Bool) → b ≡ true → (a || b) ≡ true
or_later true e = refl
or_later false e = e

or_here : {a : Bool} (b : Bool) → a ≡ true → (a || b) ≡ true
or_here b e = ap (λ x. x || b) e

-- what comes in is noted on some lane
pub noted_somewhere : (d : Handling) → is_at H d.inlet ≡ false → is_empty (lanes_of d) ≡ false
noted_somewhere d outside = by d.inlet outside refl
  where
    by : (port : Port) → is_at H port ≡ false → d.inlet ≡ port → is_empty (lanes_of d) ≡ false
    by A s e = not_empty (lanes_of d) lane.GotA (lane_says d lane.GotA ∙ ap (λ p. came_in_on p lane.GotA) e)
    by B s e = not_empty (lanes_of d) lane.GotB (lane_says d lane.GotB ∙ ap (λ p. came_in_on p lane.GotB) e)
    by C s e = not_empty (lanes_of d) lane.C (lane_says d lane.C ∙ ap (λ p. d.wanted C || came_in_on p lane.C) e ∙ or_later (d.wanted C) refl)
    by H s e = absurd (true≢false s)

-- the lanes of which a node in this mode asks its table
abbrev pub asked_of : Mode → Handling → Lanes
asked_of m d = lanes_where (λ l. lanes.has (lanes_of d) l || is_asked m l)

asked_says : (m : Mode) (d : Handling) (l : Lane) → lanes.has (asked_of m d) l ≡ (lanes.has (lanes_of d) l || is_asked m l)
asked_says m d l = has-lanes_where (λ l. lanes.has (lanes_of d) l || is_asked m l) l

pub are_asked : (m : Mode) (x : ℕ → Bool) (d : Handling) → is_at H d.inlet ≡ false → x d.node ≡ is_x m → AreAsked x d (asked_of m d)
are_asked m x d side in_mode = record {
  some = (let some = some_lane (lanes_of d) (noted_somewhere d side) in not_empty (asked_of m d) some.0 (asked_says m d some.0 ∙ or_here (is_asked m some.0) some.1));
  outlets = λ o wants. asked_says m d (lane_at o) ∙ or_here (is_asked m (lane_at o)) (are_lanes.outlets d o ∙ or_here (is_at C o && is_at o d.inlet) wants);
  sides = λ o at is. asked_says m d (inlet_lane o) ∙ or_later (lanes.has (lanes_of d) (inlet_lane o)) (by m o at (sym in_mode ∙ is));
}
  where
    by : (m : Mode) (o : Port) → is_side o ≡ true → is_x m ≡ true → is_asked m (inlet_lane o) ≡ true
    by mode.X A e is = refl
    by mode.X B e is = refl
    by mode.X H e is = cc
    by mode.X C e is = cc
    by mode.H o e is = cc

-- what a node answers to is what the law's member goes by
pub clear_is : (m : Mode) (x : ℕ → Bool) (d : Handling) (fresh : Lanes) (o : Port) → x d.node ≡ is_x m → is_clear m fresh o ≡ not (is_kept_back x d fresh o)
clear_is m x d fresh o in_mode = by m o in_mode
  where
    not_not : (b : Bool) → b ≡ not (true && not b)
    not_not true = refl
    not_not false = refl

    by : (m : Mode) (o : Port) → x d.node ≡ is_x m → is_clear m fresh o ≡ not (is_kept_back x d fresh o)
    by mode.H H e = refl
    by mode.H A e = rw e refl
    by mode.H B e = rw e refl
    by mode.H C e = refl
    by mode.X H e = refl
    by mode.X A e = rw e (not_not (lanes.has fresh lane.GotA))
    by mode.X B e = rw e (not_not (lanes.has fresh lane.GotB))
    by mode.X C e = refl
