-- What the examples share.
use Rattle.std.specs.Prelude.{if◌then◌else◌, ◌==◌}
use Rattle.std.proofs.Common.{◌≡◌, ℕ, suc, ◌≤◌, ◌<◌, Bool, true, false, ◌&&◌, ◌||◌, List, [], ◌∷◌, length, arith, refl, sym, ◌∙◌, inl, inr, Some}
use Rattle.std.specs.Prelude.{◌==◌, pos}
use Rattle.std.proofs.lemmas.Bool.{cases_Bool, ne_eqb, or_left, true≢false}
use Rattle.sr_frame.specs.declared.ports.Port.{Port}
use Rattle.sr_frame.specs.declared.ports.Port.TheVariants.{H, A, B, C}
use Rattle.sr_sequence.specs.Numbers.{wire}
use Rattle.sr_dup_window.specs.LaneSets.{has, is_empty}
use Rattle.sr_dup_window.specs.LaneLemmas.{has-lanes_where}
use Rattle.sr_dup_window.specs.Bins.{IsWidth}
use Rattle.sr_dup_table.specs.Limits.{window, wide_window}
use Rattle.sr_dup_table.specs.Sources.{Sources, after_arrive}
use Rattle.sr_laws_plant.specs.Lists.{how_many}
use Rattle.sr_laws_plant.specs.Ports.{is_at, is_side, lane_at, inlet_lane}
use Rattle.sr_laws_plant.specs.Handlings.{Handling}
use Rattle.sr_laws_plant.specs.Premises.{AreAddressed, recent_count, AreFewSent}
use Rattle.sr_laws_plant.specs.Steadiness.{is_arrival_at}
use Rattle.sr_laws_plant.specs.Tables.{AreLanes, AreAsked, GoesWhereNew, Notes}
use Rattle.sr_laws_plant.specs.Examples.{mac, no_one, is_noted, lanes_noted, mixed}
use Rattle.sr_laws_plant.specs.Widths.{Widths, AreWidths}

-- no list has more that pass a test than it has
most : {X : Type 0} (p : X → Bool) (xs : List X) → how_many p xs ≤ length xs
most p [] = omega arith
most p (x ∷ xs) =
    let rest = most p xs in
    elim (cases_Bool (p x)) [
      | inl is ↦ rw is (omega (arith, rest))
      | inr not_so ↦ rw not_so (omega (arith, rest))
    ]

pub few : (ws : Widths) → ws.greatest ≤ 2048 → (now : ℕ) (ds : List Handling) → length ds ≤ 5 → AreFewSent ws now ds
few ws wide now ds short s = let all : recent_count s now ds ≤ length ds = most _ ds in omega (arith, all, wide)

pub addressed : (n : ℕ) → AreAddressed mac n
addressed n = record { apart = λ i j i_in j_in. and_true (i == j) }
  where
    and_true : (b : Bool) → (b && true) ≡ b
    and_true true = refl
    and_true false = refl

or_none : (b : Bool) → b ≡ (b || false)
or_none true = refl
or_none false = refl

pub lanes_are : AreLanes lanes_noted
lanes_are = record { outlets = outlets; sides = sides }
  where
    outlets : (d : Handling) (o : Port) → has (lanes_noted d) (lane_at o) ≡ (d.wanted o || (is_at C o && is_at o d.inlet))
    outlets d H = has-lanes_where (is_noted d) (lane_at H) ∙ or_none (d.wanted H)
    outlets d A = has-lanes_where (is_noted d) (lane_at A) ∙ or_none (d.wanted A)
    outlets d B = has-lanes_where (is_noted d) (lane_at B) ∙ or_none (d.wanted B)
    outlets d C = has-lanes_where (is_noted d) (lane_at C)

    sides : (d : Handling) (o : Port) → is_side o ≡ true → has (lanes_noted d) (inlet_lane o) ≡ is_at o d.inlet
    sides d A e = has-lanes_where (is_noted d) (inlet_lane A)
    sides d B e = has-lanes_where (is_noted d) (inlet_lane B)
    sides d H e = cc
    sides d C e = cc

-- in mode H a table is asked of the lanes that are noted
pub mixed_widths : AreWidths mixed
mixed_widths = record { width = λ k. which k (k == 2); least = λ k. low k (k == 2); greatest = λ k. high k (k == 2) }
  where
    which : (k : ℕ) (b : Bool) → IsWidth (if b then wide_window else window)
    which k true = inr refl
    which k false = inl refl

    low : (k : ℕ) (b : Bool) → window ≤ (if b then wide_window else window)
    low k true = omega arith
    low k false = omega arith

    high : (k : ℕ) (b : Bool) → (if b then wide_window else window) ≤ wide_window
    high k true = omega arith
    high k false = omega arith

pub asked_noted : (d : Handling) → is_empty (lanes_noted d) ≡ false → AreAsked no_one d (lanes_noted d)
asked_noted d some = record {
  some = some;
  outlets = λ o wants. lanes_are.outlets d o ∙ or_left (d.wanted o) (is_at C o && is_at o d.inlet) wants;
  sides = λ o side (e : false ≡ true). absurd (true≢false (sym e));
}

pub by_port : (P : Port → Type 0) → P H → P A → P B → P C → (o : Port) → P o
by_port P h a b c H = h
by_port P h a b c A = a
by_port P h a b c B = b
by_port P h a b c C = c

-- none of the first three members
pub is_none_of : (k m : ℕ) → m < 3 → (suc (suc (suc k)) == m) ≡ false
is_none_of k m low = ne_eqb (suc (suc (suc k))) m (λ e. beyond e)
  where
    beyond : suc (suc (suc k)) ≡ m → ⊥
    beyond e = omega arith

-- an empty table of this width that was shown what came in
abbrev pub table_after : ℕ → Handling → Sources
table_after w d = after_arrive w [] (mac d.frame.src) (wire (pos d.frame.number)) (lanes_noted d) d.time

-- all is new to an empty table
pub first_noted : (ws : Widths) (d : Handling) (k : ℕ) → is_arrival_at k d ≡ true → is_empty (lanes_noted d) ≡ false → GoesWhereNew no_one d (lanes_noted d) →
    Notes mac no_one ws lanes_noted k d.time (Some d) [] (table_after (ws.at k) d)
first_noted ws d k here some goes =
    record {
      handling = d;
      asked = lanes_noted d;
      fresh = lanes_noted d;
      did_it = refl;
      here = here;
      time = refl;
      some = some;
      asks = asked_noted d some;
      answer = refl;
      after = refl;
      goes = goes;
    }
