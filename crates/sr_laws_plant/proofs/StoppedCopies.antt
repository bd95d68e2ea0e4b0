-- A ring in mode X: the example computes.
use Rattle.std.proofs.Common.{◌≡◌, ℕ, zero, suc, Bool, true, false, ◌&&◌, ◌||◌, not, List, [], ◌∷◌, arith, refl, sym, ◌∙◌, inl, inr, Some}
use Rattle.std.specs.Prelude.{pos}
use Rattle.std.proofs.lemmas.Bool.{or_left, true≢false}
use Rattle.sr_frame.specs.declared.ports.Port.{Port}
use Rattle.sr_frame.specs.declared.ports.Port.TheVariants.{H, A, B, C}
use Rattle.sr_sequence.specs.Numbers.{wire}
use Rattle.sr_dup_window.specs.declared.lane_sets.Lane.{Lane}
use Rattle.sr_dup_window.specs.declared.lane_sets.Lane.TheVariants as lane
use Rattle.sr_dup_window.specs.declared.lane_sets.Lanes.{Lanes}
use Rattle.sr_dup_window.specs.LaneSets.{has, is_empty, lanes_where, only, union}
use Rattle.sr_dup_window.specs.LaneLemmas.{has-lanes_where}
use Rattle.sr_dup_window.specs.Windows.{no_marks}
use Rattle.sr_dup_table.specs.Limits.{window}
use Rattle.sr_dup_table.specs.Sources.{Sources, arrive_answer, after_arrive}
use Rattle.sr_laws_plant.specs.Ports.{is_at, is_side, lane_at, inlet_lane}
use Rattle.sr_laws_plant.specs.Handlings.{Handling}
use Rattle.sr_laws_plant.specs.Ledger.{Copy}
use Rattle.sr_laws_plant.specs.OneNode.{WasPut}
use Rattle.sr_laws_plant.specs.PlantEvents.{Plant, opening, PlantRun, done_in}
use Rattle.sr_laws_plant.specs.Steadiness.{is_arrival_at}
use Rattle.sr_laws_plant.specs.Tables.{AreAsked, is_kept_back, GoesWhereNew, Notes, MemberRun}
use Rattle.sr_laws_plant.proofs.ExampleLemmas.{few, addressed, lanes_are, by_port, is_none_of, table_after}
use Rattle.sr_laws_plant.specs.Examples.{mac, each_one, lanes_noted, f, sent, first_copy, second_copy, copy_to}
use Rattle.sr_laws_plant.specs.RingParts.{onward}
use Rattle.sr_laws_plant.specs.Rings.{ring, danh_routes}
use Rattle.sr_laws_plant.specs.RingLaws.{RingPremises}
use Rattle.sr_laws_plant.specs.Examples.{mode_x_events, quiet_ring, CopiesStopInModeX}
use Rattle.sr_laws_plant.specs.Widths.{all_narrow}
use Rattle.sr_laws_plant.proofs.SteadyLemmas.{narrow_widths}

-- in mode X the table is asked also where copies came in
abbrev is_asked : Handling → Lane → Bool
is_asked d lane.H = d.wanted H
is_asked d lane.A = d.wanted A
is_asked d lane.B = d.wanted B
is_asked d lane.C = d.wanted C || is_at C d.inlet
is_asked d lane.GotA = true
is_asked d lane.GotB = true

abbrev lanes_asked : Handling → Lanes
lanes_asked d = lanes_where (is_asked d)

asked_of : (d : Handling) → is_empty (lanes_asked d) ≡ false → AreAsked each_one d (lanes_asked d)
asked_of d some = record { some = some; outlets = outlets; sides = sides }
  where
    outlets : (o : Port) → d.wanted o ≡ true → has (lanes_asked d) (lane_at o) ≡ true
    outlets H wants = has-lanes_where (is_asked d) (lane_at H) ∙ wants
    outlets A wants = has-lanes_where (is_asked d) (lane_at A) ∙ wants
    outlets B wants = has-lanes_where (is_asked d) (lane_at B) ∙ wants
    outlets C wants = has-lanes_where (is_asked d) (lane_at C) ∙ or_left (d.wanted C) (is_at C d.inlet) wants

    sides : (o : Port) → is_side o ≡ true → true ≡ true → has (lanes_asked d) (inlet_lane o) ≡ true
    sides A e x = has-lanes_where (is_asked d) (inlet_lane A)
    sides B e x = has-lanes_where (is_asked d) (inlet_lane B)
    sides H e x = cc
    sides C e x = cc

-- what is in flight after each event
abbrev on_its_way : List Copy → Plant
on_its_way cs = record { flight = cs; cuts = []; clock = 0 }

abbrev first_a : Copy
first_a = copy_to 1 A (0 ∷ [])

abbrev first_b : Copy
first_b = copy_to 2 B (2 ∷ [])

abbrev second_a : Copy
second_a = copy_to 2 A (1 ∷ [])

abbrev second_b : Copy
second_b = copy_to 1 B (1 ∷ [])

abbrev ring_run : PlantRun (ring 3) mode_x_events quiet_ring
ring_run = (
  on_its_way (second_a ∷ []),
  (
    on_its_way (second_b ∷ second_a ∷ []),
    (
      on_its_way (first_a ∷ second_b ∷ []),
      (
        on_its_way (first_b ∷ first_a ∷ []),
        (
          opening,
          refl,
          (
            sent,
            refl,
            record { inlet = refl; sending = record { own = refl; number = refl; time = refl }; time = refl; says = refl; after = refl },
          ),
        ),
        (
          first_b,
          first_a ∷ [],
          record { before = []; behind = first_a ∷ []; index = refl; whole = refl; left = refl },
          inr (inr (
            first_copy danh_routes 2 B,
            record { foreign = refl; inlet = refl; node = refl; port = refl; frame = refl; time = refl; says = refl; after = refl },
          )),
        ),
      ),
      (
        first_a,
        second_b ∷ [],
        record { before = []; behind = second_b ∷ []; index = refl; whole = refl; left = refl },
        inr (inr (
          first_copy danh_routes 1 A,
          record { foreign = refl; inlet = refl; node = refl; port = refl; frame = refl; time = refl; says = refl; after = refl },
        )),
      ),
    ),
    (
      second_b,
      second_a ∷ [],
      record { before = []; behind = second_a ∷ []; index = refl; whole = refl; left = refl },
      inr (inr (
        second_copy danh_routes 1 B,
        record { foreign = refl; inlet = refl; node = refl; port = refl; frame = refl; time = refl; says = refl; after = refl },
      )),
    ),
  ),
  (
    second_a,
    [],
    record { before = []; behind = []; index = refl; whole = refl; left = refl },
    inr (inr (
      second_copy danh_routes 2 A,
      record { foreign = refl; inlet = refl; node = refl; port = refl; frame = refl; time = refl; says = refl; after = refl },
    )),
  ),
)

-- an empty table has not noted the first copy on any lane
first_noted : (d : Handling) (k : ℕ) → is_arrival_at k d ≡ true → is_empty (lanes_noted d) ≡ false → is_empty (lanes_asked d) ≡ false →
    GoesWhereNew each_one d (lanes_asked d) → Notes mac each_one all_narrow lanes_noted k d.time (Some d) [] (table_after window d)
first_noted d k here some asks goes = record {
  handling = d;
  asked = lanes_asked d;
  fresh = lanes_asked d;
  did_it = refl;
  here = here;
  time = refl;
  some = some;
  asks = asked_of d asks;
  answer = refl;
  after = refl;
  goes = goes;
}

first_goes_1 : GoesWhereNew each_one (first_copy danh_routes 1 A) (lanes_asked (first_copy danh_routes 1 A))
first_goes_1 = by_port
    (λ o. danh_routes 1 f A o ≡ (danh_routes 1 f A o && (has (lanes_asked (first_copy danh_routes 1 A)) (lane_at o) && not (is_kept_back each_one (first_copy danh_routes 1 A) (lanes_asked (first_copy danh_routes 1 A)) o)))) refl refl refl refl

first_goes_2 : GoesWhereNew each_one (first_copy danh_routes 2 B) (lanes_asked (first_copy danh_routes 2 B))
first_goes_2 = by_port
    (λ o. danh_routes 2 f B o ≡ (danh_routes 2 f B o && (has (lanes_asked (first_copy danh_routes 2 B)) (lane_at o) && not (is_kept_back each_one (first_copy danh_routes 2 B) (lanes_asked (first_copy danh_routes 2 B)) o)))) refl refl refl refl

-- the second copy is new on the lane of member 0's side, and on that of the port where it came in; not on that of the port where the first
-- copy came in
abbrev new_at_1 : Lanes
new_at_1 = union (only lane.A) (only lane.GotB)

abbrev new_at_2 : Lanes
new_at_2 = union (only lane.B) (only lane.GotA)

second_answer_1 : arrive_answer window (table_after window (first_copy danh_routes 1 A)) (mac 0) (wire (pos f.number))
    (lanes_asked (second_copy danh_routes 1 B)) 0 ≡ Some new_at_1
unfolding no_marks
second_answer_1 = refl

second_answer_2 : arrive_answer window (table_after window (first_copy danh_routes 2 B)) (mac 0) (wire (pos f.number))
    (lanes_asked (second_copy danh_routes 2 A)) 0 ≡ Some new_at_2
unfolding no_marks
second_answer_2 = refl

abbrev after_both_1 : Sources
after_both_1 = after_arrive window (table_after window (first_copy danh_routes 1 A)) (mac 0) (wire (pos f.number))
    (lanes_noted (second_copy danh_routes 1 B)) 0

abbrev after_both_2 : Sources
after_both_2 = after_arrive window (table_after window (first_copy danh_routes 2 B)) (mac 0) (wire (pos f.number))
    (lanes_noted (second_copy danh_routes 2 A)) 0

second_noted_1 : Notes mac each_one all_narrow lanes_noted 1 0 (Some (second_copy danh_routes 1 B)) (table_after window (first_copy danh_routes 1 A)) after_both_1
second_noted_1 = record {
  handling = second_copy danh_routes 1 B;
  asked = lanes_asked (second_copy danh_routes 1 B);
  fresh = new_at_1;
  did_it = refl;
  here = refl;
  time = refl;
  some = refl;
  asks = asked_of (second_copy danh_routes 1 B) refl;
  answer = second_answer_1;
  after = refl;
  goes = by_port (λ o. false ≡ (danh_routes 1 f B o && (has new_at_1 (lane_at o) && not (is_kept_back each_one (second_copy danh_routes 1 B) new_at_1 o)))) refl refl refl refl;
}

second_noted_2 : Notes mac each_one all_narrow lanes_noted 2 0 (Some (second_copy danh_routes 2 A)) (table_after window (first_copy danh_routes 2 B)) after_both_2
second_noted_2 = record {
  handling = second_copy danh_routes 2 A;
  asked = lanes_asked (second_copy danh_routes 2 A);
  fresh = new_at_2;
  did_it = refl;
  here = refl;
  time = refl;
  some = refl;
  asks = asked_of (second_copy danh_routes 2 A) refl;
  answer = second_answer_2;
  after = refl;
  goes = by_port (λ o. false ≡ (danh_routes 2 f A o && (has new_at_2 (lane_at o) && not (is_kept_back each_one (second_copy danh_routes 2 A) new_at_2 o)))) refl refl refl refl;
}

abbrev ring_tables : ℕ → Sources
ring_tables zero = []
ring_tables (suc zero) = after_both_1
ring_tables (suc (suc zero)) = after_both_2
ring_tables (suc (suc (suc k))) = []

ring_noted : (k : ℕ) → MemberRun mac each_one all_narrow lanes_noted k (ring 3) mode_x_events quiet_ring ring_run (ring_tables k)
ring_noted zero = (
  [],
  (
    [],
    ([], ([], ([], refl, inl ((refl, tt), refl)), inl ((refl, tt), refl)), inl ((refl, tt), refl)),
    inl ((refl, tt), refl),
  ),
  inl ((refl, tt), refl),
)
ring_noted (suc zero) = (
  after_both_1,
  (
    table_after window (first_copy danh_routes 1 A),
    (
      [],
      ([], ([], refl, inl ((refl, tt), refl)), inl ((refl, tt), refl)),
      inr (inr (first_noted (first_copy danh_routes 1 A) 1 refl refl refl first_goes_1)),
    ),
    inr (inr second_noted_1),
  ),
  inl ((refl, tt), refl),
)
ring_noted (suc (suc zero)) = (
  table_after window (first_copy danh_routes 2 B),
  (
    table_after window (first_copy danh_routes 2 B),
    (
      table_after window (first_copy danh_routes 2 B),
      (
        [],
        ([], refl, inl ((refl, tt), refl)),
        inr (inr (first_noted (first_copy danh_routes 2 B) 2 refl refl refl first_goes_2)),
      ),
      inl ((refl, tt), refl),
    ),
    inl ((refl, tt), refl),
  ),
  inr (inr second_noted_2),
)
ring_noted (suc (suc (suc k))) = (
  [],
  (
    [],
    (
      [],
      ([], ([], refl, inl ((refl, tt), refl)), inl ((is_none_of k 2 (omega arith), tt), refl)),
      inl ((is_none_of k 1 (omega arith), tt), refl),
    ),
    inl ((is_none_of k 1 (omega arith), tt), refl),
  ),
  inl ((is_none_of k 2 (omega arith), tt), refl),
)

ring_premises : RingPremises 3 mac each_one all_narrow lanes_noted mode_x_events quiet_ring
ring_premises = record {
  happened = record {
    run = ring_run;
    members = (omega arith, (omega arith, (omega arith, (omega arith, (omega arith, tt)))));
    routed = (λ o. refl, (λ o. refl, (λ o. refl, (λ o. refl, (λ o. refl, tt)))));
    sound = (
      λ o (e : false ≡ true). absurd (true≢false (sym e)),
      (λ o (e : false ≡ true). absurd (true≢false (sym e)), (λ o e. e, (λ o e. e, (λ o e. e, tt)))),
    );
  };
  tables = record {
    addressed = addressed 3;
    widths = narrow_widths;
    noted = lanes_are;
    out = (
      λ (e : false ≡ true). absurd (true≢false (sym e)),
      (
        λ (e : false ≡ true). absurd (true≢false (sym e)),
        (λ (e : false ≡ true). absurd (true≢false (sym e)), (λ (e : false ≡ true). absurd (true≢false (sym e)), (λ sends o. refl, tt))),
      ),
    );
    tables = ring_tables;
    runs = ring_noted;
  };
  limits = (
    (
      (
        ((tt, tt, few all_narrow (omega arith) 0 (sent ∷ []) (omega arith)), (omega arith, omega arith), few all_narrow (omega arith) 0 (first_copy danh_routes 2 B ∷ sent ∷ []) (omega arith)),
        (omega arith, omega arith),
        few all_narrow (omega arith) 0 (first_copy danh_routes 1 A ∷ first_copy danh_routes 2 B ∷ sent ∷ []) (omega arith),
      ),
      (omega arith, omega arith),
      few all_narrow (omega arith) 0 (second_copy danh_routes 1 B ∷ first_copy danh_routes 1 A ∷ first_copy danh_routes 2 B ∷ sent ∷ []) (omega arith),
    ),
    (omega arith, omega arith),
    few all_narrow (omega arith) 0 (second_copy danh_routes 2 A ∷ second_copy danh_routes 1 B ∷ first_copy danh_routes 1 A ∷ first_copy danh_routes 2 B ∷ sent ∷ []) (omega arith),
  );
}

pub copies_stop_in_mode_x : CopiesStopInModeX
copies_stop_in_mode_x = record {
  premises = ring_premises;
  quiet = refl;
  ideal = record { sent = inr (inr (inr (inr (inl (refl, refl))))); host = refl; for = refl; other = refl };
  whole = (onward, 0, (inr (λ (e : zero ≡ suc zero). omega arith), refl));
  wanted = refl;
  unsent = unsent;
  one = refl;
  two = refl;
}
  where
    unsent : WasPut 2 B f (done_in mode_x_events) → ⊥
    unsent (inl put) = let went : false ≡ true = put.2 in true≢false (sym went)
    unsent (inr (inl put)) = let node : suc zero ≡ suc (suc zero) = put.0 in omega (arith, node)
    unsent (inr (inr (inl put))) = let node : suc zero ≡ suc (suc zero) = put.0 in omega (arith, node)
    unsent (inr (inr (inr (inl put)))) = let went : false ≡ true = put.2 in true≢false (sym went)
    unsent (inr (inr (inr (inr (inl put))))) = let node : zero ≡ suc (suc zero) = put.0 in omega (arith, node)
    unsent (inr (inr (inr (inr (inr none))))) = none
