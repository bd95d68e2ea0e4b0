-- Two LANs of which one loses a copy: the example computes.
use Rattle.std.proofs.Common.{◌≡◌, ℕ, zero, suc, true, false, ◌&&◌, not, List, [], ◌∷◌, arith, refl, sym, inl, inr, Some}
use Rattle.std.specs.Prelude.{pos}
use Rattle.std.proofs.lemmas.Bool.{true≢false}
use Rattle.sr_frame.specs.declared.ports.Port.TheVariants.{A, B}
use Rattle.sr_sequence.specs.Numbers.{wire}
use Rattle.sr_dup_window.specs.declared.lane_sets.Lane.TheVariants as lane
use Rattle.sr_dup_window.specs.declared.lane_sets.Lanes.{Lanes}
use Rattle.sr_dup_window.specs.LaneSets.{has, only}
use Rattle.sr_dup_window.specs.Windows.{no_marks}
use Rattle.sr_dup_table.specs.Limits.{window}
use Rattle.sr_dup_table.specs.Sources.{Sources, arrive_answer, after_arrive}
use Rattle.sr_laws_plant.specs.Ports.{lane_at}
use Rattle.sr_laws_plant.specs.Ledger.{Copy}
use Rattle.sr_laws_plant.specs.PlantEvents.{Plant, opening, PlantRun}
use Rattle.sr_laws_plant.specs.Tables.{is_kept_back, GoesWhereNew, MemberRun}
use Rattle.sr_laws_plant.proofs.ExampleLemmas.{few, addressed, lanes_are, by_port, is_none_of, table_after, first_noted, asked_noted}
use Rattle.sr_laws_plant.specs.Examples.{mac, no_one, lanes_noted, f, sent, first_copy, second_copy, copy_to}
use Rattle.sr_laws_plant.specs.TwinLans.{twin_lans, danp_routes}
use Rattle.sr_laws_plant.specs.LanLaws.{LanPremises}
use Rattle.sr_laws_plant.specs.Examples.{lan_events, quiet_lans, LostCopyLosesNothing}
use Rattle.sr_laws_plant.specs.Widths.{all_narrow}
use Rattle.sr_laws_plant.proofs.SteadyLemmas.{narrow_widths}

-- the two LANs: what is in flight after each event
abbrev on_its_way : List Copy → Plant
on_its_way cs = record { flight = cs; cuts = []; clock = 0 }

abbrev a1 : Copy
a1 = copy_to 1 A (0 ∷ 1 ∷ [])

abbrev a2 : Copy
a2 = copy_to 2 A (0 ∷ 2 ∷ [])

abbrev b1 : Copy
b1 = copy_to 1 B (3 ∷ 4 ∷ [])

abbrev b2 : Copy
b2 = copy_to 2 B (3 ∷ 5 ∷ [])

abbrev lan_run : PlantRun (twin_lans 3) lan_events quiet_lans
lan_run = (
  on_its_way (b2 ∷ []),
  (
    on_its_way (b1 ∷ b2 ∷ []),
    (
      on_its_way (a2 ∷ b1 ∷ b2 ∷ []),
      (
        on_its_way (a1 ∷ a2 ∷ b1 ∷ b2 ∷ []),
        (
          opening,
          refl,
          (
            sent,
            refl,
            record { inlet = refl; sending = record { own = refl; number = refl; time = refl }; time = refl; says = refl; after = refl },
          ),
        ),
        (
          a1,
          a2 ∷ b1 ∷ b2 ∷ [],
          record { before = []; behind = a2 ∷ b1 ∷ b2 ∷ []; index = refl; whole = refl; left = refl },
          inr (inr (
            first_copy danp_routes 1 A,
            record { foreign = refl; inlet = refl; node = refl; port = refl; frame = refl; time = refl; says = refl; after = refl },
          )),
        ),
      ),
      (
        a2,
        b1 ∷ b2 ∷ [],
        record { before = []; behind = b1 ∷ b2 ∷ []; index = refl; whole = refl; left = refl },
        record { says = refl; after = refl },
      ),
    ),
    (
      b1,
      b2 ∷ [],
      record { before = []; behind = b2 ∷ []; index = refl; whole = refl; left = refl },
      inr (inr (
        second_copy danp_routes 1 B,
        record { foreign = refl; inlet = refl; node = refl; port = refl; frame = refl; time = refl; says = refl; after = refl },
      )),
    ),
  ),
  (
    b2,
    [],
    record { before = []; behind = []; index = refl; whole = refl; left = refl },
    inr (inr (
      first_copy danp_routes 2 B,
      record { foreign = refl; inlet = refl; node = refl; port = refl; frame = refl; time = refl; says = refl; after = refl },
    )),
  ),
)

-- the second copy is new on the lane of its port alone
abbrev new_lanes : Lanes
new_lanes = only lane.GotB

second_answer : arrive_answer window (table_after window (first_copy danp_routes 1 A)) (mac 0) (wire (pos f.number))
    (lanes_noted (second_copy danp_routes 1 B)) 0 ≡ Some new_lanes
unfolding no_marks
second_answer = refl

abbrev table_after_both : Sources
table_after_both = after_arrive window (table_after window (first_copy danp_routes 1 A)) (mac 0) (wire (pos f.number))
    (lanes_noted (second_copy danp_routes 1 B)) 0

first_goes_1 : GoesWhereNew no_one (first_copy danp_routes 1 A) (lanes_noted (first_copy danp_routes 1 A))
first_goes_1 = by_port
    (λ o. danp_routes 1 f A o ≡ (danp_routes 1 f A o && (has (lanes_noted (first_copy danp_routes 1 A)) (lane_at o) && not (is_kept_back no_one (first_copy danp_routes 1 A) (lanes_noted (first_copy danp_routes 1 A)) o)))) refl refl refl refl

first_goes_2 : GoesWhereNew no_one (first_copy danp_routes 2 B) (lanes_noted (first_copy danp_routes 2 B))
first_goes_2 = by_port
    (λ o. danp_routes 2 f B o ≡ (danp_routes 2 f B o && (has (lanes_noted (first_copy danp_routes 2 B)) (lane_at o) && not (is_kept_back no_one (first_copy danp_routes 2 B) (lanes_noted (first_copy danp_routes 2 B)) o)))) refl refl refl refl

abbrev lan_tables : ℕ → Sources
lan_tables zero = []
lan_tables (suc zero) = table_after_both
lan_tables (suc (suc zero)) = table_after window (first_copy danp_routes 2 B)
lan_tables (suc (suc (suc k))) = []

lan_noted : (k : ℕ) → MemberRun mac no_one all_narrow lanes_noted k (twin_lans 3) lan_events quiet_lans lan_run (lan_tables k)
lan_noted zero = (
  [],
  (
    [],
    ([], ([], ([], refl, inl ((refl, tt), refl)), inl ((refl, tt), refl)), inl (tt, refl)),
    inl (
      (refl, tt),
      refl,
    ),
  ),
  inl ((refl, tt), refl),
)
lan_noted (suc zero) = (
  table_after_both,
  (
    table_after window (first_copy danp_routes 1 A),
    (
      table_after window (first_copy danp_routes 1 A),
      (
        [],
        ([], refl, inl ((refl, tt), refl)),
        inr (inr (first_noted all_narrow (first_copy danp_routes 1 A) 1 refl refl first_goes_1)),
      ),
      inl (tt, refl),
    ),
    inr (inr (record {
      handling = second_copy danp_routes 1 B;
      asked = lanes_noted (second_copy danp_routes 1 B);
      fresh = new_lanes;
      did_it = refl;
      here = refl;
      time = refl;
      some = refl;
      asks = asked_noted (second_copy danp_routes 1 B) refl;
      answer = second_answer;
      after = refl;
      goes = by_port (λ o. false ≡ (danp_routes 1 f B o && (has new_lanes (lane_at o) && not (is_kept_back no_one (second_copy danp_routes 1 B) new_lanes o)))) refl refl refl refl;
    })),
  ),
  inl ((refl, tt), refl),
)
lan_noted (suc (suc zero)) = (
  [],
  ([], ([], ([], ([], refl, inl ((refl, tt), refl)), inl ((refl, tt), refl)), inl (tt, refl)), inl ((refl, tt), refl)),
  inr (inr (first_noted all_narrow (first_copy danp_routes 2 B) 2 refl refl first_goes_2)),
)
lan_noted (suc (suc (suc k))) = (
  [],
  (
    [],
    ([], ([], ([], refl, inl ((refl, tt), refl)), inl ((is_none_of k 1 (omega arith), tt), refl)), inl (tt, refl)),
    inl ((is_none_of k 1 (omega arith), tt), refl),
  ),
  inl ((is_none_of k 2 (omega arith), tt), refl),
)

lan_premises : LanPremises 3 mac no_one all_narrow lanes_noted lan_events quiet_lans
lan_premises = record {
  happened = record {
    run = lan_run;
    members = (omega arith, (omega arith, (omega arith, (omega arith, tt))));
    routed = (λ o. refl, (λ o. refl, (λ o. refl, (λ o. refl, tt))));
    sound = (λ o e. e, (λ o (e : false ≡ true). absurd (true≢false (sym e)), (λ o e. e, (λ o e. e, tt))));
  };
  tables = record {
    addressed = addressed 3;
    widths = narrow_widths;
    noted = lanes_are;
    out = (
      λ (e : false ≡ true). absurd (true≢false (sym e)),
      (λ (e : false ≡ true). absurd (true≢false (sym e)), (λ (e : false ≡ true). absurd (true≢false (sym e)), (λ sends o. refl, tt))),
    );
    tables = lan_tables;
    runs = lan_noted;
  };
  limits = (
    (
      ((tt, tt, few all_narrow (omega arith) 0 (sent ∷ []) (omega arith)), (omega arith, omega arith), few all_narrow (omega arith) 0 (first_copy danp_routes 1 A ∷ sent ∷ []) (omega arith)),
      (omega arith, omega arith),
      few all_narrow (omega arith) 0 (second_copy danp_routes 1 B ∷ first_copy danp_routes 1 A ∷ sent ∷ []) (omega arith),
    ),
    (omega arith, omega arith),
    few all_narrow (omega arith) 0 (first_copy danp_routes 2 B ∷ second_copy danp_routes 1 B ∷ first_copy danp_routes 1 A ∷ sent ∷ []) (omega arith),
  );
}

pub lost_copy_loses_nothing : LostCopyLosesNothing
lost_copy_loses_nothing = record {
  premises = lan_premises;
  quiet = refl;
  ideal = record { sent = inr (inr (inr (inl (refl, refl)))); host = refl; for = refl; other = refl };
  whole = kept;
  one = refl;
  two = refl;
}
  where
    kept : suc zero ≡ suc (suc zero) → ⊥
    kept e = omega arith
