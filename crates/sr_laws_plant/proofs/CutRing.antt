-- A ring with a cut link: the example computes.
use Rattle.std.proofs.Common.{◌≡◌, ℕ, zero, suc, ◌&&◌, not, [], ◌∷◌, arith, refl, inl, inr}
use Rattle.sr_frame.specs.declared.ports.Port.TheVariants.{A, B}
use Rattle.sr_dup_window.specs.LaneSets.{has}
use Rattle.sr_dup_table.specs.Sources.{Sources}
use Rattle.sr_laws_plant.specs.Ports.{lane_at}
use Rattle.sr_laws_plant.specs.Ledger.{IsOpen}
use Rattle.sr_laws_plant.specs.PlantEvents.{opening, turns, PlantRun}
use Rattle.sr_laws_plant.specs.Tables.{is_kept_back, GoesWhereNew, MemberRun}
use Rattle.sr_laws_plant.proofs.ExampleLemmas.{mixed_widths, few, addressed, lanes_are, by_port, is_none_of, table_after, first_noted}
use Rattle.sr_laws_plant.specs.Examples.{mac, mixed, no_one, lanes_noted, f, sent, first_copy, copy_to}
use Rattle.sr_laws_plant.specs.RingParts.{backward}
use Rattle.sr_laws_plant.specs.Rings.{ring, danh_routes}
use Rattle.sr_laws_plant.specs.RingLaws.{RingPremises}
use Rattle.sr_laws_plant.specs.Examples.{ring_events, cut_ring, CutRingLosesNothing}

-- the ring: what is in flight after each event
abbrev ring_run : PlantRun (ring 3) ring_events cut_ring
ring_run = (
  record { flight = copy_to 1 B (1 ∷ []) ∷ []; cuts = 0 ∷ []; clock = 0 },
  (
    record { flight = copy_to 2 B (2 ∷ []) ∷ []; cuts = 0 ∷ []; clock = 0 },
    (
      record { flight = []; cuts = 0 ∷ []; clock = 0 },
      (opening, refl, (refl, refl)),
      (
        sent,
        refl,
        record { inlet = refl; sending = record { own = refl; number = refl; time = refl }; time = refl; says = refl; after = refl },
      ),
    ),
    (
      copy_to 2 B (2 ∷ []),
      [],
      record { before = []; behind = []; index = refl; whole = refl; left = refl },
      inr (inr (
        first_copy danh_routes 2 B,
        record { foreign = refl; inlet = refl; node = refl; port = refl; frame = refl; time = refl; says = refl; after = refl },
      )),
    ),
  ),
  (
    copy_to 1 B (1 ∷ []),
    [],
    record { before = []; behind = []; index = refl; whole = refl; left = refl },
    inr (inr (
      first_copy danh_routes 1 B,
      record { foreign = refl; inlet = refl; node = refl; port = refl; frame = refl; time = refl; says = refl; after = refl },
    )),
  ),
)

first_goes_1 : GoesWhereNew no_one (first_copy danh_routes 1 B) (lanes_noted (first_copy danh_routes 1 B))
first_goes_1 = by_port
    (λ o. danh_routes 1 f B o ≡ (danh_routes 1 f B o && (has (lanes_noted (first_copy danh_routes 1 B)) (lane_at o) && not (is_kept_back no_one (first_copy danh_routes 1 B) (lanes_noted (first_copy danh_routes 1 B)) o)))) refl refl refl refl

first_goes_2 : GoesWhereNew no_one (first_copy danh_routes 2 B) (lanes_noted (first_copy danh_routes 2 B))
first_goes_2 = by_port
    (λ o. danh_routes 2 f B o ≡ (danh_routes 2 f B o && (has (lanes_noted (first_copy danh_routes 2 B)) (lane_at o) && not (is_kept_back no_one (first_copy danh_routes 2 B) (lanes_noted (first_copy danh_routes 2 B)) o)))) refl refl refl refl

abbrev ring_tables : ℕ → Sources
ring_tables zero = []
ring_tables (suc zero) = table_after (mixed.at 1) (first_copy danh_routes 1 B)
ring_tables (suc (suc zero)) = table_after (mixed.at 2) (first_copy danh_routes 2 B)
ring_tables (suc (suc (suc k))) = []

ring_noted : (k : ℕ) → MemberRun mac no_one mixed lanes_noted k (ring 3) ring_events cut_ring ring_run (ring_tables k)
ring_noted zero = ([], ([], ([], ([], refl, inl (tt, refl)), inl ((refl, tt), refl)), inl ((refl, tt), refl)), inl ((refl, tt), refl))
ring_noted (suc zero) = (
  [],
  ([], ([], ([], refl, inl (tt, refl)), inl ((refl, tt), refl)), inl ((refl, tt), refl)),
  inr (inr (first_noted mixed (first_copy danh_routes 1 B) 1 refl refl first_goes_1)),
)
ring_noted (suc (suc zero)) = (
  table_after (mixed.at 2) (first_copy danh_routes 2 B),
  (
    [],
    ([], ([], refl, inl (tt, refl)), inl ((refl, tt), refl)),
    inr (inr (first_noted mixed (first_copy danh_routes 2 B) 2 refl refl first_goes_2)),
  ),
  inl ((refl, tt), refl),
)
ring_noted (suc (suc (suc k))) = (
  [],
  ([], ([], ([], refl, inl (tt, refl)), inl ((refl, tt), refl)), inl ((is_none_of k 2 (omega arith), tt), refl)),
  inl ((is_none_of k 1 (omega arith), tt), refl),
)

ring_premises : RingPremises 3 mac no_one mixed lanes_noted ring_events cut_ring
ring_premises = record {
  happened = record {
    run = ring_run;
    members = (omega arith, (omega arith, (omega arith, tt)));
    routed = (λ o. refl, (λ o. refl, (λ o. refl, tt)));
    sound = (λ o e. e, (λ o e. e, (λ o e. e, tt)));
  };
  tables = record {
    addressed = addressed 3;
    widths = mixed_widths;
    noted = lanes_are;
    out = (λ sends o. refl, (λ sends o. refl, (λ sends o. refl, tt)));
    tables = ring_tables;
    runs = ring_noted;
  };
  limits = (
    ((tt, tt, few mixed (omega arith) 0 (sent ∷ []) (omega arith)), (omega arith, omega arith), few mixed (omega arith) 0 (first_copy danh_routes 2 B ∷ sent ∷ []) (omega arith)),
    (omega arith, omega arith),
    few mixed (omega arith) 0 (first_copy danh_routes 1 B ∷ first_copy danh_routes 2 B ∷ sent ∷ []) (omega arith),
  );
}

pub cut_ring_loses_nothing : CutRingLosesNothing
cut_ring_loses_nothing = record {
  premises = ring_premises;
  quiet = refl;
  ideal = record { sent = inr (inr (inl (refl, refl))); host = refl; for = refl; other = refl };
  whole = (backward, 1, (inr (λ (e : zero ≡ suc zero). omega arith), (inr (λ (e : zero ≡ suc zero). omega arith), refl)));
  lost = shut;
  one = refl;
  two = refl;
}
  where
    unequal : suc zero ≡ zero → ⊥
    unequal e = omega arith

    shut : IsOpen (ring 3) f (turns ring_events) (record { node = 1; port = A }) → ⊥
    shut (inl none) = unequal none
    shut (inr some) = some refl
