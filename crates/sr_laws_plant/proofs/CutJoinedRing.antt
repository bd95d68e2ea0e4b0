-- Two rings with a cut link: the example computes.
use Rattle.std.proofs.Common.{◌≡◌, ℕ, zero, suc, ◌<◌, ◌==◌, ◌&&◌, not, false, [], ◌∷◌, arith, refl, inl, inr}
use Rattle.std.proofs.lemmas.Bool.{ne_eqb}
use Rattle.sr_frame.specs.declared.ports.Port.TheVariants.{A, B, C}
use Rattle.sr_dup_window.specs.LaneSets.{has}
use Rattle.sr_dup_table.specs.Sources.{Sources}
use Rattle.sr_laws_plant.specs.Ports.{lane_at}
use Rattle.sr_laws_plant.specs.PlantEvents.{opening, turns, PlantRun}
use Rattle.sr_laws_plant.specs.TwoRings.{two_rings, TwoRingsPremises, left_ring, right_ring, round, over}
use Rattle.sr_laws_plant.specs.RingParts.{backward}
use Rattle.sr_laws_plant.specs.Tables.{is_kept_back, GoesWhereNew, MemberRun}
use Rattle.sr_laws_plant.specs.Examples.{mac, mixed, no_one, lanes_noted}
use Rattle.sr_laws_plant.specs.CoupledExample.{small_rings, h, sent_over, arrives_over, copy_of, joined_events, quiet_pair, CutJoinedRingLosesNothing}
use Rattle.sr_laws_plant.proofs.TwoRingsLemmas.{joins_lead_over}
use Rattle.sr_laws_plant.proofs.ExampleLemmas.{mixed_widths, few, addressed, lanes_are, by_port, table_after, first_noted}

-- what is in flight after each event
abbrev joined_run : PlantRun (two_rings small_rings) joined_events quiet_pair
joined_run = (
  record { flight = copy_of 3 A (2 ∷ []) ∷ []; cuts = 1 ∷ []; clock = 0 },
  (
    record { flight = copy_of 3 B (3 ∷ []) ∷ copy_of 3 A (2 ∷ []) ∷ []; cuts = 1 ∷ []; clock = 0 },
    (
      record { flight = copy_of 2 C (4 ∷ []) ∷ []; cuts = 1 ∷ []; clock = 0 },
      (
        record { flight = copy_of 0 B (0 ∷ []) ∷ []; cuts = 1 ∷ []; clock = 0 },
        (
          record { flight = []; cuts = 1 ∷ []; clock = 0 },
          (opening, refl, (refl, refl)),
          (
            sent_over,
            refl,
            record { inlet = refl; sending = record { own = refl; number = refl; time = refl }; time = refl; says = refl; after = refl },
          ),
        ),
        (
          copy_of 0 B (0 ∷ []),
          [],
          record { before = []; behind = []; index = refl; whole = refl; left = refl },
          inr (inr (
            arrives_over 0 B,
            record { foreign = refl; inlet = refl; node = refl; port = refl; frame = refl; time = refl; says = refl; after = refl },
          )),
        ),
      ),
      (
        copy_of 2 C (4 ∷ []),
        [],
        record { before = []; behind = []; index = refl; whole = refl; left = refl },
        inr (inr (
          arrives_over 2 C,
          record { foreign = refl; inlet = refl; node = refl; port = refl; frame = refl; time = refl; says = refl; after = refl },
        )),
      ),
    ),
    (
      copy_of 3 B (3 ∷ []),
      copy_of 3 A (2 ∷ []) ∷ [],
      record { before = []; behind = copy_of 3 A (2 ∷ []) ∷ []; index = refl; whole = refl; left = refl },
      inr (inr (
        arrives_over 3 B,
        record { foreign = refl; inlet = refl; node = refl; port = refl; frame = refl; time = refl; says = refl; after = refl },
      )),
    ),
  ),
  (
    copy_of 3 A (2 ∷ []),
    [],
    record { before = []; behind = []; index = refl; whole = refl; left = refl },
    record { says = refl; after = refl },
  ),
)

goes_0 : GoesWhereNew no_one (arrives_over 0 B) (lanes_noted (arrives_over 0 B))
goes_0 = by_port (λ o. (arrives_over 0 B).went o ≡ ((arrives_over 0 B).wanted o && (has (lanes_noted (arrives_over 0 B)) (lane_at o) && not (is_kept_back no_one (arrives_over 0 B) (lanes_noted (arrives_over 0 B)) o)))) refl refl refl refl

goes_2 : GoesWhereNew no_one (arrives_over 2 C) (lanes_noted (arrives_over 2 C))
goes_2 = by_port (λ o. (arrives_over 2 C).went o ≡ ((arrives_over 2 C).wanted o && (has (lanes_noted (arrives_over 2 C)) (lane_at o) && not (is_kept_back no_one (arrives_over 2 C) (lanes_noted (arrives_over 2 C)) o)))) refl refl refl refl

goes_3 : GoesWhereNew no_one (arrives_over 3 B) (lanes_noted (arrives_over 3 B))
goes_3 = by_port (λ o. (arrives_over 3 B).went o ≡ ((arrives_over 3 B).wanted o && (has (lanes_noted (arrives_over 3 B)) (lane_at o) && not (is_kept_back no_one (arrives_over 3 B) (lanes_noted (arrives_over 3 B)) o)))) refl refl refl refl

-- none of the first four members
not_so : (k m : ℕ) → m < 4 → (suc (suc (suc (suc k))) == m) ≡ false
not_so k m low = ne_eqb (suc (suc (suc (suc k)))) m (λ e. far e)
  where
    far : suc (suc (suc (suc k))) ≡ m → ⊥
    far e = omega arith

abbrev joined_tables : ℕ → Sources
joined_tables zero = table_after (mixed.at 0) (arrives_over 0 B)
joined_tables (suc zero) = []
joined_tables (suc (suc zero)) = table_after (mixed.at 2) (arrives_over 2 C)
joined_tables (suc (suc (suc zero))) = table_after (mixed.at 3) (arrives_over 3 B)
joined_tables (suc (suc (suc (suc k)))) = []

joined_noted : (k : ℕ) → MemberRun mac no_one mixed lanes_noted k (two_rings small_rings) joined_events quiet_pair joined_run (joined_tables k)
joined_noted zero = (
  table_after (mixed.at 0) (arrives_over 0 B),
  (
    table_after (mixed.at 0) (arrives_over 0 B),
    (
      table_after (mixed.at 0) (arrives_over 0 B),
      ([], ([], ([], refl, inl (tt, refl)), inl ((refl, tt), refl)), inr (inr (first_noted mixed (arrives_over 0 B) 0 refl refl goes_0))),
      inl ((refl, tt), refl),
    ),
    inl ((refl, tt), refl),
  ),
  inl (tt, refl),
)
joined_noted (suc zero) = (
  [],
  (
    [],
    (
      [],
      ([], ([], ([], refl, inl (tt, refl)), inl ((refl, tt), refl)), inl ((refl, tt), refl)),
      inl ((refl, tt), refl),
    ),
    inl ((refl, tt), refl),
  ),
  inl (tt, refl),
)
joined_noted (suc (suc zero)) = (
  table_after (mixed.at 2) (arrives_over 2 C),
  (
    table_after (mixed.at 2) (arrives_over 2 C),
    (
      [],
      ([], ([], ([], refl, inl (tt, refl)), inl ((refl, tt), refl)), inl ((refl, tt), refl)),
      inr (inr (first_noted mixed (arrives_over 2 C) 2 refl refl goes_2)),
    ),
    inl ((refl, tt), refl),
  ),
  inl (tt, refl),
)
joined_noted (suc (suc (suc zero))) = (
  table_after (mixed.at 3) (arrives_over 3 B),
  (
    [],
    (
      [],
      ([], ([], ([], refl, inl (tt, refl)), inl ((refl, tt), refl)), inl ((refl, tt), refl)),
      inl ((refl, tt), refl),
    ),
    inr (inr (first_noted mixed (arrives_over 3 B) 3 refl refl goes_3)),
  ),
  inl (tt, refl),
)
joined_noted (suc (suc (suc (suc k)))) = (
  [],
  (
    [],
    (
      [],
      ([], ([], ([], refl, inl (tt, refl)), inl ((refl, tt), refl)), inl ((not_so k 0 (omega arith), tt), refl)),
      inl ((not_so k 2 (omega arith), tt), refl),
    ),
    inl ((not_so k 3 (omega arith), tt), refl),
  ),
  inl (tt, refl),
)

joined_premises : TwoRingsPremises small_rings mac no_one mixed lanes_noted joined_events quiet_pair
joined_premises = record {
  happened = record {
    joins = (omega arith, omega arith, omega arith, refl, refl, tt);
    run = joined_run;
    members = (omega arith, (omega arith, (omega arith, (omega arith, tt))));
    routed = (λ o. refl, (λ o. refl, (λ o. refl, (λ o. refl, tt))));
    sound = (λ o e. e, (λ o e. e, (λ o e. e, (λ o e. e, tt))));
  };
  tables = record {
    addressed = addressed 4;
    widths = mixed_widths;
    noted = lanes_are;
    out = (λ sends o. refl, (λ sends o. refl, (λ sends o. refl, (λ sends o. refl, tt))));
    tables = joined_tables;
    runs = joined_noted;
  };
  limits = (
    (
      ((tt, tt, few mixed (omega arith) 0 (sent_over ∷ []) (omega arith)), (omega arith, omega arith), few mixed (omega arith) 0 (arrives_over 0 B ∷ sent_over ∷ []) (omega arith)),
      (omega arith, omega arith),
      few mixed (omega arith) 0 (arrives_over 2 C ∷ arrives_over 0 B ∷ sent_over ∷ []) (omega arith),
    ),
    (omega arith, omega arith),
    few mixed (omega arith) 0 (arrives_over 3 B ∷ arrives_over 2 C ∷ arrives_over 0 B ∷ sent_over ∷ []) (omega arith),
  );
}

pub cut_joined_ring_loses_nothing : CutJoinedRingLosesNothing
cut_joined_ring_loses_nothing = record {
  premises = joined_premises;
  quiet = refl;
  ideal = record { sent = inr (inr (inr (inl (refl, refl)))); host = refl; for = refl; other = refl };
  whole = (
    left_ring small_rings,
    inl refl,
    refl,
    (
      round backward 0 0 ∷ over (right_ring small_rings) 2 ∷ round backward 0 3 ∷ [],
      (
        (inr (λ (e : zero ≡ suc zero). omega arith), refl),
        (
          (joins_lead_over small_rings h (turns joined_events) 0 2 (omega arith, omega arith, omega arith, refl, refl, tt) (inl refl)).0 (inr (λ (e : zero ≡ suc zero). omega arith)),
          ((inr (λ (e : zero ≡ suc zero). omega arith), refl), refl),
        ),
      ),
    ),
  );
  one = refl;
}
