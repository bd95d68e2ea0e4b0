-- A ring with two LANs, one of which is cut off: the example computes.
use Rattle.std.proofs.Common.{◌≡◌, ℕ, zero, suc, ◌<◌, ◌==◌, ◌&&◌, not, false, [], ◌∷◌, arith, refl, inl, inr}
use Rattle.std.proofs.lemmas.Bool.{ne_eqb}
use Rattle.sr_frame.specs.declared.ports.Port.TheVariants.{A, B, C}
use Rattle.sr_dup_window.specs.LaneSets.{has}
use Rattle.sr_dup_table.specs.Sources.{Sources}
use Rattle.sr_laws_plant.specs.Ports.{lane_at}
use Rattle.sr_laws_plant.specs.PlantEvents.{opening, PlantRun}
use Rattle.sr_laws_plant.specs.RingLans.{ring_lan, RingLanPremises}
use Rattle.sr_laws_plant.specs.RingParts.{onward}
use Rattle.sr_laws_plant.specs.Tables.{is_kept_back, GoesWhereNew, MemberRun}
use Rattle.sr_laws_plant.specs.Examples.{mac, mixed, no_one, lanes_noted}
use Rattle.sr_laws_plant.specs.CoupledExample.{small, sent_across, arrives, copy_at, coupled_events, quiet_network, CutLanLosesNothing}
use Rattle.sr_laws_plant.proofs.ExampleLemmas.{mixed_widths, few, addressed, lanes_are, by_port, table_after, first_noted}

-- what is in flight after each event
abbrev coupled_run : PlantRun (ring_lan small) coupled_events quiet_network
coupled_run = (
  record { flight = copy_at 2 B (2 ∷ []) ∷ []; cuts = 3 ∷ []; clock = 0 },
  (
    record { flight = copy_at 2 A (1 ∷ []) ∷ copy_at 2 B (2 ∷ []) ∷ []; cuts = 3 ∷ []; clock = 0 },
    (
      record { flight = copy_at 0 B (0 ∷ []) ∷ copy_at 2 A (1 ∷ []) ∷ []; cuts = 3 ∷ []; clock = 0 },
      (
        record { flight = copy_at 1 C (5 ∷ 6 ∷ []) ∷ []; cuts = 3 ∷ []; clock = 0 },
        (
          record { flight = []; cuts = 3 ∷ []; clock = 0 },
          (opening, refl, (refl, refl)),
          (
            sent_across,
            refl,
            record { inlet = refl; sending = record { own = refl; number = refl; time = refl }; time = refl; says = refl; after = refl },
          ),
        ),
        (
          copy_at 1 C (5 ∷ 6 ∷ []),
          [],
          record { before = []; behind = []; index = refl; whole = refl; left = refl },
          inr (inr (
            arrives 1 C,
            record { foreign = refl; inlet = refl; node = refl; port = refl; frame = refl; time = refl; says = refl; after = refl },
          )),
        ),
      ),
      (
        copy_at 0 B (0 ∷ []),
        copy_at 2 A (1 ∷ []) ∷ [],
        record { before = []; behind = copy_at 2 A (1 ∷ []) ∷ []; index = refl; whole = refl; left = refl },
        inr (inr (
          arrives 0 B,
          record { foreign = refl; inlet = refl; node = refl; port = refl; frame = refl; time = refl; says = refl; after = refl },
        )),
      ),
    ),
    (
      copy_at 2 A (1 ∷ []),
      copy_at 2 B (2 ∷ []) ∷ [],
      record { before = []; behind = copy_at 2 B (2 ∷ []) ∷ []; index = refl; whole = refl; left = refl },
      inr (inr (
        arrives 2 A,
        record { foreign = refl; inlet = refl; node = refl; port = refl; frame = refl; time = refl; says = refl; after = refl },
      )),
    ),
  ),
  (
    copy_at 2 B (2 ∷ []),
    [],
    record { before = []; behind = []; index = refl; whole = refl; left = refl },
    record { says = refl; after = refl },
  ),
)

goes_0 : GoesWhereNew no_one (arrives 0 B) (lanes_noted (arrives 0 B))
goes_0 = by_port (λ o. (arrives 0 B).went o ≡ ((arrives 0 B).wanted o && (has (lanes_noted (arrives 0 B)) (lane_at o) && not (is_kept_back no_one (arrives 0 B) (lanes_noted (arrives 0 B)) o)))) refl refl refl refl

goes_1 : GoesWhereNew no_one (arrives 1 C) (lanes_noted (arrives 1 C))
goes_1 = by_port (λ o. (arrives 1 C).went o ≡ ((arrives 1 C).wanted o && (has (lanes_noted (arrives 1 C)) (lane_at o) && not (is_kept_back no_one (arrives 1 C) (lanes_noted (arrives 1 C)) o)))) refl refl refl refl

goes_2 : GoesWhereNew no_one (arrives 2 A) (lanes_noted (arrives 2 A))
goes_2 = by_port (λ o. (arrives 2 A).went o ≡ ((arrives 2 A).wanted o && (has (lanes_noted (arrives 2 A)) (lane_at o) && not (is_kept_back no_one (arrives 2 A) (lanes_noted (arrives 2 A)) o)))) refl refl refl refl

-- none of the first three members
not_so : (k m : ℕ) → m < 3 → (suc (suc (suc k)) == m) ≡ false
not_so k m low = ne_eqb (suc (suc (suc k))) m (λ e. far e)
  where
    far : suc (suc (suc k)) ≡ m → ⊥
    far e = omega arith

abbrev coupled_tables : ℕ → Sources
coupled_tables zero = table_after (mixed.at 0) (arrives 0 B)
coupled_tables (suc zero) = table_after (mixed.at 1) (arrives 1 C)
coupled_tables (suc (suc zero)) = table_after (mixed.at 2) (arrives 2 A)
coupled_tables (suc (suc (suc k))) = []

coupled_noted : (k : ℕ) → MemberRun mac no_one mixed lanes_noted k (ring_lan small) coupled_events quiet_network coupled_run (coupled_tables k)
coupled_noted zero = (
  table_after (mixed.at 0) (arrives 0 B),
  (
    table_after (mixed.at 0) (arrives 0 B),
    (
      [],
      ([], ([], ([], refl, inl (tt, refl)), inl ((refl, tt), refl)), inl ((refl, tt), refl)),
      inr (inr (first_noted mixed (arrives 0 B) 0 refl refl goes_0)),
    ),
    inl ((refl, tt), refl),
  ),
  inl (tt, refl),
)
coupled_noted (suc zero) = (
  table_after (mixed.at 1) (arrives 1 C),
  (
    table_after (mixed.at 1) (arrives 1 C),
    (
      table_after (mixed.at 1) (arrives 1 C),
      ([], ([], ([], refl, inl (tt, refl)), inl ((refl, tt), refl)), inr (inr (first_noted mixed (arrives 1 C) 1 refl refl goes_1))),
      inl ((refl, tt), refl),
    ),
    inl ((refl, tt), refl),
  ),
  inl (tt, refl),
)
coupled_noted (suc (suc zero)) = (
  table_after (mixed.at 2) (arrives 2 A),
  (
    [],
    (
      [],
      ([], ([], ([], refl, inl (tt, refl)), inl ((refl, tt), refl)), inl ((refl, tt), refl)),
      inl ((refl, tt), refl),
    ),
    inr (inr (first_noted mixed (arrives 2 A) 2 refl refl goes_2)),
  ),
  inl (tt, refl),
)
coupled_noted (suc (suc (suc k))) = (
  [],
  (
    [],
    (
      [],
      ([], ([], ([], refl, inl (tt, refl)), inl ((refl, tt), refl)), inl ((not_so k 1 (omega arith), tt), refl)),
      inl ((not_so k 0 (omega arith), tt), refl),
    ),
    inl ((not_so k 2 (omega arith), tt), refl),
  ),
  inl (tt, refl),
)

coupled_premises : RingLanPremises small mac no_one mixed lanes_noted coupled_events quiet_network
coupled_premises = record {
  happened = record {
    shape = record { a_inside = omega arith; b_inside = omega arith };
    run = coupled_run;
    members = (omega arith, (omega arith, (omega arith, (omega arith, tt))));
    routed = (λ o. refl, (λ o. refl, (λ o. refl, (λ o. refl, tt))));
    sound = (λ o e. e, (λ o e. e, (λ o e. e, (λ o e. e, tt))));
  };
  tables = record {
    addressed = addressed 4;
    widths = mixed_widths;
    noted = lanes_are;
    out = (λ sends o. refl, (λ sends o. refl, (λ sends o. refl, (λ sends o. refl, tt))));
    tables = coupled_tables;
    runs = coupled_noted;
  };
  limits = (
    (
      ((tt, tt, few mixed (omega arith) 0 (sent_across ∷ []) (omega arith)), (omega arith, omega arith), few mixed (omega arith) 0 (arrives 1 C ∷ sent_across ∷ []) (omega arith)),
      (omega arith, omega arith),
      few mixed (omega arith) 0 (arrives 0 B ∷ arrives 1 C ∷ sent_across ∷ []) (omega arith),
    ),
    (omega arith, omega arith),
    few mixed (omega arith) 0 (arrives 2 A ∷ arrives 0 B ∷ arrives 1 C ∷ sent_across ∷ []) (omega arith),
  );
}

pub cut_lan_loses_nothing : CutLanLosesNothing
cut_lan_loses_nothing = record {
  premises = coupled_premises;
  quiet = refl;
  ideal = record { sent = inr (inr (inr (inl (refl, refl)))); host = refl; for = refl; other = refl };
  whole = inr (inr (
    1,
    record { is = refl; whole = λ (e : zero ≡ suc zero). omega arith },
    inr (onward, 0, (inr (λ (e : zero ≡ suc zero). omega arith), refl)),
  ));
  one = refl;
}
