-- The two wires of an end, and when two ends are joined.
use Rattle.std.specs.Prelude.{◌≡◌}
use Rattle.atomic_table.specs.Seated.{TableId}

-- the wire that an end sends on, and the one that it takes from
pub record WirePair : Type 0 where
  pub sends : TableId
  pub takes : TableId

abbrev pub wire_pair : TableId → TableId → WirePair
wire_pair sends takes = record { sends = sends; takes = takes }

-- what each of two ends sends on is what the other takes from
pub record AreLinked (here there : WirePair) : Type 0 where
  pub on : here.sends ≡ there.takes
  pub back : there.sends ≡ here.takes
