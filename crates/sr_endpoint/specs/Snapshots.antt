-- What the snapshot of a record of duplicates makes of a node.
use Rattle.std.specs.Prelude.{◌≡◌, ◌⊎◌, ℕ, List, None, Some, unwrap_or}
use Rattle.std.specs.declared.result.Result.{Result}
use Rattle.std.specs.declared.result.Result.TheVariants.{Ok, Err}
use Rattle.sr_dup_snapshots.specs.Reading.{IsReadAs}
use Rattle.sr_dup_snapshots.specs.Snapshots.{IsSnapshot}
use Rattle.sr_dup_table.specs.declared.fault.DupFault.{DupFault}
use Rattle.sr_dup_table.specs.declared.fault.DupFault.TheVariants as dup
use Rattle.sr_dup_table.specs.declared.width.Width.{Width}
use Rattle.sr_dup_table.specs.Sources.{Sources}
use Rattle.sr_dup_table.specs.Widths.{numbers_in}
use Rattle.sr_node.specs.declared.fault.MergeFault.TheVariants as merge
use Rattle.sr_node.specs.Absorbing.{Absorbed, absorb_fault, merge_fault_of}
use Rattle.sr_node.specs.Images.{Image, State, plain_settings, start}
use Rattle.sr_node.specs.Resuming.{last_heard}

-- a node that has noted these sources and nothing else: its time is the greatest at which one of them was last heard
abbrev pub noting : ℕ → Sources → Image
noting width sources = record (start plain_settings) { width = width; time = last_heard sources; sources = sources }

-- the octets are the snapshot of no table
abbrev pub IsNoSnapshot : List ℕ → Type 0
IsNoSnapshot octets = (width : Width) (sources : Sources) → IsSnapshot (numbers_in width) octets sources → ⊥

-- the sources that the octets spell at the node's width are joined to what it has noted
pub record JoinsSnapshot (s : State) (octets : List ℕ) (t : State) : Type 0 where
  pub sources : Sources
  pub read : IsReadAs s.core.width octets sources
  pub joinable : absorb_fault s.core (noting s.core.width sources) ≡ None
  pub joined : Absorbed s.core (noting s.core.width sources) t.core
  pub role : t.role ≡ s.role

-- the sources that the octets spell have no join with what the node has noted, for this reason; or an allocation failed
pub record HasNoJoin (s : State) (octets : List ℕ) (e : DupFault) : Type 0 where
  pub sources : Sources
  pub read : IsReadAs s.core.width octets sources
  pub why : merge_fault_of e ≡ Some (unwrap_or (absorb_fault s.core (noting s.core.width sources)) merge.NoMemory)

-- why octets are not joined to what the node has noted
abbrev pub RefusesSnapshot : State → List ℕ → DupFault → Type 0
RefusesSnapshot s octets e = (e ≡ dup.NoMemory) ⊎ (((e ≡ dup.BadSnapshot) × IsNoSnapshot octets) ⊎ HasNoJoin s octets e)

-- a node takes over a snapshot, or refuses it and stays
abbrev pub TakesOver : {A : Type 0} → State → List ℕ → Result A DupFault → State → Type 0
TakesOver s octets (Ok done) t = JoinsSnapshot s octets t
TakesOver s octets (Err e) t = RefusesSnapshot s octets e × (t ≡ s)
