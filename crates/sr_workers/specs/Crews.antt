-- What the promise of a worker's thread says of the worker's kit.
use Rattle.std.specs.Prelude.{◌≡◌, ℕ}
use Rattle.sr_ports.specs.Stamps.{Stamp, stamp}
use Rattle.sr_workers.specs.declared.crew.Begun.{Begun}
use Rattle.sr_workers.specs.declared.kit.Kit.{Kit}

-- the promise is of this kit, for so many turns
pub record IsStartOf {F G : Type 0} (turns : ℕ) (kit : Kit Stamp F G) (b : Begun F G) : Type 0 where
  pub turns_is : b.turns ≡ turns
  pub pass : stamp b.worker b.count ≡ kit.pass
  pub feed : b.feed.value ≡ kit.feed
  pub framing : b.framing.value ≡ kit.framing
