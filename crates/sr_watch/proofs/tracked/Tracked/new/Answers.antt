use Rattle.std.proofs.Common.{arith, refl}
use Rattle.sr_watch.specs.Counted.{always}
use Rattle.sr_watch.proofs.tracked.Tracked.new.Goals as goal

pub returns : goal.returns
returns c =
    record {
      tracks = record { taken = c.in_ok-new.ensures.taken always; late = λ few. refl; first = refl; last = refl; newest = refl };
      told = λ few. record { sums = refl; small = omega arith };
      since = refl;
      settled = λ is few. absurd cc;
    }
