use Rattle.std.proofs.Common.{refl, sym, subst}
use Rattle.sr_workers.specs.Work.{ServesPort}
use Rattle.sr_workers.proofs.Carrying.{same_still, on_still, takes_on, takes_off, none_found, none_left}
use Rattle.sr_workers.proofs.taking.drain.Goals as goal

pub loop-init : goal.loop-init
loop-init g c =
    record {
      same = same_still _ _ _;
      unread = refl;
      ended = refl;
      ok = (c.requires.ready.room, on_still _ _ _ _ c.requires.ready.held);
      err = tt;
    }

pub take_one-requires-clause-serves : goal.take_one-requires-clause-serves
take_one-requires-clause-serves g c = subst (λ w. ServesPort w c.args.port) (sym c.loop.invariant.same.whose) c.requires.serves

pub take_one-requires-clause-ready : goal.take_one-requires-clause-ready
take_one-requires-clause-ready g c = record { held = c.loop.invariant.ok.1.held; room = c.loop.invariant.ok.0 }

pub loop-preserved : goal.loop-preserved
loop-preserved g c = takes_on _ _ _ _ _ _ _ _ _ _ _ _ _ c.loop.invariant c.in-Ok-true.ensures (none_found _ c.in-Ok-true.field-0-test)

pub returns-in-Ok-false : goal.returns-in-Ok-false
returns-in-Ok-false g c = takes_on _ _ _ _ _ _ _ _ _ _ _ _ _ c.loop.invariant c.in-Ok-false.ensures (none_left _ c.in-Ok-false.field-0-test)

pub returns-in-Err : goal.returns-in-Err
returns-in-Err g c = takes_off _ _ _ _ _ _ _ _ _ _ _ _ c.loop.invariant c.in-Err.ensures
