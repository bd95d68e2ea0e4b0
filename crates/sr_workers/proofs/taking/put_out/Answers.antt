use Rattle.std.proofs.Common.{rules, refl, ap, arith, Err}
use Rattle.sr_workers.proofs.Bringing.{out_gave, out_none, unwritable}
use Rattle.sr_workers.proofs.taking.put_out.Goals as goal

pub returns-in-Ok-give-clause-put : goal.returns-in-Ok-give-clause-put
returns-in-Ok-give-clause-put g c =
    let e = c.give.ensures in
    record {
      same = record { name = e.name; tells = e.tells; handed = e.handed; asked = e.asked; ended = e.ended; counted = e.counted };
      ok =
          out_gave _ _ _ _ _ _ _ _ _ _ _ _ c.view.ensures c.clear.ensures.items (search rules) c.in-Ok.ensures.ok c.in-Ok.ensures.written c.in-Ok-give.ensures.given c.in-Ok-give.ensures.losses;
      err = tt;
    }

pub returns-in-Err-clause-put : goal.returns-in-Err-clause-put
returns-in-Err-clause-put g c =
    record {
      same = record { name = refl; tells = refl; handed = λ _. refl; asked = λ _. refl; ended = refl; counted = omega arith };
      ok =
          out_none _ _ _ _ _ (unwritable (g.G.Framing.meaning c.args.framing.now) c.args.parcel.now c.view.result c.in-Err.field-0 c.view.ensures (c.want_of_memory_is_no_fault_of_a_parcel.ensures.tells (g.G.Framing.meaning c.args.framing.now) c.view.result c.in-Err.field-0 c.in-Err.ensures.err) (λ is. c.in-Err.ensures.room (search rules) (ap (λ x. Err x) is)));
      err = tt;
    }
