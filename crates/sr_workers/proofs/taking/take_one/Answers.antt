use Rattle.std.proofs.Common.{rules, refl, sym, ap, None, Some, arith}
use Rattle.sr_node.specs.declared.event.Answer.TheVariants.{Taken}
use Rattle.sr_workers.proofs.Steps.{last_still, took_none, took_some, took_held, no_feed, no_feed_of}
use Rattle.sr_workers.proofs.Calling.{called_still, called_take, called_in_vain, memory_not_full, feed_not_full, none_is_not_full}
use Rattle.sr_workers.proofs.taking.take_one.Goals as goal

pub returns-in-Err : goal.returns-in-Err
returns-in-Err g c =
    record {
      same = record { whose = refl; worker = search rules; name = refl; tells = refl };
      unread = refl;
      ended = refl;
      ok = tt;
      err = record {
        did = last_still _ _ _ _ _ _ _ c.requires.ready.held refl c.reserve.ensures.same refl (λ _. refl) (λ _. refl) (λ _. refl) refl (omega arith) (no_feed_of _ _ c.into.ensures);
        calls = called_still _ _ _ _ _ _ _ _ _ _ _ _ _ (memory_not_full _ c.into.ensures) refl (λ _. refl) c.reserve.ensures.same refl;
      };
    }

pub returns-in-Err-enter : goal.returns-in-Err-enter
returns-in-Err-enter g c =
    record {
      same = record { whose = search rules; worker = search rules; name = refl; tells = refl };
      unread = refl;
      ended = refl;
      ok = tt;
      err = record {
        did = last_still _ _ _ _ _ _ _ c.requires.ready.held c.in-Err-enter.ensures.err c.reserve.ensures.same refl (λ _. refl) (λ _. refl) (λ _. refl) refl (omega arith) (no_feed _ _ c.in-Some.ensures.feed);
        calls = called_in_vain _ _ _ _ _ c.args.port c.in-Err-enter.refused _ _ _ _ _ _ _ _ (sym c.in-Some.ensures.stop) (search rules) c.reserve.ensures.same (λ _. refl) refl;
      };
    }

pub returns-in-Ok-put_out : goal.returns-in-Ok-put_out
returns-in-Ok-put_out g c =
    let put = c.in-Ok-put_out.ensures.put in
    record {
      same = record { whose = search rules; worker = search rules; name = put.same.name; tells = put.same.tells };
      unread = refl;
      ended = put.same.ended;
      ok = (
        search rules,
        record {
          held = c.requires.ready.held;
          did = took_some _ _ _ c.args.port c.in-Taken-Some.parcel _ _ c.requires.serves c.in-Ok.ensures.count (search rules) refl put.same.handed put.same.asked put.ok put.same.counted;
          calls = called_take _ _ _ _ _ c.args.port (Taken (Some c.in-Taken-Some.parcel)) _ _ _ _ _ _ _ _ none_is_not_full (search rules) (search rules) put.same.handed refl;
        },
      );
      err = tt;
    }

pub returns-in-Err-put_out : goal.returns-in-Err-put_out
returns-in-Err-put_out g c =
    let put = c.in-Err-put_out.ensures.put in
    record {
      same = record { whose = search rules; worker = search rules; name = put.same.name; tells = put.same.tells };
      unread = refl;
      ended = put.same.ended;
      ok = tt;
      err = record {
        did = took_held _ _ _ c.args.port c.in-Taken-Some.parcel _ _ _ _ c.into-in-Err-put_out.ensures (ap (λ x. Some x) c.copy_of-copy.ensures) c.requires.serves c.in-Ok.ensures.count (search rules) refl put.same.handed put.same.asked put.err.given put.err.written put.err.losses put.err.failed;
        calls = called_take _ _ _ _ _ c.args.port (Taken (Some c.in-Taken-Some.parcel)) _ _ _ _ _ _ _ _ (feed_not_full _ c.into-in-Err-put_out.ensures) (search rules) (search rules) put.same.handed refl;
      };
    }

pub returns-in-Taken-None : goal.returns-in-Taken-None
returns-in-Taken-None g c =
    record {
      same = record { whose = search rules; worker = search rules; name = refl; tells = refl };
      unread = refl;
      ended = refl;
      ok = (
        c.requires.ready.room,
        record {
          held = c.requires.ready.held;
          did = took_none _ _ _ c.args.port _ _ c.requires.serves c.in-Ok.ensures.count (search rules) refl (λ _. refl) (λ _. refl) (λ _. refl) refl (omega arith);
          calls = called_take _ _ _ _ _ c.args.port (Taken None) _ _ _ _ _ _ _ _ none_is_not_full (search rules) (search rules) (λ _. refl) refl;
        },
      );
      err = tt;
    }
