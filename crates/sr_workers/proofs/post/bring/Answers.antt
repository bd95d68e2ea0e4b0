use Rattle.std.proofs.Common.{ap, sym, ℕ, ◌+◌, refl, arith}
use Rattle.sr_workers.proofs.Bringing.{becomes_at, brings_as, brings_entered, brings_refused, brings_unread, brings_nothing, match_true, match_false}
use Rattle.sr_workers.proofs.Calling.{calls_entered, calls_refused, calls_stopped, calls_none, calls_unread, calls_nothing}
use Rattle.sr_workers.proofs.Steps.{no_feed_of}
use Rattle.sr_workers.proofs.post.bring.Goals as goal

pub returns-in-Ok-Unread : goal.returns-in-Ok-Unread
returns-in-Ok-Unread g c =
    let becomes = becomes_at _ _ _ _ _ _ c.worker-worker.ensures c.in-Ok-Unread.ensures in
    record {
      same = record { whose = refl; worker = refl; feed = refl; held = refl };
      unread = omega arith;
      ok = (brings_unread _ _ _ _ _ _ _ _ c.in-Ok-Unread.field-0-is becomes, calls_unread _ _ _ _ _ _ _ _ _ c.in-Ok-Unread.field-0-is becomes);
      err = tt;
    }

pub returns-in-Ok-Nothing : goal.returns-in-Ok-Nothing
returns-in-Ok-Nothing g c =
    let becomes = becomes_at _ _ _ _ _ _ c.worker-worker.ensures c.in-Ok-Nothing.ensures in
    record {
      same = record { whose = refl; worker = refl; feed = refl; held = refl };
      unread = omega arith;
      ok = (brings_nothing _ _ _ _ _ _ _ _ c.in-Ok-Nothing.field-0-is becomes, calls_nothing _ _ _ _ _ _ _ _ _ c.in-Ok-Nothing.field-0-is becomes);
      err = tt;
    }

pub returns-in-Err : goal.returns-in-Err
returns-in-Err g c =
    record {
      same = record { whose = refl; worker = refl; feed = refl; held = refl };
      unread = omega arith;
      ok = tt;
      err = (record { other = no_feed_of _ _ c.into.ensures; count = refl; pairs = refl; unread = refl }, calls_none _ _ _ _ _ _ _ _ _ c.into.ensures);
    }

pub returns-in-Ok-true : goal.returns-in-Ok-true
returns-in-Ok-true g c =
    let entered = c.in-Ok-true.ensures in
    let done = match_true _ _ c.in-Ok-true.field-0 c.in-Ok-true.field-0-test entered.ok.1 in
    let becomes = becomes_at _ _ _ _ _ _ c.worker-worker.ensures c.in-Ok-Event.ensures in
    record {
      same = entered.same;
      unread = omega (arith, entered.ok.0);
      ok = (
        brings_as _ _ _ _ _ _ _ _ _ _ _ (sym entered.ok.0) (brings_entered _ _ _ _ _ _ done.0 _ _ _ _ _ c.in-Ok-Event.field-0-is becomes done.3 done.2 done.1),
        calls_entered _ _ _ _ _ _ _ done.0 _ _ _ _ _ _ c.in-Ok-Event.field-0-is becomes done.4 done.1 entered.ok.0,
      );
      err = tt;
    }

pub returns-in-Ok-false : goal.returns-in-Ok-false
returns-in-Ok-false g c =
    let entered = c.in-Ok-false.ensures in
    let done = match_false _ _ c.in-Ok-false.field-0 c.in-Ok-false.field-0-test entered.ok.1 in
    let becomes = becomes_at _ _ _ _ _ _ c.worker-worker.ensures c.in-Ok-Event.ensures in
    let more = ap (λ (x : ℕ). x + 1) entered.ok.0 in
    record {
      same = record { whose = entered.same.whose; worker = entered.same.worker; feed = entered.same.feed; held = entered.same.held };
      unread = omega (arith, entered.ok.0);
      ok = (
        brings_as _ _ _ _ _ _ _ _ _ _ _ (sym more) (brings_refused _ _ _ _ _ _ _ _ _ _ _ c.in-Ok-Event.field-0-is becomes done.1 done.0),
        calls_refused _ _ _ _ _ _ _ done.2 _ _ _ _ _ _ c.in-Ok-Event.field-0-is becomes done.3 done.4 done.0 more,
      );
      err = tt;
    }

pub returns-in-Err-enter_logged : goal.returns-in-Err-enter_logged
returns-in-Err-enter_logged g c =
    let entered = c.in-Err-enter_logged.ensures in
    let becomes = becomes_at _ _ _ _ _ _ c.worker-worker.ensures c.in-Ok-Event.ensures in
    record {
      same = entered.same;
      unread = omega (arith, entered.err.0.unread);
      ok = tt;
      err = (entered.err.0, calls_stopped _ _ _ _ _ _ _ _ _ _ _ _ _ _ c.in-Ok-Event.field-0-is becomes entered.err.1 entered.err.0.pairs entered.err.0.unread);
    }
