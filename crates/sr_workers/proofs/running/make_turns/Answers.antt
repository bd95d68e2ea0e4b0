use Rattle.std.proofs.Common.{rules, refl, arith}
use Rattle.sr_workers.proofs.Bringing.{match_true, match_false}
use Rattle.sr_workers.proofs.Calling.{called_still, memory_not_full}
use Rattle.sr_workers.proofs.Carrying.{same_still, same_then, on_first, on_more, turns_all, turns_end, turns_stop}
use Rattle.sr_workers.proofs.Steps.{last_still, stopped_first, no_feed_of}
use Rattle.sr_workers.proofs.running.make_turns.Goals as goal

pub returns-in-Err : goal.returns-in-Err
returns-in-Err g c =
    record {
      same = same_still _ _ _;
      ok = tt;
      err = record {
        did = stopped_first _ _ _ _ _ _ _ _ (last_still _ _ _ _ _ _ _ c.requires.held refl refl refl (λ _. refl) (λ _. refl) (λ _. refl) refl (omega arith) (no_feed_of _ _ c.into.ensures));
        calls = called_still _ _ _ _ _ _ _ _ _ _ _ _ _ (memory_not_full _ c.into.ensures) refl (λ _. refl) refl refl;
      };
    }

pub loop-turn-init : goal.loop-turn-init
loop-turn-init g c = (omega arith, search rules, same_still _ _ _, on_first _ _ _ _ c.requires.held)

pub one_turn-requires-clause-ready : goal.one_turn-requires-clause-ready
one_turn-requires-clause-ready g c = record { held = c.loop-turn.invariant.3.held; room = c.loop-turn.invariant.1 }

pub loop-turn-preserved : goal.loop-turn-preserved
loop-turn-preserved g c =
    let was = c.loop-turn.invariant in
    let made = c.in-Ok-true.ensures in (
      omega (arith, was.0, made.unread),
      made.ok.0,
      same_then _ _ _ _ _ was.2 made.same,
      on_more _ _ _ c.loop-turn._turn _ _ _ was.2 was.3 (match_true _ _ c.in-Ok-true.field-0 c.in-Ok-true.field-0-test made.ok.1),
    )

pub returns-in-Ok-false : goal.returns-in-Ok-false
returns-in-Ok-false g c =
    let was = c.loop-turn.invariant in
    let made = c.in-Ok-false.ensures in
    let end = match_false _ _ c.in-Ok-false.field-0 c.in-Ok-false.field-0-test made.ok.1 in
    record {
      same = same_then _ _ _ _ _ was.2 made.same;
      ok = turns_end _ _ _ _ c.loop-turn._turn _ _ _ (search rules) was.2 was.3 end.0 end.1;
      err = tt;
    }

pub returns-in-Err-one_turn : goal.returns-in-Err-one_turn
returns-in-Err-one_turn g c =
    let was = c.loop-turn.invariant in
    let made = c.in-Err-one_turn.ensures in
    record {
      same = same_then _ _ _ _ _ was.2 made.same;
      ok = tt;
      err = turns_stop _ _ _ _ _ c.loop-turn._turn _ _ _ (search rules) was.2 was.3 made.err;
    }

pub returns : goal.returns
returns g c =
    let was = c.loop-turn.invariant in
    record {
      same = was.2;
      ok = turns_all _ _ _ _ c.loop-turn._turn _ _ (omega arith) was.3;
      err = tt;
    }
