use Rattle.std.proofs.Common.{ℕ, List, ◌++◌, ◌∷◌, [], ◌+◌, sym, subst, arith, length-append}
use Rattle.std.proofs.lemmas.List.{take_rest, length-drop}
use Rattle.sr_session.specs.Fronts.{IsFrontLine, FrontFails}
use Rattle.sr_session.specs.Runs.{HasPlace}
use Rattle.sr_session.specs.Turns.{BeginsWith}
use Rattle.sr_session.proofs.WaitingTexts.{begins_front, waits_added, waits_kept, front_stops}
use Rattle.sr_session.proofs.fronts.obey_front.Goals as goal

pub returns-in-Err-clause-front : goal.returns-in-Err-clause-front
returns-in-Err-clause-front g c =
    let so_far = c.loop-next.invariant.obeyed in
    let fails = c.in-Err.ensures in
    let reached = g.S.Session.state c.loop-next.session in
    let rest = take_rest c.args.octets.now c.loop-next.used in
    record {
      lines = so_far.0;
      reached = reached;
      whole = so_far.1;
      within = c.loop-next.invariant.within;
      waits = waits_kept g.S.Session.dialogue _ _ _ 0 so_far.0 _ _ _ _ so_far.2 fails.1 fails.2;
      next = so_far.3;
      count = c.loop-next.invariant.count;
      stops = front_stops g.S.Session.dialogue reached (g.S.Session.state c.obey_whole.new.session) _ _ c.loop-next.next c.in-Err.kind (omega arith)
          (subst (λ (l : List ℕ). FrontFails g.S.Session.dialogue reached l c.in-Err.kind) rest fails.0)
          (λ front at. c.keep_line.ensures.kept front (subst (λ (l : List ℕ). IsFrontLine l front) (sym rest) at));
    }

pub loop-next-preserved : goal.loop-next-preserved
loop-next-preserved g c =
    let so_far = c.loop-next.invariant.obeyed in
    let octets = c.args.octets.now in
    let used = c.loop-next.used in
    let n = c.loop-next.next in
    let added = rw c.in-Ok-Some.field-0-is at c.in-Ok-Some.ensures in
    let line = added.0 in
    let front = subst (λ (l : List ℕ). IsFrontLine l line) (take_rest octets used) added.1 in
    let has : HasPlace n line = record { count = omega arith; short = front.short } in
    record {
      count = omega arith;
      within = omega (arith, front.within, added.2, length-drop used octets);
      room = c.loop-next.invariant.room;
      no_less = c.loop-next.invariant.no_less;
      obeyed = (
        so_far.0 ++ line ∷ [],
        subst (λ k. BeginsWith octets (used + (k + 1)) (so_far.0 ++ line ∷ [])) (sym added.2) (begins_front octets used so_far.0 line so_far.1 front),
        waits_added g.S.Session.dialogue _ c.args.first so_far.0 _ _ _ _ _ _ line n so_far.2 so_far.3 has added.3,
        omega (arith, so_far.3, length-append so_far.0 (line ∷ [])),
      );
    }
