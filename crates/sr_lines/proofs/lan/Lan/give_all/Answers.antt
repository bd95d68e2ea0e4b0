use Rattle.std.proofs.Common.{refl, sym, subst, ℕ, List, ◌<◌, ◌∙◌, get_or, []}
use Rattle.std.proofs.lemmas.List.{length-map}
use Rattle.sr_lines.specs.Losing.{MayLose}
use Rattle.sr_lines.specs.Spreading.{sent_by_lan}
use Rattle.sr_lines.proofs.Spread.{so_far_none, so_far_more, so_far_then, so_far_else}
use Rattle.sr_lines.proofs.lan.Lan.give_all.Goals.{then-all, else-all}
use Rattle.sr_lines.proofs.lan.Lan.give_all.Goals as goal

pub loop-at-init : goal.loop-at-init
loop-at-init g c = (refl, refl, refl, refl, refl, refl, so_far_none _ _ _ _)

pub loop-at-preserved : goal.loop-at-preserved
loop-at-preserved g c =
    let was = c.loop-at.invariant in
    let low = subst (λ k. c.loop-at.at < k) (c.len-at-end.ensures ∙ c.args.self.now.ends.ok.0 ∙ sym (length-map c.args.self.now.ends.items (λ e. e.send.frames))) c.loop-at-test.true in
    let P : List (List (List ℕ)) × ℕ → Type 0 = λ x. MayLose (get_or (sent_by_lan c.loop-at.self) c.loop-at.at []) (get_or x.0 c.loop-at.at []) c.args.octets.now x.1 in
    let more = so_far_more _ _ _ _ _ _ _ _ _ was.6 low c.in-Ok.ensures.sent (λ not within. subst P (λ k. (was.5 k, was.2 k)) (c.in-Ok.ensures.why not within)) in (
      c.give_one.ensures.lost ∙ was.0,
      c.give_one.ensures.ended ∙ was.1,
      c.in-Ok.ensures.ok ∙ was.2,
      c.give_one.ensures.wires ∙ was.3,
      c.give_one.ensures.taken ∙ was.4,
      c.give_one.ensures.seen ∙ was.5,
      elim c.if-all.branch [
        | then-all w ↦ so_far_then _ _ _ _ _ _ c.loop-at.all c.in-Ok.put c.if-all.all w.if-all.true w.all-is more
        | else-all w ↦ so_far_else _ _ _ _ _ _ c.loop-at.all c.in-Ok.put c.if-all.all w.if-all.false (w.all-is ∙ w.if-all.false) more
      ],
    )
