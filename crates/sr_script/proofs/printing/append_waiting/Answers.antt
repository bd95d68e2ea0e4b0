use Rattle.std.proofs.Common.{◌≡◌, ℕ, List, drop, sym, subst, ap, ◌∙◌, arith}
use Rattle.sr_forwarding.specs.Parcels.{ParcelImage}
use Rattle.sr_node.specs.Images.{State, node_state}
use Rattle.sr_node.specs.Outboxes.{box_at}
use Rattle.sr_script.specs.Replies.{emptied}
use Rattle.sr_script.proofs.Beginnings.{begins_further, on_err_so}
use Rattle.sr_script.proofs.PrintedLines.{Printed, printed_more, printed_all, box_left, emptied_left, is_emptied, none_first}
use Rattle.sr_script.proofs.printing.append_waiting.Goals as goal

pub loop-port-preserved : goal.loop-port-preserved
loop-port-preserved g c =
    let s = node_state (g.R.Role.meaning c.loop-port.node.role) c.loop-port.node.core in
    let port = c.args.port in
    let whole = box_at c.args.node.now.core.out port in
    let before = c.args.text.now in
    let first = c.in_ok-append_first.ensures.ok in
    let left : box_at c.append_first.new.node.core.out port ≡ drop 1 (box_at c.loop-port.node.core.out port) =
    ap (λ (u : State). box_at u.core.out port) first.1.1 ∙ box_left s port in
    let more = printed_more c.args.role.now port whole (box_at c.loop-port.node.core.out port) before c.loop-port.text first.0 first.1.0 c.loop-port.invariant.lines in
    record {
      lines = subst (λ (q : List ParcelImage). Printed c.args.role.now port whole q before c.append_first.new.text) (sym left)
          (subst (λ (text : List ℕ). Printed c.args.role.now port whole (drop 1 (box_at c.loop-port.node.core.out port)) before text) (sym first.2) more);
      kept = begins_further before c.loop-port.text c.append_first.new.text c.loop-port.invariant.kept (first.0, first.2);
      node = ap (λ (u : State). emptied u port) first.1.1 ∙ emptied_left s port ∙ c.loop-port.invariant.node;
    }

pub returns-in_err-append_first-clause-kept : goal.returns-in_err-append_first-clause-kept
returns-in_err-append_first-clause-kept g c =
    on_err_so c.from_residual.result
    (begins_further c.args.text.now c.loop-port.text c.append_first.new.text c.loop-port.invariant.kept c.in_err-append_first.ensures.kept)

pub returns-clause-ok : goal.returns-clause-ok
returns-clause-ok g c =
    let s = node_state (g.R.Role.meaning c.loop-port.node.role) c.loop-port.node.core in
    let port = c.args.port in
    let empty = none_first (box_at c.loop-port.node.core.out port) (omega arith) in
    let all = printed_all c.args.role.now port (box_at c.args.node.now.core.out port) (box_at c.loop-port.node.core.out port) c.args.text.now c.loop-port.text empty c.loop-port.invariant.lines in
    (all.0, (all.1, is_emptied s port empty ∙ c.loop-port.invariant.node), all.2)
