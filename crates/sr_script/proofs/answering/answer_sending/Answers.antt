use Rattle.std.proofs.Common.{◌≡◌, ◌++◌, ℕ, List, take, ap, refl, subst, sym, ◌∙◌, append_assoc}
use Rattle.std.proofs.lemmas.List.{length-take-le}
use Rattle.sr_node.specs.Images.{node_state}
use Rattle.sr_node.specs.declared.event.Event.TheVariants as event
use Rattle.sr_script.specs.declared.reading.Command.TheVariants.{Send}
use Rattle.sr_script.specs.Replies.{StepsSo}
use Rattle.sr_script.proofs.Beginnings.{begins_further, on_err_so}
use Rattle.sr_script.proofs.answering.answer_sending.Goals as goal

pub slice_bounds-extend_from_slice-end : goal.slice_bounds-extend_from_slice-end
slice_bounds-extend_from_slice-end g c = sym (length-take-le c.in-Some.line.count c.sending_at.new.octets (c.in-Some.ensures c.args.session.now.role).count)

pub returns-in_err-extend_from_slice-clause-known : goal.returns-in_err-extend_from_slice-clause-known
returns-in_err-extend_from_slice-clause-known g c =
    let f = c.in-Some.line in
    let stands = c.in-Some.ensures c.args.session.now.role in
    on_err_so c.from_residual.result (stands.line, stands.front, (Send f.time, take f.count c.sending_at.new.octets, stands.says))

pub returns-in_err-obey_sending-clause-known : goal.returns-in_err-obey_sending-clause-known
returns-in_err-obey_sending-clause-known g c =
    let f = c.in-Some.line in
    let stands = c.in-Some.ensures c.args.session.now.role in
    on_err_so c.from_residual-in_err-obey_sending.result (stands.line, stands.front, (Send f.time, take f.count c.sending_at.new.octets, stands.says))

pub returns-in_err-append_outlets-clause-kept : goal.returns-in_err-append_outlets-clause-kept
returns-in_err-append_outlets-clause-kept g c =
    let told = c.in_ok-obey_sending.ensures.ok in
    on_err_so c.from_residual-in_err-append_outlets.result
    (begins_further c.args.text.now c.obey_sending.new.text c.append_outlets.new.text (told.0, told.2) c.in_err-append_outlets.ensures.kept)

pub returns-in_err-append_outlets-clause-known : goal.returns-in_err-append_outlets-clause-known
returns-in_err-append_outlets-clause-known g c =
    let f = c.in-Some.line in
    let stands = c.in-Some.ensures c.args.session.now.role in
    on_err_so c.from_residual-in_err-append_outlets.result (stands.line, stands.front, (Send f.time, take f.count c.sending_at.new.octets, stands.says))

pub returns-clause-ok : goal.returns-clause-ok
returns-clause-ok g c =
    let f = c.in-Some.line in
    let stands = c.in-Some.ensures c.args.session.now.role in
    let octets = take f.count c.sending_at.new.octets in
    let told = c.in_ok-obey_sending.ensures.ok in
    let lines = c.in_ok-append_outlets.ensures.ok in
    let s = node_state (g.R.Role.meaning c.args.session.now.node.role) c.args.session.now.node.core in
    let u = node_state (g.R.Role.meaning c.obey_sending.new.node.role) c.obey_sending.new.node.core in
    let copied : c.extend_from_slice.new.self.items ≡ octets =
    c.in_ok-extend_from_slice.ensures.items ∙ ap (λ (l : List ℕ). l ++ octets) c.clear.ensures.items in
    let obeyed = subst (λ (o : List ℕ). StepsSo s c.args.number (event.Send o f.time) told.0 u) copied told.1 in
    let text = lines.2 ∙ ap (λ (t : List ℕ). t ++ lines.0) told.2 ∙ append_assoc c.args.text.now told.0 lines.0 in (
      stands.line,
      told.0 ++ lines.0,
      stands.front,
      stands.long,
      (Send f.time, octets, stands.says),
      (refl, (Send f.time, octets, stands.says, told.0, u, obeyed, lines.0, lines.1, refl)),
      text,
    )
