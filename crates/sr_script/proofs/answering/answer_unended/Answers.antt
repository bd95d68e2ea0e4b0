use Rattle.std.proofs.Common.{◌++◌, ℕ, List, take, ap, refl, ◌∙◌, append_assoc}
use Rattle.sr_node.specs.Images.{node_state}
use Rattle.sr_script.specs.declared.reading.Command.TheVariants.{Arrive}
use Rattle.sr_script.proofs.Beginnings.{on_err_so}
use Rattle.sr_script.proofs.answering.answer_unended.Goals as goal

pub returns-in_err-obey_arrival-clause-known : goal.returns-in_err-obey_arrival-clause-known
returns-in_err-obey_arrival-clause-known g c =
    let a = c.in-Some.line in
    let stands = c.in-Some.ensures in
    on_err_so c.from_residual.result (stands.line, stands.front, (Arrive c.in-Some.port a.time, take a.count c.arrival_at.new.octets, stands.says))

pub returns-in_err-append_outlets-clause-known : goal.returns-in_err-append_outlets-clause-known
returns-in_err-append_outlets-clause-known g c =
    let a = c.in-Some.line in
    let stands = c.in-Some.ensures in
    on_err_so c.from_residual-in_err-append_outlets.result (stands.line, stands.front, (Arrive c.in-Some.port a.time, take a.count c.arrival_at.new.octets, stands.says))

pub returns-clause-ok : goal.returns-clause-ok
returns-clause-ok g c =
    let a = c.in-Some.line in
    let stands = c.in-Some.ensures in
    let octets = take a.count c.arrival_at.new.octets in
    let told = c.in_ok-obey_arrival.ensures.ok in
    let lines = c.in_ok-append_outlets.ensures.ok in
    let u = node_state (g.R.Role.meaning c.obey_arrival.new.node.role) c.obey_arrival.new.node.core in
    let text = lines.2 ∙ ap (λ (t : List ℕ). t ++ lines.0) told.2 ∙ append_assoc c.args.text.now told.0 lines.0 in (
      stands.line,
      told.0 ++ lines.0,
      stands.front,
      stands.long,
      (Arrive c.in-Some.port a.time, octets, stands.says),
      (refl, (Arrive c.in-Some.port a.time, octets, stands.says, told.0, u, told.1, lines.0, lines.1, refl)),
      text,
    )
