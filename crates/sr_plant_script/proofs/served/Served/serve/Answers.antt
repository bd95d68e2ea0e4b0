use Rattle.std.proofs.Common.{◌≡◌, ◌++◌, ℕ, List, sym, subst, ◌∙◌}
use Rattle.std.proofs.lemmas.Result.{on_ok_weaker}
use Rattle.sr_plant.specs.Plants.{Plant}
use Rattle.sr_plant_script.specs.Happenings.{IsTaken}
use Rattle.sr_plant_script.proofs.ServeLemmas.{served_none, served_one, quiet_after}
use Rattle.sr_plant_script.proofs.served.Served.serve.Goals as goal

pub returns-in_default-clause-ok : goal.returns-in_default-clause-ok
returns-in_default-clause-ok c =
    let none = sym c.host_of-node.ensures.host ∙ c.in_default.is in
    let e = c.in_ok-apply.ensures in
    subst (λ (s : Plant). (told : List ℕ) × IsTaken s c.args.event.now told c.apply.new.self × (c.args.text.now ≡ c.args.text.now ++ told)) c.self.view_is
    (served_none c.self.inside.network c.apply.new.self c.args.event.now c.args.text.now c.self.invariant none e.ok e.step)

pub invariant_of-self-2 : goal.invariant_of-self-2
invariant_of-self-2 c =
    let some = sym c.host_of-node.ensures.host ∙ c.in-Some.is in
    quiet_after c.self.inside.network c.apply.new.self c.take_up.new.network c.args.event.now c.in-Some.node c.self.invariant some c.in_ok-apply.ensures.step c.take_up.ensures.left

pub returns-clause-ok : goal.returns-clause-ok
returns-clause-ok c =
    let some = sym c.host_of-node.ensures.host ∙ c.in-Some.is in
    let e = c.in_ok-apply.ensures in
    on_ok_weaker c.take_up.result
    (λ said. subst (λ (s : Plant). (told : List ℕ) × IsTaken s c.args.event.now told c.take_up.new.network × (c.take_up.new.text ≡ c.args.text.now ++ told)) c.self.view_is
    (served_one c.self.inside.network c.apply.new.self c.take_up.new.network c.args.event.now c.in-Some.node c.args.text.now c.take_up.new.text
    c.self.invariant some (c.in-Some.ensures.inside e.ok) e.ok e.step said c.take_up.ensures.left))
    c.take_up.ensures.told
