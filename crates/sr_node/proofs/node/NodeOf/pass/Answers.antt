use Rattle.std.proofs.Common.{rules, ◌≡◌, ap, sym, subst, ◌∙◌}
use Rattle.sr_node.specs.Images.{CoreValue, shown}
use Rattle.sr_node.specs.Plans.{LetsPass}
use Rattle.sr_node.proofs.PassingLemmas.{still_passes}
use Rattle.sr_node.proofs.node.NodeOf.pass.Goals as goal

pub reserve_arrive-requires : goal.reserve_arrive-requires
reserve_arrive-requires g c = subst (λ (v : CoreValue). LetsPass (shown v) c.args.passing.now) (sym c.in_ok-put.ensures.ok)
    (still_passes c.args.self.now.core c.args.passing.now _ c.requires.passes)
