use Rattle.std.proofs.Common.{List, [], ◌∷◌}
use Rattle.std.specs.Prelude.{◌↔◌}
use Rattle.sr_node.specs.declared.event.Event.{Event}
use Rattle.sr_node.specs.declared.event.Answer.{Answer}
use Rattle.sr_ports.specs.Parts.{logs_of, IsLogged}
use Rattle.sr_ports.specs.Rests.{rest_of, IsRest}
use Rattle.sr_ports.proofs.RestLemmas.{each_worker}
use Rattle.sr_ports.proofs.rests.Rests.of.Goals as goal

pub returns : goal.returns
returns c =
    each_worker (λ w. (pairs : List (Event × Answer)) → (IsLogged pairs (logs_of w c.args.logs.now)) ↔ (IsRest pairs (rest_of w (record {
      left = c.logged.result ∷ c.logged-2.result ∷ c.logged-3.result ∷ c.logged-4.result ∷ c.logged-5.result ∷ [];
    }))))
    c.logged.ensures c.logged-2.ensures c.logged-3.ensures c.logged-4.ensures c.logged-5.ensures
