-- A history that is one entry longer.
use Rattle.std.proofs.Common.{◌≡◌, List, [], ◌∷◌, ◌++◌, refl, sym, subst}
use Rattle.std.proofs.Math.Logic.{∥∥₁_map}
use Rattle.std.proofs.lemmas.Grind.{merely}
use Rattle.sr_node.specs.declared.event.Event.{Event}
use Rattle.sr_node.specs.declared.event.Answer.{Answer}
use Rattle.sr_node.specs.Images.{State}
use Rattle.sr_ports.specs.declared.entry.Entry.{Entry}
use Rattle.sr_ports.specs.declared.worker.Worker.{Worker}
use Rattle.sr_ports.specs.Histories.{EnteredAs, Steps, entry}

-- one step more at the end
pub steps-push : (s m t : State) (es : List Entry) (w : Worker) (e : Event) (a : Answer) → Steps s es m → EnteredAs m e a t → Steps s (es ++ entry w e a ∷ []) t
steps-push s m t [] w e a before step = (t, subst (λ x. EnteredAs x e a t) before step, refl)
steps-push s m t (x ∷ es) w e a before step = (before.0, before.1, steps-push before.0 m t es w e a before.2 step)

-- a history stays one when a step is written down
pub written_down : (s m t : State) (es now : List Entry) (w : Worker) (e : Event) (a : Answer)
    → ∥ Steps s es m ∥₁ → EnteredAs m e a t → now ≡ es ++ entry w e a ∷ [] → ∥ Steps s now t ∥₁
written_down s m t es now w e a before step is =
    let P : List Entry → Type 0 = λ l. ∥ Steps s l t ∥₁ in
    subst P (sym is) (∥∥₁_map before (λ r. steps-push s m t es w e a r step))

-- a history without entries begins anew
pub begins : (s t : State) (es : List Entry) → s ≡ t → es ≡ [] → ∥ Steps s es t ∥₁
begins s t es same empty =
    let P : List Entry → Type 0 = λ l. ∥ Steps s l t ∥₁ in
    subst P (sym empty) (merely (sym same))
