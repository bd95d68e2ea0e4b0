-- What waits is taken out by turns of a run.
use Rattle.std.proofs.Common.{◌≡◌, Bool, true, false, List, [], ◌∷◌, ◌++◌, Some, refl, sym, ap, subst, ◌∙◌}
use Rattle.std.specs.Prelude.{pos, drop, if◌then◌else◌}
use Rattle.std.proofs.lemmas.List.{append-nil, append_assoc}
use Rattle.sr_frame.specs.declared.ports.Port.{Port}
use Rattle.sr_frame.specs.declared.ports.Port.TheVariants.{H, A, B, C}
use Rattle.sr_forwarding.specs.Parcels.{ParcelImage}
use Rattle.sr_node.specs.declared.event.Event.TheVariants as event
use Rattle.sr_node.specs.declared.event.Answer.TheVariants as answer
use Rattle.sr_node.specs.Images.{State}
use Rattle.sr_node.specs.Outboxes.{Outboxes, box_at, first_of}
use Rattle.sr_node.specs.PerPort.{at, with_at}
use Rattle.sr_laws_node.specs.Origins.{Origin}
use Rattle.sr_laws_node.specs.NodeRuns.{Turn, happened, RunFrom}
use Rattle.sr_laws_node.specs.Brought.{is_at, taken}
use Rattle.sr_laws_node.specs.Emptying.{without_first, emptied_at, takes_all, EmptiesOutlets, EmptiesNodes, TakesWhatWaits}

own_box : (o : Outboxes) (port : Port) → with_at o port (at o port) ≡ o
own_box o H = refl
own_box o A = refl
own_box o B = refl
own_box o C = refl

box_there : (o : Outboxes) (port : Port) (ps : List ParcelImage) → at (with_at o port ps) port ≡ ps
box_there o H ps = refl
box_there o A ps = refl
box_there o B ps = refl
box_there o C ps = refl

box_twice : (o : Outboxes) (port : Port) (ps qs : List ParcelImage) → with_at (with_at o port ps) port qs ≡ with_at o port qs
box_twice o H ps qs = refl
box_twice o A ps qs = refl
box_twice o B ps qs = refl
box_twice o C ps qs = refl

-- the node with these queues
abbrev with_boxes : State → Outboxes → State
with_boxes s o = record s { core = record s.core { out = o } }

taken_out : (origin : Origin) (s : State) (port : Port) (ps : List ParcelImage) (turns : List Turn) → RunFrom origin turns s →
    ps ≡ box_at s.core.out port → RunFrom origin (takes_all s port ps turns) (emptied_at s port)
taken_out origin s port [] turns run none =
    subst (RunFrom origin turns) (ap (with_boxes s) (sym (own_box s.core.out port) ∙ ap (with_at s.core.out port) (sym none))) run
taken_out origin s port (p ∷ ps) turns run some =
    let next : RunFrom origin (happened s (event.Take port) (answer.Taken (Some p)) (pos 0) ∷ turns) (without_first s port) =
    (run, refl, (ap first_of some, refl)) in
    let rest : ps ≡ box_at (without_first s port).core.out port =
    ap (λ (x : List ParcelImage). drop 1 x) some ∙ sym (box_there s.core.out port (drop 1 (at s.core.out port))) in
    subst (RunFrom origin (takes_all (without_first s port) port ps (happened s (event.Take port) (answer.Taken (Some p)) (pos 0) ∷ turns)))
    (ap (with_boxes s) (box_twice s.core.out port (drop 1 (at s.core.out port)) []))
    (taken_out origin (without_first s port) port ps (happened s (event.Take port) (answer.Taken (Some p)) (pos 0) ∷ turns) next rest)

pub empties_outlets : EmptiesOutlets
empties_outlets origin turns s port run = taken_out origin s port (box_at s.core.out port) turns run refl

pub empties_nodes : EmptiesNodes
empties_nodes origin turns s run =
    let from_h = takes_all s H (box_at s.core.out H) turns in
    let from_a = takes_all (emptied_at s H) A (box_at s.core.out A) from_h in
    let from_b = takes_all (emptied_at (emptied_at s H) A) B (box_at s.core.out B) from_a in
    let h = taken_out origin s H (box_at s.core.out H) turns run refl in
    let a = taken_out origin (emptied_at s H) A (box_at s.core.out A) from_h h refl in
    let b = taken_out origin (emptied_at (emptied_at s H) A) B (box_at s.core.out B) from_a a refl in
    taken_out origin (emptied_at (emptied_at (emptied_at s H) A) B) C (box_at s.core.out C) from_b b refl

one_more : (b : Bool) (qs ps : List ParcelImage) (p : ParcelImage) →
    (qs ++ (if b then p ∷ [] else [])) ++ (if b then ps else []) ≡ qs ++ (if b then p ∷ ps else [])
one_more true qs ps p = append_assoc qs (p ∷ []) ps
one_more false qs ps p = ap (λ (x : List ParcelImage). x ++ []) (append-nil qs)

none_more : (b : Bool) (qs : List ParcelImage) → qs ≡ qs ++ (if b then [] else [])
none_more true qs = sym (append-nil qs)
none_more false qs = sym (append-nil qs)

pub takes_all_lem : TakesWhatWaits
takes_all_lem o s port [] turns = none_more (is_at o port) (taken o turns)
takes_all_lem o s port (p ∷ ps) turns =
    takes_all_lem o (without_first s port) port ps (happened s (event.Take port) (answer.Taken (Some p)) (pos 0) ∷ turns)
    ∙ one_more (is_at o port) (taken o turns) ps p
