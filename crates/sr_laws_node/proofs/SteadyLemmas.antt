-- Steady runs at nodes.
use Rattle.std.proofs.Common.{◌≡◌, ℕ, false, List, [], ◌∷◌, ◌++◌, Some, ℤ, refl, sym, ap, ◌∙◌, subst, if◌then◌else◌}
use Rattle.sr_frame.specs.declared.fields.Mac.{Mac}
use Rattle.sr_frame.specs.declared.ports.Port.{Port}
use Rattle.sr_frame.specs.declared.ports.Port.TheVariants.{H, A, B, C}
use Rattle.sr_frame.specs.Addresses.{mac_eq}
use Rattle.sr_laws_dup.specs.TableRuns.{AreSteady, arrivals_of, at_once}
use Rattle.sr_forwarding.specs.declared.form.Form.{Form}
use Rattle.sr_forwarding.specs.Parcels.{ParcelImage}
use Rattle.sr_forwarding.specs.Headers.{header_of}
use Rattle.sr_node.specs.declared.event.Event.TheVariants as event
use Rattle.sr_node.specs.Images.{State, time_at}
use Rattle.sr_node.specs.Arriving.{is_own, is_plain_at_interlink, going_on}
use Rattle.sr_laws_node.specs.Origins.{first_state, stands_before}
use Rattle.sr_laws_node.specs.NodeRuns.{Turn, happened, swapped}
use Rattle.sr_laws_node.specs.Brought.{is_at, number_if, whole_number, next_number}
use Rattle.sr_laws_node.specs.SteadyNodes.{IsCarried, IsCarriedUnless, IsNumbered, AreNumbered, arrival_if, event_arrives, arrivals}
use Rattle.sr_laws_node.specs.SteadyExamples.{IsFrameOf, ComeIn, AreSteadyAtNodes}
use Rattle.sr_laws_node.proofs.OriginLemmas.{first_width, has_tops, are_steady, is_steady, AreOf, steady_of_one}

pub not_interlink : (port : Port) (f : Form) → is_at C port ≡ false → is_plain_at_interlink port f ≡ false
not_interlink H f e = refl
not_interlink A f e = refl
not_interlink B f e = refl
not_interlink C f e = absurd cc

numbered : (n : ℤ) (s : State) (port : Port) (p : ParcelImage) (at : ℕ) (src : Mac) (now : ℕ) → IsFrameOf src now n s port p at → IsNumbered n (event.Arrive port p at)
numbered n s port p at src now f =
    let carried : IsCarried n p.seq = subst (λ x. IsCarried n x) (sym f.seq) refl in
    subst (λ b. IsCarriedUnless b n p.seq) (sym (not_interlink port p.form f.ring)) carried

arrives : (before : List Turn) (n : ℤ) (s : State) (port : Port) (p : ParcelImage) (at : ℕ) (src : Mac) (now : ℕ) → IsFrameOf src now n s port p at
    → event_arrives before s (event.Arrive port p at) n ≡ record { src = src; number = n; time = now } ∷ []
arrives before n s port p at src now f =
    let plain = not_interlink port p.form f.ring in
    let own : is_own s p ≡ false = ap (λ x. mac_eq x s.role.mac) f.source ∙ f.other in
    let number = whole_number before port p n in
    ap (λ b. if b then [] else arrival_if (header_of p).src (number_if (going_on s port p).seq number) (time_at s at)) own
    ∙ ap (λ b. arrival_if (header_of p).src (number_if (if b then Some s.core.next else p.seq) (if b then next_number before else n)) (time_at s at)) plain
    ∙ ap (λ x. arrival_if (header_of p).src (number_if x n) (time_at s at)) f.seq
    ∙ ap (λ x. record { src = x; number = n; time = time_at s at } ∷ []) f.source
    ∙ ap (λ x. record { src = src; number = n; time = x } ∷ []) f.moment

-- the turns have these arrivals
pub record AreAll (src : Mac) (now : ℕ) (numbers : List ℤ) (turns : List Turn) : Type 0 where
  pub numbered : AreNumbered turns
  pub arrivals : arrivals turns ≡ at_once src now numbers

pub are_all : (src : Mac) (now : ℕ) (numbers : List ℤ) (turns : List Turn) → ComeIn src now numbers turns → AreAll src now numbers turns
are_all src now [] [] come = record { numbered = tt; arrivals = refl }
are_all src now [] (turn ∷ before) come = absurd come
are_all src now (n ∷ ns) [] come = absurd come
are_all src now (n ∷ ns) (happened s (event.Arrive port p at) a m ∷ before) come =
    let r = are_all src now ns before come.1 in
    let f : IsFrameOf src now n s port p at = come.0.1 in
    record {
      numbered = (r.numbered, subst (λ x. IsNumbered x (event.Arrive port p at)) (sym come.0.0) (numbered n s port p at src now f));
      arrivals =
          ap (λ x. event_arrives before s (event.Arrive port p at) x ++ arrivals before) come.0.0
          ∙ ap (λ xs. xs ++ arrivals before) (arrives before n s port p at src now f)
          ∙ ap (λ xs. record { src = src; number = n; time = now } ∷ xs) r.arrivals;
    }
are_all src now (n ∷ ns) (happened s (event.Send octets at) a m ∷ before) come = absurd come.0
are_all src now (n ∷ ns) (happened s (event.Tick at) a m ∷ before) come = absurd come.0
are_all src now (n ∷ ns) (happened s (event.Take port) a m ∷ before) come = absurd come.0
are_all src now (n ∷ ns) (swapped s r ∷ before) come = absurd come.0

all_of : (src : Mac) (now : ℕ) (numbers : List ℤ) → AreOf src (at_once src now numbers)
all_of src now [] = tt
all_of src now (n ∷ ns) = (all_of src now ns, refl)

pub steady_at_nodes_lem : AreSteadyAtNodes
steady_at_nodes_lem numbers steady origin src now turns first lacks come =
    let r = are_all src now numbers turns come in
    let w = (first_state origin).core.width in
    let alone : AreSteady w (at_once src now numbers) = steady w (first_width origin) src now in
    let behind = steady_of_one origin src (at_once src now numbers) lacks (all_of src now numbers) (are_steady origin [] first) alone in
    is_steady origin turns (has_tops origin [] first) r.numbered (subst (λ ys. AreSteady w (ys ++ arrivals_of (stands_before origin))) (sym r.arrivals) behind)
