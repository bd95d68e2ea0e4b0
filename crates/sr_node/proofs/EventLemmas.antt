-- Events, and answers, that are tested as equal are equal.
use Rattle.std.proofs.Common.{◌≡◌, ℕ, List, nat_eq, refl, rules}
use Rattle.std.specs.Bool.{Decides}
use Rattle.std.proofs.lemmas.Bool.Decides.{Decides-eqb, Decides-and, Decides-like, nat_tests}
use Rattle.std.proofs.lemmas.Slice.Eq.{slice_eq-Decides}
use Rattle.sr_frame.specs.contracts.owned.FramePartialEq.TheImpl as frame
use Rattle.sr_frame.specs.contracts.ports.PortPartialEq.TheImpl as port
use Rattle.sr_frame.specs.declared.ports.Port.{Port}
use Rattle.sr_frame.specs.declared.ports.Port.TheVariants.{H, A, B, C}
use Rattle.sr_forwarding.specs.contracts.parcel.ParcelPartialEq.TheImpl as parcel
use Rattle.sr_forwarding.specs.contracts.port_list.PortListPartialEq.TheImpl as ports
use Rattle.sr_forwarding.specs.Outlets.{bit_of}
use Rattle.sr_forwarding.specs.Parcels.{ParcelImage}
use Rattle.sr_node.specs.contracts.event.EventPartialEq.TheImpl as event
use Rattle.sr_node.specs.contracts.event.AnswerPartialEq.TheImpl as answer
use Rattle.sr_node.specs.declared.event.Event.{Event}
use Rattle.sr_node.specs.declared.event.Event.TheVariants.{Arrive, Send, Tick, Take}
use Rattle.sr_node.specs.declared.event.Answer.{Answer}
use Rattle.sr_node.specs.declared.event.Answer.TheVariants.{Own, Passed, Sent, Ticked, Taken}

decides_port : (a b : Port) → Decides (port.ghosts.eq a b) (a ≡ b)
decides_port a b = search (rules, nat_tests)

decides_parcel : (a b : ParcelImage) → Decides (parcel.ghosts.eq a b) (a ≡ b)
decides_parcel a b = search (rules, nat_tests)

decides_frame : (a b : List ℕ) → Decides (frame.ghosts.eq a b) (a ≡ b)
decides_frame a b = search (rules, nat_tests)

pub Decides-event : (a b : Event) → Decides (event.ghosts.eq a b) (a ≡ b)
Decides-event (Arrive o p s) (Arrive q r t) =
    Decides-like (event.ghosts.eq (Arrive o p s) (Arrive q r t)) (λ e. λ i. Arrive (e.0 i) (e.1.0 i) (e.1.1 i)) (λ e. (cc, (cc, cc)))
    (Decides-and _ _ (decides_port o q) (Decides-and _ _ (decides_parcel p r) (Decides-eqb s t)))
Decides-event (Arrive o p s) (Send g t) = search (rules, nat_tests)
Decides-event (Arrive o p s) (Tick t) = search (rules, nat_tests)
Decides-event (Arrive o p s) (Take q) = search (rules, nat_tests)
Decides-event (Send f s) (Arrive q r t) = search (rules, nat_tests)
Decides-event (Send f s) (Send g t) =
    Decides-like (event.ghosts.eq (Send f s) (Send g t)) (λ e. λ i. Send (e.0 i) (e.1 i)) (λ e. (cc, cc))
    (Decides-and _ _ (decides_frame f g) (Decides-eqb s t))
Decides-event (Send f s) (Tick t) = search (rules, nat_tests)
Decides-event (Send f s) (Take q) = search (rules, nat_tests)
Decides-event (Tick s) (Arrive q r t) = search (rules, nat_tests)
Decides-event (Tick s) (Send g t) = search (rules, nat_tests)
Decides-event (Tick s) (Tick t) = search (rules, nat_tests)
Decides-event (Tick s) (Take q) = search (rules, nat_tests)
Decides-event (Take o) (Arrive q r t) = search (rules, nat_tests)
Decides-event (Take o) (Send g t) = search (rules, nat_tests)
Decides-event (Take o) (Tick t) = search (rules, nat_tests)
Decides-event (Take o) (Take q) = search (rules, nat_tests)

decides_outlet : (p q : Port) → Decides (nat_eq (bit_of p) (bit_of q)) (p ≡ q)
decides_outlet H H = search (rules, nat_tests)
decides_outlet H A = search (rules, nat_tests)
decides_outlet H B = search (rules, nat_tests)
decides_outlet H C = search (rules, nat_tests)
decides_outlet A H = search (rules, nat_tests)
decides_outlet A A = search (rules, nat_tests)
decides_outlet A B = search (rules, nat_tests)
decides_outlet A C = search (rules, nat_tests)
decides_outlet B H = search (rules, nat_tests)
decides_outlet B A = search (rules, nat_tests)
decides_outlet B B = search (rules, nat_tests)
decides_outlet B C = search (rules, nat_tests)
decides_outlet C H = search (rules, nat_tests)
decides_outlet C A = search (rules, nat_tests)
decides_outlet C B = search (rules, nat_tests)
decides_outlet C C = search (rules, nat_tests)

decides_ports : (a b : List Port) → Decides (ports.ghosts.eq a b) (a ≡ b)
decides_ports a b = slice_eq-Decides decides_outlet a b (ports.ghosts.eq a b) refl

pub Decides-answer : (a b : Answer) → Decides (answer.ghosts.eq a b) (a ≡ b)
Decides-answer Own Own = search (rules, nat_tests)
Decides-answer Own (Passed us) = search (rules, nat_tests)
Decides-answer Own (Sent bn) = search (rules, nat_tests)
Decides-answer Own (Ticked bf bg bp bl) = search (rules, nat_tests)
Decides-answer Own (Taken bt) = search (rules, nat_tests)
Decides-answer (Passed os) Own = search (rules, nat_tests)
Decides-answer (Passed os) (Passed us) =
    Decides-like (answer.ghosts.eq (Passed os) (Passed us)) (λ e. λ i. Passed (e i)) (λ e. cc) (decides_ports os us)
Decides-answer (Passed os) (Sent bn) = search (rules, nat_tests)
Decides-answer (Passed os) (Ticked bf bg bp bl) = search (rules, nat_tests)
Decides-answer (Passed os) (Taken bt) = search (rules, nat_tests)
Decides-answer (Sent an) Own = search (rules, nat_tests)
Decides-answer (Sent an) (Passed us) = search (rules, nat_tests)
Decides-answer (Sent an) (Sent bn) = search (rules, nat_tests)
Decides-answer (Sent an) (Ticked bf bg bp bl) = search (rules, nat_tests)
Decides-answer (Sent an) (Taken bt) = search (rules, nat_tests)
Decides-answer (Ticked af ag ap al) Own = search (rules, nat_tests)
Decides-answer (Ticked af ag ap al) (Passed us) = search (rules, nat_tests)
Decides-answer (Ticked af ag ap al) (Sent bn) = search (rules, nat_tests)
Decides-answer (Ticked af ag ap al) (Ticked bf bg bp bl) = search (rules, nat_tests)
Decides-answer (Ticked af ag ap al) (Taken bt) = search (rules, nat_tests)
Decides-answer (Taken at) Own = search (rules, nat_tests)
Decides-answer (Taken at) (Passed us) = search (rules, nat_tests)
Decides-answer (Taken at) (Sent bn) = search (rules, nat_tests)
Decides-answer (Taken at) (Ticked bf bg bp bl) = search (rules, nat_tests)
Decides-answer (Taken at) (Taken bt) = search (rules, nat_tests)
