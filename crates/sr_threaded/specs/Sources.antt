-- What is judged of the wires of a node's ports in two LANs.
use Rattle.std.specs.Prelude.{◌≡◌, Bool, true, false, ◌&&◌, ◌||◌, List, [], ◌∷◌, Some, if◌then◌else◌}
use Rattle.sr_frame.specs.declared.fields.Mac.{Mac}
use Rattle.sr_frame.specs.Addresses.{mac_eq}
use Rattle.sr_prp_trailer.specs.declared.trailer.Lan.TheVariants as lan
use Rattle.sr_forwarding.specs.Framings.{FramingImage, Trailed}
use Rattle.sr_forwarding.specs.Headers.{header_of}
use Rattle.sr_node.specs.declared.event.Event.{Event}
use Rattle.sr_node.specs.declared.event.Event.TheVariants.{Arrive, Send, Tick, Take}
use Rattle.sr_node.specs.declared.event.Answer.{Answer}
use Rattle.sr_agreement.specs.Agreement.{Agreement}
use Rattle.sr_workers.specs.declared.feed.Feed.{Ghosts}
use Rattle.sr_ports.specs.declared.worker.Worker.{Worker}
use Rattle.sr_ports.specs.declared.worker.Worker.TheVariants as who
use Rattle.sr_threaded.specs.Judged.{pairs_of, judgement_of}
use Rattle.sr_threaded.specs.declared.judging.Judgement.{Judgement}
use Rattle.sr_threaded.specs.declared.kit.NodeEnd.{NodeEnd}

-- the address of a node
abbrev pub address_of : {F : Type 0} {feed : Ghosts F} → NodeEnd F feed → Mac
address_of e = e.segment.opening.role.mac

-- the address is that of one of these nodes, and not the own
abbrev pub is_others : {F : Type 0} {feed : Ghosts F} → Mac → List (NodeEnd F feed) → Mac → Bool
is_others own [] m = false
is_others own (e ∷ es) m = (if mac_eq (address_of e) own then false else mac_eq m (address_of e)) || is_others own es m

-- what arrives comes from one of these nodes, and not from the own
abbrev pub comes_from_others : {F : Type 0} {feed : Ghosts F} → Mac → List (NodeEnd F feed) → Event → Bool
comes_from_others own es (Arrive port p now) = is_others own es (header_of p).src
comes_from_others own es (Send frame now) = true
comes_from_others own es (Tick now) = true
comes_from_others own es (Take port) = true

abbrev pub all_from_others : {F : Type 0} {feed : Ghosts F} → Mac → List (NodeEnd F feed) → List (Event × Answer) → Bool
all_from_others own es [] = true
all_from_others own es (x ∷ xs) = comes_from_others own es x.0 && all_from_others own es xs

-- what arrived from a node, by itself, is among the encodings of what its worker took out for the LAN, or it is not; of the node
-- with the own address nothing is asked
abbrev pub AgreementIf : {F : Type 0} {feed : Ghosts F} → Bool → FramingImage → Worker → List (Event × Answer) → NodeEnd F feed
    → Bool → Type 0
AgreementIf true f w arrivals e b = b ≡ true
AgreementIf false f w arrivals e b = Agreement f (Some (address_of e)) arrivals (pairs_of w e.logs.items) b

abbrev pub IsAgreementWith : {F : Type 0} {feed : Ghosts F} → FramingImage → Worker → Mac → List (Event × Answer) → NodeEnd F feed
    → Bool → Type 0
IsAgreementWith f w own arrivals e b = AgreementIf (mac_eq (address_of e) own) f w arrivals e b

-- so with each of these nodes
abbrev pub AgreesWithAll : {F : Type 0} {feed : Ghosts F} → FramingImage → Worker → Mac → List (Event × Answer)
    → List (NodeEnd F feed) → Bool → Type 0
AgreesWithAll f w own arrivals [] b = b ≡ true
AgreesWithAll f w own arrivals (e ∷ es) b =
    (c d : Bool) × IsAgreementWith f w own arrivals e c × AgreesWithAll f w own arrivals es d × (b ≡ (c && d))

-- the wires of a worker's port in a LAN of these nodes agree: what arrived there comes from the others, and of each by itself it is
-- among what that node sent; or they do not
pub record LanAgreement {F : Type 0} {feed : Ghosts F} (f : FramingImage) (w : Worker) (all : List (NodeEnd F feed))
    (own : NodeEnd F feed) (b : Bool) : Type 0 where
  pub sent : Bool
  pub with_all : AgreesWithAll f w (address_of own) (pairs_of w own.logs.items) all sent
  pub agrees : b ≡ (all_from_others (address_of own) all (pairs_of w own.logs.items) && sent)

-- what is judged of a node's ports, by the LANs A and B
pub record IsJudgedInLans {F : Type 0} {feed : Ghosts F} (all : List (NodeEnd F feed)) (own : NodeEnd F feed) (j : Judgement) : Type 0 where
  pub at_a : Bool
  pub at_b : Bool
  pub a : LanAgreement (Trailed lan.A 0) who.A all own at_a
  pub b : LanAgreement (Trailed lan.B 0) who.B all own at_b
  pub judged : j ≡ judgement_of at_a at_b
