-- What the history of a run is: its frames by whole numbers.
use Rattle.std.specs.Prelude.{◌≡◌, ◌⊎◌, ℕ, zero, suc, ◌%◌, ◌<◌, ◌==◌, not, Bool, true, false, List, [], ◌∷◌, ◌++◌, length}
use Rattle.std.specs.Prelude.{Option, None, Some, slice_get, slice_index_or, if◌then◌else◌}
use Rattle.std.proofs.Common.{inl, inr}
use Rattle.std.specs.List.{list_any}
use Rattle.sr_frame.specs.declared.fields.Mac.{Mac}
use Rattle.sr_frame.specs.declared.ports.Port.{Port}
use Rattle.sr_frame.specs.declared.ports.Port.TheVariants.{H, A, B, C}
use Rattle.sr_frame.specs.Addresses.{mac_eq}
use Rattle.sr_frame.specs.Frame.{padded}
use Rattle.sr_sequence.specs.declared.Seq.{Seq}
use Rattle.sr_supervision.specs.Written.{written}
use Rattle.sr_forwarding.specs.Decoding.{IsRead}
use Rattle.sr_forwarding.specs.Encoding.{IsWritten}
use Rattle.sr_forwarding.specs.declared.outlets.Outlets.{Outlets}
use Rattle.sr_forwarding.specs.declared.kind.RoleKind.{RoleKind}
use Rattle.sr_forwarding.specs.Kinds.{has_interlink}
use Rattle.sr_forwarding.specs.Outlets.{has}
use Rattle.sr_node.specs.Arriving.{wanted_at}
use Rattle.sr_forwarding.specs.Octets.{dst_in, src_in, is_supervision}
use Rattle.sr_forwarding.specs.Parcels.{ParcelImage, plain_of}
use Rattle.sr_forwarding.specs.RoleImages.{is_group}
use Rattle.sr_node.specs.declared.mode.Mode.{Mode}
use Rattle.sr_node.specs.declared.mode.Mode.TheVariants as mode
use Rattle.sr_node.specs.Images.{State}
use Rattle.sr_node.specs.Starts.{Start, is_x}
use Rattle.sr_node.specs.LifeChecks.{is_due, life_says}
use Rattle.sr_node.specs.Outboxes.{Outboxes}
use Rattle.sr_laws_box.specs.Members.{is_to_group}
use Rattle.sr_laws_plant.specs.Frames.{Dest, one, group, is_only, Frame}
use Rattle.sr_laws_plant.specs.Handlings.{Handling, is_sending}
use Rattle.sr_laws_plant.specs.Ledger.{PlantTurn}
use Rattle.sr_laws_plant.specs.Ledger as ledger
use Rattle.sr_laws_plant.specs.Lists.{Each}
use Rattle.sr_laws_plant.specs.OneNode.{handed}
use Rattle.sr_laws_plant.specs.PlantEvents.{Event, History, done_in}
use Rattle.sr_laws_plant.specs.PlantEvents as law
use Rattle.sr_plant.specs.declared.topology.Topology.{Topology}
use Rattle.sr_plant.specs.declared.event.PlantEvent.{PlantEvent}
use Rattle.sr_plant.specs.declared.event.PlantEvent.TheVariants.{Send, Carry, Drop, Repeat, Cut, Mend, Tick}
use Rattle.sr_plant.specs.Building.{is_empty}
use Rattle.sr_plant.specs.Copies.{Copy}
use Rattle.sr_plant.specs.Plants.{Plant}
use Rattle.sr_plant.specs.Steps.{Comes, IsLost, without, PlantStep}
use Rattle.sr_plant.specs.Topologies.{framing_of, net_of}
use Rattle.sr_laws_plant_runs.specs.PlantRuns.{Turn, PlantRun}

-- the address of a node
abbrev pub mac_at : List Start → ℕ → Mac
mac_at [] k = record { 0 = [] }
mac_at (r ∷ starts) zero = r.role.mac
mac_at (r ∷ starts) (suc k) = mac_at starts k

-- the mode of a node
abbrev pub mode_at : List Start → ℕ → Mode
mode_at [] k = mode.H
mode_at (r ∷ starts) zero = r.settings.mode
mode_at (r ∷ starts) (suc k) = mode_at starts k

abbrev pub in_mode_x : List Start → ℕ → Bool
in_mode_x starts k = is_x (mode_at starts k)

-- addressed: each address has six octets, and none is a group's
abbrev pub HaveOwnAddresses : List Start → Type 0
HaveOwnAddresses starts = Each (λ r. (length r.role.mac.0 ≡ 6) × (is_group r.role.mac ≡ false)) starts

-- the member below m that has this address, else n
abbrev pub member_with : (ℕ → Mac) → ℕ → ℕ → Mac → ℕ
member_with mac n zero dst = n
member_with mac n (suc m) dst = if mac_eq dst (mac m) then m else member_with mac n m dst

-- whom a frame with this destination is for
abbrev pub dest_of : (ℕ → Mac) → ℕ → Mac → Dest
dest_of mac n dst = if is_group dst then group else one (member_with mac n n dst)

-- A plain frame under a number of 16 bits is this frame of one of the nodes: by its source, its number, its destination and whether it is
-- supervision, and its octets.
pub record Shows (starts : List Start) (plain : List ℕ) (seq : Seq) (f : Frame) : Type 0 where
  pub member : f.src < length starts
  pub source : src_in plain ≡ mac_at starts f.src
  pub number : seq.0 ≡ f.number % 65536
  pub supervision : is_supervision plain ≡ f.supervision
  pub alone : (k : ℕ) → k < length starts → mac_eq (dst_in plain) (mac_at starts k) ≡ is_only k f.dest
  pub all : is_group (dst_in plain) ≡ is_to_group f.dest
  pub octets : plain ≡ f.octets
  pub dest : f.dest ≡ dest_of (mac_at starts) (length starts) (dst_in plain)

-- a parcel shows a frame
abbrev pub ParcelShows : List Start → ParcelImage → Frame → Type 0
ParcelShows starts p f = (seq : Seq) × (p.seq ≡ Some seq) × Shows starts (plain_of p) seq f

-- of two lists, one for one
abbrev pub Zip : {X Y : Type 0} → (X → Y → Type 0) → List X → List Y → Type 0
Zip R [] [] = Unit {0}
Zip R [] (y ∷ ys) = ⊥
Zip R (x ∷ xs) [] = ⊥
Zip R (x ∷ xs) (y ∷ ys) = R x y × Zip R xs ys

abbrev pub oldest_first : List Frame → List Frame
oldest_first [] = []
oldest_first (f ∷ fs) = oldest_first fs ++ f ∷ []

-- an event, whatever octets a host sends
abbrev pub event_of : PlantEvent → Event
event_of (Send i frame) = law.send i
event_of (Carry place) = law.carry place
event_of (Drop place) = law.drop place
event_of (Repeat place) = law.repeat place
event_of (Cut link) = law.cut link
event_of (Mend link) = law.mend link
event_of (Tick i now) = law.tick i now

-- A copy in flight is one of this frame, over this hop: it has the frame's number, and whatever octets it is carried as, they show the
-- frame where they are read.
pub record IsCopyOf (t : Topology) (starts : List Start) (c : Copy) (g : ledger.Copy) : Type 0 where
  pub hop : c.hop ≡ g.hop
  pub seq : Seq
  pub has : c.parcel.seq ≡ Some seq
  pub number : seq.0 ≡ g.frame.number % 65536
  pub shows : (octets : List ℕ) (q : ParcelImage) → IsWritten (framing_of t c.from c.outlet) c.parcel.form c.parcel octets →
      IsRead (framing_of t c.hop.to.node c.hop.to.port) octets q → ParcelShows starts q g.frame

-- The plant and its history at one moment: copies in flight one for one, the same links cut, the same clock.
pub record StandsBeside (t : Topology) (starts : List Start) (s : Plant) (p : law.Plant) : Type 0 where
  pub flight : Zip (IsCopyOf t starts) s.flight p.flight
  pub cuts : (link : ℕ) → slice_index_or s.cut link false ≡ list_any (λ l. l == link) p.cuts
  pub clock : s.clock ≡ p.clock

-- something waits at this outlet
abbrev pub waits_at : Outboxes → Port → Bool
waits_at o H = not (is_empty o.h)
waits_at o A = not (is_empty o.a)
waits_at o B = not (is_empty o.b)
waits_at o C = not (is_empty o.c)

-- it was wanted where the node wants it
abbrev pub WantedAs : Outlets → Option Handling → Type 0
WantedAs wanted None = Unit {0}
WantedAs wanted (Some d) = (o : Port) → d.wanted o ≡ has wanted o

-- it went out where the node, as the event left it, has something waiting
abbrev pub WentAs : State → Option Handling → Type 0
WentAs u None = (o : Port) → waits_at u.core.out o ≡ false
WentAs u (Some d) = (o : Port) → d.went o ≡ waits_at u.core.out o

-- the ports at which a node of this kind puts out what it numbers: both sides, and its interlink where it has one
abbrev pub is_outlet : Port → RoleKind → Bool
is_outlet H kind = false
is_outlet A kind = true
is_outlet B kind = true
is_outlet C kind = has_interlink kind

-- The handling is the sending of these octets: of node i, under its next number, at each of its outlets, as the node that it left has it.
pub record IsSendingOf (starts : List Start) (i : ℕ) (before : State) (frame : List ℕ) (after : State) (d : Handling) : Type 0 where
  pub node : d.node ≡ i
  pub inlet : is_sending d ≡ true
  pub source : d.frame.src ≡ i
  pub shows : Shows starts (padded frame) before.core.next d.frame
  pub outlets : (o : Port) → d.went o ≡ is_outlet o before.role.kind
  pub wants : (o : Port) → d.wanted o ≡ is_outlet o before.role.kind
  pub went : (o : Port) → d.went o ≡ waits_at after.core.out o

-- so the node numbered a frame
abbrev pub NumbersAs : List Start → ℕ → State → List ℕ → State → Option Handling → Type 0
NumbersAs starts i before frame after None = ⊥
NumbersAs starts i before frame after (Some d) = IsSendingOf starts i before frame after d

-- a life check, where one is due
abbrev pub TicksAs : List Start → ℕ → ℕ → State → State → Option Handling → Type 0
TicksAs starts i now before after None = is_due before.core.life_at now ≡ false
TicksAs starts i now before after (Some d) =
    (is_due before.core.life_at now ≡ true)
    × NumbersAs starts i before (written (life_says before.role.kind before.role.mac before.core.next_life)) after (Some d)

-- A copy that its receiver took came in, and went out where the node put it out. One that it refused is lost, and nothing else happens.
abbrev pub CarriesAs : (s : Plant) (place : ℕ) (v : Plant) (c : Copy) → Comes s place c v ⊎ (IsLost s c × (v ≡ without s place)) →
    ledger.Copy → PlantTurn → Type 0
CarriesAs s place v c (inl comes) g turn =
    (turn.came ≡ g ∷ []) × WentAs comes.after turn.did × WantedAs (wanted_at comes.before c.hop.to.port comes.taken.0 s.clock) turn.did
CarriesAs s place v c (inr lost) g turn = turn ≡ record law.idle_turn { lost = g ∷ [] }

-- A turn of the history tells what the plant did. (Of what is dropped, doubled or cut off, the history's own moves leave nothing open.)
abbrev pub IsTurnOf : List Start → (s : Plant) (e : PlantEvent) (v : Plant) → PlantStep s e v → law.Plant → PlantTurn → Type 0
IsTurnOf starts s (Send i frame) v acts p turn = NumbersAs starts i acts.before frame acts.after turn.did
IsTurnOf starts s (Carry place) v step p turn =
    (g : ledger.Copy) × (slice_get p.flight place ≡ Some g) × CarriesAs s place v step.0 step.2 g turn
IsTurnOf starts s (Drop place) v step p turn = Unit {0}
IsTurnOf starts s (Repeat place) v step p turn = Unit {0}
IsTurnOf starts s (Cut link) v step p turn = Unit {0}
IsTurnOf starts s (Mend link) v step p turn = Unit {0}
IsTurnOf starts s (Tick i now) v acts p turn = TicksAs starts i now acts.before acts.after turn.did

-- event for event, from the first on
abbrev pub AreTold : (t : Topology) (starts : List Start) (turns : List Turn) (s : Plant) → PlantRun t starts turns s →
    (es : History) (p : law.Plant) → law.PlantRun (net_of t (length starts)) es p → Type 0
AreTold t starts [] s run [] p story = Unit {0}
AreTold t starts [] s run (e ∷ es) p story = ⊥
AreTold t starts (turn ∷ before) s run [] p story = ⊥
AreTold t starts (turn ∷ before) s run (e ∷ es) p story =
    AreTold t starts before turn.before run.0 es story.0 story.1
    × (e.0 ≡ event_of turn.event)
    × IsTurnOf starts turn.before turn.event s run.2 story.0 e.1
    × StandsBeside t starts s p

-- The history is that of this run: the same events, of which each lost and brought what it did in the plant, beside each other all the
-- time; and what each node handed up shows, in order, the frames that it handed up in the history.
pub record IsHistoryOf (t : Topology) (starts : List Start) (turns : List Turn) (s : Plant) (run : PlantRun t starts turns s)
    (es : History) (p : law.Plant) (story : law.PlantRun (net_of t (length starts)) es p) : Type 0 where
  pub events : AreTold t starts turns s run es p story
  pub now : StandsBeside t starts s p
  pub quiet : s.flight ≡ [] → law.IsQuiet p
  pub up : (j : ℕ) (ps : List ParcelImage) → slice_get s.handed j ≡ Some ps →
      Zip (ParcelShows starts) ps (oldest_first (handed j (done_in es)))
