-- What a worker does.
use Rattle.std.specs.Prelude.{◌≡◌, ◌≢◌, ◌≤◌, ◌<◌, ◌⊎◌, ℕ, ◌+◌, Bool, true, List, [], ◌∷◌, ◌++◌, length, Option, Some, None}
use Rattle.sr_frame.specs.declared.ports.Port.{Port}
use Rattle.sr_frame.specs.declared.ports.Port.TheVariants.{H, A, B, C}
use Rattle.sr_frame.specs.Frame.{least_len}
use Rattle.sr_forwarding.specs.declared.fault.ReadFault.{ReadFault}
use Rattle.sr_forwarding.specs.Limits.{longest_frame}
use Rattle.sr_forwarding.specs.Parcels.{ParcelImage}
use Rattle.sr_forwarding.specs.Framings.{FramingImage}
use Rattle.sr_forwarding.specs.Decoding.{IsRead, IsUnread}
use Rattle.sr_forwarding.specs.Encoding.{IsWritten, write_fault}
use Rattle.sr_node.specs.declared.event.Event.{Event}
use Rattle.sr_node.specs.declared.event.Event.TheVariants.{Arrive, Send, Tick, Take}
use Rattle.sr_node.specs.declared.event.Answer.{Answer}
use Rattle.sr_node.specs.declared.event.Answer.TheVariants.{Own, Passed, Sent, Ticked, Taken}
use Rattle.sr_ports.specs.declared.worker.Worker.{Worker}
use Rattle.sr_ports.specs.declared.worker.Worker.TheVariants as who
use Rattle.sr_workers.specs.declared.fault.WorkerFault.{WorkerFault}
use Rattle.sr_workers.specs.declared.fault.WorkerFault.TheVariants as fault
use Rattle.sr_workers.specs.declared.feed.Given.{Given}
use Rattle.sr_workers.specs.Told.{Told, Framed, Timed, put_of, lost_after}

-- a worker serves a port: the host's serves H, and the Ager serves none
abbrev pub ServesPort : Worker → Port → Type 0
ServesPort who.A A = Unit {0}
ServesPort who.B B = Unit {0}
ServesPort who.C C = Unit {0}
ServesPort who.Host H = Unit {0}
ServesPort _ _ = ⊥

-- a worker may enter the event: arrivals and takes at its own port; the host alone sends
abbrev pub IsOwn : Worker → Event → Type 0
IsOwn w (Arrive port p now) = ServesPort w port
IsOwn w (Send frame now) = w ≡ who.Host
IsOwn w (Tick now) = Unit {0}
IsOwn w (Take port) = ServesPort w port

abbrev pub AreOwn : Worker → List (Event × Answer) → Type 0
AreOwn w [] = Unit {0}
AreOwn w (x ∷ xs) = IsOwn w x.0 × AreOwn w xs

-- the events but for the takes
abbrev pub brought_by : Event → List Event
brought_by (Arrive port p now) = Arrive port p now ∷ []
brought_by (Send frame now) = Send frame now ∷ []
brought_by (Tick now) = Tick now ∷ []
brought_by (Take port) = []

abbrev pub brought_in : List (Event × Answer) → List Event
brought_in [] = []
brought_in (x ∷ xs) = brought_by x.0 ++ brought_in xs

-- the parcels that were taken out
abbrev pub parcel_in : Answer → List ParcelImage
parcel_in Own = []
parcel_in (Passed outlets) = []
parcel_in (Sent number) = []
parcel_in (Ticked sources nodes proxies life) = []
parcel_in (Taken None) = []
parcel_in (Taken (Some p)) = p ∷ []

abbrev pub parcels_in : List (Event × Answer) → List ParcelImage
parcels_in [] = []
parcels_in (x ∷ xs) = parcel_in x.1 ++ parcels_in xs

-- how many takes found nothing
abbrev pub none_in : Answer → ℕ
none_in Own = 0
none_in (Passed outlets) = 0
none_in (Sent number) = 0
none_in (Ticked sources nodes proxies life) = 0
none_in (Taken None) = 1
none_in (Taken (Some p)) = 0

abbrev pub nones_in : List (Event × Answer) → ℕ
nones_in [] = 0
nones_in (x ∷ xs) = none_in x.1 + nones_in xs

-- octets at a port are this arrival, by the port's framing
pub record IsArrivalAt (f : FramingImage) (port : Port) (octets : List ℕ) (now : ℕ) (e : Event) : Type 0 where
  pub parcel : ParcelImage
  pub read : IsRead f octets parcel
  pub arrives : e ≡ Arrive port parcel now

-- a frame that a worker's feed hands out is this event; the host's is sent as it is, and the Ager has none
abbrev pub IsFrameEvent : Worker → FramingImage → List ℕ → ℕ → Event → Type 0
IsFrameEvent who.A f octets now e = IsArrivalAt f A octets now e
IsFrameEvent who.B f octets now e = IsArrivalAt f B octets now e
IsFrameEvent who.C f octets now e = IsArrivalAt f C octets now e
IsFrameEvent who.Ager f octets now e = ⊥
IsFrameEvent who.Host f octets now e = e ≡ Send octets now

-- what a feed hands out is this event
abbrev pub IsEventOf : Worker → FramingImage → Told → Event → Type 0
IsEventOf w f (Framed octets now) e = IsFrameEvent w f octets now e
IsEventOf w f (Timed now) e = e ≡ Tick now

-- no event comes of these octets: the port's framing does not read them, they have no frame's length at the host, or it is the Ager
abbrev pub HasNoFrame : Worker → FramingImage → List ℕ → Type 0
HasNoFrame who.A f octets = (fault : ReadFault) × IsUnread f octets fault
HasNoFrame who.B f octets = (fault : ReadFault) × IsUnread f octets fault
HasNoFrame who.C f octets = (fault : ReadFault) × IsUnread f octets fault
HasNoFrame who.Ager f octets = Unit {0}
HasNoFrame who.Host f octets = (length octets < least_len octets) ⊎ (longest_frame < length octets)

-- no event comes of what a feed hands out; of a time a Tick comes always
abbrev pub HasNoEvent : Worker → FramingImage → Told → Type 0
HasNoEvent w f (Framed octets now) = HasNoFrame w f octets
HasNoEvent w f (Timed now) = ⊥

-- what was handed out became these events, in order, with so many between them of which none comes, or which were not entered
pub data Became (w : Worker) (f : FramingImage) : List Told → List Event → ℕ → Type 0 where
  nothing : Became w f [] [] 0
  entered : (t : Told) (e : Event) (ts : List Told) (es : List Event) (u : ℕ)
      → IsEventOf w f t e → Became w f ts es u → Became w f (t ∷ ts) (e ∷ es) u
  unread : (t : Told) (ts : List Told) (es : List Event) (u : ℕ)
      → HasNoEvent w f t → Became w f ts es u → Became w f (t ∷ ts) es (1 + u)
  refused : (t : Told) (e : Event) (ts : List Told) (es : List Event) (u : ℕ)
      → IsEventOf w f t e → Became w f ts es u → Became w f (t ∷ ts) es (1 + u)

-- of these parcels, those that the framing can write were given, in order, each as it is written, with the feed's answers
pub data GivesEach (f : FramingImage) : List ParcelImage → List (Given × List ℕ) → Type 0 where
  nothing : GivesEach f [] []
  unwritten : (p : ParcelImage) (ps : List ParcelImage) (gs : List (Given × List ℕ))
      → write_fault f p ≢ None → GivesEach f ps gs → GivesEach f (p ∷ ps) gs
  gave : (p : ParcelImage) (g : Given) (octets : List ℕ) (ps : List ParcelImage) (gs : List (Given × List ℕ))
      → write_fault f p ≡ None → IsWritten f p.form p octets → GivesEach f ps gs → GivesEach f (p ∷ ps) ((g, octets) ∷ gs)

-- those that were put
abbrev pub puts : List (Given × List ℕ) → List (List ℕ)
puts [] = []
puts (x ∷ xs) = put_of x.0 x.1 ++ puts xs

-- how many are lost then, of so many before
abbrev pub losses_after : ℕ → List (Given × List ℕ) → ℕ
losses_after n [] = n
losses_after n (x ∷ xs) = losses_after (lost_after n x.0) xs

-- what shows of a worker: how many events it entered, its log, what its feed handed out and in how many turns, what it put, how many
-- frames it lost and how often it failed, and how much was unread
pub record Moment : Type 0 where
  pub count : ℕ
  pub pairs : List (Event × Answer)
  pub handed : List Told
  pub asked : ℕ
  pub given : List (List ℕ)
  pub losses : ℕ
  pub failed : ℕ
  pub unread : ℕ

abbrev pub moment : ℕ → List (Event × Answer) → List Told → ℕ → List (List ℕ) → ℕ → ℕ → ℕ → Moment
moment n ps h a g l k u =
    record { count = n; pairs = ps; handed = h; asked = a; given = g; losses = l; failed = k; unread = u }

-- the framing can write each of these parcels
abbrev pub AreWritable : FramingImage → List ParcelImage → Type 0
AreWritable f [] = Unit {0}
AreWritable f (p ∷ ps) = (write_fault f p ≡ None) × AreWritable f ps

-- From s to t the worker entered these events, each in its log, and none that is not its own. What its feed handed out became
-- those that are no takes, but for what is lost. The parcels that it took out and can write were given to the feed as they are
-- written, but for those that are held; the feed counts as lost just those that it did not put. So many takes found nothing, and the
-- feed answered so many turns.
pub record Did (tells : Bool) (w : Worker) (f : FramingImage) (none asks : ℕ) (held : List ParcelImage) (lost : List Told)
    (s t : Moment) : Type 0 where
  pub pairs : List (Event × Answer)
  pub told : List Told
  pub sent : List ParcelImage
  pub gave : List (Given × List ℕ)
  pub unread : ℕ
  pub log : t.pairs ≡ s.pairs ++ pairs
  pub count : t.count ≡ s.count + length pairs
  pub own : AreOwn w pairs
  pub became : Became w f told (brought_in pairs) unread
  pub handed : tells ≡ true → t.handed ≡ s.handed ++ told ++ lost
  pub asked : tells ≡ true → t.asked ≡ s.asked + asks
  pub counted : t.unread ≡ s.unread + unread
  pub taken : parcels_in pairs ≡ sent ++ held
  pub sends : GivesEach f sent gave
  pub given : tells ≡ true → t.given ≡ s.given ++ puts gave
  pub short : t.losses ≡ losses_after s.losses gave
  pub failures : s.failed ≤ t.failed
  pub writable : AreWritable f held
  pub nones : nones_in pairs ≡ none

-- in so many turns as many takes find nothing, and none of the Ager's, which takes nothing out
abbrev pub nones_of : Worker → ℕ → ℕ
nones_of who.A n = n
nones_of who.B n = n
nones_of who.C n = n
nones_of who.Ager n = 0
nones_of who.Host n = n

-- the parcel that is held, if one is
abbrev pub parcels_held : Option ParcelImage → List ParcelImage
parcels_held None = []
parcels_held (Some p) = p ∷ []

-- a worker stops by a fault: one thing that was handed out is lost at most, a parcel is held only where its feed failed, and that is
-- the fault only where it did
pub record DidLast (tells : Bool) (w : Worker) (f : FramingImage) (reason : WorkerFault) (held : Option ParcelImage) (none : ℕ)
    (s t : Moment) : Type 0 where
  pub lost : List Told
  pub asks : ℕ
  pub did : Did tells w f none asks (parcels_held held) lost s t
  pub one : length lost ≤ 1
  pub only : reason ≢ fault.FeedFault → held ≡ None
  pub failed : reason ≡ fault.FeedFault → s.failed < t.failed

-- the worker made so many rounds, a turn of its feed each, and no more than its turns; these were all, or its feed has ended
pub record Finished (tells : Bool) (w : Worker) (f : FramingImage) (turns : ℕ) (s t : Moment) (ended : Bool) : Type 0 where
  pub rounds : ℕ
  pub did : Did tells w f (nones_of w rounds) rounds [] [] s t
  pub few : rounds ≤ turns
  pub made : (rounds ≡ turns) ⊎ (ended ≡ true)

-- it made so many rounds and no more than its turns, and stopped by a fault
pub record Stopped (tells : Bool) (w : Worker) (f : FramingImage) (turns : ℕ) (reason : WorkerFault) (held : Option ParcelImage)
    (s t : Moment) : Type 0 where
  pub rounds : ℕ
  pub last : DidLast tells w f reason held (nones_of w rounds) s t
  pub few : rounds ≤ turns
