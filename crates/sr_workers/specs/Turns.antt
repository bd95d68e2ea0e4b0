-- What a turn of a feed becomes, and what it brings.
use Rattle.std.specs.Prelude.{◌≡◌, ◌⊎◌, ℕ, ◌+◌, ◌<◌, Bool, true, List, [], ◌∷◌, ◌++◌, length}
use Rattle.sr_frame.specs.declared.ports.Port.{Port}
use Rattle.sr_frame.specs.declared.ports.Port.TheVariants as port
use Rattle.sr_frame.specs.Frame.{least_len}
use Rattle.sr_forwarding.specs.declared.fault.ReadFault.{ReadFault}
use Rattle.sr_forwarding.specs.Limits.{longest_frame}
use Rattle.sr_forwarding.specs.Parcels.{ParcelImage}
use Rattle.sr_forwarding.specs.Framings.{FramingImage}
use Rattle.sr_forwarding.specs.Decoding.{IsUnread}
use Rattle.sr_node.specs.declared.event.Event.{Event}
use Rattle.sr_node.specs.declared.event.Event.TheVariants.{Send, Tick}
use Rattle.sr_node.specs.declared.event.Answer.{Answer}
use Rattle.sr_ports.specs.declared.worker.Worker.{Worker}
use Rattle.sr_ports.specs.declared.worker.Worker.TheVariants as who
use Rattle.sr_workers.specs.declared.feed.Turn.{Turn}
use Rattle.sr_workers.specs.declared.feed.Turn.TheVariants as turn
use Rattle.sr_workers.specs.declared.feed.Given.{Given}
use Rattle.sr_workers.specs.declared.becoming.Becoming.{Becoming}
use Rattle.sr_workers.specs.declared.becoming.Becoming.TheVariants as becoming
use Rattle.sr_workers.specs.Told.{told_of}
use Rattle.sr_workers.specs.Work.{Became, GivesEach, IsArrivalAt, AreOwn, brought_in, parcels_in, nones_in, puts, losses_after}

-- octets at a port are their arrival; they are unread where the framing does not read them
abbrev pub IsReadAt : FramingImage → Port → List ℕ → ℕ → Becoming → Type 0
IsReadAt f p octets now (becoming.Event e) = IsArrivalAt f p octets now e
IsReadAt f p octets now becoming.Unread = (fault : ReadFault) × IsUnread f octets fault
IsReadAt f p octets now becoming.Nothing = ⊥

-- a host's frame is sent as it is; octets that are fewer or more than a frame's are unread
abbrev pub IsSentAs : List ℕ → ℕ → Becoming → Type 0
IsSentAs octets now (becoming.Event e) = e ≡ Send octets now
IsSentAs octets now becoming.Unread = (length octets < least_len octets) ⊎ (longest_frame < length octets)
IsSentAs octets now becoming.Nothing = ⊥

abbrev pub BecomesUnread : Becoming → Type 0
BecomesUnread (becoming.Event e) = ⊥
BecomesUnread becoming.Unread = Unit {0}
BecomesUnread becoming.Nothing = ⊥

abbrev pub BecomesNothing : Becoming → Type 0
BecomesNothing (becoming.Event e) = ⊥
BecomesNothing becoming.Unread = ⊥
BecomesNothing becoming.Nothing = Unit {0}

abbrev pub BecomesTick : ℕ → Becoming → Type 0
BecomesTick now (becoming.Event e) = e ≡ Tick now
BecomesTick now becoming.Unread = ⊥
BecomesTick now becoming.Nothing = ⊥

abbrev pub BecomesFrame : Worker → FramingImage → List ℕ → ℕ → Becoming → Type 0
BecomesFrame who.A f octets now b = IsReadAt f port.A octets now b
BecomesFrame who.B f octets now b = IsReadAt f port.B octets now b
BecomesFrame who.C f octets now b = IsReadAt f port.C octets now b
BecomesFrame who.Ager f octets now b = BecomesUnread b
BecomesFrame who.Host f octets now b = IsSentAs octets now b

-- what a turn becomes
abbrev pub Becomes : Worker → FramingImage → Turn → List ℕ → Becoming → Type 0
Becomes w f (turn.Frame now) octets b = BecomesFrame w f octets now b
Becomes w f (turn.Tick now) octets b = BecomesTick now b
Becomes w f turn.Idle octets b = BecomesNothing b
Becomes w f turn.End octets b = BecomesNothing b

-- the log and the counts after what a turn brought
pub record Brings (w : Worker) (f : FramingImage) (turn : Turn) (octets : List ℕ) (n n' : ℕ) (ps ps' : List (Event × Answer))
    (u u' : ℕ) : Type 0 where
  pub pairs : List (Event × Answer)
  pub unread : ℕ
  pub log : ps' ≡ ps ++ pairs
  pub count : n' ≡ n + length pairs
  pub own : AreOwn w pairs
  pub became : Became w f (told_of turn octets) (brought_in pairs) unread
  pub counted : u' ≡ u + unread
  pub taken : parcels_in pairs ≡ []
  pub nones : nones_in pairs ≡ 0

-- what a feed was given of a parcel, and how many are lost then
pub record Out (tells : Bool) (f : FramingImage) (p : ParcelImage) (g g' : List (List ℕ)) (n n' : ℕ) : Type 0 where
  pub gave : List (Given × List ℕ)
  pub sends : GivesEach f (p ∷ []) gave
  pub given : tells ≡ true → g' ≡ g ++ puts gave
  pub short : n' ≡ losses_after n gave
