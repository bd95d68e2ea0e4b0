-- The streams of captures: those of all their packets that are messages.
use Rattle.std.specs.Prelude.{◌≡◌, ◌^◌, ◌<◌, List, [], ◌∷◌, ◌++◌, length, Some, None}
use Rattle.sr_capture.specs.Records.{Captured}
use Rattle.sr_capture_script.specs.declared.choice.Choice.{Choice}
use Rattle.sr_capture_script.specs.Coming.{AllCame}
use Rattle.sr_capture_script.specs.Items.{Item}
use Rattle.sr_capture_script.specs.Merging.{Feed}
use Rattle.sr_capture_script.specs.Passing.{Handed, wanted}
use Rattle.sr_frame.specs.Frame.{Fields, IsFrame}
use Rattle.sr_frame.specs.declared.fields.Mac.{Mac}
use Rattle.sr_streams.specs.declared.table.Streams.{Streams}
use Rattle.sr_streams.specs.Messages.{Said, frame_says}
use Rattle.sr_streams.specs.Tables.{MessageSent, AreStreamsOf}
use Rattle.sr_capture_streams.specs.declared.watching.StreamWatch.{StreamWatch}

-- a packet is a frame from this source that says this
pub record SaysOfStream (packet : Captured) (src : Mac) (says : Said) : Type 0 where
  pub fields : Fields
  pub frame : IsFrame packet.octets fields
  pub from : src.0 ≡ fields.src
  pub content : frame_says fields ≡ Some says

-- a packet is no frame that says anything of a stream
abbrev pub SaysNothing : Captured → Type 0
SaysNothing packet = (fields : Fields) → IsFrame packet.octets fields → frame_says fields ≡ None

-- what a packet sent: one message, or none
pub data IsSentIn (x : Handed) (sent : List MessageSent) : Type 0 where
  message : (src : Mac) (says : Said) → SaysOfStream x.packet src says →
      sent ≡ record { src = src; says = says; time = x.time } ∷ [] → IsSentIn x sent
  no_message : SaysNothing x.packet → sent ≡ [] → IsSentIn x sent

-- what packets sent, the last message first
abbrev pub AreSentIn : List Handed → List MessageSent → Type 0
AreSentIn [] sent = sent ≡ []
AreSentIn (x ∷ xs) sent =
    (own : List MessageSent) × (later : List MessageSent) × (sent ≡ later ++ own) × IsSentIn x own × AreSentIn xs later

-- a pass that took no packet
abbrev pub IsNewWatch : StreamWatch → Type 0
IsNewWatch watch = AreStreamsOf [] watch.streams

-- the streams of one packet more
pub record WatchesMore (x : Handed) (old new : StreamWatch) : Type 0 where
  pub own : List MessageSent
  pub is_own : IsSentIn x own
  pub takes : (sent : List MessageSent) → length (own ++ sent) < 2 ^ 64 →
      AreStreamsOf sent old.streams → AreStreamsOf (own ++ sent) new.streams

-- the streams of three files: of all their packets that are wanted
pub record AreStreamsOfAll (choice : Choice) (x y z : Feed) (streams : Streams) : Type 0 where
  pub merged : List Item
  pub came : AllCame x y z merged
  pub sent : List MessageSent
  pub are_sent : AreSentIn (wanted choice merged) sent
  pub of_all : length sent < 2 ^ 64 → AreStreamsOf sent streams
