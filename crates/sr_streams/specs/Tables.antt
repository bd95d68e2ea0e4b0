-- The streams of the messages that came (choice of this project).
use Rattle.std.specs.Prelude.{
  ℕ,
  ◌≡◌,
  ◌<◌,
  ◌≤◌,
  ◌&&◌,
  ◌||◌,
  not,
  nat_eq,
  Bool,
  true,
  false,
  List,
  [],
  ◌∷◌,
  length,
  map,
  filter,
  slice_get,
  Some,
}
use Rattle.std.specs.Cmp.Lexicographic.{pointwise}
use Rattle.sr_frame.specs.Addresses.{mac_eq}
use Rattle.sr_frame.specs.declared.fields.Mac.{Mac}
use Rattle.sr_streams.specs.declared.message.Counter.{Counter}
use Rattle.sr_streams.specs.declared.message.Counter.TheVariants as counter
use Rattle.sr_streams.specs.declared.numbers.Arrival.{Arrival}
use Rattle.sr_streams.specs.declared.sums.Kind.{Kind}
use Rattle.sr_streams.specs.declared.sums.Kind.TheVariants.{Goose, Sampled}
use Rattle.sr_streams.specs.declared.table.Stream.{Stream}
use Rattle.sr_streams.specs.declared.table.Streams.{Streams}
use Rattle.sr_streams.specs.Courses.{course_of}
use Rattle.sr_streams.specs.Limits.{max_streams}
use Rattle.sr_streams.specs.Messages.{Said}
use Rattle.sr_streams.specs.Sums.{KeepsCourse}

-- a message that came: its source address, what it says, and when
pub record MessageSent : Type 0 where
  pub src : Mac
  pub says : Said
  pub time : ℕ

-- what a stream is known by: the source address, of what it is, and its name
pub record Key : Type 0 where
  pub src : Mac
  pub kind : Kind
  pub name : List ℕ

-- of what a stream with such numbers is
abbrev pub counter_kind : Counter → Kind
counter_kind (counter.Goose st_num sq_num) = Goose
counter_kind (counter.Sampled smp_cnt asdus) = Sampled

abbrev pub kind_eq : Kind → Kind → Bool
kind_eq Goose Goose = true
kind_eq Goose Sampled = false
kind_eq Sampled Goose = false
kind_eq Sampled Sampled = true

abbrev pub key_eq : Key → Key → Bool
key_eq k l = mac_eq k.src l.src && (kind_eq k.kind l.kind && pointwise nat_eq k.name l.name)

abbrev pub key_sent : MessageSent → Key
key_sent x = record { src = x.src; kind = counter_kind x.says.counter; name = x.says.name }

abbrev pub stream_key : Stream → Key
stream_key stream = record { src = stream.src; kind = stream.kind; name = stream.name.items }

abbrev pub keys_of : List Stream → List Key
keys_of streams = map stream_key streams

-- whether a stream is among some
abbrev pub has_stream : Key → List Key → Bool
has_stream key [] = false
has_stream key (own ∷ keys) = key_eq own key || has_stream key keys

-- when a message came, and its number
abbrev pub arrival_sent : MessageSent → Arrival
arrival_sent x = record { time = x.time; counter = x.says.counter }

-- the messages of a stream, in the order in which they are given: the last one first
abbrev pub stream_arrivals : Key → List MessageSent → List Arrival
stream_arrivals key xs = map arrival_sent (filter (λ x. key_eq key (key_sent x)) xs)

-- what is kept is of the messages that came, the last one first
pub record AreStreamsOf (xs : List MessageSent) (streams : Streams) : Type 0 where
  pub few : length streams.streams.items ≤ max_streams
  -- each stream is kept once, with what all of its messages tell
  pub each : (at : ℕ) (stream : Stream) → slice_get streams.streams.items at ≡ Some stream →
      KeepsCourse (course_of (stream_arrivals (stream_key stream) xs)) stream.numbers
  pub once : (i j : ℕ) (key : Key) → slice_get (keys_of streams.streams.items) i ≡ Some key →
      slice_get (keys_of streams.streams.items) j ≡ Some key → i ≡ j
  -- while there is room, no other stream sent, and no message was left out
  pub all : length streams.streams.items < max_streams → (key : Key) → has_stream key (keys_of streams.streams.items) ≡ false →
      stream_arrivals key xs ≡ []
  pub none_out : length streams.streams.items < max_streams → streams.left_out ≡ 0
  -- the messages of other streams are counted
  pub left_out : streams.left_out ≡ length (filter (λ x. not (has_stream (key_sent x) (keys_of streams.streams.items))) xs)
