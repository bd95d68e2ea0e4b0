-- What a message of GOOSE (IEC 61850-8-1) or of sampled values (IEC 61850-9-2) says of its stream, as functions over the octets of a frame.
use Rattle.std.specs.Prelude.{
  ℕ,
  ◌^◌,
  List,
  drop,
  nat_le,
  nat_lt,
  ◌==◌,
  ◌&&◌,
  if◌then◌else◌,
  Option,
  Some,
  None,
  option_map,
  option_and_then,
}
use Rattle.sr_frame.specs.Frame.{Fields}
use Rattle.sr_streams.specs.declared.message.Counter.{Counter}
use Rattle.sr_streams.specs.declared.message.Counter.TheVariants.{Goose, Sampled}
use Rattle.sr_streams.specs.Elements.{two_octets, element, past_element, behind_any, number_front, name_front}

-- the name of the stream, and the number of the message in it
pub record Said : Type 0 where
  pub name : List ℕ
  pub counter : Counter

-- the APDU with this tag behind APPID, length and two words that are reserved
abbrev pub apdu : ℕ → List ℕ → Option (List ℕ)
apdu tag payload = option_map (λ found. found.0) (element tag (drop 8 payload))

-- behind the name of a GOOSE: past timeAllowedtoLive, datSet, goID, which may be left out, and t
abbrev pub to_numbers : List ℕ → Option (List ℕ)
to_numbers octets =
    option_and_then (past_element 0x84) (option_and_then (behind_any 0x83) (option_and_then (past_element 0x82) (past_element 0x81 octets)))

-- stNum, and sqNum behind it
abbrev pub goose_counter : List ℕ → Option Counter
goose_counter octets =
    option_and_then (λ state. option_map (λ seq. Goose state.0 seq.0) (number_front 0x86 state.1)) (number_front 0x85 octets)

-- gocbRef, and the numbers
abbrev pub goose : List ℕ → Option Said
goose octets =
    option_and_then (λ named. option_map (λ counter. record { name = named.0; counter = counter })
    (option_and_then goose_counter (to_numbers named.1))) (name_front 0x80 octets)

-- smpCnt in a message of so many ASDUs, past datSet, which may be left out
abbrev pub sampled_counter : ℕ → List ℕ → Option Counter
sampled_counter asdus octets =
    option_and_then (λ count. if nat_lt count.0 (2 ^ 16) then Some (Sampled count.0 asdus) else None)
    (option_and_then (number_front 0x82) (behind_any 0x81 octets))

-- svID and smpCnt of an ASDU
abbrev pub asdu : ℕ → List ℕ → Option Said
asdu asdus octets =
    option_and_then (λ named. option_map (λ counter. record { name = named.0; counter = counter }) (sampled_counter asdus named.1))
    (name_front 0x80 octets)

-- the first ASDU, past a part on security, which may be left out
abbrev pub first_asdu : List ℕ → Option (List ℕ)
first_asdu octets =
    option_and_then (λ sequence. option_map (λ found. found.0) (element 0x30 sequence.0))
    (option_and_then (element 0xa2) (behind_any 0x81 octets))

-- noASDU, which is 1 at least, and what the first ASDU says
abbrev pub sampled : List ℕ → Option Said
sampled octets =
    option_and_then (λ asdus. if nat_le 1 asdus.0 && nat_lt asdus.0 (2 ^ 16)
    then option_and_then (asdu asdus.0) (first_asdu asdus.1) else None)
    (number_front 0x80 octets)

-- what a payload of this type says
abbrev pub payload_says : ℕ → List ℕ → Option Said
payload_says ethertype payload =
    if ethertype == 0x88b8 then option_and_then goose (apdu 0x61 payload)
    else if ethertype == 0x88ba then option_and_then sampled (apdu 0x60 payload)
    else None

-- what a frame says, behind an HSR tag too: path and size, the number, and the type of what stands behind
abbrev pub frame_says : Fields → Option Said
frame_says f =
    if f.ethertype == 0x892f then option_and_then (λ inner. payload_says inner.0 inner.1) (two_octets (drop 4 f.payload))
    else payload_says f.ethertype f.payload
