-- What is written: a section with two interfaces, and packets. Numbers have the least octet first, and times are in nanoseconds.
use Rattle.std.specs.Prelude.{◌≡◌, ℕ, ◌+◌, ◌-◌, ◌/◌, ◌%◌, ◌^◌, ◌<◌, ◌==◌, if◌then◌else◌}
use Rattle.std.specs.Prelude.{List, [], ◌∷◌, ◌++◌, length, take, drop, All, None}
use Rattle.std.specs.Int.{w16, w32, to_le_bytes}
use Rattle.std.specs.List.{flat_map}
use Rattle.sr_capture.specs.declared.numbers.ByteOrder.TheVariants.{Little}
use Rattle.sr_capture.specs.Numbers.{half_at, word_at}
use Rattle.sr_capture.specs.Records.{Captured}
use Rattle.sr_pcapng.specs.declared.track.Track.{Track}
use Rattle.sr_pcapng.specs.declared.track.Wanted.TheVariants.{Number}
use Rattle.sr_pcapng.specs.declared.lanes.Lane.{Lane}
use Rattle.sr_pcapng.specs.declared.lanes.Lane.TheVariants as lane
use Rattle.sr_pcapng.specs.declared.lanes.Names.{Names}
use Rattle.sr_pcapng.specs.declared.lanes.Names.TheVariants as names
use Rattle.sr_pcapng.specs.declared.lanes.Entry.{Entry}
use Rattle.sr_pcapng.specs.Options.{padded}
use Rattle.sr_pcapng.specs.PacketBlocks.{extent_of}
use Rattle.sr_pcapng.specs.Steps.{AreBlocks}

-- the octets of a number of 16 bits, and of 32
abbrev pub half_octets : ℕ → List ℕ
half_octets number = to_le_bytes w16 number

abbrev pub word_octets : ℕ → List ℕ
word_octets number = to_le_bytes w32 number

-- of three zeros those that fill up four behind so many octets
abbrev pub filling : ℕ → List ℕ
filling len = take ((4 - len % 4) % 4) (0 ∷ 0 ∷ 0 ∷ [])

-- an option: its code, the length of its value, the value, and zeros that fill up four
abbrev pub option_of : ℕ → List ℕ → List ℕ
option_of code value = half_octets code ++ half_octets (length value) ++ (value ++ filling (length value))

-- the number of an interface
abbrev pub lane_number : Lane → ℕ
lane_number lane.A = 0
lane_number lane.B = 1

-- the name of an interface, in ASCII: lan-a, lan-b, ring-a, ring-b
abbrev pub lane_name : Names → Lane → List ℕ
lane_name names.Lan lane.A = 108 ∷ 97 ∷ 110 ∷ 45 ∷ 97 ∷ []
lane_name names.Lan lane.B = 108 ∷ 97 ∷ 110 ∷ 45 ∷ 98 ∷ []
lane_name names.Ring lane.A = 114 ∷ 105 ∷ 110 ∷ 103 ∷ 45 ∷ 97 ∷ []
lane_name names.Ring lane.B = 114 ∷ 105 ∷ 110 ∷ 103 ∷ 45 ∷ 98 ∷ []

-- a section header of version 1.0, whose length is not told
abbrev pub header_block : List ℕ
header_block = word_octets 0x0A0D0D0A ++ word_octets 28 ++ word_octets 0x1A2B3C4D ++ half_octets 1 ++ half_octets 0
    ++ word_octets 0xFFFFFFFF ++ word_octets 0xFFFFFFFF ++ word_octets 28

-- the description of an interface that is Ethernet, has no snap length and counts nanoseconds, in a block of this length: option 2 is its
-- name, 9 the unit of times
abbrev pub described : ℕ → List ℕ → List ℕ
described size name = word_octets 1 ++ word_octets size ++ half_octets 1 ++ half_octets 0 ++ word_octets 0
    ++ option_of 2 name ++ option_of 9 (9 ∷ []) ++ word_octets 0 ++ word_octets size

abbrev pub description : List ℕ → List ℕ
description name = described (36 + padded (length name)) name

-- what stands before the first packet
abbrev pub file_head : Names → List ℕ
file_head names = header_block ++ description (lane_name names lane.A) ++ description (lane_name names lane.B)

-- a packet that is written: by which interface it came, when, how many octets it had, those kept, and a comment, which may be empty
pub record Written : Type 0 where
  pub lane : Lane
  pub time : ℕ
  pub len : ℕ
  pub octets : List ℕ
  pub comment : List ℕ

-- the packet that a value shows
abbrev pub written_of : Entry → Written
written_of e = record { lane = e.lane; time = e.time; len = e.len; octets = e.octets.now; comment = e.comment.now }

-- the limits of a packet that is written
pub record IsWritable (p : Written) : Type 0 where
  pub time : p.time < 2 ^ 63
  pub len : p.len < 2 ^ 32
  pub octets : length p.octets < 2 ^ 16
  pub comment : length p.comment < 2 ^ 16

-- a comment and the end of options; without a comment there are no options
abbrev pub comment_part : List ℕ → List ℕ
comment_part [] = []
comment_part (c ∷ cs) = option_of 1 (c ∷ cs) ++ word_octets 0

abbrev pub comment_size : ℕ → ℕ
comment_size len = if len == 0 then 0 else 8 + padded len

-- how many octets the block of a packet has
abbrev pub packet_size : Written → ℕ
packet_size p = 32 + padded (length p.octets) + comment_size (length p.comment)

-- what stands before the octets of a packet: the type and the length of the block, the number of the interface, the time in two words,
-- how many octets are kept, and how many there were
abbrev pub front_of : ℕ → ℕ → ℕ → ℕ → ℕ → List ℕ
front_of size number time held len = word_octets 6 ++ word_octets size ++ word_octets number
    ++ word_octets (time / 2 ^ 32) ++ word_octets (time % 2 ^ 32) ++ word_octets held ++ word_octets len

-- the block of a packet, of this length, at the interface of this number
abbrev pub block_of : ℕ → ℕ → Written → List ℕ
block_of size number p = front_of size number p.time (length p.octets) p.len ++ p.octets ++ filling (length p.octets)
    ++ comment_part p.comment ++ word_octets size

abbrev pub packet_block : Written → List ℕ
packet_block p = block_of (packet_size p) (lane_number p.lane) p

-- a file of these packets
abbrev pub file_of : Names → List Written → List ℕ
file_of names packets = file_head names ++ flat_map packet_block packets

-- the packet that a reader of its interface finds
abbrev pub captured_of : Written → Captured
captured_of p = record { time = p.time; extent = extent_of (length p.octets) p.len; octets = p.octets }

abbrev pub found_at : Lane → Written → List Captured
found_at lane p = if lane_number lane == lane_number p.lane then captured_of p ∷ [] else []

-- a file at its start, of which one of the two interfaces is wanted
abbrev pub start_at : Lane → Track
start_at lane = record { wanted = Number (lane_number lane); check_len = 0; section = None; dropped = None }

-- what is written is read again: of each interface its packets in their order, with their times, octets, and whether these are all
abbrev pub WhatIsWrittenIsRead : Type 0
WhatIsWrittenIsRead = (names : Names) (packets : List Written) (lane : Lane) → All IsWritable packets
    → (last : Track) × AreBlocks (start_at lane) (file_of names packets) (flat_map (found_at lane) packets) last

-- the options of a block of an enhanced packet
abbrev pub options_in : List ℕ → List ℕ
options_in octets = drop (28 + padded (word_at Little octets 20)) (take (length octets - 4) octets)

-- the value of an option of this code that stands first; none is an empty one
abbrev pub option_value : ℕ → List ℕ → List ℕ
option_value code options = if half_at Little options 0 == code then take (half_at Little options 2) (drop 4 options) else []

-- the comment of a packet, which is an option of code 1
abbrev pub comment_in : List ℕ → List ℕ
comment_in octets = option_value 1 (options_in octets)

-- the name of an interface, which is an option of code 2
abbrev pub name_in : List ℕ → List ℕ
name_in octets = option_value 2 (drop 16 (take (length octets - 4) octets))

-- comments, original lengths and names are found in the blocks that are written
abbrev pub CommentsAreRead : Type 0
CommentsAreRead = (p : Written) → IsWritable p
    → (comment_in (packet_block p) ≡ p.comment) × (word_at Little (packet_block p) 24 ≡ p.len)

abbrev pub NamesAreRead : Type 0
NamesAreRead = (names : Names) (lane : Lane) → name_in (description (lane_name names lane)) ≡ lane_name names lane
