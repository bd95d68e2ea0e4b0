-- What 32 octets are as keys, and how the number of an address is spread.
use Rattle.std.specs.Prelude.{ℕ, List, take, drop, ◌*◌, ◌/◌, ◌%◌, ◌^◌, bit_xor}
use Rattle.std.specs.Int.{w128, from_le_bytes}
use Rattle.sr_slots.specs.declared.keys.Keys.{Keys}

-- the first sixteen are the factor, and the last sixteen the addend, each with its least octet first
abbrev pub keys_in : List ℕ → Keys
keys_in octets = record { factor = from_le_bytes w128 (take 16 octets); addend = from_le_bytes w128 (drop 16 octets) }

-- its halves joined by xor, times an odd number
abbrev pub spread : ℕ → ℕ
spread number = (bit_xor number (number / 2 ^ 32) * 0x9e37_79b9_7f4a_7c15) % 2 ^ 64
