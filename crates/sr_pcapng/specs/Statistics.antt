-- Statistics of an interface: its number, a time, and options, of which two count dropped packets.
use Rattle.std.specs.Prelude.{ℕ, ◌+◌, ◌-◌, ◌^◌, ◌==◌, ◌||◌, ◌&&◌, not, nat_lt, min, if◌then◌else◌, unwrap_or, zero, suc}
use Rattle.std.specs.Prelude.{List, length, drop, Option, Some, None, Bool, false}
use Rattle.std.specs.List.{between}
use Rattle.sr_capture.specs.declared.numbers.ByteOrder.{ByteOrder}
use Rattle.sr_capture.specs.Numbers.{half_at, word_at}
use Rattle.sr_pcapng.specs.declared.track.Interface.{Interface}
use Rattle.sr_pcapng.specs.declared.track.Section.{Section}
use Rattle.sr_pcapng.specs.Options.{long_at, padded}
use Rattle.sr_pcapng.specs.PacketBlocks.{of_number}

-- the options of these codes count packets that were dropped: by the interface, and by the operating system
abbrev pub counts_drops : ℕ → Bool
counts_drops code = code == 5 || code == 7

-- options end where nothing is left, or where code 0 says so
abbrev pub is_end : ByteOrder → List ℕ → Bool
is_end order octets = if nat_lt (length octets) 4 then length octets == 0 else half_at order octets 0 == 0

-- the length of an option by its head
abbrev pub option_len : ByteOrder → List ℕ → ℕ
option_len order octets = 4 + padded (half_at order octets 2)

-- whether an option stands in front; a count has eight octets
abbrev pub is_option : ByteOrder → List ℕ → Bool
is_option order octets = if nat_lt (length octets) 4 then false
    else if counts_drops (half_at order octets 0) && not (half_at order octets 2 == 8) then false
    else not (nat_lt (length octets) (option_len order octets))

-- how many packets are known to be dropped behind an option
abbrev pub with_option : ByteOrder → List ℕ → Option ℕ → Option ℕ
with_option order octets known =
    if counts_drops (half_at order octets 0) then Some (min (unwrap_or known 0 + long_at order octets 4) (2 ^ 64 - 1)) else known

-- how many packets options, up to so many, count as dropped, beside those that are known; what is cut counts none
abbrev pub drops_in : ℕ → ByteOrder → List ℕ → Option ℕ → Option ℕ
drops_in zero order octets known = known
drops_in (suc most) order octets known = if is_end order octets then known
    else if is_option order octets then drops_in most order (drop (option_len order octets) octets) (with_option order octets known)
    else None

-- what options count, where they are of an interface that is wanted
abbrev pub drops_of : Option Interface → ByteOrder → List ℕ → Option ℕ
drops_of None order octets = None
drops_of (Some interface) order octets = drops_in (length octets) order octets None

-- how many packets statistics say were dropped of the interface that is wanted
abbrev pub dropped_in : Section → List ℕ → Option ℕ
dropped_in section octets = if nat_lt (length octets) 24 then None
    else drops_of (of_number section.taken (word_at section.order octets 8)) section.order (between 20 (length octets - 4) octets)
