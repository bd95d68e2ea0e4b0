-- Why packets are not used, and which have times that go back.
use Rattle.std.specs.Prelude.{
  ℕ,
  ◌+◌,
  ◌-◌,
  ◌^◌,
  min,
  max,
  List,
  [],
  ◌∷◌,
  length,
  codes,
  Option,
  Some,
  None,
  Bool,
  true,
  false,
  nat_lt,
  ◌&&◌,
  ◌==◌,
  if◌then◌else◌,
}
use Rattle.std.specs.List.{count_by}
use Rattle.sr_capture.specs.declared.packet.Extent.{Extent}
use Rattle.sr_capture.specs.declared.packet.Extent.TheVariants.{Whole, Cut}
use Rattle.sr_capture.specs.Limits.{longest_kept}
use Rattle.sr_capture.specs.Records.{Captured}
use Rattle.sr_capture_script.specs.declared.flaws.Flaw.{Flaw}
use Rattle.sr_capture_script.specs.declared.flaws.Flaw.TheVariants as flaw
use Rattle.sr_capture_script.specs.declared.flaws.FlawCounts.{FlawCounts}

-- the words for reasons
abbrev pub name_of : Flaw → List ℕ
name_of flaw.Cut = codes "cut"
name_of flaw.Long = codes "long"
name_of flaw.Empty = codes "empty"

-- why a packet of this extent and length is not used
abbrev pub flaw_by : Extent → ℕ → Option Flaw
flaw_by Cut len = Some flaw.Cut
flaw_by Whole len = if nat_lt longest_kept len then Some flaw.Long else if len == 0 then Some flaw.Empty else None

-- why a packet is not used
abbrev pub flaw_of : Captured → Option Flaw
flaw_of packet = flaw_by packet.extent (length packet.octets)

-- whether the reason is this one
abbrev pub is_flaw : Flaw → Option Flaw → Bool
is_flaw flaw.Cut (Some flaw.Cut) = true
is_flaw flaw.Long (Some flaw.Long) = true
is_flaw flaw.Empty (Some flaw.Empty) = true
is_flaw why other = false

-- how many packets are not used for this reason, up to 18446744073709551615
abbrev pub tally : Flaw → List Captured → ℕ
tally why packets = min (count_by (λ packet. is_flaw why (flaw_of packet)) packets) (2 ^ 64 - 1)

-- the latest time of packets behind a time
abbrev pub latest_time : ℕ → List Captured → ℕ
latest_time last [] = last
latest_time last (packet ∷ packets) = latest_time (max last packet.time) packets

-- whether the time of a packet goes back behind the latest moment, where its own moment is that; a packet without a time has 0
abbrev pub goes_back : ℕ → ℕ → ℕ → Bool
goes_back time moment latest = nat_lt 0 time && nat_lt moment latest

-- how many packets behind a time have one before it, or before that of a packet ahead of them
abbrev pub backs : ℕ → List Captured → ℕ
backs last [] = 0
backs last (packet ∷ packets) = (if goes_back packet.time packet.time last then 1 else 0) + backs (max last packet.time) packets

-- what is counted of the packets of a file
abbrev pub tallied : List Captured → FlawCounts
tallied packets = record {
  cut = tally flaw.Cut packets;
  long = tally flaw.Long packets;
  empty = tally flaw.Empty packets;
  back = min (backs 0 packets) (2 ^ 64 - 1);
}

-- one more whose time goes back, if it does
abbrev pub with_back : Bool → FlawCounts → FlawCounts
with_back true counts = record counts { back = min (counts.back + 1) (2 ^ 64 - 1) }
with_back false counts = counts

-- one packet more
abbrev pub counted : FlawCounts → Option Flaw → FlawCounts
counted counts None = counts
counted counts (Some flaw.Cut) = record counts { cut = min (counts.cut + 1) (2 ^ 64 - 1) }
counted counts (Some flaw.Long) = record counts { long = min (counts.long + 1) (2 ^ 64 - 1) }
counted counts (Some flaw.Empty) = record counts { empty = min (counts.empty + 1) (2 ^ 64 - 1) }
