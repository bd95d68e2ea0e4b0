-- What a section describes: interfaces, one of which is wanted.
use Rattle.std.specs.Prelude.{
  ◌≡◌,
  ◌≢◌,
  ℕ,
  ◌+◌,
  ◌-◌,
  ◌^◌,
  ◌<◌,
  ◌≤◌,
  ◌==◌,
  min,
  pos,
  List,
  length,
  Option,
  Some,
  None,
  Bool,
  true,
  false,
}
use Rattle.std.specs.List.{between}
use Rattle.sr_capture.specs.declared.fault.Reason.{Reason}
use Rattle.sr_capture.specs.declared.fault.Reason.TheVariants as reason
use Rattle.sr_capture.specs.Numbers.{half_at, word_at}
use Rattle.sr_pcapng.specs.declared.track.Interface.{Interface}
use Rattle.sr_pcapng.specs.declared.track.Section.{Section}
use Rattle.sr_pcapng.specs.declared.track.Wanted.{Wanted}
use Rattle.sr_pcapng.specs.declared.track.Wanted.TheVariants.{Only, Number}
use Rattle.sr_pcapng.specs.Listing.{with_listed}
use Rattle.sr_pcapng.specs.Options.{Reads}

-- whether the interface of this number and this link type is the one that is wanted; link type 1 is Ethernet
abbrev pub is_wanted : Wanted → ℕ → ℕ → Bool
is_wanted Only count link = link == 1
is_wanted (Number number) count link = number == count

-- there is no other one that could be meant
abbrev pub IsFree : Wanted → Option Interface → Type 0
IsFree Only None = Unit {0}
IsFree Only (Some other) = ⊥
IsFree (Number number) taken = Unit {0}

-- an interface whose description has no options: times are in microseconds, and the check sequence is as long as it is said for all
abbrev pub plain : ℕ → Section → List ℕ → Interface
plain check section octets = record {
  number = section.count;
  snap = word_at section.order octets 12;
  check_len = check;
  resolution = 6;
  offset = pos 0;
}

-- the octets describe an interface: link type, two octets of no meaning, snap length, options
abbrev pub IsInterface : ℕ → Section → List ℕ → Interface → Type 0
IsInterface check section octets interface = (options : List (List ℕ))
    × Reads section.order (between 16 (length octets - 4) octets) (plain check section octets) options interface

-- the section with one interface more; they are counted up to 4294967295
abbrev pub counted : Section → Option Interface → Section
counted section taken = record { order = section.order; count = min (section.count + 1) (2 ^ 32 - 1); taken = taken }

-- what is known of a section behind a description, of an interface that is wanted or is not
abbrev pub DescribesBy : Bool → Wanted → ℕ → Section → List ℕ → Section → Type 0
DescribesBy true wanted check section octets next = (half_at section.order octets 8 ≡ 1) × IsFree wanted section.taken
    × ((interface : Interface) × IsInterface check section octets interface × (next ≡ counted section (Some interface)))
DescribesBy false wanted check section octets next = next ≡ counted section section.taken

abbrev pub Describes : Wanted → ℕ → Section → List ℕ → Section → Type 0
Describes wanted check section octets next = (20 ≤ length octets)
    × DescribesBy (is_wanted wanted section.count (half_at section.order octets 8)) wanted check section octets next

-- an interface that is wanted
abbrev pub IsMeant : Wanted → Section → List ℕ → Type 0
IsMeant wanted section octets = (20 ≤ length octets) × (is_wanted wanted section.count (half_at section.order octets 8) ≡ true)

-- why a description is refused: it is too short, it is not Ethernet, it is the second that is, or its options are none
abbrev pub IsWrongInterface : Wanted → ℕ → Section → List ℕ → Reason → Type 0
IsWrongInterface wanted check section octets reason.Length = length octets < 20
IsWrongInterface wanted check section octets (reason.Link link) = IsMeant wanted section octets
    × (link ≡ half_at section.order octets 8) × (link ≢ 1)
IsWrongInterface wanted check section octets (reason.Several two) = IsMeant wanted section octets × (wanted ≡ Only)
    × ((other : Interface) × (section.taken ≡ Some other) × (two.0 ≡ with_listed (with_listed 0 other.number) section.count))
IsWrongInterface wanted check section octets reason.Options = IsMeant wanted section octets
    × (half_at section.order octets 8 ≡ 1) × IsFree wanted section.taken
    × ((interface : Interface) → IsInterface check section octets interface → ⊥)
IsWrongInterface wanted check section octets other = ⊥
