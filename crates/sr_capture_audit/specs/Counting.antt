-- How many packets of each kind captures have.
use Rattle.std.specs.Prelude.{◌≡◌, ℕ, ◌+◌, ◌-◌, ◌^◌, min, Bool, true, false, ◌&&◌, List, [], ◌∷◌, ◌++◌, filter, Option, None, Some}
use Rattle.std.specs.List.{count_by}
use Rattle.sr_audit.specs.declared.side.Side.{Side}
use Rattle.sr_audit.specs.declared.side.Side.TheVariants.{A, B}
use Rattle.sr_capture.specs.Records.{Captured}
use Rattle.sr_capture_audit.specs.declared.counts.SideCounts.{SideCounts}
use Rattle.sr_capture_audit.specs.declared.counts.Counts.{Counts}
use Rattle.sr_capture_audit.specs.declared.kind.Kind.{Kind}
use Rattle.sr_capture_audit.specs.declared.kind.Kind.TheVariants.{Numbered, Plain, Misfit, Cut, Long, Empty}
use Rattle.sr_capture_audit.specs.declared.network.Tap.{Tap}
use Rattle.sr_capture_audit.specs.declared.network.Tap.TheVariants as tap
use Rattle.sr_capture_audit.specs.Kinds.{is_checked, is_tagged}

-- a packet as it came in: where its capture was made, when, in nanoseconds, and what it is
pub record Seen : Type 0 where
  pub tap : Tap
  pub time : ℕ
  pub packet : Captured
  pub kind : Kind

abbrev pub has_number : Kind → Bool
has_number (Numbered n) = true
has_number other = false

abbrev pub names_other_lan : Kind → Bool
names_other_lan (Numbered n) = n.is_astray
names_other_lan other = false

abbrev pub is_plain_packet : Kind → Bool
is_plain_packet Plain = true
is_plain_packet other = false

abbrev pub is_misfit_packet : Kind → Bool
is_misfit_packet Misfit = true
is_misfit_packet other = false

abbrev pub is_cut_packet : Kind → Bool
is_cut_packet Cut = true
is_cut_packet other = false

abbrev pub is_long_packet : Kind → Bool
is_long_packet Long = true
is_long_packet other = false

abbrev pub is_empty_packet : Kind → Bool
is_empty_packet Empty = true
is_empty_packet other = false

-- how many packets have a property, up to 18446744073709551615
abbrev pub number_with : (Seen → Bool) → List Seen → ℕ
number_with property xs = min (count_by property xs) (2 ^ 64 - 1)

-- the figures of the packets of a side
abbrev pub side_figures : List Seen → SideCounts
side_figures xs = record {
  packets = number_with (λ x. true) xs;
  numbered = number_with (λ x. has_number x.kind) xs;
  plain = number_with (λ x. is_plain_packet x.kind) xs;
  misfit = number_with (λ x. is_misfit_packet x.kind) xs;
  wrong_lan = number_with (λ x. names_other_lan x.kind) xs;
  cut = number_with (λ x. is_cut_packet x.kind) xs;
  long = number_with (λ x. is_long_packet x.kind) xs;
  empty = number_with (λ x. is_empty_packet x.kind) xs;
  checked = number_with (λ x. is_plain_packet x.kind && is_checked x.packet.octets) xs;
  tagged = number_with (λ x. is_plain_packet x.kind && is_tagged x.packet.octets) xs;
}

-- the side of a packet: that of its capture; at a mirror port the one that its number came by, and none where it has no number
abbrev pub seen_side : Tap → Kind → Option Side
seen_side own (Numbered n) = Some n.side
seen_side (tap.Side side) other = Some side
seen_side tap.Mirror other = None

abbrev pub is_of_side : Option Side → Option Side → Bool
is_of_side None None = true
is_of_side (Some A) (Some A) = true
is_of_side (Some B) (Some B) = true
is_of_side side other = false

-- the packets of a side, or of none
abbrev pub seen_at : Option Side → List Seen → List Seen
seen_at side xs = filter (λ x. is_of_side side (seen_side x.tap x.kind)) xs

-- the figures of packets
abbrev pub all_figures : List Seen → Counts
all_figures xs = record {
  a = side_figures (seen_at (Some A) xs);
  b = side_figures (seen_at (Some B) xs);
  neither = side_figures (seen_at None xs);
}

-- a figure with one packet more, if that has the property
abbrev pub with_one : Bool → ℕ → ℕ
with_one true count = min (count + 1) (2 ^ 64 - 1)
with_one false count = count

-- the figures of a side with one packet more, of this kind and with these octets
abbrev pub with_kind : Kind → List ℕ → SideCounts → SideCounts
with_kind kind octets c = record {
  packets = with_one true c.packets;
  numbered = with_one (has_number kind) c.numbered;
  plain = with_one (is_plain_packet kind) c.plain;
  misfit = with_one (is_misfit_packet kind) c.misfit;
  wrong_lan = with_one (names_other_lan kind) c.wrong_lan;
  cut = with_one (is_cut_packet kind) c.cut;
  long = with_one (is_long_packet kind) c.long;
  empty = with_one (is_empty_packet kind) c.empty;
  checked = with_one (is_plain_packet kind && is_checked octets) c.checked;
  tagged = with_one (is_plain_packet kind && is_tagged octets) c.tagged;
}

-- the packet came in here and is of this kind; of a frame without number these are the octets
pub record IsSeenAs (tap : Tap) (kind : Kind) (octets : List ℕ) (x : Seen) : Type 0 where
  pub at : x.tap ≡ tap
  pub is : x.kind ≡ kind
  pub octets_are : kind ≡ Plain → x.packet.octets ≡ octets

-- the figures have one packet more
abbrev pub CountsOne : Tap → Kind → List ℕ → Counts → Counts → Type 0
CountsOne tap kind octets old new = (xs : List Seen) (x : Seen) → IsSeenAs tap kind octets x → old ≡ all_figures xs →
    new ≡ all_figures (xs ++ x ∷ [])

-- a packet at a mirror port, where no LAN is the other one
abbrev pub IsMirrored : Seen → Type 0
IsMirrored x = (x.tap ≡ tap.Mirror) × (names_other_lan x.kind ≡ false)
