-- What stands before the packets of a file, which tells its kind.
use Rattle.std.specs.Prelude.{◌≡◌, ℕ, ◌<◌, slice_index, ◌==◌, if◌then◌else◌, List, [], length, Option, None, IfSome, ◌⊎◌}
use Rattle.sr_capture.specs.declared.fault.CaptureFault.{CaptureFault}
use Rattle.sr_capture.specs.declared.fault.Reason.TheVariants.{Read}
use Rattle.sr_capture.specs.declared.header.Form.{Form}
use Rattle.sr_capture.specs.Headers.{IsHeader, IsNoHeader}
use Rattle.sr_capture.specs.Taking.{Loses}
use Rattle.sr_pcapng.specs.declared.track.Track.{Track}
use Rattle.sr_capture_file.specs.declared.format.Format.{Format}
use Rattle.sr_capture_file.specs.declared.format.Format.TheVariants.{Pcap, Pcapng}
use Rattle.sr_capture_file.specs.declared.front.Reading.{Reading}
use Rattle.sr_capture_file.specs.Formats.{front_len}

-- the form that a header tells, with a check sequence of this length where it tells none
abbrev pub given : ℕ → Form → Form
given check form = record form { check_len = if form.check_len == 0 then check else form.check_len }

-- the octets begin with the first octet of a pcapng file
abbrev pub BeginsPcapng : List ℕ → Type 0
BeginsPcapng octets = (0 < length octets) × (slice_index octets 0 ≡ 0x0A)

-- a pcapng file at its start
abbrev pub at_start : Reading → Track
at_start how = record { wanted = how.wanted; check_len = how.check_len; section = None; dropped = None }

-- what the front of a file tells: the header of a pcap file, or the first octet of a pcapng file, which belongs to its first block
abbrev pub HasFront : Reading → List ℕ → List ℕ → Format → Type 0
HasFront how octets front (Pcap form) = (own : Form) × IsHeader front own × (form ≡ given how.check_len own)
HasFront how octets front (Pcapng track) = (front ≡ []) × BeginsPcapng octets × (track ≡ at_start how)

-- the front of a file was taken
pub record TakesFront (how : Reading) (form : Format) (known start : Option (List ℕ)) : Type 0 where
  pub front : List ℕ
  pub lost : Loses front known start
  pub size : length front ≡ front_len form
  pub header : IfSome known (λ octets. HasFront how octets front form)

-- what does not begin as a pcapng file has no header
abbrev pub HasNoFront : CaptureFault → Option (List ℕ) → Option (List ℕ) → Type 0
HasNoFront fault old new = IsNoHeader fault old new × IfSome old (λ octets. (BeginsPcapng octets → ⊥) ⊎ (fault.reason ≡ Read))
