-- What is read of a frame behind the node that put it out: in a ring, in a LAN, and behind a RedBox between them.
use Rattle.std.specs.Prelude.{◌≡◌, ℕ, ◌≤◌, List, length, Some}
use Rattle.sr_frame.specs.Frame.{least_len, padded}
use Rattle.sr_sequence.specs.declared.Seq.{Seq}
use Rattle.sr_prp_trailer.specs.declared.trailer.Lan.{Lan}
use Rattle.sr_forwarding.specs.Parcels.{ParcelImage, plain_of, plain_parcel}
use Rattle.sr_forwarding.specs.Framings.{FramingImage, Tagged, Trailed, path_of}
use Rattle.sr_forwarding.specs.Decoding.{IsRead}
use Rattle.sr_forwarding.specs.Encoding.{IsWritten}

-- the parcel is this plain frame, with this number and path
pub record IsFrameWith (plain : List ℕ) (seq : Seq) (path : ℕ) (q : ParcelImage) : Type 0 where
  pub plain_is : plain_of q ≡ plain
  pub seq_is : q.seq ≡ Some seq
  pub path_is : q.path ≡ path

-- whatever octets a parcel is written as at an outlet, they are read so at a port
abbrev pub IsReadThere : FramingImage → FramingImage → ParcelImage → List ℕ → Seq → ℕ → Type 0
IsReadThere out into p plain seq path =
    (octets : List ℕ) (q : ParcelImage) → IsWritten out p.form p octets → IsRead into octets q → IsFrameWith plain seq path q

-- what a node numbered, in a ring: its path is that of the outlet
abbrev pub NewInRing : Type 0
NewInRing =
    (out into : ℕ) (frame : List ℕ) (seq : Seq) →
    IsReadThere (Tagged out) (Tagged into) (plain_parcel frame (Some seq)) (padded frame) seq out

-- what a node numbered, in a LAN: its path is that of the port
abbrev pub NewInLan : Type 0
NewInLan =
    (lan at : Lan) (net to : ℕ) (frame : List ℕ) (seq : Seq) →
    IsReadThere (Trailed lan net) (Trailed at to) (plain_parcel frame (Some seq)) (padded frame) seq (path_of at to)

-- what came in with a tag and goes out with a tag
abbrev pub StaysTagged : Type 0
StaysTagged =
    (path out into : ℕ) (octets : List ℕ) (p : ParcelImage) (seq : Seq) → IsRead (Tagged path) octets p → p.seq ≡ Some seq →
    IsReadThere (Tagged out) (Tagged into) p (plain_of p) seq p.path

-- from a LAN into the ring: the path is that of the LAN, and so names the network
abbrev pub LanToRing : Type 0
LanToRing =
    (lan : Lan) (net out into : ℕ) (octets : List ℕ) (p : ParcelImage) (seq : Seq) → IsRead (Trailed lan net) octets p →
    p.seq ≡ Some seq → IsReadThere (Tagged out) (Tagged into) p (padded (plain_of p)) seq (path_of lan net)

-- from the ring into a LAN
abbrev pub RingToLan : Type 0
RingToLan =
    (lan at : Lan) (net to path : ℕ) (octets : List ℕ) (p : ParcelImage) (seq : Seq) → IsRead (Tagged path) octets p →
    p.seq ≡ Some seq → IsReadThere (Trailed lan net) (Trailed at to) p (padded (plain_of p)) seq (path_of at to)

-- what is padded stays where it is padded again
abbrev pub PaddedOnce : Type 0
PaddedOnce = (frame : List ℕ) → least_len frame ≤ length frame → padded (padded frame) ≡ padded frame
