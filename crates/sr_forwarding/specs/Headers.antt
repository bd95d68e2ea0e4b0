-- What routes read of a parcel.
use Rattle.std.specs.Prelude.{ℕ, List, Option, false}
use Rattle.sr_sequence.specs.declared.Seq.{Seq}
use Rattle.sr_forwarding.specs.declared.header.Header.{Header}
use Rattle.sr_forwarding.specs.Octets.{dst_in, src_in, is_supervision}
use Rattle.sr_forwarding.specs.Parcels.{ParcelImage, plain_of}

-- the fields of a plain form, a number and a path; whether the destination is known is for the node to say
abbrev pub header_in : List ℕ → Option Seq → ℕ → Header
header_in plain seq path = record {
  dst = dst_in plain;
  src = src_in plain;
  seq = seq;
  path = path;
  supervision = is_supervision plain;
  dst_known = false;
}

abbrev pub header_of : ParcelImage → Header
header_of p = header_in (plain_of p) p.seq p.path
