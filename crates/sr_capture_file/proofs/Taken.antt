-- One packet is packets.
use Rattle.std.proofs.Common.{ℕ, List, [], ◌∷◌, sym, refl}
use Rattle.std.proofs.lemmas.List.{append-nil}
use Rattle.sr_capture.specs.declared.header.Form.{Form}
use Rattle.sr_capture.specs.Records.{Captured, IsRecord, AreRecords}

-- one record is records
pub one_record : (form : Form) (octets : List ℕ) (packet : Captured) → IsRecord form octets packet → AreRecords form octets (packet ∷ [])
one_record form octets packet is = (octets, [], sym (append-nil octets), is, refl)
