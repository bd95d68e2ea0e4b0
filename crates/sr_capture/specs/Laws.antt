-- What the octets of a file determine.
use Rattle.std.specs.Prelude.{◌≡◌, ℕ, List, ◌++◌}
use Rattle.sr_capture.specs.declared.header.Form.{Form}
use Rattle.sr_capture.specs.Headers.{IsHeader}
use Rattle.sr_capture.specs.Records.{Captured, AreRecords, IsCapture, EndsEarly}

-- octets are the records of one list of packets
abbrev pub RecordsAreUnique : Type 0
RecordsAreUnique = (form : Form) (octets : List ℕ) (xs ys : List Captured) → AreRecords form octets xs → AreRecords form octets ys → xs ≡ ys

-- a file has one list of packets
abbrev pub PacketsAreUnique : Type 0
PacketsAreUnique = (octets : List ℕ) (xs ys : List Captured) → IsCapture octets xs → IsCapture octets ys → xs ≡ ys

-- whole records, and then the beginning of one
pub record BreaksOff (octets : List ℕ) : Type 0 where
  pub form : Form
  pub front : List ℕ
  pub body : List ℕ
  pub rest : List ℕ
  pub packets : List Captured
  pub spelled : octets ≡ front ++ (body ++ rest)
  pub header : IsHeader front form
  pub records : AreRecords form body packets
  pub early : EndsEarly form rest

-- a file that ends within a packet is no capture
abbrev pub BrokenFilesAreNone : Type 0
BrokenFilesAreNone = (octets : List ℕ) (packets : List Captured) → BreaksOff octets → IsCapture octets packets → ⊥
