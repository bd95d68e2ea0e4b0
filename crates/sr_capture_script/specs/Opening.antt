-- Files from their first octet on, and their script.
use Rattle.std.specs.Prelude.{◌≡◌, ℕ, ◌+◌, List, [], ◌++◌, length, Option, Some, None, is_some}
use Rattle.std.specs.Prelude.{IfSome, ◌⊎◌}
use Rattle.sr_capture.specs.declared.fault.CaptureFault.{CaptureFault}
use Rattle.sr_capture_file.specs.declared.format.Format.{Format}
use Rattle.sr_capture_file.specs.declared.front.Reading.{Reading}
use Rattle.sr_capture_script.specs.declared.choice.Options.{Options}
use Rattle.sr_capture.specs.Records.{Captured}
use Rattle.sr_capture_file.specs.Fronts.{HasFront, TakesFront, HasNoFront}
use Rattle.sr_capture_file.specs.Formats.{AreTaken}
use Rattle.sr_capture_script.specs.declared.choice.Inlet.{Inlet}
use Rattle.sr_capture_script.specs.declared.choice.Choice.{Choice}
use Rattle.sr_capture_script.specs.declared.choice.Inlet.TheVariants.{A, B, C}
use Rattle.sr_capture_script.specs.declared.fault.ScriptFault.{ScriptFault}
use Rattle.sr_capture_script.specs.declared.fault.ScriptFault.TheVariants.{File}
use Rattle.sr_capture_script.specs.declared.source.Source.{Source}
use Rattle.sr_capture_script.specs.Items.{Item, items_of, came_at, IsInOrder, IsMerge}
use Rattle.sr_capture_script.specs.Merging.{fault_at, IsNext, counts_of, end_of}
use Rattle.sr_capture_script.specs.Sources.{IsStuck}
use Rattle.sr_capture_script.specs.SourceViews.{IsFed}
use Rattle.sr_capture_script.specs.Texts.{lines_of, last_line}

-- how the file of an inlet is read
abbrev pub reading_of : Options → Inlet → Reading
reading_of options A = record { wanted = options.interfaces.a; check_len = options.check_len }
reading_of options B = record { wanted = options.interfaces.b; check_len = options.check_len }
reading_of options C = record { wanted = options.interfaces.c; check_len = options.check_len }

-- the octets are a capture that begins with these packets: a front, what has the packets, and the rest
pub record BeginsWith (how : Reading) (octets : List ℕ) (packets : List Captured) (state : Format) (place : ℕ) (rest : List ℕ) : Type 0
  where
    pub form : Format
    pub front : List ℕ
    pub body : List ℕ
    pub spelled : octets ≡ front ++ (body ++ rest)
    pub header : HasFront how octets front form
    pub records : AreTaken form body packets state
    pub place_is : place ≡ length front + length body

-- the octets are a capture with these packets
abbrev pub IsFile : Reading → List ℕ → List Captured → Type 0
IsFile how octets packets = (state : Format) × BeginsWith how octets packets state (length octets) []

-- the packets of a file, where its octets are known; without a file there is none
abbrev pub FileHas : {R : Type 0} → (R → Option (List ℕ)) → Reading → Option R → List Captured → Type 0
FileHas remaining how None packets = packets ≡ []
FileHas remaining how (Some reader) packets = IfSome (remaining reader) (λ octets. IsFile how octets packets)

-- the front is behind, where there is a file
abbrev pub HasBegun : {R : Type 0} → (R → Option (List ℕ)) → Reading → Format → Option R → Option (List ℕ) → Type 0
HasBegun remaining how form None start = start ≡ Some []
HasBegun remaining how form (Some reader) start = TakesFront how form (remaining reader) start

-- a file that is open, its times put off by a delay, its first packet due
pub record IsOpened {R : Type 0} (remaining : R → Option (List ℕ)) (inlet : Inlet) (how : Reading) (delay : ℕ) (file : Option R)
    (s : Source R) : Type 0 where
  pub start : Option (List ℕ)
  pub begun : HasBegun remaining how s.form file start
  pub fed : IsFed remaining inlet start s []
  pub there : is_some s.reader ≡ is_some file
  pub put_off : s.delay ≡ delay

-- behind these packets the octets have this fault
pub record HasFault (how : Reading) (octets : List ℕ) (packets : List Captured) (fault : CaptureFault) : Type 0 where
  pub state : Format
  pub place : ℕ
  pub rest : List ℕ
  pub left : Option (List ℕ)
  pub begins : BeginsWith how octets packets state place rest
  pub stuck : IsStuck state place fault (Some rest) left

-- the octets have this fault before the first packet: they have no front, or no packet behind it
abbrev pub HasFaultAtFront : Reading → List ℕ → CaptureFault → Type 0
HasFaultAtFront how octets fault = ((left : Option (List ℕ)) × HasNoFront fault (Some octets) left) ⊎ HasFault how octets [] fault

-- the fault is of the file of this inlet, before its first packet
abbrev pub FailsAtFront : {R : Type 0} → (R → Option (List ℕ)) → Inlet → Reading → Option R → ScriptFault → Type 0
FailsAtFront {R = R} remaining inlet how file fault = (own : CaptureFault) × (reader : R) × (fault ≡ File inlet own)
    × (file ≡ Some reader)
    × IfSome (remaining reader) (λ octets. HasFaultAtFront how octets own)

-- the text is the script of up to three files, each file's times put off by a delay
pub record IsScript {R : Type 0} (remaining : R → Option (List ℕ)) (choice : Choice) (hows : Inlet → Reading)
    (file_a file_b file_c : Option R)
    (delay_a delay_b delay_c : ℕ) (text : List ℕ) : Type 0 where
  pub packets_a : List Captured
  pub packets_b : List Captured
  pub packets_c : List Captured
  pub has_a : FileHas remaining (hows A) file_a packets_a
  pub has_b : FileHas remaining (hows B) file_b packets_b
  pub has_c : FileHas remaining (hows C) file_c packets_c
  pub merged : List Item
  pub is_merge : IsMerge (items_of A delay_a packets_a) (items_of B delay_b packets_b) (items_of C delay_c packets_c) merged
  pub is : text ≡ lines_of choice merged ++ end_of choice (last_line choice merged)
      (counts_of (is_some file_a) A packets_a) (counts_of (is_some file_b) B packets_b) (counts_of (is_some file_c) C packets_c)

-- octets of which the packets are printed: all, or all up to one that comes next
abbrev pub HasComeIn : Inlet → Reading → ℕ → List ℕ → List Item → Type 0
HasComeIn inlet how delay octets printed = (packets : List Captured)
    × ((IsFile how octets packets × (came_at inlet printed ≡ items_of inlet delay packets))
    ⊎ ((state : Format) × (place : ℕ) × (rest : List ℕ) × BeginsWith how octets packets state place rest
    × IsNext inlet delay packets printed))

-- octets of which all packets are printed that come before a fault
abbrev pub HasFaultIn : Inlet → Reading → ℕ → CaptureFault → List ℕ → List Item → Type 0
HasFaultIn inlet how delay fault octets printed = (packets : List Captured) × (items_of inlet delay packets ≡ came_at inlet printed)
    × HasFault how octets packets fault

abbrev pub StandsIn : Option CaptureFault → Inlet → Reading → ℕ → List ℕ → List Item → Type 0
StandsIn None inlet how delay octets printed = HasComeIn inlet how delay octets printed
StandsIn (Some fault) inlet how delay octets printed = HasFaultIn inlet how delay fault octets printed

-- how far a file came, where its octets are known
abbrev pub FileStands : {R : Type 0} → (R → Option (List ℕ)) → Option CaptureFault → Inlet → Reading → ℕ → Option R → List Item → Type 0
FileStands remaining fault inlet how delay None printed = came_at inlet printed ≡ []
FileStands remaining fault inlet how delay (Some reader) printed = IfSome (remaining reader)
    (λ octets. StandsIn fault inlet how delay octets printed)

-- the text is the lines of the packets that come before a fault
pub record IsScriptTo {R : Type 0} (remaining : R → Option (List ℕ)) (choice : Choice) (hows : Inlet → Reading)
    (file_a file_b file_c : Option R)
    (delay_a delay_b delay_c : ℕ) (fault : ScriptFault) (text : List ℕ) : Type 0 where
  pub printed : List Item
  pub at_a : FileStands remaining (fault_at A fault) A (hows A) delay_a file_a printed
  pub at_b : FileStands remaining (fault_at B fault) B (hows B) delay_b file_b printed
  pub at_c : FileStands remaining (fault_at C fault) C (hows C) delay_c file_c printed
  pub order : IsInOrder printed
  pub is : text ≡ lines_of choice printed

-- a file fails before its first packet, and nothing is printed
abbrev pub FailsToOpen : {R : Type 0} → (R → Option (List ℕ)) → (Inlet → Reading) → Option R → Option R → Option R → ScriptFault → Type 0
FailsToOpen remaining hows file_a file_b file_c fault =
    FailsAtFront remaining A (hows A) file_a fault
    ⊎ (FailsAtFront remaining B (hows B) file_b fault ⊎ FailsAtFront remaining C (hows C) file_c fault)

-- what is printed where there is a fault
abbrev pub IsScriptUpTo : {R : Type 0} → (R → Option (List ℕ)) → Choice → (Inlet → Reading) → Option R → Option R → Option R → ℕ → ℕ → ℕ →
    ScriptFault →
    List ℕ → Type 0
IsScriptUpTo remaining choice hows file_a file_b file_c delay_a delay_b delay_c fault text =
    ((text ≡ []) × FailsToOpen remaining hows file_a file_b file_c fault)
    ⊎ IsScriptTo remaining choice hows file_a file_b file_c delay_a delay_b delay_c fault text
