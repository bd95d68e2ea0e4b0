-- A block of a pcapng file: its type, its length, a body, and its length once more.
use Rattle.std.specs.Prelude.{◌≡◌, ◌≢◌, ℕ, ◌-◌, ◌%◌, ◌^◌, ◌<◌, ◌≤◌, ◌⊎◌, ◌==◌, if◌then◌else◌}
use Rattle.std.specs.Prelude.{List, length, take, Option, Some, IfSome}
use Rattle.sr_capture.specs.declared.numbers.ByteOrder.{ByteOrder}
use Rattle.sr_capture.specs.declared.numbers.ByteOrder.TheVariants.{Little, Big}
use Rattle.sr_capture.specs.declared.fault.Reason.{Reason}
use Rattle.sr_capture.specs.declared.fault.Reason.TheVariants as reason
use Rattle.sr_capture.specs.declared.fault.CaptureFault.{CaptureFault}
use Rattle.sr_capture.specs.Headers.{IsLack}
use Rattle.sr_capture.specs.Numbers.{word_at}
use Rattle.sr_capture.specs.Taking.{Loses}
use Rattle.sr_pcapng.specs.declared.block.Kind.{Kind}
use Rattle.sr_pcapng.specs.declared.block.Kind.TheVariants as kind

-- the octets begin with the type of a section header, which reads alike in both orders
abbrev pub BeginsSection : List ℕ → Type 0
BeginsSection octets = word_at Big octets 0 ≡ 0x0A0D0D0A

-- the kinds of the other types
abbrev pub numbered : ℕ → Kind
numbered type = if type == 1 then kind.Interface
    else if type == 6 then kind.Enhanced
    else if type == 2 then kind.Obsolete
    else if type == 3 then kind.Simple
    else if type == 5 then kind.Statistics
    else kind.Other

-- what kind of block begins so
abbrev pub kind_of : ByteOrder → List ℕ → Kind
kind_of order octets = if word_at Big octets 0 == 0x0A0D0D0A then kind.Section else numbered (word_at order octets 0)

-- what stands behind the length of a section header of this order, read with the greatest octet first
abbrev pub magic_of : ByteOrder → ℕ
magic_of Big = 0x1A2B3C4D
magic_of Little = 0x4D3C2B1A

-- the order of octets of a block that begins so: a section header tells it, another block has that of its section
abbrev pub HasOrder : Option ByteOrder → List ℕ → ByteOrder → Type 0
HasOrder own octets order = (BeginsSection octets × (word_at Big octets 8 ≡ magic_of order))
    ⊎ ((BeginsSection octets → ⊥) × (own ≡ Some order))

-- the length is that of a block, and not over 16 MiB
pub record IsSize (order : ByteOrder) (octets : List ℕ) (size : ℕ) : Type 0 where
  pub told : size ≡ word_at order octets 4
  pub least : 12 ≤ size
  pub even : size % 4 ≡ 0
  pub most : size ≤ 2 ^ 24

-- why a length is that of no block
abbrev pub IsWrongSize : ByteOrder → List ℕ → Reason → Type 0
IsWrongSize order octets reason.Length = (word_at order octets 4 < 12) ⊎ (word_at order octets 4 % 4 ≢ 0)
IsWrongSize order octets reason.Long = (2 ^ 24 < word_at order octets 4) × (word_at order octets 4 % 4 ≡ 0)
IsWrongSize order octets other = ⊥

-- the octets begin a block of this order and length
pub record BeginsBlock (own : Option ByteOrder) (octets : List ℕ) (order : ByteOrder) (size : ℕ) : Type 0 where
  pub front : 12 ≤ length octets
  pub in_order : HasOrder own octets order
  pub long : IsSize order octets size

-- the octets are a block of this order
pub record IsBlock (own : Option ByteOrder) (octets : List ℕ) (order : ByteOrder) : Type 0 where
  pub begins : BeginsBlock own octets order (length octets)
  pub ends : word_at order octets (length octets - 4) ≡ length octets

-- this block of a packet is whole at the front of octets, in a section of this order
pub record IsAtHand (order : ByteOrder) (octets block : List ℕ) : Type 0 where
  pub front : block ≡ take (length block) octets
  pub whole : length block ≤ length octets
  pub is : IsBlock (Some order) block order
  pub packet : kind_of order block ≡ kind.Enhanced

-- why octets begin no block
abbrev pub BeginsNone : Option ByteOrder → List ℕ → Reason → Type 0
BeginsNone own octets reason.Unknown = (12 ≤ length octets) × ((order : ByteOrder) → HasOrder own octets order → ⊥)
BeginsNone own octets why = (12 ≤ length octets) × ((order : ByteOrder) × HasOrder own octets order × IsWrongSize order octets why)

-- the octets are the beginning of a block: less than its front, or the front and less than the block
abbrev pub IsPart : Option ByteOrder → List ℕ → Type 0
IsPart own octets = (length octets < 12)
    ⊎ ((order : ByteOrder) × (size : ℕ) × BeginsBlock own octets order size × (length octets < size))

-- a block whose two lengths differ
abbrev pub EndsOtherwise : Option ByteOrder → List ℕ → Type 0
EndsOtherwise own octets = (order : ByteOrder) × BeginsBlock own octets order (length octets)
    × (word_at order octets (length octets - 4) ≢ length octets)

-- a lack behind the beginning of a block
abbrev pub LacksBlock : Option ByteOrder → CaptureFault → Option (List ℕ) → Option (List ℕ) → Type 0
LacksBlock own fault old new = IsLack fault.reason
    × ((octets : List ℕ) × (length octets ≡ fault.at) × Loses octets old new × IsPart own octets)

-- the octets end within a block
abbrev pub EndsEarly : Option ByteOrder → List ℕ → Type 0
EndsEarly own octets = (0 < length octets) × IsPart own octets

-- what there is is no block
abbrev pub IsNone : Option ByteOrder → Reason → Option (List ℕ) → Option (List ℕ) → Type 0
IsNone own why old new = ((why ≡ reason.Unfinished) × IfSome old (EndsEarly own))
    ⊎ ((octets : List ℕ) × Loses octets old new × (BeginsNone own octets why ⊎ ((why ≡ reason.Length) × EndsOtherwise own octets)))

-- why there is no next block: a lack, or what there is is none, at its first octet
abbrev pub IsNoBlock : Option ByteOrder → CaptureFault → Option (List ℕ) → Option (List ℕ) → Type 0
IsNoBlock own fault old new = LacksBlock own fault old new ⊎ ((fault.at ≡ 0) × IsNone own fault.reason old new)
