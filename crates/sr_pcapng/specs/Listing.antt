-- The interfaces of a section that are Ethernet, where there is more than one and none was named.
use Rattle.std.specs.Prelude.{◌≡◌, ◌≢◌, ℕ, ◌+◌, ◌-◌, ◌^◌, ◌⊎◌, ◌==◌, min, bit_or, nat_lt, if◌then◌else◌}
use Rattle.std.specs.Prelude.{List, [], ◌∷◌, length, Option, Some, None}
use Rattle.sr_capture.specs.declared.fault.CaptureFault.{CaptureFault}
use Rattle.sr_capture.specs.declared.fault.Reason.{Reason}
use Rattle.sr_capture.specs.declared.fault.Reason.TheVariants as reason
use Rattle.sr_capture.specs.declared.numbers.ByteOrder.{ByteOrder}
use Rattle.sr_capture.specs.Numbers.{half_at}
use Rattle.sr_capture.specs.Records.{WasAtEnd}
use Rattle.sr_capture.specs.Taking.{Loses}
use Rattle.sr_pcapng.specs.declared.block.Kind.{Kind}
use Rattle.sr_pcapng.specs.declared.block.Kind.TheVariants as kind
use Rattle.sr_pcapng.specs.declared.listing.Listing.{Listing}
use Rattle.sr_pcapng.specs.declared.track.Section.{Section}
use Rattle.sr_pcapng.specs.Blocks.{kind_of, IsBlock, IsNoBlock}

-- a list with one number more: bit N stands for number N, and bit 63 for 63 and any above
abbrev pub with_listed : ℕ → ℕ → ℕ
with_listed listed number = bit_or listed (2 ^ min number 63)

-- a list behind the description of an interface, which is on it where it is Ethernet
abbrev pub after_description : ByteOrder → List ℕ → Listing → Listing
after_description order octets listing = record {
  listed = if half_at order octets 8 == 1 then with_listed listing.listed listing.count else listing.listed;
  count = min (listing.count + 1) (2 ^ 32 - 1);
}

-- a list behind a block of this kind, if that is still of the section, and no description that is too short
abbrev pub listed_by : Kind → ByteOrder → List ℕ → Listing → Option Listing
listed_by kind.Section order octets listing = None
listed_by kind.Interface order octets listing = if nat_lt (length octets) 20 then None else Some (after_description order octets listing)
listed_by rest order octets listing = Some listing

-- the octets are these blocks of a section, and from one list they lead to another
abbrev pub Follow : List (List ℕ) → ByteOrder → Listing → Listing → Option (List ℕ) → Option (List ℕ) → Type 0
Follow [] order listing last old new = (last ≡ listing) × (new ≡ old)
Follow (block ∷ blocks) order listing last old new = (left : Option (List ℕ)) × (own : ByteOrder) × (next : Listing)
    × Loses block old left × IsBlock (Some order) block own × (listed_by (kind_of own block) own block listing ≡ Some next)
    × Follow blocks order next last left new

-- the section can be read no further: nothing is left, there is no block, not for want of memory, or one that adds nothing to the list
abbrev pub EndsList : ByteOrder → Listing → Option (List ℕ) → Option (List ℕ) → Type 0
EndsList order listing old new = WasAtEnd old new
    ⊎ (((fault : CaptureFault) × IsNoBlock (Some order) fault old new × (fault.reason ≢ reason.NoMemory))
    ⊎ ((block : List ℕ) × (own : ByteOrder) × Loses block old new × IsBlock (Some order) block own
    × (listed_by (kind_of own block) own block listing ≡ None)))

-- the list of all that a section describes, as far as it can be read, or of its next 2^64 - 1 blocks
abbrev pub Lists : ByteOrder → Listing → ℕ → Option (List ℕ) → Option (List ℕ) → Type 0
Lists order listing listed old new = (blocks : List (List ℕ)) × (last : Listing) × (left : Option (List ℕ))
    × Follow blocks order listing last old left × (listed ≡ last.listed)
    × (EndsList order last left new ⊎ ((new ≡ left) × (length blocks ≡ 2 ^ 64 - 1)))

-- behind blocks of a section memory was refused for the next one
abbrev pub LacksMemory : ByteOrder → Listing → Option (List ℕ) → Option (List ℕ) → Type 0
LacksMemory order start old new = (blocks : List (List ℕ)) × (last : Listing) × (left : Option (List ℕ)) × (fault : CaptureFault)
    × Follow blocks order start last old left × IsNoBlock (Some order) fault left new × (fault.reason ≡ reason.NoMemory)

-- what is told of interfaces that are Ethernet: all of them, or want of memory
abbrev pub TellsListed : ByteOrder → Listing → Reason → Option (List ℕ) → Option (List ℕ) → Type 0
TellsListed order start (reason.Several all) old new = Lists order start all.0 old new
TellsListed order start reason.NoMemory old new = LacksMemory order start old new
TellsListed order start other old new = ⊥

-- the reason that is told: where a second interface of a section is Ethernet, all that are; else the one that was found
abbrev pub TellsAll : Option Section → Reason → Reason → Option (List ℕ) → Option (List ℕ) → Type 0
TellsAll (Some section) (reason.Several two) told old new =
    TellsListed section.order (record { listed = two.0; count = min (section.count + 1) (2 ^ 32 - 1) }) told old new
TellsAll section own told old new = (told ≡ own) × (new ≡ old)
