-- Interfaces that are listed, block by block.
use Rattle.std.proofs.Common.{◌≡◌, ℕ, ◌+◌, ◌-◌, ◌^◌, List, [], ◌∷◌, length, Option, Some, refl, sym, ap, ◌∙◌, arith, inl, inr}
use Rattle.sr_capture.specs.declared.fault.CaptureFault.{CaptureFault}
use Rattle.sr_capture.specs.declared.fault.Reason.TheVariants.{NoMemory}
use Rattle.sr_capture.specs.declared.numbers.ByteOrder.{ByteOrder}
use Rattle.sr_capture.specs.Taking.{Loses}
use Rattle.sr_pcapng.specs.declared.listing.Listing.{Listing}
use Rattle.sr_pcapng.specs.Blocks.{kind_of, IsBlock, IsNoBlock}
use Rattle.sr_pcapng.specs.declared.block.Kind.{Kind}
use Rattle.sr_pcapng.specs.Listing.{listed_by, Follow, EndsList, Lists, LacksMemory}

-- some blocks were taken: what follows them here follows them and others from the start
abbrev pub Goes : ByteOrder → Listing → Listing → ℕ → Option (List ℕ) → Option (List ℕ) → Type 0
Goes order start now count old left = (blocks : List (List ℕ)) (last : Listing) (new : Option (List ℕ)) → Follow blocks order now last left new
    → (all : List (List ℕ)) × (length all ≡ count + length blocks) × Follow all order start last old new

pub goes_none : (order : ByteOrder) (start : Listing) (old : Option (List ℕ)) → Goes order start start 0 old old
goes_none order start old blocks last new f = (blocks, omega arith, f)

pub goes_on : (order own : ByteOrder) (start now next : Listing) (count : ℕ) (old left after : Option (List ℕ)) (block : List ℕ)
    → Goes order start now count old left → Loses block left after → IsBlock (Some order) block own
    → listed_by (kind_of own block) own block now ≡ Some next → Goes order start next (count + 1) old after
goes_on order own start now next count old left after block g lost is by blocks last new f =
    let all = g (block ∷ blocks) last new (after, own, next, lost, is, by, f) in
    (all.0, omega (arith, all.1), all.2)

goes_all : (order : ByteOrder) (start now : Listing) (count : ℕ) (old left : Option (List ℕ)) → Goes order start now count old left
    → (all : List (List ℕ)) × (length all ≡ count) × Follow all order start now old left
goes_all order start now count old left g =
    let all = g [] now left (refl, refl) in
    (all.0, omega (arith, all.1), all.2)

-- the section ends
pub lists : (order : ByteOrder) (start now : Listing) (count : ℕ) (old left new : Option (List ℕ)) → Goes order start now count old left
    → EndsList order now left new → Lists order start now.listed old new
lists order start now count old left new g ends =
    let all = goes_all order start now count old left g in
    (all.0, now, left, all.2, refl, inl ends)

-- memory is refused
pub lacks_memory : (order : ByteOrder) (start now : Listing) (count : ℕ) (old left new : Option (List ℕ)) (fault : CaptureFault)
    → Goes order start now count old left → IsNoBlock (Some order) fault left new → fault.reason ≡ NoMemory → LacksMemory order start old new
lacks_memory order start now count old left new fault g none why =
    let all = goes_all order start now count old left g in
    (all.0, now, left, fault, all.2, none, why)

-- there are too many blocks
pub lists_most : (order : ByteOrder) (start now : Listing) (count : ℕ) (old left : Option (List ℕ)) → Goes order start now count old left
    → count ≡ 2 ^ 64 - 1 → Lists order start now.listed old left
lists_most order start now count old left g most =
    let all = goes_all order start now count old left g in
    (all.0, now, left, all.2, refl, inr (refl, omega (arith, all.1, most)))

-- what a block adds to the list
pub added : (kind : Kind) (own : ByteOrder) (block xs ys : List ℕ) (now : Listing) (found result : Option Listing) → found ≡ listed_by kind own ys now
    → kind ≡ kind_of own xs → ys ≡ block → xs ≡ block → found ≡ result → listed_by (kind_of own block) own block now ≡ result
added kind own block xs ys now found result a b c d e =
    ap (λ (l : List ℕ). listed_by (kind_of own l) own block now) (sym d)
    ∙ ap (λ (k : Kind). listed_by k own block now) (sym b)
    ∙ ap (λ (l : List ℕ). listed_by kind own l now) (sym c)
    ∙ sym a ∙ e
