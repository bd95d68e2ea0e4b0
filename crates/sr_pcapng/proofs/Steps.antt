-- Blocks, one behind the other.
use Rattle.std.proofs.Common.{◌≡◌, ◌≢◌, ℕ, ◌+◌, ◌-◌, ◌^◌, ◌≤◌, List, [], ◌∷◌, ◌++◌, length, Option, Some, None, true, false, sym, ap, subst, refl, ◌∙◌, arith, inl, inr}
use Rattle.std.specs.Prelude.{min, IfSome, IfErr, Result, Ok, Err}
use Rattle.std.proofs.lemmas.List.{length-append}
use Rattle.sr_capture.specs.declared.fault.CaptureFault.{CaptureFault}
use Rattle.sr_capture.specs.declared.numbers.ByteOrder.{ByteOrder}
use Rattle.sr_capture.specs.declared.numbers.ByteOrder.TheVariants.{Big}
use Rattle.sr_capture.specs.Numbers.{word_at}
use Rattle.sr_capture.specs.declared.packet.Packet.{Packet}
use Rattle.sr_capture.specs.Records.{Captured, Shows}
use Rattle.sr_capture.specs.Taking.{Loses, LeavesNone}
use Rattle.sr_capture.specs.TakingLemmas.{loses_more, loses_nothing, loses_no_more, none_left}
use Rattle.sr_pcapng.specs.declared.block.Kind.TheVariants as kind
use Rattle.sr_pcapng.specs.declared.track.Track.{Track}
use Rattle.sr_pcapng.specs.Blocks.{kind_of, IsBlock, IsNone, EndsEarly, IsNoBlock}
use Rattle.sr_pcapng.specs.StepLemmas.{blocks_none, blocks_one, blocks_on}
use Rattle.sr_pcapng.specs.declared.track.Section.{Section}
use Rattle.sr_pcapng.specs.PacketBlocks.{InEnhanced}
use Rattle.sr_pcapng.specs.Steps.{order_in, Means, IsStep, AreBlocks, IsNoStep, Takes, Stops, RefusesBlock}

-- a track that has passed over blocks without a packet
pub record Passes (track : Track) (old now : Option (List ℕ)) (size : ℕ) (count : ℕ) (last : Track) : Type 0 where
  pub octets : List ℕ
  pub lost : Loses octets old now
  pub blocks : AreBlocks track octets [] last
  pub size_is : size ≡ min (length octets) (2 ^ 64 - 1)
  pub many : count ≤ length octets

pub passes_none : (track : Track) (old : Option (List ℕ)) → Passes track old old 0 0 track
passes_none track old = record {
  octets = [];
  lost = loses_nothing old;
  blocks = blocks_none track;
  size_is = omega arith;
  many = omega arith;
}

pub passes_on : (track mid next : Track) (old now after : Option (List ℕ)) (size more count : ℕ) (block : List ℕ) → Passes track old now size count mid
    → Loses block now after → IsStep mid block [] next → more ≡ min (size + length block) (2 ^ 64 - 1) → Passes track old after more (count + 1) next
passes_on track mid next old now after size more count block p lost is sum = record {
  octets = p.octets ++ block;
  lost = loses_more p.octets block old now after p.lost lost;
  blocks = blocks_on track mid next p.octets block [] [] p.blocks (blocks_one mid block [] next is);
  size_is = omega (arith, sum, p.size_is, length-append p.octets block);
  many = omega (arith, p.many, length-append p.octets block, is.1.begins.front);
}

shows_sized : (x y : Packet) (captured : Captured) → y.time ≡ x.time → y.extent ≡ x.extent → y.len ≡ x.len → y.octets ≡ x.octets → Shows x captured → Shows y captured
shows_sized x y captured a b c d h = record {
  time = a ∙ h.time;
  extent = b ∙ h.extent;
  len = c ∙ h.len;
  octets = λ small. (ap (λ v. v.items) d ∙ h.octets small);
}

-- the next packet
pub takes_packet : (track mid next : Track) (old now after : Option (List ℕ)) (size more count : ℕ) (block : List ℕ) (captured : Captured) (x y : Packet)
    → Passes track old now size count mid → Loses block now after → IsStep mid block (captured ∷ []) next → Shows x captured
    → more ≡ min (size + length block) (2 ^ 64 - 1) → y.size ≡ more → y.time ≡ x.time → y.extent ≡ x.extent → y.len ≡ x.len → y.octets ≡ x.octets
    → Takes true track next y old after
takes_packet track mid next old now after size more count block captured x y p lost is shows sum sized a b c d = (
  p.octets ++ block,
  loses_more p.octets block old now after p.lost lost,
  omega (arith, sized, sum, p.size_is, length-append p.octets block),
  (captured, blocks_on track mid next p.octets block [] (captured ∷ []) p.blocks (blocks_one mid block (captured ∷ []) next is), shows_sized x y captured a b c d shows),
)

-- the end of the input
pub takes_none : (track mid next : Track) (old now after : Option (List ℕ)) (size count : ℕ) (y : Packet) → Passes track old now size count mid
    → Loses [] now after → LeavesNone now after → next ≡ mid → y.size ≡ size → Takes false track next y old after
takes_none track mid next old now after size count y p lost none same sized = (
  p.octets,
  loses_no_more p.octets old now after p.lost lost,
  sized ∙ p.size_is,
  (subst (AreBlocks track p.octets []) (sym same) p.blocks, none_left p.octets old now after p.lost none),
)

-- a fault behind blocks
pub stops : (track mid : Track) (old now after : Option (List ℕ)) (size count : ℕ) (own fault : CaptureFault) → Passes track old now size count mid
    → IsNoStep mid own now after → fault.reason ≡ own.reason → fault.at ≡ min (size + own.at) (2 ^ 64 - 1) → Stops track fault old after
stops track mid old now after size count own fault p stuck why at = record {
  octets = p.octets;
  left = now;
  last = mid;
  own = own;
  lost = p.lost;
  blocks = p.blocks;
  stuck = stuck;
  why = why;
  where_is = omega (arith, at, p.size_is);
}

-- no block but a header stands before the first section
pub in_no_section : (octets : List ℕ) (order : ByteOrder) → IsBlock None octets order → kind_of order octets ≢ kind.Section → ⊥
in_no_section octets order is other = elim is.begins.in_order [ inl h ↦ other (kind_is h.0) | inr h ↦ none_some h.1 ]
  where
    kind_is : word_at Big octets 0 ≡ 0x0A0D0D0A → kind_of order octets ≡ kind.Section
    kind_is e = grind (arith, e)

    none_some : None ≡ Some order → ⊥
    none_some e = cc

-- a packet that is at hand is a step
pub step_at_hand : (track : Track) (section : Section) (octets : List ℕ) (shown : List Captured) → track.section ≡ Some section
    → IsBlock (Some section.order) octets section.order → kind_of section.order octets ≡ kind.Enhanced → InEnhanced track.wanted section octets shown
    → IsStep track octets shown track
step_at_hand track section octets shown at is packet inside =
    let means : Means kind.Enhanced track section.order octets shown track = (section, at, (refl, inside)) in (
      section.order,
      subst (λ (o : Option ByteOrder). IsBlock o octets section.order) (sym (ap order_in at)) is,
      subst (λ k. Means k track section.order octets shown track) (sym packet) means,
    )

-- what is said of known octets holds where none of them was taken before
known_before : (P : List ℕ → Type 0) (a b : Option (List ℕ)) → Loses [] a b → IfSome b P → IfSome a P
known_before P None b lost h = tt
known_before P (Some xs) None lost h = absurd lost
known_before P (Some xs) (Some ys) lost h = subst P (sym lost) h

no_block_behind : (own : Option ByteOrder) (fault : CaptureFault) (a b c : Option (List ℕ)) → Loses [] a b → IsNoBlock own fault b c → IsNoBlock own fault a c
no_block_behind own fault a b c lost (inl h) = inl (h.0, (h.1.0, h.1.1, loses_more [] h.1.0 a b c lost h.1.2, h.1.3))
no_block_behind own fault a b c lost (inr h) = inr (h.0, none_of h.1)
  where
    none_of : IsNone own fault.reason b c → IsNone own fault.reason a c
    none_of (inl k) = inl (k.0, known_before (EndsEarly own) a b lost k.1)
    none_of (inr k) = inr (k.0, loses_more [] k.0 a b c lost k.1, k.2)

-- why there is no next block, where none of the octets was taken before
pub no_step_behind : (track : Track) (fault : CaptureFault) (a b c : Option (List ℕ)) → Loses [] a b → IsNoStep track fault b c → IsNoStep track fault a c
no_step_behind track fault a b c lost (inl h) = inl (no_block_behind (order_in track.section) fault a b c lost h)
no_step_behind track fault a b c lost (inr h) =
    inr (h.0, h.1, (h.2.0, h.2.1, h.2.2, loses_more [] h.2.0 a b h.2.2 lost h.2.3, h.2.4, h.2.5, h.2.6))

pub faults_behind : {A : Type 0} (track : Track) (a b c : Option (List ℕ)) → Loses [] a b → (r : Result A CaptureFault)
    → IfErr r (λ fault. IsNoStep track fault b c) → IfErr r (λ fault. IsNoStep track fault a c)
faults_behind track a b c lost (Ok v) h = tt
faults_behind track a b c lost (Err fault) h = no_step_behind track fault a b c lost h
