-- Packets that are shown.
use Rattle.std.proofs.Common.{◌≡◌, ℕ, ◌+◌, ◌*◌, ◌^◌, ◌≤◌, ◌<◌, List, [], ◌∷◌, length, Option, Some, true, sym, ap, subst, refl, ◌∙◌}
use Rattle.sr_capture.specs.declared.packet.Packet.{Packet}
use Rattle.sr_capture.specs.Numbers.{word_at}
use Rattle.sr_capture.specs.Records.{Captured, Shows}
use Rattle.sr_pcapng.specs.declared.track.Interface.{Interface}
use Rattle.sr_pcapng.specs.declared.track.Section.{Section}
use Rattle.sr_pcapng.specs.declared.track.Wanted.{Wanted}
use Rattle.sr_pcapng.specs.Times.{IsTime}
use Rattle.sr_pcapng.specs.PacketBlocks.{
  extent_of,
  body_at,
  Holds,
  held_of,
  of_number,
  IsTold,
  IsTimedPacket,
  IsSimple,
  ShowsTimed,
  ShowsSimple,
  InTimed,
  InSimple,
  Gives,
}

-- what shows a packet with these parts
abbrev pub ShowsParts : Packet → ℕ → ℕ → ℕ → ℕ → ℕ → List ℕ → Type 0
ShowsParts y time at held len check octets = (captured : Captured) → captured.time ≡ time → captured.extent ≡ extent_of held len
    → captured.octets ≡ body_at at held check octets → Shows y captured

pub gives_timed : (wanted : Wanted) (section : Section) (octets : List ℕ) (interface : Interface) (found : Option Interface) (number ticks time held len : ℕ) (y : Packet)
    → 32 ≤ length octets → number < section.count → IsTold wanted section.taken → found ≡ of_number section.taken number → found ≡ Some interface
    → held ≡ word_at section.order octets 20 → len ≡ word_at section.order octets 24 → Holds 28 held octets
    → ticks ≡ word_at section.order octets 12 * 2 ^ 32 + word_at section.order octets 16 → IsTime interface ticks time
    → ShowsParts y time 28 held len interface.check_len octets → (shown : List Captured) × InTimed number wanted section octets shown × Gives true shown y
gives_timed wanted section octets interface found number ticks time held len y long known told same some held_is len_is holds ticks_is moment shows =
    let p : Captured = record { time = time; extent = extent_of held len; octets = body_at 28 held interface.check_len octets } in
    let taken : Some interface ≡ of_number section.taken number = sym some ∙ same in
    let e : IsTimedPacket interface section.order octets p = record {
      holds = subst (λ n. Holds 28 n octets) held_is holds;
      time = subst (λ n. IsTime interface n time) ticks_is moment;
      extent = ap (λ n. extent_of n len) held_is ∙ ap (extent_of (word_at section.order octets 20)) len_is;
      body = ap (λ n. body_at 28 n interface.check_len octets) held_is;
    } in
    (p ∷ [], (long, known, told, subst (λ (o : Option Interface). ShowsTimed o section.order octets (p ∷ [])) taken (p, refl, e)), (p, refl, shows p refl refl refl))

pub gives_simple : (wanted : Wanted) (section : Section) (octets : List ℕ) (interface : Interface) (found : Option Interface) (held len : ℕ) (y : Packet)
    → 16 ≤ length octets → 0 < section.count → IsTold wanted section.taken → found ≡ of_number section.taken 0 → found ≡ Some interface
    → held ≡ held_of interface.snap len → len ≡ word_at section.order octets 8 → Holds 12 held octets
    → ShowsParts y 0 12 held len interface.check_len octets → (shown : List Captured) × InSimple wanted section octets shown × Gives true shown y
gives_simple wanted section octets interface found held len y long known told same some held_is len_is holds shows =
    let p : Captured = record { time = 0; extent = extent_of held len; octets = body_at 12 held interface.check_len octets } in
    let taken : Some interface ≡ of_number section.taken 0 = sym some ∙ same in
    let own : held ≡ held_of interface.snap (word_at section.order octets 8) = held_is ∙ ap (held_of interface.snap) len_is in
    let e : IsSimple interface section.order octets p = record {
      holds = subst (λ n. Holds 12 n octets) own holds;
      time = refl;
      extent = ap (λ n. extent_of n len) own ∙ ap (extent_of (held_of interface.snap (word_at section.order octets 8))) len_is;
      body = ap (λ n. body_at 12 n interface.check_len octets) own;
    } in
    (p ∷ [], (long, known, told, subst (λ (o : Option Interface). ShowsSimple o section.order octets (p ∷ [])) taken (p, refl, e)), (p, refl, shows p refl refl refl))
