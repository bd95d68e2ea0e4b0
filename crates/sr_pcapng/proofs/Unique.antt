-- Files of blocks are read in one way.
use Rattle.std.proofs.Common.{◌≡◌, ℕ, List, [], ◌∷◌, ◌++◌, length, Option, Some, None, Bool, true, false, sym, ap, subst, refl, ◌∙◌, arith, inl, inr}
use Rattle.std.specs.Prelude.{ℤ, pos}
use Rattle.std.proofs.lemmas.List.{length-append}
use Rattle.sr_capture.specs.declared.numbers.ByteOrder.{ByteOrder}
use Rattle.sr_capture.specs.declared.numbers.ByteOrder.TheVariants.{Little, Big}
use Rattle.sr_capture.specs.declared.packet.Extent.{Extent}
use Rattle.sr_capture.specs.Numbers.{word_at}
use Rattle.sr_capture.specs.Records.{Captured}
use Rattle.sr_pcapng.specs.declared.block.Kind.{Kind}
use Rattle.sr_pcapng.specs.declared.block.Kind.TheVariants as kind
use Rattle.sr_pcapng.specs.declared.track.Interface.{Interface}
use Rattle.sr_pcapng.specs.declared.track.Section.{Section}
use Rattle.sr_pcapng.specs.declared.track.Track.{Track}
use Rattle.sr_pcapng.specs.declared.track.Wanted.{Wanted}
use Rattle.sr_pcapng.specs.Blocks.{magic_of, kind_of, HasOrder, IsBlock}
use Rattle.sr_pcapng.specs.Interfaces.{counted, DescribesBy}
use Rattle.sr_pcapng.specs.Laws.{PacketsAreUnique}
use Rattle.sr_pcapng.specs.PacketBlocks.{IsTimedPacket, IsSimple, ShowsTimed, ShowsSimple}
use Rattle.sr_pcapng.specs.Steps.{order_in, in_section, MeansWithin, Means, IsStep, Follow}
use Rattle.sr_pcapng.proofs.Blocks.{word_front, order_more}
use Rattle.sr_pcapng.proofs.OptionLists.{same_front, same_rest, one_known}

-- the magic numbers differ
one_magic : (o p : ByteOrder) → magic_of o ≡ magic_of p → o ≡ p
one_magic Little Little e = refl
one_magic Big Big e = refl
one_magic Little Big e = absurd (omega (arith, e))
one_magic Big Little e = absurd (omega (arith, e))

same_some : {T : Type 0} (x y : T) → Some x ≡ Some y → x ≡ y
same_some x y e = cc

-- octets tell one order
one_order : (own : Option ByteOrder) (octets : List ℕ) (o p : ByteOrder) → HasOrder own octets o → HasOrder own octets p → o ≡ p
one_order own octets o p (inl h) (inl k) = one_magic o p (sym h.1 ∙ k.1)
one_order own octets o p (inl h) (inr k) = absurd (k.0 h.0)
one_order own octets o p (inr h) (inl k) = absurd (h.0 k.0)
one_order own octets o p (inr h) (inr k) = same_some o p (sym h.1 ∙ k.1)

-- what two blocks at the front of the same octets have in common
record Agree (a c : List ℕ) (o p : ByteOrder) : Type 0 where
  octets : a ≡ c
  order : o ≡ p

one_block : (own : Option ByteOrder) (a b c d : List ℕ) (o p : ByteOrder) → a ++ b ≡ c ++ d → IsBlock own a o → IsBlock own c p → Agree a c o p
one_block own a b c d o p e x y =
    let first : HasOrder own (c ++ d) o = subst (λ (l : List ℕ). HasOrder own l o) e (order_more own a b o x.begins.front x.begins.in_order) in
    let same : o ≡ p = one_order own (c ++ d) o p first (order_more own c d p y.begins.front y.begins.in_order) in
    let told : word_at o a 4 ≡ word_at p c 4 =
    sym (word_front o a b 4 (omega (arith, x.begins.front))) ∙ ap (λ (l : List ℕ). word_at o l 4) e ∙ ap (λ (q : ByteOrder). word_at q (c ++ d) 4) same
    ∙ word_front p c d 4 (omega (arith, y.begins.front)) in
    record { octets = same_front a b c d e (x.begins.long.told ∙ told ∙ sym y.begins.long.told); order = same }

captured_is : (t u : ℕ) (e f : Extent) (xs ys : List ℕ) → t ≡ u → e ≡ f → xs ≡ ys
    → (let p : Captured = record { time = t; extent = e; octets = xs } in p) ≡ record { time = u; extent = f; octets = ys }
captured_is t u e f xs ys a b c = cc

same_pos : (m n : ℕ) (z : ℤ) → pos m ≡ z → pos n ≡ z → m ≡ n
same_pos m n z a b = cc

one_timed : (interface : Interface) (order : ByteOrder) (octets : List ℕ) (x y : Captured) → IsTimedPacket interface order octets x
    → IsTimedPacket interface order octets y → x ≡ y
one_timed interface order octets x y h k =
    captured_is x.time y.time x.extent y.extent x.octets y.octets (same_pos x.time y.time _ h.time k.time) (h.extent ∙ sym k.extent) (h.body ∙ sym k.body)

one_simple : (interface : Interface) (order : ByteOrder) (octets : List ℕ) (x y : Captured) → IsSimple interface order octets x
    → IsSimple interface order octets y → x ≡ y
one_simple interface order octets x y h k =
    captured_is x.time y.time x.extent y.extent x.octets y.octets (h.time ∙ sym k.time) (h.extent ∙ sym k.extent) (h.body ∙ sym k.body)

shown_timed : (o : Option Interface) (order : ByteOrder) (octets : List ℕ) (xs ys : List Captured) → ShowsTimed o order octets xs
    → ShowsTimed o order octets ys → xs ≡ ys
shown_timed None order octets xs ys h k = h ∙ sym k
shown_timed (Some i) order octets xs ys h k = h.1 ∙ ap (λ (p : Captured). p ∷ []) (one_timed i order octets h.0 k.0 h.2 k.2) ∙ sym k.1

shown_simple : (o : Option Interface) (order : ByteOrder) (octets : List ℕ) (xs ys : List Captured) → ShowsSimple o order octets xs
    → ShowsSimple o order octets ys → xs ≡ ys
shown_simple None order octets xs ys h k = h ∙ sym k
shown_simple (Some i) order octets xs ys h k = h.1 ∙ ap (λ (p : Captured). p ∷ []) (one_simple i order octets h.0 k.0 h.2 k.2) ∙ sym k.1

described : (w : Bool) (wanted : Wanted) (check : ℕ) (section : Section) (octets : List ℕ) (m n : Section) → DescribesBy w wanted check section octets m
    → DescribesBy w wanted check section octets n → m ≡ n
described false wanted check section octets m n h k = h ∙ sym k
described true wanted check section octets m n h k =
    let one : h.2.0 ≡ k.2.0 = one_known section.order _ _ h.2.0 k.2.0 h.2.1.0 k.2.1.0 h.2.1.1 k.2.1.1 in
    h.2.2 ∙ ap (λ (i : Interface). counted section (Some i)) one ∙ sym k.2.2

-- what one block means
record Same (xs ys : List Captured) (s t : Track) : Type 0 where
  shown : xs ≡ ys
  next : s ≡ t

within : (k : Kind) (track : Track) (section : Section) (octets : List ℕ) (xs ys : List Captured) (s t : Track) → MeansWithin k track section octets xs s
    → MeansWithin k track section octets ys t → Same xs ys s t
within kind.Section track section octets xs ys s t h k = absurd h
within kind.Interface track section octets xs ys s t h k =
    let one : h.1.0 ≡ k.1.0 = described _ track.wanted track.check_len section octets h.1.0 k.1.0 h.1.1.1 k.1.1.1 in
    record { shown = h.0 ∙ sym k.0; next = h.1.2 ∙ ap (in_section track) one ∙ sym k.1.2 }
within kind.Enhanced track section octets xs ys s t h k =
    record { shown = shown_timed _ section.order octets xs ys h.1.3 k.1.3; next = h.0 ∙ sym k.0 }
within kind.Obsolete track section octets xs ys s t h k =
    record { shown = shown_timed _ section.order octets xs ys h.1.3 k.1.3; next = h.0 ∙ sym k.0 }
within kind.Simple track section octets xs ys s t h k =
    record { shown = shown_simple _ section.order octets xs ys h.1.3 k.1.3; next = h.0 ∙ sym k.0 }
within kind.Statistics track section octets xs ys s t h k = record { shown = h.0 ∙ sym k.0; next = h.1 ∙ sym k.1 }
within kind.Other track section octets xs ys s t h k = record { shown = h.1 ∙ sym k.1; next = h.0 ∙ sym k.0 }

-- in one section
abbrev InSection : Kind → Track → List ℕ → List Captured → Track → Type 0
InSection k track octets xs s = (section : Section) × (track.section ≡ Some section) × MeansWithin k track section octets xs s

in_one : (k : Kind) (track : Track) (octets : List ℕ) (xs ys : List Captured) (s t : Track) → InSection k track octets xs s
    → InSection k track octets ys t → Same xs ys s t
in_one k track octets xs ys s t h m =
    let one : m.0 ≡ h.0 = same_some m.0 h.0 (sym m.1 ∙ h.1) in
    within k track h.0 octets xs ys s t h.2 (subst (λ (v : Section). MeansWithin k track v octets ys t) one m.2)

means_one : (k : Kind) (track : Track) (order : ByteOrder) (octets : List ℕ) (xs ys : List Captured) (s t : Track) → Means k track order octets xs s
    → Means k track order octets ys t → Same xs ys s t
means_one kind.Section track order octets xs ys s t h m = record { shown = h.1 ∙ sym m.1; next = h.2 ∙ sym m.2 }
means_one kind.Interface track order octets xs ys s t h m = in_one kind.Interface track octets xs ys s t h m
means_one kind.Enhanced track order octets xs ys s t h m = in_one kind.Enhanced track octets xs ys s t h m
means_one kind.Obsolete track order octets xs ys s t h m = in_one kind.Obsolete track octets xs ys s t h m
means_one kind.Simple track order octets xs ys s t h m = in_one kind.Simple track octets xs ys s t h m
means_one kind.Statistics track order octets xs ys s t h m = in_one kind.Statistics track octets xs ys s t h m
means_one kind.Other track order octets xs ys s t h m = in_one kind.Other track octets xs ys s t h m

step_one : (track : Track) (a : List ℕ) (xs ys : List Captured) (s t : Track) → IsStep track a xs s → IsStep track a ys t → Same xs ys s t
step_one track a xs ys s t h k =
    let order : k.0 ≡ h.0 = sym (one_block (order_in track.section) a [] a [] h.0 k.0 refl h.1 k.1).order in
    means_one (kind_of h.0 a) track h.0 a xs ys s t h.2 (subst (λ (o : ByteOrder). Means (kind_of o a) track o a ys t) order k.2)

no_step : (track : Track) (a b : List ℕ) (xs : List Captured) (s : Track) → [] ≡ a ++ b → IsStep track a xs s → ⊥
no_step track a b xs s e h = omega (arith, ap length e, length-append a b, h.1.begins.front)

follow_one : (bs cs : List (List ℕ)) (track : Track) (octets : List ℕ) (xs ys : List Captured) (s t : Track) → Follow bs track octets xs s
    → Follow cs track octets ys t → xs ≡ ys
follow_one [] [] track octets xs ys s t h k = h.1 ∙ sym k.1
follow_one [] (c ∷ cs) track octets xs ys s t h k = absurd (no_step track c k.0 k.1 k.3 (sym h.0 ∙ k.4) k.6)
follow_one (b ∷ bs) [] track octets xs ys s t h k = absurd (no_step track b h.0 h.1 h.3 (sym k.0 ∙ h.4) h.6)
follow_one (b ∷ bs) (c ∷ cs) track octets xs ys s t h k =
    let whole : b ++ h.0 ≡ c ++ k.0 = sym h.4 ∙ k.4 in
    let first : c ≡ b = sym (one_block (order_in track.section) b h.0 c k.0 h.6.0 k.6.0 whole h.6.1 k.6.1).octets in
    let rest : k.0 ≡ h.0 = sym (same_rest b h.0 c k.0 whole (sym first)) in
    let same = step_one track b h.1 k.1 h.3 k.3 h.6 (subst (λ (l : List ℕ). IsStep track l k.1 k.3) first k.6) in
    let by_rest : Follow cs k.3 h.0 k.2 t = subst (λ (l : List ℕ). Follow cs k.3 l k.2 t) rest k.7 in
    let by_next : Follow cs h.3 h.0 k.2 t = subst (λ (v : Track). Follow cs v h.0 k.2 t) (sym same.next) by_rest in
    h.5 ∙ ap (λ (l : List Captured). l ++ h.2) same.shown ∙ ap (λ (l : List Captured). k.1 ++ l) (follow_one bs cs h.3 h.0 h.2 k.2 s t h.7 by_next) ∙ sym k.5

pub packets_are_unique : PacketsAreUnique
packets_are_unique track octets xs ys s t h k = follow_one h.0 k.0 track octets xs ys s t h.1 k.1
