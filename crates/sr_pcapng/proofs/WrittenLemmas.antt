-- What is written is read again.
use Rattle.std.proofs.Common.{◌≡◌, ◌≢◌, ℕ, zero, suc, ◌+◌, ◌-◌, ◌*◌, ◌/◌, ◌%◌, ◌^◌, ◌<◌, ◌≤◌, List, [], ◌∷◌, ◌++◌, length, take, drop, Option, Some, None, sym, ap, subst, refl, ◌∙◌, arith, inl, inr, rules}
use Rattle.std.specs.Prelude.{pos, All, slice_index, ◌==◌, if◌then◌else◌}
use Rattle.std.specs.Int.{w32, from_le_bytes}
use Rattle.std.specs.List.{flat_map, between}
use Rattle.std.proofs.lemmas.List.{append_assoc, length-append, length-take, get_or-append-add, take_at, drop_at}
use Rattle.std.proofs.lemmas.Nat.{from_le_bytes-to_le_bytes_2, from_le_bytes-to_le_bytes_4}
use Rattle.std.proofs.lemmas.Int.{ints, clamps}
use Rattle.sr_capture.specs.declared.numbers.ByteOrder.{ByteOrder}
use Rattle.sr_capture.specs.declared.numbers.ByteOrder.TheVariants.{Little, Big}
use Rattle.sr_capture.specs.Numbers.{half_at, word_at}
use Rattle.sr_capture.specs.Records.{Captured}
use Rattle.sr_pcapng.specs.declared.block.Kind.TheVariants as kind
use Rattle.sr_pcapng.specs.declared.lanes.Lane.{Lane}
use Rattle.sr_pcapng.specs.declared.lanes.Lane.TheVariants as lane
use Rattle.sr_pcapng.specs.declared.lanes.Names.{Names}
use Rattle.sr_pcapng.specs.declared.lanes.Names.TheVariants as names
use Rattle.sr_pcapng.specs.declared.track.Interface.{Interface}
use Rattle.sr_pcapng.specs.declared.track.Section.{Section}
use Rattle.sr_pcapng.specs.declared.track.Track.{Track}
use Rattle.sr_pcapng.specs.declared.track.Wanted.TheVariants.{Number}
use Rattle.sr_pcapng.specs.Blocks.{kind_of, IsBlock}
use Rattle.sr_pcapng.specs.Interfaces.{Describes}
use Rattle.sr_pcapng.specs.Options.{padded, Reads, IsOption, Fits}
use Rattle.sr_pcapng.specs.PacketBlocks.{extent_of, body_at, Holds, IsTimedPacket, ShowsTimed, InTimed, InEnhanced, of_number}
use Rattle.sr_pcapng.specs.Times.{IsMoment, IsTime}
use Rattle.sr_pcapng.specs.Steps.{order_in, begun, in_section, Means, IsStep, AreBlocks}
use Rattle.sr_pcapng.specs.StepLemmas.{blocks_none, blocks_one, blocks_on}
use Rattle.sr_pcapng.specs.Writing.{half_octets, word_octets, filling, option_of, lane_number, lane_name, header_block, description, file_head, Written, IsWritable, comment_part, comment_size, packet_size, front_of, packet_block, captured_of, found_at, start_at, option_value, options_in, WhatIsWrittenIsRead, CommentsAreRead, NamesAreRead}

four_is : (a b c d e f g h : ℕ) → a ≡ e → b ≡ f → c ≡ g → d ≡ h → a ∷ b ∷ c ∷ d ∷ [] ≡ e ∷ f ∷ g ∷ h ∷ []
four_is a b c d e f g h p q r s = cc

abbrev zeros : List ℕ
zeros = 0 ∷ 0 ∷ 0 ∷ []

-- a number behind other octets
behind : (xs ys : List ℕ) (at i : ℕ) → length xs ≡ at → slice_index (xs ++ ys) (at + i) ≡ slice_index ys i
behind xs ys at i e = ap (λ n. slice_index (xs ++ ys) (n + i)) (sym e) ∙ get_or-append-add xs ys i 0

first_behind : (xs ys : List ℕ) (at : ℕ) → length xs ≡ at → slice_index (xs ++ ys) at ≡ slice_index ys 0
first_behind xs ys at e = ap (λ n. slice_index (xs ++ ys) n) (omega (arith, e)) ∙ behind xs ys at 0 e

pub word_behind : (xs ys : List ℕ) (at number : ℕ) → length xs ≡ at → number < 2 ^ 32 → word_at Little (xs ++ (word_octets number ++ ys)) at ≡ number
word_behind xs ys at number e fits =
    let w = word_octets number ++ ys in
    ap (λ (l : List ℕ). from_le_bytes w32 l) (four_is _ _ _ _ _ _ _ _ (first_behind xs w at e) (behind xs w at 1 e) (behind xs w at 2 e) (behind xs w at 3 e))
    ∙ from_le_bytes-to_le_bytes_4 number fits

-- what stands before the octets of a packet
abbrev packet_front : Written → List ℕ
packet_front p = front_of (packet_size p) (lane_number p.lane) p.time (length p.octets) p.len

-- lengths
padded_even : (n : ℕ) → padded n % 4 ≡ 0
padded_even n = omega arith

option_len : (code : ℕ) (value : List ℕ) → length (option_of code value) ≡ 4 + padded (length value)
option_len code value = omega (arith, length-append value (filling (length value)), length-take ((4 - length value % 4) % 4) zeros)

comment_more : (n : ℕ) → 0 < n → comment_size n ≡ 8 + padded n
comment_more n some = search rules

comment_len : (comment : List ℕ) → length (comment_part comment) ≡ comment_size (length comment)
comment_len [] = refl
comment_len (c ∷ cs) = omega (arith, length-append (option_of 1 (c ∷ cs)) (word_octets 0), option_len 1 (c ∷ cs), comment_more (length (c ∷ cs)) (omega arith))

comment_even : (n : ℕ) → comment_size n % 4 ≡ 0
comment_even zero = refl
comment_even (suc n) = omega (arith, padded_even (suc n), comment_more (suc n) (omega arith))

comment_short : (n : ℕ) → n < 2 ^ 16 → comment_size n ≤ 2 ^ 16 + 8
comment_short zero h = omega arith
comment_short (suc n) h = omega (arith, h, comment_more (suc n) (omega arith))

-- a block of a packet up to its last word
abbrev packet_most : Written → List ℕ
packet_most p = packet_front p ++ p.octets ++ filling (length p.octets) ++ comment_part p.comment

most_len : (p : Written) → length (packet_most p) + 4 ≡ packet_size p
most_len p =
    let o = p.octets in
    let f = filling (length p.octets) in
    omega (arith, length-append (o ++ f) (comment_part p.comment), length-append o f, length-take ((4 - length p.octets % 4) % 4) zeros, comment_len p.comment)

packet_len : (p : Written) → length (packet_block p) ≡ packet_size p
packet_len p = omega (arith, length-append (packet_most p) (word_octets (packet_size p)), most_len p)

size_fits : (p : Written) → IsWritable p → packet_size p ≤ 2 ^ 24
size_fits p is = omega (arith, is.octets, comment_short (length p.comment) is.comment)

size_even : (p : Written) → packet_size p % 4 ≡ 0
size_even p = omega (arith, padded_even (length p.octets), comment_even (length p.comment))

packet_is_block : (p : Written) → IsWritable p → IsBlock (Some Little) (packet_block p) Little
packet_is_block p is =
    let len = packet_len p in
    let fits = size_fits p is in
    let told : packet_size p ≡ word_at Little (packet_block p) 4 = sym (from_le_bytes-to_le_bytes_4 (packet_size p) (omega (arith, fits))) in
    let most : length (packet_most p) ≡ packet_size p - 4 = omega (arith, most_len p) in
    let last : word_at Little (packet_block p) (packet_size p - 4) ≡ packet_size p =
    word_behind (packet_most p) [] (packet_size p - 4) (packet_size p) most (omega (arith, fits)) in
    record {
      begins = record {
        front = omega (arith, len);
        in_order = inr (λ e. absurd (omega (arith, e)), refl);
        long = record {
          told = len ∙ told;
          least = omega (arith, len);
          even = ap (λ n. n % 4) len ∙ size_even p;
          most = omega (arith, len, fits);
        };
      };
      ends = ap (λ n. word_at Little (packet_block p) (n - 4)) len ∙ last ∙ sym len;
    }

-- the interface that is wanted, once it is described
abbrev interface_at : Lane → Interface
interface_at l = record { number = lane_number l; snap = 0; check_len = 0; resolution = 9; offset = pos 0 }

abbrev section_at : Lane → Section
section_at l = record { order = Little; count = 2; taken = Some (interface_at l) }

abbrev known_at : Lane → Track
known_at l = record { wanted = Number (lane_number l); check_len = 0; section = Some (section_at l); dropped = None }

moment_is : (time : ℕ) → time < 2 ^ 63 → IsMoment (pos 0) time time
moment_is time h = omega (arith, ints, clamps, h)

time_is : (l : Lane) (ticks time : ℕ) → ticks ≡ time → time < 2 ^ 63 → IsTime (interface_at l) ticks time
time_is l ticks time e h =
    let since : time ≡ ticks * 1000000000 / 1000000000 = omega (arith, e) in
    subst (λ (n : ℕ). IsMoment (pos 0) n time) since (moment_is time h)

packet_is_timed : (l : Lane) (p : Written) → IsWritable p → IsTimedPacket (interface_at l) Little (packet_block p) (captured_of p)
packet_is_timed l p is =
    let held : word_at Little (packet_block p) 20 ≡ length p.octets = from_le_bytes-to_le_bytes_4 (length p.octets) (omega (arith, is.octets)) in
    let whole : word_at Little (packet_block p) 24 ≡ p.len = from_le_bytes-to_le_bytes_4 p.len is.len in
    let high : word_at Little (packet_block p) 12 ≡ p.time / 2 ^ 32 = from_le_bytes-to_le_bytes_4 (p.time / 2 ^ 32) (omega (arith, is.time)) in
    let f = filling (length p.octets) in
    let c = comment_part p.comment in
    let w = word_octets (packet_size p) in
    let behind : p.octets ++ f ++ c ++ w ≡ p.octets ++ (f ++ (c ++ w)) = append_assoc (p.octets ++ f) c w ∙ append_assoc p.octets f (c ++ w) in
    let low : word_at Little (packet_block p) 16 ≡ p.time % 2 ^ 32 = from_le_bytes-to_le_bytes_4 (p.time % 2 ^ 32) (omega arith) in
    record {
      holds = subst (λ n. Holds 28 n (packet_block p)) (sym held) (omega (arith, packet_len p));
      time = time_is l (word_at Little (packet_block p) 12 * 2 ^ 32 + word_at Little (packet_block p) 16) p.time (omega (arith, high, low)) is.time;
      extent = ap (λ n. extent_of n p.len) (sym held) ∙ ap (extent_of (word_at Little (packet_block p) 20)) (sym whole);
      body = sym (ap (λ n. body_at 28 n 0 (packet_block p)) held ∙ ap (take (length p.octets - 0)) behind ∙ take_at p.octets (f ++ (c ++ w)) (length p.octets - 0) (omega arith));
    }

number_few : (l : Lane) → lane_number l < 2
number_few lane.A = omega arith
number_few lane.B = omega arith

-- a packet of an interface is shown to who wants that one, and not to others
shown_by : (l m : Lane) (octets : List ℕ) (captured : Captured) → IsTimedPacket (interface_at l) Little octets captured
    → ShowsTimed (of_number (Some (interface_at l)) (lane_number m)) Little octets (if lane_number l == lane_number m then captured ∷ [] else [])
shown_by lane.A lane.A octets captured is = (captured, refl, is)
shown_by lane.A lane.B octets captured is = refl
shown_by lane.B lane.A octets captured is = refl
shown_by lane.B lane.B octets captured is = (captured, refl, is)

packet_is_shown : (l : Lane) (p : Written) → IsWritable p → InEnhanced (Number (lane_number l)) (section_at l) (packet_block p) (found_at l p)
packet_is_shown l p is =
    let number : word_at Little (packet_block p) 8 ≡ lane_number p.lane = from_le_bytes-to_le_bytes_4 (lane_number p.lane) (omega (arith, number_few p.lane)) in
    subst (λ n. InTimed n (Number (lane_number l)) (section_at l) (packet_block p) (found_at l p)) (sym number)
    (omega (arith, packet_len p), number_few p.lane, tt, shown_by l p.lane (packet_block p) (captured_of p) (packet_is_timed l p is))

packet_is_step : (l : Lane) (p : Written) → IsWritable p → IsStep (known_at l) (packet_block p) (found_at l p) (known_at l)
packet_is_step l p is = (Little, packet_is_block p is, (section_at l, refl, (refl, packet_is_shown l p is)))

packets_are_blocks : (l : Lane) (ps : List Written) → All IsWritable ps
    → AreBlocks (known_at l) (flat_map packet_block ps) (flat_map (found_at l) ps) (known_at l)
packets_are_blocks l [] all = blocks_none (known_at l)
packets_are_blocks l (p ∷ ps) all =
    let rest : All IsWritable ps = λ k d below. all (suc k) d (omega (arith, below)) in
    blocks_on (known_at l) (known_at l) (known_at l) (packet_block p) (flat_map packet_block ps) (found_at l p) (flat_map (found_at l) ps)
    (blocks_one (known_at l) (packet_block p) (found_at l p) (known_at l) (packet_is_step l p (all 0 p (omega arith)))) (packets_are_blocks l ps rest)

-- the head of a file
header_is_step : (l : Lane) → IsStep (start_at l) header_block [] (in_section (start_at l) (begun Little))
header_is_step l = (
  Little,
  record {
    begins = record {
      front = omega arith;
      in_order = inl (refl, refl);
      long = record { told = refl; least = omega arith; even = refl; most = omega arith };
    };
    ends = refl;
  },
  ((omega arith, refl), refl, refl),
)

-- what a description is, whatever its name
record IsDescribed (octets : List ℕ) : Type 0 where
  block : IsBlock (Some Little) octets Little
  kind_is : kind_of Little octets ≡ kind.Interface
  long : 20 ≤ length octets
  link : half_at Little octets 8 ≡ 1
  options : List (List ℕ)
  reads : (number : ℕ) → Reads Little (between 16 (length octets - 4) octets)
      (record { number = number; snap = word_at Little octets 12; check_len = 0; resolution = 6; offset = pos 0 }) options
      (record { number = number; snap = 0; check_len = 0; resolution = 9; offset = pos 0 })

no_code : (n : ℕ) → n ≢ 9 → n ≢ 13 → n ≢ 14 → (len : ℕ) → Fits n len
no_code n a b c len = record { resolution = λ e. absurd (a e); check_len = λ e. absurd (b e); offset = λ e. absurd (c e) }

-- an option of a name, which tells nothing of packets
name_is_option : (name : List ℕ) → length (option_of 2 name) ≡ 4 + padded (half_at Little (option_of 2 name) 2) → IsOption Little (option_of 2 name)
name_is_option name size = record {
  size = size;
  code = λ e. absurd (omega (arith, e));
  value = no_code 2 (λ e. absurd (omega (arith, e))) (λ e. absurd (omega (arith, e))) (λ e. absurd (omega (arith, e))) _;
}

unit_is_option : IsOption Little (option_of 9 (9 ∷ []))
unit_is_option = record {
  size = refl;
  code = λ e. absurd (omega (arith, e));
  value = record { resolution = λ e. refl; check_len = λ e. absurd (omega (arith, e)); offset = λ e. absurd (omega (arith, e)) };
}

described_by : (octets name : List ℕ) → length octets ≡ 44 → word_at Big octets 0 ≡ 0x01000000 → kind_of Little octets ≡ kind.Interface
    → word_at Little octets 4 ≡ 44 → word_at Little octets 40 ≡ 44 → half_at Little octets 8 ≡ 1 → word_at Little octets 12 ≡ 0
    → between 16 40 octets ≡ option_of 2 name ++ (option_of 9 (9 ∷ []) ++ word_octets 0) → IsOption Little (option_of 2 name) → IsDescribed octets
described_by octets name len first is_kind told last link snap spelled is = record {
  block = record {
    begins = record {
      front = omega (arith, len);
      in_order = inr (λ e. absurd (omega (arith, e, first)), refl);
      long = record { told = len ∙ sym told; least = omega (arith, len); even = ap (λ n. n % 4) len; most = omega (arith, len) };
    };
    ends = ap (λ n. word_at Little octets (n - 4)) len ∙ last ∙ sym len;
  };
  kind_is = is_kind;
  long = omega (arith, len);
  link = link;
  options = option_of 2 name ∷ option_of 9 (9 ∷ []) ∷ [];
  reads = λ number. (
    option_of 9 (9 ∷ []) ++ word_octets 0,
    ap (λ n. between 16 (n - 4) octets) len ∙ spelled,
    is,
    (word_octets 0, refl, unit_is_option, (inr (omega arith, refl), ap (λ n. (let i : Interface = record { number = number; snap = n; check_len = 0; resolution = 9; offset = pos 0 } in i)) (sym snap))),
  );
}

described : (names : Names) (l : Lane) → IsDescribed (description (lane_name names l))
described names.Lan lane.A = described_by _ (lane_name names.Lan lane.A) refl refl refl refl refl refl refl refl (name_is_option (lane_name names.Lan lane.A) refl)
described names.Lan lane.B = described_by _ (lane_name names.Lan lane.B) refl refl refl refl refl refl refl refl (name_is_option (lane_name names.Lan lane.B) refl)
described names.Ring lane.A = described_by _ (lane_name names.Ring lane.A) refl refl refl refl refl refl refl refl (name_is_option (lane_name names.Ring lane.A) refl)
described names.Ring lane.B = described_by _ (lane_name names.Ring lane.B) refl refl refl refl refl refl refl refl (name_is_option (lane_name names.Ring lane.B) refl)

-- what is known between the two descriptions
abbrev middle_at : Lane → Section
middle_at lane.A = record { order = Little; count = 1; taken = Some (interface_at lane.A) }
middle_at lane.B = record { order = Little; count = 1; taken = None }

first_described : (l : Lane) (octets : List ℕ) → IsDescribed octets → Describes (Number (lane_number l)) 0 (begun Little) octets (middle_at l)
first_described lane.A octets d = (d.long, (d.link, tt, (interface_at lane.A, (d.options, d.reads 0), refl)))
first_described lane.B octets d = (d.long, refl)

second_described : (l : Lane) (octets : List ℕ) → IsDescribed octets → Describes (Number (lane_number l)) 0 (middle_at l) octets (section_at l)
second_described lane.A octets d = (d.long, refl)
second_described lane.B octets d = (d.long, (d.link, tt, (interface_at lane.B, (d.options, d.reads 1), refl)))

description_is_step : (track : Track) (section after : Section) (octets : List ℕ) → track.section ≡ Some section → section.order ≡ Little
    → IsDescribed octets → Describes track.wanted track.check_len section octets after → IsStep track octets [] (in_section track after)
description_is_step track section after octets here order d is =
    let own : Some Little ≡ order_in track.section = sym (ap order_in here ∙ ap (λ (o : ByteOrder). Some o) order) in (
      Little,
      subst (λ (o : Option ByteOrder). IsBlock o octets Little) own d.block,
      subst (λ k. Means k track Little octets [] (in_section track after)) (sym d.kind_is) (section, here, (refl, (after, is, refl))),
    )

middle_order : (l : Lane) → (middle_at l).order ≡ Little
middle_order lane.A = refl
middle_order lane.B = refl

head_is_read : (names : Names) (l : Lane) → AreBlocks (start_at l) (file_head names) [] (known_at l)
head_is_read names l =
    let a = description (lane_name names lane.A) in
    let b = description (lane_name names lane.B) in
    let begun_at = in_section (start_at l) (begun Little) in
    let header = blocks_one (start_at l) header_block [] begun_at (header_is_step l) in
    let first = blocks_one begun_at a [] (in_section (start_at l) (middle_at l))
    (description_is_step begun_at (begun Little) (middle_at l) a refl refl (described names lane.A) (first_described l a (described names lane.A))) in
    let second = blocks_one (in_section (start_at l) (middle_at l)) b [] (known_at l)
    (description_is_step (in_section (start_at l) (middle_at l)) (middle_at l) (section_at l) b refl (middle_order l) (described names lane.B) (second_described l b (described names lane.B))) in
    blocks_on (start_at l) (in_section (start_at l) (middle_at l)) (known_at l) (header_block ++ a) b [] []
    (blocks_on (start_at l) begun_at (in_section (start_at l) (middle_at l)) header_block a [] [] header first) second

pub what_is_written_is_read : WhatIsWrittenIsRead
what_is_written_is_read names packets l all = (
  known_at l,
  blocks_on (start_at l) (known_at l) (known_at l) (file_head names) (flat_map packet_block packets) [] (flat_map (found_at l) packets)
      (head_is_read names l) (packets_are_blocks l packets all),
)

-- the comment of a packet, behind its octets
half_behind : (code len : ℕ) (rest : List ℕ) → len < 2 ^ 16 → half_at Little (half_octets code ++ half_octets len ++ rest) 2 ≡ len
half_behind code len rest fits = from_le_bytes-to_le_bytes_2 len fits

told_part : (comment : List ℕ) → length comment < 2 ^ 16 → option_value 1 (comment_part comment) ≡ comment
told_part [] fits = refl
told_part (c ∷ cs) fits =
    let value = c ∷ cs in
    let rest = value ++ (filling (length value) ++ word_octets 0) in
    let spelled : comment_part value ≡ half_octets 1 ++ half_octets (length value) ++ rest =
    ap (λ (l : List ℕ). half_octets 1 ++ half_octets (length value) ++ l) (append_assoc value (filling (length value)) (word_octets 0)) in
    let len = half_behind 1 (length value) rest fits in
    ap (option_value 1) spelled ∙ ap (λ n. take n rest) len ∙ take_at value (filling (length value) ++ word_octets 0) (length value) refl

packet_options : (p : Written) → IsWritable p → options_in (packet_block p) ≡ comment_part p.comment
packet_options p is =
    let held : word_at Little (packet_block p) 20 ≡ length p.octets = from_le_bytes-to_le_bytes_4 (length p.octets) (omega (arith, is.octets)) in
    let front = packet_front p ++ p.octets ++ filling (length p.octets) in
    let front_len : length front ≡ 28 + padded (length p.octets) = omega (arith, length-append p.octets (filling (length p.octets)), length-take ((4 - length p.octets % 4) % 4) zeros) in
    let most : take (length (packet_block p) - 4) (packet_block p) ≡ packet_most p =
    take_at (packet_most p) (word_octets (packet_size p)) (length (packet_block p) - 4) (omega (arith, packet_len p, most_len p)) in
    ap (λ (n : ℕ). drop (28 + padded n) (take (length (packet_block p) - 4) (packet_block p))) held ∙ ap (drop (28 + padded (length p.octets))) most
    ∙ drop_at front (comment_part p.comment) (28 + padded (length p.octets)) front_len

pub comments_are_read : CommentsAreRead
comments_are_read p is = (ap (option_value 1) (packet_options p is) ∙ told_part p.comment is.comment, from_le_bytes-to_le_bytes_4 p.len is.len)

pub names_are_read : NamesAreRead
names_are_read names.Lan lane.A = refl
names_are_read names.Lan lane.B = refl
names_are_read names.Ring lane.A = refl
names_are_read names.Ring lane.B = refl
