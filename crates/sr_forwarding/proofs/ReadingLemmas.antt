-- A framing answers to octets in one way.
use Rattle.std.proofs.Common.{◌≡◌, ℕ, ◌<◌, ◌≤◌, ◌⊎◌, List, length, Some, None, Result, Ok, Err, false, not, refl, sym, ap, ◌∙◌, arith, inl, inr}
use Rattle.sr_frame.specs.Frame.{HasFrameLength, least_len}
use Rattle.sr_frame.specs.LengthLemmas.{least_len_bounds}
use Rattle.sr_hsr_tag.specs.TagLemmas.{tagged_once}
use Rattle.sr_hsr_tag.specs.declared.tag.HsrTag.{HsrTag}
use Rattle.sr_prp_trailer.specs.TrailerLemmas.{trailed_once}
use Rattle.sr_prp_trailer.specs.declared.trailer.Lan.{Lan}
use Rattle.sr_prp_trailer.specs.declared.trailer.Trailer.{Trailer}
use Rattle.sr_forwarding.specs.declared.fault.ReadFault.{ReadFault}
use Rattle.sr_forwarding.specs.declared.fault.ReadFault.TheVariants.{TooShort, TooLong, Truncated, NotOwn, Untagged, NoMemory}
use Rattle.sr_forwarding.specs.declared.form.Form.TheVariants as form
use Rattle.sr_forwarding.specs.Parcels.{ParcelImage, plain_parcel}
use Rattle.sr_forwarding.specs.Framings.{FramingImage, Tagged, Trailed, Ordinary, path_of}
use Rattle.sr_forwarding.specs.OctetLemmas.{tagged_frame, tagged_type, tagged_long}
use Rattle.sr_forwarding.specs.Decoding.{IsTaggedParcel, IsTrailedParcel, IsSanParcel, IsRead, IsWhole, IsUnread, IsShortInside, IsCutShort, LacksNumber, Reads, longest, same_lan}

-- the parcels of a tag, of a trailer, and of neither
abbrev pub by_tag : List ℕ → HsrTag → ParcelImage
by_tag octets t = record { form = form.Hsr; octets = octets; seq = Some t.seq; path = t.path; wrong_lan = false }

abbrev pub by_trailer : Lan → ℕ → List ℕ → Trailer → ParcelImage
by_trailer lan net octets t = record { form = form.Prp; octets = octets; seq = Some t.seq; path = path_of lan net; wrong_lan = not (same_lan t.lan lan) }

abbrev pub by_nothing : List ℕ → ParcelImage
by_nothing octets = plain_parcel octets None

tagged_parcel_once : (octets : List ℕ) (p q : ParcelImage) → IsTaggedParcel octets p → IsTaggedParcel octets q → p ≡ q
tagged_parcel_once octets p q a b =
    let both = tagged_once octets a.plain b.plain a.tag b.tag a.tagged b.tagged in
    a.parcel ∙ ap (by_tag octets) both.1 ∙ sym b.parcel

in_lan_once : (lan : Lan) (net : ℕ) (octets : List ℕ) (p q : ParcelImage) → (IsTrailedParcel lan net octets p ⊎ IsSanParcel net octets p) → (IsTrailedParcel lan net octets q ⊎ IsSanParcel net octets q) → p ≡ q
in_lan_once lan net octets p q (inl a) (inl b) =
    let both = trailed_once octets a.plain b.plain a.trailer b.trailer a.trailed b.trailed in
    a.parcel ∙ ap (by_trailer lan net octets) both.1 ∙ sym b.parcel
in_lan_once lan net octets p q (inl a) (inr b) = absurd (b.alone a.plain a.trailer a.trailed)
in_lan_once lan net octets p q (inr a) (inl b) = absurd (a.alone b.plain b.trailer b.trailed)
in_lan_once lan net octets p q (inr a) (inr b) = a.unnumbered.parcel ∙ sym b.unnumbered.parcel

read_once : (f : FramingImage) (octets : List ℕ) (p q : ParcelImage) → IsRead f octets p → IsRead f octets q → p ≡ q
read_once (Tagged path) octets p q a b = tagged_parcel_once octets p q a b
read_once (Trailed lan net) octets p q a b = in_lan_once lan net octets p q a b
read_once Ordinary octets p q a b = a.0.parcel ∙ sym b.0.parcel

lan_whole : (lan : Lan) (net : ℕ) (octets : List ℕ) (p : ParcelImage) → (IsTrailedParcel lan net octets p ⊎ IsSanParcel net octets p) → HasFrameLength octets
lan_whole lan net octets p (inl a) = a.frame
lan_whole lan net octets p (inr a) = a.unnumbered.frame

-- what is read is whole
whole : (f : FramingImage) (octets : List ℕ) (p : ParcelImage) → IsRead f octets p → IsWhole f octets
whole (Tagged path) octets p a = let h = tagged_frame octets a.plain a.tag a.tagged in record { least = h.least; most = h.most }
whole (Trailed lan net) octets p a = let h = lan_whole lan net octets p a in record { least = h.least; most = h.most }
whole Ordinary octets p a = record { least = a.0.frame.least; most = a.1 }

not_short_inside : (f : FramingImage) (octets : List ℕ) (p : ParcelImage) → IsRead f octets p → IsShortInside f octets → ⊥
not_short_inside (Tagged path) octets p a b =
    let both = tagged_once octets a.plain b.plain a.tag b.tag a.tagged b.tagged in
    omega (arith, ap length both.0, ap least_len both.0, a.frame.least, b.short)
not_short_inside (Trailed lan net) octets p a b = b
not_short_inside Ordinary octets p a b = b

not_cut : (f : FramingImage) (octets : List ℕ) (p : ParcelImage) → IsRead f octets p → IsCutShort f octets → ⊥
not_cut (Tagged path) octets p a b = omega (arith, tagged_long octets a.plain a.tag a.tagged, b.1)
not_cut (Trailed lan net) octets p a b = b
not_cut Ordinary octets p a b = b

lan_numbered : (lan : Lan) (net : ℕ) (octets : List ℕ) (p : ParcelImage) → (IsTrailedParcel lan net octets p ⊎ IsSanParcel net octets p) → LacksNumber (Trailed lan net) octets → ⊥
lan_numbered lan net octets p (inl a) b = b.1 a.plain a.trailer a.trailed
lan_numbered lan net octets p (inr a) b = omega (arith, a.node, b.0)

not_lacking : (f : FramingImage) (octets : List ℕ) (p : ParcelImage) → IsRead f octets p → LacksNumber f octets → ⊥
not_lacking (Tagged path) octets p a b = b (tagged_type octets a.plain a.tag a.tagged)
not_lacking (Trailed lan net) octets p a b = lan_numbered lan net octets p a b
not_lacking Ordinary octets p a b = b

not_too_short : (f : FramingImage) (octets : List ℕ) (p : ParcelImage) → IsRead f octets p → ((length octets < least_len octets) ⊎ IsShortInside f octets) → ⊥
not_too_short f octets p a (inl short) = omega (arith, short, (whole f octets p a).least)
not_too_short f octets p a (inr inside) = not_short_inside f octets p a inside

-- what is read is not refused
not_both : (f : FramingImage) (octets : List ℕ) (p : ParcelImage) (e : ReadFault) → IsRead f octets p → IsUnread f octets e → ⊥
not_both f octets p TooShort a b = not_too_short f octets p a b
not_both f octets p TooLong a b = omega (arith, b, (whole f octets p a).most)
not_both f octets p Truncated a b = not_cut f octets p a b.1
not_both f octets p NotOwn a b = b
not_both f octets p Untagged a b = not_lacking f octets p a b.1
not_both f octets p NoMemory a b = b

longest_least : (f : FramingImage) → 1518 ≤ longest f
longest_least (Tagged path) = omega arith
longest_least (Trailed lan net) = omega arith
longest_least Ordinary = omega arith

-- a frame that is short inside is whole, has the type of a tag, and all six octets behind it
inside_fits : (f : FramingImage) (octets : List ℕ) → IsShortInside f octets → IsWhole f octets
inside_fits (Tagged path) octets b = let h = tagged_frame octets b.plain b.tag b.tagged in record { least = h.least; most = h.most }
inside_fits (Trailed lan net) octets b = absurd b
inside_fits Ordinary octets b = absurd b

inside_not_cut : (f : FramingImage) (octets : List ℕ) → IsShortInside f octets → IsCutShort f octets → ⊥
inside_not_cut (Tagged path) octets b c = omega (arith, tagged_long octets b.plain b.tag b.tagged, c.1)
inside_not_cut (Trailed lan net) octets b c = b
inside_not_cut Ordinary octets b c = b

inside_not_lacking : (f : FramingImage) (octets : List ℕ) → IsShortInside f octets → LacksNumber f octets → ⊥
inside_not_lacking (Tagged path) octets b c = c (tagged_type octets b.plain b.tag b.tagged)
inside_not_lacking (Trailed lan net) octets b c = b
inside_not_lacking Ordinary octets b c = b

cut_not_lacking : (f : FramingImage) (octets : List ℕ) → IsCutShort f octets → LacksNumber f octets → ⊥
cut_not_lacking (Tagged path) octets b c = c b.0
cut_not_lacking (Trailed lan net) octets b c = b
cut_not_lacking Ordinary octets b c = b

short_not_long : (f : FramingImage) (octets : List ℕ) → IsUnread f octets TooShort → longest f < length octets → ⊥
short_not_long f octets (inl short) long = omega (arith, short, long, least_len_bounds octets, longest_least f)
short_not_long f octets (inr inside) long = omega (arith, long, (inside_fits f octets inside).most)

short_not_cut : (f : FramingImage) (octets : List ℕ) → IsUnread f octets TooShort → IsWhole f octets → IsCutShort f octets → ⊥
short_not_cut f octets (inl short) w cut = omega (arith, short, w.least)
short_not_cut f octets (inr inside) w cut = inside_not_cut f octets inside cut

short_not_lacking : (f : FramingImage) (octets : List ℕ) → IsUnread f octets TooShort → IsWhole f octets → LacksNumber f octets → ⊥
short_not_lacking f octets (inl short) w lacks = omega (arith, short, w.least)
short_not_lacking f octets (inr inside) w lacks = inside_not_lacking f octets inside lacks

-- octets are refused for one reason
fault_once : (f : FramingImage) (octets : List ℕ) (e g : ReadFault) → IsUnread f octets e → IsUnread f octets g → e ≡ g
fault_once f octets NotOwn g a b = absurd a
fault_once f octets NoMemory g a b = absurd a
fault_once f octets TooShort TooShort a b = refl
fault_once f octets TooShort TooLong a b = absurd (short_not_long f octets a b)
fault_once f octets TooShort Truncated a b = absurd (short_not_cut f octets a b.0 b.1)
fault_once f octets TooShort NotOwn a b = absurd b
fault_once f octets TooShort Untagged a b = absurd (short_not_lacking f octets a b.0 b.1)
fault_once f octets TooShort NoMemory a b = absurd b
fault_once f octets TooLong TooShort a b = absurd (short_not_long f octets b a)
fault_once f octets TooLong TooLong a b = refl
fault_once f octets TooLong Truncated a b = absurd (omega (arith, a, b.0.most))
fault_once f octets TooLong NotOwn a b = absurd b
fault_once f octets TooLong Untagged a b = absurd (omega (arith, a, b.0.most))
fault_once f octets TooLong NoMemory a b = absurd b
fault_once f octets Truncated TooShort a b = absurd (short_not_cut f octets b a.0 a.1)
fault_once f octets Truncated TooLong a b = absurd (omega (arith, b, a.0.most))
fault_once f octets Truncated Truncated a b = refl
fault_once f octets Truncated NotOwn a b = absurd b
fault_once f octets Truncated Untagged a b = absurd (cut_not_lacking f octets a.1 b.1)
fault_once f octets Truncated NoMemory a b = absurd b
fault_once f octets Untagged TooShort a b = absurd (short_not_lacking f octets b a.0 a.1)
fault_once f octets Untagged TooLong a b = absurd (omega (arith, b, a.0.most))
fault_once f octets Untagged Truncated a b = absurd (cut_not_lacking f octets b.1 a.1)
fault_once f octets Untagged NotOwn a b = absurd b
fault_once f octets Untagged Untagged a b = refl
fault_once f octets Untagged NoMemory a b = absurd b

pub reads_once : (f : FramingImage) (octets : List ℕ) (r s : Result ParcelImage ReadFault) → Reads f octets r → Reads f octets s → r ≡ s
reads_once f octets (Ok p) (Ok q) a b = ap Ok (read_once f octets p q a b)
reads_once f octets (Ok p) (Err e) a b = absurd (not_both f octets p e a b)
reads_once f octets (Err e) (Ok p) a b = absurd (not_both f octets p e b a)
reads_once f octets (Err e) (Err g) a b = ap Err (fault_once f octets e g a b)
