-- What a role's node puts at an outlet is written there.
use Rattle.std.proofs.Common.{◌≡◌, ℕ, ◌+◌, ◌-◌, ◌<◌, ◌≤◌, Bool, true, false, List, [], ◌∷◌, ◌⊎◌, length, Option, None, Some, refl, sym, ap, subst, ◌∙◌, arith, inl, inr}
use Rattle.std.specs.Prelude.{replicate}
use Rattle.std.proofs.lemmas.Bool.{cases_Bool, le-ltb}
use Rattle.std.proofs.lemmas.List.{length-append, length-replicate}
use Rattle.sr_frame.specs.Frame.{least_len, padded}
use Rattle.sr_frame.specs.LengthLemmas.{least_len_bounds}
use Rattle.sr_frame.specs.declared.ports.Port.{Port}
use Rattle.sr_frame.specs.declared.ports.Port.TheVariants as port
use Rattle.sr_frame.specs.declared.ports.Port.TheVariants.{H}
use Rattle.sr_sequence.specs.declared.Seq.{Seq}
use Rattle.sr_prp_trailer.specs.Trailed.{trailer_octets}
use Rattle.sr_prp_trailer.specs.declared.trailer.Lan.{Lan}
use Rattle.sr_prp_trailer.specs.declared.trailer.Lan.TheVariants as lan
use Rattle.sr_forwarding.specs.declared.form.Form.{Form}
use Rattle.sr_forwarding.specs.declared.form.Form.TheVariants.{Plain, Hsr, Prp}
use Rattle.sr_forwarding.specs.declared.header.Header.{Header}
use Rattle.sr_forwarding.specs.declared.role_image.RoleImage.{RoleImage}
use Rattle.sr_forwarding.specs.declared.kind.RoleKind.{RoleKind}
use Rattle.sr_forwarding.specs.Outlets.{has, to}
use Rattle.sr_forwarding.specs.Octets.{plain_in}
use Rattle.sr_forwarding.specs.OctetLemmas.{without_tag_is, without_trailer_is, tagged_len}
use Rattle.sr_forwarding.specs.Parcels.{ParcelImage, plain_of}
use Rattle.sr_forwarding.specs.Framings.{FramingImage, Tagged, Trailed, Ordinary}
use Rattle.sr_forwarding.specs.Decoding.{IsSanParcel, IsTaggedParcel, IsTrailedParcel}
use Rattle.sr_forwarding.specs.Encoding.{padded_plain, number_fault, write_fault_in, write_fault}
use Rattle.sr_forwarding.specs.Carriage.{IsNumberedPlain, IsTaken, IsTakenBy, IsTakenAt, copy_for}
use Rattle.sr_forwarding.specs.Kinds.{framing_at, interlink_framing, side_framing, takes_unnumbered}
use Rattle.sr_forwarding.specs.KindLemmas.{Numbers, NumbersAt, interlink_numbers, side_numbers, unnumbered_to_host}
use Rattle.sr_forwarding.specs.Routes.{routes, routes_of}

-- a parcel with a number, whose plain form leaves room for a tag
record IsCarried (p : ParcelImage) : Type 0 where
  seq : Seq
  numbered : p.seq ≡ Some seq
  most : length (plain_of p) ≤ 1518

-- padding makes nothing long
padded_most : (octets : List ℕ) → length octets ≤ 1518 → length (padded octets) ≤ 1518
padded_most octets most =
    let n = least_len octets + 46 - length octets in
    omega (arith, length-append octets (replicate n 0), length-replicate {A = ℕ} n 0, least_len_bounds octets)

numbered_passes : (p : ParcelImage) (number : Option Seq) (seq : Seq) → number ≡ Some seq → length (padded_plain p) ≤ 1518 → number_fault p number ≡ None
numbered_passes p number seq is most = ap (number_fault p) is ∙ rw (le-ltb 1518 (length (padded_plain p)) most) refl

carried_number : (p : ParcelImage) → IsCarried p → number_fault p p.seq ≡ None
carried_number p c = numbered_passes p p.seq c.seq c.numbered (padded_most (plain_of p) c.most)

passes : (f : FramingImage) (form : Form) (p : ParcelImage) → IsCarried p → write_fault_in f form p ≡ None
passes (Tagged path) Plain p c = carried_number p c
passes (Tagged path) Hsr p c = refl
passes (Tagged path) Prp p c = carried_number p c
passes (Trailed lan net) Plain p c = carried_number p c
passes (Trailed lan net) Hsr p c = carried_number p c
passes (Trailed lan net) Prp p c = refl
passes Ordinary form p c = refl

carried_plain : (p : ParcelImage) → IsNumberedPlain p → IsCarried p
carried_plain p is = record {
  seq = is.seq;
  numbered = is.numbered;
  most = omega (arith, ap (λ f. length (plain_in f p.octets)) is.form, is.most);
}

carried_tagged : (p : ParcelImage) (octets : List ℕ) → IsTaggedParcel octets p → IsCarried p
carried_tagged p octets is =
    let plain : plain_of p ≡ is.plain = ap plain_of is.parcel ∙ without_tag_is octets is.plain is.tag is.tagged in
    record {
      seq = is.tag.seq;
      numbered = ap (λ (q : ParcelImage). q.seq) is.parcel;
      most = omega (arith, ap length plain, tagged_len octets is.plain is.tag is.tagged, ap length is.tagged.spelled, is.tagged.legal.size);
    }

carried_trailed : (p : ParcelImage) (lan : Lan) (net : ℕ) (octets : List ℕ) → IsTrailedParcel lan net octets p → IsCarried p
carried_trailed p lan net octets is =
    let plain : plain_of p ≡ is.plain = ap plain_of is.parcel ∙ without_trailer_is octets is.plain is.trailer is.trailed in
    record {
      seq = is.trailer.seq;
      numbered = ap (λ (q : ParcelImage). q.seq) is.parcel;
      most = omega (arith, ap length plain, ap length is.trailed.spelled, length-append is.plain (trailer_octets is.trailer), is.frame.most);
    }

-- at a RedBox every frame of the LAN has a trailer
carried_in_lan : (p : ParcelImage) (lan : Lan) (net : ℕ) (octets : List ℕ) → 0 < net → (IsTrailedParcel lan net octets p ⊎ IsSanParcel net octets p) → IsCarried p
carried_in_lan p lan net octets some (inl is) = carried_trailed p lan net octets is
carried_in_lan p lan net octets some (inr is) = absurd (omega (arith, some, is.node))

carried_by : (f : FramingImage) (p : ParcelImage) → Numbers f → IsTakenBy f p → IsCarried p
carried_by (Tagged path) p some t = carried_tagged p t.0 t.1
carried_by (Trailed lan net) p some t = carried_in_lan p lan net t.0 some t.1
carried_by Ordinary p some t = carried_plain p t

carried_at : (f : Option FramingImage) (p : ParcelImage) → NumbersAt f → IsTakenAt f p → IsCarried p
carried_at None p some t = absurd t
carried_at (Some f) p some t = carried_by f p some t

abbrev Passes : ParcelImage → Option FramingImage → Type 0
Passes p None = Unit {0}
Passes p (Some f) = write_fault f p ≡ None

host_passes : (f : FramingImage) (p : ParcelImage) → Some Ordinary ≡ Some f → write_fault f p ≡ None
host_passes f p e = subst (Passes p) e refl

nothing_both : (b : Bool) {X : Type 0} → b ≡ true → b ≡ false → X
nothing_both b t f = let no : true ≡ false = sym t ∙ f in absurd cc

-- from A or B: a frame without a number goes to the host alone
side_passes : (kind : RoleKind) (side : Lan) (p : ParcelImage) (f : FramingImage) (wanted : Bool) → wanted ≡ true → (takes_unnumbered kind ≡ true → wanted ≡ false) → IsTakenBy (side_framing kind side) p → write_fault f p ≡ None
side_passes kind side p f wanted is up t = elim (cases_Bool (takes_unnumbered kind)) [
  | inl takes ↦ nothing_both wanted is (up takes)
  | inr none ↦ passes f p.form p (carried_by (side_framing kind side) p (side_numbers kind side none) t)
]

kind_passes : (kind : RoleKind) (r : RoleImage) (h : Header) (inlet outlet : Port) (now : ℕ) (p : ParcelImage) (f : FramingImage) → has (to (H ∷ [])) outlet ≡ false → has (to []) outlet ≡ false → IsTaken kind inlet p → has (routes_of kind r h inlet now) outlet ≡ true → write_fault f p ≡ None
kind_passes kind r h port.H outlet now p f host none t wanted = passes f p.form p (carried_plain p t)
kind_passes kind r h port.A outlet now p f host none t wanted =
    side_passes kind lan.A p f (has (routes_of kind r h port.A now) outlet) wanted (λ takes. (unnumbered_to_host kind r h outlet now takes host none).0) t
kind_passes kind r h port.B outlet now p f host none t wanted =
    side_passes kind lan.B p f (has (routes_of kind r h port.B now) outlet) wanted (λ takes. (unnumbered_to_host kind r h outlet now takes host none).1) t
kind_passes kind r h port.C outlet now p f host none t wanted =
    passes f p.form p (carried_at (interlink_framing kind) p (interlink_numbers kind) t)

pub written : (r : RoleImage) (h : Header) (inlet outlet : Port) (now : ℕ) (p : ParcelImage) (f : FramingImage) → IsTaken r.kind inlet p → has (routes r h inlet now) outlet ≡ true → framing_at r.kind outlet ≡ Some f → write_fault f (copy_for outlet p) ≡ None
written r h inlet port.H now p f t wanted e = host_passes f (copy_for port.H p) e
written r h inlet port.A now p f t wanted e = kind_passes r.kind r h inlet port.A now p f refl refl t wanted
written r h inlet port.B now p f t wanted e = kind_passes r.kind r h inlet port.B now p f refl refl t wanted
written r h inlet port.C now p f t wanted e = kind_passes r.kind r h inlet port.C now p f refl refl t wanted
