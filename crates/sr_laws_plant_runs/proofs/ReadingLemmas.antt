-- What a copy is read as where it comes in.
use Rattle.std.proofs.Common.{◌≡◌, ◌⊎◌, inl, inr, ℕ, ◌<◌, not, true, false, List, Some, None, sym, ap, ◌∙◌, subst, arith}
use Rattle.std.specs.Prelude.{◌/◌}
use Rattle.std.proofs.lemmas.Bool.{eq-eqb, ne_eqb}
use Rattle.sr_frame.specs.Frame.{padded}
use Rattle.sr_frame.specs.declared.ports.Port.{Port}
use Rattle.sr_frame.specs.declared.ports.Port.TheVariants.{H, A, B, C}
use Rattle.sr_sequence.specs.declared.Seq.{Seq}
use Rattle.sr_prp_trailer.specs.declared.trailer.Lan.{Lan}
use Rattle.sr_prp_trailer.specs.declared.trailer.Lan.TheVariants as lan
use Rattle.sr_forwarding.specs.declared.role_image.RoleImage.{RoleImage}
use Rattle.sr_forwarding.specs.declared.kind.RoleKind.TheVariants.{Danp}
use Rattle.sr_forwarding.specs.declared.header.Header.{Header}
use Rattle.sr_forwarding.specs.Parcels.{ParcelImage, plain_of, plain_parcel}
use Rattle.sr_forwarding.specs.Framings.{FramingImage, Tagged, Trailed, path_of}
use Rattle.sr_forwarding.specs.Kinds.{carriage}
use Rattle.sr_forwarding.specs.NetIds.{number_of}
use Rattle.sr_forwarding.specs.KindLemmas.{is_numbered}
use Rattle.sr_forwarding.specs.Decoding.{IsRead}
use Rattle.sr_forwarding.specs.Outlets.{has}
use Rattle.sr_forwarding.specs.Routes.{routes}
use Rattle.sr_node.specs.Arriving.{is_plain}
use Rattle.sr_laws_plant.specs.Frames.{Frame}
use Rattle.sr_laws_plant.specs.Ledger.{Hop}
use Rattle.sr_laws_plant.specs.RingLans.{is_in_ring}
use Rattle.sr_laws_box.specs.Crossings.{IsReadThere}
use Rattle.sr_laws_box.proofs.CrossingLemmas.{new_in_ring, new_in_lan, stays_tagged, lan_to_ring, ring_to_lan}
use Rattle.sr_plant.specs.declared.topology.Topology.{Topology}
use Rattle.sr_plant.specs.declared.topology.Topology.TheVariants.{Ring, TwinLan, RingLan, TwoRings}
use Rattle.sr_plant.specs.Topologies.{framing_of, kind_of, lan_shape, IsJoinedAs}
use Rattle.sr_laws_plant_runs.specs.Histories.{is_outlet}
use Rattle.sr_laws_plant_runs.proofs.WireLemmas.{IsTag, IsTrail, IsFromRing, IsFromLan, IsWire, networked, carried}
use Rattle.sr_laws_plant_runs.proofs.RouteLemmas.{IsPathFor, no_lan_to_lan}

-- whatever octets a parcel goes out as, they are read at node j as this plain frame, and the path is right for it there
pub record IsCarried (t : Topology) (out into : FramingImage) (j : ℕ) (p : ParcelImage) (plain : List ℕ) (seq : Seq) (f : Frame) : Type 0 where
  pub path : ℕ
  pub reads : IsReadThere out into p plain seq path
  pub tells : IsPathFor t j path f

half : (l : Lan) (net : ℕ) → path_of l net / 2 ≡ net
half lan.A net = omega arith
half lan.B net = omega arith

-- what node k numbered, over each of its wires
new_tag_tells : (t : Topology) (n : ℕ) → IsJoinedAs t n → (k j path : ℕ) (f : Frame) → IsFromRing t k → path < 2 → f.src ≡ k → IsPathFor t j path f
new_tag_tells Ring n joined k j path f from low src = tt
new_tag_tells TwinLan n joined k j path f from low src = tt
new_tag_tells (RingLan s) n joined k j path f from low src = λ inside.
    ne_eqb (path / 2) (number_of s.net) (λ e. let net = is_numbered s.net in omega (arith, e, net, low)) ∙ sym (ap not (ap (is_in_ring (lan_shape s)) src ∙ from))
new_tag_tells (TwoRings s) n joined k j path f from low src = tt

new_trail_tells : (t : Topology) (k : ℕ) (h : Hop) (l : Lan) (net : ℕ) (f : Frame) → IsFromLan t k h → framing_of t h.to.node h.to.port ≡ Trailed l net → f.src ≡ k → IsPathFor t h.to.node (path_of l net) f
new_trail_tells Ring k h l net f from at src = tt
new_trail_tells TwinLan k h l net f from at src = tt
new_trail_tells (RingLan s) k h l net f from at src = λ inside.
    let there = from inside in
    let both : Trailed l net ≡ Trailed there.1.0 (number_of s.net) = sym at ∙ there.1.1 in
    let same : net ≡ number_of s.net = cc in
    eq-eqb (path_of l net / 2) (number_of s.net) (half l net ∙ same) ∙ sym (ap not (ap (is_in_ring (lan_shape s)) src ∙ there.0))
new_trail_tells (TwoRings s) k h l net f from at src = tt

pub new_carried : (t : Topology) (n : ℕ) → IsJoinedAs t n → (k : ℕ) (o : Port) (h : Hop) → IsWire t k o h → (frame : List ℕ) (seq : Seq) (f : Frame) → f.src ≡ k →
    IsCarried t (framing_of t k o) (framing_of t h.to.node h.to.port) h.to.node (plain_parcel frame (Some seq)) (padded frame) seq f
new_carried t n joined k o h wire frame seq f src = elim wire.alike [
  | inl tag ↦ record {
    path = tag.0.0;
    reads = subst (λ x. IsReadThere x (framing_of t h.to.node h.to.port) (plain_parcel frame (Some seq)) (padded frame) seq tag.0.0) (sym tag.0.1)
        (subst (λ x. IsReadThere (Tagged tag.0.0) x (plain_parcel frame (Some seq)) (padded frame) seq tag.0.0) (sym tag.1.1) (new_in_ring tag.0.0 tag.1.0 frame seq));
    tells = new_tag_tells t n joined k h.to.node tag.0.0 f tag.2 tag.0.2 src;
  }
  | inr trail ↦ record {
    path = path_of trail.1.0 trail.1.1;
    reads = subst (λ x. IsReadThere x (framing_of t h.to.node h.to.port) (plain_parcel frame (Some seq)) (padded frame) seq (path_of trail.1.0 trail.1.1)) (sym trail.0.2)
        (subst (λ x. IsReadThere (Trailed trail.0.0 trail.0.1) x (plain_parcel frame (Some seq)) (padded frame) seq (path_of trail.1.0 trail.1.1)) (sym trail.1.2) (new_in_lan trail.0.0 trail.1.0 trail.0.1 trail.1.1 frame seq));
    tells = new_trail_tells t k h trail.1.0 trail.1.1 f trail.2 trail.1.2 src;
  }
]

-- what has a number is not plain
pub not_plain : (f : FramingImage) (octets : List ℕ) (q : ParcelImage) (seq : Seq) → IsTag f ⊎ IsTrail f → IsRead f octets q → q.seq ≡ Some seq → is_plain q.form ≡ false
not_plain f octets q seq (inl tag) read number =
    let was = subst (λ x. IsRead x octets q) tag.1 read in
    ap (λ (x : ParcelImage). is_plain x.form) was.parcel
not_plain f octets q seq (inr trail) read number = by (subst (λ x. IsRead x octets q) trail.2 read)
  where
    by : IsRead (Trailed trail.0 trail.1) octets q → is_plain q.form ≡ false
    by (inl was) = ap (λ (x : ParcelImage). is_plain x.form) was.parcel
    by (inr san) =
        let none : q.seq ≡ None = ap (λ (x : ParcelImage). x.seq) san.unnumbered.parcel in
        absurd cc

-- the path of what came in from a LAN
trailed_path : (l : Lan) (net : ℕ) (octets : List ℕ) (q : ParcelImage) (seq : Seq) → IsRead (Trailed l net) octets q → q.seq ≡ Some seq → q.path ≡ path_of l net
trailed_path l net octets q seq (inl was) number = ap (λ (x : ParcelImage). x.path) was.parcel
trailed_path l net octets q seq (inr san) number =
    let none : q.seq ≡ None = ap (λ (x : ParcelImage). x.seq) san.unnumbered.parcel in
    absurd cc

-- what goes on with a tag keeps its path
on_tag_tells : (t : Topology) (k j path : ℕ) (f : Frame) → IsFromRing t k → IsPathFor t k path f → IsPathFor t j path f
on_tag_tells Ring k j path f from told = tt
on_tag_tells TwinLan k j path f from told = tt
on_tag_tells (RingLan s) k j path f from told = λ inside. told from
on_tag_tells (TwoRings s) k j path f from told = tt

-- what came in with a tag goes on into no box
on_trail_tells : (t : Topology) (k : ℕ) (port : Port) (h : Hop) (path : ℕ) (f : Frame) → is_outlet port (kind_of t k) ≡ true → IsTag (framing_of t k port) → IsFromLan t k h → IsPathFor t h.to.node path f
on_trail_tells Ring k port h path f at tag from = tt
on_trail_tells TwinLan k port h path f at tag from = tt
on_trail_tells (RingLan s) k port h path f place tag from = λ inside.
    let away = (from inside).0 in
    absurd (no_tag port (rw away at place) (rw away at tag))
  where
    no_tag : (p : Port) → is_outlet p Danp ≡ true → IsTag (carriage Danp p) → ⊥
    no_tag H e tag = absurd cc
    no_tag A e tag = let same = tag.1 in absurd cc
    no_tag B e tag = let same = tag.1 in absurd cc
    no_tag C e tag = absurd cc
on_trail_tells (TwoRings s) k port h path f at tag from = tt

-- a parcel as it came in at a port of node k, which puts it out again
pub passed_on : (t : Topology) (k : ℕ) (port o : Port) (h : Hop) → IsWire t k o h → is_outlet port (kind_of t k) ≡ true → (role : RoleImage) (head : Header) (now : ℕ) → role.kind ≡ kind_of t k →
    has (routes role head port now) o ≡ true →
    (octets : List ℕ) (q : ParcelImage) (seq : Seq) (f : Frame) → IsRead (framing_of t k port) octets q → q.seq ≡ Some seq → padded (plain_of q) ≡ plain_of q → IsPathFor t k q.path f →
    IsCarried t (framing_of t k o) (framing_of t h.to.node h.to.port) h.to.node q (plain_of q) seq f
passed_on t k port o h wire at role head now kind wants octets q seq f read number full told = elim (carried (kind_of t k) port (networked t k) at) [
  | inl here ↦ elim wire.alike [
    | inl tag ↦ record {
      path = q.path;
      reads = over_tags tag here;
      tells = on_tag_tells t k h.to.node q.path f tag.2 told;
    }
    | inr trail ↦ record {
      path = path_of trail.1.0 trail.1.1;
      reads = subst (λ x. IsReadThere x (framing_of t h.to.node h.to.port) q (plain_of q) seq (path_of trail.1.0 trail.1.1)) (sym trail.0.2)
          (subst (λ x. IsReadThere (Trailed trail.0.0 trail.0.1) x q (plain_of q) seq (path_of trail.1.0 trail.1.1)) (sym trail.1.2)
          (subst (λ x. IsReadThere (Trailed trail.0.0 trail.0.1) (Trailed trail.1.0 trail.1.1) q x seq (path_of trail.1.0 trail.1.1)) full
          (ring_to_lan trail.0.0 trail.1.0 trail.0.1 trail.1.1 here.0 octets q seq (subst (λ x. IsRead x octets q) here.1 read) number)));
      tells = on_trail_tells t k port h (path_of trail.1.0 trail.1.1) f at here trail.2;
    }
  ]
  | inr here ↦ elim wire.alike [
    | inl tag ↦ record {
      path = q.path;
      reads = from_lan tag here;
      tells = on_tag_tells t k h.to.node q.path f tag.2 told;
    }
    | inr trail ↦ absurd (no_lan_to_lan (kind_of t k) role head port o now (networked t k) kind wants here trail.0)
  ]
]
  where
    over_tags : IsTag (framing_of t k o) × IsTag (framing_of t h.to.node h.to.port) × IsFromRing t k → IsTag (framing_of t k port) → IsReadThere (framing_of t k o) (framing_of t h.to.node h.to.port) q (plain_of q) seq q.path
    over_tags tag here =
        subst (λ x. IsReadThere x (framing_of t h.to.node h.to.port) q (plain_of q) seq q.path) (sym tag.0.1)
        (subst (λ x. IsReadThere (Tagged tag.0.0) x q (plain_of q) seq q.path) (sym tag.1.1)
        (stays_tagged here.0 tag.0.0 tag.1.0 octets q seq (subst (λ x. IsRead x octets q) here.1 read) number))

    from_lan : IsTag (framing_of t k o) × IsTag (framing_of t h.to.node h.to.port) × IsFromRing t k → IsTrail (framing_of t k port) → IsReadThere (framing_of t k o) (framing_of t h.to.node h.to.port) q (plain_of q) seq q.path
    from_lan tag here =
        let was = subst (λ x. IsRead x octets q) here.2 read in
        subst (λ x. IsReadThere x (framing_of t h.to.node h.to.port) q (plain_of q) seq q.path) (sym tag.0.1)
        (subst (λ x. IsReadThere (Tagged tag.0.0) x q (plain_of q) seq q.path) (sym tag.1.1)
        (subst (λ x. IsReadThere (Tagged tag.0.0) (Tagged tag.1.0) q x seq q.path) full
        (subst (λ x. IsReadThere (Tagged tag.0.0) (Tagged tag.1.0) q (padded (plain_of q)) seq x) (sym (trailed_path here.0 here.1 octets q seq was number))
        (lan_to_ring here.0 here.1 tag.0.0 tag.1.0 octets q seq was number))))
