-- No frame goes back into its PRP network.
use Rattle.std.proofs.Common.{◌≡◌, ℕ, ◌/◌, ◌⊎◌, inl, inr, Bool, true, false, List, [], ◌∷◌, refl, sym, ap, subst, ◌∙◌, arith}
use Rattle.std.specs.Prelude.{if◌then◌else◌}
use Rattle.std.proofs.lemmas.Bool.{eq-eqb}
use Rattle.sr_frame.specs.declared.ports.Port.{Port}
use Rattle.sr_frame.specs.declared.ports.Port.TheVariants.{A, B, C}
use Rattle.sr_hsr_tag.specs.TagLemmas.{tagged_once}
use Rattle.sr_hsr_tag.specs.declared.tag.HsrTag.{HsrTag}
use Rattle.sr_prp_trailer.specs.declared.trailer.Lan.{Lan}
use Rattle.sr_prp_trailer.specs.declared.trailer.Lan.TheVariants as lan
use Rattle.sr_forwarding.specs.declared.form.Form.{Form}
use Rattle.sr_forwarding.specs.declared.form.Form.TheVariants as form
use Rattle.sr_forwarding.specs.declared.header.Header.{Header}
use Rattle.sr_forwarding.specs.declared.outlets.Outlets.{Outlets}
use Rattle.sr_forwarding.specs.declared.role_image.RoleImage.{RoleImage}
use Rattle.sr_forwarding.specs.NetIds.{number_of}
use Rattle.sr_forwarding.specs.Outlets.{has}
use Rattle.sr_forwarding.specs.Routes.{is_own, to_group, is_from_role, box_routes, routes_of}
use Rattle.sr_forwarding.specs.Parcels.{ParcelImage}
use Rattle.sr_forwarding.specs.Framings.{Tagged, Trailed, path_of}
use Rattle.sr_forwarding.specs.Decoding.{IsRead, IsTaggedParcel}
use Rattle.sr_forwarding.specs.Encoding.{IsWritten, IsTaggedAnew}
use Rattle.sr_redbox.specs.Nets.{IsOfNet, PathsNameNets, NoFrameGoesBack}

half : (l : Lan) (net : ℕ) → path_of l net / 2 ≡ net
half lan.A net = omega arith
half lan.B net = omega arith

-- the tag that is written is the tag that is read
tag_read : (path other : ℕ) (p q : ParcelImage) (octets : List ℕ) → IsTaggedAnew path p octets → IsTaggedParcel octets q → q.path ≡ path
tag_read path other p q octets w r =
    ap (λ (x : ParcelImage). x.path) r.parcel ∙ ap (λ (t : HsrTag). t.path) (sym (tagged_once octets _ r.plain w.tag r.tag w.tagged r.tagged).1) ∙ w.path_is

-- what came from a LAN is written with its parcel's path
anew : (path : ℕ) (f : Form) (p : ParcelImage) (octets : List ℕ) → f ≡ form.Prp → IsWritten (Tagged path) f p octets → IsTaggedAnew p.path p octets
anew path f p octets is w = subst (λ g. IsWritten (Tagged path) g p octets) is w

pub paths_name_nets : PathsNameNets
paths_name_nets net path octets q some from read = by from.read
  where
    by : IsRead (Trailed from.lan net) from.received from.parcel → IsOfNet net q.path
    by (inl t) =
        let new = anew from.path from.parcel.form from.parcel octets (ap (λ (x : ParcelImage). x.form) t.parcel) from.written in
        let same : q.path ≡ path_of from.lan net = tag_read from.parcel.path path from.parcel q octets new read ∙ ap (λ (x : ParcelImage). x.path) t.parcel in
        ap (λ n. n / 2) same ∙ half from.lan net
    by (inr s) = absurd (omega (arith, s.node))

-- of sets that tests pick, none has a port
pick : (a b c d : Bool) (o1 o2 o3 o4 o5 : Outlets) (p : Port) → has o1 p ≡ false → has o2 p ≡ false → has o3 p ≡ false → has o4 p ≡ false → has o5 p ≡ false
    → has (if a then o1 else if b then o2 else if c then o3 else if d then o4 else o5) p ≡ false
pick true b c d o1 o2 o3 o4 o5 p h1 h2 h3 h4 h5 = h1
pick false true c d o1 o2 o3 o4 o5 p h1 h2 h3 h4 h5 = h2
pick false false true d o1 o2 o3 o4 o5 p h1 h2 h3 h4 h5 = h3
pick false false false true o1 o2 o3 o4 o5 p h1 h2 h3 h4 h5 = h4
pick false false false false o1 o2 o3 o4 o5 p h1 h2 h3 h4 h5 = h5

closed : (r : RoleImage) (h : Header) (inlet : Port) → (inlet ≡ A) ⊎ (inlet ≡ B) → has (box_routes r h inlet []) C ≡ false
closed r h inlet (inl a) = subst (λ q. has (box_routes r h q []) C ≡ false) (sym a) (pick (is_from_role r h) (is_own r h) h.supervision (to_group h) _ _ _ _ _ C refl refl refl refl refl)
closed r h inlet (inr b) = subst (λ q. has (box_routes r h q []) C ≡ false) (sym b) (pick (is_from_role r h) (is_own r h) h.supervision (to_group h) _ _ _ _ _ C refl refl refl refl refl)

pub no_frame_goes_back : NoFrameGoesBack
no_frame_goes_back r lan net h inlet now kind of_net ring =
    subst (λ k. has (routes_of k r h inlet now) C ≡ false) (sym kind)
    (subst (λ b. has (box_routes r h inlet (if b then [] else C ∷ [])) C ≡ false) (sym (eq-eqb (h.path / 2) (number_of net) of_net)) (closed r h inlet ring))
