-- What a node puts out at a side is written, and read where it comes in.
use Rattle.std.proofs.Common.{◌≡◌, inl, inr, ℕ, ◌+◌, ◌-◌, ◌≤◌, nat_lt, true, false, List, [], ◌∷◌, ◌++◌, length, replicate, None, Some, refl, sym, ap, ◌∙◌, subst, arith, length-append}
use Rattle.std.specs.Int.{w16, to_be_bytes}
use Rattle.std.proofs.lemmas.Bool.{le-ltb}
use Rattle.std.proofs.lemmas.List.{length-replicate}
use Rattle.sr_frame.specs.declared.fields.Mac.{Mac}
use Rattle.sr_frame.specs.declared.ports.Port.{Port}
use Rattle.sr_frame.specs.Frame.{HasFrameLength, least_len, padded}
use Rattle.sr_frame.specs.LengthLemmas.{least_len_more, least_len_bounds}
use Rattle.sr_sequence.specs.declared.Seq.{Seq}
use Rattle.sr_hsr_tag.specs.declared.tag.HsrTag.{HsrTag}
use Rattle.sr_hsr_tag.specs.Tagged.{IsTagged}
use Rattle.sr_hsr_tag.specs.TagLemmas.{tagged_once}
use Rattle.sr_prp_trailer.specs.declared.trailer.Lan.{Lan}
use Rattle.sr_prp_trailer.specs.Trailed.{IsTrailed, trailer_octets}
use Rattle.sr_prp_trailer.specs.declared.trailer.Trailer.{Trailer}
use Rattle.sr_prp_trailer.specs.TrailerLemmas.{trailed_frame}
use Rattle.sr_supervision.specs.Written.{written, content_octets}
use Rattle.sr_forwarding.specs.declared.fault.ReadFault.{ReadFault}
use Rattle.sr_forwarding.specs.declared.fault.ReadFault.TheVariants as read
use Rattle.sr_forwarding.specs.declared.kind.RoleKind.{RoleKind}
use Rattle.sr_forwarding.specs.Decoding.{IsRead, IsUnread, IsTaggedParcel}
use Rattle.sr_forwarding.specs.declared.form.Form.TheVariants as form
use Rattle.sr_forwarding.specs.declared.header.Header.{Header}
use Rattle.sr_forwarding.specs.declared.role_image.RoleImage.{RoleImage}
use Rattle.sr_forwarding.specs.Outlets.{has}
use Rattle.sr_forwarding.specs.Routes.{routes}
use Rattle.sr_forwarding.specs.Encoding.{IsWritten, IsTaggedAnew, IsTrailedAnew, padded_plain, write_fault, write_fault_in, number_fault}
use Rattle.sr_forwarding.specs.Framings.{FramingImage, Tagged, Trailed}
use Rattle.sr_forwarding.specs.OctetLemmas.{tagged_frame, tagged_type, tagged_long}
use Rattle.sr_forwarding.specs.Parcels.{ParcelImage, plain_parcel}
use Rattle.sr_node.specs.LifeChecks.{life_says}
use Rattle.sr_laws_plant.specs.Ledger.{Hop}
use Rattle.sr_plant.specs.declared.topology.Topology.{Topology}
use Rattle.sr_plant.specs.Topologies.{framing_of, kind_of}
use Rattle.sr_laws_plant_runs.specs.Histories.{is_outlet}
use Rattle.sr_laws_plant_runs.proofs.WireLemmas.{IsWire, networked, carried}
use Rattle.sr_laws_plant_runs.proofs.RouteLemmas.{no_lan_to_lan}

-- it is written, and whatever it is written as is read
pub record Arrives (out into : FramingImage) (p : ParcelImage) : Type 0 where
  pub goes : (fault : ReadFault) → write_fault out p ≡ Some fault → ⊥
  pub comes : (octets : List ℕ) (fault : ReadFault) → IsWritten out p.form p octets → IsUnread into octets fault → ⊥

-- a plain frame that leaves room for a tag
pub record IsRoomy (frame : List ℕ) : Type 0 where
  pub least : least_len frame ≤ length frame
  pub most : length frame ≤ 1518

padded_most : (octets : List ℕ) → length octets ≤ 1518 → length (padded octets) ≤ 1518
padded_most octets most =
    let n = least_len octets + 46 - length octets in
    omega (arith, length-append octets (replicate n 0), length-replicate {A = ℕ} n 0, least_len_bounds octets, most)

padded_least : (octets : List ℕ) → IsRoomy octets → least_len (padded octets) ≤ length (padded octets)
padded_least octets fits =
    let n = least_len octets + 46 - length octets in
    let least = fits.least in
    let bounds = least_len_bounds octets in
    let same : least_len (padded octets) ≡ least_len octets = least_len_more octets (replicate n 0) (omega (arith, least, bounds)) in
    omega (arith, same, least, length-append octets (replicate n 0))

tagged_readable : (path : ℕ) (octets plain : List ℕ) (tag : HsrTag) (fault : ReadFault) → IsTagged octets plain tag → least_len plain ≤ length plain → IsUnread (Tagged path) octets fault → ⊥
tagged_readable path octets plain tag read.TooShort is least (inl short) = let f = (tagged_frame octets plain tag is).least in omega (arith, f, short)
tagged_readable path octets plain tag read.TooShort is least (inr inside) =
    let once = tagged_once octets plain inside.plain tag inside.tag is inside.tagged in
    let a : least_len plain ≡ least_len inside.plain = ap least_len once.0 in
    let b : length plain ≡ length inside.plain = ap length once.0 in
    let c = inside.short in
    omega (arith, a, b, c, least)
tagged_readable path octets plain tag read.TooLong is least long = let f = (tagged_frame octets plain tag is).most in omega (arith, f, long)
tagged_readable path octets plain tag read.Truncated is least cut = let f = tagged_long octets plain tag is in let c = cut.1.1 in omega (arith, f, c)
tagged_readable path octets plain tag read.NotOwn is least none = none
tagged_readable path octets plain tag read.Untagged is least lacks = lacks.1 (tagged_type octets plain tag is)
tagged_readable path octets plain tag read.NoMemory is least none = none

trailed_readable : (l : Lan) (net : ℕ) (octets plain : List ℕ) (trailer : Trailer) (fault : ReadFault) → IsTrailed octets plain trailer → HasFrameLength octets → IsUnread (Trailed l net) octets fault → ⊥
trailed_readable l net octets plain trailer read.TooShort is frame (inl short) = let f = frame.least in omega (arith, f, short)
trailed_readable l net octets plain trailer read.TooShort is frame (inr none) = none
trailed_readable l net octets plain trailer read.TooLong is frame long = let f = frame.most in omega (arith, f, long)
trailed_readable l net octets plain trailer read.Truncated is frame cut = cut.1
trailed_readable l net octets plain trailer read.NotOwn is frame none = none
trailed_readable l net octets plain trailer read.Untagged is frame lacks = lacks.1.1 plain trailer is
trailed_readable l net octets plain trailer read.NoMemory is frame none = none

-- what is written anew leaves room for it, and is read
pub padded_roomy : (frame : List ℕ) → IsRoomy frame → IsRoomy (padded frame)
padded_roomy frame fits = record { least = padded_least frame fits; most = padded_most frame fits.most }

anew_goes : (p : ParcelImage) (seq : Seq) (fault : ReadFault) → p.seq ≡ Some seq → IsRoomy (padded_plain p) → number_fault p p.seq ≡ Some fault → ⊥
anew_goes p seq fault number fits said =
    let none : nat_lt 1518 (length (padded_plain p)) ≡ false = le-ltb 1518 (length (padded_plain p)) fits.most in
    let no_fault : None ≡ Some fault = sym (rw (number, none) refl) ∙ said in
    absurd cc

anew_tagged : (p : ParcelImage) (path into : ℕ) (octets : List ℕ) (fault : ReadFault) → IsRoomy (padded_plain p) → IsTaggedAnew path p octets → IsUnread (Tagged into) octets fault → ⊥
anew_tagged p path into octets fault fits w unread = tagged_readable into octets (padded_plain p) w.tag fault w.tagged fits.least unread

anew_trailed : (p : ParcelImage) (l at : Lan) (net : ℕ) (octets : List ℕ) (fault : ReadFault) → IsRoomy (padded_plain p) → IsTrailedAnew l p octets → IsUnread (Trailed at net) octets fault → ⊥
anew_trailed p l at net octets fault fits w unread =
    trailed_readable at net octets (padded_plain p) (record { seq = w.seq; lan = l; size = w.size }) fault w.trailed
    (trailed_frame octets (padded_plain p) (record { seq = w.seq; lan = l; size = w.size }) w.trailed long) unread
  where
    long : length octets ≤ 1524
    long =
        let whole : length octets ≡ length (padded_plain p) + 6 = ap length w.trailed.spelled ∙ length-append (padded_plain p) (trailer_octets (record { seq = w.seq; lan = l; size = w.size })) in
        let most = fits.most in
        omega (arith, whole, most)

-- a frame of a host or a life check, over a wire
pub new_arrives : (t : Topology) (k : ℕ) (o : Port) (h : Hop) → IsWire t k o h → (frame : List ℕ) (seq : Seq) → IsRoomy frame → Arrives (framing_of t k o) (framing_of t h.to.node h.to.port) (plain_parcel frame (Some seq))
new_arrives t k o h wire frame seq fits = elim wire.alike [
  | inl tag ↦ subst (λ x. Arrives x (framing_of t h.to.node h.to.port) (plain_parcel frame (Some seq))) (sym tag.0.1) (subst (λ x. Arrives (Tagged tag.0.0) x (plain_parcel frame (Some seq))) (sym tag.1.1) (record {
    goes = λ fault said. anew_goes (plain_parcel frame (Some seq)) seq fault refl (padded_roomy frame fits) said;
    comes = λ octets fault w unread. anew_tagged (plain_parcel frame (Some seq)) tag.0.0 tag.1.0 octets fault (padded_roomy frame fits) w unread;
  }))
  | inr trail ↦ subst (λ x. Arrives x (framing_of t h.to.node h.to.port) (plain_parcel frame (Some seq))) (sym trail.0.2) (subst (λ x. Arrives (Trailed trail.0.0 trail.0.1) x (plain_parcel frame (Some seq))) (sym trail.1.2) (record {
    goes = λ fault said. anew_goes (plain_parcel frame (Some seq)) seq fault refl (padded_roomy frame fits) said;
    comes = λ octets fault w unread. anew_trailed (plain_parcel frame (Some seq)) trail.0.0 trail.1.0 trail.1.1 octets fault (padded_roomy frame fits) w unread;
  }))
]

-- a parcel as it came in
tagged_again : (path into : ℕ) (octets : List ℕ) (p : ParcelImage) → IsTaggedParcel octets p → Arrives (Tagged path) (Tagged into) p
tagged_again path into octets p was = subst (λ x. Arrives (Tagged path) (Tagged into) x) (sym was.parcel) (record {
  goes = λ fault said. absurd cc;
  comes = λ others fault w unread. tagged_readable into others was.plain was.tag fault (subst (λ o. IsTagged o was.plain was.tag) (sym w) was.tagged) was.frame.least unread;
})

tagged_over : (l at : Lan) (net to : ℕ) (octets : List ℕ) (p : ParcelImage) (seq : Seq) → p.seq ≡ Some seq → IsRoomy (padded_plain p) → IsTaggedParcel octets p → Arrives (Trailed l net) (Trailed at to) p
tagged_over l at net to octets p seq number fits was =
    let is : p.form ≡ form.Hsr = ap (λ (x : ParcelImage). x.form) was.parcel in
    record {
      goes = λ fault said. anew_goes p seq fault number fits (subst (λ f. write_fault_in (Trailed l net) f p ≡ Some fault) is said);
      comes = λ others fault w unread. anew_trailed p l at to others fault fits (subst (λ f. IsWritten (Trailed l net) f p others) is w) unread;
    }

trailed_over : (l : Lan) (net path into : ℕ) (octets : List ℕ) (p : ParcelImage) (seq : Seq) → p.seq ≡ Some seq → IsRoomy (padded_plain p) → IsRead (Trailed l net) octets p → Arrives (Tagged path) (Tagged into) p
trailed_over l net path into octets p seq number fits (inl was) =
    let is : p.form ≡ form.Prp = ap (λ (x : ParcelImage). x.form) was.parcel in
    record {
      goes = λ fault said. anew_goes p seq fault number fits (subst (λ f. write_fault_in (Tagged path) f p ≡ Some fault) is said);
      comes = λ others fault w unread. anew_tagged p p.path into others fault fits (subst (λ f. IsWritten (Tagged path) f p others) is w) unread;
    }
trailed_over l net path into octets p seq number fits (inr san) =
    let none : p.seq ≡ None = ap (λ (x : ParcelImage). x.seq) san.unnumbered.parcel in
    absurd cc

-- as its node puts it out again
pub passed_arrives : (t : Topology) (k : ℕ) (port o : Port) (h : Hop) → IsWire t k o h → is_outlet port (kind_of t k) ≡ true → (role : RoleImage) (head : Header) (now : ℕ) → role.kind ≡ kind_of t k → has (routes role head port now) o ≡ true →
    (octets : List ℕ) (q : ParcelImage) (seq : Seq) → IsRead (framing_of t k port) octets q → q.seq ≡ Some seq → IsRoomy (padded_plain q) → Arrives (framing_of t k o) (framing_of t h.to.node h.to.port) q
passed_arrives t k port o h wire at role head now kind wants octets q seq read number fits = elim (carried (kind_of t k) port (networked t k) at) [
  | inl here ↦ elim wire.alike [
    | inl tag ↦ subst (λ x. Arrives x (framing_of t h.to.node h.to.port) q) (sym tag.0.1) (subst (λ x. Arrives (Tagged tag.0.0) x q) (sym tag.1.1)
        (tagged_again tag.0.0 tag.1.0 octets q (subst (λ x. IsRead x octets q) here.1 read)))
    | inr trail ↦ subst (λ x. Arrives x (framing_of t h.to.node h.to.port) q) (sym trail.0.2) (subst (λ x. Arrives (Trailed trail.0.0 trail.0.1) x q) (sym trail.1.2)
        (tagged_over trail.0.0 trail.1.0 trail.0.1 trail.1.1 octets q seq number fits (subst (λ x. IsRead x octets q) here.1 read)))
  ]
  | inr here ↦ elim wire.alike [
    | inl tag ↦ subst (λ x. Arrives x (framing_of t h.to.node h.to.port) q) (sym tag.0.1) (subst (λ x. Arrives (Tagged tag.0.0) x q) (sym tag.1.1)
        (trailed_over here.0 here.1 tag.0.0 tag.1.0 octets q seq number fits (subst (λ x. IsRead x octets q) here.2 read)))
    | inr trail ↦ absurd (no_lan_to_lan (kind_of t k) role head port o now (networked t k) kind wants here trail.0)
  ]
]

-- a life check has 60 octets
life_length : (k : RoleKind) (mac : Mac) (seq : Seq) → length mac.0 ≡ 6 → length (written (life_says k mac seq)) ≡ 60
life_length k mac seq six =
    let says = life_says k mac seq in
    let bare : length (mac.0 ++ []) ≡ 6 = length-append mac.0 [] ∙ omega (arith, six) in
    let more : length ((mac.0 ++ []) ++ 0 ∷ 0 ∷ []) ≡ 8 = length-append (mac.0 ++ []) (0 ∷ 0 ∷ []) ∙ omega (arith, bare) in
    let content : length (content_octets says) ≡ 14 = omega (arith, more) in
    let zeros : List ℕ = replicate (46 - length (content_octets says)) 0 in
    let zero_length : length zeros ≡ 32 = length-replicate (46 - length (content_octets says)) 0 ∙ omega (arith, content) in
    let payload : List ℕ = content_octets says ++ zeros in
    let payload_length : length payload ≡ 46 = length-append (content_octets says) zeros ∙ omega (arith, content, zero_length) in
    let ethertype : List ℕ = to_be_bytes w16 0x88FB in
    let head : length ((mac.0 ++ []) ++ ethertype) ≡ 8 = length-append (mac.0 ++ []) ethertype ∙ omega (arith, bare) in
    let whole : length (((mac.0 ++ []) ++ ethertype) ++ payload) ≡ 54 = length-append ((mac.0 ++ []) ++ ethertype) payload ∙ omega (arith, head, payload_length) in
    omega (arith, whole)

pub life_is_roomy : (k : RoleKind) (mac : Mac) (seq : Seq) → length mac.0 ≡ 6 → IsRoomy (written (life_says k mac seq))
life_is_roomy k mac seq six =
    let long = life_length k mac seq six in
    let bounds = least_len_bounds (written (life_says k mac seq)) in
    record { least = omega (arith, long, bounds); most = omega (arith, long) }
