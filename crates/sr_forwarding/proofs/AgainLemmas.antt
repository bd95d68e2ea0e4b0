-- What is written is read again.
use Rattle.std.proofs.Common.{◌≡◌, ℕ, ◌+◌, ◌-◌, ◌≤◌, List, length, Some, refl, sym, ap, subst, ◌∙◌, arith, inl}
use Rattle.std.specs.Prelude.{replicate}
use Rattle.std.proofs.lemmas.List.{length-append}
use Rattle.sr_frame.specs.Frame.{HasFrameLength, least_len, padded}
use Rattle.sr_frame.specs.LengthLemmas.{least_len_bounds, least_len_more}
use Rattle.sr_hsr_tag.specs.Tagged.{IsTagged}
use Rattle.sr_hsr_tag.specs.declared.tag.HsrTag.{HsrTag}
use Rattle.sr_prp_trailer.specs.Trailed.{IsTrailed}
use Rattle.sr_prp_trailer.specs.TrailerLemmas.{trailed_frame}
use Rattle.sr_prp_trailer.specs.declared.trailer.Lan.{Lan}
use Rattle.sr_prp_trailer.specs.declared.trailer.Trailer.{Trailer}
use Rattle.sr_forwarding.specs.declared.form.Form.{Form}
use Rattle.sr_forwarding.specs.declared.form.Form.TheVariants.{Plain, Hsr, Prp}
use Rattle.sr_forwarding.specs.Octets.{plain_in, without_tag, without_trailer}
use Rattle.sr_forwarding.specs.OctetLemmas.{without_tag_is, without_trailer_is, tagged_len, tagged_frame}
use Rattle.sr_forwarding.specs.ParcelLemmas.{as_plain_is_parcel}
use Rattle.sr_forwarding.specs.Parcels.{ParcelImage, IsParcel, HasTag, HasTrailer, Carries, plain_of}
use Rattle.sr_forwarding.specs.Framings.{FramingImage, Tagged, Trailed, Ordinary}
use Rattle.sr_forwarding.specs.Decoding.{longest}
use Rattle.sr_forwarding.specs.Encoding.{IsTaggedAnew, IsTrailedAnew, IsWritten, padded_plain}
use Rattle.sr_forwarding.specs.Carriage.{plain_written, IsReadAgain}
use Rattle.sr_forwarding.proofs.ReadingLemmas.{by_tag, by_trailer, by_nothing}

-- a frame that is padded is one, where it is not too long
padded_frame : (octets : List ℕ) → HasFrameLength octets → length (padded octets) ≤ 1524 → HasFrameLength (padded octets)
padded_frame octets frame most =
    let n = least_len octets + 46 - length octets in
    let same : least_len (padded octets) ≡ least_len octets = least_len_more octets (replicate n 0) (omega (arith, frame.least, least_len_bounds octets)) in
    record { least = omega (arith, same, frame.least, length-append octets (replicate n 0)); most = most }

plain_frame : (p : ParcelImage) → IsParcel p → HasFrameLength (plain_of p)
plain_frame p is = (as_plain_is_parcel p is).frame

tagged_again : (path : ℕ) (octets plain : List ℕ) (t : HsrTag) (p : ParcelImage) → IsTagged octets plain t → HasFrameLength plain → p.seq ≡ Some t.seq → plain ≡ plain_written (Tagged path) p.form p → IsReadAgain (Tagged path) p octets
tagged_again path octets plain t p is frame seq same = record {
  parcel = by_tag octets t;
  read = record { plain = plain; tag = t; tagged = is; frame = frame; parcel = refl };
  plain = without_tag_is octets plain t is ∙ same;
  number = sym seq;
}

trailed_again : (lan : Lan) (net : ℕ) (octets plain : List ℕ) (t : Trailer) (p : ParcelImage) → IsTrailed octets plain t → length octets ≤ 1524 → p.seq ≡ Some t.seq → plain ≡ plain_written (Trailed lan net) p.form p → IsReadAgain (Trailed lan net) p octets
trailed_again lan net octets plain t p is most seq same = record {
  parcel = by_trailer lan net octets t;
  read = inl (record { plain = plain; trailer = t; trailed = is; frame = trailed_frame octets plain t is most; parcel = refl });
  plain = without_trailer_is octets plain t is ∙ same;
  number = sym seq;
}

plain_again : (octets : List ℕ) (p : ParcelImage) → HasFrameLength octets → length octets ≤ 1518 → octets ≡ plain_written Ordinary p.form p → IsReadAgain Ordinary p octets
plain_again octets p frame most same = record {
  parcel = by_nothing octets;
  read = (record { frame = frame; parcel = refl }, most);
  plain = same;
  number = tt;
}

-- what is written anew with a tag, or with a trailer
new_tagged : (path own : ℕ) (p : ParcelImage) (octets : List ℕ) → IsParcel p → IsTaggedAnew own p octets → padded_plain p ≡ plain_written (Tagged path) p.form p → IsReadAgain (Tagged path) p octets
new_tagged path own p octets is w same =
    let whole = tagged_frame octets (padded_plain p) w.tag w.tagged in
    tagged_again path octets (padded_plain p) w.tag p w.tagged
    (padded_frame (plain_of p) (plain_frame p is) (omega (arith, tagged_len octets (padded_plain p) w.tag w.tagged, whole.most))) w.seq same

new_trailed : (lan : Lan) (net : ℕ) (p : ParcelImage) (octets : List ℕ) → IsTrailedAnew lan p octets → length octets ≤ 1524 → padded_plain p ≡ plain_written (Trailed lan net) p.form p → IsReadAgain (Trailed lan net) p octets
new_trailed lan net p octets w most same =
    trailed_again lan net octets (padded_plain p) (record { seq = w.seq; lan = lan; size = w.size }) p w.trailed most w.seq_is same

-- the octets that stay
same_tagged : (path : ℕ) (p : ParcelImage) (octets : List ℕ) → HasTag p.octets p.seq p.path → octets ≡ p.octets → without_tag p.octets ≡ plain_written (Tagged path) p.form p → IsReadAgain (Tagged path) p octets
same_tagged path p octets has w same =
    tagged_again path octets has.plain has.tag p (subst (λ o. IsTagged o has.plain has.tag) (sym w) has.tagged) has.frame has.seq_is
    (sym (without_tag_is p.octets has.plain has.tag has.tagged) ∙ same)

same_trailed : (lan : Lan) (net : ℕ) (p : ParcelImage) (octets : List ℕ) → HasTrailer p.octets p.seq → octets ≡ p.octets → length octets ≤ 1524 → without_trailer p.octets ≡ plain_written (Trailed lan net) p.form p → IsReadAgain (Trailed lan net) p octets
same_trailed lan net p octets has w most same =
    trailed_again lan net octets has.plain has.trailer p (subst (λ o. IsTrailed o has.plain has.trailer) (sym w) has.trailed) most has.seq_is
    (sym (without_trailer_is p.octets has.plain has.trailer has.trailed) ∙ same)

again : (f : FramingImage) (form : Form) (p : ParcelImage) (octets : List ℕ) → form ≡ p.form → IsParcel p → IsWritten f form p octets → length octets ≤ longest f → IsReadAgain f p octets
again (Tagged path) Plain p octets e is w most = new_tagged path path p octets is w (ap (λ g. plain_written (Tagged path) g p) e)
again (Tagged path) Hsr p octets e is w most =
    same_tagged path p octets (subst (λ g. Carries g p.octets p.seq p.path) (sym e) is.carries) w
    (ap (λ g. plain_in g p.octets) e ∙ ap (λ g. plain_written (Tagged path) g p) e)
again (Tagged path) Prp p octets e is w most = new_tagged path p.path p octets is w (ap (λ g. plain_written (Tagged path) g p) e)
again (Trailed lan net) Plain p octets e is w most = new_trailed lan net p octets w most (ap (λ g. plain_written (Trailed lan net) g p) e)
again (Trailed lan net) Hsr p octets e is w most = new_trailed lan net p octets w most (ap (λ g. plain_written (Trailed lan net) g p) e)
again (Trailed lan net) Prp p octets e is w most =
    same_trailed lan net p octets (subst (λ g. Carries g p.octets p.seq p.path) (sym e) is.carries) w most
    (ap (λ g. plain_in g p.octets) e ∙ ap (λ g. plain_written (Trailed lan net) g p) e)
again Ordinary form p octets e is w most =
    let same : octets ≡ plain_of p = w ∙ ap (λ g. plain_in g p.octets) e in
    plain_again octets p (subst HasFrameLength (sym same) (plain_frame p is)) most same

pub read_again : (f : FramingImage) (p : ParcelImage) (octets : List ℕ) → IsParcel p → IsWritten f p.form p octets → length octets ≤ longest f → IsReadAgain f p octets
read_again f p octets is w most = again f p.form p octets refl is w most
