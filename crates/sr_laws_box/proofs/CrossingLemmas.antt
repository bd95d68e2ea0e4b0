-- What is read of a frame behind the node that put it out.
use Rattle.std.proofs.Common.{◌≡◌, ◌⊎◌, ℕ, ◌+◌, ◌-◌, List, length, ◌++◌, Some, None, inl, inr, refl, sym, ap, ◌∙◌, subst, arith}
use Rattle.std.specs.Prelude.{replicate}
use Rattle.std.proofs.lemmas.List.{append-nil, length-append, length-replicate}
use Rattle.sr_frame.specs.Frame.{least_len, padded}
use Rattle.sr_frame.specs.LengthLemmas.{least_len_more, least_len_bounds}
use Rattle.sr_sequence.specs.declared.Seq.{Seq}
use Rattle.sr_hsr_tag.specs.TagLemmas.{tagged_once}
use Rattle.sr_hsr_tag.specs.declared.tag.HsrTag.{HsrTag}
use Rattle.sr_prp_trailer.specs.TrailerLemmas.{trailed_once}
use Rattle.sr_prp_trailer.specs.declared.trailer.Lan.{Lan}
use Rattle.sr_prp_trailer.specs.declared.trailer.Trailer.{Trailer}
use Rattle.sr_forwarding.specs.OctetLemmas.{without_tag_is, without_trailer_is}
use Rattle.sr_forwarding.specs.declared.form.Form.TheVariants as form
use Rattle.sr_forwarding.specs.Parcels.{ParcelImage, plain_of, plain_parcel}
use Rattle.sr_forwarding.specs.Framings.{Tagged, Trailed, path_of}
use Rattle.sr_forwarding.specs.Decoding.{IsTaggedParcel, IsTrailedParcel, IsSanParcel}
use Rattle.sr_forwarding.specs.Encoding.{IsWritten, IsTaggedAnew, IsTrailedAnew}
use Rattle.sr_laws_box.specs.Crossings.{IsFrameWith, NewInRing, NewInLan, StaysTagged, LanToRing, RingToLan, PaddedOnce}

-- what was tagged anew is read as that
tagged_anew : (octets : List ℕ) (seq : Seq) (p q : ParcelImage) (path : ℕ) → p.seq ≡ Some seq → (w : IsTaggedAnew path p octets) →
    IsTaggedParcel octets q → IsFrameWith (padded (plain_of p)) seq path q
tagged_anew octets seq p q path number w read =
    let both = tagged_once octets (padded (plain_of p)) read.plain w.tag read.tag w.tagged read.tagged in
    record {
      plain_is = ap plain_of read.parcel ∙ without_tag_is octets read.plain read.tag read.tagged ∙ sym both.0;
      seq_is = ap (λ (x : ParcelImage). x.seq) read.parcel ∙ ap (λ (t : HsrTag). Some t.seq) (sym both.1) ∙ sym w.seq ∙ number;
      path_is = ap (λ (x : ParcelImage). x.path) read.parcel ∙ ap (λ (t : HsrTag). t.path) (sym both.1) ∙ w.path_is;
    }

-- what got a trailer anew is read as that, in a LAN
trailed_anew : (octets : List ℕ) (seq : Seq) (p q : ParcelImage) (lan at : Lan) (net : ℕ) → p.seq ≡ Some seq →
    IsTrailedAnew lan p octets → (IsTrailedParcel at net octets q ⊎ IsSanParcel net octets q) →
    IsFrameWith (padded (plain_of p)) seq (path_of at net) q
trailed_anew octets seq p q lan at net number w (inl read) =
    let both = trailed_once octets (padded (plain_of p)) read.plain (record { seq = w.seq; lan = lan; size = w.size }) read.trailer w.trailed
    read.trailed in
    record {
      plain_is = ap plain_of read.parcel ∙ without_trailer_is octets read.plain read.trailer read.trailed ∙ sym both.0;
      seq_is = ap (λ (x : ParcelImage). x.seq) read.parcel ∙ ap (λ (t : Trailer). Some t.seq) (sym both.1) ∙ sym w.seq_is ∙ number;
      path_is = ap (λ (x : ParcelImage). x.path) read.parcel;
    }
trailed_anew octets seq p q lan at net number w (inr read) =
    absurd (read.alone (padded (plain_of p)) (record { seq = w.seq; lan = lan; size = w.size }) w.trailed)

pub new_in_ring : NewInRing
new_in_ring out into frame seq octets q w read = tagged_anew octets seq (plain_parcel frame (Some seq)) q out refl w read

pub new_in_lan : NewInLan
new_in_lan lan at net to frame seq octets q w read = trailed_anew octets seq (plain_parcel frame (Some seq)) q lan at to refl w read

pub stays_tagged : StaysTagged
stays_tagged path out into octets p seq was number others q w read =
    let is : p.form ≡ form.Hsr = ap (λ (x : ParcelImage). x.form) was.parcel in
    let same : others ≡ octets =
    subst (λ f. IsWritten (Tagged out) f p others) is w ∙ ap (λ (x : ParcelImage). x.octets) was.parcel in
    let again = subst (λ o. IsTaggedParcel o q) same read in
    let once = tagged_once octets was.plain again.plain was.tag again.tag was.tagged again.tagged in
    record {
      plain_is = ap plain_of again.parcel ∙ without_tag_is octets again.plain again.tag again.tagged ∙ sym once.0
          ∙ sym (without_tag_is octets was.plain was.tag was.tagged) ∙ sym (ap plain_of was.parcel);
      seq_is = ap (λ (x : ParcelImage). x.seq) again.parcel ∙ ap (λ (t : HsrTag). Some t.seq) (sym once.1)
          ∙ sym (ap (λ (x : ParcelImage). x.seq) was.parcel) ∙ number;
      path_is = ap (λ (x : ParcelImage). x.path) again.parcel ∙ ap (λ (t : HsrTag). t.path) (sym once.1)
          ∙ sym (ap (λ (x : ParcelImage). x.path) was.parcel);
    }

pub lan_to_ring : LanToRing
lan_to_ring lan net out into octets p seq (inl was) number others q w read =
    let is : p.form ≡ form.Prp = ap (λ (x : ParcelImage). x.form) was.parcel in
    let new : IsTaggedAnew p.path p others = subst (λ f. IsWritten (Tagged out) f p others) is w in
    let there = tagged_anew others seq p q p.path number new read in
    record {
      plain_is = there.plain_is;
      seq_is = there.seq_is;
      path_is = there.path_is ∙ ap (λ (x : ParcelImage). x.path) was.parcel;
    }
lan_to_ring lan net out into octets p seq (inr san) number others q w read =
    let none : p.seq ≡ None = ap (λ (x : ParcelImage). x.seq) san.unnumbered.parcel in
    absurd cc

pub ring_to_lan : RingToLan
ring_to_lan lan at net to path octets p seq was number others q w read =
    let is : p.form ≡ form.Hsr = ap (λ (x : ParcelImage). x.form) was.parcel in
    let new : IsTrailedAnew lan p others = subst (λ f. IsWritten (Trailed lan net) f p others) is w in
    trailed_anew others seq p q lan at to number new read

pub padded_once : PaddedOnce
padded_once frame least =
    let more : List ℕ = replicate (least_len frame + 46 - length frame) 0 in
    let bounds = least_len_bounds frame in
    let same : least_len (padded frame) ≡ least_len frame = least_len_more frame more (omega (arith, least, bounds)) in
    let long : length (padded frame) ≡ length frame + (least_len frame + 46 - length frame) =
    length-append frame more ∙ ap (λ n. length frame + n) (length-replicate (least_len frame + 46 - length frame) 0) in
    let none : least_len (padded frame) + 46 - length (padded frame) ≡ 0 = omega (arith, same, long) in
    ap (λ n. padded frame ++ replicate n 0) none ∙ append-nil (padded frame)
