use Rattle.std.proofs.Common.{◌≡◌, Result, Ok, Err, IsOk, refl, subst, sym, ◌∙◌}
use Rattle.std.specs.Result.{IsOkAnd}
use Rattle.sr_hsr_tag.specs.Tagged.{IsTagged}
use Rattle.sr_forwarding.specs.OctetLemmas.{without_tag_is}
use Rattle.sr_forwarding.proofs.parcel_view.untagged.Goals as goal

ok_of : {T E : Type 0} (r : Result T E) (P : T → Type 0) → IsOkAnd r P → IsOk r
ok_of (Ok x) P h = refl
ok_of (Err e) P h = absurd h

at_ok : {T E : Type 0} (r : Result T E) (x : T) (P : T → Type 0) → r ≡ Ok x → IsOkAnd r P → P x
at_ok r x P e h = subst (λ q. IsOkAnd q P) e h

pub unwrap-requires : goal.unwrap-requires
unwrap-requires c =
    let has = c.requires.tag.2 in
    ok_of _ _ (c.untagged_view.ensures.only has.plain has.tag (subst (λ o. IsTagged o has.plain has.tag) c.frame_in.ensures.spelled has.tagged) has.frame)

pub returns : goal.returns
returns c =
    let has = c.requires.tag.2 in
    let there = c.untagged_view.ensures.only has.plain has.tag (subst (λ o. IsTagged o has.plain has.tag) c.frame_in.ensures.spelled has.tagged) has.frame in
    (at_ok _ _ _ c.unwrap.ensures there).0 ∙ sym (without_tag_is _ has.plain has.tag has.tagged)
