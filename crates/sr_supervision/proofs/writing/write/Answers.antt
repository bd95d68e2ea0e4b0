use Rattle.std.proofs.Common.{List, [], ◌∷◌, ℕ, ◌-◌, ◌++◌, take, sym, ap, subst, ◌∙◌}
use Rattle.std.specs.Prelude.{replicate}
use Rattle.sr_supervision.specs.Supervised.{IsSupervision, supervision_address}
use Rattle.sr_supervision.specs.Written.{content_octets}
use Rattle.sr_supervision.proofs.WrittenLemmas.{resized_is_written, written_says}
use Rattle.sr_supervision.proofs.writing.write.Goals as goal

pub returns-clause-octets : goal.returns-clause-octets
returns-clause-octets c =
    let s = c.args.supervision.now in
    let x = c.put_content.new.out.items in
    let head = supervision_address ++ c.unwrap_or-src.result.0 ++ 0x88 ∷ 0xFB ∷ [] in
    resized_is_written s c.unwrap_or-src.result c.of.result x c.put_content.ensures.fits c.unwrap_or-src.ensures
    (c.in_ok-put_content.ensures.octets ∙ ap (λ (l : List ℕ). l ++ content_octets s) (c.in_ok-put_head.ensures ∙ ap (λ (l : List ℕ). l ++ head) c.in_ok-octets.ensures.items))
    (c.of.ensures ∙ c.in_ok-resize.ensures.items ∙ ap (λ (k : ℕ). take 60 x ++ replicate (60 - k) 0) c.put_content.new.out.ok.0)

pub returns-clause-says : goal.returns-clause-says
returns-clause-says c =
    let s = c.args.supervision.now in
    let P : List ℕ → Type 0 = λ o. IsSupervision o s in
    subst P (sym (returns-clause-octets c)) (written_says s c.put_content.ensures.fits)
