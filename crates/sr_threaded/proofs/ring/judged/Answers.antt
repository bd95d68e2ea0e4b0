use Rattle.std.proofs.Common.{◌≡◌, ◌<◌, ℕ, vec_len, get_or, sym, ◌∙◌}
use Rattle.sr_threaded.specs.declared.judging.Judgement.{Judgement}
use Rattle.sr_threaded.specs.declared.kit.NodeEnd.{NodeEnd}
use Rattle.sr_threaded.specs.Ran.{AreJudgedInRing, EndsJudged}
use Rattle.sr_threaded.proofs.Ended.{judged_in_ring}
use Rattle.sr_threaded.proofs.Running.{if_both}
use Rattle.sr_threaded.proofs.ring.judged.Goals as goal

pub returns-clause-judged : goal.returns-clause-judged
returns-clause-judged g c =
    let were = c.args.ends in
    let js = c.in-Ok.judgements in
    if_both (λ v. vec_len v ≡ vec_len were)
    (λ v. (i : ℕ) (was : NodeEnd g.row.F.Denot g.F.Feed) (j : Judgement) (e : NodeEnd g.row.F.Denot g.F.Feed) → i < vec_len were
    → EndsJudged (get_or were.items i was) (get_or js.items i j) (get_or v.items i e))
    (λ v. AreJudgedInRing were.items v.items) c.judged_ends.result c.judged_ends.ensures.len c.judged_ends.ensures.each
    (λ v len each. judged_in_ring c.deref.result.now were.items v.items js.items (vec_len were) c.deref.ensures.value were.ok.0
    (sym v.ok.0 ∙ len ∙ were.ok.0) c.in-Ok.ensures.each each)
