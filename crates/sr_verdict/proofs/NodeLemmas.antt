-- The verdicts on sources by their frames, one after the other.
use Rattle.std.proofs.Common.{◌≡◌, List, [], ◌∷◌, ◌++◌, Option, None, Some, refl, sym, ap, ◌∙◌, append_assoc}
use Rattle.std.specs.List.{cons_option, filter_map}
use Rattle.std.proofs.lemmas.List.{append-nil}
use Rattle.sr_frame.specs.declared.fields.Mac.{Mac}
use Rattle.sr_sources.specs.declared.source.Source.{Source as Node}
use Rattle.sr_verdict.specs.declared.verdict.Verdict.{Verdict}
use Rattle.sr_verdict.specs.Verdicts.{as_list}

put_first : (o : Option Verdict) (vs : List Verdict) → cons_option o vs ≡ as_list o ++ vs
put_first None vs = refl
put_first (Some v) vs = refl

-- the verdict on one source more
pub node_step : (f : Mac × Node → Option Verdict) (own left : List (Mac × Node)) (e : Mac × Node) (v : Option Verdict)
    (items new_items all : List Verdict) → own ≡ e ∷ left → v ≡ f e → new_items ≡ items ++ as_list v → all ≡ items ++ filter_map f own →
    all ≡ new_items ++ filter_map f left
node_step f own left e v items new_items all first is more before =
    before ∙ ap (λ l. items ++ filter_map f l) first
    ∙ ap (λ l. items ++ l) (put_first (f e) (filter_map f left))
    ∙ sym (append_assoc items (as_list (f e)) (filter_map f left))
    ∙ ap (λ o. (items ++ as_list o) ++ filter_map f left) (sym is)
    ∙ ap (λ l. l ++ filter_map f left) (sym more)

-- once no source is left these are all
pub node_all : (f : Mac × Node → Option Verdict) (own : List (Mac × Node)) (items all : List Verdict) → own ≡ [] →
    all ≡ items ++ filter_map f own → items ≡ all
node_all f own items all none before =
    sym (before ∙ ap (λ l. items ++ filter_map f l) none ∙ append-nil items)
