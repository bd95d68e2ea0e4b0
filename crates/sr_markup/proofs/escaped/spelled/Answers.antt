use Rattle.std.proofs.Common.{◌++◌, [], sym, ap, ◌∙◌}
use Rattle.std.proofs.lemmas.Iterator.{YieldsList-from_chars}
use Rattle.std.proofs.lemmas.Iterator.Consumers.{YieldsList-end}
use Rattle.std.specs.List.{flat_map}
use Rattle.std.proofs.lemmas.List.{flat_map_more}
use Rattle.sr_markup.specs.Escapes.{spelled_char}
use Rattle.sr_markup.proofs.Plain.{same_map}
use Rattle.sr_markup.proofs.escaped.spelled.Goals as goal

pub loop-c-preserved : goal.loop-c-preserved
loop-c-preserved c =
    c.in_ok-push_spelled.ensures ∙ ap (λ s. s ++ spelled_char c.in-Some.c) c.loop-c.invariant ∙ flat_map_more spelled_char [] c.loop-c.yielded c.in-Some.c

pub returns : goal.returns
returns c =
    let t = YieldsList-end (YieldsList-from_chars c.args.text.now c.utf8.text cc) c.loop-c.yielded _ c.loop-c.yielded_by _ _ c.in-None.is c.next.ensures.steps in
    c.loop-c.invariant ∙ ap (flat_map spelled_char) (sym (same_map c.loop-c.yielded) ∙ t.0)
