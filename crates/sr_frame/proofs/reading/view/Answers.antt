use Rattle.std.proofs.Common.{sym, ◌∙◌, rules}
use Rattle.sr_frame.specs.View.{fields_of}
use Rattle.sr_frame.specs.FrameLemmas.{spelled_once}
use Rattle.sr_frame.proofs.reading.view.Goals as goal

pub returns-clause-only : goal.returns-clause-only
returns-clause-only c f is =
    let found = c.in-Some.ensures.found in
    spelled_once (fields_of c.in-Some.fields) f found.legal is.legal (sym found.spelled ∙ is.spelled)

pub fields_front-requires : goal.fields_front-requires
fields_front-requires c = search rules
