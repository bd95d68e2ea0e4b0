use Rattle.sr_frame.specs.AddressLemmas.{as_two_numbers}
use Rattle.sr_frame.proofs.fields.MacPartialEq.eq.Goals as goal

pub returns : goal.returns
returns c = as_two_numbers c.args.self.now.0 c.args.other.now.0 _ _ _ _
    (c.front.ensures.value, c.front.ensures.spelled) (c.front-2.ensures.value, c.front-2.ensures.spelled)
    (c.back.ensures.value, c.back.ensures.spelled) (c.back-2.ensures.value, c.back-2.ensures.spelled)
