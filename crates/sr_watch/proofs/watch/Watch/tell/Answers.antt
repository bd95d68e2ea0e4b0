use Rattle.std.proofs.Common.{◌∙◌}
use Rattle.sr_watch.specs.Following.{noted_in, lines_in}
use Rattle.sr_watch.proofs.watch.Watch.tell.Goals as goal

pub returns-clause-follows : goal.returns-clause-follows
returns-clause-follows c = λ slack start turns acts f. record {
  holds = f.holds;
  sent = f.sent;
  watches = λ few. c.in_ok-line.ensures.told.keeps (noted_in acts) (lines_in acts) (f.watches few);
  left_out = c.tell.ensures.left_out ∙ f.left_out;
  tabled = c.tell.ensures.tabled ∙ f.tabled;
  passes = f.passes;
}
