use Rattle.std.proofs.Common.{◌∙◌, ap, filter}
use Rattle.sr_watch.specs.Following.{noted_in, lines_in}
use Rattle.sr_watch.specs.Watching.{is_tabled}
use Rattle.sr_watch.proofs.watch.Watch.forget.Goals as goal

pub returns-clause-follows : goal.returns-clause-follows
returns-clause-follows c = λ slack start turns acts f. record {
  holds = f.holds;
  sent = f.sent;
  watches = λ few. c.forget.ensures.watches (noted_in acts) (lines_in acts) (f.watches few);
  left_out = c.forget.ensures.left_out ∙ f.left_out;
  tabled = c.forget.ensures.tabled ∙ ap (filter (is_tabled c.forget.new.self.sources.entries)) f.tabled;
  passes = f.passes;
}
