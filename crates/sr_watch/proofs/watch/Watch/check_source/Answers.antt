use Rattle.std.proofs.Common.{◌∙◌, subst}
use Rattle.sr_watch.specs.Watching.{ChecksOf}
use Rattle.sr_watch.specs.Following.{noted_in, lines_in}
use Rattle.sr_watch.proofs.watch.Watch.check_source.Goals as goal

pub returns-clause-checks : goal.returns-clause-checks
returns-clause-checks c = λ there.
    subst (λ m. ChecksOf c.args.alarm m c.args.self.now.settings c.args.source c.args.self.now.table.sources.entries
    c.check.new.self.sources.entries c.check.result) c.mark-mark.ensures (c.check.ensures.checks there)

pub returns-clause-follows : goal.returns-clause-follows
returns-clause-follows c = λ slack start turns acts f. record {
  holds = f.holds;
  sent = f.sent;
  watches = λ few. c.check.ensures.watches (noted_in acts) (lines_in acts) (f.watches few);
  left_out = c.check.ensures.left_out ∙ f.left_out;
  tabled = c.check.ensures.tabled ∙ f.tabled;
  passes = f.passes;
}
