use Rattle.std.proofs.Common.{◌∙◌, ap}
use Rattle.sr_watch.proofs.TableLemmas.{watches_forgot, keys_forgot}
use Rattle.sr_watch.proofs.table.Table.forget.Goals as goal

pub returns-clause-watches : goal.returns-clause-watches
returns-clause-watches c = λ xs lines watches.
    watches_forgot xs lines c.args.self.now.sources.entries c.sweep.new.self.entries c.args.limit c.len-sources.ensures.unique
    (ap (λ s. s.entries) c.sweep.ensures ∙ c.sift-least.ensures.kept) watches

pub returns-clause-tabled : goal.returns-clause-tabled
returns-clause-tabled c =
    keys_forgot c.args.self.now.sources.entries c.sweep.new.self.entries c.args.limit c.len-sources.ensures.unique
    (ap (λ s. s.entries) c.sweep.ensures ∙ c.sift-least.ensures.kept)
