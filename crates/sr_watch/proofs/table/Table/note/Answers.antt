use Rattle.std.proofs.Common.{rules, ◌≡◌, ◌∙◌, true, is_some}
use Rattle.std.specs.Map.{lookup, keys_of}
use Rattle.sr_frame.specs.Addresses.{mac_eq}
use Rattle.sr_watch.specs.Watching.{is_tabled}
use Rattle.sr_watch.proofs.TableLemmas.{known_tabled, tabled_by}
use Rattle.sr_watch.proofs.table.Table.note.Goals as goal

pub returns-then-is_some-clause-tabled : goal.returns-then-is_some-clause-tabled
returns-then-is_some-clause-tabled c =
    let there : is_some (lookup (mac_eq c.args.src) c.args.self.now.sources.entries) ≡ true = search rules in
    let own : is_tabled c.take_at.new.self.sources.entries c.args.src ≡ true = search rules in
    tabled_by true c.args.src (keys_of c.args.self.now.sources.entries) c.take_at.new.self.sources.entries own
    (c.take_at.ensures.tabled ∙ known_tabled c.args.src c.args.self.now.sources.entries there)
