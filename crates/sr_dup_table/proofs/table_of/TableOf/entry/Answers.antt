use Rattle.std.proofs.Common.{◌∙◌, sym, ap}
use Rattle.std.specs.Map.{lookup}
use Rattle.std.specs.Option.{option_map}
use Rattle.sr_frame.specs.Addresses.{mac_eq}
use Rattle.sr_dup_table.specs.Shown.{heard_of}
use Rattle.sr_dup_table.proofs.SourceLemmas.{lookup-shown}
use Rattle.sr_dup_table.proofs.table_of.TableOf.entry.Goals as goal

pub returns : goal.returns
returns g c =
    ap (option_map heard_of) c.get.ensures.value
    ∙ sym (lookup-shown (mac_eq c.args.src) c.self.inside.slots.entries)
    ∙ ap (λ t. lookup (mac_eq c.args.src) t.sources) c.self.view_is
