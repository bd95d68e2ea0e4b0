use Rattle.std.proofs.Common.{◌≡◌, ◌∙◌, ◌++◌, ◌∷◌, [], ap, length, arith, rules}
use Rattle.std.specs.Map.{lookup}
use Rattle.std.proofs.lemmas.List.{length-append}
use Rattle.indexmap.specs.IndexMap.{insert_entry}
use Rattle.indexmap.proofs.CallerLemmas.{insert_entry-new}
use Rattle.sr_frame.specs.Addresses.{mac_eq}
use Rattle.sr_node_table.proofs.late.LatePorts.add.Goals as goal

pub returns-clause-ports : goal.returns-clause-ports
returns-clause-ports c =
    let new = insert_entry-new mac_eq c.self.inside.map c.args.mac c.args.port (ap (λ l. lookup (mac_eq c.args.mac) l.ports) c.self.view_is ∙ c.requires.absent) in
    let entries : c.insert-old.new.self.entries ≡ insert_entry mac_eq c.self.inside.map.entries c.args.mac c.args.port = search rules in
    entries ∙ new ∙ ap (λ l. l.ports ++ (c.args.mac, c.args.port) ∷ []) c.self.view_is

pub returns-clause-room : goal.returns-clause-room
returns-clause-room c =
    let longer = ap length (returns-clause-ports c) ∙ length-append c.args.self.now.ports ((c.args.mac, c.args.port) ∷ []) in
    omega (arith, longer, ap (λ l. l.room) c.self.view_is, c.insert-old.ensures.spare)
