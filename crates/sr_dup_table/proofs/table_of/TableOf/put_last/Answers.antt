use Rattle.std.proofs.Common.{◌∙◌, ◌++◌, ◌∷◌, [], sym, ap, nat_lt, length, arith}
use Rattle.std.specs.List.{list_any}
use Rattle.std.specs.Map.{lookup}
use Rattle.sr_frame.specs.Addresses.{mac_eq}
use Rattle.sr_aged_slots.specs.Ages as ages
use Rattle.sr_dup_window.specs.Windows.{window_of}
use Rattle.sr_dup_table.specs.Sources.{with_room}
use Rattle.sr_dup_table.specs.Shown.{sources_of}
use Rattle.sr_dup_table.proofs.SourceLemmas.{none-shown, append-shown, length-shown, room-shown}
use Rattle.sr_dup_table.proofs.table_of.TableOf.put_last.Goals as goal

pub append-requires : goal.append-requires
append-requires g c =
    let es = c.self.inside.slots.entries in
    let absent = none-shown (mac_eq c.args.src) es (ap (λ t. lookup (mac_eq c.args.src) t.sources) c.self.view_is ∙ c.requires.absent) in
    let room =
    ap (λ n. nat_lt n 1024) (sym (length-shown (ages.with_room 400 1024 c.args.now es)) ∙ ap length (room-shown c.args.now es))
    ∙ ap (λ t. nat_lt (length (with_room c.args.now t.sources)) 1024) c.self.view_is
    ∙ c.requires.room in
    (omega arith, (absent, room))

pub returns-clause-sources : goal.returns-clause-sources
returns-clause-sources g c =
    let es = c.self.inside.slots.entries in
    ap sources_of c.in_ok-append.ensures.entries
    ∙ append-shown (ages.with_room 400 1024 c.args.now es) c.args.src (record { value = c.args.first; time = c.args.now })
    ∙ ap (λ l. l ++ (c.args.src, record { seen = window_of c.args.first; time = c.args.now }) ∷ []) (room-shown c.args.now es ∙ ap (λ t. with_room c.args.now t.sources) c.self.view_is)

pub returns-clause-held : goal.returns-clause-held
returns-clause-held g c other apart = c.in_ok-append.ensures.others other apart ∙ ap (λ t. list_any (mac_eq other) t.held) c.self.view_is
