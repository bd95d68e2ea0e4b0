use Rattle.std.proofs.Common.{◌*◌, rules, ◌≡◌, ◌∙◌, sym, ap, Some, is_some}
use Rattle.std.specs.List.{list_any}
use Rattle.std.specs.Map.{lookup, set_value}
use Rattle.std.specs.Option.{option_map}
use Rattle.sr_frame.specs.Addresses.{mac_eq}
use Rattle.sr_dup_table.specs.Sources.{heard_next, fresh_at, answer_of, after_of}
use Rattle.sr_dup_table.specs.Shown.{heard_of, sources_of}
use Rattle.sr_dup_table.proofs.SourceLemmas.{found-shown, lookup-shown, set-shown}
use Rattle.sr_dup_table.proofs.table_of.TableOf.note.Goals as goal

pub returns-in_err-fresh-clause-found : goal.returns-in_err-fresh-clause-found
returns-in_err-fresh-clause-found g c =
    ap is_some c.from_residual.ensures
    ∙ c.in_err-fresh.ensures.found
    ∙ found-shown (mac_eq c.args.src) c.self.inside.slots.entries
    ∙ ap (λ t. is_some (lookup (mac_eq c.args.src) t.sources)) c.self.view_is

pub returns-clause-found : goal.returns-clause-found
returns-clause-found g c =
    c.in_ok-fresh.ensures.found ∙ found-shown (mac_eq c.args.src) c.self.inside.slots.entries ∙ ap (λ t. is_some (lookup (mac_eq c.args.src) t.sources)) c.self.view_is

pub returns-clause-others : goal.returns-clause-others
returns-clause-others g c other apart = c.in_ok-fresh.ensures.others other apart ∙ ap (λ t. list_any (mac_eq other) t.held) c.self.view_is

pub returns-clause-answer : goal.returns-clause-answer
returns-clause-answer g c =
    let h = c.in_ok-fresh.ensures.changed in
    let answer : c.in_ok-fresh.fresh ≡ fresh_at (64 * g.row.N) (heard_of h.was) c.args.seq.0 c.args.lanes c.args.now = search rules in
    let look = sym (ap (λ t. lookup (mac_eq c.args.src) t.sources) c.self.view_is) ∙ lookup-shown (mac_eq c.args.src) c.self.inside.slots.entries ∙ ap (option_map heard_of) h.found in
    ap (λ o. answer_of (64 * g.row.N) o c.args.self.now.sources c.args.seq.0 c.args.lanes c.args.now) look ∙ ap Some (sym answer)

pub returns-clause-after : goal.returns-clause-after
returns-clause-after g c =
    let h = c.in_ok-fresh.ensures.changed in
    let after : heard_of h.is ≡ heard_next (64 * g.row.N) (heard_of h.was) c.args.seq.0 c.args.lanes c.args.now = search rules in
    let look = sym (ap (λ t. lookup (mac_eq c.args.src) t.sources) c.self.view_is) ∙ lookup-shown (mac_eq c.args.src) c.self.inside.slots.entries ∙ ap (option_map heard_of) h.found in
    ap sources_of h.written
    ∙ set-shown (mac_eq c.args.src) c.self.inside.slots.entries h.is
    ∙ ap (set_value (mac_eq c.args.src) (sources_of c.self.inside.slots.entries)) after
    ∙ ap (λ t. set_value (mac_eq c.args.src) t.sources (heard_next (64 * g.row.N) (heard_of h.was) c.args.seq.0 c.args.lanes c.args.now)) c.self.view_is
    ∙ sym (ap (λ o. after_of (64 * g.row.N) o c.args.self.now.sources c.args.src c.args.seq.0 c.args.lanes c.args.now) look)
