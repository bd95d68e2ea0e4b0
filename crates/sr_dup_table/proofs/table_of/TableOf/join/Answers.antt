use Rattle.std.proofs.Common.{rules, ◌*◌, ◌≡◌, ◌∙◌, sym, ap, Some, false, not, is_some}
use Rattle.std.specs.Map.{lookup, set_value}
use Rattle.std.specs.Option.{option_map}
use Rattle.sr_frame.specs.Addresses.{mac_eq}
use Rattle.sr_dup_table.specs.Joins.{is_apart, joined_heard, put_with}
use Rattle.sr_dup_table.specs.Shown.{heard_of, sources_of}
use Rattle.sr_dup_table.proofs.SourceLemmas.{found-shown, lookup-shown, set-shown}
use Rattle.sr_dup_table.proofs.JoinLemmas.{not-true}
use Rattle.sr_dup_table.proofs.table_of.TableOf.join.Goals as goal

pub returns-in_err-joined-clause-found : goal.returns-in_err-joined-clause-found
returns-in_err-joined-clause-found g c =
    ap is_some c.from_residual.ensures
    ∙ c.in_err-joined.ensures.found
    ∙ found-shown (mac_eq c.args.src) c.self.inside.slots.entries
    ∙ ap (λ t. is_some (lookup (mac_eq c.args.src) t.sources)) c.self.view_is

pub returns-clause-found : goal.returns-clause-found
returns-clause-found g c =
    c.in_ok-joined.ensures.found ∙ found-shown (mac_eq c.args.src) c.self.inside.slots.entries ∙ ap (λ t. is_some (lookup (mac_eq c.args.src) t.sources)) c.self.view_is

pub returns-clause-close : goal.returns-clause-close
returns-clause-close g c =
    let other = heard_of c.args.other.now in
    let h = c.in_ok-joined.ensures.changed in
    let answer : c.in_ok-joined.joined ≡ not (is_apart (Some (heard_of h.was)) other) = search rules in
    let look = sym (ap (λ t. lookup (mac_eq c.args.src) t.sources) c.self.view_is) ∙ lookup-shown (mac_eq c.args.src) c.self.inside.slots.entries ∙ ap (option_map heard_of) h.found in
    answer ∙ sym (ap (λ o. not (is_apart o other)) look)

pub returns-clause-joined : goal.returns-clause-joined
returns-clause-joined g c did =
    let other = heard_of c.args.other.now in
    let h = c.in_ok-joined.ensures.changed in
    let after : is_apart (Some (heard_of h.was)) other ≡ false → heard_of h.is ≡ joined_heard (64 * g.row.N) (heard_of h.was) other = search rules in
    let answer : c.in_ok-joined.joined ≡ not (is_apart (Some (heard_of h.was)) other) = search rules in
    let look = sym (ap (λ t. lookup (mac_eq c.args.src) t.sources) c.self.view_is) ∙ lookup-shown (mac_eq c.args.src) c.self.inside.slots.entries ∙ ap (option_map heard_of) h.found in
    ap sources_of h.written
    ∙ set-shown (mac_eq c.args.src) c.self.inside.slots.entries h.is
    ∙ ap (set_value (mac_eq c.args.src) (sources_of c.self.inside.slots.entries)) (after (not-true (is_apart (Some (heard_of h.was)) other) (sym answer ∙ did)))
    ∙ ap (λ t. set_value (mac_eq c.args.src) t.sources (joined_heard (64 * g.row.N) (heard_of h.was) other)) c.self.view_is
    ∙ sym (ap (λ o. put_with (64 * g.row.N) o c.args.self.now.sources (c.args.src, other)) look)
