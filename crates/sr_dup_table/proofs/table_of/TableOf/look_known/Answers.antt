use Rattle.std.proofs.Common.{◌*◌, ◌∙◌, sym, ap, Some}
use Rattle.std.specs.Map.{lookup}
use Rattle.std.specs.Option.{option_map}
use Rattle.sr_frame.specs.Addresses.{mac_eq}
use Rattle.sr_dup_table.specs.Sources.{fresh_at}
use Rattle.sr_dup_table.specs.Shown.{heard_of}
use Rattle.sr_dup_table.proofs.SourceLemmas.{lookup-shown}
use Rattle.sr_dup_table.proofs.table_of.TableOf.look_known.Goals as goal

pub returns-in_err-hint-clause-answer : goal.returns-in_err-hint-clause-answer
returns-in_err-hint-clause-answer g c =
    let look = ap (λ t. lookup (mac_eq c.args.src) t.sources) (sym c.self.view_is) ∙ lookup-shown (mac_eq c.args.src) c.self.inside.slots.entries ∙ ap (option_map heard_of) (sym c.in_err-hint.ensures.value) in
    ap (option_map (λ look. look.fresh)) c.from_residual.ensures ∙ ap (option_map (λ heard. fresh_at (64 * g.row.N) heard c.args.seq.0 c.args.lanes c.args.now)) (sym look)

pub returns-clause-answer : goal.returns-clause-answer
returns-clause-answer g c =
    let look = ap (λ t. lookup (mac_eq c.args.src) t.sources) (sym c.self.view_is) ∙ lookup-shown (mac_eq c.args.src) c.self.inside.slots.entries ∙ ap (option_map heard_of) (sym c.in_ok-hint.ensures.value) in
    ap Some c.fresh.ensures ∙ ap (option_map (λ heard. fresh_at (64 * g.row.N) heard c.args.seq.0 c.args.lanes c.args.now)) (sym look)
