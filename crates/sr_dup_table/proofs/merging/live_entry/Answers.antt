use Rattle.std.proofs.Common.{◌∙◌, sym, ap}
use Rattle.std.specs.Option.{option_map, option_copied}
use Rattle.sr_dup_table.specs.Shown.{heard_of}
use Rattle.sr_dup_table.proofs.JoinLemmas.{live-none, live-there, live-gone}
use Rattle.sr_dup_table.proofs.merging.live_entry.Goals as goal

pub returns-in_err-entry : goal.returns-in_err-entry
returns-in_err-entry g c =
    ap (λ o. option_map heard_of (option_copied o)) c.from_residual.ensures
    ∙ sym (live-none c.args.now c.args.table.now.sources c.args.src c.requires.unique (sym c.in_err-entry.ensures))

pub returns-then-is_live : goal.returns-then-is_live
returns-then-is_live g c =
    sym (live-there c.args.now c.args.table.now.sources c.args.src (heard_of c.in_ok-entry.entry.now) c.requires.unique (sym c.in_ok-entry.ensures) (sym c.is_live.ensures ∙ c.if-is_live.true))

pub returns-else-is_live : goal.returns-else-is_live
returns-else-is_live g c =
    sym (live-gone c.args.now c.args.table.now.sources c.args.src (heard_of c.in_ok-entry.entry.now) c.requires.unique (sym c.in_ok-entry.ensures) (sym c.is_live.ensures ∙ c.if-is_live.false))
