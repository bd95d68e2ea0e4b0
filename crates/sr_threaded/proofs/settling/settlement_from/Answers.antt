use Rattle.std.proofs.Common.{rules, ◌≡◌}
use Rattle.sr_threaded.proofs.Ended.{settles_from}
use Rattle.sr_threaded.proofs.settling.settlement_from.Goals as goal

pub returns : goal.returns
returns c =
    let entries : c.as_slice.result.now ≡ c.args.history.now.entries.items = search rules in
    settles_from _ c.args.history.now c.args.logs.now c.as_slice.result.now c.is_same_state-opens.result c.settle-own.result _
    c.is_same_state-opens.ensures entries c.settle-own.ensures c.torn_unless.ensures
