use Rattle.sr_proxy_table.specs.Proxied.{live_mac}
use Rattle.sr_aged_slots.specs.GatherLemmas.{gathered}
use Rattle.sr_proxy_table.proofs.table.ProxyTable.list.Goals as goal

pub loop-mac-preserved : goal.loop-mac-preserved
loop-mac-preserved c =
    gathered (live_mac c.args.now) _ _ _ (c.in-Some.mac, c.in-Some.entry.now) _ _ c.in-Some.ensures.steps c.in_ok-push_live.ensures c.loop-mac.invariant
