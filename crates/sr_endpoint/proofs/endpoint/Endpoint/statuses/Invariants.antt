use Rattle.std.proofs.Common.{◌≡◌, take}
use Rattle.std.specs.List.{flat_map}
use Rattle.sr_node_table.specs.Stating.{status_at}
use Rattle.sr_endpoint.specs.Endpoints.{state_by}
use Rattle.sr_endpoint.specs.Telling.{if_told}
use Rattle.sr_endpoint.proofs.endpoint.Endpoint.statuses.Given as goal

-- what is told of the nodes so far
abbrev pub invariant-loop-mac : goal.invariant-loop-mac
invariant-loop-mac l =
    let i = (state_by l.fn.self).core in l.told.items ≡ flat_map (λ mac. if_told (status_at i.nodes mac i.time)) (take l.mac-index l.mac-items)
