use Rattle.std.proofs.Common.{[], ◌∙◌, map}
use Rattle.std.proofs.lemmas.List.{length-set}
use Rattle.sr_plant_picture.proofs.network.Network.let_go_of.Goals as goal

pub invariant_of-self : goal.invariant_of-self
invariant_of-self c =
    let e = c.drop_handed_of.ensures in
    let was = c.self.invariant in
    let handed = c.self.inside.plant.handed.items in
    rw (e.topology, e.nodes, e.traffic, e.handed) (record {
      size = was.size;
      joined = was.joined;
      kinds = was.kinds;
      emptied = was.emptied;
      links = was.links;
      hosts = length-set (map (λ h. h.items) handed) c.args.node [] ∙ was.hosts;
      receivers = was.receivers;
    })
