use Rattle.std.proofs.Common.{◌≡◌, ◌<◌, ℕ, map, vec_len, get_or, sym, ◌∙◌, subst}
use Rattle.sr_lines.specs.declared.ends.Ends.{Ends}
use Rattle.sr_threaded.specs.declared.kit.NodeKit.{NodeKit}
use Rattle.sr_threaded.specs.declared.node.Wired.{Wired}
use Rattle.sr_threaded.specs.Joined.{AreUnused, ring_wires_of}
use Rattle.sr_node.specs.States.{state_of}
use Rattle.sr_threaded.specs.Ran.{WiredInRing, ring_starts, starts_at}
use Rattle.sr_threaded.proofs.Running.{if_both, wired_in_ring}
use Rattle.sr_threaded.proofs.ring.all_in_ring.Goals as goal

pub returns-clause-wired : goal.returns-clause-wired
returns-clause-wired g c =
    let feed = g.F.Feed in
    let meaning = g.G.Framing.meaning in
    let role = g.N.Role.meaning in
    let begins = λ (k : NodeKit g.row.N.Denot g.row.G.Denot g.row.F.Denot). ring_starts feed (state_of role k.node) (meaning k.a) (meaning k.b) (meaning k.host) c.args.turns k.feed in
    let starts = λ (w : Wired g.row.N.Denot g.row.G.Denot g.row.F.Denot). starts_at feed (state_of role w.node) (meaning w.a) (meaning w.b) (meaning w.host) w.turns w.at_a w.at_b w.at_host in
    let kits = c.args.kits in
    let es = c.in-Ok.ends in
    let same : vec_len es ≡ vec_len kits = c.in-Ok.ensures.len ∙ c.len.ensures in
    if_both (λ v. vec_len v ≡ vec_len kits)
    (λ v. (i : ℕ) (k : NodeKit g.row.N.Denot g.row.G.Denot g.row.F.Denot) (e : Ends × Ends) (w : Wired g.row.N.Denot g.row.G.Denot g.row.F.Denot) → i < vec_len kits → AreUnused (get_or es.items i e) → starts (get_or v.items i w) ≡ begins (get_or kits.items i k) (ring_wires_of (get_or es.items i e)))
    (λ v. WiredInRing (map begins kits.items) (map starts v.items)) c.join_all.result c.join_all.ensures.len c.join_all.ensures.each
    (λ v len each. wired_in_ring begins starts kits.items es.items v.items (sym es.ok.0 ∙ same ∙ kits.ok.0) (sym v.ok.0 ∙ len ∙ kits.ok.0) c.in-Ok.ensures.ring c.in-Ok.ensures.unused
    (λ i k e w low. each i k e w (subst (λ n. i < n) (sym kits.ok.0) low)))
