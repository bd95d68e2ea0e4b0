use Rattle.std.proofs.Common.{◌≡◌, ◌<◌, ℕ, map, vec_len, get_or, sym, ◌∙◌, subst}
use Rattle.sr_lines.specs.Names.{all_wires}
use Rattle.sr_threaded.specs.declared.kit.NodeKit.{NodeKit}
use Rattle.sr_threaded.specs.declared.node.Wired.{Wired}
use Rattle.sr_threaded.specs.declared.twin.TwinEnds.{TwinEnds}
use Rattle.sr_node.specs.States.{state_of}
use Rattle.sr_threaded.specs.Ran.{WiredInLans, lan_starts, starts_at}
use Rattle.sr_threaded.proofs.Running.{if_both, wired_in_lans}
use Rattle.sr_threaded.proofs.twin.all_in_lans.Goals as goal

pub returns-clause-wired : goal.returns-clause-wired
returns-clause-wired g c =
    let feed = g.F.Feed in
    let meaning = g.G.Framing.meaning in
    let role = g.N.Role.meaning in
    let begins = λ (k : NodeKit g.row.N.Denot g.row.G.Denot g.row.F.Denot). lan_starts feed (state_of role k.node) (meaning k.a) (meaning k.b) (meaning k.host) c.args.turns k.feed in
    let starts = λ (w : Wired g.row.N.Denot g.row.G.Denot g.row.F.Denot). starts_at feed (state_of role w.node) (meaning w.a) (meaning w.b) (meaning w.host) w.turns w.at_a w.at_b w.at_host in
    let a = λ (t : TwinEnds). all_wires t.a.items in
    let b = λ (t : TwinEnds). all_wires t.b.items in
    let kits = c.args.kits in
    let es = c.in-Ok.ends in
    let same : vec_len es ≡ vec_len kits = c.in-Ok.ensures.len ∙ c.len.ensures in
    if_both (λ v. vec_len v ≡ vec_len kits)
    (λ v. (i : ℕ) (k : NodeKit g.row.N.Denot g.row.G.Denot g.row.F.Denot) (t : TwinEnds) (w : Wired g.row.N.Denot g.row.G.Denot g.row.F.Denot) → i < vec_len kits → starts (get_or v.items i w) ≡ begins (get_or kits.items i k) (a (get_or es.items i t)) (b (get_or es.items i t)))
    (λ v. WiredInLans (map begins kits.items) (map starts v.items)) c.join_all.result c.join_all.ensures.len c.join_all.ensures.each
    (λ v len each. wired_in_lans begins starts a b kits.items es.items v.items (sym es.ok.0 ∙ same ∙ kits.ok.0) (sym v.ok.0 ∙ len ∙ kits.ok.0) c.in-Ok.ensures.a c.in-Ok.ensures.b
    (λ i k t w low. each i k t w (subst (λ n. i < n) (sym kits.ok.0) low)))
