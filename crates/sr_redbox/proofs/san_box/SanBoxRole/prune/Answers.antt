use Rattle.std.proofs.Common.{◌≡◌, ◌∙◌, sym, ap, length, arith}
use Rattle.sr_forwarding.specs.Proxies.{pruned, pruned_count}
use Rattle.sr_proxy_table.specs.Proxied.{times_of, live_at}
use Rattle.sr_redbox.specs.SanBoxes.{san_of}
use Rattle.sr_redbox.proofs.SanLemmas.{recent_times, length-times}
use Rattle.sr_redbox.proofs.san_box.SanBoxRole.prune.Goals as goal

pub returns-clause-count : goal.returns-clause-count
returns-clause-count c =
    let es = c.self.inside.proxied in
    let left = ap length (recent_times c.args.now es) ∙ length-times (live_at c.args.now es) in
    let count : c.prune.result ≡ pruned_count (san_of (record { mac = c.self.inside.mac; proxied = es })) c.args.now =
    omega (arith, c.prune.ensures.count, ap length c.prune.ensures.after, length-times es, left) in
    count ∙ ap (λ b. pruned_count (san_of b) c.args.now) c.self.view_is

pub returns-clause-after : goal.returns-clause-after
returns-clause-after c =
    let es = c.self.inside.proxied in
    let times = ap times_of c.prune.ensures.after ∙ sym (recent_times c.args.now es) in
    ap (λ ps. record (san_of (record { mac = c.self.inside.mac; proxied = es })) { proxied = ps }) times ∙ ap (λ b. pruned (san_of b) c.args.now) c.self.view_is
