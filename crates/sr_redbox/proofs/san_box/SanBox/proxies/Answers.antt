use Rattle.std.proofs.Common.{◌∙◌, ap}
use Rattle.sr_forwarding.specs.RoleImages.{is_proxied}
use Rattle.sr_redbox.specs.SanBoxes.{san_of}
use Rattle.sr_redbox.proofs.SanLemmas.{proxied_where}
use Rattle.sr_redbox.proofs.san_box.SanBox.proxies.Goals as goal

pub returns : goal.returns
returns c = c.has.ensures ∙ proxied_where (record { mac = c.self.inside.mac; proxied = c.self.inside.proxied }) c.args.mac c.args.now ∙ ap (λ b. is_proxied (san_of b) c.args.mac c.args.now) c.self.view_is
