use Rattle.std.proofs.Common.{sym, ap, ◌∙◌}
use Rattle.sr_forwarding.specs.Headers.{header_of}
use Rattle.sr_forwarding.proofs.HeaderLemmas.{header_by_front}
use Rattle.sr_forwarding.proofs.parcel_view.ParcelView.header.Goals as goal

pub returns : goal.returns
returns c =
    header_by_front _ c.addresses.result.0 c.addresses.result.1 c.self.invariant c.addresses.ensures.dst c.addresses.ensures.src (sym c.eq.ensures ∙ c.if-eq.false)
    ∙ ap header_of c.self.view_is
