use Rattle.std.proofs.Common.{◌≡◌, ◌∙◌, ◌<◌, ◌≤◌, sym, ap, subst, arith, length}
use Rattle.std.specs.Int.{w16, from_be_bytes}
use Rattle.sr_frame.specs.OctetLemmas.{number_parts}
use Rattle.sr_dup_snapshots.proofs.SpellLemmas.{AreOctets, octets-take}
use Rattle.sr_dup_snapshots.proofs.ReadLemmas.{from-two}
use Rattle.sr_dup_snapshots.proofs.reading.number_front.Goals as goal

pub returns-clause-front : goal.returns-clause-front
returns-clause-front c =
    let w = c.in_ok-front.ensures.cases in
    let long : 2 ≤ length c.args.octets.now = omega (arith, w.2) in
    let n_is : c.from_be_bytes.result ≡ from_be_bytes w16 c.in_ok-front.front.now = c.from_be_bytes.ensures in
    let parts = number_parts c.args.octets.now c.from_be_bytes.result (λ i. omega (arith, c.type_inv.octets i)) long (n_is ∙ ap (from_be_bytes w16) w.0) in
    rw w.1 parts

pub returns-clause-fits : goal.returns-clause-fits
returns-clause-fits c =
    let octets : AreOctets c.in_ok-front.front.now =
    subst AreOctets (sym c.in_ok-front.ensures.cases.0) (octets-take 2 c.args.octets.now (λ i. omega (arith, c.type_inv.octets i))) in
    subst (λ n. n < 65536) (sym c.from_be_bytes.ensures) (from-two c.in_ok-front.front.now octets)
