use Rattle.std.proofs.Common.{◌++◌, ◌+◌, ◌-◌, List, ℕ, length, ap, arith}
use Rattle.sr_forwarding.proofs.TaggedPieces.{tagged_whole}
use Rattle.sr_forwarding.proofs.pieces.with_tag.Goals as goal

pub returns-clause-tagged : goal.returns-clause-tagged
returns-clause-tagged c =
    let octets = c.args.octets.now in
    let addresses = c.in_ok-addresses.addresses.now in
    let behind = c.in_ok-addresses.behind.now in
    tagged_whole octets _ addresses behind c.args.path (length octets - c.header_len.result + 6) c.args.seq (λ i. omega (arith, c.type_inv.octets i)) (omega arith) (omega arith) (omega arith)
    c.requires.path (omega arith) c.in_ok-addresses.ensures.cases.0 c.in_ok-addresses.ensures.cases.1 (omega arith)
    (ap (λ (l : List ℕ). l ++ behind) c.tagged_front.ensures)
