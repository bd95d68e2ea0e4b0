use Rattle.std.proofs.Common.{◌++◌, ◌∷◌, [], ◌+◌, ◌-◌, ℕ, List, length, slice_index_or, ap, ◌∙◌, arith}
use Rattle.sr_prp_trailer.specs.declared.trailer.Trailer.{Trailer}
use Rattle.sr_prp_trailer.specs.Trailed.{trailer_octets}
use Rattle.sr_forwarding.proofs.TrailedPieces.{trailed_whole, in_two_pieces}
use Rattle.sr_forwarding.proofs.pieces.with_trailer.Goals as goal

pub returns-clause-trailed : goal.returns-clause-trailed
returns-clause-trailed c =
    let octets = c.args.octets.now in
    let front = c.in_ok-front.front.now in
    let last = c.in_ok-front.last.now in
    let size = length octets - c.header_len.result + 6 in
    let t : Trailer = record { seq = c.args.seq; lan = c.args.lan; size = size } in
    let spelled = ap (λ (l : List ℕ).
    front ++ slice_index_or last 0 0 ∷ slice_index_or last 1 0 ∷ slice_index_or l 0 0 ∷ slice_index_or l 1 0 ∷ slice_index_or l 2 0 ∷ slice_index_or l 3 0 ∷ slice_index_or l 4 0 ∷ slice_index_or l 5 0 ∷ [])
    c.octets.ensures in (
      size,
      trailed_whole octets _ t c.requires (omega arith) (omega arith) (omega arith)
          (spelled ∙ in_two_pieces octets front last (trailer_octets t) (length octets - 2) c.in_ok-front.ensures.cases.0 c.in_ok-front.ensures.cases.1 (omega arith)),
    )
