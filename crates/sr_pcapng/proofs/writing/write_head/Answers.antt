use Rattle.std.proofs.Common.{ℕ, List, Option, ◌++◌, OnOk, subst}
use Rattle.std.specs.Io.KnownBytes.{Appends}
use Rattle.sr_pcapng.specs.declared.lanes.Lane.TheVariants as lane
use Rattle.sr_pcapng.specs.Writing.{header_block, description, lane_name}
use Rattle.sr_pcapng.proofs.Appends.{more, last}
use Rattle.sr_pcapng.proofs.writing.write_head.Goals as goal

pub returns : goal.returns
returns g c =
    let old : Option (List ℕ) = g.W.Write.contents c.args.writer.now in
    let a : List ℕ = c.lane_name.result.now in
    let b : List ℕ = c.lane_name-2.result.now in
    let r = c.write_description-2.result in
    let new : Option (List ℕ) = (g.W.Write.contents c.write_description-2.new.writer) in
    let first = (g.W.Write.contents c.write_description.new.writer) in
    let two = more old header_block (g.W.Write.contents c.write_header.new.writer) first (description a) c.in_ok-write_header.ensures c.in_ok-write_description.ensures in
    let three = last old (header_block ++ description a) first new (description b) r two c.write_description-2.ensures in
    let named = subst (λ (l : List ℕ). OnOk r (Appends old new (header_block ++ description l ++ description b))) c.lane_name.ensures.name three in
    subst (λ (l : List ℕ). OnOk r (Appends old new (header_block ++ description (lane_name c.args.names lane.A) ++ description l))) c.lane_name-2.ensures.name named
