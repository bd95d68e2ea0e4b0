use Rattle.std.proofs.Common.{◌≡◌, ◌*◌, ◌/◌, ◌++◌, ◌∷◌, [], ◌∙◌, sym, ap, append_assoc, arith}
use Rattle.std.proofs.lemmas.Grind.{common_steps}
use Rattle.std.specs.Prelude.{map}
use Rattle.std.specs.List.{range_with_len}
use Rattle.std.proofs.lemmas.List.FromFn.{map-range_with_len_more}
use Rattle.sr_dup_window.specs.Windows.{window_of}
use Rattle.sr_dup_snapshots.specs.Snapshots.{lane_octet, lane_octets}
use Rattle.sr_dup_snapshots.proofs.record.put_lane.Goals as goal

pub loop-place-preserved : goal.loop-place-preserved
loop-place-preserved g c =
    let octet = lane_octet (window_of c.args.seen.now).marks c.args.lane in
    record {
      octets = c.in_ok-extend_from_slice.ensures.items
          ∙ (λ i. c.loop-place.invariant.octets i ++ (c.lane_octet.ensures i ∷ []))
          ∙ append_assoc c.args.out.now.items (map octet (range_with_len 0 c.loop-place.place)) (octet c.loop-place.place ∷ [])
          ∙ ap (λ l. c.args.out.now.items ++ l) (sym (map-range_with_len_more octet 0 c.loop-place.place c.loop-place.place (omega arith)));
      len = grind (arith, common_steps);
      capacity = grind (arith, common_steps);
    }

pub returns-clause-octets : goal.returns-clause-octets
unfolding lane_octets
returns-clause-octets g c =
    let octet = lane_octet (window_of c.args.seen.now).marks c.args.lane in
    let whole : c.loop-place.place ≡ 64 * g.row.N / 8 = omega arith in
    c.loop-place.invariant.octets ∙ ap (λ n. c.args.out.now.items ++ map octet (range_with_len 0 n)) whole
