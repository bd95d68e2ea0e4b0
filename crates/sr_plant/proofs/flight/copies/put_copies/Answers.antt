use Rattle.std.proofs.Common.{◌≡◌, ◌+◌, ◌++◌, map, refl, ap, ◌∙◌, arith}
use Rattle.std.specs.Option.{option_to_list}
use Rattle.slab.specs.Slab.{get}
use Rattle.sr_forwarding.specs.Parcels.{ParcelImage}
use Rattle.sr_plant.specs.Flights.{copies_in, parcel_of}
use Rattle.sr_plant.specs.Puts.{copy_over, those_passing, hop_to, hops_below}
use Rattle.sr_plant.proofs.HopLemmas.{none_before, all_below}
use Rattle.sr_plant.proofs.PutLemmas.{put_more, put_none, put_to_all}
use Rattle.sr_plant.proofs.flight.copies.put_copies.Goals as goal

pub loop-to-init : goal.loop-to-init
loop-to-init c =
    let o = c.args.outlet in
    let to = hop_to o.topology o.nodes o.node o.port in
    let r = c.reach-first.ensures in
    record {
      counted = c.requires.counted;
      used = c.requires.used;
      copies = put_none c.args.cut.now o.node o.port (parcel_of (get c.args.kept.now c.args.key)) to c.reach-first.result.0 (copies_in c.args.kept.now c.args.places.now.items)
          (none_before to c.reach-first.result.0 c.reach-first.result.1 o.nodes (omega (arith, r.order, r.inside)) r.leads);
      there = c.requires.there;
      parcel = refl;
      kept_len = refl;
      kept_capacity = refl;
      room = omega arith;
    }

pub loop-to-preserved : goal.loop-to-preserved
loop-to-preserved c =
    let l = c.loop-to.invariant in
    let e = c.put_copy.ensures in
    let o = c.args.outlet in
    let to = hop_to o.topology o.nodes o.node o.port in
    let one = e.copies
    ∙ ap (λ (p : ParcelImage). copies_in c.loop-to.kept c.loop-to.places.items ++ those_passing c.args.cut.now (map (copy_over o.node o.port p) (option_to_list (to c.loop-to.to)))) l.parcel in
    record {
      counted = e.counted;
      used = e.used;
      copies = put_more c.args.cut.now o.node o.port (parcel_of (get c.args.kept.now c.args.key)) to c.loop-to.to (c.loop-to.to + 1) (copies_in c.args.kept.now c.args.places.now.items) (copies_in c.loop-to.kept c.loop-to.places.items) (copies_in c.put_copy.new.kept c.put_copy.new.places.items) (omega arith) l.copies one;
      there = e.there;
      parcel = e.parcel ∙ l.parcel;
      kept_len = e.kept_len ∙ l.kept_len;
      kept_capacity = e.kept_capacity ∙ l.kept_capacity;
      room = omega arith;
    }

pub returns-clause-copies : goal.returns-clause-copies
returns-clause-copies c =
    let o = c.args.outlet in
    let to = hop_to o.topology o.nodes o.node o.port in
    let r = c.reach-first.ensures in
    let end : c.loop-to.to ≡ c.reach-first.result.1 = omega (arith, c.loop-to.auto.to-end r.order, c.loop-to-test.false) in
    let all = ap (hops_below to) end ∙ all_below to c.reach-first.result.0 c.reach-first.result.1 o.nodes r.inside r.leads in
    put_to_all o.topology o.nodes o.node o.port c.args.cut.now (parcel_of (get c.args.kept.now c.args.key)) c.loop-to.to (copies_in c.args.kept.now c.args.places.now.items) (copies_in c.loop-to.kept c.loop-to.places.items) c.requires.node c.requires.joined all c.loop-to.invariant.copies
