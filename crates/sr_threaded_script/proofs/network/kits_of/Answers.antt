use Rattle.std.proofs.Common.{rules, vec_items}
use Rattle.sr_threaded_script.proofs.Begun.{one_more}
use Rattle.sr_threaded_script.proofs.network.kits_of.Goals as goal

pub loop-number-preserved : goal.loop-number-preserved
loop-number-preserved c = record {
  count = search rules;
  new = one_more c.args.setup.now c.args.sent.now c.loop-number.number (vec_items c.loop-number.kits) (vec_items c.push_reserved.new.self)
      c.in_ok-kit.kit c.in_ok-frames.frames.items c.loop-number.invariant.new c.in_ok-kit.ensures c.in_ok-frames.ensures (search rules);
}
