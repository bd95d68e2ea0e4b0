use Rattle.std.proofs.Common.{◌≡◌, ◌+◌, ◌*◌, ap, arith, ◌∙◌}
use Rattle.sr_dup_window.specs.LaneSets.{flag}
use Rattle.sr_dup_window.specs.Windows.{window_of}
use Rattle.sr_dup_snapshots.specs.Snapshots.{is_noted}
use Rattle.sr_dup_snapshots.proofs.record.lane_octet.Goals as goal

pub returns : goal.returns
returns g c =
    let at : 8 * c.args.place ≡ 8 * c.args.place + 0 = omega arith in
    let first = c.bit.ensures ∙ ap (λ k. flag (is_noted (window_of c.args.seen.now).marks c.args.lane k)) at in
    λ i. first i + 2 * c.bit-2.ensures i + 4 * c.bit-3.ensures i + 8 * c.bit-4.ensures i
    + 16 * c.bit-5.ensures i + 32 * c.bit-6.ensures i + 64 * c.bit-7.ensures i + 128 * c.bit-8.ensures i
