use mir.Val.{bool_byte}
use Rattle.std.proofs.Common.{◌≡◌, ◌∙◌, ◌+◌, ◌-◌, ◌*◌, ◌%◌, Bool, true, false, refl, ap}
use Rattle.sr_dup_window.specs.LaneSets.{flag, has}
use Rattle.sr_dup_window.specs.Windows.{window_of}
use Rattle.sr_dup_snapshots.proofs.MarkLemmas.{lanes-back, small}
use Rattle.sr_dup_snapshots.proofs.record.bit.Goals as goal

byte : (b : Bool) → bool_byte b ≡ flag b
byte true = refl
byte false = refl

pub returns : goal.returns
returns g c =
    let seq = (c.reference.result.0 + (65536 - c.args.back)) % 65536 in
    let at = ap (λ r. (r + (65536 - c.args.back)) % 65536) c.reference.ensures in
    let lanes = lanes-back (64 * g.row.N) (window_of c.args.seen.now) c.args.back seq (small c.args.seen.now) c.args.seen.now.carried c.requires at in
    c.from.ensures ∙ byte c.has.result ∙ ap flag (c.has.ensures ∙ ap (λ l. has l c.args.lane) lanes)
