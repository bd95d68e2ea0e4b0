use Rattle.std.proofs.Common.{◌≡◌, ◌+◌, ◌-◌, ◌^◌, length, refl, arith, rules}
use Rattle.std.specs.Prelude.{min}
use Rattle.sr_pcapng.proofs.Steps.{passes_on, takes_packet}
use Rattle.sr_pcapng.proofs.packets.next_packet.Goals as goal

pub returns-in-Ok-Packet-clause-taken : goal.returns-in-Ok-Packet-clause-taken
returns-in-Ok-Packet-clause-taken g c =
    let t = rw c.in-Ok-Packet.field-0-is at c.in-Ok-Packet.ensures.taken in
    let sum : c.saturating_add-packet.result ≡ min (c.steps.size + length t.0) (2 ^ 64 - 1) =
    omega (arith, c.saturating_add-packet.ensures, t.1) in
    takes_packet c.args.track.now c.steps.track c.take_step.new.track (g.R.Read.remaining c.args.reader.now) (g.R.Read.remaining c.steps.reader) (g.R.Read.remaining c.take_step.new.reader)
    c.steps.size c.saturating_add-packet.result c.steps.counter t.0 t.3.0 c.take_step.new.packet _ c.steps.invariant t.2 t.3.1 t.3.2 sum refl refl refl refl refl

pub steps-preserved : goal.steps-preserved
steps-preserved g c =
    let t = rw c.in-Ok-Passed.field-0-is at c.in-Ok-Passed.ensures.taken in
    let sum : c.saturating_add-size.result ≡ min (c.steps.size + length t.0) (2 ^ 64 - 1) =
    omega (arith, c.saturating_add-size.ensures, t.1) in
    passes_on c.args.track.now c.steps.track c.take_step.new.track (g.R.Read.remaining c.args.reader.now) (g.R.Read.remaining c.steps.reader) (g.R.Read.remaining c.take_step.new.reader)
    c.steps.size c.saturating_add-size.result c.steps.counter t.0 c.steps.invariant t.2 t.3 sum

pub returns-in-Err-clause-fault : goal.returns-in-Err-clause-fault
returns-in-Err-clause-fault g c = search rules
