use Rattle.std.proofs.Common.{◌≡◌, ◌<◌, ◌+◌, ◌*◌, ◌^◌, arith, rules}
use Rattle.sr_capture.specs.Numbers.{word_at}
use Rattle.sr_pcapng.specs.PacketBlocks.{Holds}
use Rattle.sr_pcapng.proofs.PacketLemmas.{gives_timed}
use Rattle.sr_pcapng.proofs.enhanced.read_timed.Goals as goal

pub returns-in-Ok-clause-read : goal.returns-in-Ok-clause-read
returns-in-Ok-clause-read c =
    let s = c.args.section.now in
    let f = c.in-Ok-Some.ensures.found in
    let known : c.args.number < s.count = omega (arith, c.if-number-section.false) in
    let holds : Holds 28 c.word_at.result c.args.octets.now = search (rules, c.holds.ensures, c.if-not-holds.false) in
    let ticks : c.from-high.result * 4294967296 + c.from.result ≡ word_at s.order c.args.octets.now 12 * 2 ^ 32 + word_at s.order c.args.octets.now 16 =
    omega (arith, c.from-high.ensures, c.from.ensures, c.word_at-3.ensures, c.word_at-4.ensures) in
    gives_timed c.args.wanted s c.args.octets.now c.in-Ok-Some.interface _ c.args.number _ c.time_of.result c.word_at.result c.word_at-2.result _
    c.requires known f.0 f.1 c.in-Ok-Some.field-0-is c.word_at.ensures c.word_at-2.ensures holds ticks c.time_of.ensures.time c.in-Ok.ensures.shown
