use Rattle.std.proofs.Common.{◌≤◌, ◌<◌, length, arith, rules}
use Rattle.sr_pcapng.specs.PacketBlocks.{Holds}
use Rattle.sr_pcapng.proofs.PacketLemmas.{gives_simple}
use Rattle.sr_pcapng.proofs.simple.read_simple.Goals as goal

pub returns-in-Ok-clause-read : goal.returns-in-Ok-clause-read
returns-in-Ok-clause-read c =
    let s = c.args.section.now in
    let f = c.in-Ok-Some.ensures.found in
    let long : 16 ≤ length c.args.octets.now = omega (arith, c.if-octets-lt-MIN_LEN.false) in
    let known : 0 < s.count = omega (arith, c.if-section-eq0.false) in
    let holds : Holds 12 c.held_of.result c.args.octets.now = search (rules, c.holds.ensures, c.if-not-holds.false) in
    gives_simple c.args.wanted s c.args.octets.now c.in-Ok-Some.interface _ c.held_of.result c.word_at-len.result _
    long known f.0 f.1 c.in-Ok-Some.field-0-is c.held_of.ensures c.word_at-len.ensures holds c.in-Ok.ensures.shown
