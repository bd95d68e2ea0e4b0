use Rattle.std.proofs.Common.{rules}
use Rattle.sr_pcapng.proofs.laws.entries_are_writable.Goals as goal

pub returns : goal.returns
returns c =
    let e = c.args.entry.now in
    record { time = e.early; len = search rules; octets = e.short; comment = e.told }
