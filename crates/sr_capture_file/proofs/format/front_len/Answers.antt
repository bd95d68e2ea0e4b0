use Rattle.std.proofs.Common.{rules}
use Rattle.sr_capture_file.proofs.format.front_len.Goals as goal

pub returns-in-Pcap : goal.returns-in-Pcap
returns-in-Pcap c = search rules
