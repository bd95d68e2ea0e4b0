use Rattle.sr_forwarding.proofs.WritingLemmas.{never_no_memory, memory_tells}
use Rattle.sr_forwarding.proofs.laws.want_of_memory_is_no_fault_of_a_parcel.Goals as goal

pub returns-clause-never : goal.returns-clause-never
returns-clause-never c = never_no_memory

pub returns-clause-tells : goal.returns-clause-tells
returns-clause-tells c = memory_tells
