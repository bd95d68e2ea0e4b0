-- What a run counts of the lines of its script.
use Rattle.std.specs.Prelude.{◌≡◌, ◌⊎◌, ℕ, ◌+◌, List, [], Some, min}
use Rattle.sr_frame.specs.declared.ports.Port.{Port}
use Rattle.sr_node.specs.declared.fault.StepFault.{StepFault}
use Rattle.sr_node.specs.declared.fault.StepFault.TheVariants as fault
use Rattle.sr_node.specs.declared.per_port.PerPort.{PerPort}
use Rattle.sr_node.specs.PerPort.{at, with_at, same_for_all}
use Rattle.sr_node.specs.Limits.{greatest_count}
use Rattle.sr_script.specs.declared.counts.Counts.{Counts}
use Rattle.sr_script.specs.declared.reading.Command.{Command}
use Rattle.sr_script.specs.declared.reading.Command.TheVariants.{Skip, Arrive, Send, Tick}
use Rattle.sr_script.specs.Texts.{name_of, refusal_line}

-- the counts with one more at a port; each stays at its greatest value
abbrev pub one_more : PerPort ℕ → Port → PerPort ℕ
one_more counts port = with_at counts port (min (at counts port + 1) greatest_count)

-- nothing is counted yet
abbrev pub no_counts : Counts
no_counts = record { frames = same_for_all 0; refused = same_for_all 0; left_out = 0 }

-- a frame came in at a port, and was taken
abbrev pub taken_at : Counts → Port → Counts
taken_at c port = record c { frames = one_more c.frames port }

-- how many frames of further sources were refused, after a frame was refused for this reason
abbrev pub left_out_after : ℕ → StepFault → ℕ
left_out_after count (fault.Reading reason) = count
left_out_after count fault.Untagged = count
left_out_after count fault.TableFull = min (count + 1) greatest_count
left_out_after count (fault.OutboxFull port) = count
left_out_after count fault.NoMemory = count

-- a frame came in at a port, and was refused for this reason
abbrev pub refused_at : Counts → Port → StepFault → Counts
refused_at c port f = record {
  frames = one_more c.frames port;
  refused = one_more c.refused port;
  left_out = left_out_after c.left_out f;
}

-- what is counted, from c on, of a command of the line with this number that is answered by this text
abbrev pub IsCounted : ℕ → Command → List ℕ → Counts → Counts → Type 0
IsCounted number Skip text c d = d ≡ c
IsCounted number (Arrive port time) text c d = ((text ≡ []) × (d ≡ taken_at c port))
    ⊎ ((f : StepFault) × (name : List ℕ) × (name_of f ≡ Some name) × (text ≡ refusal_line number name) × (d ≡ refused_at c port f))
IsCounted number (Send time) text c d = d ≡ c
IsCounted number (Tick time) text c d = d ≡ c
