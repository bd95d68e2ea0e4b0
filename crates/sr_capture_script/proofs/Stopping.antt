-- Faults while an item was printed.
use Rattle.std.proofs.Common.{◌≡◌, ℕ, List, Option, sym, subst}
use Rattle.sr_capture_script.specs.declared.choice.Choice.{Choice}
use Rattle.sr_capture_script.specs.declared.choice.Inlet.{Inlet}
use Rattle.sr_capture_script.specs.declared.fault.ScriptFault.{ScriptFault}
use Rattle.sr_capture_script.specs.declared.fault.ScriptFault.TheVariants.{File, Write, NoMemory, Endless}
use Rattle.sr_capture_script.specs.declared.source.Source.{Source}
use Rattle.sr_capture_script.specs.SourceViews.{StopsPrinting, StopsServing}

-- a fault of the printing ends the serving, and the file is as it was
pub stops_serving : {R : Type 0} (remaining : R → Option (List ℕ)) (inlet : Inlet) (choice : Choice) (base m : ℕ) (last : Option ℕ)
    (fault : ScriptFault) (before after : Source R) (held now : Option (List ℕ)) → after ≡ before → StopsPrinting fault held now
    → StopsServing remaining inlet choice base m last fault before after held now
stops_serving remaining inlet choice base m last Write before after held now same stop = tt
stops_serving remaining inlet choice base m last NoMemory before after held now same stop = (same, stop)
stops_serving remaining inlet choice base m last Endless before after held now same stop = absurd stop
stops_serving remaining inlet choice base m last (File at fault) before after held now same stop = absurd stop

-- want of memory before anything was written, and a writer that failed
pub stops_without_memory : (fault : ScriptFault) (held now : Option (List ℕ)) → fault ≡ NoMemory → now ≡ held → StopsPrinting fault held now
stops_without_memory fault held now is kept = subst (λ (f : ScriptFault). StopsPrinting f held now) (sym is) kept

pub stops_writing : (fault : ScriptFault) (held now : Option (List ℕ)) → fault ≡ Write → StopsPrinting fault held now
stops_writing fault held now is = subst (λ (f : ScriptFault). StopsPrinting f held now) (sym is) tt
