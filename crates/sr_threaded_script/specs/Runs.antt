-- How a threaded run begins, and how it ends.
use Rattle.std.specs.Prelude.{◌≡◌, ◌⊎◌, ◌+◌, ℕ, List, [], ◌++◌, length, Option, IfSome, Result, Ok, Err}
use Rattle.std.specs.Io.KnownBytes.{Appends}
use Rattle.sr_session.specs.Lines.{lines_of}
use Rattle.sr_session.specs.Runs.{IsAnswered, IsAnsweredTo, Runs}
use Rattle.sr_threaded_script.specs.declared.setup.ThreadedSetup.{ThreadedSetup}
use Rattle.sr_threaded_script.specs.declared.fault.ThreadedFault.{ThreadedFault}
use Rattle.sr_threaded_script.specs.declared.fault.ThreadedFault.TheVariants.{Script, NoThread}
use Rattle.sr_threaded_script.specs.declared.session.SendSession.{SendSession}
use Rattle.sr_threaded_script.specs.Faults.{IsBehindLines, fault_line}
use Rattle.sr_threaded_script.specs.Lines.{Sendings, threaded_dialogue}
use Rattle.sr_workers.specs.declared.feed.Feed.{Ghosts}
use Rattle.sr_threaded_script.specs.declared.host.Host.{Host}
use Rattle.sr_threaded_script.specs.Networks.{IsReport}

-- what hosts are to send so far, and the number of the last line
abbrev pub sendings_of : SendSession → Sendings
sendings_of s = record { nodes = s.setup.nodes; sent = s.sent.items; last = s.last }

-- nothing is to be sent yet
abbrev pub no_sendings_of : ThreadedSetup → Sendings
no_sendings_of setup = record { nodes = setup.nodes; sent = []; last = 0 }

-- what is held grew by a front of the text
abbrev pub WritesFront : List ℕ → Option (List ℕ) → Option (List ℕ) → Type 0
WritesFront text held now = (front rest : List ℕ) × (text ≡ front ++ rest) × Appends held now front

-- all lines are answered, and then the network is reported that ran, whose hosts are to send what the lines say
abbrev pub RunsWhole : Ghosts Host → ThreadedSetup → ℕ → List ℕ → Option (List ℕ) → Option (List ℕ) → Type 0
RunsWhole feed setup turns input held now =
    (mid : Option (List ℕ)) × (told : Sendings) × (report : List ℕ)
    × IsAnsweredTo threaded_dialogue (no_sendings_of setup) (lines_of input) held mid told
    × IsReport feed setup told.sent turns report × Appends mid now report

-- all lines are answered, and then no more than a front of a text is written; the fault is one of the network, or of the writer, and its
-- line is the one behind the last
abbrev pub StopsBehind : Sendings → ThreadedFault → List ℕ → Option (List ℕ) → Option (List ℕ) → Type 0
StopsBehind start fault input held now =
    (mid : Option (List ℕ)) × (text : List ℕ) × IsAnswered threaded_dialogue start (lines_of input) held mid × WritesFront text mid now
    × IsBehindLines fault × (fault_line fault ≡ length (lines_of input) + 1)

-- a fault of the script, as of any script
abbrev pub StopsWithin : Sendings → ThreadedFault → Option (List ℕ) → Option (List ℕ) → Option (List ℕ) → Option (List ℕ) → Type 0
StopsWithin start (Script fault) left rest held now = Runs threaded_dialogue start left rest held now (Err fault)
StopsWithin start (NoThread line) left rest held now = ⊥

-- What comes of a threaded run of so many turns. Where it ends well, all lines are answered, and then the network is reported. Where it
-- ends early, the script does, as any script; or all lines are answered, and then no more than a front of a report is written.
abbrev pub RunsThreaded : Ghosts Host → ThreadedSetup → ℕ → Option (List ℕ) → Option (List ℕ) → Option (List ℕ) → Option (List ℕ)
    → Result (Unit {0}) ThreadedFault → Type 0
RunsThreaded feed setup turns left rest held now (Ok done) = IfSome left (λ input. RunsWhole feed setup turns input held now)
RunsThreaded feed setup turns left rest held now (Err fault) =
    StopsWithin (no_sendings_of setup) fault left rest held now
    ⊎ IfSome left (λ input. StopsBehind (no_sendings_of setup) fault input held now)
