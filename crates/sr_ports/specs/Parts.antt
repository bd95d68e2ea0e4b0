-- A worker's part of a journal, and whether its log is that part.
use Rattle.std.specs.Prelude.{◌≡◌, List, [], ◌∷◌, ◌++◌, Bool, true, false, if◌then◌else◌}
use Rattle.sr_node.specs.declared.event.Event.{Event}
use Rattle.sr_node.specs.declared.event.Answer.{Answer}
use Rattle.sr_ports.specs.declared.entry.Entry.{Entry}
use Rattle.sr_ports.specs.declared.log.Log.{Log}
use Rattle.sr_ports.specs.declared.segment.Segment.{Segment}
use Rattle.sr_ports.specs.declared.worker.Worker.{Worker}
use Rattle.sr_ports.specs.declared.worker.Worker.TheVariants.{A, B, C, Ager, Host}

abbrev pub is_same_worker : Worker → Worker → Bool
is_same_worker A A = true
is_same_worker B B = true
is_same_worker C C = true
is_same_worker Ager Ager = true
is_same_worker Host Host = true
is_same_worker _ _ = false

-- what this worker entered, with the answers, in order
abbrev pub part : Worker → List Entry → List (Event × Answer)
part w [] = []
part w (e ∷ es) = if is_same_worker w e.worker then (e.event, e.answer) ∷ part w es else part w es

-- the logs that name this worker
abbrev pub logs_of : Worker → List Log → List Log
logs_of w [] = []
logs_of w (l ∷ ls) = if is_same_worker w l.worker then l ∷ logs_of w ls else logs_of w ls

-- no log counts as an empty one, and two disagree
abbrev pub IsLogged : List (Event × Answer) → List Log → Type 0
IsLogged pairs [] = pairs ≡ []
IsLogged pairs (l ∷ []) = pairs ≡ l.pairs.items
IsLogged pairs (l ∷ m ∷ ls) = ⊥

-- the worker's log is its part of the entries, in order, each once, with equal answers
abbrev pub Agrees : Worker → List Entry → List Log → Type 0
Agrees w entries logs = IsLogged (part w entries) (logs_of w logs)

-- those before this worker, in the order A, B, C, Ager, Host, agree
abbrev pub AgreeBefore : Worker → List Entry → List Log → Type 0
AgreeBefore A es ls = Unit {0}
AgreeBefore B es ls = Agrees A es ls
AgreeBefore C es ls = Agrees A es ls × Agrees B es ls
AgreeBefore Ager es ls = Agrees A es ls × Agrees B es ls × Agrees C es ls
AgreeBefore Host es ls = Agrees A es ls × Agrees B es ls × Agrees C es ls × Agrees Ager es ls

-- the entries of segments, one after the other
abbrev pub entries_in : List Segment → List Entry
entries_in [] = []
entries_in (s ∷ ss) = s.entries.items ++ entries_in ss
