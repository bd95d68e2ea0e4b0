-- What entering an event comes to, and why it is refused.
use Rattle.std.specs.Prelude.{◌≡◌, ℕ, ◌+◌, ◌^◌, Bool, true, false, not, nat_lt, nat_eq, ◌||◌, Option, None, Some}
use Rattle.std.specs.Prelude.{List, [], ◌∷◌, ◌++◌, length, IfOk, IfErr, OnOk, OnErr}
use Rattle.std.specs.declared.result.Result.{Result}
use Rattle.sr_node.specs.declared.event.Event.{Event}
use Rattle.sr_node.specs.declared.event.Answer.{Answer}
use Rattle.sr_node.specs.Images.{State}
use Rattle.sr_node.specs.Steps as steps
use Rattle.sr_node.specs.Steps.{refusal_of}
use Rattle.sr_node.specs.declared.fault.StepFault.{StepFault}
use Rattle.sr_node.specs.declared.fault.StepFault.TheVariants.{NoMemory}
use Rattle.sr_ports.specs.declared.fault.EnterFault.{EnterFault}
use Rattle.sr_ports.specs.declared.fault.EnterFault.TheVariants.{Step, JournalFull}
use Rattle.sr_ports.specs.declared.entry.Entry.{Entry}
use Rattle.sr_ports.specs.declared.worker.Worker.{Worker}
use Rattle.sr_ports.specs.Histories.{EnteredAs, entry}
use Rattle.sr_ports.specs.Limits.{most_entries}

-- a journal takes no more entries: it has as many as it may have, or all journals together have as many as the book can say
abbrev pub is_journal_full : ℕ → ℕ → Bool
is_journal_full entries total = not (nat_lt entries most_entries) || nat_eq (total + 1) (2 ^ 64)

-- why an event is not entered: the node's refusal, a full journal, or want of memory where there is neither
abbrev pub enter_fault : Option StepFault → Bool → EnterFault
enter_fault (Some f) full = Step f
enter_fault None true = JournalFull
enter_fault None false = Step NoMemory

-- where the journal has room, the node takes the event, and its entry is the last; or both stay as they are
pub record IsEntered (s : State) (journal : List Entry) (worker : Worker) (event : Event) (result : Result Answer EnterFault)
    (t : State) (written : List Entry) : Type 0 where
  pub entered : IfOk result (λ a. EnteredAs s event a t)
  pub entry : IfOk result (λ a. written ≡ journal ++ entry worker event a ∷ [])
  pub err : IfErr result (λ f. f ≡ enter_fault (refusal_of s event) false)
  pub node : OnErr result (t ≡ s)
  pub journal_stays : OnErr result (written ≡ journal)

-- what of all that lies under a lock an event may change: the node, the journal, and how many entries there are in all
pub record Locked : Type 0 where
  pub node : State
  pub journal : List Entry
  pub total : ℕ

abbrev pub locked : State → List Entry → ℕ → Locked
locked node journal total = record { node = node; journal = journal; total = total }

-- The node took the event, which it does not refuse, and the entry is the last of the journal, which had room; or the event was
-- refused, for the first reason that there was, and all stayed as it was.
pub record EntersUnder (s : Locked) (worker : Worker) (event : Event) (result : Result Answer EnterFault) (t : Locked) : Type 0 where
  pub step : IfOk result (λ a. steps.Step s.node event a t.node)
  pub taken : OnOk result (refusal_of s.node event ≡ None)
  pub room : OnOk result (is_journal_full (length s.journal) s.total ≡ false)
  pub entry_is : IfOk result (λ a. t.journal ≡ s.journal ++ entry worker event a ∷ [])
  pub more : OnOk result (t.total ≡ s.total + 1)
  pub why : IfErr result (λ f. f ≡ enter_fault (refusal_of s.node event) (is_journal_full (length s.journal) s.total))
  pub node_stays : OnErr result (t.node ≡ s.node)
  pub journal_stays : OnErr result (t.journal ≡ s.journal)
  pub total_stays : OnErr result (t.total ≡ s.total)
