-- The rules that options keep together.
use Rattle.std.specs.Prelude.{◌≡◌, ◌≢◌, ℕ, ◌+◌, ◌%◌, ◌^◌, ◌≤◌, ℤ, slice_index, Bool, true, false, Option, Some, None, ⊤, ◌⊎◌}
use Rattle.sr_frame.specs.declared.fields.Mac.{Mac}
use Rattle.sr_capture_script.specs.declared.choice.Delays.{Delays}
use Rattle.sr_options.specs.Limits.{most_every, least_slack, most_slack}
use Rattle.sr_options.specs.Shifts.{others_longer, AreSetBack, AreSetBackTooFar}
use Rattle.sr_options.specs.declared.audit_line.AuditTask.{AuditTask}
use Rattle.sr_options.specs.declared.audit_line.Format.{Format}
use Rattle.sr_options.specs.declared.audit_line.Format.TheVariants as format
use Rattle.sr_options.specs.declared.audit_line.Lists.{Lists}
use Rattle.sr_options.specs.declared.audit_line.Ports.{Ports}
use Rattle.sr_options.specs.declared.audit_line.Ports.TheVariants as ports
use Rattle.sr_options.specs.declared.coupled_line.Joins.TheVariants as joins
use Rattle.sr_options.specs.declared.node_line.NodeTask.{NodeTask}
use Rattle.sr_options.specs.declared.merge_line.MergeTask.{MergeTask}
use Rattle.sr_options.specs.declared.page_words.PageWords.{PageWords}
use Rattle.sr_options.specs.declared.plant_line.Shape.{Shape}
use Rattle.sr_options.specs.declared.plant_line.Shape.TheVariants as shape
use Rattle.sr_options.specs.declared.script_line.ScriptTask.{ScriptTask}
use Rattle.sr_options.specs.declared.task.Task.{Task}
use Rattle.sr_options.specs.declared.watch_line.WatchTask.{WatchTask}
use Rattle.sr_options.specs.declared.task.Task.TheVariants as task

-- a list that is wanted is one
abbrev pub count_list : Bool → ℕ
count_list true = 1
count_list false = 0

-- how many lists are wanted
abbrev pub count_lists : Lists → ℕ
count_lists lists = count_list lists.lost + count_list lists.wrong + count_list lists.pairs

-- a table has place for one list, a picture and a page for none
abbrev pub FitsFormat : Format → Lists → Type 0
FitsFormat format.Text lists = ⊤
FitsFormat format.Json lists = ⊤
FitsFormat format.Csv lists = count_lists lists ≤ 1
FitsFormat format.Svg lists = count_lists lists ≡ 0
FitsFormat format.Html lists = count_lists lists ≡ 0

-- the capture of a mirror port stands alone
abbrev pub StandsAlone : {A : Type 0} → Ports → Option A → Type 0
StandsAlone ports.Two b = ⊤
StandsAlone ports.Mirror b = b ≡ None

-- no words of a page are given
abbrev pub AreNone : PageWords → Type 0
AreNone words = (words.title ≡ None) × (words.note ≡ None) × (words.names ≡ None)

-- a page alone has a place for them
abbrev pub HasPlaceFor : Format → PageWords → Type 0
HasPlaceFor format.Html words = ⊤
HasPlaceFor other words = AreNone words

-- what an audit keeps
abbrev pub AuditKeepsRules : AuditTask → Type 0
AuditKeepsRules t = FitsFormat t.format t.lists × StandsAlone t.ports t.b × HasPlaceFor t.format t.page

-- ticks are at least a millisecond apart
abbrev pub ScriptKeepsRules : ScriptTask → Type 0
ScriptKeepsRules t = t.options.choice.tick ≢ Some 0

-- a script by the clock of A, where that of B is so far ahead: it differs in its delays alone
pub record ScriptsByClockOfA (old : ScriptTask) (ahead : ℤ) (new : ScriptTask) : Type 0 where
  pub delays : Delays
  pub are : AreSetBack old.options.delays ahead delays
  pub is : new ≡ record old { options = record old.options { delays = delays } }

-- a merge by the clock of A: the times that are written are earlier by what those of A are put off longer, so that these stay as they were
pub record MergesByClockOfA (old : MergeTask) (ahead : ℤ) (new : MergeTask) : Type 0 where
  pub delays : Delays
  pub are : AreSetBack old.options.delays ahead delays
  pub is : new ≡ record old { options = record old.options { delays = delays }; early = old.early + others_longer ahead }

-- a delay would be more than 2^62 nanoseconds, or what all times are put off more than 64 bits
abbrev pub IsTooFarAhead : MergeTask → ℤ → Type 0
IsTooFarAhead t ahead = AreSetBackTooFar t.options.delays ahead ⊎ (2 ^ 64 ≤ t.early + others_longer ahead)

-- a ring has more nodes than boxes
abbrev pub ShapeKeepsRules : Shape → Type 0
ShapeKeepsRules (shape.TwoRings left right joins.Two) = (3 ≤ left.count) × (3 ≤ right.count)
ShapeKeepsRules other = ⊤

-- reports are a second apart at least, what recorders may keep is within bounds, and a mirror port stands alone
abbrev pub WatchKeepsRules : WatchTask → Type 0
WatchKeepsRules t = (1 ≤ t.every) × (t.every ≤ most_every) × (least_slack ≤ t.slack) × (t.slack ≤ most_slack)
    × StandsAlone t.ports t.b

-- an address of one node, and not of a group
abbrev pub NamesOneNode : Mac → Type 0
NamesOneNode mac = slice_index mac.0 0 % 2 ≢ 1

-- what the options of a node keep
abbrev pub NodeKeepsRules : NodeTask → Type 0
NodeKeepsRules t = NamesOneNode t.mac

-- a task keeps the rules that its options keep together
abbrev pub KeepsRules : Task → Type 0
KeepsRules (task.Script t) = ScriptKeepsRules t
KeepsRules (task.Audit t) = AuditKeepsRules t
KeepsRules (task.Plant t) = ShapeKeepsRules t.shape
KeepsRules (task.Watch t) = WatchKeepsRules t
KeepsRules (task.Replay t) = NodeKeepsRules t
KeepsRules (task.Status t) = NodeKeepsRules t
KeepsRules (task.Tally t) = NodeKeepsRules t
KeepsRules other = ⊤
