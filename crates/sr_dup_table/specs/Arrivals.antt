-- What an arrival answers, and what it leaves of a table.
use Rattle.std.specs.Prelude.{◌≡◌, ◌↔◌, ℕ, true, false, length, Option, None, Some, IfOk, IfErr, OnOk, OnErr, IsErrOf}
use Rattle.std.specs.declared.result.Result.{Result}
use Rattle.sr_frame.specs.declared.fields.Mac.{Mac}
use Rattle.sr_slots.specs.Places.{KeepsHeld}
use Rattle.sr_dup_window.specs.declared.lane_sets.Lanes.{Lanes}
use Rattle.sr_dup_table.specs.declared.fault.DupFault.{DupFault}
use Rattle.sr_dup_table.specs.declared.fault.DupFault.TheVariants.{TableFull}
use Rattle.sr_dup_table.specs.Limits.{most_sources}
use Rattle.sr_dup_table.specs.Sources.{Contents, Table, is_held, is_ready, live_others, arrive_fault, arrive_answer, after_arrive}

-- the table of this width that keeps these
abbrev pub as_table : ℕ → Contents → Table
as_table w c = record { width = w; sources = c.sources; held = c.held }

-- an arrival is answered the asked lanes on which its number is new in the epoch of its source, or refused
pub record Arrives (old : Table) (src : Mac) (seq : ℕ) (lanes : Lanes) (now : ℕ) (result : Result Lanes DupFault) (new : Table) :
    Type 0 where
  pub answer : IfOk result (λ fresh. arrive_answer old.width old.sources src seq lanes now ≡ Some fresh)
  pub after : OnOk result (new.sources ≡ after_arrive old.width old.sources src seq lanes now)
  pub width : new.width ≡ old.width
  -- TableFull exactly where 1024 other sources are live, and otherwise NoMemory alone
  pub exact : IsErrOf result TableFull ↔ (length (live_others src now old.sources) ≡ most_sources)
  pub refused : IfErr result (λ e. e ≡ arrive_fault (arrive_answer old.width old.sources src seq lanes now))
  pub full : IfErr result (λ e. e ≡ TableFull → arrive_answer old.width old.sources src seq lanes now ≡ None)
  pub only_full : arrive_answer old.width old.sources src seq lanes now ≡ None → IsErrOf result TableFull
  -- what is ready for it takes no memory; a place that was held is used up, and no other
  pub ready : is_ready old.held old.sources src ≡ true → IfErr result (λ e. e ≡ TableFull)
  pub held : OnOk result (KeepsHeld old.held new.held src)
  pub used : OnOk result (is_held new.held src ≡ false)
  pub err : OnErr result (new ≡ old)
