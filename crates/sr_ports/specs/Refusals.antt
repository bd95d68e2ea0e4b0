-- What a worker was refused.
use Rattle.std.specs.Prelude.{◌≡◌, ℕ, ◌+◌, ◌-◌, ◌^◌, min, Option, None, Some, IfErr, OnOk, OnErr}
use Rattle.std.specs.declared.result.Result.{Result}
use Rattle.sr_node.specs.declared.event.Answer.{Answer}
use Rattle.sr_ports.specs.Stamps.{Stamp}
use Rattle.sr_ports.specs.declared.fault.EnterFault.{EnterFault}

-- how many events were refused, up to the greatest number, and why the last of them was
pub record Refused : Type 0 where
  pub count : ℕ
  pub last : Option EnterFault

abbrev pub refused : ℕ → Option EnterFault → Refused
refused n why = record { count = n; last = why }

-- none was
abbrev pub none_refused : Refused
none_refused = refused 0 None

-- one more was, for this reason
abbrev pub refused_again : Refused → EnterFault → Refused
refused_again r why = refused (min (r.count + 1) (2 ^ 64 - 1)) (Some why)

-- One event was entered with the pass; or one was refused, for this reason.
pub record CountsOnce (pass : Stamp) (r : Refused) (result : Result Answer EnterFault) (pass' : Stamp) (r' : Refused) : Type 0 where
  pub worker : pass'.worker ≡ pass.worker
  pub entered : OnOk result (pass'.count ≡ pass.count + 1)
  pub none_more : OnOk result (r' ≡ r)
  pub not_entered : OnErr result (pass'.count ≡ pass.count)
  pub one_more : IfErr result (λ why. r' ≡ refused_again r why)
