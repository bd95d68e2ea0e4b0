-- What is judged of the wires of a node's ports in a ring.
use Rattle.std.specs.Prelude.{◌≡◌, ℕ, ◌+◌, ◌-◌, ◌==◌, Bool, true, false, List, [], ◌∷◌, None, if◌then◌else◌}
use Rattle.sr_forwarding.specs.Framings.{Tagged}
use Rattle.sr_node.specs.declared.event.Event.{Event}
use Rattle.sr_node.specs.declared.event.Answer.{Answer}
use Rattle.sr_agreement.specs.Agreement.{Agreement}
use Rattle.sr_ports.specs.Parts.{is_same_worker}
use Rattle.sr_ports.specs.declared.log.Log.{Log}
use Rattle.sr_ports.specs.declared.worker.Worker.{Worker}
use Rattle.sr_ports.specs.declared.worker.Worker.TheVariants as who
use Rattle.sr_ports.specs.declared.settling.Settlement.{Settlement}
use Rattle.sr_ports.specs.declared.settling.Settlement.TheVariants as settlement
use Rattle.sr_threaded.specs.declared.judging.Judgement.{Judgement}
use Rattle.sr_threaded.specs.declared.judging.Judgement.TheVariants.{Agree, DisagreesA, DisagreesB}

-- what the first log of a worker has
abbrev pub pairs_of : Worker → List Log → List (Event × Answer)
pairs_of w [] = []
pairs_of w (l ∷ ls) = if is_same_worker w l.worker then l.pairs.items else pairs_of w ls

-- A before B
abbrev pub judgement_of : Bool → Bool → Judgement
judgement_of true true = Agree
judgement_of true false = DisagreesB
judgement_of false b = DisagreesA

-- by the logs of a node and of the nodes before and behind it: what arrived at A is among the encodings of what the node before
-- took out for B, and what arrived at B among those of what the node behind took out for A; or it is not
pub record IsJudged (before own behind : List Log) (j : Judgement) : Type 0 where
  pub at_a : Bool
  pub at_b : Bool
  pub a : Agreement (Tagged 1) None (pairs_of who.A own) (pairs_of who.B before) at_a
  pub b : Agreement (Tagged 0) None (pairs_of who.B own) (pairs_of who.A behind) at_b
  pub judged : j ≡ judgement_of at_a at_b

-- the places before and behind a node in a ring of so many
abbrev pub before : ℕ → ℕ → ℕ
before i n = if i == 0 then n - 1 else i - 1

abbrev pub behind : ℕ → ℕ → ℕ
behind i n = if i + 1 == n then 0 else i + 1

-- where the logs of a node settle, and the wires of a port disagree, it is the worker of that port that disagrees
abbrev pub settlement_of : Settlement → Judgement → Settlement
settlement_of settlement.Settled Agree = settlement.Settled
settlement_of settlement.Settled DisagreesA = settlement.Disagrees who.A
settlement_of settlement.Settled DisagreesB = settlement.Disagrees who.B
settlement_of (settlement.Disagrees w) j = settlement.Disagrees w
settlement_of (settlement.Torn n) j = settlement.Torn n
