-- A line with a time and octets, whole at the front of a text.
use Rattle.std.specs.Prelude.{◌≡◌, ℕ, ◌+◌, ◌≤◌, List, ◌∷◌, ◌++◌, length, take}
use Rattle.sr_script.specs.declared.reading.FrontLine.{FrontLine}
use Rattle.sr_script.specs.declared.reading.Command.{Command}
use Rattle.sr_forwarding.specs.declared.kind.RoleKind.{RoleKind}
use Rattle.sr_script.specs.Commands.{IsTimed, Says}
use Rattle.sr_session.specs.Limits.{longest_line}
use Rattle.sr_session.specs.Fronts.{IsFrontLine}
use Rattle.sr_session.specs.Octets.{Lacks}

-- the line at the front says this, with the first of these octets
pub record StandsAtFront (role : RoleKind) (text : List ℕ) (command : Command) (f : FrontLine) (octets : List ℕ) : Type 0 where
  pub line : List ℕ
  pub front : IsFrontLine text line
  pub long : f.length ≡ length line
  pub count : f.count ≤ length octets
  pub says : Says role line command (take f.count octets)

-- a time and octets stand at the front, and the LF behind them; so many octets are left where their line begins
pub record EndsAtFront (left : ℕ) (text : List ℕ) (f : FrontLine) (octets : List ℕ) : Type 0 where
  pub timed : List ℕ
  pub after : List ℕ
  pub is_timed : IsTimed timed f.time (take f.count octets)
  pub unbroken : Lacks 10 timed
  pub parts : text ≡ timed ++ 10 ∷ after
  pub long : f.length + length text ≡ left + length timed
  pub short : f.length ≤ longest_line
  pub count : f.count ≤ length octets
