-- What contracts see of the ports that a prune found late.
use Rattle.std.specs.Prelude.{ℕ, List}
use Rattle.sr_frame.specs.declared.fields.Mac.{Mac}
use Rattle.sr_frame.specs.declared.ports.Port.{Port}

-- them, in the order in which they were found, and how many more fit
pub record Late : Type 0 where
  pub ports : List (Mac × Port)
  pub room : ℕ
