-- Whether a frame of the ring goes on to the interlink.
use Rattle.std.specs.Prelude.{List, [], ◌∷◌}
use Rattle.sr_frame.specs.declared.ports.Port.{Port}
use Rattle.sr_frame.specs.declared.ports.Port.TheVariants.{C}
use Rattle.sr_redbox.specs.declared.ring_boxes.Interlink.{Interlink}
use Rattle.sr_redbox.specs.declared.ring_boxes.Interlink.TheVariants.{Open, Closed}

-- the interlink, where it does
abbrev pub ports_of : Interlink → List Port
ports_of Open = C ∷ []
ports_of Closed = []
