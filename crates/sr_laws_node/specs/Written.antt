-- What goes out can be written by the framing of its port.
use Rattle.std.specs.Prelude.{◌≡◌, ℕ, List, ◌∷◌, Option, None, Some, All, length}
use Rattle.sr_frame.specs.declared.ports.Port.{Port}
use Rattle.sr_forwarding.specs.Parcels.{ParcelImage}
use Rattle.sr_forwarding.specs.Framings.{FramingImage}
use Rattle.sr_forwarding.specs.Decoding.{IsRead}
use Rattle.sr_forwarding.specs.Encoding.{write_fault}
use Rattle.sr_forwarding.specs.Kinds.{framing_at}
use Rattle.sr_node.specs.declared.event.Event.TheVariants as event
use Rattle.sr_node.specs.Images.{State}
use Rattle.sr_laws_node.specs.Origins.{Origin, first_state}
use Rattle.sr_laws_node.specs.NodeRuns.{Turn, happened, swapped, RunFrom}
use Rattle.sr_laws_node.specs.NodeLaws.{before_of}
use Rattle.sr_laws_node.specs.AnyRuns.{wanted_in}

-- a parcel that a port reads which has this framing
abbrev pub IsReadBy : Option FramingImage → ParcelImage → Type 0
IsReadBy None p = ⊥
IsReadBy (Some f) p = (octets : List ℕ) × IsRead f octets p

-- what comes in is what the port reads there by the framing that the role gives it
abbrev pub IsReadTurn : Turn → Type 0
IsReadTurn (happened s (event.Arrive port p now) a n) = IsReadBy (framing_at s.role.kind port) p
IsReadTurn (happened s (event.Send octets now) a n) = Unit {0}
IsReadTurn (happened s (event.Tick now) a n) = Unit {0}
IsReadTurn (happened s (event.Take port) a n) = Unit {0}
IsReadTurn (swapped s r) = Unit {0}

-- in every run, where what comes in is read by the framings of the role's ports, all that goes out at an outlet is written by the framing
-- of that port, want of memory apart
abbrev pub WhatGoesOutIsWritten : Type 0
WhatGoesOutIsWritten =
    (origin : Origin) (turn : Turn) (before : List Turn) (t : State) (o : Port) (f : FramingImage)
    → length (first_state origin).role.mac.0 ≡ 6 → RunFrom origin (turn ∷ before) t → IsReadTurn turn
    → framing_at (before_of turn).role.kind o ≡ Some f
    → All (λ b. write_fault f b.parcel ≡ None) (wanted_in o before turn)
