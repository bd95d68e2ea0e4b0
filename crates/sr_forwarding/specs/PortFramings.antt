-- The framings of ports, as plain values.
use Rattle.sr_forwarding.specs.declared.port_framing.PortFraming.{PortFraming}
use Rattle.sr_forwarding.specs.declared.port_framing.PortFraming.TheVariants.{Plain, Hsr, Prp}
use Rattle.sr_forwarding.specs.Framings.{FramingImage, Tagged, Trailed, Ordinary}

-- how such a port carries frames
abbrev pub carried_as : PortFraming → FramingImage
carried_as (Plain f) = Ordinary
carried_as (Hsr f) = Tagged f.path
carried_as (Prp f) = Trailed f.lan f.net
