-- How the ports of a node carry frames.
use Rattle.sr_forwarding.specs.Framings.{FramingImage, Trailed, Ordinary}
use Rattle.sr_tests_workers.specs.declared.gate.Way.{Way}
use Rattle.sr_tests_workers.specs.declared.gate.Way.TheVariants.{Lan, Host}

abbrev pub meaning_of : Way → FramingImage
meaning_of (Lan f) = Trailed f.lan f.net
meaning_of Host = Ordinary
