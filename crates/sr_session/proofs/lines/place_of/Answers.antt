use Rattle.sr_session.proofs.Places.{IsPlaceOf-found}
use Rattle.sr_session.proofs.lines.place_of.Goals as goal

pub returns : goal.returns
returns c = IsPlaceOf-found c.args.octet c.args.octets.now c.memchr.result c.memchr.ensures
