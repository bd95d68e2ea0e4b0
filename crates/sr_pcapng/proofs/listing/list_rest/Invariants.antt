use Rattle.sr_pcapng.proofs.Listings.{Goes}
use Rattle.sr_pcapng.proofs.listing.list_rest.Given as goal

abbrev pub invariant-rest : goal.invariant-rest
invariant-rest g l = Goes l.fn.order l.fn.start l.listing l.counter (g.R.Read.remaining l.fn.reader) (g.R.Read.remaining l.reader)
