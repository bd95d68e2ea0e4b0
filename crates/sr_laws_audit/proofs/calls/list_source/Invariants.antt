use Rattle.std.proofs.Common.{◌≡◌, take}
use Rattle.std.specs.Prelude.{reverse}
use Rattle.sr_laws_audit.specs.Lists.{ListingRun}
use Rattle.sr_laws_audit.proofs.calls.list_source.Given as goal

-- the copies so far make a run
abbrev pub invariant-loop-copy : goal.invariant-loop-copy
invariant-loop-copy l = record {
  run : ListingRun l.fn.spans l.fn.first (reverse (take l.copy-index l.copies)) l.listing.sources.entries l.lines.items;
  spans : l.listing.spans ≡ l.fn.spans;
  first : l.listing.first ≡ l.fn.first;
}
