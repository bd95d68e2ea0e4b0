use Rattle.std.proofs.Common.{rules, ◌≡◌, true, false}
use Rattle.sr_frame.specs.Addresses.{mac_eq}
use Rattle.sr_threaded.specs.Sources.{address_of}
use Rattle.sr_threaded.proofs.Asking.{the_own, anothers}
use Rattle.sr_threaded.proofs.sources.agrees_with.Goals as goal

pub returns-then-eq-clause-agreement : goal.returns-then-eq-clause-agreement
returns-then-eq-clause-agreement g c =
    let is : mac_eq (address_of c.args.end.now) c.args.own ≡ true = search rules in
    the_own _ _ _ _ c.args.end.now is

pub returns-clause-agreement : goal.returns-clause-agreement
returns-clause-agreement g c =
    let is : mac_eq (address_of c.args.end.now) c.args.own ≡ false = search rules in
    anothers _ _ _ _ c.args.end.now _ is (search rules)
