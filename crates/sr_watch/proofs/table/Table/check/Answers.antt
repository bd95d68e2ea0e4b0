use Rattle.std.proofs.Common.{rules}
use Rattle.std.proofs.lemmas.Map.{keys-set_value}
use Rattle.sr_frame.specs.Addresses.{mac_eq}
use Rattle.sr_watch.specs.Tracking.{ChecksAlarm}
use Rattle.sr_watch.proofs.TableLemmas.{watches_kept}
use Rattle.sr_watch.proofs.table.Table.check.Goals as goal

pub returns-clause-checks : goal.returns-clause-checks
returns-clause-checks c =
    let h = c.in_ok-told.ensures.changed in
    let checks : ChecksAlarm c.args.alarm c.args.mark c.args.settings h.was h.is c.in_ok-told.told = search rules in
    λ there. record {
      was = h.was;
      is = h.is;
      found = h.found;
      checks = checks;
      written = h.written;
      keeps = λ xs lines watches. rw h.written (watches_kept xs lines c.args.self.now.sources.entries c.args.src h.was h.is h.found checks.keeps watches);
    }

pub returns-clause-watches : goal.returns-clause-watches
returns-clause-watches c =
    let h = c.in_ok-told.ensures.changed in
    let checks : ChecksAlarm c.args.alarm c.args.mark c.args.settings h.was h.is c.in_ok-told.told = search rules in
    λ xs lines watches. rw h.written (watches_kept xs lines c.args.self.now.sources.entries c.args.src h.was h.is h.found checks.keeps watches)

pub returns-clause-tabled : goal.returns-clause-tabled
returns-clause-tabled c =
    let h = c.in_ok-told.ensures.changed in
    rw h.written (keys-set_value (mac_eq c.args.src) c.args.self.now.sources.entries h.is)
