use Rattle.std.proofs.Common.{rules, ◌≡◌, ap, subst}
use Rattle.std.specs.Prelude.{OnOk}
use Rattle.std.proofs.lemmas.Option.{IfSome_then}
use Rattle.std.proofs.lemmas.Result.{on_ok_weaker}
use Rattle.sr_audit.specs.Pendings.{ChangesAtMost, EndsSource, EndsListing}
use Rattle.sr_audit.proofs.PendingLemmas.{answer_of, changes_at_most}
use Rattle.sr_audit.proofs.listing.Listing.finish_known.Goals as goal

pub returns-clause-ended : goal.returns-clause-ended
returns-clause-ended c =
    answer_of c.update_at.result c.unwrap-ended.result (λ a. OnOk a.0 (EndsSource c.args.self.now.spans c.args.src
    c.args.self.now.sources.entries c.update_at.new.self.entries c.args.list.now.items a.1.items)) c.unwrap-ended.ensures
    (IfSome_then c.update_at.result c.update_at.ensures.changed (λ a h.
    let ended : OnOk a.0 (EndsListing c.args.self.now.spans c.args.src h.was h.is c.replace-decided.result.items a.1.items) = search rules in
    on_ok_weaker a.0 (λ ends. record {
      was = h.was;
      is = h.is;
      found = h.found;
      written = h.written;
      ends = subst (λ l. EndsListing c.args.self.now.spans c.args.src h.was h.is l a.1.items)
          (ap (λ v. v.items) c.replace-decided.ensures.value) ends;
    }) ended))

pub returns-clause-others : goal.returns-clause-others
returns-clause-others c =
    answer_of c.update_at.result c.unwrap-ended.result (λ a. ChangesAtMost c.args.src c.args.self.now.sources.entries
    c.update_at.new.self.entries) c.unwrap-ended.ensures
    (IfSome_then c.update_at.result c.update_at.ensures.changed (λ a h.
    let same : h.is.is_listed ≡ h.was.is_listed = search rules in
    rw h.written (changes_at_most c.args.self.now.sources.entries c.args.src h.was h.is h.found same)))
