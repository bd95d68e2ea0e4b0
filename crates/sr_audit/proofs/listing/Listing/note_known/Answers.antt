use Rattle.std.proofs.Common.{rules, ◌≡◌, ap, subst}
use Rattle.std.specs.Prelude.{OnOk}
use Rattle.std.proofs.lemmas.Option.{IfSome_then}
use Rattle.std.proofs.lemmas.Result.{on_ok_weaker}
use Rattle.sr_audit.specs.Pendings.{ChangesAtMost, NotesAt, NotesNext}
use Rattle.sr_audit.proofs.PendingLemmas.{answer_of, changes_at_most}
use Rattle.sr_audit.proofs.listing.Listing.note_known.Goals as goal

pub returns-clause-changed : goal.returns-clause-changed
returns-clause-changed c =
    answer_of c.update_at.result c.unwrap-noted.result (λ a. OnOk a.0 (NotesAt c.args.self.now.spans c.args.x
    c.args.self.now.sources.entries c.update_at.new.self.entries c.args.list.now.items a.1.items)) c.unwrap-noted.ensures
    (IfSome_then c.update_at.result c.update_at.ensures.changed (λ a h.
    let noted : OnOk a.0 (NotesNext c.args.self.now.spans c.args.x h.was h.is c.replace-decided.result.items a.1.items) = search rules in
    on_ok_weaker a.0 (λ notes. record {
      was = h.was;
      is = h.is;
      found = h.found;
      written = h.written;
      notes = subst (λ l. NotesNext c.args.self.now.spans c.args.x h.was h.is l a.1.items)
          (ap (λ v. v.items) c.replace-decided.ensures.value) notes;
    }) noted))

pub returns-clause-others : goal.returns-clause-others
returns-clause-others c =
    answer_of c.update_at.result c.unwrap-noted.result (λ a. ChangesAtMost c.args.x.src c.args.self.now.sources.entries
    c.update_at.new.self.entries) c.unwrap-noted.ensures
    (IfSome_then c.update_at.result c.update_at.ensures.changed (λ a h.
    let same : h.is.is_listed ≡ h.was.is_listed = search rules in
    rw h.written (changes_at_most c.args.self.now.sources.entries c.args.x.src h.was h.is h.found same)))
