use Rattle.std.proofs.Common.{◌∙◌, sym, subst}
use Rattle.std.proofs.lemmas.Result.{on_ok_weaker}
use Rattle.std.specs.Map.{lookup}
use Rattle.sr_frame.specs.Addresses.{mac_eq}
use Rattle.sr_audit.specs.Pendings.{arrivals_from, NotesAt}
use Rattle.sr_audit.proofs.AuditLemmas.{nothing_there}
use Rattle.sr_audit.proofs.PendingLemmas.{lists_at, lists_copy, lists_left, lists_nothing}
use Rattle.sr_audit.proofs.listing.Listing.note.Goals as goal

pub returns-then-branch-clause-lists : goal.returns-then-branch-clause-lists
returns-then-branch-clause-lists c = on_ok_weaker c.note_known.result (λ at xs few lists.
    lists_at c.make_entry.new.self.spans c.args.self.now.first xs c.args.x c.make_entry.new.self.sources.entries
    c.note_known.new.self.sources.entries c.args.list.now.items c.note_known.new.list.items few at (c.make_entry.ensures.lists xs lists))
    c.note_known.ensures.changed

pub returns-then-branch-clause-listed : goal.returns-then-branch-clause-listed
returns-then-branch-clause-listed c = on_ok_weaker c.note_known.result (λ at xs lists.
    lists_copy c.args.self.now.spans c.args.self.now.first xs c.args.x c.args.self.now.sources.entries
    c.make_entry.new.self.sources.entries c.note_known.new.self.sources.entries c.args.list.now.items c.note_known.new.list.items
    c.make_entry.ensures.known
    (subst (λ s. NotesAt s c.args.x c.make_entry.new.self.sources.entries c.note_known.new.self.sources.entries c.args.list.now.items
    c.note_known.new.list.items) c.make_entry.ensures.spans at) (c.make_entry.ensures.lists xs lists)) c.note_known.ensures.changed

pub returns-else-branch-clause-lists : goal.returns-else-branch-clause-lists
returns-else-branch-clause-lists c =
    let lacks = sym c.in_ok-make_entry.ensures.made ∙ c.if-branch.false in
    λ xs few lists. lists_left c.args.self.now.first xs c.make_entry.new.self.sources.entries c.args.x
    (nothing_there (lookup (mac_eq c.args.x.src) c.make_entry.new.self.sources.entries) lacks)
    (c.in_ok-make_entry.ensures.full c.if-branch.false) (c.make_entry.ensures.lists xs lists)

pub returns-else-branch-clause-listed : goal.returns-else-branch-clause-listed
returns-else-branch-clause-listed c =
    let lacks = sym c.in_ok-make_entry.ensures.made ∙ c.if-branch.false in
    λ xs lists. lists_nothing c.args.self.now.spans (arrivals_from c.args.x.src xs) c.args.x
    (lookup (mac_eq c.args.x.src) c.args.self.now.sources.entries) (lookup (mac_eq c.args.x.src) c.make_entry.new.self.sources.entries)
    c.args.list.now.items lacks
