use Rattle.std.proofs.Common.{rules, ◌≡◌, ◌<◌, arith, false, length, is_some}
use Rattle.std.specs.Map.{lookup}
use Rattle.sr_frame.specs.Addresses.{mac_eq}
use Rattle.sr_audit.specs.Limits.{most_audited}
use Rattle.sr_audit.proofs.AuditLemmas.{nothing_there}
use Rattle.sr_audit.proofs.PendingLemmas.{heard_known, heard_new, lists_made, others_made, own_made}
use Rattle.sr_audit.proofs.listing.Listing.make_entry.Goals as goal

pub returns-then-is_some-clause-order : goal.returns-then-is_some-clause-order
returns-then-is_some-clause-order c = heard_known c.args.src c.args.self.now.sources.entries (search rules)

pub returns-clause-made : goal.returns-clause-made
returns-clause-made c =
    let lacks : is_some (lookup (mac_eq c.args.src) c.args.self.now.sources.entries) ≡ false = search rules in
    let absent = nothing_there (lookup (mac_eq c.args.src) c.args.self.now.sources.entries) lacks in
    rw c.in_ok-append.ensures.entries (own_made c.args.self.now.sources.entries c.args.src c.new-pending.result absent)

pub returns-clause-lists : goal.returns-clause-lists
returns-clause-lists c =
    let lacks : is_some (lookup (mac_eq c.args.src) c.args.self.now.sources.entries) ≡ false = search rules in
    let absent = nothing_there (lookup (mac_eq c.args.src) c.args.self.now.sources.entries) lacks in
    let few : length c.args.self.now.sources.entries < most_audited = omega arith in
    λ xs lists. rw c.in_ok-append.ensures.entries (lists_made c.args.self.now.first xs c.args.self.now.sources.entries c.args.src
    c.new-pending.result absent few (search rules) c.new-pending.ensures.numbers c.new-pending.ensures.fates c.new-pending.ensures.reach lists)

pub returns-clause-order : goal.returns-clause-order
returns-clause-order c =
    let lacks : is_some (lookup (mac_eq c.args.src) c.args.self.now.sources.entries) ≡ false = search rules in
    let absent = nothing_there (lookup (mac_eq c.args.src) c.args.self.now.sources.entries) lacks in
    let few : length c.args.self.now.sources.entries < most_audited = omega arith in
    rw c.in_ok-append.ensures.entries (heard_new c.args.src c.args.self.now.sources.entries c.new-pending.result absent few)

pub returns-clause-others : goal.returns-clause-others
returns-clause-others c =
    let lacks : is_some (lookup (mac_eq c.args.src) c.args.self.now.sources.entries) ≡ false = search rules in
    let absent = nothing_there (lookup (mac_eq c.args.src) c.args.self.now.sources.entries) lacks in
    λ m other. rw c.in_ok-append.ensures.entries
    (others_made c.args.self.now.sources.entries c.args.src c.new-pending.result absent m other)
