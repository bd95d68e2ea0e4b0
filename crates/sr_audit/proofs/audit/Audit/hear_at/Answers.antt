use Rattle.std.proofs.Common.{rules}
use Rattle.sr_audit.specs.Hearing.{sign_of, HearsSign}
use Rattle.sr_audit.specs.Taken.{KeepsTaken}
use Rattle.sr_audit.proofs.AuditLemmas.{audits_kept, left_set}
use Rattle.sr_audit.proofs.HearLemmas.{hears_taken}
use Rattle.std.proofs.lemmas.Map.{length-set_value}
use Rattle.sr_frame.specs.Addresses.{mac_eq}
use Rattle.sr_audit.proofs.audit.Audit.hear_at.Goals as goal

pub returns-clause-audits : goal.returns-clause-audits
returns-clause-audits c =
    let h = c.in_ok-update_at.ensures.changed in
    let kept : KeepsTaken h.was h.is = search rules in
    λ spans xs audits. rw h.written (audits_kept spans xs c.args.self.now.sources.entries c.args.mac h.was h.is h.found (kept.keeps spans) audits)

pub returns-clause-heard : goal.returns-clause-heard
returns-clause-heard c =
    let h = c.in_ok-update_at.ensures.changed in
    let heard : HearsSign (sign_of c.args.kind c.args.side c.args.time) h.was h.is = search rules in
    λ signs hears. rw h.written (hears_taken signs c.args.self.now.sources.entries c.args.mac (sign_of c.args.kind c.args.side c.args.time) h.was h.is
    h.found heard.hears hears)

pub returns-clause-known : goal.returns-clause-known
returns-clause-known c =
    let h = c.in_ok-update_at.ensures.changed in
    λ xs. rw h.written (left_set c.args.self.now.sources.entries c.args.mac h.was h.is h.found xs)

pub returns-clause-len : goal.returns-clause-len
returns-clause-len c =
    let h = c.in_ok-update_at.ensures.changed in
    rw h.written (length-set_value (mac_eq c.args.mac) c.args.self.now.sources.entries h.is)
