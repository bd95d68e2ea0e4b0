use Rattle.std.proofs.Common.{rules, ◌≡◌, true, false, is_some, sym, ap, subst, ◌∙◌}
use Rattle.sr_audit.specs.Audits.{Audits, left_out_of}
use Rattle.sr_audit.proofs.AuditLemmas.{audits_left, left_kept, left_known, left_more, on_any_error, with_answer, without_answer}
use Rattle.sr_audit.proofs.audit.Audit.note.Goals as goal

pub returns-then-branch-clause-taken : goal.returns-then-branch-clause-taken
returns-then-branch-clause-taken c =
    let lacks : is_some c.take_at.result ≡ false = search rules in
    let same = without_answer c.take_at.result lacks c.take_at.ensures.none in
    let taken = rw (c.make_entry.ensures.spans, c.take_at.ensures.spans) at c.note_known.ensures.taken in
    λ xs few audits. taken xs few (c.make_entry.ensures.audits c.args.self.now.spans xs
    (subst (λ s. Audits c.args.self.now.spans xs s.entries) (sym same) audits))

pub returns-else-branch-clause-taken : goal.returns-else-branch-clause-taken
returns-else-branch-clause-taken c =
    let lacks : is_some c.take_at.result ≡ false = search rules in
    let same = without_answer c.take_at.result lacks c.take_at.ensures.none in
    λ xs few audits. audits_left c.args.self.now.spans xs c.make_entry.new.self.sources.entries c.args.src
    c.args.x (c.make_entry.ensures.audits c.args.self.now.spans xs
    (subst (λ s. Audits c.args.self.now.spans xs s.entries) (sym same) audits)) (sym c.in_ok-make_entry.ensures.made ∙ c.if-branch.false)
    (c.in_ok-make_entry.ensures.full c.if-branch.false)

pub returns-then-is_some-clause-left_out : goal.returns-then-is_some-clause-left_out
returns-then-is_some-clause-left_out c =
    let there : is_some c.take_at.result ≡ true = search rules in
    λ xs audits counts. rw c.take_at.ensures.left_out (left_known c.args.self.now.sources.entries c.take_at.new.self.sources.entries xs
    c.args.src c.args.x c.args.self.now.left_out (c.take_at.ensures.known xs) (with_answer c.take_at.result there c.take_at.ensures.own) counts)

pub returns-in_err-make_entry-clause-left_same : goal.returns-in_err-make_entry-clause-left_same
returns-in_err-make_entry-clause-left_same c =
    let lacks : is_some c.take_at.result ≡ false = search rules in
    let same = without_answer c.take_at.result lacks c.take_at.ensures.none in
    on_any_error c.from_residual.result (λ spans xs audits counts.
    rw (c.make_entry.ensures.left_out, c.take_at.ensures.left_out)
    (left_kept c.args.self.now.sources.entries c.make_entry.new.self.sources.entries xs c.args.self.now.left_out
    (c.make_entry.ensures.known spans xs (subst (λ s. Audits spans xs s.entries) (sym same) audits) ∙ ap (λ s. left_out_of s.entries xs) same)
    counts))

pub returns-then-branch-clause-left_out : goal.returns-then-branch-clause-left_out
returns-then-branch-clause-left_out c =
    let lacks : is_some c.take_at.result ≡ false = search rules in
    let same = without_answer c.take_at.result lacks c.take_at.ensures.none in
    λ xs audits counts.
    rw (c.note_known.ensures.left_out, c.make_entry.ensures.left_out, c.take_at.ensures.left_out)
    (left_known c.args.self.now.sources.entries c.note_known.new.self.sources.entries xs c.args.src c.args.x c.args.self.now.left_out
    (c.note_known.ensures.known xs
    ∙ c.make_entry.ensures.known c.args.self.now.spans xs (subst (λ s. Audits c.args.self.now.spans xs s.entries) (sym same) audits)
    ∙ ap (λ s. left_out_of s.entries xs) same) c.note_known.ensures.own counts)

pub returns-else-branch-clause-left_out : goal.returns-else-branch-clause-left_out
returns-else-branch-clause-left_out c =
    let lacks : is_some c.take_at.result ≡ false = search rules in
    let same = without_answer c.take_at.result lacks c.take_at.ensures.none in
    λ xs audits counts.
    rw (c.saturating_add-self.ensures, c.make_entry.ensures.left_out, c.take_at.ensures.left_out)
    (left_more c.args.self.now.sources.entries c.make_entry.new.self.sources.entries xs c.args.src c.args.x c.args.self.now.left_out
    (c.make_entry.ensures.known c.args.self.now.spans xs (subst (λ s. Audits c.args.self.now.spans xs s.entries) (sym same) audits)
    ∙ ap (λ s. left_out_of s.entries xs) same) (sym c.in_ok-make_entry.ensures.made ∙ c.if-branch.false) counts)
