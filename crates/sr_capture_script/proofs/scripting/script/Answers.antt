use Rattle.std.proofs.Common.{[], refl, subst, inl, inr}
use Rattle.std.proofs.KnownBytes.{Appends-nil}
use Rattle.sr_capture_script.specs.Opening.{reading_of, IsOpened, FailsAtFront}
use Rattle.sr_capture_script.specs.declared.choice.Inlet.TheVariants.{A, B, C}
use Rattle.sr_capture_file.specs.declared.front.Reading.{Reading}
use Rattle.sr_capture_script.proofs.Opened.{are_opened, is_script, is_script_to}
use Rattle.sr_capture_script.proofs.Outcomes.{on_ok_both, handed_on, if_err_map}
use Rattle.sr_capture_script.proofs.scripting.script.Goals as goal

pub returns-clause-scripts : goal.returns-clause-scripts
returns-clause-scripts g c =
    let o = c.args.options.now in
    let opened = are_opened g.R.Read.remaining (reading_of o) c.args.file_a c.args.file_b c.args.file_c c.in_ok-a.a c.in_ok-b.b c.in_ok-c.c o.delays.a o.delays.b o.delays.c
    (subst (λ (h : Reading). IsOpened g.R.Read.remaining A h o.delays.a c.args.file_a c.in_ok-a.a) c.reading_of.ensures c.in_ok-a.ensures.opened) (subst (λ (h : Reading). IsOpened g.R.Read.remaining B h o.delays.b c.args.file_b c.in_ok-b.b) c.reading_of-2.ensures c.in_ok-b.ensures.opened) (subst (λ (h : Reading). IsOpened g.R.Read.remaining C h o.delays.c c.args.file_c c.in_ok-c.c) c.reading_of-3.ensures c.in_ok-c.ensures.opened) in
    on_ok_both c.print.result _ _ _ c.print.ensures.scripts c.print.ensures.scripts (λ h again.
    let s = h opened.at_a.start opened.at_b.start opened.at_c.start opened.at_a.fed opened.at_b.fed opened.at_c.fed in
    (s.0, is_script g.R.Read.remaining o.choice (reading_of o) c.args.file_a c.args.file_b c.args.file_c c.in_ok-a.a c.in_ok-b.b c.in_ok-c.c o.delays.a o.delays.b o.delays.c s.0 opened s.1, s.2))

pub returns-clause-ended : goal.returns-clause-ended
returns-clause-ended g c =
    let o = c.args.options.now in
    let opened = are_opened g.R.Read.remaining (reading_of o) c.args.file_a c.args.file_b c.args.file_c c.in_ok-a.a c.in_ok-b.b c.in_ok-c.c o.delays.a o.delays.b o.delays.c
    (subst (λ (h : Reading). IsOpened g.R.Read.remaining A h o.delays.a c.args.file_a c.in_ok-a.a) c.reading_of.ensures c.in_ok-a.ensures.opened) (subst (λ (h : Reading). IsOpened g.R.Read.remaining B h o.delays.b c.args.file_b c.in_ok-b.b) c.reading_of-2.ensures c.in_ok-b.ensures.opened) (subst (λ (h : Reading). IsOpened g.R.Read.remaining C h o.delays.c c.args.file_c c.in_ok-c.c) c.reading_of-3.ensures c.in_ok-c.ensures.opened) in
    if_err_map c.print.result _ _ c.print.ensures.halts (λ fault h other.
    is_script_to g.R.Read.remaining o.choice (reading_of o) c.args.file_a c.args.file_b c.args.file_c c.in_ok-a.a c.in_ok-b.b c.in_ok-c.c o.delays.a o.delays.b o.delays.c fault
    (g.W.Write.contents c.args.writer.now) (g.W.Write.contents c.print.new.writer) opened
    (h other opened.at_a.start opened.at_b.start opened.at_c.start opened.at_a.fed opened.at_b.fed opened.at_c.fed))

pub returns-in_err-a-clause-ended : goal.returns-in_err-a-clause-ended
returns-in_err-a-clause-ended g c =
    handed_on c.from_residual.result _ _ c.from_residual.ensures.1 (λ other. ([], inl (refl, inl (subst (λ (h : Reading). FailsAtFront g.R.Read.remaining A h c.args.file_a c.in_err-a.field-0.0) c.reading_of.ensures c.in_err-a.ensures.fault)), Appends-nil (g.W.Write.contents c.args.writer.now)))

pub returns-in_err-b-clause-ended : goal.returns-in_err-b-clause-ended
returns-in_err-b-clause-ended g c =
    handed_on c.from_residual-in_err-b.result _ _ c.from_residual-in_err-b.ensures.1 (λ other. ([], inl (refl, inr (inl (subst (λ (h : Reading). FailsAtFront g.R.Read.remaining B h c.args.file_b c.in_err-b.field-0.0) c.reading_of-2.ensures c.in_err-b.ensures.fault))), Appends-nil (g.W.Write.contents c.args.writer.now)))

pub returns-in_err-c-clause-ended : goal.returns-in_err-c-clause-ended
returns-in_err-c-clause-ended g c =
    handed_on c.from_residual-in_err-c.result _ _ c.from_residual-in_err-c.ensures.1 (λ other. ([], inl (refl, inr (inr (subst (λ (h : Reading). FailsAtFront g.R.Read.remaining C h c.args.file_c c.in_err-c.field-0.0) c.reading_of-3.ensures c.in_err-c.ensures.fault))), Appends-nil (g.W.Write.contents c.args.writer.now)))
