use Rattle.std.proofs.Common.{rules, ◌≡◌, length, List, ℕ, None, sym, subst}
use Rattle.sr_plant_script.specs.Sendings.{send_refusal}
use Rattle.sr_threaded_script.specs.Runs.{sendings_of}
use Rattle.sr_threaded_script.proofs.Taken.{taken}
use Rattle.sr_threaded_script.proofs.session.SendSessionSession.answer.Goals as goal

pub returns-in-Ok-sent_frame-clause-ok : goal.returns-in-Ok-sent_frame-clause-ok
returns-in-Ok-sent_frame-clause-ok c =
    let octets = c.sending_of.new.octets.items in
    let none = subst (λ (l : List ℕ). send_refusal c.args.self.now.setup.nodes c.in-Some.node c.in-Some.receiver (length l) ≡ None) c.as_slice-payload.ensures.value (sym c.in_default-send_refusal.ensures) in
    taken (sendings_of c.args.self.now) _ c.args.number c.in-Some.node c.in-Some.receiver octets c.args.line.now c.args.text.now c.in-Ok-sent_frame.frame c.in-Ok.asked
    c.in-Ok.ensures.found (search rules) none (search rules) (search rules)
