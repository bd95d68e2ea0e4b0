use Rattle.std.proofs.Common.{◌≡◌, ◌-◌, ◌++◌, ◌∷◌, ℕ, List, length, take, drop, refl, sym, ap, ◌∙◌, arith}
use Rattle.std.specs.Fmt.{decimal}
use Rattle.std.proofs.lemmas.List.{length-drop, take_rest}
use Rattle.sr_script.proofs.Arrivals.{ends}
use Rattle.sr_script.proofs.reading.timed_at.Goals as goal

pub returns : goal.returns
returns c =
    let text = c.args.text.now in
    let time = c.in_ok-time.time in
    let used = c.in_ok-time.used in
    let behind = take (length text - used) (drop used text) in
    let parts : text ≡ decimal time ++ 32 ∷ behind = c.in_ok-time.ensures.found ∙ ap (λ (l : List ℕ). decimal time ++ 32 ∷ l) (sym (take_rest text used)) in
    let left : length behind ≡ length text - used = ap length (take_rest text used) ∙ length-drop used text in
    ends text behind _ _ c.args.left time c.in_ok-digits.digits _ parts refl (omega (arith, c.in_ok-time.ensures.few))
    c.in_ok-digits.ensures.found c.if-rest-digits-ne10.false (omega arith) (omega arith) c.requires (omega (arith, left, c.in_ok-time.ensures.within)) (omega arith)
    c.in_ok-digits.ensures.spelled c.in_ok-digits.ensures.room
