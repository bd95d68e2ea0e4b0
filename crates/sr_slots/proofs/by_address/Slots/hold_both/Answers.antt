use Rattle.std.proofs.Common.{◌≡◌, ◌∙◌, sym, ap, rules}
use Rattle.sr_slots.specs.Places.{Places, held_but}
use Rattle.sr_slots.proofs.PlaceLemmas.{given_back}
use Rattle.sr_slots.proofs.by_address.Slots.hold_both.Goals as goal

same : {V : Type 0} (t u : Places V) → t.entries ≡ u.entries → t.held ≡ u.held → t ≡ u
same t u entries held = λ j. record { entries = entries j; held = held j }

pub returns-then-newly-clause-err : goal.returns-then-newly-clause-err
returns-then-newly-clause-err g c =
    let key = c.args.key in
    let was = c.in-Err.ensures.err in
    let rest = ap (λ t. held_but t.held key) was ∙ c.in_ok-newly.ensures.rest in
    let held = given_back c.args.self.now.held c.hold.new.self.held c.give_up.new.self.held key (sym c.if-newly.true ∙ c.in_ok-newly.ensures.newly) rest c.give_up.ensures.held in
    same c.give_up.new.self c.args.self.now (c.give_up.ensures.entries ∙ ap (λ t. t.entries) was ∙ c.in_ok-newly.ensures.entries) held

pub returns-else-newly-clause-err : goal.returns-else-newly-clause-err
returns-else-newly-clause-err g c =
    let was = c.in-Err.ensures.err in
    same c.hold.new.self c.args.self.now (ap (λ t. t.entries) was ∙ c.in_ok-newly.ensures.entries) (ap (λ t. t.held) was ∙ c.in_ok-newly.ensures.still c.if-newly.false)

pub returns-in-Ok-clause-held : goal.returns-in-Ok-clause-held
returns-in-Ok-clause-held g c = search rules
