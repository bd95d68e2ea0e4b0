use Rattle.std.proofs.Common.{◌≡◌, ◌++◌, ◌-◌, length, ap, sym, ◌∙◌, refl, arith}
use Rattle.std.specs.List.{remove}
use Rattle.std.proofs.lemmas.List.Edits.{remove-append_right}
use Rattle.sr_unrolled_list.proofs.list.UnrolledList.remove.Goals as goal

pub returns-clause-items : goal.returns-clause-items
returns-clause-items g c =
    let front = c.self.inside.pieces.items in
    let back = c.self.inside.last in
    let before : length front ≡ c.self.inside.len - c.len.result = omega (arith, back.ok.0, c.len.ensures, c.self.invariant.counted) in
    ap (λ xs. front ++ xs) (c.in_ok-item-2.ensures.items ∙ ap (λ n. remove back.items (c.args.place - n)) (sym before))
    ∙ (sym (remove-append_right front back.items (length front) c.args.place refl (omega (arith, before, c.if-place-before.false)))
    ∙ ap (λ v. remove v.items c.args.place) c.self.view_is)
