use Rattle.std.proofs.Common.{◌≡◌, ◌+◌, true, is_ok, ◌∙◌, ap, set, get_or, refl, arith}
use Rattle.sr_unrolled_list.specs.Lists.{items_of}
use Rattle.sr_unrolled_list.proofs.PieceLemmas.{joined}
use Rattle.sr_unrolled_list.proofs.SoundLemmas.{sound_joined, joined_fit}
use Rattle.sr_unrolled_list.proofs.joining.join.Given.{Over}
use Rattle.sr_unrolled_list.proofs.joining.join.Goals as goal

-- the piece has room for the items of the one behind it
went : (g : Over) (c : goal.After-push_back_reserved g) → is_ok c.append.result ≡ true
went g c =
    let p = c.index_mut.result.now in
    let n = c.in-Some.next in
    c.append.ensures.succeeds (omega (arith, p.ok.0, n.ok.0, joined_fit c.args.used.now c.args.spare.now c.remove.new.self c.args.at (c.args.at + 1) p n c.requires.sound (c.if-not-are_few.ensures refl) (omega arith) c.in-Some.ensures.items c.index_mut.ensures.value c.in-Some.ensures.value))

pub returns-clause-sound : goal.returns-clause-sound
returns-clause-sound g c =
    let ok = went g c in
    sound_joined c.args.used.now c.args.spare.now c.remove.new.self _ c.push_back_reserved.new.self c.args.at (c.args.at + 1) c.index_mut.result.now c.in-Some.next c.append.new.self c.append.new.other
    c.requires.sound (c.if-not-are_few.ensures refl) (omega arith) c.in-Some.ensures.items c.remove.ensures.capacity c.index_mut.ensures.value c.in-Some.ensures.value
    (rw ok at c.append.ensures.items) c.append.ensures.capacity refl refl (rw ok at c.append.ensures.other_items) c.append.ensures.other_capacity c.push_back_reserved.ensures.items c.push_back_reserved.ensures.capacity

pub returns-clause-items : goal.returns-clause-items
returns-clause-items g c =
    let ok = went g c in
    ap (λ ps. items_of (set ps c.args.at c.append.new.self)) c.in-Some.ensures.items
    ∙ joined c.args.used.now.items c.args.at (c.args.at + 1) c.index_mut.result.now c.in-Some.next c.append.new.self (omega arith) (c.if-not-are_few.ensures refl).inside
    (c.index_mut.ensures.value ∙ ap (λ ps. get_or ps c.args.at c.index_mut.result.now) c.in-Some.ensures.items) c.in-Some.ensures.value (rw ok at c.append.ensures.items)
