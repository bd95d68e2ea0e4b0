use Rattle.sr_unrolled_list.proofs.SoundLemmas.{sound_less, blank_after}
use Rattle.sr_unrolled_list.proofs.taking.take_piece.Goals as goal

pub returns-clause-sound : goal.returns-clause-sound
returns-clause-sound g c =
    let piece = c.in_ok-piece.piece in
    let pop = c.pop_front-item in
    sound_less c.args.used.now c.args.spare.now c.remove.new.self c.push_back_reserved.new.self c.args.at pop.new.self c.requires.sound c.requires.within c.in_ok-piece.ensures.items c.remove.ensures.capacity c.push_back_reserved.ensures.items c.push_back_reserved.ensures.capacity
    (blank_after c.args.used.now.items c.args.at piece pop.new.self c.requires.sound.filled c.requires.within c.in_ok-piece.ensures.value (c.requires.single.one piece c.in_ok-piece.ensures.value) pop.ensures.rest pop.ensures.capacity)
