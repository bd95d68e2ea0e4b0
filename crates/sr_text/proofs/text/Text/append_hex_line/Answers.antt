use Rattle.std.proofs.Common.{◌++◌, ap, ◌∙◌}
use Rattle.sr_text.proofs.Pieces.{line_of_pieces}
use Rattle.sr_text.proofs.text.Text.append_hex_line.Goals as goal

pub returns-clause-ok : goal.returns-clause-ok
returns-clause-ok c =
    line_of_pieces c.args.self.now c.args.start.now c.args.front.now c.args.behind.now _ _ _ _
    (c.put-at.ensures.put ∙ ap (λ t. t ++ c.args.start.now) (c.in_ok-make_room.ensures.text ∙ c.self.view_is)) c.put_hex-at.ensures.put c.put_hex-at-2.ensures.put
    c.put-self-inside.ensures.put
