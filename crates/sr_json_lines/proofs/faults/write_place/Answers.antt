use Rattle.std.proofs.lemmas.Result.{on_ok_weaker}
use Rattle.sr_json_lines.proofs.Joins.{in_four}
use Rattle.sr_json_lines.proofs.faults.write_place.Goals as goal

pub returns-clause-ok : goal.returns-clause-ok
returns-clause-ok c =
    on_ok_weaker c.write_number.result
    (λ of_number. in_four _ _ _ _ _ _ _ _ _ c.in_ok-begin_object.ensures.ok c.in_ok-write_text.ensures.ok c.in_ok-write_text-2.ensures.ok of_number)
    c.write_number.ensures.ok
