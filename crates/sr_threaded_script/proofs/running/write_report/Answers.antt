use Rattle.std.proofs.Common.{take, sym, subst}
use Rattle.std.specs.Prelude.{drop}
use Rattle.std.proofs.lemmas.List.{take-append-drop}
use Rattle.std.specs.Io.KnownBytes.{Appends}
use Rattle.sr_threaded_script.proofs.running.write_report.Goals as goal

pub returns-else-taken-len-clause-front : goal.returns-else-taken-len-clause-front
returns-else-taken-len-clause-front g c =
    let text = c.args.text.now in
    let n = c.write_out-taken.result in
    let old = g.O.Write.contents c.args.writer.now in
    let new = g.O.Write.contents c.write_out-taken.new.writer in (
      take n text,
      drop n text,
      sym (take-append-drop n text),
      subst (λ l. Appends old new (take n l)) c.as_slice.ensures c.write_out-taken.ensures.held,
    )
