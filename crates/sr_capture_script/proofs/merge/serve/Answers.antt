use Rattle.std.proofs.Common.{ℕ, ◌++◌, [], ◌∷◌, sym, subst, refl}
use Rattle.std.specs.Io.KnownBytes.{Appends}
use Rattle.sr_capture_file.specs.declared.format.Format.{Format}
use Rattle.sr_capture_script.specs.Texts.{piece_of}
use Rattle.sr_capture_script.specs.Sources.{left_of, Feeds}
use Rattle.sr_capture_script.specs.SourceViews.{progress_of}
use Rattle.sr_capture_script.proofs.Feeding.{serves, sticks}
use Rattle.sr_capture_script.proofs.Outcomes.{handed_on}
use Rattle.sr_capture_script.proofs.Stopping.{stops_serving}
use Rattle.sr_capture_script.proofs.merge.serve.Goals as goal

pub returns-in-Ok-clause-served : goal.returns-in-Ok-clause-served
returns-in-Ok-clause-served g c start gone fed =
    let old = c.args.source.now in
    let new = c.advance.new.source in
    let now = left_of g.R.Read.remaining new.reader in
    let s = serves c.args.inlet old.form old.delay start _ now (progress_of old) (progress_of new) c.args.moment gone c.requires fed c.in-Ok.ensures.goes in
    let same = c.in-Ok.ensures.same in
    let by_form = subst (λ (f : Format). Feeds c.args.inlet f old.delay start now (progress_of new) (gone ++ s.item ∷ [])) (sym same.form) s.feeds in
    record {
      item = s.item;
      at = s.at;
      when = s.when;
      later = s.later;
      fed = subst (λ (n : ℕ). Feeds c.args.inlet new.form n start now (progress_of new) (gone ++ s.item ∷ [])) (sym same.delay) by_form;
      wrote = subst (λ (n : ℕ). Appends (g.W.Write.contents c.args.writer.now) (g.W.Write.contents c.print_piece.new.writer) (piece_of c.args.choice.now n c.args.clock.now.last s.item)) c.unwrap_or-base.ensures
          (c.in_ok-print_piece.ensures.ok s.item s.at s.when s.number s.shown);
    }

pub returns-in-Err-clause-stopped : goal.returns-in-Err-clause-stopped
returns-in-Err-clause-stopped g c = (
  refl,
  λ start gone fed.
      let old = c.args.source.now in
      let s = sticks c.args.inlet old.form old.delay c.in-Err.fault start _ _ (progress_of old) c.args.moment gone c.requires fed c.in-Err.ensures.fault in
      record {
        item = s.item;
        at = s.at;
        when = s.when;
        faulty = s.faulty;
        wrote = subst (λ (n : ℕ). Appends (g.W.Write.contents c.args.writer.now) (g.W.Write.contents c.print_piece.new.writer) (piece_of c.args.choice.now n c.args.clock.now.last s.item)) c.unwrap_or-base.ensures
            (c.in_ok-print_piece.ensures.ok s.item s.at s.when s.number s.shown);
      },
)

pub returns-in_err-print_piece-clause-stopped : goal.returns-in_err-print_piece-clause-stopped
returns-in_err-print_piece-clause-stopped g c =
    handed_on c.from_residual.result _ _ c.from_residual.ensures.1 (stops_serving _ _ _ _ _ _ _ _ _ _ _ refl c.in_err-print_piece.ensures.err)
