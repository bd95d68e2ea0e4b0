use Rattle.std.proofs.Common.{◌≡◌, [], refl, sym, ◌∙◌, subst}
use Rattle.std.specs.Prelude.{IfSome}
use Rattle.std.specs.Io.KnownBytes.{Appends}
use Rattle.std.proofs.lemmas.Result.{IfErr-weaker, on_ok_weaker}
use Rattle.sr_capture_script.specs.Merging.{feed_of}
use Rattle.sr_pcapng.specs.Writing.{file_head}
use Rattle.sr_capture_merge.specs.Entries.{names_of}
use Rattle.sr_capture_merge.specs.Merged.{IsMerged, IsMergedUpTo}
use Rattle.sr_capture_merge.proofs.Counted.{uncounted}
use Rattle.sr_capture_merge.proofs.Merged.{told, begins, ends_well, ends_badly, halts_first, well_as, badly_as}
use Rattle.sr_capture_merge.specs.Counted.{AreCountsOf}
use Rattle.sr_capture_merge.specs.Files.{sink}
use Rattle.sr_capture_merge.proofs.merging.merge.Goals as goal

pub returns-in-Err-begin-clause-halts : goal.returns-in-Err-begin-clause-halts
returns-in-Err-begin-clause-halts g c other sa sb sc fa fb fc =
    halts_first g.R.Read.remaining c.args.choice.now c.args.plan.now sa sb sc c.args.captures.now c.in-Err-begin.fault (g.W.Write.contents c.args.writer.now)
    (sink (g.W.Write.contents c.begin.new.writer) _) c.in-Ok.ensures.head c.in-Err-begin.ensures.err (uncounted c.args.plan.now) refl refl refl fa fb fc

pub returns-clause-merges : goal.returns-clause-merges
returns-clause-merges g c =
    let plan = c.in-Ok.output.plan in
    let start = c.in-Ok.output.start in
    let held = g.W.Write.contents c.args.writer.now in
    let mid = sink (g.W.Write.contents c.begin.new.writer) c.in-Ok.output.counts in
    let late = sink (g.W.Write.contents c.take_all-taken.new.writer) c.take_all-taken.new.output.counts in
    let to = sink (g.W.Write.contents c.finish-outcome.new.writer) c.finish-outcome.new.output.counts in
    let all = c.args.captures.now in
    let out = c.take_all-taken.new.output in
    let untold = c.untold.result in
    on_ok_weaker c.finish-outcome.result (λ ends sa sb sc fa fb fc.
    subst (λ p. IsMerged c.args.choice.now p (feed_of all.a sa) (feed_of all.b sb) (feed_of all.c sc) held (told untold to)) c.in-Ok.ensures.plan
    (ends_well g.R.Read.remaining c.args.choice.now plan start sa sb sc all c.take_all-taken.new.captures c.front-first.result c.take_all-taken.new.now
    c.in-Ok-begin.merge c.take_all-taken.new.merge untold held mid late to c.take_all-taken.result
    (subst (λ p. Appends held mid.written (file_head (names_of p.network))) (sym c.in-Ok.ensures.plan) c.in-Ok.ensures.head)
    (c.untold.ensures ∙ c.finish-outcome.ensures.untold)
    (begins g.R.Read.remaining c.args.choice.now plan start sa sb sc all c.take_all-taken.new.captures c.front-first.result c.take_all-taken.new.now
    c.in-Ok-begin.merge c.take_all-taken.new.merge untold held mid late to c.take_all-taken.result fa fb fc c.front-first.ensures.some c.front-first.ensures.none
    (subst (λ s. IfSome c.front-first.result (λ front. front.moment ≡ s)) (sym c.in-Ok.ensures.start) c.start_of.ensures.first)
    c.in-Ok-begin.ensures.sources c.in-Ok-begin.ensures.waiting c.in-Ok-begin.ensures.untold
    (subst (λ p. AreCountsOf p [] c.in-Ok.output.counts) (sym c.in-Ok.ensures.plan) c.in-Ok.ensures.counts) c.in-Ok.ensures.cut c.in-Ok.ensures.long)
    c.take_all-taken.ensures.goes
    (well_as c.take_all-taken.result out.plan plan out.start start c.take_all-taken.new.merge.waiting late to c.take_all-taken.ensures.plan
    c.take_all-taken.ensures.start ends))) c.finish-outcome.ensures.goes

pub returns-clause-halts : goal.returns-clause-halts
returns-clause-halts g c =
    let plan = c.in-Ok.output.plan in
    let start = c.in-Ok.output.start in
    let held = g.W.Write.contents c.args.writer.now in
    let mid = sink (g.W.Write.contents c.begin.new.writer) c.in-Ok.output.counts in
    let late = sink (g.W.Write.contents c.take_all-taken.new.writer) c.take_all-taken.new.output.counts in
    let to = sink (g.W.Write.contents c.finish-outcome.new.writer) c.finish-outcome.new.output.counts in
    let all = c.args.captures.now in
    let out = c.take_all-taken.new.output in
    let untold = c.untold.result in
    IfErr-weaker c.finish-outcome.result _ _ (λ fault ends other sa sb sc fa fb fc.
    subst (λ p. IsMergedUpTo c.args.choice.now p (feed_of all.a sa) (feed_of all.b sb) (feed_of all.c sc) fault held (told untold to)) c.in-Ok.ensures.plan
    (ends_badly g.R.Read.remaining c.args.choice.now plan start sa sb sc all c.take_all-taken.new.captures c.front-first.result c.take_all-taken.new.now
    c.in-Ok-begin.merge c.take_all-taken.new.merge untold held mid late to c.take_all-taken.result fault other
    (subst (λ p. Appends held mid.written (file_head (names_of p.network))) (sym c.in-Ok.ensures.plan) c.in-Ok.ensures.head)
    (c.untold.ensures ∙ c.finish-outcome.ensures.untold)
    (begins g.R.Read.remaining c.args.choice.now plan start sa sb sc all c.take_all-taken.new.captures c.front-first.result c.take_all-taken.new.now
    c.in-Ok-begin.merge c.take_all-taken.new.merge untold held mid late to c.take_all-taken.result fa fb fc c.front-first.ensures.some c.front-first.ensures.none
    (subst (λ s. IfSome c.front-first.result (λ front. front.moment ≡ s)) (sym c.in-Ok.ensures.start) c.start_of.ensures.first)
    c.in-Ok-begin.ensures.sources c.in-Ok-begin.ensures.waiting c.in-Ok-begin.ensures.untold
    (subst (λ p. AreCountsOf p [] c.in-Ok.output.counts) (sym c.in-Ok.ensures.plan) c.in-Ok.ensures.counts) c.in-Ok.ensures.cut c.in-Ok.ensures.long)
    c.take_all-taken.ensures.goes c.take_all-taken.ensures.stops
    (badly_as c.take_all-taken.result fault out.plan plan out.start start c.take_all-taken.new.now c.take_all-taken.new.merge.waiting late to
    c.take_all-taken.ensures.plan c.take_all-taken.ensures.start ends))) c.finish-outcome.ensures.stops
