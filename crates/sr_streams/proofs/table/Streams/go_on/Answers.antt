use Rattle.std.proofs.Common.{refl, subst, ◌∷◌}
use Rattle.sr_streams.specs.Courses.{course_of}
use Rattle.sr_streams.specs.Sums.{KeepsCourse}
use Rattle.sr_streams.proofs.Lengths.{on_ok}
use Rattle.sr_streams.proofs.Tabled.{updated}
use Rattle.sr_streams.proofs.table.Streams.go_on.Goals as goal

pub returns : goal.returns
returns c = on_ok c.note.result c.note.ensures.ok (λ step xs m is placed less h.
    updated xs m c.args.self.now _ c.args.at c.index_mut.result.now _ c.index_mut.ensures.value refl refl refl placed
    (λ ys few keeps. subst (λ x. KeepsCourse (course_of (x ∷ ys)) c.note.new.self) is (step ys few keeps)) less h)
