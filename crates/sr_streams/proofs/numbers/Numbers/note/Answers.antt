use Rattle.std.proofs.Common.{arith}
use Rattle.sr_streams.specs.Courses.{course_of}
use Rattle.sr_streams.proofs.Lengths.{on_ok, course_len}
use Rattle.sr_streams.proofs.numbers.Numbers.note.Goals as goal

pub returns-in-Some-clause-ok : goal.returns-in-Some-clause-ok
returns-in-Some-clause-ok c = on_ok c.go_on.result c.go_on.ensures.ok (λ ok xs few keeps. ok (course_of xs) (omega (arith, course_len xs)) keeps)
