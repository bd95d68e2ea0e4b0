use Rattle.std.proofs.Common.{◌≡◌, ◌∙◌, List, ℕ, [], ◌∷◌, sym, ap, refl, subst, arith}
use Rattle.sr_streams.specs.declared.table.Stream.{Stream}
use Rattle.sr_streams.specs.Courses.{course_of}
use Rattle.sr_streams.specs.Sums.{KeepsCourse}
use Rattle.sr_streams.specs.Tables.{Key, stream_key, key_sent}
use Rattle.sr_streams.proofs.Tabled.{pushed}
use Rattle.sr_streams.proofs.table.Streams.begin.Goals as goal

pub returns : goal.returns
returns c xs m is key placed h =
    let own : Stream = record { src = c.args.src; kind = c.args.kind; name = c.in_ok-name.name; numbers = c.note.new.self } in
    let keeps = c.in_ok-note.ensures.ok [] (omega arith) c.new-numbers.ensures in
    let named : stream_key own ≡ key_sent m =
    ap (λ (n : List ℕ). let k : Key = record { src = c.args.src; kind = c.args.kind; name = n } in k) c.in_ok-name.ensures.items ∙ sym key in
    pushed xs m c.args.self.now _ own
    c.in-Ok.ensures.items
    named refl placed c.requires (subst (λ x. KeepsCourse (course_of (x ∷ [])) c.note.new.self) is keeps) h
