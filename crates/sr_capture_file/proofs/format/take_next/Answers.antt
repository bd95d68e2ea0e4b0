use Rattle.std.proofs.Common.{◌≡◌, ◌-◌, ◌^◌, [], ◌∷◌, length, sym, subst, refl, arith}
use Rattle.std.specs.Prelude.{min}
use Rattle.sr_capture_file.specs.declared.format.Format.{Format}
use Rattle.sr_capture_file.specs.Formats.{AreTaken}
use Rattle.sr_capture_file.proofs.Taken.{one_record}
use Rattle.sr_capture_file.proofs.format.take_next.Goals as goal

pub returns-in-Ok-true-clause-taken : goal.returns-in-Ok-true-clause-taken
returns-in-Ok-true-clause-taken g c =
    let t = rw c.in-Ok-true.field-0-test at c.in-Ok-true.ensures.taken in
    let size : c.next_packet.new.packet.size ≡ min (length t.0) (2 ^ 64 - 1) = omega (arith, t.5) in
    (t.0, t.2, size, (t.1, subst (λ (f : Format). AreTaken f t.0 (t.1 ∷ []) f) (sym c.in-Pcap.is) (one_record c.in-Pcap.form t.0 t.1 t.3, refl), t.4))
