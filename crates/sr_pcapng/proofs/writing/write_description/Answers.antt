use Rattle.std.proofs.Common.{◌≡◌, ℕ, ◌+◌, length, OnOk, subst, arith}
use Rattle.std.specs.Io.KnownBytes.{Appends}
use Rattle.sr_pcapng.specs.Options.{padded}
use Rattle.sr_pcapng.specs.Writing.{described}
use Rattle.sr_pcapng.proofs.writing.write_description.Goals as goal

pub returns : goal.returns
returns g c =
    let size : 36 + c.padded.result ≡ 36 + padded (length c.args.name.now) = omega (arith, c.padded.ensures) in
    subst (λ (n : ℕ). OnOk c.write_described.result (Appends (g.W.Write.contents c.args.writer.now) (g.W.Write.contents c.write_described.new.writer) (described n c.args.name.now))) size c.write_described.ensures
