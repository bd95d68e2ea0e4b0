use Rattle.std.proofs.Common.{◌++◌}
use Rattle.std.proofs.lemmas.Result.{on_ok_weaker}
use Rattle.sr_capture_sources.specs.Sighting.{noted_of}
use Rattle.sr_capture_sources.proofs.sighting.note_parcel.Goals as goal

pub returns-clause-taken : goal.returns-clause-taken
returns-clause-taken c =
    on_ok_weaker c.note_signs.result (λ took. (
      took.0,
      took.1,
      λ told keeps. took.2 (noted_of c.args.subject c.args.lan c.args.time c.args.octets.now c.args.parcel.now ++ told)
          (c.in_ok-note_frame.ensures.taken told keeps),
    ))
    c.note_signs.ensures.taken
