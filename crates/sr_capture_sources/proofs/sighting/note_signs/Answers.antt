use Rattle.std.proofs.Common.{rules, ◌≡◌, ◌&&◌, true, is_some, sym, subst}
use Rattle.std.proofs.lemmas.Result.{on_ok_weaker}
use Rattle.sr_forwarding.specs.Octets.{is_supervision}
use Rattle.sr_forwarding.specs.Parcels.{plain_of}
use Rattle.sr_capture_sources.specs.Sighting.{AreSignsIf}
use Rattle.sr_capture_sources.proofs.sighting.note_signs.Goals as goal

pub returns-then-header-clause-taken : goal.returns-then-header-clause-taken
returns-then-header-clause-taken c =
    let both : (is_some c.args.parcel.now.seq && is_supervision (plain_of c.args.parcel.now)) ≡ true = search rules in
    on_ok_weaker c.note_said.result (λ took.
    (took.0, subst (λ b. AreSignsIf b (plain_of c.args.parcel.now) took.0) (sym both) took.1, took.2))
    c.note_said.ensures.taken
