use Rattle.std.proofs.Common.{refl}
use Rattle.std.proofs.lemmas.Result.{on_ok_weaker}
use Rattle.sr_forwarding.specs.Parcels.{plain_of}
use Rattle.sr_script.proofs.HostLines.{goes_as_carried}
use Rattle.sr_script.proofs.printing.append_framed.Goals as goal

pub returns-in-Plain-clause-ok : goal.returns-in-Plain-clause-ok
returns-in-Plain-clause-ok c =
    let p = c.args.parcel.now in
    on_ok_weaker c.append_plain.result
    (λ same. (plain_of p, goes_as_carried c.args.role c.args.port p (plain_of p) _ c.in-Plain.ensures refl, same))
    c.append_plain.ensures.ok

pub returns-in-Hsr-clause-ok : goal.returns-in-Hsr-clause-ok
returns-in-Hsr-clause-ok c =
    on_ok_weaker c.append_tagged.result
    (λ told. (told.0, goes_as_carried c.args.role c.args.port c.args.parcel.now told.0 _ c.in-Hsr.ensures told.1, told.2))
    c.append_tagged.ensures.ok

pub returns-in-Prp-clause-ok : goal.returns-in-Prp-clause-ok
returns-in-Prp-clause-ok c =
    on_ok_weaker c.append_trailed.result
    (λ told. (told.0, goes_as_carried c.args.role c.args.port c.args.parcel.now told.0 _ c.in-Prp.ensures told.1, told.2))
    c.append_trailed.ensures.ok
