use Rattle.std.proofs.Common.{rules, ◌≡◌, ◌≢◌, [], ◌∷◌, Err, ap, ◌∙◌}
use Rattle.sr_forwarding.specs.declared.fault.ReadFault.TheVariants.{NoMemory}
use Rattle.sr_workers.specs.Work.{parcel_in}
use Rattle.sr_agreement.specs.Progress.{bare}
use Rattle.sr_agreement.proofs.Writing.{encoded, unwritable}
use Rattle.sr_agreement.proofs.agreeing.encoding.Goals as goal

pub returns-in-Ok-clause-encoding : goal.returns-in-Ok-clause-encoding
returns-in-Ok-clause-encoding g c =
    let taken : parcel_in c.args.answer.now ≡ c.in-Taken-Some.parcel ∷ [] = search rules in
    encoded _ _ c.in-Taken-Some.parcel _ _ _ taken c.view.ensures c.clear.ensures.items c.in-Ok.ensures.ok c.in-Ok.ensures.written

pub returns-in-Err-clause-encoding : goal.returns-in-Err-clause-encoding
returns-in-Err-clause-encoding g c =
    let f = g.G.Framing.meaning c.args.framing.now in
    let taken : parcel_in c.args.answer.now ≡ c.in-Taken-Some.parcel ∷ [] = search rules in
    let other : c.in-Err._fault ≢ NoMemory = λ is. c.write.ensures.room (search rules) (c.in-Err.is ∙ ap (λ e. Err e) is) in
    bare c.in-Taken-Some.parcel taken (unwritable f c.in-Taken-Some.parcel c.view.result c.in-Err._fault c.view.ensures (c.want_of_memory_is_no_fault_of_a_parcel.ensures.tells f c.view.result c.in-Err._fault c.in-Err.ensures.err) other)
