use Rattle.sr_plant_script.proofs.UpLines.{ups_behind}
use Rattle.sr_plant_script.proofs.printing.append_ups.Goals as goal

pub loop-parcel-preserved : goal.loop-parcel-preserved
loop-parcel-preserved c =
    ups_behind c.args.node c.args.parcels.now c.loop-parcel.parcel-index c.parcel-item.result c.args.text.now c.loop-parcel.text
    c.append_up.new.text c.loop-parcel-test.true c.parcel-item.is c.loop-parcel.invariant c.in_ok-append_up.ensures
