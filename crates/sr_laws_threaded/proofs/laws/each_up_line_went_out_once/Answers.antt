use Rattle.std.proofs.Common.{refl}
use Rattle.sr_laws_threaded.proofs.UpLines.{up_lines_went_once}
use Rattle.sr_laws_threaded.proofs.laws.each_up_line_went_out_once.Goals as goal

pub returns : goal.returns
returns c =
    up_lines_went_once _ (record { tells = λ h. refl; given = λ h. refl; losses = λ h. refl }) c.what_workers_took_out_goes_out_once.ensures
