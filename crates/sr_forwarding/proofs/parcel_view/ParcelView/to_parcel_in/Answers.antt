use Rattle.std.proofs.Common.{rules}
use Rattle.sr_forwarding.proofs.parcel_view.ParcelView.to_parcel_in.Goals as goal

pub returns-in_err-extend_from_slice-clause-room : goal.returns-in_err-extend_from_slice-clause-room
returns-in_err-extend_from_slice-clause-room c = search rules

pub returns-clause-parcel : goal.returns-clause-parcel
returns-clause-parcel c = search rules
