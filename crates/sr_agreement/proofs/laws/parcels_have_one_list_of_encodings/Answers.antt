use Rattle.sr_agreement.proofs.Unique.{encodings_are_unique}
use Rattle.sr_agreement.proofs.laws.parcels_have_one_list_of_encodings.Goals as goal

pub returns : goal.returns
returns c = encodings_are_unique c.writings_are_unique.ensures
