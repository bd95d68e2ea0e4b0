use Rattle.sr_hex.proofs.Short.{read_by_kit}
use Rattle.sr_hex.proofs.reading.read_hex.Goals as goal

pub returns-then-octets-lt16 : goal.returns-then-octets-lt16
returns-then-octets-lt16 c = rw c.is_ok.ensures.value (read_by_kit c.args.digits.now c.args.octets.now _ _ c.requires c.decode_to_slice.ensures.value)
