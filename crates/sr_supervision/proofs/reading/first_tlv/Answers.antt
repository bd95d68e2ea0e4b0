use Rattle.std.proofs.Common.{arith, refl}
use Rattle.sr_supervision.proofs.Meaning.{cut_in_value, first_tlv_from}
use Rattle.sr_supervision.proofs.reading.first_tlv.Goals as goal

pub returns-in_default-split_at_checked : goal.returns-in_default-split_at_checked
returns-in_default-split_at_checked c =
    let w = c.in-Some.ensures.cases in
    cut_in_value c.args.octets.now c.in-Some.head.now c.in-Some.behind.now c.in-Some-life_of.life w.0 w.1 (omega (arith, w.2)) c.in-Some-life_of.ensures.some
    (c.if-not-is_first_len.ensures.0 refl) (omega (arith, c.from.ensures, c.in_default-split_at_checked.ensures.cases))

pub returns : goal.returns
returns c =
    let w = c.in-Some.ensures.cases in
    let split = rw c.from.ensures at c.in-Some-split_at_checked.ensures.cases in
    let mac = rw c.unwrap-mac.ensures at c.first_chunk.ensures.cases in
    first_tlv_from c.args.octets.now c.in-Some.head.now c.in-Some.behind.now c.in-Some-split_at_checked.value.now c.in-Some-split_at_checked.rest.now c.in-Some-life_of.life _ w.0 w.1 (omega (arith, w.2)) c.in-Some-life_of.ensures.some
    (c.if-not-is_first_len.ensures.0 refl) split mac.same
