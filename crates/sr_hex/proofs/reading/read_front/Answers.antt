use Rattle.std.proofs.Common.{◌≡◌, ◌*◌, ◌/◌, length, take, min, subst, arith}
use Rattle.std.specs.List.{AllPass}
use Rattle.hex.specs.Hex.{is_hex_digit}
use Rattle.sr_hex.proofs.Blocks.{step_ends, ends_behind, front_digits, front_ends, end_spelled}
use Rattle.sr_hex.proofs.reading.read_front.Goals as goal

pub returns-in-Some-clause-found : goal.returns-in-Some-clause-found
returns-in-Some-clause-found c =
    let read = c.read_four.ensures in
    front_ends c.args.text.now c.read_four.new.octets c.in-Some.end (λ k. (c.type_inv.text k).fits)
    (ends_behind c.args.text.now _ c.loop-at.octets _ 0 c.loop-at.at c.in-Some.end (omega arith) c.loop-at.invariant.read read.kept c.in-Some.ensures.end)

pub returns-in-Some-clause-spelled : goal.returns-in-Some-clause-spelled
returns-in-Some-clause-spelled c =
    let read = c.read_four.ensures in
    end_spelled c.args.text.now c.read_four.new.octets c.in-Some.end (λ k. (c.type_inv.text k).fits)
    (ends_behind c.args.text.now _ c.loop-at.octets _ 0 c.loop-at.at c.in-Some.end (omega arith) c.loop-at.invariant.read read.kept c.in-Some.ensures.end)

pub returns-in-Some-read_up_to-clause-found : goal.returns-in-Some-read_up_to-clause-found
returns-in-Some-read_up_to-clause-found c =
    let read = c.read_up_to.ensures in
    let here = step_ends c.args.text.now c.read_up_to.new.octets c.loop-at-2.at c.in-Some-read_up_to.end (omega arith) (omega (arith, read.long)) read.spelled
    c.in-Some-read_up_to.ensures.end in
    front_ends c.args.text.now c.read_up_to.new.octets c.in-Some-read_up_to.end (λ k. (c.type_inv.text k).fits)
    (ends_behind c.args.text.now _ c.loop-at-2.octets _ 0 c.loop-at-2.at c.in-Some-read_up_to.end (omega arith) c.loop-at-2.invariant.read read.kept here)

pub returns-in-Some-read_up_to-clause-spelled : goal.returns-in-Some-read_up_to-clause-spelled
returns-in-Some-read_up_to-clause-spelled c =
    let read = c.read_up_to.ensures in
    let here = step_ends c.args.text.now c.read_up_to.new.octets c.loop-at-2.at c.in-Some-read_up_to.end (omega arith) (omega (arith, read.long)) read.spelled
    c.in-Some-read_up_to.ensures.end in
    end_spelled c.args.text.now c.read_up_to.new.octets c.in-Some-read_up_to.end (λ k. (c.type_inv.text k).fits)
    (ends_behind c.args.text.now _ c.loop-at-2.octets _ 0 c.loop-at-2.at c.in-Some-read_up_to.end (omega arith) c.loop-at-2.invariant.read read.kept here)

pub returns-else-octets-at-2-clause-none : goal.returns-else-octets-at-2-clause-none
returns-else-octets-at-2-clause-none c _ =
    let s = c.args.text.now in
    let read = c.loop-at-2.invariant.read in
    let e : 2 * c.loop-at-2.at ≡ 32 * min (length s / 32) (length c.args.octets.now / 16) = omega (arith, read.long) in
    subst (λ n. AllPass is_hex_digit (take n s)) e (front_digits s (2 * c.loop-at-2.at) (λ k. (c.type_inv.text k).fits) read.digits)

pub returns-after-loop-at-2-clause-none : goal.returns-after-loop-at-2-clause-none
returns-after-loop-at-2-clause-none c _ =
    let s = c.args.text.now in
    let read = c.loop-at-2.invariant.read in
    let e : 2 * c.loop-at-2.at ≡ 32 * min (length s / 32) (length c.args.octets.now / 16) = omega (arith, read.long) in
    subst (λ n. AllPass is_hex_digit (take n s)) e (front_digits s (2 * c.loop-at-2.at) (λ k. (c.type_inv.text k).fits) read.digits)
