use Rattle.std.proofs.Common.{◌+◌, arith, ap}
use Rattle.std.proofs.lemmas.Result.{on_err_weaker}
use Rattle.std.proofs.lemmas.Grind.{div_ceil_times}
use Rattle.sr_unrolled_list.proofs.list.UnrolledList.reserve.Goals as goal

pub returns-clause-err : goal.returns-clause-err
returns-clause-err g c some =
    let times = div_ceil_times (c.len.result + c.args.additional) 512 (omega arith) in
    let room = ap (λ v. v.room) c.self.view_is in
    on_err_weaker c.reserve-2.result (λ more. omega (arith, times.1, room, more, c.len.ensures, c.self.inside.last.ok.0, c.div_ceil-pieces.ensures)) c.reserve-2.ensures.err
