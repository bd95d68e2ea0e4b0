use Rattle.std.proofs.Common.{rules, ◌≡◌, true, refl}
use Rattle.std.proofs.lemmas.Result.{on_ok_weaker}
use Rattle.sr_capture_sources.proofs.Sighted.{sighted_none, sighted_unread, sighted_frame}
use Rattle.sr_capture_sources.proofs.sighting.SightingPass.take.Goals as goal

pub returns-in_default-clause-taken : goal.returns-in_default-clause-taken
returns-in_default-clause-taken c x is =
    sighted_none c.args.place c.args.packet.now x c.args.self.now c.lan_at.result is c.lan_at.ensures c.in_default.is

pub returns-in-Err-clause-taken : goal.returns-in-Err-clause-taken
returns-in-Err-clause-taken c x is =
    let whole : c.is_whole.result ≡ true = search rules in
    let same : c.as_slice-octets.result.now ≡ c.args.packet.now.octets.items = search rules in
    sighted_unread c.args.place c.args.packet.now x c.args.self.now c.lan_at.result c.in-Some.lan c.as_slice-octets.result.now c.in-Err._fault is
    c.lan_at.ensures c.in-Some.is (c.is_whole.ensures.whole whole) same c.in-Err.ensures.err

pub returns-in-Ok-clause-taken : goal.returns-in-Ok-clause-taken
returns-in-Ok-clause-taken c =
    let whole : c.is_whole.result ≡ true = search rules in
    let same : c.as_slice-octets.result.now ≡ c.args.packet.now.octets.items = search rules in
    on_ok_weaker c.note_parcel.result (λ took x is.
    sighted_frame c.args.place c.args.packet.now x c.args.self.now _ c.lan_at.result c.in-Some.lan c.as_slice-octets.result.now c.in-Ok.parcel is
    c.lan_at.ensures c.in-Some.is (c.is_whole.ensures.whole whole) same c.in-Ok.ensures.ok took refl)
    c.note_parcel.ensures.taken
