use Rattle.std.proofs.Common.{◌∙◌, sym, ap, refl, arith}
use Rattle.std.specs.Prelude.{position}
use Rattle.sr_streams.specs.Tables.{key_eq, stream_key}
use Rattle.sr_streams.proofs.Lengths.{on_ok}
use Rattle.sr_streams.proofs.table.Streams.note.Goals as goal

pub returns-in-Some : goal.returns-in-Some
returns-in-Some c = on_ok c.go_on.result c.go_on.ensures (λ went xs less h. went xs _ refl
    (ap (λ k. position (λ stream. key_eq (stream_key stream) (record { src = c.args.src; kind = k; name = c.args.message.now.name.now })) c.args.self.now.streams.items) (sym c.kind_of-kind.ensures) ∙ sym c.place.ensures ∙ c.in-Some.is) less h)

pub returns-in-None : goal.returns-in-None
returns-in-None c = on_ok c.begin.result c.begin.ensures (λ began xs less h. began xs _ refl
    (ap (λ k. record { src = c.args.src; kind = k; name = c.args.message.now.name.now }) (sym c.kind_of-kind.ensures))
    (ap (λ k. position (λ stream. key_eq (stream_key stream) (record { src = c.args.src; kind = k; name = c.args.message.now.name.now })) c.args.self.now.streams.items) (sym c.kind_of-kind.ensures) ∙ sym c.place.ensures ∙ c.in-None.is) h)

pub returns-in-None-2 : goal.returns-in-None-2
returns-in-None-2 c xs less h = c.leave_out.ensures xs _ (omega (arith, c.if-len-lt-MAX_STREAMS.false, c.len.ensures))
    (ap (λ k. position (λ stream. key_eq (stream_key stream) (record { src = c.args.src; kind = k; name = c.args.message.now.name.now })) c.args.self.now.streams.items) (sym c.kind_of-kind.ensures) ∙ sym c.place.ensures ∙ c.in-None.is) less h
