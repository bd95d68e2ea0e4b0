use Rattle.std.proofs.Common.{◌≡◌, ℕ, ◌+◌, ◌-◌, List, ◌++◌, length, take, ap, refl, ◌∙◌, arith, rules}
use Rattle.std.specs.Prelude.{replicate, if◌then◌else◌}
use Rattle.std.specs.Result.{is_ok}
use Rattle.std.specs.Int.{w16, to_be_bytes}
use Rattle.sr_frame.specs.Frame.{head_of}
use Rattle.sr_frame.specs.View.{fields_of}
use Rattle.sr_frame.specs.LengthLemmas.{length-padded}
use Rattle.sr_hsr_tag.specs.Tagged.{tag_octets}
use Rattle.sr_hsr_tag.specs.declared.tag.HsrTag.{HsrTag}
use Rattle.sr_hsr_tag.proofs.Written.{resized_is_tagged, resized_behind, length-tagged}
use Rattle.sr_hsr_tag.proofs.writing.append_tagged.Goals as goal

pub returns-clause-ok : goal.returns-clause-ok
returns-clause-ok c =
    let f = fields_of c.args.frame.now in
    let legal = c.args.frame.now.legal in
    let n = c.max-payload_len.result + 6 in
    let len = c.header_len.result + n in
    let end = c.len.result + len in
    let old = c.args.out.now.items in
    let tag : HsrTag = record { path = c.args.path; size = n; seq = c.args.seq; inner = f.ethertype } in
    let whole = head_of f ++ to_be_bytes w16 0x892F ++ (tag_octets tag ++ f.payload) in
    let v = c.put_tagged.new.out in
    let written : v.items ≡ old ++ whole = c.put_tagged.ensures.items ∙ ap (λ (l : List ℕ). l ++ whole) c.in_ok-reserve.ensures.items in
    let own = take len whole ++ replicate (len - length whole) 0 in
    let there = take end v.items ++ replicate (end - v.len) 0 in
    let resized : c.resize.new.self.items ≡ there = c.resize.ensures.items ∙ ap (λ r. if is_ok r then there else v.items) c.unwrap.ensures in (
      own,
      resized ∙ ap (λ (l : List ℕ). take end l ++ replicate (end - v.len) 0) written
          ∙ resized_behind old whole end len v.len (omega (arith, c.len.ensures)) (omega (arith, length-tagged f tag legal, c.header_len.ensures, c.max-payload_len.ensures)) (v.ok.0 ∙ ap length written),
      resized_is_tagged f own whole c.args.path n c.header_len.result c.args.seq legal c.header_len.ensures
          (omega (arith, c.max-payload_len.ensures)) (omega (arith, c.if-len-gt-MAX_FRAME_LEN.false)) c.requires (omega arith) refl refl,
    )

pub returns-then-len-gt-MAX_FRAME_LEN-clause-long : goal.returns-then-len-gt-MAX_FRAME_LEN-clause-long
returns-then-len-gt-MAX_FRAME_LEN-clause-long c =
    let len = length-padded (fields_of c.args.frame.now) c.max-payload_len.result c.args.frame.now.legal c.max-payload_len.ensures in (
      λ _. omega (arith, len, c.header_len.ensures, c.if-len-gt-MAX_FRAME_LEN.true),
      λ _. refl,
    )

pub returns-in_err-reserve-clause-long : goal.returns-in_err-reserve-clause-long
returns-in_err-reserve-clause-long c =
    let len = length-padded (fields_of c.args.frame.now) c.max-payload_len.result c.args.frame.now.legal c.max-payload_len.ensures in (
      λ e. search rules,
      λ lt. absurd (omega (arith, len, lt, c.header_len.ensures, c.if-len-gt-MAX_FRAME_LEN.false)),
    )
