use Rattle.std.proofs.Common.{◌≡◌, ◌∙◌, ◌+◌, ◌-◌, ◌*◌, ◌++◌, ◌∷◌, [], None, suc, length, take, drop, sym, ap, subst, arith, append_assoc}
use Rattle.std.specs.Map.{lookup}
use Rattle.std.proofs.lemmas.List.{append-nil, length-append}
use Rattle.sr_frame.specs.Addresses.{mac_eq}
use Rattle.sr_dup_table.specs.Widths.{numbers_in}
use Rattle.sr_dup_table.specs.Sources.{Sources, Contents}
use Rattle.sr_dup_snapshots.specs.Snapshots.{source_len}
use Rattle.sr_dup_snapshots.specs.Reading.{source_in, sources_in, follows, are_in_order, source_cut, recut}
use Rattle.sr_dup_snapshots.proofs.ReadLemmas.{CanGoOn, can-begin, go-on, recut-next, none-left, left-more}
use Rattle.sr_dup_snapshots.proofs.reading.built.Goals as goal

pub loop-place-init : goal.loop-place-init
loop-place-init g c =
    let w = numbers_in c.args.text.width in
    let v = 64 * g.row.N in
    let n = c.args.text.count in
    let sources = c.args.text.sources.now in
    let whole : n - 0 ≡ n = omega arith in
    let empty : c.make_room.new.self.sources ≡ [] = ap (λ (t : Contents). t.sources) c.make_room.ensures ∙ c.new-table.ensures.sources in
    record {
      rest = c.requires.size ∙ ap (λ k. source_len w * k) (sym whole);
      read = λ i. empty i ++ recut v (sources_in w (whole i) sources);
      many = ap length empty;
      next = can-begin w (n - 0) sources c.make_room.new.self.sources empty (ap (λ k. are_in_order None (sources_in w k sources)) whole ∙ c.requires.order);
    }

pub add-requires : goal.add-requires
add-requires g c =
    let w = numbers_in c.args.text.width in
    let rest = c.loop-place.rest.now in
    let n = c.args.text.count in
    let next = n - (c.loop-place.place + 1) in
    let more : n - c.loop-place.place ≡ suc next = omega (arith, c.loop-place-test.true) in
    let front : c.split_at.result.0.now ≡ take (source_len w) rest = c.split_at.ensures.front ∙ ap (λ k. take k rest) c.source_len-len.ensures.len in
    let on = go-on w (n - c.loop-place.place) next rest c.loop-place.table.sources more c.loop-place.invariant.next in (
      omega arith,
      (
        c.requires.record,
        (
          c.split_at.ensures.front_len ∙ c.source_len-len.ensures.len,
          (
            ap (λ x. follows None (source_in w x)) front ∙ on.0,
            (
              omega (arith, c.loop-place.invariant.many, c.requires.few, c.loop-place-test.true),
              ap (λ x. lookup (mac_eq (source_in w x).0) c.loop-place.table.sources) front ∙ on.1,
            ),
          ),
        ),
      ),
    )

pub loop-place-preserved : goal.loop-place-preserved
loop-place-preserved g c =
    let w = numbers_in c.args.text.width in
    let v = 64 * g.row.N in
    let rest = c.loop-place.rest.now in
    let table = c.loop-place.table.sources in
    let n = c.args.text.count in
    let next = n - (c.loop-place.place + 1) in
    let e = source_in w (take (source_len w) rest) in
    let more : n - c.loop-place.place ≡ suc next = omega (arith, c.loop-place-test.true) in
    let front : c.split_at.result.0.now ≡ take (source_len w) rest = c.split_at.ensures.front ∙ ap (λ k. take k rest) c.source_len-len.ensures.len in
    let back : c.split_at.result.1.now ≡ drop (source_len w) rest = c.split_at.ensures.back ∙ ap (λ k. drop k rest) c.source_len-len.ensures.len in
    let added : c.add.new.table.sources ≡ table ++ source_cut v e ∷ [] = c.in_ok-add.ensures.added ∙ ap (λ x. table ++ source_cut v (source_in w x) ∷ []) front in
    let on = go-on w (n - c.loop-place.place) next rest table more c.loop-place.invariant.next in
    record {
      rest = (left-more (source_len w) n c.loop-place.place (length rest) c.loop-place-test.true c.loop-place.invariant.rest).1 (length c.split_at.result.1.now)
          (omega (arith, c.split_at.ensures.back_len, c.source_len-len.ensures.len));
      read = (λ i. added i ++ recut v (sources_in w next (back i)))
          ∙ append_assoc table (source_cut v e ∷ []) (recut v (sources_in w next (drop (source_len w) rest)))
          ∙ ap (λ l. table ++ l) (sym (recut-next w v (n - c.loop-place.place) next rest more))
          ∙ c.loop-place.invariant.read;
      many = ap length added ∙ length-append table (source_cut v e ∷ []) ∙ ap (λ k. k + 1) c.loop-place.invariant.many;
      next = subst (λ x. CanGoOn w next x c.add.new.table.sources) (sym back)
          (subst (λ (t : Sources). CanGoOn w next (drop (source_len w) rest) t) (sym added) (on.2 v));
    }

pub returns-clause-sources : goal.returns-clause-sources
returns-clause-sources g c =
    let w = numbers_in c.args.text.width in
    let v = 64 * g.row.N in
    let table = c.loop-place.table.sources in
    let left : c.args.text.count - c.loop-place.place ≡ 0 = omega (arith, c.loop-place-test.false) in
    let nothing : recut v (sources_in w (c.args.text.count - c.loop-place.place) c.loop-place.rest.now) ≡ [] =
    ap (recut v) (ap (λ k. sources_in w k c.loop-place.rest.now) left ∙ none-left w c.loop-place.rest.now) in
    c.release.ensures.sources
    ∙ sym (append-nil table)
    ∙ ap (λ l. table ++ l) (sym nothing)
    ∙ c.loop-place.invariant.read
