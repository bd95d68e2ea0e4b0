use Rattle.std.proofs.Common.{◌≡◌, ◌*◌, ◌++◌, ◌∙◌, length, sym, ap, subst, arith}
use Rattle.std.specs.List.{flat_map, AllByRecursion}
use Rattle.std.specs.List.Sorted.{IsStrictlySortedBy}
use Rattle.std.specs.Int.{w16, to_be_bytes}
use Rattle.sr_dup_snapshots.specs.Snapshots.{head, mac_order, source_octets, IsSource}
use Rattle.sr_dup_snapshots.specs.Ordered.{sources_at}
use Rattle.sr_dup_snapshots.proofs.OrderLemmas.{keys-of-all, count-of-all, same-at}
use Rattle.sr_dup_snapshots.proofs.writing.spelled.Goals as goal

pub returns : goal.returns
returns g c =
    let w = 64 * g.row.N in
    let s = c.args.table.now.sources in
    let macs = c.in_ok-macs.macs.items in
    let moved = c.in_ok-macs.ensures.all in
    let first : c.extend_from_slice.new.self.items ≡ head w = c.in_ok-extend_from_slice.ensures.items ∙ (λ i. c.in_ok-octets.ensures.items i ++ c.requires.front i) in
    let count : c.to_be_bytes.result ≡ to_be_bytes w16 (length (sources_at s macs)) =
    c.to_be_bytes.ensures ∙ ap (to_be_bytes w16) (c.source_count-count.ensures.count ∙ sym (count-of-all s macs moved)) in
    let front : c.extend_from_slice-2.new.self.items ≡ head w ++ to_be_bytes w16 (length (sources_at s macs)) =
    c.in_ok-extend_from_slice-2.ensures.items ∙ (λ i. first i ++ count i) in
    record {
      ordered = sources_at s macs;
      same = same-at s macs moved;
      ascending = subst (IsStrictlySortedBy mac_order) (sym (keys-of-all s macs moved)) c.in_ok-macs.ensures.ascending;
      few = omega (arith, count-of-all s macs moved, c.source_count-count.ensures.table.few);
      each = subst (λ l. AllByRecursion (IsSource w) (sources_at s l)) c.deref.ensures.value c.in_ok-put_sources.ensures.each;
      spelled = c.in_ok-put_sources.ensures.spelled ∙ (λ i. front i ++ flat_map (source_octets w) (sources_at s (c.deref.ensures.value i)));
    }
