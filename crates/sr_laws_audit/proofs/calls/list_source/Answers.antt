use Rattle.std.proofs.Common.{arith, ◌∙◌, ◌≤◌, ◌<◌, length, subst}
use Rattle.std.specs.Prelude.{◌^◌, reverse}
use Rattle.std.proofs.lemmas.List.{take_all, length-reverse}
use Rattle.sr_laws_audit.specs.Lists.{ListingRun}
use Rattle.sr_laws_audit.proofs.CallLemmas.{run_next, ends_on, run_ends}
use Rattle.sr_laws_audit.proofs.calls.list_source.Goals as goal

pub loop-copy-preserved : goal.loop-copy-preserved
loop-copy-preserved c =
    let copies = c.args.copies.now in
    let so_far = c.loop-copy.invariant in
    let within : c.loop-copy.copy-index < length copies = omega arith in
    let few : length copies < 2 ^ 64 = omega arith in
    record {
      run = run_next c.args.spans c.loop-copy.listing.spans c.args.first c.loop-copy.listing.first copies c.loop-copy.copy-index _
          c.loop-copy.listing.sources.entries c.note_next.new.listing.sources.entries c.loop-copy.lines.items c.note_next.new.lines.items
          so_far.spans so_far.first within few c.in_ok-note_next.ensures.runs so_far.run;
      spans = c.note_next.ensures.spans ∙ so_far.spans;
      first = c.note_next.ensures.first ∙ so_far.first;
    }

pub returns : goal.returns
returns c =
    let copies = c.args.copies.now in
    let so_far = c.loop-copy.invariant in
    let end : length copies ≤ c.loop-copy.copy-index = omega arith in
    let few : length (reverse copies) < 2 ^ 64 = omega (arith, length-reverse copies) in
    run_ends c.args.spans c.args.first (reverse copies) c.loop-copy.listing.sources.entries c.loop-copy.lines.items c.finish.new.list.items
    c.args.src few
    (subst (λ xs. ListingRun c.args.spans c.args.first (reverse xs) c.loop-copy.listing.sources.entries c.loop-copy.lines.items)
    (take_all c.loop-copy.copy-index copies end) so_far.run)
    (ends_on c.args.spans c.loop-copy.listing.spans c.args.first c.loop-copy.listing.first c.args.src c.loop-copy.listing.sources.entries
    c.loop-copy.lines.items c.finish.new.list.items so_far.spans so_far.first c.in_ok-finish.ensures.listed)
