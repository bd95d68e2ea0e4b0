use Rattle.std.proofs.Common.{eqb, sym, ◌∙◌}
use Rattle.std.proofs.lemmas.Bool.{not-false}
use Rattle.std.specs.Cmp.Lexicographic.{pointwise}
use Rattle.sr_dup_table.specs.Sources.{same_sources}
use Rattle.sr_dup_table.specs.Shown.{sources_of}
use Rattle.sr_dup_table.proofs.EntryLemmas.{same_first, ends_first}
use Rattle.sr_dup_table.proofs.equality.same_entries.Goals as goal

pub loop-src-preserved : goal.loop-src-preserved
loop-src-preserved g c =
    let same = not-false (pointwise eqb c.in-Some.src.0 c.in-Some-next.mac.0) (sym c.ne.ensures ∙ c.if-ne.false) in
    same_first (c.in-Some.src, c.in-Some.entry.now) (c.in-Some-next.mac, c.in-Some-next.heard.now) c.next.new.self c.next-in-loop-src.new.self
    c.loop-src.src-iterator c.loop-src.other (same_sources (sources_of c.args.one) (sources_of c.args.other))
    c.in-Some.ensures.steps c.in-Some-next.ensures.steps same (sym c.same_entry.ensures ∙ c.if-not-same_entry.false) c.loop-src.invariant

pub returns-in_default : goal.returns-in_default
returns-in_default g c =
    ends_first (c.in-Some.src, c.in-Some.entry.now) c.next.new.self c.loop-src.src-iterator c.loop-src.other
    (same_sources (sources_of c.args.one) (sources_of c.args.other)) c.in-Some.ensures.steps c.in_default.ensures.steps.0 c.loop-src.invariant
