use Rattle.std.proofs.Common.{rules, ◌*◌, ◌≡◌, ◌∙◌, ◌+◌, None, sym, ap, subst, arith, length}
use Rattle.std.specs.List.{IsDistinct}
use Rattle.std.specs.Map.{keys_of}
use Rattle.sr_frame.specs.declared.fields.Mac.{Mac}
use Rattle.sr_frame.specs.Addresses.{mac_eq}
use Rattle.sr_dup_table.specs.declared.fault.DupFault.TheVariants.{NoMemory}
use Rattle.sr_dup_table.specs.Sources.{Remembered, live_at}
use Rattle.sr_dup_table.specs.Joins.{first_apart, join_fault, lacking_in, with_sources}
use Rattle.sr_dup_table.specs.Shown.{heard_of, sources_of}
use Rattle.sr_dup_table.proofs.JoinLemmas.{takes, fits, joinable, none-in-the-way, live-passed, distinct-rest}
use Rattle.sr_dup_table.proofs.merging.take_all.Goals as goal

pub loop-src-init : goal.loop-src-init
loop-src-init g c =
    let s = c.args.table.now.sources in
    let now = c.args.now in
    let e = ap sources_of c.into_iter-src-iterator.ensures.into_iter_gives ∙ c.entries-src-items.ensures in
    record {
      all = ap (λ l. with_sources (64 * g.row.N) s (live_at now l)) e;
      close = ap (λ l. first_apart s (live_at now l)) e;
      count = ap (λ l. length s + length (lacking_in s (live_at now l))) e;
      few = c.requires.few;
      unique = subst (λ l. IsDistinct mac_eq (keys_of l)) (sym e) c.requires.unique;
    }

pub take-requires : goal.take-requires
take-requires g c = (omega arith, (omega arith, c.loop-src.invariant.few))

pub loop-src-preserved-in-Continue-1 : goal.loop-src-preserved-in-Continue-1
loop-src-preserved-in-Continue-1 g c =
    let e : Mac × Remembered = (c.in-Some.src, heard_of c.in-Some.entry.now) in
    let rest = sources_of c.next.new.self in
    let now = c.args.now in
    let parts = ap sources_of c.in-Some.ensures.steps in
    let taken =
    takes (64 * g.row.N) now c.loop-src.table.sources e rest (sources_of c.loop-src.src-iterator) parts (sym c.is_live.ensures ∙ c.if-is_live.true) c.loop-src.invariant.unique
    c.in_ok-take.ensures.close in
    record {
      all = ap (λ s. with_sources (64 * g.row.N) s (live_at now rest)) c.in_ok-take.ensures.joined ∙ taken.rest ∙ c.loop-src.invariant.all;
      close = ap (λ s. first_apart s (live_at now rest)) c.in_ok-take.ensures.joined ∙ taken.close ∙ c.loop-src.invariant.close;
      count = ap (λ s. length s + length (lacking_in s (live_at now rest))) c.in_ok-take.ensures.joined ∙ taken.count ∙ c.loop-src.invariant.count;
      few = c.in_ok-take.ensures.room;
      unique = distinct-rest e rest (sources_of c.loop-src.src-iterator) parts c.loop-src.invariant.unique;
    }

pub loop-src-preserved : goal.loop-src-preserved
loop-src-preserved g c =
    let e : Mac × Remembered = (c.in-Some.src, heard_of c.in-Some.entry.now) in
    let rest = sources_of c.next.new.self in
    let parts = ap sources_of c.in-Some.ensures.steps in
    let s = c.loop-src.table.sources in
    let passed = live-passed c.args.now e rest (sources_of c.loop-src.src-iterator) parts (sym c.is_live.ensures ∙ c.if-is_live.false) in
    record {
      all = sym (ap (with_sources (64 * g.row.N) s) passed) ∙ c.loop-src.invariant.all;
      close = sym (ap (first_apart s) passed) ∙ c.loop-src.invariant.close;
      count = sym (ap (λ l. length s + length (lacking_in s l)) passed) ∙ c.loop-src.invariant.count;
      few = c.loop-src.invariant.few;
      unique = distinct-rest e rest (sources_of c.loop-src.src-iterator) parts c.loop-src.invariant.unique;
    }

pub returns-in_err-take-clause-refused : goal.returns-in_err-take-clause-refused
returns-in_err-take-clause-refused g c =
    let e : Mac × Remembered = (c.in-Some.src, heard_of c.in-Some.entry.now) in
    let one = c.args.table.now.sources in
    let all = live_at c.args.now c.args.other.now.sources in
    let known : join_fault one all ≡ None → c.in_err-take.field-0.0 ≡ NoMemory =
    λ none.
    let clear = none-in-the-way one all none in
    let fit = fits (64 * g.row.N) c.args.now c.loop-src.table.sources e (sources_of c.next.new.self) (sources_of c.loop-src.src-iterator) (ap sources_of c.in-Some.ensures.steps)
    (sym c.is_live.ensures ∙ c.if-is_live.true) (c.loop-src.invariant.close ∙ clear.1) (omega (arith, c.loop-src.invariant.count, clear.0)) in
    c.in_err-take.ensures.refused fit.room fit.close in
    search rules

pub returns-clause-joined : goal.returns-clause-joined
returns-clause-joined g c =
    sym (ap (λ it. with_sources (64 * g.row.N) c.loop-src.table.sources (live_at c.args.now (sources_of it))) c.in-None.ensures.steps.0) ∙ c.loop-src.invariant.all

pub returns-clause-joinable : goal.returns-clause-joinable
returns-clause-joinable g c =
    let s = c.loop-src.table.sources in
    let over = c.in-None.ensures.steps.0 in
    joinable c.args.table.now.sources (live_at c.args.now c.args.other.now.sources)
    (omega (arith, c.loop-src.invariant.count, ap (λ it. length (lacking_in s (live_at c.args.now (sources_of it)))) over, c.loop-src.invariant.few))
    (sym c.loop-src.invariant.close ∙ ap (λ it. first_apart s (live_at c.args.now (sources_of it))) over)
