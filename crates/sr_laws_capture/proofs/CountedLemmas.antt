-- Frames that no recorder has are counted.
use Rattle.std.proofs.Common.{◌≡◌, ℕ, ◌<◌, ◌≤◌, ◌^◌, Bool, true, false, ◌||◌, List, length, Some, arith, refl, ap, ◌∙◌}
use Rattle.std.specs.Prelude.{sum_by}
use Rattle.std.specs.List.{list_any}
use Rattle.std.specs.Map.{lookup}
use Rattle.std.proofs.lemmas.Bool.{lt-ltb}
use Rattle.sr_frame.specs.declared.fields.Mac.{Mac}
use Rattle.sr_frame.specs.Addresses.{mac_eq}
use Rattle.sr_audit.specs.declared.audit.Audit.{Audit}
use Rattle.sr_audit.specs.declared.source.Source.{Source}
use Rattle.sr_audit.specs.declared.span.Spans.{Spans}
use Rattle.sr_audit.specs.Audits.{Sent, of, Audits}
use Rattle.sr_audit.specs.Faults.{tells_of_faults}
use Rattle.sr_audit.specs.Limits.{exact_arrivals}
use Rattle.sr_audit.specs.Shown.{figures_of}
use Rattle.sr_audit.specs.Stretches.{stretches}
use Rattle.sr_laws_audit.specs.Outcomes.{Neither, numbers_with}
use Rattle.sr_laws_audit.specs.Sources.{CountsEachNumber}
use Rattle.sr_laws_audit.proofs.ExactLemmas.{few_of, found_passes}
use Rattle.sr_laws_audit.proofs.FigureLemmas.{counts_each}
use Rattle.sr_capture_audit.specs.declared.figures.Report.{Report}
use Rattle.sr_capture_audit.specs.declared.flows.Sight.TheVariants.{All}
use Rattle.sr_capture_audit.specs.Auditing.{sent_in}
use Rattle.sr_capture_audit.specs.Faults.{shows_missing, have_missing, have_faults, judged_have_lost, counters_have_missing, own_figures, has_faults}
use Rattle.sr_capture_audit.specs.Ruling.{ruled_in}
use Rattle.sr_laws_capture.specs.Counted.{ReportsCountEachNumber, CountersCountEachNumber}

few_sent : (n : ℕ) → n ≤ exact_arrivals → n < 2 ^ 64
few_sent n le = omega (arith, le)

-- where a number is of no frame, the audit tells of missing ones
missing_told_of : (spans : Spans) (sent : List Sent) (audit : Audit) (m : Mac) (s : Source) → lookup (mac_eq m) audit.sources.entries ≡ Some s →
    CountsEachNumber spans (of m sent) (figures_of s) → 0 < sum_by (numbers_with spans Neither) (stretches (of m sent)) → have_missing audit ≡ true
missing_told_of spans sent audit m s found counts some =
    found_passes (λ t. shows_missing (figures_of t)) audit.sources.entries m s found
    (lt-ltb 0 (figures_of s).neither (omega (arith, some, counts.neither)))

counted : (spans : Spans) (sent : List Sent) (audit : Audit) (m : Mac) (s : Source) → (length sent < 2 ^ 64 → Audits spans sent audit.sources.entries) →
    lookup (mac_eq m) audit.sources.entries ≡ Some s → length sent ≤ exact_arrivals → CountsEachNumber spans (of m sent) (figures_of s)
counted spans sent audit m s audits found few =
    counts_each spans sent audit.sources.entries m s (audits (few_sent (length sent) few)) found (omega (arith, few_of m sent, few))

pub reports_count : ReportsCountEachNumber
reports_count subject spans xs r told m s found few =
    let sent = sent_in told.seen in
    let counts = counted spans sent r.audit m s told.audits found few in
    (counts, missing_told_of spans sent r.audit m s found counts)

-- a report with that audit tells of a fault
third : (a b c d : Bool) → c ≡ true → (a || (b || (c || d))) ≡ true
third true b c d is = refl
third false true c d is = refl
third false false c d is = ap (λ t. t || d) is

by_counters : (r : Report) (counters : Audit) → have_missing counters ≡ true → r.counters ≡ Some counters → r.sight ≡ All → has_faults r ≡ true
by_counters r counters missing is sight =
    third (have_faults r.counts) (judged_have_lost r.judged) (counters_have_missing r.sight r.counters)
    (list_any (λ e. tells_of_faults (own_figures r (figures_of e.1))) r.audit.sources.entries)
    (ap (λ s. counters_have_missing s r.counters) sight ∙ ap (counters_have_missing All) is ∙ missing)

pub counters_count : CountersCountEachNumber
counters_count rule subject spans xs counters told m s found few =
    let sent = ruled_in rule spans told.seen in
    let counts = counted spans sent counters m s told.audits found few in (
      counts,
      λ some.
          let missing = missing_told_of spans sent counters m s found counts some in
          (missing, λ r is sight. by_counters r counters missing is sight),
    )
