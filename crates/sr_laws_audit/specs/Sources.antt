-- The sources of an audit: what their figures count, and those of a network in which nothing is lost.
use Rattle.std.specs.Prelude.{◌≡◌, ◌-◌, ◌≤◌, ℕ, false, List, length, Some, sum_by}
use Rattle.std.specs.List.{IsDistinct, list_any}
use Rattle.std.specs.Map.{lookup, keys_of}
use Rattle.sr_frame.specs.declared.fields.Mac.{Mac}
use Rattle.sr_frame.specs.Addresses.{mac_eq}
use Rattle.sr_audit.specs.declared.arrival.Arrival.{Arrival}
use Rattle.sr_audit.specs.declared.source.Figures.{Figures}
use Rattle.sr_audit.specs.declared.source.Source.{Source}
use Rattle.sr_audit.specs.declared.span.Spans.{Spans}
use Rattle.sr_audit.specs.Audits.{Sent, of, Audits}
use Rattle.sr_audit.specs.Faults.{tells_of_faults}
use Rattle.sr_audit.specs.Limits.{exact_arrivals}
use Rattle.sr_audit.specs.Shown.{figures_of}
use Rattle.sr_audit.specs.Stretches.{Placed, stretches}
use Rattle.sr_laws_audit.specs.Outcomes.{Paired, OnlyA, OnlyB, EdgeA, EdgeB, Neither, numbers_with}
use Rattle.sr_laws_audit.specs.Records.{
  Passage,
  PassesInTime,
  AreRecorded,
  HasAll,
  arrivals_by,
  GoesPastBoth,
  LeavesOut,
  IsSequential,
  Overlap,
}

-- figures count the numbers of these arrivals by their outcomes
pub record CountsEachNumber (spans : Spans) (xs : List Arrival) (f : Figures) : Type 0 where
  pub pairs : f.tally.pairs ≡ sum_by (numbers_with spans Paired) (stretches xs)
  pub only_a : f.tally.alone.a - f.edges.a ≡ sum_by (numbers_with spans OnlyA) (stretches xs)
  pub only_b : f.tally.alone.b - f.edges.b ≡ sum_by (numbers_with spans OnlyB) (stretches xs)
  pub edge_a : f.edges.a ≡ sum_by (numbers_with spans EdgeA) (stretches xs)
  pub edge_b : f.edges.b ≡ sum_by (numbers_with spans EdgeB) (stretches xs)
  pub neither : f.neither ≡ sum_by (numbers_with spans Neither) (stretches xs)

-- so do those of each source that an audit has
abbrev pub AuditsCountEachNumber : Type 0
AuditsCountEachNumber = (spans : Spans) (sent : List Sent) (entries : List (Mac × Source)) (m : Mac) (s : Source) →
    Audits spans sent entries → lookup (mac_eq m) entries ≡ Some s → length (of m sent) ≤ exact_arrivals →
    CountsEachNumber spans (of m sent) (figures_of s)

-- arrivals of a source have a true numbering: they are copies of frames that pass the recorders in time
pub record HasTrueNumbering (apart : ℕ) (recorded : Spans) (xs : List Arrival) : Type 0 where
  pub frames : Passage
  pub copies : List Placed
  pub arrivals : arrivals_by copies ≡ xs
  pub timely : PassesInTime apart frames
  pub are_recorded : AreRecorded frames recorded copies

-- each frame goes past both recorders, and each of these has all that passes it while it runs
pub record IsSeenByBoth (apart : ℕ) (recorded : Spans) (xs : List Arrival) : Type 0 where
  pub numbered : HasTrueNumbering apart recorded xs
  pub has_all : HasAll numbered.frames recorded numbered.copies
  pub past_both : GoesPastBoth numbered.frames

-- beside that the source numbers them one apart, and both recorders run together
pub record IsSeenWhole (apart : ℕ) (recorded : Spans) (xs : List Arrival) : Type 0 where
  pub seen : IsSeenByBoth apart recorded xs
  pub in_order : IsSequential seen.numbered.frames
  pub overlap : Overlap apart recorded.a recorded.b

-- where each source is seen whole, no figure of any tells of a fault
abbrev pub WholeAuditsTellNoFault : Type 0
WholeAuditsTellNoFault = (apart : ℕ) (recorded judged : Spans) (sent : List Sent) (entries : List (Mac × Source)) →
    IsDistinct mac_eq (keys_of entries) → Audits judged sent entries → ((m : Mac) → length (of m sent) ≤ exact_arrivals) →
    ((m : Mac) → IsSeenWhole apart recorded (of m sent)) → LeavesOut apart recorded judged →
    list_any (λ e. tells_of_faults (figures_of e.1)) entries ≡ false
