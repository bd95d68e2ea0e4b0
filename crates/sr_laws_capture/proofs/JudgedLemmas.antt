-- What a report is judged by.
use Rattle.std.proofs.Common.{◌≡◌, ℕ, ◌-◌, Bool, false, cond, not, ◌||◌, ◌⊎◌, List, [], ◌∷◌, Option, None, Some, arith, refl, ap, ◌∙◌, inl, inr}
use Rattle.std.specs.Prelude.{nat_lt, filter, count_by}
use Rattle.std.specs.List.{IsDistinct}
use Rattle.std.specs.Map.{lookup, keys_of}
use Rattle.std.proofs.lemmas.Bool.{or_parts}
use Rattle.std.proofs.lemmas.List.Filters.{sum_by-filter_both}
use Rattle.std.proofs.lemmas.List.Sums.{sum_by-cons}
use Rattle.sr_frame.specs.declared.fields.Mac.{Mac}
use Rattle.sr_frame.specs.Addresses.{mac_eq}
use Rattle.sr_audit.specs.declared.audit.Audit.{Audit}
use Rattle.sr_audit.specs.declared.source.Figures.{Figures}
use Rattle.sr_audit.specs.declared.source.Source.{Source}
use Rattle.sr_audit.specs.Faults.{last_class, tells_of_faults}
use Rattle.sr_audit.specs.Shown.{figures_of}
use Rattle.sr_laws_audit.proofs.FigureLemmas.{none_passes, quiet}
use Rattle.sr_capture_audit.specs.declared.counts.Counts.{Counts}
use Rattle.sr_capture_audit.specs.declared.figures.Report.{Report}
use Rattle.sr_capture_audit.specs.declared.judgement.Judgement.TheVariants.{Sound, Faulty}
use Rattle.sr_capture_audit.specs.declared.judgement.Reason.{Reason}
use Rattle.sr_capture_audit.specs.Counting.{Seen, names_other_lan, is_misfit_packet, number_with, all_figures}
use Rattle.sr_capture_audit.specs.Faults.{have_faults, lost_told, missing_told, own_figures, judged_have_lost, counters_have_missing, has_faults}
use Rattle.sr_capture_audit.specs.Judging.{reason_of, judged, network_judgement, check_status}
use Rattle.sr_laws_capture.specs.Judged.{is_astray, have_astray, IsNotFaulty}

-- where no packet was sent astray, no count of a side tells so
count_none : (p : Seen → Bool) → ((x : Seen) → is_astray x ≡ false → p x ≡ false) → (xs : List Seen) → have_astray xs ≡ false → count_by p xs ≡ 0
count_none p each [] none = refl
count_none p each (x ∷ xs) none =
    let parts = or_parts (is_astray x) (have_astray xs) none in
    let head : cond {A = ℕ} (p x) 1 0 ≡ 0 = ap (λ b. cond {A = ℕ} b 1 0) (each x parts.0) in
    omega (arith, head, sum_by-cons (λ y. cond {A = ℕ} (p y) 1 0) x xs, count_none p each xs parts.1)

part_none : (p q : Seen → Bool) (xs : List Seen) → count_by p xs ≡ 0 → number_with p (filter q xs) ≡ 0
part_none p q xs none = omega (arith, none, sum_by-filter_both q (λ x. not (q x)) (λ x. refl) (λ x. cond {A = ℕ} (p x) 1 0) xs)

other_lan : (x : Seen) → is_astray x ≡ false → names_other_lan x.kind ≡ false
other_lan x none = (or_parts (names_other_lan x.kind) (is_misfit_packet x.kind) none).0

misfit : (x : Seen) → is_astray x ≡ false → is_misfit_packet x.kind ≡ false
misfit x none = (or_parts (names_other_lan x.kind) (is_misfit_packet x.kind) none).1

side_none : (q : Seen → Bool) (xs : List Seen) → have_astray xs ≡ false →
    (nat_lt 0 (number_with (λ x. names_other_lan x.kind) (filter q xs)) || nat_lt 0 (number_with (λ x. is_misfit_packet x.kind) (filter q xs))) ≡ false
side_none q xs none =
    ap (λ n. nat_lt 0 n || nat_lt 0 (number_with (λ x. is_misfit_packet x.kind) (filter q xs)))
    (part_none (λ x. names_other_lan x.kind) q xs (count_none (λ x. names_other_lan x.kind) other_lan xs none))
    ∙ ap (λ n. nat_lt 0 n) (part_none (λ x. is_misfit_packet x.kind) q xs (count_none (λ x. is_misfit_packet x.kind) misfit xs none))

or_none : (a b c : Bool) → a ≡ false → b ≡ false → c ≡ false → (a || (b || c)) ≡ false
or_none a b c e f g = rw (e, f, g) refl

pub counts_quiet : (seen : List Seen) (counts : Counts) → counts ≡ all_figures seen → have_astray seen ≡ false → have_faults counts ≡ false
counts_quiet seen counts is none =
    ap have_faults is
    ∙ or_none _ _ _ (side_none _ seen none) (side_none _ seen none) (side_none _ seen none)

-- figures by themselves, beside other audits
pub own_quiet : (f : Figures) (j c : Option Audit) → (j ≡ None → (f.tally.alone.a - f.edges.a ≡ 0) × (f.tally.alone.b - f.edges.b ≡ 0)) →
    (c ≡ None → f.neither ≡ 0) → f.tally.repeats.a ≡ 0 → f.tally.repeats.b ≡ 0 → last_class f.skews.classes ≡ 0 →
    tells_of_faults (missing_told c (lost_told j f)) ≡ false
own_quiet f None None lost missing ra rb l = quiet f (lost refl).0 (lost refl).1 ra rb (missing refl) l
own_quiet f (Some j) None lost missing ra rb l =
    quiet (lost_told (Some j) f) (itself f.edges.a) (itself f.edges.b) ra rb (missing refl) l
  where
    itself : (n : ℕ) → n - n ≡ 0
    itself n = omega arith
own_quiet f None (Some c) lost missing ra rb l = quiet (missing_told (Some c) f) (lost refl).0 (lost refl).1 ra rb refl l
own_quiet f (Some j) (Some c) lost missing ra rb l =
    quiet (missing_told (Some c) (lost_told (Some j) f)) (itself f.edges.a) (itself f.edges.b) ra rb refl l
  where
    itself : (n : ℕ) → n - n ≡ 0
    itself n = omega arith

or_four : (a b c d : Bool) → a ≡ false → b ≡ false → c ≡ false → d ≡ false → (a || (b || (c || d))) ≡ false
or_four a b c d e f g h = rw (e, f, g, h) refl

pub faultless : (r : Report) → have_faults r.counts ≡ false → judged_have_lost r.judged ≡ false → counters_have_missing r.sight r.counters ≡ false →
    IsDistinct mac_eq (keys_of r.audit.sources.entries) →
    ((m : Mac) (s : Source) → lookup (mac_eq m) r.audit.sources.entries ≡ Some s → tells_of_faults (own_figures r (figures_of s)) ≡ false) →
    has_faults r ≡ false
faultless r counts lost missing once each =
    or_four (have_faults r.counts) (judged_have_lost r.judged) (counters_have_missing r.sight r.counters) _ counts lost missing
    (none_passes (λ s. tells_of_faults (own_figures r (figures_of s))) r.audit.sources.entries once each)

-- a report of no fault ends with 0, or for a reason with 4
pub not_faulty : (r : Report) → has_faults r ≡ false → IsNotFaulty r
not_faulty r none = record { faults = none; status = by (reason_of r) refl }
  where
    by : (o : Option Reason) → reason_of r ≡ o → ((reason_of r ≡ None) × (check_status (network_judgement r) ≡ 0))
        ⊎ ((why : Reason) × (reason_of r ≡ Some why) × (check_status (network_judgement r) ≡ 4))
    by None is = inl (is, ap (λ o. check_status (judged o r)) is ∙ ap (λ b. check_status (cond b Faulty Sound)) none)
    by (Some why) is = inr (why, is, ap (λ o. check_status (judged o r)) is)
