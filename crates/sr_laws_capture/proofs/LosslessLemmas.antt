-- Reports of a network in which nothing is lost.
use Rattle.std.proofs.Common.{◌∷◌, [], ◌≡◌, ℕ, ◌+◌, ◌-◌, ◌^◌, ◌<◌, ◌≤◌, Bool, true, false, ◌⊎◌, List, length, Option, None, Some, min, arith, refl, sym, ap, ◌∙◌, subst, inl, inr, max}
use Rattle.std.specs.Prelude.{nat_lt, fold}
use Rattle.std.specs.List.{list_any}
use Rattle.std.specs.Map.{lookup}
use Rattle.std.proofs.lemmas.Bool.{cases_Bool, cases_lt, lt-ltb, ltb-true, ltb-false, or_cases, or_parts, or_left, or_right}
use Rattle.sr_frame.specs.declared.fields.Mac.{Mac}
use Rattle.sr_frame.specs.Addresses.{mac_eq}
use Rattle.sr_audit.specs.declared.arrival.Arrival.{Arrival}
use Rattle.sr_audit.specs.declared.audit.Audit.{Audit}
use Rattle.sr_audit.specs.declared.side.Side.TheVariants.{A, B}
use Rattle.sr_audit.specs.declared.source.Source.{Source}
use Rattle.sr_audit.specs.declared.span.Span.{Span}
use Rattle.sr_audit.specs.declared.span.Spans.{Spans}
use Rattle.sr_audit.specs.Audits.{Sent, of, Audits}
use Rattle.sr_audit.specs.Edges.{is_outside}
use Rattle.sr_audit.specs.Faults.{tells_of_faults}
use Rattle.sr_audit.specs.Limits.{exact_arrivals}
use Rattle.sr_audit.specs.Shown.{figures_of}
use Rattle.sr_audit.specs.Taken.{HasTaken}
use Rattle.sr_laws_audit.specs.Records.{LeavesOut, LacksNoNumber}
use Rattle.sr_laws_audit.specs.Sources.{IsSeenByBoth, IsSeenWhole}
use Rattle.sr_laws_audit.proofs.ExactLemmas.{few_of, found_passes}
use Rattle.sr_laws_audit.proofs.FigureLemmas.{neither_is, late_is, entry_taken, none_passes, numbered_no_repeat, both_no_loss, whole_lacks_none, figures_lost, repeats_none}
use Rattle.sr_laws_audit.proofs.UnbrokenLemmas.{no_ring_number_lacks}
use Rattle.sr_capture_script.specs.Passing.{Handed}
use Rattle.sr_capture_audit.specs.declared.figures.Report.{Report}
use Rattle.sr_capture_audit.specs.declared.flows.Sight.{Sight}
use Rattle.sr_capture_audit.specs.declared.flows.Sight.TheVariants.{All, Part}
use Rattle.sr_capture_audit.specs.declared.network.Subject.{Subject}
use Rattle.sr_capture_audit.specs.Auditing.{sent_in}
use Rattle.sr_capture_audit.specs.Edging.{inner_spans, least_edge, most_edge, widest, edge_width, inner_span, tells_of_lost, tells_of_missing}
use Rattle.sr_capture_audit.specs.Faults.{shows_lost, have_lost, shows_missing, have_missing, have_faults, lost_told, missing_told, judged_have_lost, counters_have_missing, has_faults}
use Rattle.sr_capture_audit.specs.Ruling.{ruled_in}
use Rattle.sr_laws_capture.specs.Judged.{with_counters_if, with_judged_if, judged_report}
use Rattle.sr_laws_capture.specs.Lossless.{IsSilent, TwoReadingsTellNoFault, read_twice_if, EdgesAreWideEnough, IsExactAudit, IsOfNumbered, IsSeenInRing, IsOfWhole, InnerSpansLeaveOut, MirrorsTellNoFault, RecordersTellNoFault}
use Rattle.sr_laws_capture.proofs.JudgedLemmas.{counts_quiet, own_quiet, faultless, not_faulty}

-- the parts that lie far from both ends
span_leaves : (apart width : ℕ) (span : Option Span) (t u : ℕ) → apart ≤ width → t < 2 ^ 64 - 1 → is_outside span u ≡ true → t ≤ u + apart →
    u ≤ t + apart → is_outside (inner_span width span) t ≡ true
span_leaves apart width None t u wide small out near_t near_u = refl
span_leaves apart width (Some span) t u wide small out near_t near_u =
    elim (cases_lt t (min (span.first + width) 18446744073709551615)) [
      | inl early ↦ or_left (nat_lt t (min (span.first + width) 18446744073709551615)) (nat_lt (span.last - width) t)
          (lt-ltb t (min (span.first + width) 18446744073709551615) early)
      | inr not_early ↦ or_right (nat_lt t (min (span.first + width) 18446744073709551615)) (nat_lt (span.last - width) t)
          (lt-ltb (span.last - width) t (late not_early (or_cases (nat_lt u span.first) (nat_lt span.last u) out)))
    ]
  where
    late : min (span.first + width) 18446744073709551615 ≤ t → (nat_lt u span.first ≡ true) ⊎ (nat_lt span.last u ≡ true) → span.last - width < t
    late over (inl before) = absurd (omega (arith, over, small, wide, near_t, ltb-true u span.first before))
    late over (inr behind) = omega (arith, over, small, wide, near_u, ltb-true span.last u behind)

pub inner_leave : InnerSpansLeaveOut
inner_leave apart width recorded wide A t u small out near_t near_u = span_leaves apart width recorded.a t u wide small out near_t near_u
inner_leave apart width recorded wide B t u small out near_t near_u = span_leaves apart width recorded.b t u wide small out near_t near_u

-- an edge is no less wide than the least one
no_less : (entries : List (Mac × Source)) (least : ℕ) → least ≤ fold (λ width e. max width (widest (figures_of e.1).skews)) least entries
no_less [] least = omega arith
no_less (e ∷ es) least = by (max least (widest (figures_of e.1).skews)) (omega arith) (no_less es (max least (widest (figures_of e.1).skews)))
  where
    by : (more : ℕ) → least ≤ more → more ≤ fold (λ width f. max width (widest (figures_of f.1).skews)) more es →
        least ≤ fold (λ width f. max width (widest (figures_of f.1).skews)) more es
    by more g h = omega (arith, g, h)

pub wide_enough : EdgesAreWideEnough
wide_enough apart recorded r small =
    inner_leave apart (edge_width r) recorded (wide (fold (λ width e. max width (widest (figures_of e.1).skews)) least_edge r.audit.sources.entries)
    (no_less r.audit.sources.entries least_edge))
  where
    wide : (width : ℕ) → least_edge ≤ width → apart ≤ min width most_edge
    wide width le = omega (arith, small, le)

-- entries that do not pass a test which none of the list passes
none_of : (test : Source → Bool) (entries : List (Mac × Source)) → list_any (λ e. test e.1) entries ≡ false → (m : Mac) (s : Source) →
    lookup (mac_eq m) entries ≡ Some s → test s ≡ false
none_of test entries none m s found =
    elim (cases_Bool (test s)) [
      | inr fails ↦ fails
      | inl passes ↦ let bad : false ≡ true = sym none ∙ found_passes test entries m s found passes in absurd cc
    ]

few_sent : (n : ℕ) → n ≤ exact_arrivals → n < 2 ^ 64
few_sent n le = omega (arith, le)

-- what an audit of frames that both recorders see tells
both_lost_none : (apart : ℕ) (recorded judged : Spans) (sent : List Sent) (audit : Audit) → IsExactAudit sent audit →
    Audits judged sent audit.sources.entries → ((m : Mac) → IsSeenByBoth apart recorded (of m sent)) → LeavesOut apart recorded judged →
    have_lost audit ≡ false
both_lost_none apart recorded judged sent audit within audits seen leaves =
    none_passes (λ s. shows_lost (figures_of s)) audit.sources.entries within.once
    (λ m s found. figures_lost judged (of m sent) s (entry_taken judged sent audit.sources.entries m s audits found)
    (both_no_loss apart recorded judged (of m sent) (seen m) leaves))

whole_missing_none : (judged : Spans) (sent : List Sent) (audit : Audit) → IsExactAudit sent audit → Audits judged sent audit.sources.entries →
    ((m : Mac) → LacksNoNumber (of m sent)) → have_missing audit ≡ false
whole_missing_none judged sent audit within audits lacks =
    none_passes (λ s. shows_missing (figures_of s)) audit.sources.entries within.once
    (λ m s found. ap (nat_lt 0) (neither_is judged (of m sent) s (omega (arith, few_of m sent, within.few))
    (entry_taken judged sent audit.sources.entries m s audits found) ∙ (lacks m).neither))

ring_lacks_none : (apart : ℕ) (ran : Spans) (xs : List Arrival) → IsSeenInRing apart ran xs → LacksNoNumber xs
ring_lacks_none apart ran xs is =
    let n = is.numbered in
    subst LacksNoNumber n.arrivals
    (no_ring_number_lacks apart n.frames ran is.span n.copies n.timely n.are_recorded is.has_all is.past_one is.quiet)

-- a report with or without other audits, which tell of nothing
record AreSilent (r : Report) (lost missing : Bool) (frames counters : Audit) (sight : Sight) : Type 0 where
  frames_lost : lost ≡ true → have_lost frames ≡ false
  none_lost : lost ≡ false → (m : Mac) (s : Source) → lookup (mac_eq m) r.audit.sources.entries ≡ Some s → shows_lost (figures_of s) ≡ false
  none_counted : missing ≡ true → counters_have_missing sight (Some counters) ≡ false
  none_missing : missing ≡ false → (m : Mac) (s : Source) → lookup (mac_eq m) r.audit.sources.entries ≡ Some s →
      shows_missing (figures_of s) ≡ false

no_more : (n : ℕ) → nat_lt 0 n ≡ false → n ≡ 0
no_more n none = omega (arith, ltb-false 0 n none)

silent : (apart : ℕ) (recorded judged : Spans) (subject : Subject) (xs : List Handed) (r : Report) (lost missing : Bool)
    (frames counters : Audit) (sight : Sight) → IsOfNumbered apart recorded judged subject xs r → AreSilent r lost missing frames counters sight →
    has_faults (with_judged_if lost frames (with_counters_if missing counters sight r)) ≡ false
silent apart recorded judged subject xs r lost missing frames counters sight is told = by lost missing told
  where
    sent : List Sent
    sent = sent_in is.told.seen

    audits : Audits judged sent r.audit.sources.entries
    audits = is.told.audits (few_sent (length sent) is.within.few)

    counts : have_faults r.counts ≡ false
    counts = counts_quiet is.told.seen r.counts is.told.counts is.none_astray

    each : (j c : Option Audit) → (j ≡ None → (m : Mac) (s : Source) → lookup (mac_eq m) r.audit.sources.entries ≡ Some s →
        shows_lost (figures_of s) ≡ false) → (c ≡ None → (m : Mac) (s : Source) → lookup (mac_eq m) r.audit.sources.entries ≡ Some s →
        shows_missing (figures_of s) ≡ false) → (m : Mac) (s : Source) → lookup (mac_eq m) r.audit.sources.entries ≡ Some s →
        tells_of_faults (missing_told c (lost_told j (figures_of s))) ≡ false
    each j c none_lost none_missing m s found =
        let mine = of m sent in
        let taken : HasTaken judged mine s = entry_taken judged sent r.audit.sources.entries m s audits found in
        let exact : length mine ≤ exact_arrivals = omega (arith, few_of m sent, is.within.few) in
        let none = numbered_no_repeat apart recorded mine (is.numbered m) in
        let repeats = repeats_none judged mine s taken none in
        own_quiet (figures_of s) j c
        (λ e. let parts = or_parts (nat_lt 0 ((figures_of s).tally.alone.a - (figures_of s).edges.a))
        (nat_lt 0 ((figures_of s).tally.alone.b - (figures_of s).edges.b)) (none_lost e m s found) in
        (no_more _ parts.0, no_more _ parts.1))
        (λ e. no_more _ (none_missing e m s found)) repeats.0 repeats.1 (late_is judged mine s exact taken ∙ none.late)

    no_some : (a : Audit) (o : Option Audit) → o ≡ Some a → o ≡ None → ⊥
    no_some a o e f = let bad : Some a ≡ None = sym e ∙ f in cc

    by : (l m : Bool) → AreSilent r l m frames counters sight → has_faults (with_judged_if l frames (with_counters_if m counters sight r)) ≡ false
    by true true t =
        faultless (record r { counters = Some counters; sight = sight; judged = Some frames }) counts (t.frames_lost refl) (t.none_counted refl)
        is.within.once
        (each (Some frames) (Some counters) (λ e. absurd (no_some frames (Some frames) refl e))
        (λ e. absurd (no_some counters (Some counters) refl e)))
    by true false t =
        faultless (record r { judged = Some frames }) counts (t.frames_lost refl)
        (ap (counters_have_missing r.sight) is.own.no_counters ∙ no_counters r.sight) is.within.once
        (each (Some frames) r.counters (λ e. absurd (no_some frames (Some frames) refl e)) (λ e. t.none_missing refl))
      where
        no_counters : (s : Sight) → counters_have_missing s None ≡ false
        no_counters All = refl
        no_counters Part = refl
    by false true t =
        faultless (record r { counters = Some counters; sight = sight }) counts (ap judged_have_lost is.own.no_judged) (t.none_counted refl)
        is.within.once
        (each r.judged (Some counters) (λ e. t.none_lost refl) (λ e. absurd (no_some counters (Some counters) refl e)))
    by false false t =
        faultless r counts (ap judged_have_lost is.own.no_judged)
        (ap (counters_have_missing r.sight) is.own.no_counters ∙ no_counters r.sight) is.within.once
        (each r.judged r.counters (λ e. t.none_lost refl) (λ e. t.none_missing refl))
      where
        no_counters : (s : Sight) → counters_have_missing s None ≡ false
        no_counters All = refl
        no_counters Part = refl

alone_silent : (apart : ℕ) (recorded judged : Spans) (subject : Subject) (xs : List Handed) (r : Report) →
    IsOfNumbered apart recorded judged subject xs r → tells_of_lost r ≡ false → tells_of_missing r ≡ false → IsSilent r
alone_silent apart recorded judged subject xs r is lost missing =
    record {
      lost = lost;
      missing = missing;
      sound = not_faulty r (silent apart recorded judged subject xs r false false r.audit r.audit Part is (record {
        frames_lost = λ e. let bad : false ≡ true = e in absurd cc;
        none_lost = λ e. none_of (λ s. shows_lost (figures_of s)) r.audit.sources.entries lost;
        none_counted = λ e. let bad : false ≡ true = e in absurd cc;
        none_missing = λ e. none_of (λ s. shows_missing (figures_of s)) r.audit.sources.entries missing;
      }));
    }

whole_missing : (apart : ℕ) (recorded judged : Spans) (subject : Subject) (xs : List Handed) (r : Report)
    (is : IsOfNumbered apart recorded judged subject xs r) → ((m : Mac) → IsSeenWhole apart recorded (of m (sent_in is.told.seen))) →
    tells_of_missing r ≡ false
whole_missing apart recorded judged subject xs r is whole =
    let sent = sent_in is.told.seen in
    whole_missing_none judged sent r.audit is.within (is.told.audits (few_sent (length sent) is.within.few))
    (λ m. whole_lacks_none apart recorded (of m sent) (whole m))

pub mirrors_silent : MirrorsTellNoFault
mirrors_silent apart recorded judged subject xs r is whole leaves =
    let sent = sent_in is.told.seen in
    let audits : Audits judged sent r.audit.sources.entries = is.told.audits (few_sent (length sent) is.within.few) in
    alone_silent apart recorded judged subject xs r is
    (both_lost_none apart recorded judged sent r.audit is.within audits (λ m. (whole m).seen) leaves)
    (whole_missing apart recorded judged subject xs r is whole)

pub two_readings : TwoReadingsTellNoFault
two_readings apart recorded subject xs first second at_first at_second = by (tells_of_lost first) refl
  where
    by : (b : Bool) → tells_of_lost first ≡ b → IsSilent (read_twice_if b first second)
    by true e =
        let s = at_second e in
        mirrors_silent apart recorded (inner_spans (edge_width first) recorded) subject xs second s.1.of_numbered s.1.whole
        (inner_leave apart (edge_width first) recorded s.0)
    by false e =
        alone_silent apart recorded recorded subject xs first at_first.of_numbered e
        (whole_missing apart recorded recorded subject xs first at_first.of_numbered at_first.whole)

pub recorders_silent : RecordersTellNoFault
recorders_silent apart recorded ran judged subject xs r counters sight frames by_counter by_flow is both whole =
    not_faulty (judged_report r counters sight frames)
    (silent apart recorded judged subject xs r (tells_of_lost r) (tells_of_missing r) frames counters sight is (record {
      frames_lost = λ e.
          let b = (both e).1 in
          both_lost_none apart recorded judged (ruled_in by_flow judged b.told.seen) frames b.within
          (b.told.audits (few_sent (length (ruled_in by_flow judged b.told.seen)) b.within.few)) b.seen (both e).0;
      none_lost = λ e. none_of (λ s. shows_lost (figures_of s)) r.audit.sources.entries e;
      none_counted = λ e. counted (whole e);
      none_missing = λ e. none_of (λ s. shows_missing (figures_of s)) r.audit.sources.entries e;
    }))
  where
    part : (s : Sight) → s ≡ Part → counters_have_missing s (Some counters) ≡ false
    part All e = let bad : All ≡ Part = e in absurd cc
    part Part e = refl

    any : (s : Sight) → have_missing counters ≡ false → counters_have_missing s (Some counters) ≡ false
    any All none = none
    any Part none = refl

    counted : (sight ≡ Part) ⊎ IsOfWhole apart recorded ran judged by_counter subject xs counters → counters_have_missing sight (Some counters) ≡ false
    counted (inl e) = part sight e
    counted (inr w) =
        let sent = ruled_in by_counter judged w.told.seen in
        any sight (whole_missing_none judged sent counters w.within (w.told.audits (few_sent (length sent) w.within.few))
        (λ m. lacks m (w.seen m)))
      where
        lacks : (m : Mac) → IsSeenWhole apart recorded (of m (ruled_in by_counter judged w.told.seen))
            ⊎ IsSeenInRing apart ran (of m (ruled_in by_counter judged w.told.seen)) →
            LacksNoNumber (of m (ruled_in by_counter judged w.told.seen))
        lacks m (inl all) = whole_lacks_none apart recorded (of m (ruled_in by_counter judged w.told.seen)) all
        lacks m (inr ring) = ring_lacks_none apart ran (of m (ruled_in by_counter judged w.told.seen)) ring
