-- The frames that tell of losses, where all frames do.
use Rattle.std.proofs.Common.{◌≡◌, ℕ, ◌≤◌, Bool, true, false, cond, ◌||◌, List, [], ◌∷◌, ◌++◌, length, Option, None, Some, refl, sym, ap, ◌∙◌, arith, eqb-true, inl, inr}
use Rattle.std.specs.Prelude.{nat_eq, reverse}
use Rattle.std.specs.List.{flat_map}
use Rattle.std.specs.Map.{lookup}
use Rattle.sr_frame.specs.declared.fields.Mac.{Mac}
use Rattle.sr_frame.specs.Addresses.{mac_eq}
use Rattle.sr_frame.specs.AddressLemmas.{mac_refl}
use Rattle.sr_audit.specs.declared.source.Source.{Source}
use Rattle.sr_audit.specs.declared.span.Spans.{Spans}
use Rattle.sr_audit.specs.Audits.{Sent, of, Audits}
use Rattle.sr_capture_audit.specs.declared.flows.Flows.{Flows}
use Rattle.sr_capture_audit.specs.declared.kind.Kind.{Kind}
use Rattle.sr_capture_audit.specs.declared.kind.Kind.TheVariants.{Numbered, Plain, Misfit, Cut, Long, Empty}
use Rattle.sr_capture_audit.specs.declared.ruling.Rule.TheVariants.{ByFlow, Judged}
use Rattle.sr_capture_audit.specs.Auditing.{sent_by, sent_in}
use Rattle.sr_capture_audit.specs.Counting.{Seen}
use Rattle.sr_capture_audit.specs.Flows.{flow_name, judges}
use Rattle.sr_capture_audit.specs.Laws.{JudgedFramesMayBeAll}
use Rattle.sr_capture_audit.specs.Ruling.{sent_from, sent_under, ruled_in}

-- where both recorders are mirrors, each frame is judged
judged_is : (f : Flows) (spans : Spans) → f.are_mirrors ≡ true → (k : Kind) (time : ℕ) → sent_under (Judged f) spans k time ≡ sent_by k time
judged_is f spans mirrors (Numbered n) time = ap (λ b. sent_from (cond b (Some n.src) None) n time) (by n.to_group refl)
  where
    by : (b : Bool) → n.to_group ≡ b → judges f n ≡ true
    by true e = rw e refl
    by false e = rw (e, mirrors) refl
judged_is f spans mirrors Plain time = refl
judged_is f spans mirrors Misfit time = refl
judged_is f spans mirrors Cut time = refl
judged_is f spans mirrors Long time = refl
judged_is f spans mirrors Empty time = refl

-- arrivals of no source are none
of_none : (sent : List Sent) → ((m : Mac) → of m sent ≡ []) → sent ≡ []
of_none [] none = refl
of_none (x ∷ xs) none = by (mac_eq x.0 x.0) (mac_refl x.0) (none x.0)
  where
    by : (b : Bool) → b ≡ true → cond b (x.1 ∷ of x.0 xs) (of x.0 xs) ≡ [] → x ∷ xs ≡ []
    by true same h = absurd cc
    by false same h = absurd cc

none_of : (spans : Spans) (sent : List Sent) (entries : List (Mac × Source)) → nat_eq (length entries) 0 ≡ true → Audits spans sent entries →
    (m : Mac) → of m sent ≡ []
none_of spans sent [] e audits m =
    elim (audits.each m) [
      | inl nothing ↦ nothing
      | inr full ↦ absurd (omega (arith, full))
    ]
none_of spans sent (x ∷ xs) e audits m = absurd (omega (arith, eqb-true (length (x ∷ xs)) 0 e))

parts_none : (l r : List Sent) → l ++ r ≡ [] → (l ≡ []) × (r ≡ [])
parts_none [] r h = (refl, h)
parts_none (x ∷ l) r h = absurd cc

-- a frame of no flow was sent to a group, and is judged
group_is : (f : Flows) (spans : Spans) (k : Kind) (time : ℕ) → sent_under ByFlow spans k time ≡ [] →
    sent_under (Judged f) spans k time ≡ sent_by k time
group_is f spans (Numbered n) time none = by n.to_group refl none
  where
    by : (b : Bool) → n.to_group ≡ b → sent_from (cond b None (Some (flow_name n.src n.dst))) n time ≡ [] →
        sent_from (cond (judges f n) (Some n.src) None) n time ≡ sent_by (Numbered n) time
    by true e h =
        let all : judges f n ≡ true = rw e refl in
        ap (λ b. sent_from (cond b (Some n.src) None) n time) all
    by false e h = absurd cc
group_is f spans Plain time none = refl
group_is f spans Misfit time none = refl
group_is f spans Cut time none = refl
group_is f spans Long time none = refl
group_is f spans Empty time none = refl

groups_are : (f : Flows) (spans : Spans) (ys : List Seen) → flat_map (λ x. sent_under ByFlow spans x.kind x.time) ys ≡ [] →
    flat_map (λ x. sent_under (Judged f) spans x.kind x.time) ys ≡ flat_map (λ x. sent_by x.kind x.time) ys
groups_are f spans [] none = refl
groups_are f spans (x ∷ ys) none =
    let parts = parts_none (sent_under ByFlow spans x.kind x.time) (flat_map (λ y. sent_under ByFlow spans y.kind y.time) ys) none in
    ap (λ l. l ++ flat_map (λ y. sent_under (Judged f) spans y.kind y.time) ys) (group_is f spans x.kind x.time parts.0)
    ∙ ap (λ l. sent_by x.kind x.time ++ l) (groups_are f spans ys parts.1)

pub judged_all : JudgedFramesMayBeAll
judged_all f by_flow spans seen all audits = by f.are_mirrors refl all
  where
    by : (b : Bool) → f.are_mirrors ≡ b → (b || nat_eq (length by_flow.sources.entries) 0) ≡ true → ruled_in (Judged f) spans seen ≡ sent_in seen
    by true mirrors h = λ i. flat_map (λ (x : Seen). judged_is f spans mirrors x.kind x.time i) (reverse seen)
    by false others h =
        groups_are f spans (reverse seen) (of_none (ruled_in ByFlow spans seen)
        (none_of spans (ruled_in ByFlow spans seen) by_flow.sources.entries h audits))
