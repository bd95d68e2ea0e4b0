-- The spans of the packets of captures, one by one.
use Rattle.std.proofs.Common.{◌≡◌, ℕ, Bool, true, false, List, [], ◌∷◌, ◌++◌, Option, None, Some, refl, sym, ap, ◌∙◌, subst}
use Rattle.std.specs.Prelude.{map, filter, cond}
use Rattle.std.proofs.lemmas.Fn.{chained_keeps}
use Rattle.std.proofs.lemmas.List.{append-nil, map-append}
use Rattle.std.proofs.lemmas.List.Elements.{filter-append}
use Rattle.sr_audit.specs.declared.side.Side.{Side}
use Rattle.sr_audit.specs.declared.side.Side.TheVariants.{A, B}
use Rattle.sr_audit.specs.declared.span.Spans.{Spans}
use Rattle.sr_audit.specs.Spans.{last_of, span_of, span_with, spans_with}
use Rattle.sr_capture.specs.Records.{Captured, Shows}
use Rattle.sr_capture.specs.declared.packet.Packet.{Packet}
use Rattle.sr_capture_script.specs.declared.choice.Choice.{Choice}
use Rattle.sr_capture_script.specs.declared.passing.Place.{Place}
use Rattle.sr_capture_script.specs.Merging.{Feed}
use Rattle.std.specs.List.{FoldsTo}
use Rattle.sr_capture_script.specs.Coming.{AllCame}
use Rattle.sr_capture_script.specs.Items.{Item}
use Rattle.sr_capture_script.specs.Passing.{Handed, wanted, IsHandedAs}
use Rattle.sr_capture_audit.specs.Timing.{all_put_right}
use Rattle.sr_capture_audit.specs.declared.network.Subject.{Subject}
use Rattle.sr_capture_audit.specs.declared.network.Tap.{Tap}
use Rattle.sr_capture_audit.specs.declared.spanning.Beside.{Beside}
use Rattle.sr_capture_audit.specs.declared.spanning.Spanning.{Spanning}
use Rattle.sr_capture_audit.specs.Auditing.{tap_at}
use Rattle.sr_capture_audit.specs.Spanning.{IsSideOf, CameBy, AreTimed, is_by, times_by, AreSpansOf, SpansMore, SpansBeside, AreSpansOfAll}

-- a time more
last_more : (first : ℕ) (times : List ℕ) (time : ℕ) → last_of first (times ++ time ∷ []) ≡ time
last_more first [] time = refl
last_more first (next ∷ times) time = last_more next times time

pub span_more : (times : List ℕ) (time : ℕ) → span_of (times ++ time ∷ []) ≡ span_with time (span_of times)
span_more [] time = refl
span_more (first ∷ times) time = ap (λ last. Some (record { first = first; last = last })) (last_more first times time)

-- a packet more
timed_more : (subject : Subject) (xs : List Handed) (timed : List (Option Side × ℕ)) (x : Handed) (side : Option Side) → AreTimed subject xs timed →
    CameBy (tap_at subject.ports x.inlet) subject.network x.packet side → AreTimed subject (xs ++ x ∷ []) (timed ++ (side, x.time) ∷ [])
timed_more subject [] timed x side h by = (side, [], ap (λ l. l ++ (side, x.time) ∷ []) h, by, refl)
timed_more subject (y ∷ ys) timed x side h by =
    (h.0, h.1 ++ (side, x.time) ∷ [], ap (λ l. l ++ (side, x.time) ∷ []) h.2, h.3, timed_more subject ys h.1 x side h.4 by)

times_more : (own : Side) (timed : List (Option Side × ℕ)) (side : Option Side) (time : ℕ) →
    times_by own (timed ++ (side, time) ∷ []) ≡ times_by own timed ++ cond (is_by own side) (time ∷ []) []
times_more own timed side time =
    ap (map (λ (t : Option Side × ℕ). t.1)) (filter-append (λ (t : Option Side × ℕ). is_by own t.0) timed ((side, time) ∷ []))
    ∙ map-append (λ (t : Option Side × ℕ). t.1) (filter (λ (t : Option Side × ℕ). is_by own t.0) timed) (filter (λ (t : Option Side × ℕ). is_by own t.0) ((side, time) ∷ []))
    ∙ ap (λ l. times_by own timed ++ l) (one (is_by own side) refl)
  where
    one : (b : Bool) → is_by own side ≡ b → map (λ (t : Option Side × ℕ). t.1) (filter (λ (t : Option Side × ℕ). is_by own t.0) ((side, time) ∷ [])) ≡ cond (is_by own side) (time ∷ []) []
    one true e = cc
    one false e = cc

-- how the spans grow by a packet of a side, or of none
abbrev spans_as : Option Side → ℕ → Spans → Spans
spans_as (Some side) time spans = spans_with side time spans
spans_as None time spans = spans

-- the span of a side, where the packet is of it or not
taken_at : (own : Side) (timed : List (Option Side × ℕ)) (side : Option Side) (time : ℕ) → is_by own side ≡ true →
    span_of (times_by own (timed ++ (side, time) ∷ [])) ≡ span_with time (span_of (times_by own timed))
taken_at own timed side time e =
    ap span_of (times_more own timed side time ∙ ap (λ b. times_by own timed ++ cond b (time ∷ []) []) e) ∙ span_more (times_by own timed) time

left_at : (own : Side) (timed : List (Option Side × ℕ)) (side : Option Side) (time : ℕ) → is_by own side ≡ false →
    span_of (times_by own (timed ++ (side, time) ∷ [])) ≡ span_of (times_by own timed)
left_at own timed side time e =
    ap span_of (times_more own timed side time ∙ ap (λ b. times_by own timed ++ cond b (time ∷ []) []) e ∙ append-nil (times_by own timed))

spans_more : (subject : Subject) (xs : List Handed) (x : Handed) (side : Option Side) (spans : Spans) →
    CameBy (tap_at subject.ports x.inlet) subject.network x.packet side → AreSpansOf subject xs spans →
    AreSpansOf subject (xs ++ x ∷ []) (spans_as side x.time spans)
spans_more subject xs x None spans by h = record {
  timed = h.timed ++ (None, x.time) ∷ [];
  are_timed = timed_more subject xs h.timed x None h.are_timed by;
  a = h.a ∙ sym (left_at A h.timed None x.time refl);
  b = h.b ∙ sym (left_at B h.timed None x.time refl);
}
spans_more subject xs x (Some A) spans by h = record {
  timed = h.timed ++ (Some A, x.time) ∷ [];
  are_timed = timed_more subject xs h.timed x (Some A) h.are_timed by;
  a = ap (span_with x.time) h.a ∙ sym (taken_at A h.timed (Some A) x.time refl);
  b = h.b ∙ sym (left_at B h.timed (Some A) x.time refl);
}
spans_more subject xs x (Some B) spans by h = record {
  timed = h.timed ++ (Some B, x.time) ∷ [];
  are_timed = timed_more subject xs h.timed x (Some B) h.are_timed by;
  a = h.a ∙ sym (left_at A h.timed (Some B) x.time refl);
  b = ap (span_with x.time) h.b ∙ sym (taken_at B h.timed (Some B) x.time refl);
}

-- the side of a packet that is given to the pass
came_by : (place : Place) (x : Handed) (subject : Subject) (o : Option Tap) (side : Option Side) → x.inlet ≡ place.inlet →
    o ≡ tap_at subject.ports place.inlet → CameBy o subject.network x.packet side →
    CameBy (tap_at subject.ports x.inlet) subject.network x.packet side
came_by place x subject o side at told by =
    subst (λ t. CameBy t subject.network x.packet side) (told ∙ ap (tap_at subject.ports) (sym at)) by

-- a packet of no capture of the audit is passed over
pub spans_passed : (place : Place) (shown : Packet) (x : Handed) (old : Spanning) (o : Option Tap) → IsHandedAs place shown x →
    o ≡ tap_at old.subject.ports place.inlet → o ≡ None → SpansMore x old old
spans_passed place shown x old o is told none = record {
  subject = refl;
  spans = λ xs h. spans_more old.subject xs x None old.spans
      (came_by place x old.subject o None is.inlet told (subst (λ t. CameBy t old.subject.network x.packet None) (sym none) refl)) h;
}

-- so is one that names no side
pub spans_unnamed : (place : Place) (shown : Packet) (x : Handed) (old : Spanning) (o : Option Tap) (own : Tap) (side : Option Side) →
    IsHandedAs place shown x → o ≡ tap_at old.subject.ports place.inlet → o ≡ Some own →
    ((captured : Captured) → Shows shown captured → IsSideOf own old.subject.network captured side) → side ≡ None → SpansMore x old old
spans_unnamed place shown x old o own side is told some sides none = record {
  subject = refl;
  spans = λ xs h. subst (λ s. AreSpansOf old.subject (xs ++ x ∷ []) (spans_as s x.time old.spans)) none
      (spans_more old.subject xs x side old.spans (came_by place x old.subject o side is.inlet told
      (subst (λ t. CameBy t old.subject.network x.packet side) (sym some) (sides x.packet is.shows))) h);
}

-- one of a side is noted there
pub spans_noted : (place : Place) (shown : Packet) (x : Handed) (old new : Spanning) (o : Option Tap) (own : Tap) (side : Option Side) (at : Side) →
    IsHandedAs place shown x → o ≡ tap_at old.subject.ports place.inlet → o ≡ Some own →
    ((captured : Captured) → Shows shown captured → IsSideOf own old.subject.network captured side) → side ≡ Some at →
    new.spans ≡ spans_with at place.time old.spans → new.subject ≡ old.subject → SpansMore x old new
spans_noted place shown x old new o own side at is told some sides named grown same = record {
  subject = same;
  spans = λ xs h. subst (λ s. AreSpansOf old.subject (xs ++ x ∷ []) s)
      (ap (λ s. spans_as s x.time old.spans) named ∙ ap (λ t. spans_with at t old.spans) is.time ∙ sym grown)
      (spans_more old.subject xs x side old.spans (came_by place x old.subject o side is.inlet told
      (subst (λ t. CameBy t old.subject.network x.packet side) (sym some) (sides x.packet is.shows))) h);
}

-- no packet was noted
pub spans_none : (subject : Subject) (spans : Spans) → spans.a ≡ None → spans.b ≡ None → AreSpansOf subject [] spans
spans_none subject spans a b = record { timed = []; are_timed = refl; a = a; b = b }

-- all packets were noted
pub spans_all : (choice : Choice) (x y z : Feed) (old new : Spanning) (merged : List Item) → AllCame x y z merged → AreSpansOf old.subject [] old.spans →
    FoldsTo (λ o h n. SpansMore h o n) old (all_put_right old.subject.clock (wanted choice merged)) new → AreSpansOfAll choice old.subject x y z new.spans
spans_all choice x y z old new merged came none all =
    let end = chained_keeps (λ o h n. SpansMore h o n) (λ xs s. (s.subject ≡ old.subject) × AreSpansOf old.subject xs s.spans)
    (λ xs q h v is took. (
      took.subject ∙ is.0,
      subst (λ s. AreSpansOf s (xs ++ h ∷ []) v.spans) is.0
          (took.spans xs (subst (λ s. AreSpansOf s xs q.spans) (sym is.0) is.1)),
    ))
    (all_put_right old.subject.clock (wanted choice merged)) old new (refl, none) all in
    record { merged = merged; came = came; of_all = end.1 }

-- beside another pass, each packet is taken for the spans, at its time by the clock of A
pub spans_folded : {P : Type 0} (takes : P → Handed → P → Type 0) (old : Beside P) (xs : List Handed) (new : Beside P) →
    FoldsTo (λ o h n. SpansBeside takes h o n) old xs new →
    FoldsTo (λ o h n. SpansMore h o n) old.spanning (all_put_right old.spanning.subject.clock xs) new.spanning
spans_folded takes old [] new same = ap (λ (b : Beside _). b.spanning) same
spans_folded takes old (x ∷ xs) new h = (
  h.0.spanning,
  h.1.spans,
  subst (λ c. FoldsTo (λ o h n. SpansMore h o n) h.0.spanning (all_put_right c xs) new.spanning) (ap (λ (s : Subject). s.clock) h.1.spans.subject)
      (spans_folded takes h.0 xs new h.2),
)
