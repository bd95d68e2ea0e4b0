-- Lines whose text waits, and what a writer took of it.
use Rattle.std.proofs.Common.{◌≡◌, ℕ, zero, suc, Bor, Result, Ok, ◌+◌, ◌-◌, ◌<◌, ◌≤◌, true, false, List, [], ◌∷◌, ◌++◌, length, take, drop, get_or, take-add, Option, Some, None, sym, ap, refl, subst, ◌∙◌, arith, append_assoc, inl, inr}
use Rattle.std.specs.Prelude.{IfSome, IfOk, nat_lt}
use Rattle.std.specs.Io.KnownBytes.{Appends, Keeps}
use Rattle.std.proofs.KnownBytes.{Appends-nil, Appends-trans, Keeps-refl}
use Rattle.std.proofs.lemmas.Bool.{cases_lt}
use Rattle.std.proofs.lemmas.Bool.Decides.{nat_tests}
use Rattle.std.proofs.lemmas.List.{append-nil, nil_from_length, length-append, length-drop, take_all, length-take, length-take-le, take-append-drop, drop_more, drop_all, drop-drop, drop-append-le}
use Rattle.sr_session.specs.declared.fault.Fault.{Fault}
use Rattle.sr_session.specs.declared.fault.FaultKind.{FaultKind}
use Rattle.sr_session.specs.declared.fault.FaultKind.TheVariants as kind
use Rattle.sr_session.specs.declared.waiting.Mark.{Mark}
use Rattle.sr_session.specs.Lines.{lines_of, IsOneOf, TakesLine, TakesPart, BeginsLong}
use Rattle.sr_session.specs.Runs.{Dialogue, HasPlace, Replies, HasFault, HeldSince, WritesPart, WritesLast, EndsFrom}
use Rattle.sr_session.specs.Turns.{marked, line_of, Waits, AddsAnswer, IsCut, StopsSo, BeginsWith, TakesLines, AreObeyed}
use Rattle.sr_session.specs.Fronts.{IsFrontLine, FrontFails}
use Rattle.sr_session.specs.Octets.{Lacks, IsPlaceOf}
use Rattle.sr_session.proofs.Pieces.{lines_line}
use Rattle.sr_session.specs.OctetLemmas.{around_place}
use Rattle.sr_session.specs.FrontLemmas.{placed}
use Rattle.std.specs.Io.{StartsWith}
use Rattle.std.specs.Io.BufRead.{DropsConsumable}

marked_more : (n e : ℕ) (text : List ℕ) (others more : List Mark) → marked n e text others ++ more ≡ marked n e text (others ++ more)
marked_more n e [] others more = refl
marked_more n e (b ∷ bs) others more = refl

-- the text of a line more waits
waits_more : {S : Type 0} (d : Dialogue S) (s : S) (k place : ℕ) (lines : List (List ℕ)) (text : List ℕ) (marks : List Mark) (t : S) (line more : List ℕ) (u : S) (m : ℕ)
    → Waits d s k place lines text marks t → m ≡ k + length lines → HasPlace m line → d.Knows t line → d.Replied t m line more u
    → Waits d s k place (lines ++ line ∷ []) (text ++ more) (marks ++ marked m (place + length (text ++ more)) more []) u
waits_more {S} d s k place [] text marks t line more u m h e has knows replied =
    let here : m ≡ k = omega arith in
    let whole : text ++ more ≡ more = ap (λ (l : List ℕ). l ++ more) h.0 in (
      more,
      u,
      [],
      [],
      subst (λ n. HasPlace n line) here has,
      subst (λ (v : S). d.Knows v line) h.2 knows,
      subst (λ (v : S). d.Replied v k line more u) h.2 (subst (λ n. d.Replied t n line more u) here replied),
      (refl, refl, refl),
      whole ∙ sym (append-nil more),
      ap (λ (l : List Mark). l ++ marked m (place + length (text ++ more)) more []) h.1
          ∙ ap (λ n. marked n (place + length (text ++ more)) more []) here ∙ ap (λ (l : List ℕ). marked k (place + length l) more []) whole,
    )
waits_more {S} d s k place (l ∷ ls) text marks t line more u m h e has knows replied =
    let first = h.0 in
    let rest = waits_more d h.1 (k + 1) (place + length first) ls h.2 h.3 t line more u m h.7 (omega arith) has knows replied in
    let whole : text ++ more ≡ first ++ (h.2 ++ more) = ap (λ (x : List ℕ). x ++ more) h.8 ∙ append_assoc first h.2 more in
    let end : place + length first + length (h.2 ++ more) ≡ place + length (text ++ more) = omega (arith, ap length whole, length-append first (h.2 ++ more)) in (
      first,
      h.1,
      h.2 ++ more,
      h.3 ++ marked m (place + length (text ++ more)) more [],
      h.4,
      h.5,
      h.6,
      subst (λ n. Waits d h.1 (k + 1) (place + length first) (ls ++ line ∷ []) (h.2 ++ more) (h.3 ++ marked m n more []) u) end rest,
      whole,
      ap (λ (l : List Mark). l ++ marked m (place + length (text ++ more)) more []) h.9 ∙ marked_more k (place + length first) first h.3 _,
    )

pub waits_added : {S : Type 0} (d : Dialogue S) (s : S) (k : ℕ) (lines : List (List ℕ)) (text later : List ℕ) (marks more : List Mark) (t u : S) (line : List ℕ) (m : ℕ)
    → Waits d s k 0 lines text marks t → m ≡ k + length lines → HasPlace m line → AddsAnswer d t m line text marks later more u
    → Waits d s k 0 (lines ++ line ∷ []) later more u
waits_added {S} d s k lines text later marks more t u line m h e has added =
    let all = waits_more d s k 0 lines text marks t line added.0 u m h e has added.1 added.2 in
    let from : length (text ++ added.0) ≡ 0 + length (text ++ added.0) = omega arith in
    let marks_are : more ≡ marks ++ marked m (0 + length (text ++ added.0)) added.0 [] =
    added.4 ∙ ap (λ (l : List ℕ). marks ++ marked m (length l) added.0 []) added.3 ∙ ap (λ n. marks ++ marked m n added.0 []) from in
    subst (λ (l : List ℕ). Waits d s k 0 (lines ++ line ∷ []) l more u) (sym added.3)
    (subst (λ (l : List Mark). Waits d s k 0 (lines ++ line ∷ []) (text ++ added.0) l u) (sym marks_are) all)

pub waits_none : {S : Type 0} (d : Dialogue S) (s : S) (k : ℕ) (text : List ℕ) (marks : List Mark) → text ≡ [] → marks ≡ [] → Waits d s k 0 [] text marks s
waits_none d s k text marks e f = (e, f, refl)

-- what waits answers its lines
pub waits_replies : {S : Type 0} (d : Dialogue S) (s : S) (k place : ℕ) (lines : List (List ℕ)) (text : List ℕ) (marks : List Mark) (t : S)
    → Waits d s k place lines text marks t → Replies d s k lines text t
waits_replies d s k place [] text marks t h = (h.0, h.2)
waits_replies d s k place (line ∷ lines) text marks t h =
    (h.0, h.1, h.2, h.4, h.6, waits_replies d h.1 (k + 1) (place + length h.0) lines h.2 h.3 t h.7, h.8)

-- The line whose text holds the octet at a place: those before it, its text, and those behind it, which are answered with the rest.
pub record Held {S : Type 0} (d : Dialogue S) (s : S) (k place : ℕ) (lines : List (List ℕ)) (text : List ℕ) (marks : List Mark) (t : S) (at : ℕ) : Type 0 where
  pub before : List (List ℕ)
  pub line : List ℕ
  pub after : List (List ℕ)
  pub parted : lines ≡ before ++ line ∷ after
  pub front : List ℕ
  pub here : List ℕ
  pub back : List ℕ
  pub whole : text ≡ front ++ (here ++ back)
  pub reached : S
  pub next : S
  pub replies : Replies d s k before front reached
  pub has : HasPlace (k + length before) line
  pub knows : d.Knows reached line
  pub replied : d.Replied reached (k + length before) line here next
  pub later : Replies d next (k + length before + 1) after back t
  pub low : place + length front ≤ at
  pub high : at < place + length front + length here
  pub named : line_of marks at ≡ k + length before

held_later : {S : Type 0} (d : Dialogue S) (s u t : S) (k place : ℕ) (line : List ℕ) (lines : List (List ℕ)) (text first rest : List ℕ) (marks others : List Mark) (at : ℕ)
    → HasPlace k line → d.Replied s k line first u → text ≡ first ++ rest → line_of marks at ≡ line_of others at
    → Held d u (k + 1) (place + length first) lines rest others t at → Held d s k place (line ∷ lines) text marks t at
held_later {S} d s u t k place line lines text first rest marks others at has replied whole named h =
    let e : k + 1 + length h.before ≡ k + length (line ∷ h.before) = omega arith in
    record {
      before = line ∷ h.before;
      line = h.line;
      after = h.after;
      parted = ap (λ (l : List (List ℕ)). line ∷ l) h.parted;
      front = first ++ h.front;
      here = h.here;
      back = h.back;
      whole = whole ∙ ap (λ (l : List ℕ). first ++ l) h.whole ∙ sym (append_assoc first h.front (h.here ++ h.back));
      reached = h.reached;
      next = h.next;
      replies = (first, u, h.front, has, replied, h.replies, refl);
      has = subst (λ n. HasPlace n h.line) e h.has;
      knows = h.knows;
      replied = subst (λ n. d.Replied h.reached n h.line h.here h.next) e h.replied;
      later = subst (λ n. Replies d h.next (n + 1) h.after h.back t) e h.later;
      low = omega (arith, h.low, length-append first h.front);
      high = omega (arith, h.high, length-append first h.front);
      named = named ∙ h.named ∙ e;
    }

skipped : (n e at : ℕ) (b : ℕ) (bs : List ℕ) (others : List Mark) → e ≤ at → line_of (marked n e (b ∷ bs) others) at ≡ line_of others at
skipped n e at b bs others le = let no : nat_lt at e ≡ false = grind (arith, nat_tests) in rw no refl

named_here : (n e at : ℕ) (b : ℕ) (bs : List ℕ) (others : List Mark) → at < e → line_of (marked n e (b ∷ bs) others) at ≡ n
named_here n e at b bs others lt = let yes : nat_lt at e ≡ true = grind (arith, nat_tests) in rw yes refl

held_by : {S : Type 0} (d : Dialogue S) (s u t : S) (k place : ℕ) (line : List ℕ) (lines : List (List ℕ)) (text first rest : List ℕ) (marks others : List Mark) (at : ℕ)
    → HasPlace k line → d.Knows s line → d.Replied s k line first u → Replies d u (k + 1) lines rest t
    → (place + length first ≤ at → at < place + length first + length rest → Held d u (k + 1) (place + length first) lines rest others t at)
    → text ≡ first ++ rest → marks ≡ marked k (place + length first) first others → place ≤ at → at < place + length text
    → Held d s k place (line ∷ lines) text marks t at
held_by d s u t k place line lines text [] rest marks others at has knows replied behind later whole marks_are low high =
    held_later d s u t k place line lines text [] rest marks others at has replied whole (ap (λ (l : List Mark). line_of l at) marks_are)
    (later (omega arith) (omega (arith, high, ap length whole)))
held_by {S} d s u t k place line lines text (b ∷ bs) rest marks others at has knows replied behind later whole marks_are low high =
    let first = b ∷ bs in
    let e : k ≡ k + 0 = omega arith in
    elim (cases_lt at (place + length first)) [
      | inl l ↦ record {
        before = [];
        line = line;
        after = lines;
        parted = refl;
        front = [];
        here = first;
        back = rest;
        whole = whole;
        reached = s;
        next = u;
        replies = (refl, refl);
        has = subst (λ n. HasPlace n line) e has;
        knows = knows;
        replied = subst (λ n. d.Replied s n line first u) e replied;
        later = subst (λ n. Replies d u (n + 1) lines rest t) e behind;
        low = omega arith;
        high = omega (arith, l);
        named = ap (λ (m : List Mark). line_of m at) marks_are ∙ named_here k (place + length first) at b bs others l ∙ e;
      }
      | inr g ↦
          held_later d s u t k place line lines text first rest marks others at has replied whole
          (ap (λ (m : List Mark). line_of m at) marks_are ∙ skipped k (place + length first) at b bs others g)
          (later g (omega (arith, high, ap length whole, length-append first rest)))
    ]

pub held : {S : Type 0} (d : Dialogue S) (s : S) (k place : ℕ) (lines : List (List ℕ)) (text : List ℕ) (marks : List Mark) (t : S) (at : ℕ)
    → Waits d s k place lines text marks t → place ≤ at → at < place + length text → Held d s k place lines text marks t at
held d s k place [] text marks t at h low high = absurd (omega (arith, high, ap length h.0))
held d s k place (line ∷ lines) text marks t at h low high =
    held_by d s h.1 t k place line lines text h.0 h.2 marks h.3 at h.4 h.5 h.6 (waits_replies d h.1 (k + 1) (place + length h.0) lines h.2 h.3 t h.7) (λ from to. held d h.1 (k + 1) (place + length h.0) lines h.2 h.3 t at h.7 from to)
    h.8 h.9 low high

take_within : (here back : List ℕ) (n : ℕ) → n ≤ length here → take n (here ++ back) ≡ take n here
take_within here back zero le = refl
take_within [] back (suc n) le = absurd (omega arith)
take_within (b ∷ bs) back (suc n) le = ap (λ (l : List ℕ). b ∷ l) (take_within bs back n (omega arith))

-- the front of three parts that ends in the second
cut_front : (front here back : List ℕ) (n : ℕ) → n ≤ length here → take (length front + n) (front ++ (here ++ back)) ≡ front ++ take n here
cut_front [] here back n le =
    let e : length {A = ℕ} [] + n ≡ n = omega arith in
    rw e (take_within here back n le)
cut_front (b ∷ bs) here back n le =
    let e : length (b ∷ bs) + n ≡ suc (length bs + n) = omega arith in
    rw e (ap (λ (l : List ℕ). b ∷ l) (cut_front bs here back n le))

-- known octets, and then others
grown : Option (List ℕ) → List ℕ → Option (List ℕ)
grown None text = None
grown (Some xs) text = Some (xs ++ text)

grown_by : (old : Option (List ℕ)) (text : List ℕ) → Appends old (grown old text) text
unfolding grown
grown_by None text = tt
grown_by (Some xs) text = refl

grown_more : (old now : Option (List ℕ)) (front part whole : List ℕ) → whole ≡ front ++ part → Appends old now whole → Appends (grown old front) now part
unfolding grown
grown_more None now front part whole e h = tt
grown_more (Some xs) None front part whole e h = absurd h
grown_more (Some xs) (Some ys) front part whole e h = h ∙ ap (λ (l : List ℕ). xs ++ l) e ∙ sym (append_assoc xs front part)

-- the writer took a part of the text that holds an octet
held_part : {S : Type 0} (d : Dialogue S) (s : S) (k : ℕ) (lines more : List (List ℕ)) (text : List ℕ) (marks : List Mark) (t : S) (old now : Option (List ℕ)) (n : ℕ) (taken : ℕ)
    (h : Held d s k 0 lines text marks t taken) → n ≡ k + length h.before → Appends old now (take taken text)
    → WritesPart d h.reached n (h.line ∷ (h.after ++ more)) (grown old h.front) now
held_part {S} d s k lines more text marks t old now n taken h line_is cut =
    let count = taken - length h.front in
    let whole : take taken text ≡ h.front ++ take count h.here =
    (let e : taken ≡ length h.front + count = omega (arith, h.low) in
    ap (λ n. take n text) e ∙ ap (take (length h.front + count)) h.whole ∙ cut_front h.front h.here h.back count (omega (arith, h.low, h.high))) in (
      take count h.here,
      drop count h.here,
      grown_more old now h.front (take count h.here) (take taken text) whole cut,
      λ none. absurd (omega (arith, h.low, h.high, length-drop count h.here, ap length none)),
      (
        h.next,
        subst (λ (l : List ℕ). d.Replied h.reached n h.line l h.next) (sym (take-append-drop count h.here))
            (subst (λ n. d.Replied h.reached n h.line h.here h.next) (sym line_is) h.replied),
      ),
    )

-- the writer took all, up to the text that holds the last octet
held_last : {S : Type 0} (d : Dialogue S) (s : S) (k : ℕ) (lines : List (List ℕ)) (rest text : List ℕ) (marks : List Mark) (t : S) (old now : Option (List ℕ)) (n place : ℕ)
    (h : Held d s k 0 lines text marks t place) → n ≡ k + length h.before → length text ≡ place + 1 → Appends old now text
    → WritesLast d h.reached n (h.line ∷ (h.after ++ lines_of rest)) (Some rest) (grown old h.front) now
held_last {S} d s k lines rest text marks t old now n place h line_is last cut =
    let none : h.back ≡ [] =
    nil_from_length h.back (omega (arith, h.high, last, ap length h.whole, length-append h.front (h.here ++ h.back), length-append h.here h.back)) in
    let whole : text ≡ h.front ++ h.here =
    h.whole ∙ ap (λ (l : List ℕ). h.front ++ (h.here ++ l)) none ∙ ap (λ (l : List ℕ). h.front ++ l) (append-nil h.here) in (
      h.here,
      h.next,
      grown_more old now h.front h.here text whole cut,
      λ empty. absurd (omega (arith, h.low, h.high, ap length empty)),
      subst (λ n. d.Replied h.reached n h.line h.here h.next) (sym line_is) h.replied,
      (
        h.after,
        t,
        refl,
        subst (λ n. Replies d h.next (n + 1) h.after [] t) (sym line_is) (subst (λ (l : List ℕ). Replies d h.next (k + length h.before + 1) h.after l t) none h.later),
      ),
    )

-- The writer failed in what waits: the run ends at the line that the marks name.
pub ends_cut : {S : Type 0} (d : Dialogue S) (s : S) (k : ℕ) (lines : List (List ℕ)) (rest text : List ℕ) (marks : List Mark) (t : S) (f : Fault) (old now : Option (List ℕ))
    → Waits d s k 0 lines text marks t → IsCut text marks f old now → EndsFrom d s k (lines ++ lines_of rest) f (Some rest) old now
ends_cut {S} d s k lines rest text marks t f old now waits cut =
    let taken = cut.0 in
    let place = cut.1 in
    let h = held d s k 0 lines text marks t place waits (omega arith) (omega (arith, cut.5)) in
    let line_is : f.line ≡ k + length h.before = cut.6 ∙ h.named in
    let left = h.line ∷ (h.after ++ lines_of rest) in
    let kept : HeldSince d h.reached f.line kind.Write left (Some rest) (grown old h.front) now =
    elim (cases_lt taken (length text)) [
      | inl less ↦
          let same : place ≡ taken = cut.8 less in
          inl (held_part d s k lines (lines_of rest) text marks t old now f.line place h line_is (subst (λ n. Appends old now (take n text)) (sym same) cut.2))
      | inr all ↦
          let whole : take taken text ≡ text = take_all taken text all in
          inr (held_last d s k lines rest text marks t old now f.line place h line_is (omega (arith, all, cut.4, cut.5)) (subst (Appends old now) whole cut.2))
    ] in
    record {
      before = h.before;
      left = left;
      parted = ap (λ (l : List (List ℕ)). l ++ lines_of rest) h.parted ∙ append_assoc h.before (h.line ∷ h.after) (lines_of rest);
      number = line_is;
      then_held = grown old h.front;
      reached = h.reached;
      answered = (h.front, h.replies, grown_by old h.front);
      kept = subst (λ (w : FaultKind). HeldSince d h.reached f.line w left (Some rest) (grown old h.front) now) (sym cut.7) kept;
      reason = subst (λ (w : FaultKind). HasFault d h.reached f.line w left (Some rest)) (sym cut.7) (subst (λ n. HasPlace n h.line) (sym line_is) h.has, h.knows);
    }

-- The run ends at the line behind those that were answered.
pub ends_stop : {S : Type 0} (d : Dialogue S) (s : S) (k : ℕ) (lines left : List (List ℕ)) (text : List ℕ) (t : S) (f : Fault) (rest old now : Option (List ℕ))
    → Replies d s k lines text t → Appends old now text → f.line ≡ k + length lines → HeldSince d t f.line f.kind left rest now now → HasFault d t f.line f.kind left rest
    → EndsFrom d s k (lines ++ left) f rest old now
ends_stop d s k lines left text t f rest old now replies appends line kept reason = record {
  before = lines;
  left = left;
  parted = refl;
  number = line;
  then_held = now;
  reached = t;
  answered = (text, replies, appends);
  kept = kept;
  reason = reason;
}

-- ---- a search for the mark of a place

pub line_here : (marks : List Mark) (i place : ℕ) → i < length marks → line_of marks place ≡ line_of (drop i marks) place
    → place < (get_or marks i (record { line = 0; end = 0 })).end → (get_or marks i (record { line = 0; end = 0 })).line ≡ line_of marks place
line_here marks i place lt so_far near =
    let none : Mark = record { line = 0; end = 0 } in
    let parts = drop_more marks i none lt in
    let yes : nat_lt place (get_or marks i none).end ≡ true = grind (arith, nat_tests) in
    let first : line_of (get_or marks i none ∷ drop (i + 1) marks) place ≡ (get_or marks i none).line = rw yes refl in
    sym (so_far ∙ ap (λ (l : List Mark). line_of l place) parts ∙ first)

pub line_on : (marks : List Mark) (i place : ℕ) → i < length marks → line_of marks place ≡ line_of (drop i marks) place
    → (get_or marks i (record { line = 0; end = 0 })).end ≤ place → line_of marks place ≡ line_of (drop (i + 1) marks) place
line_on marks i place lt so_far far =
    let none : Mark = record { line = 0; end = 0 } in
    let parts = drop_more marks i none lt in
    let no : nat_lt place (get_or marks i none).end ≡ false = grind (arith, nat_tests) in
    let first : line_of (get_or marks i none ∷ drop (i + 1) marks) place ≡ line_of (drop (i + 1) marks) place = rw no refl in
    so_far ∙ ap (λ (l : List Mark). line_of l place) parts ∙ first

pub line_nowhere : (marks : List Mark) (i place : ℕ) → length marks ≤ i → line_of marks place ≡ line_of (drop i marks) place → 0 ≡ line_of marks place
line_nowhere marks i place past so_far = sym (so_far ∙ ap (λ (l : List Mark). line_of l place) (drop_all i marks past))

-- what the writer took, and then more of the text
pub taken_more : (old now later : Option (List ℕ)) (text : List ℕ) (n m : ℕ) → n ≤ length text → Appends old now (take n text) → Appends now later (take m (drop n text))
    → Appends old later (take (n + m) text)
taken_more old now later text n m le h k = subst (Appends old later) (sym (take-add n m text)) (Appends-trans old now later (take n text) (take m (drop n text)) h k)

-- ---- the front of octets

-- a whole line more
pub begins_more : (octets : List ℕ) (at n : ℕ) (lines : List (List ℕ)) (line : List ℕ) → BeginsWith octets at lines → Lacks 10 line
    → drop at octets ≡ line ++ 10 ∷ drop n octets → BeginsWith octets n (lines ++ line ∷ [])
begins_more octets at n lines line h lacks parts more =
    h more
    ∙ ap (λ (l : List (List ℕ)). lines ++ l) (ap (λ (l : List ℕ). lines_of (l ++ more)) parts ∙ ap lines_of (append_assoc line (10 ∷ drop n octets) more)
    ∙ lines_line line (drop n octets ++ more) lacks)
    ∙ sym (append_assoc lines (line ∷ []) (lines_of (drop n octets ++ more)))

pub begins_none : (octets : List ℕ) → BeginsWith octets 0 []
begins_none octets more = refl

-- what a search at the front finds
pub line_found : (octets : List ℕ) (m at : ℕ) → m ≤ 8001 → IsPlaceOf 10 (take m octets) (Some at) → IsFrontLine octets (take at (take m octets))
line_found octets m at small h =
    let near = take m octets in
    let line = take at near in
    let behind = drop (at + 1) near ++ drop m octets in
    let whole : octets ≡ line ++ 10 ∷ behind =
    sym (take-append-drop m octets) ∙ ap (λ (l : List ℕ). l ++ drop m octets) (around_place 10 near at h.1) ∙ append_assoc line (10 ∷ drop (at + 1) near) (drop m octets) in
    placed octets line behind whole h.0 (omega (arith, h.2, length-take-le at near (omega (arith, h.2)), length-take m octets))

-- a line more of those at the front
pub begins_front : (octets : List ℕ) (at : ℕ) (lines : List (List ℕ)) (line : List ℕ) → BeginsWith octets at lines → IsFrontLine (drop at octets) line
    → BeginsWith octets (at + (length line + 1)) (lines ++ line ∷ [])
begins_front octets at lines line h front =
    begins_more octets at (at + (length line + 1)) lines line h front.unbroken
    (front.parts ∙ ap (λ (l : List ℕ). line ++ 10 ∷ l) (drop-drop (length line + 1) at octets))

-- why the lines stop at a line, which is kept
pub front_stops : {S : Type 0} (d : Dialogue S) (u t : S) (octets kept : List ℕ) (n : ℕ) (w : FaultKind) → n ≤ 1000000 → FrontFails d u octets w
    → ((front : List ℕ) → IsFrontLine octets front → kept ≡ front) → StopsSo d u n octets kept (Some w) t
front_stops {S} d u t octets kept n w count fails is =
    let line = fails.1 in
    let at = fails.2 in
    let behind = drop (length line + 1) octets in
    subst (λ (l : List ℕ). StopsSo d u n octets l (Some w) t) (sym (is line at)) (
      fails.0,
      record { count = count; short = at.short },
      λ more. (lines_of (behind ++ more), ap (λ (l : List ℕ). lines_of (l ++ more)) at.parts ∙ ap lines_of (append_assoc line (10 ∷ behind) more) ∙ lines_line line (behind ++ more) at.unbroken),
      fails.3,
      fails.4,
    )

-- ---- what a reader has at hand

whole_of : (xs octets : List ℕ) → StartsWith xs octets → octets ++ drop (length octets) xs ≡ xs
whole_of xs octets h = ap (λ (l : List ℕ). l ++ drop (length octets) xs) (sym h) ∙ take-append-drop (length octets) xs

pub parted_front : (xs octets : List ℕ) (used : ℕ) (lines : List (List ℕ)) → StartsWith xs octets → BeginsWith octets used lines
    → lines_of xs ≡ lines ++ lines_of (drop used octets ++ drop (length octets) xs)
parted_front xs octets used lines h whole = ap lines_of (sym (whole_of xs octets h)) ∙ whole (drop (length octets) xs)

drop_front : (xs octets : List ℕ) (used : ℕ) → StartsWith xs octets → used ≤ length octets → drop used octets ++ drop (length octets) xs ≡ drop used xs
drop_front xs octets used h le =
    sym (drop-append-le used octets (drop (length octets) xs) le) ∙ ap (drop used) (whole_of xs octets h)

-- the reader lost the lines
pub hand_took : (left mid rest : Option (List ℕ)) (limit : Option ℕ) (octets : List ℕ) (used : ℕ) (lines : List (List ℕ)) → Keeps left mid
    → IfSome left (λ _. IfSome limit (λ n. length octets ≤ n)) → IfSome left (λ xs. StartsWith xs octets) → DropsConsumable mid rest limit used → used ≤ length octets
    → BeginsWith octets used lines → TakesLines lines left rest
hand_took None mid rest limit octets used lines kept within starts drops le whole = tt
hand_took (Some xs) None rest limit octets used lines kept within starts drops le whole = absurd kept
hand_took (Some xs) (Some ys) rest limit octets used lines kept within starts drops le whole =
    let room : IfSome limit (λ n. used ≤ n) = room_of limit within le in
    let now : rest ≡ Some (drop used xs) = drops room ∙ ap (λ (l : List ℕ). Some (drop used l)) kept in
    subst (TakesLines lines (Some xs)) (sym now) (parted_front xs octets used lines starts whole ∙ ap (λ (l : List ℕ). lines ++ lines_of l) (drop_front xs octets used starts le))
  where
    room_of : (limit : Option ℕ) → IfSome limit (λ n. length octets ≤ n) → used ≤ length octets → IfSome limit (λ n. used ≤ n)
    room_of None h le = tt
    room_of (Some n) h le = omega arith

-- nothing more could be read
pub hand_unread : {S : Type 0} (d : Dialogue S) (s : S) (first : ℕ) (left rest held : Option (List ℕ)) → Keeps left rest
    → IfSome left (λ input. EndsFrom d s first (lines_of input) (record { line = first; kind = kind.Read }) rest held held)
hand_unread d s first None rest held kept = tt
hand_unread d s first (Some xs) None held kept = absurd kept
hand_unread d s first (Some xs) (Some ys) held kept =
    ends_stop d s first [] (lines_of xs) [] s (record { line = first; kind = kind.Read }) (Some ys) held held (refl, refl) (Appends-nil held) (omega arith) (Keeps-refl held)
    ([], ap lines_of (sym kept), tt, omega arith)

-- the writer failed in the text of the lines that the reader lost
pub hand_cut : {S : Type 0} (d : Dialogue S) (s : S) (first : ℕ) (lines : List (List ℕ)) (text : List ℕ) (marks : List Mark) (t : S) (f : Fault) (left rest held now : Option (List ℕ))
    → Waits d s first 0 lines text marks t → IsCut text marks f held now → TakesLines lines left rest
    → IfSome left (λ input. EndsFrom d s first (lines_of input) f rest held now)
hand_cut d s first lines text marks t f None rest held now waits cut took = tt
hand_cut d s first lines text marks t f (Some xs) None held now waits cut took = absurd took
hand_cut {S} d s first lines text marks t f (Some xs) (Some ys) held now waits cut took =
    subst (λ (l : List (List ℕ)). EndsFrom d s first l f (Some ys) held now) (sym took) (ends_cut d s first lines ys text marks t f held now waits cut)

stop_fault : {S : Type 0} (d : Dialogue S) (u : S) (n : ℕ) (line : List ℕ) (rest : List (List ℕ)) (w : FaultKind) (reader : Option (List ℕ)) → IsOneOf w (kind.Line ∷ kind.Memory ∷ []) → HasPlace n line
    → (w ≡ kind.Line → d.Knows u line → ⊥) → (w ≡ kind.Memory → d.Knows u line) → HasFault d u n w (line ∷ rest) reader
stop_fault d u n line rest w reader (inl e) place bad memory = subst (λ (v : FaultKind). HasFault d u n v (line ∷ rest) reader) (sym e) (place, bad e)
stop_fault d u n line rest w reader (inr (inl e)) place bad memory = subst (λ (v : FaultKind). HasFault d u n v (line ∷ rest) reader) (sym e) (place, memory e)
stop_fault d u n line rest w reader (inr (inr none)) place bad memory = absurd none

stop_kept : {S : Type 0} (d : Dialogue S) (u : S) (n : ℕ) (w : FaultKind) (left : List (List ℕ)) (rest held : Option (List ℕ)) → IsOneOf w (kind.Line ∷ kind.Memory ∷ []) → HeldSince d u n w left rest held held
stop_kept d u n w left rest held (inl e) = subst (λ (v : FaultKind). HeldSince d u n v left rest held held) (sym e) (Keeps-refl held)
stop_kept d u n w left rest held (inr (inl e)) = subst (λ (v : FaultKind). HeldSince d u n v left rest held held) (sym e) (Keeps-refl held)
stop_kept d u n w left rest held (inr (inr none)) = absurd none

-- the line behind those that were obeyed has a fault
pub hand_stops : {S : Type 0} (d : Dialogue S) (s : S) (first : ℕ) (lines : List (List ℕ)) (text line : List ℕ) (u t : S) (n : ℕ) (w : FaultKind) (left rest held now : Option (List ℕ))
    (octets : List ℕ) (used : ℕ) → Replies d s first lines text u → n ≡ first + length lines → Appends held now text → BeginsWith octets used lines
    → StopsSo d u n (drop used octets) line (Some w) t → IfSome left (λ xs. StartsWith xs octets)
    → IfSome left (λ input. EndsFrom d s first (lines_of input) (record { line = n; kind = w }) rest held now)
hand_stops d s first lines text line u t n w None rest held now octets used replies next appends whole stops starts = tt
hand_stops {S} d s first lines text line u t n w (Some xs) rest held now octets used replies next appends whole stops starts =
    let f : Fault = record { line = n; kind = w } in
    let more = drop (length octets) xs in
    let found = stops.2 more in
    let parted : lines_of xs ≡ lines ++ line ∷ found.0 = parted_front xs octets used lines starts whole ∙ ap (λ (l : List (List ℕ)). lines ++ l) found.1 in
    subst (λ (l : List (List ℕ)). EndsFrom d s first l f rest held now) (sym parted)
    (ends_stop d s first lines (line ∷ found.0) text u f rest held now replies appends next (stop_kept d u n w (line ∷ found.0) rest now stops.0)
    (stop_fault d u n line found.0 w rest stops.0 stops.1 stops.3 stops.4))

-- ---- one line that was read

pub one_waits : {S : Type 0} (d : Dialogue S) (s t : S) (n : ℕ) (line text later : List ℕ) (marks more : List Mark) → text ≡ [] → marks ≡ [] → n ≤ 1000000 → length line ≤ 8000
    → AddsAnswer d s n line text marks later more t → Waits d s n 0 (line ∷ []) later more t
one_waits d s t n line text later marks more none no_marks count short added =
    waits_added d s n [] text later marks more s t line n (waits_none d s n text marks none no_marks) (omega arith) (record { count = count; short = short }) added

took_line : (line : List ℕ) (left rest : Option (List ℕ)) → TakesLine true line left rest → TakesLines (line ∷ []) left rest
took_line line None rest h = tt
took_line line (Some xs) None h = absurd h
took_line line (Some xs) (Some ys) h = h

pub one_obeyed : {S : Type 0} (d : Dialogue S) (s t : S) (n : ℕ) (line text : List ℕ) (marks : List Mark) (left rest held now : Option (List ℕ)) → TakesLine true line left rest
    → Waits d s n 0 (line ∷ []) text marks t → Appends held now text → AreObeyed d s n (n + 1) left rest held now t
one_obeyed d s t n line text marks left rest held now took waits appends =
    (line ∷ [], text, took_line line left rest took, waits_replies d s n 0 (line ∷ []) text marks t waits, omega arith, appends)

pub one_cut : {S : Type 0} (d : Dialogue S) (s t : S) (n : ℕ) (line text : List ℕ) (marks : List Mark) (f : Fault) (left rest held now : Option (List ℕ)) → TakesLine true line left rest
    → Waits d s n 0 (line ∷ []) text marks t → IsCut text marks f held now → IfSome left (λ input. EndsFrom d s n (lines_of input) f rest held now)
one_cut d s t n line text marks f left rest held now took waits cut = hand_cut d s n (line ∷ []) text marks t f left rest held now waits cut (took_line line left rest took)

pub one_stops : {S : Type 0} (d : Dialogue S) (s : S) (n : ℕ) (line : List ℕ) (w : FaultKind) (left rest held : Option (List ℕ)) → TakesLine true line left rest → n ≤ 1000000 → length line ≤ 8000
    → IsOneOf w (kind.Line ∷ kind.Memory ∷ []) → (w ≡ kind.Line → d.Knows s line → ⊥) → (w ≡ kind.Memory → d.Knows s line)
    → IfSome left (λ input. EndsFrom d s n (lines_of input) (record { line = n; kind = w }) rest held held)
one_stops d s n line w None rest held took count short one bad memory = tt
one_stops d s n line w (Some xs) None held took count short one bad memory = absurd took
one_stops {S} d s n line w (Some xs) (Some ys) held took count short one bad memory =
    let f : Fault = record { line = n; kind = w } in
    subst (λ (l : List (List ℕ)). EndsFrom d s n l f (Some ys) held held) (sym took)
    (ends_stop d s n [] (line ∷ lines_of ys) [] s f (Some ys) held held (refl, refl) (Appends-nil held) (omega arith) (stop_kept d s n w (line ∷ lines_of ys) (Some ys) held one)
    (stop_fault d s n line (lines_of ys) w (Some ys) one (record { count = count; short = short }) bad memory))

-- the line was not read whole
pub one_unread : {S : Type 0} (d : Dialogue S) (s : S) (n : ℕ) (w : FaultKind) (left rest held : Option (List ℕ)) → IsOneOf w (kind.Long ∷ kind.Read ∷ [])
    → (front : List ℕ) → (w ≡ kind.Long → IfSome left (BeginsLong front)) → (w ≡ kind.Read → TakesPart left rest)
    → IfSome left (λ input. EndsFrom d s n (lines_of input) (record { line = n; kind = w }) rest held held)
one_unread d s n w None rest held one front long read = tt
one_unread {S} d s n w (Some xs) rest held (inl e) front long read =
    let begins = long e in
    let reason : HasFault d s n kind.Long (lines_of xs) rest = subst (λ (l : List (List ℕ)). HasFault d s n kind.Long l rest) (sym begins.2) (inr begins.3) in
    subst (λ (v : FaultKind). EndsFrom d s n (lines_of xs) (record { line = n; kind = v }) rest held held) (sym e)
    (ends_stop d s n [] (lines_of xs) [] s (record { line = n; kind = kind.Long }) rest held held (refl, refl) (Appends-nil held) (omega arith) (Keeps-refl held) reason)
one_unread {S} d s n w (Some xs) None held (inr (inl e)) front long read = absurd (read e).1
one_unread {S} d s n w (Some xs) (Some ys) held (inr (inl e)) front long read =
    let part = read e in
    subst (λ (v : FaultKind). EndsFrom d s n (lines_of xs) (record { line = n; kind = v }) (Some ys) held held) (sym e)
    (ends_stop d s n [] (lines_of xs) [] s (record { line = n; kind = kind.Read }) (Some ys) held held (refl, refl) (Appends-nil held) (omega arith) (Keeps-refl held)
    (part.0, ap lines_of part.1, part.2, part.3))
one_unread d s n w (Some xs) rest held (inr (inr none)) front long read = absurd none

pub waits_kept : {S : Type 0} (d : Dialogue S) (s t : S) (k place : ℕ) (lines : List (List ℕ)) (text later : List ℕ) (marks more : List Mark)
    → Waits d s k place lines text marks t → later ≡ text → more ≡ marks → Waits d s k place lines later more t
waits_kept {S} d s t k place lines text later marks more h e f =
    subst (λ (l : List ℕ). Waits d s k place lines l more t) (sym e) (subst (λ (l : List Mark). Waits d s k place lines text l t) (sym f) h)

-- what a reader shows it can lose
pub fill_within : {E : Type 0} (old : Option (List ℕ)) (limit : Option ℕ) (r : Result (Bor (List ℕ)) E) (s : Bor (List ℕ)) → r ≡ Ok s
    → IfSome old (λ _. IfOk r (λ b. IfSome limit (λ n. length b.now ≤ n))) → IfSome old (λ _. IfSome limit (λ n. length s.now ≤ n))
fill_within {E} old limit r s e h = subst (λ (v : Result (Bor (List ℕ)) E). IfSome old (λ _. IfOk v (λ b. IfSome limit (λ n. length b.now ≤ n)))) e h

-- a line with a text has a mark
pub marked_there : (number end : ℕ) (text : List ℕ) → 0 < length text
    → marked number end text [] ≡ record { line = number; end = end } ∷ []
marked_there number end [] some = absurd (omega (arith, some))
marked_there number end (b ∷ bs) some = refl
