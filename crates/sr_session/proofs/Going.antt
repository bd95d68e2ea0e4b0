-- A run that is part of the way through its script.
use Rattle.std.proofs.Common.{◌≡◌, ◌≢◌, ℕ, ◌+◌, ◌<◌, Bool, true, false, cond, eqb, List, [], ◌∷◌, ◌++◌, length, Option, Some, None, sym, ap, refl, subst, ◌∙◌, arith, append_assoc, inl, inr}
use Rattle.std.specs.Prelude.{IfSome}
use Rattle.std.specs.Io.KnownBytes.{Appends, IsAtEnd, Keeps}
use Rattle.std.proofs.KnownBytes.{Appends-nil, Appends-trans, Appends-kept, Keeps-refl}
use Rattle.std.proofs.lemmas.List.{append-nil, length-append}
use Rattle.sr_session.specs.declared.fault.Fault.{Fault}
use Rattle.sr_session.specs.declared.fault.FaultKind.{FaultKind}
use Rattle.sr_session.specs.declared.fault.FaultKind.TheVariants as kind
use Rattle.sr_session.specs.Lines.{lines_of, before_first_line, IsOneOf}
use Rattle.sr_session.specs.Runs.{Dialogue, Replies, HasFault, HeldSince, EndsAt, EndsFrom}
use Rattle.sr_session.specs.Turns.{Turned, AreObeyed, AllAnswered}

-- the lines that were read are answered, and line n is next
abbrev pub Going : {S : Type 0} → Dialogue S → S → Option (List ℕ) → Option (List ℕ) → Option (List ℕ) → Option (List ℕ) → S → ℕ → Type 0
Going d start None left held now s n = Unit {0}
Going d start (Some xs) None held now s n = ⊥
Going d start (Some xs) (Some ys) held now s n = (before : List (List ℕ)) × (text : List ℕ) × (lines_of xs ≡ before ++ lines_of ys)
    × (n ≡ length before + 1) × Replies d start 1 before text s × Appends held now text

pub going_from : {S : Type 0} (d : Dialogue S) (start : S) (left held : Option (List ℕ)) → Going d start left left held held start 1
going_from d start None held = tt
going_from d start (Some xs) held = ([], [], refl, omega arith, (refl, refl), Appends-nil held)

-- answers to some lines, and then to others
replies_append : {S : Type 0} (d : Dialogue S) (s : S) (k : ℕ) (lines : List (List ℕ)) (text : List ℕ) (u : S) (others : List (List ℕ)) (more : List ℕ) (t : S)
    → Replies d s k lines text u → Replies d u (k + length lines) others more t → Replies d s k (lines ++ others) (text ++ more) t
replies_append {S} d s k [] text u others more t h r =
    let e : text ≡ [] = h.0 in
    let here : k + length {A = List ℕ} [] ≡ k = omega arith in
    let first : Replies d s k others more t = subst (λ n. Replies d s n others more t) here (subst (λ (v : S). Replies d v (k + length {A = List ℕ} []) others more t) h.1 r) in
    rw e first
replies_append d s k (l ∷ ls) text u others more t h r =
    let e : k + length (l ∷ ls) ≡ k + 1 + length ls = omega arith in
    let rest = replies_append d h.1 (k + 1) ls h.2 u others more t h.5 (subst (λ n. Replies d u n others more t) e r) in
    (h.0, h.1, h.2 ++ more, h.3, h.4, rest, ap (λ (x : List ℕ). x ++ more) h.6 ∙ append_assoc h.0 h.2 more)

-- lines more are answered
pub going_more : {S : Type 0} (d : Dialogue S) (start : S) (left mid rest held now later : Option (List ℕ)) (s t : S) (n m : ℕ)
    → Going d start left mid held now s n → AreObeyed d s n m mid rest now later t → Going d start left rest held later t m
going_more d start None mid rest held now later s t n m h k = tt
going_more d start (Some xs) None rest held now later s t n m h k = absurd h
going_more d start (Some xs) (Some ys) None held now later s t n m h k = absurd k.2
going_more d start (Some xs) (Some ys) (Some zs) held now later s t n m h k =
    let lines = k.0 in
    let whole : lines_of xs ≡ (h.0 ++ lines) ++ lines_of zs =
    h.2 ∙ ap (λ (l : List (List ℕ)). h.0 ++ l) k.2 ∙ sym (append_assoc h.0 lines (lines_of zs)) in
    let here : n ≡ 1 + length h.0 = omega (arith, h.3) in (
      h.0 ++ lines,
      h.1 ++ k.1,
      whole,
      omega (arith, h.3, k.4, length-append h.0 lines),
      replies_append d start 1 h.0 h.1 s lines k.1 t h.4 (subst (λ i. Replies d s i lines k.1 t) here k.3),
      Appends-trans held now later h.1 k.1 h.5 k.5,
    )

-- nothing is left to read
answered_whole : {S : Type 0} (d : Dialogue S) (start : S) (xs ys : List ℕ) (held now : Option (List ℕ)) (s : S) (n : ℕ)
    → Going d start (Some xs) (Some ys) held now s n → lines_of ys ≡ [] → AllAnswered d start (lines_of xs) held now s n
answered_whole d start xs ys held now s n h none =
    let whole : lines_of xs ≡ h.0 = h.2 ∙ ap (λ (l : List (List ℕ)). h.0 ++ l) none ∙ append-nil h.0 in
    (h.1, subst (λ (l : List (List ℕ)). Replies d start 1 l h.1 s) (sym whole) h.4, h.3 ∙ ap (λ (l : List (List ℕ)). length l + 1) (sym whole), h.5)

pub whole_at_end : {S : Type 0} (d : Dialogue S) (start : S) (left mid rest held now later : Option (List ℕ)) (s t : S) (n : ℕ)
    → Going d start left mid held now s n → Turned d false n mid rest now later s t → IfSome left (λ input. AllAnswered d start (lines_of input) held later t n)
whole_at_end d start None mid rest held now later s t n h k = tt
whole_at_end d start (Some xs) None rest held now later s t n h k = absurd h
whole_at_end d start (Some xs) (Some ys) None held now later s t n h k = absurd k.1
whole_at_end {S} d start (Some xs) (Some ys) (Some zs) held now later s t n h k =
    let all = answered_whole d start xs ys held now s n h k.1 in
    (all.0, subst (λ (v : S). Replies d start 1 (lines_of xs) all.0 v) (sym k.3) all.1, all.2, Appends-kept held now later all.0 all.3 k.2)

pub whole_at_limit : {S : Type 0} (d : Dialogue S) (start : S) (left mid held now : Option (List ℕ)) (s : S) (n m : ℕ) → n ≡ m
    → Going d start left mid held now s n → IsAtEnd mid → IfSome left (λ input. AllAnswered d start (lines_of input) held now s m)
whole_at_limit d start None mid held now s n m e h k = tt
whole_at_limit d start (Some xs) None held now s n m e h k = absurd h
whole_at_limit d start (Some xs) (Some ys) held now s n m e h k =
    subst (λ i. AllAnswered d start (lines_of xs) held now s i) e (answered_whole d start xs ys held now s n h (ap lines_of k))

-- the run ends at line n
ends_here : {S : Type 0} (d : Dialogue S) (start : S) (xs ys : List ℕ) (rest held now later : Option (List ℕ)) (s : S) (f : Fault)
    → Going d start (Some xs) (Some ys) held now s f.line → HeldSince d s f.line f.kind (lines_of ys) rest now later → HasFault d s f.line f.kind (lines_of ys) rest
    → EndsAt d start (lines_of xs) f rest held later
ends_here d start xs ys rest held now later s f h kept reason = record {
  before = h.0;
  left = lines_of ys;
  parted = h.2;
  number = omega (arith, h.3);
  then_held = now;
  reached = s;
  answered = (h.1, h.4, h.5);
  kept = kept;
  reason = reason;
}

-- the run ends among the lines that are left
pub ends_later : {S : Type 0} (d : Dialogue S) (start : S) (left mid rest held now later : Option (List ℕ)) (s : S) (n : ℕ) (f : Fault)
    → Going d start left mid held now s n → IfSome mid (λ input. EndsFrom d s n (lines_of input) f rest now later)
    → IfSome left (λ input. EndsAt d start (lines_of input) f rest held later)
ends_later d start None mid rest held now later s n f h k = tt
ends_later d start (Some xs) None rest held now later s n f h k = absurd h
ends_later d start (Some xs) (Some ys) rest held now later s n f h k =
    let here : n ≡ 1 + length h.0 = omega (arith, h.3) in
    let all = k.answered in
    record {
      before = h.0 ++ k.before;
      left = k.left;
      parted = h.2 ∙ ap (λ (l : List (List ℕ)). h.0 ++ l) k.parted ∙ sym (append_assoc h.0 k.before k.left);
      number = omega (arith, h.3, k.number, length-append h.0 k.before);
      then_held = k.then_held;
      reached = k.reached;
      answered = (
        h.1 ++ all.0,
        replies_append d start 1 h.0 h.1 s k.before all.0 k.reached h.4 (subst (λ i. Replies d s i k.before all.0 k.reached) here all.1),
        Appends-trans held now k.then_held h.1 all.0 h.5 all.2,
      );
      kept = k.kept;
      reason = k.reason;
    }

-- there is a line more than a script may have
some_line : {S : Type 0} (d : Dialogue S) (s : S) (ys : List ℕ) (rest : Option (List ℕ)) → ys ≢ [] → (n : ℕ) → 1000000 < n → HasFault d s n kind.Long (lines_of ys) rest
some_line d s [] rest more n large = absurd (more refl)
some_line d s (b ∷ bs) rest more n large = by_octet (eqb b 10) (lines_of bs)
  where
    by_octet : (is : Bool) (ls : List (List ℕ)) → HasFault d s n kind.Long (cond is ([] ∷ ls) (before_first_line b ls)) rest
    by_octet true ls = inl large
    by_octet false [] = inl large
    by_octet false (l ∷ ls) = inl large

pub ends_too_many : {S : Type 0} (d : Dialogue S) (start : S) (left mid rest held now : Option (List ℕ)) (s : S) (n : ℕ) (f : Fault) → n ≡ f.line
    → 1000000 < f.line → f.kind ≡ kind.Long → Going d start left mid held now s n → IfSome mid (λ octets. octets ≢ [])
    → IfSome left (λ input. EndsAt d start (lines_of input) f rest held now)
ends_too_many d start None mid rest held now s n f same large is h more = tt
ends_too_many d start (Some xs) None rest held now s n f same large is h more = absurd h
ends_too_many d start (Some xs) (Some ys) rest held now s n f same large is h more =
    ends_here d start xs ys rest held now now s f (subst (λ (m : ℕ). Going d start (Some xs) (Some ys) held now s m) same h)
    (subst (λ (w : FaultKind). HeldSince d s f.line w (lines_of ys) rest now now) (sym is) (Keeps-refl now))
    (subst (λ (w : FaultKind). HasFault d s f.line w (lines_of ys) rest) (sym is) (some_line d s ys rest more f.line large))

-- the reader fails where no line more may be read
pub ends_unread : {S : Type 0} (d : Dialogue S) (start : S) (left mid rest held now : Option (List ℕ)) (s : S) (n : ℕ) (f : Fault) → n ≡ f.line
    → f.kind ≡ kind.Read → Going d start left mid held now s n → Keeps mid rest → IfSome left (λ input. EndsAt d start (lines_of input) f rest held now)
ends_unread d start None mid rest held now s n f same is h k = tt
ends_unread d start (Some xs) None rest held now s n f same is h k = absurd h
ends_unread d start (Some xs) (Some ys) None held now s n f same is h k = absurd k
ends_unread d start (Some xs) (Some ys) (Some zs) held now s n f same is h k =
    ends_here d start xs ys (Some zs) held now now s f (subst (λ (m : ℕ). Going d start (Some xs) (Some ys) held now s m) same h)
    (subst (λ (w : FaultKind). HeldSince d s f.line w (lines_of ys) (Some zs) now now) (sym is) (Keeps-refl now))
    (subst (λ (w : FaultKind). HasFault d s f.line w (lines_of ys) (Some zs)) (sym is) ([], ap lines_of (sym k), tt, omega arith))

-- the run ends behind its lines
pub ends_behind : {S : Type 0} (d : Dialogue S) (start : S) (left rest held now later : Option (List ℕ)) (t : S) (f : Fault)
    → IfSome left (λ input. AllAnswered d start (lines_of input) held now t f.line) → HeldSince d t f.line f.kind [] rest now later → HasFault d t f.line f.kind [] rest
    → IfSome left (λ input. EndsAt d start (lines_of input) f rest held later)
ends_behind d start None rest held now later t f h kept reason = tt
ends_behind d start (Some xs) rest held now later t f h kept reason = record {
  before = lines_of xs;
  left = [];
  parted = sym (append-nil (lines_of xs));
  number = omega (arith, h.2);
  then_held = now;
  reached = t;
  answered = (h.0, h.1, h.3);
  kept = kept;
  reason = reason;
}

-- of a write or of memory
pub behind_fault : {S : Type 0} (d : Dialogue S) (t : S) (n : ℕ) (w : FaultKind) (rest : Option (List ℕ)) → IsOneOf w (kind.Write ∷ kind.Memory ∷ []) → HasFault d t n w [] rest
behind_fault d t n w rest (inl e) = subst (λ (v : FaultKind). HasFault d t n v [] rest) (sym e) tt
behind_fault d t n w rest (inr (inl e)) = subst (λ (v : FaultKind). HasFault d t n v [] rest) (sym e) tt
behind_fault d t n w rest (inr (inr none)) = absurd none
