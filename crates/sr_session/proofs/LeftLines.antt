-- The line that ended a run, at each part of it.
use Rattle.std.proofs.Common.{◌≡◌, ℕ, zero, suc, true, ◌+◌, ◌<◌, Option, None, Some, List, [], ◌∷◌, ◌++◌, length, take, drop, sym, ap, refl, subst, ◌∙◌, arith, append_assoc, length-append, inl, inr}
use Rattle.std.specs.Prelude.{IfSome}
use Rattle.std.specs.Io.{StartsWith}
use Rattle.sr_session.specs.declared.fault.FaultKind.{FaultKind}
use Rattle.sr_session.specs.declared.fault.FaultKind.TheVariants as kind
use Rattle.sr_session.specs.Fronts.{IsFrontLine}
use Rattle.sr_session.specs.LeftLines.{IsLineAt, IsLeftBy}
use Rattle.sr_session.specs.Lines.{lines_of, IsOneOf, BeginsLong, TakesLine}
use Rattle.sr_session.specs.Octets.{Lacks, IsPlaceOf}
use Rattle.sr_session.specs.OctetLemmas.{one_place, no_place}
use Rattle.sr_session.specs.Runs.{Dialogue}
use Rattle.sr_session.specs.Turns.{StopsSo, BeginsWith}
use Rattle.sr_session.proofs.Going.{Going}
use Rattle.sr_session.proofs.WaitingTexts.{parted_front}

-- of one line, and some behind it, it is the first
line_first : (n : ℕ) (line : List ℕ) (lines : List (List ℕ)) → IsLineAt n (line ∷ lines) n line
line_first n line lines = record { before = []; behind = lines; parted = refl; count = omega arith }

-- behind lines that are ahead of the others
line_behind : (first n number : ℕ) (before lines : List (List ℕ)) (line : List ℕ) → n ≡ first + length before → IsLineAt n lines number line
    → IsLineAt first (before ++ lines) number line
line_behind first n number before lines line at h = record {
  before = before ++ h.before;
  behind = h.behind;
  parted = ap (λ (l : List (List ℕ)). before ++ l) h.parted ∙ sym (append_assoc before h.before (line ∷ h.behind));
  count = omega (arith, h.count, at, length-append before h.before);
}

left_behind : (w : FaultKind) (first n number : ℕ) (before lines : List (List ℕ)) (left : List ℕ) → n ≡ first + length before → IsLeftBy w n lines number left
    → IsLeftBy w first (before ++ lines) number left
left_behind kind.Line first n number before lines left at h = line_behind first n number before lines left at h
left_behind kind.Long first n number before lines left at (inl far) = inl far
left_behind kind.Long first n number before lines left at (inr h) = inr (h.0, line_behind first n number before lines h.0 at h.1, h.2)
left_behind kind.Read first n number before lines left at h = tt
left_behind kind.Write first n number before lines left at h = tt
left_behind kind.Memory first n number before lines left at h = tt

-- among the lines that are left
pub left_later : {S : Type 0} (d : Dialogue S) (start : S) (left mid held now : Option (List ℕ)) (s : S) (n : ℕ) (w : FaultKind) (number : ℕ) (line : List ℕ)
    → Going d start left mid held now s n → IfSome mid (λ input. IsLeftBy w n (lines_of input) number line)
    → IfSome left (λ input. IsLeftBy w 1 (lines_of input) number line)
left_later d start None mid held now s n w number line h k = tt
left_later d start (Some xs) None held now s n w number line h k = absurd h
left_later d start (Some xs) (Some ys) held now s n w number line h k =
    subst (λ (l : List (List ℕ)). IsLeftBy w 1 l number line) (sym h.2) (left_behind w 1 n number h.0 (lines_of ys) line (omega (arith, h.3)) k)

-- of a fault that no line has
pub left_alone : (w : FaultKind) (read : Option (List ℕ)) (first number : ℕ) (line : List ℕ) → IsOneOf w (kind.Write ∷ kind.Memory ∷ [])
    → IfSome read (λ input. IsLeftBy w first (lines_of input) number line)
left_alone w None first number line one = tt
left_alone w (Some xs) first number line (inl e) = subst (λ (v : FaultKind). IsLeftBy v first (lines_of xs) number line) (sym e) tt
left_alone w (Some xs) first number line (inr (inl e)) = subst (λ (v : FaultKind). IsLeftBy v first (lines_of xs) number line) (sym e) tt
left_alone w (Some xs) first number line (inr (inr none)) = absurd none

pub unread_alone : (read : Option (List ℕ)) (first number : ℕ) (line : List ℕ) → IfSome read (λ input. IsLeftBy kind.Read first (lines_of input) number line)
unread_alone None first number line = tt
unread_alone (Some xs) first number line = tt

-- of a line behind the last that a script may have
pub behind_left : (read : Option (List ℕ)) (number : ℕ) (line : List ℕ) → 1000000 < number → IfSome read (λ input. IsLeftBy kind.Long 1 (lines_of input) number line)
behind_left None number line far = tt
behind_left (Some xs) number line far = inl far

-- of a line that a fault stops
stopped : (w : FaultKind) (n : ℕ) (line : List ℕ) (lines : List (List ℕ)) → IsOneOf w (kind.Line ∷ kind.Memory ∷ []) → IsLeftBy w n (line ∷ lines) n line
stopped w n line lines (inl e) = subst (λ (v : FaultKind). IsLeftBy v n (line ∷ lines) n line) (sym e) (line_first n line lines)
stopped w n line lines (inr (inl e)) = subst (λ (v : FaultKind). IsLeftBy v n (line ∷ lines) n line) (sym e) tt
stopped w n line lines (inr (inr none)) = absurd none

-- the line behind those that were obeyed
pub hand_left : {S : Type 0} (d : Dialogue S) (u t : S) (first n : ℕ) (w : FaultKind) (lines : List (List ℕ)) (line octets : List ℕ) (used : ℕ) (left : Option (List ℕ))
    → n ≡ first + length lines → BeginsWith octets used lines → StopsSo d u n (drop used octets) line (Some w) t → IfSome left (λ xs. StartsWith xs octets)
    → IfSome left (λ input. IsLeftBy w first (lines_of input) n line)
hand_left d u t first n w lines line octets used None next whole stops starts = tt
hand_left d u t first n w lines line octets used (Some xs) next whole stops starts =
    let found = stops.2 (drop (length octets) xs) in
    let parted : lines_of xs ≡ lines ++ line ∷ found.0 = parted_front xs octets used lines starts whole ∙ ap (λ (l : List (List ℕ)). lines ++ l) found.1 in
    subst (λ (l : List (List ℕ)). IsLeftBy w first l n line) (sym parted) (left_behind w first n n lines (line ∷ found.0) line next (stopped w n line found.0 stops.0))

-- a line that was read
pub one_left : (w : FaultKind) (n : ℕ) (line : List ℕ) (left rest : Option (List ℕ)) → TakesLine true line left rest → IsOneOf w (kind.Line ∷ kind.Memory ∷ [])
    → IfSome left (λ input. IsLeftBy w n (lines_of input) n line)
one_left w n line None rest took one = tt
one_left w n line (Some xs) None took one = absurd took
one_left w n line (Some xs) (Some ys) took one = subst (λ (l : List (List ℕ)). IsLeftBy w n l n line) (sym took) (stopped w n line (lines_of ys) one)

-- a line that was not read whole
pub part_left : (w : FaultKind) (n : ℕ) (front : List ℕ) (left : Option (List ℕ)) → IsOneOf w (kind.Long ∷ kind.Read ∷ []) → (w ≡ kind.Long → IfSome left (BeginsLong front))
    → IfSome left (λ input. IsLeftBy w n (lines_of input) n front)
part_left w n front None one long = tt
part_left w n front (Some xs) (inl e) long =
    let begins = long e in
    let at : IsLineAt n (lines_of xs) n begins.0 = subst (λ (l : List (List ℕ)). IsLineAt n l n begins.0) (sym begins.2) (line_first n begins.0 begins.1) in
    subst (λ (v : FaultKind). IsLeftBy v n (lines_of xs) n front) (sym e) (inr (begins.0, at, begins.4))
part_left w n front (Some xs) (inr (inl e)) long = subst (λ (v : FaultKind). IsLeftBy v n (lines_of xs) n front) (sym e) tt
part_left w n front (Some xs) (inr (inr none)) long = absurd none

-- the front of octets that goes on behind a line's end
take_past : (line behind : List ℕ) (m : ℕ) → length line < m → (rest : List ℕ) × (take m (line ++ 10 ∷ behind) ≡ line ++ 10 ∷ rest)
take_past [] behind zero lt = absurd (omega (arith, lt))
take_past [] behind (suc m) lt = (take m behind, refl)
take_past (b ∷ bs) behind zero lt = absurd (omega (arith, lt))
take_past (b ∷ bs) behind (suc m) lt =
    let more = take_past bs behind m (omega (arith, lt)) in
    (more.0, ap (λ (l : List ℕ). b ∷ l) more.1)

-- no line is at the front where no LF is found
pub no_line : (octets line : List ℕ) (m : ℕ) → IsPlaceOf 10 (take m octets) None → IsFrontLine octets line → length line < m → ⊥
no_line octets line m none at lt =
    let past = take_past line (drop (length line + 1) octets) m lt in
    no_place 10 line past.0 (subst (Lacks 10) (ap (take m) at.parts ∙ past.1) none)

-- one line is at the front of octets
pub one_line : (octets line other : List ℕ) → IsFrontLine octets line → IsFrontLine octets other → line ≡ other
one_line octets line other at also =
    (one_place 10 line (drop (length line + 1) octets) other (drop (length other + 1) octets) at.unbroken also.unbroken (sym at.parts ∙ also.parts)).0
