-- What is listed of a number by what is kept of it is the line of that number.
use Rattle.std.proofs.Common.{◌≡◌, ℕ, zero, suc, ◌+◌, Bool, true, false, cond, ◌||◌, ◌&&◌, not, List, [], ◌∷◌, ℤ, pos, refl, sym, ap, ◌∙◌}
use Rattle.std.specs.Prelude.{sum_by, ◌+ℤ◌, ◌-ℤ◌, ◌<ℤ◌, ◌≤ℤ◌, int_lt}
use Rattle.std.specs.Ordering.{int_eq}
use Rattle.std.proofs.lemmas.List.Sums.{sum_by-append}
use Rattle.sr_frame.specs.declared.fields.Mac.{Mac}
use Rattle.sr_sequence.specs.Numbers.{wire}
use Rattle.sr_sequence.specs.declared.Seq.{Seq}
use Rattle.sr_audit.specs.declared.listing.Copied.{Copied}
use Rattle.sr_audit.specs.declared.listing.Listed.{Listed}
use Rattle.sr_audit.specs.declared.listing.Listed.TheVariants.{Lost, Pair, Neither}
use Rattle.sr_audit.specs.declared.pending.Pending.{Pending}
use Rattle.sr_audit.specs.declared.side.Side.{Side}
use Rattle.sr_audit.specs.declared.side.Side.TheVariants.{A, B}
use Rattle.sr_audit.specs.declared.span.Spans.{Spans}
use Rattle.sr_audit.specs.Edges.{first_time, is_beyond, KeepsTimes}
use Rattle.sr_audit.specs.Extents.{bottom_number}
use Rattle.sr_audit.specs.Fates.{fate_if, TellsFates}
use Rattle.sr_audit.specs.Lanes.{other_side}
use Rattle.sr_audit.specs.Listings.{time_kept, packet_kept, copy_kept, listed_if_lost, settled_as, listed_of}
use Rattle.sr_audit.specs.Stretches.{Placed, same_side, came, top_number}
use Rattle.sr_audit.proofs.FrameLemmas.{came-other, first_other}
use Rattle.sr_laws_audit.specs.Lists.{first_time_at, first_packet_at, first_copy_at, is_in_stretch, reach_time, line_as, number_line, number_lines}
use Rattle.sr_laws_audit.specs.Outcomes.{Outcome, Paired, OnlyA, OnlyB, EdgeA, EdgeB, Neither as OfNone, outcome_if, outcome_of, numbers_from}
use Rattle.sr_laws_audit.proofs.OutcomeLemmas.{some}
use Rattle.sr_laws_audit.proofs.TotalLemmas.{total, total_zero, total_suc}

-- the packet of the first copy of a frame, at whatever side
abbrev pub first_packet : ℤ → List Placed → List Copied → ℕ
first_packet n [] copies = 0
first_packet n (y ∷ before) [] = 0
first_packet n (y ∷ before) (x ∷ copies) = cond (int_eq n y.number && not (some before n)) x.packet (first_packet n before copies)

-- a frame that came by one side alone came first there
or_second : (a b : Bool) → (a || b) ≡ false → b ≡ false
or_second false b e = e
or_second true b e = let no : true ≡ false = e in absurd cc

only_if : (e : Bool) (side own : Side) (a b : Bool) (t u v : ℕ) → ((e && same_side (other_side side) own) || b) ≡ false → u ≡ v →
    cond (e && not (a || b)) t u ≡ cond ((e && same_side side own) && not a) t v
only_if false side own a b t u v none same = same
only_if true A A true b t u v none same = same
only_if true A A false false t u v none same = refl
only_if true A A false true t u v none same = let no : true ≡ false = none in absurd cc
only_if true A B a b t u v none same = let no : true ≡ false = none in absurd cc
only_if true B A a b t u v none same = let no : true ≡ false = none in absurd cc
only_if true B B true b t u v none same = same
only_if true B B false false t u v none same = refl
only_if true B B false true t u v none same = let no : true ≡ false = none in absurd cc

or_swap : (a b : Bool) → (a || b) ≡ (b || a)
or_swap true true = refl
or_swap true false = refl
or_swap false true = refl
or_swap false false = refl

-- a copy came, by a side and the other one
some_by : (side : Side) (n : ℤ) (s : List Placed) → some s n ≡ (came side n s || came (other_side side) n s)
some_by A n s = refl
some_by B n s = or_swap (came A n s) (came B n s)

pub only_time : (side : Side) (n : ℤ) (s : List Placed) → came (other_side side) n s ≡ false → first_time n s ≡ first_time_at side n s
only_time side n [] none = refl
only_time side n (y ∷ before) none =
    ap (λ b. cond (int_eq n y.number && not b) y.time (first_time n before)) (some_by side n before)
    ∙ only_if (int_eq n y.number) side y.side (came side n before) (came (other_side side) n before) y.time (first_time n before)
    (first_time_at side n before) none
    (only_time side n before (or_second (int_eq n y.number && same_side (other_side side) y.side) (came (other_side side) n before) none))

pub only_packet : (side : Side) (n : ℤ) (s : List Placed) (copies : List Copied) → came (other_side side) n s ≡ false →
    first_packet n s copies ≡ first_packet_at side n s copies
only_packet side n [] copies none = refl
only_packet side n (y ∷ before) [] none = refl
only_packet side n (y ∷ before) (x ∷ copies) none =
    ap (λ b. cond (int_eq n y.number && not b) x.packet (first_packet n before copies)) (some_by side n before)
    ∙ only_if (int_eq n y.number) side y.side (came side n before) (came (other_side side) n before) x.packet (first_packet n before copies)
    (first_packet_at side n before copies) none
    (only_packet side n before copies (or_second (int_eq n y.number && same_side (other_side side) y.side) (came (other_side side) n before) none))

-- what is kept of the last numbers of a stretch, beside their fates and times: the packets of first copies, and when numbers of no frame
-- came to lie in it
pub record KeepsLines (s : List Placed) (copies : List Copied) (p : Pending) : Type 0 where
  pub packets : (n : ℤ) → some s n ≡ true → (top_number s -ℤ pos 1024) <ℤ n → packet_kept p (wire n) ≡ first_packet n s copies
  pub passed : (n : ℤ) → some s n ≡ false → is_in_stretch n s ≡ true → (top_number s -ℤ pos 1024) <ℤ n → time_kept p (wire n) ≡ reach_time n s

-- how much a number has of what is told, and of what waits of it
abbrev pub told : Spans → Mac → (Listed → ℕ) → List Placed → List Copied → ℤ → ℕ
told spans src f s copies n = sum_by f (number_line spans src s copies n)

abbrev pub waits_if : Bool → Bool → Bool → ℕ → ℕ
waits_if true true low v = 0
waits_if true false low v = v
waits_if false true low v = v
waits_if false false low v = cond low 0 v

abbrev pub waits : Spans → Mac → (Listed → ℕ) → List Placed → List Copied → ℤ → ℕ
waits spans src f s copies n = waits_if (came A n s) (came B n s) (int_lt n (bottom_number s)) (told spans src f s copies n)

-- a frame that came by one side alone
alone_a : (spans : Spans) (src : Mac) (n : ℤ) (s : List Placed) (copies : List Copied) (u v : Bool) →
    cond v [] (Lost (first_copy_at src A n s copies) ∷ []) ≡ line_as (outcome_if true false u v) src n s copies
alone_a spans src n s copies u true = refl
alone_a spans src n s copies u false = refl

alone_b : (spans : Spans) (src : Mac) (n : ℤ) (s : List Placed) (copies : List Copied) (u v : Bool) →
    cond u [] (Lost (first_copy_at src B n s copies) ∷ []) ≡ line_as (outcome_if false true u v) src n s copies
alone_b spans src n s copies true v = refl
alone_b spans src n s copies false v = refl

-- the copy that is kept
pub kept_copy : (p : Pending) (src : Mac) (side : Side) (n : ℤ) (s : List Placed) (copies : List Copied) →
    time_kept p (wire n) ≡ first_time_at side n s → packet_kept p (wire n) ≡ first_packet_at side n s copies →
    copy_kept p src (record { 0 = wire n }) side ≡ first_copy_at src side n s copies
kept_copy p src side n s copies time packet = λ i. record {
  src = src;
  arrival = record { side = side; seq = record { 0 = wire n }; time = time i };
  packet = packet i;
}

-- the line of a number, by which copies came
pub line_if : (spans : Spans) (src : Mac) (s : List Placed) (copies : List Copied) (n : ℤ) (a b : Bool) → came A n s ≡ a → came B n s ≡ b →
    number_line spans src s copies n ≡ line_as (outcome_if a b (is_beyond spans A (first_time n s)) (is_beyond spans B (first_time n s))) src n s copies
line_if spans src s copies n a b is_a is_b =
    ap (λ t. line_as (outcome_if t (came B n s) (is_beyond spans A (first_time n s)) (is_beyond spans B (first_time n s))) src n s copies) is_a
    ∙ ap (λ t. line_as (outcome_if a t (is_beyond spans A (first_time n s)) (is_beyond spans B (first_time n s))) src n s copies) is_b

-- of a number of the last 1024, what is listed if no further copy counts is what waits
pub listed_is : (spans : Spans) (src : Mac) (f : Listed → ℕ) (s : List Placed) (copies : List Copied) (p : Pending) (n : ℤ) → TellsFates s p →
    KeepsTimes s p.times.items → KeepsLines s copies p → (top_number s -ℤ pos 1024) <ℤ n → n ≤ℤ top_number s →
    (int_lt n (bottom_number s) ≡ false → is_in_stretch n s ≡ true) →
    sum_by f (listed_of spans p src (record { 0 = wire n })) ≡ waits spans src f s copies n
listed_is spans src f s copies p n fates times lines above below within =
    ap (λ t. sum_by f (settled_as spans p src seq t)) (fates.fates n above below)
    ∙ by (came A n s) (came B n s) (int_lt n (bottom_number s)) refl refl refl
  where
    seq : Seq
    seq = record { 0 = wire n }

    u : Bool
    u = is_beyond spans A (first_time n s)

    v : Bool
    v = is_beyond spans B (first_time n s)

    time_is : (side : Side) → some s n ≡ true → came (other_side side) n s ≡ false → time_kept p (wire n) ≡ first_time_at side n s
    time_is side is none = times n is above ∙ only_time side n s none

    copy_is : (side : Side) → some s n ≡ true → came (other_side side) n s ≡ false →
        copy_kept p src seq side ≡ first_copy_at src side n s copies
    copy_is side is none =
        kept_copy p src side n s copies (time_is side is none) (lines.packets n is above ∙ only_packet side n s copies none)

    by : (a b low : Bool) → came A n s ≡ a → came B n s ≡ b → int_lt n (bottom_number s) ≡ low →
        sum_by f (settled_as spans p src seq (fate_if a b low)) ≡ waits_if a b low (told spans src f s copies n)
    by true true low is_a is_b is_low = refl
    by true false low is_a is_b is_low =
        let is : some s n ≡ true = ap (λ t. t || came B n s) is_a in
        ap (λ c. sum_by f (listed_if_lost spans c)) (copy_is A is is_b)
        ∙ ap (λ t. sum_by f (cond (is_beyond spans B t) [] (Lost (first_copy_at src A n s copies) ∷ []))) (sym (only_time A n s is_b))
        ∙ ap (sum_by f) (alone_a spans src n s copies u v) ∙ ap (sum_by f) (sym (line_if spans src s copies n true false is_a is_b))
    by false true low is_a is_b is_low =
        let is : some s n ≡ true = ap (λ t. t || came B n s) is_a ∙ is_b in
        ap (λ c. sum_by f (listed_if_lost spans c)) (copy_is B is is_a)
        ∙ ap (λ t. sum_by f (cond (is_beyond spans A t) [] (Lost (first_copy_at src B n s copies) ∷ []))) (sym (only_time B n s is_a))
        ∙ ap (sum_by f) (alone_b spans src n s copies u v) ∙ ap (sum_by f) (sym (line_if spans src s copies n false true is_a is_b))
    by false false true is_a is_b is_low = refl
    by false false false is_a is_b is_low =
        let none : some s n ≡ false = ap (λ t. t || came B n s) is_a ∙ is_b in
        ap (λ t. sum_by f (Neither src seq t ∷ [])) (lines.passed n none (within is_low) above)
        ∙ ap (sum_by f) (sym (line_if spans src s copies n false false is_a is_b))

-- a line by what it shows
abbrev pub line_from : Outcome → Mac → ℤ → ℕ → ℕ → ℕ → ℕ → ℕ → List Listed
line_from Paired src n time_a time_b packet_a packet_b reached =
    Pair (record { src = src; arrival = record { side = A; seq = record { 0 = wire n }; time = time_a }; packet = packet_a }) time_b ∷ []
line_from OnlyA src n time_a time_b packet_a packet_b reached =
    Lost (record { src = src; arrival = record { side = A; seq = record { 0 = wire n }; time = time_a }; packet = packet_a }) ∷ []
line_from OnlyB src n time_a time_b packet_a packet_b reached =
    Lost (record { src = src; arrival = record { side = B; seq = record { 0 = wire n }; time = time_b }; packet = packet_b }) ∷ []
line_from EdgeA src n time_a time_b packet_a packet_b reached = []
line_from EdgeB src n time_a time_b packet_a packet_b reached = []
line_from OfNone src n time_a time_b packet_a packet_b reached = Neither src (record { 0 = wire n }) reached ∷ []

from_is : (o : Outcome) (src : Mac) (n : ℤ) (s : List Placed) (copies : List Copied) →
    line_as o src n s copies
    ≡ line_from o src n (first_time_at A n s) (first_time_at B n s) (first_packet_at A n s copies) (first_packet_at B n s copies) (reach_time n s)
from_is Paired src n s copies = refl
from_is OnlyA src n s copies = refl
from_is OnlyB src n s copies = refl
from_is EdgeA src n s copies = refl
from_is EdgeB src n s copies = refl
from_is OfNone src n s copies = refl

-- it is the same where all of that is
pub same_line : (spans : Spans) (src : Mac) (n : ℤ) (s t : List Placed) (copies more : List Copied) → came A n t ≡ came A n s →
    came B n t ≡ came B n s → first_time n t ≡ first_time n s → first_time_at A n t ≡ first_time_at A n s → first_time_at B n t ≡ first_time_at B n s →
    first_packet_at A n t more ≡ first_packet_at A n s copies → first_packet_at B n t more ≡ first_packet_at B n s copies → reach_time n t ≡ reach_time n s →
    number_line spans src t more n ≡ number_line spans src s copies n
same_line spans src n s t copies more a b first time_a time_b packet_a packet_b reached =
    from_is (outcome_of spans t n) src n t more
    ∙ (λ i. line_from (outcome_if (a i) (b i) (is_beyond spans A (first i)) (is_beyond spans B (first i))) src n (time_a i) (time_b i)
    (packet_a i) (packet_b i) (reached i))
    ∙ sym (from_is (outcome_of spans s n) src n s copies)

-- the first copy at a side, with a copy more of another frame, at the other side, or behind the first one
none_and : (e b : Bool) (u v : ℕ) → cond ((e && false) && b) u v ≡ v
none_and true b u v = refl
none_and false b u v = refl

and_none : (e : Bool) (u v : ℕ) → cond (e && false) u v ≡ v
and_none true u v = refl
and_none false u v = refl

pub same_own : (side : Side) → same_side side side ≡ true
same_own A = refl
same_own B = refl

pub time_other : (side : Side) (n : ℤ) (y : Placed) (s : List Placed) → int_eq n y.number ≡ false → first_time_at side n (y ∷ s) ≡ first_time_at side n s
time_other side n y s other = ap (λ b. cond ((b && same_side side y.side) && not (came side n s)) y.time (first_time_at side n s)) other

pub time_far : (side : Side) (n : ℤ) (y : Placed) (s : List Placed) → same_side side y.side ≡ false → first_time_at side n (y ∷ s) ≡ first_time_at side n s
time_far side n y s far =
    ap (λ b. cond ((int_eq n y.number && b) && not (came side n s)) y.time (first_time_at side n s)) far
    ∙ none_and (int_eq n y.number) (not (came side n s)) y.time (first_time_at side n s)

pub time_again : (side : Side) (n : ℤ) (y : Placed) (s : List Placed) → came side n s ≡ true → first_time_at side n (y ∷ s) ≡ first_time_at side n s
time_again side n y s known =
    ap (λ b. cond ((int_eq n y.number && same_side side y.side) && not b) y.time (first_time_at side n s)) known
    ∙ and_none (int_eq n y.number && same_side side y.side) y.time (first_time_at side n s)

pub time_first : (side : Side) (n : ℤ) (y : Placed) (s : List Placed) → int_eq n y.number ≡ true → y.side ≡ side → came side n s ≡ false →
    first_time_at side n (y ∷ s) ≡ y.time
time_first side n y s own is none =
    ap (λ b. cond ((b && same_side side y.side) && not (came side n s)) y.time (first_time_at side n s)) own
    ∙ ap (λ t. cond (same_side side t && not (came side n s)) y.time (first_time_at side n s)) is
    ∙ ap (λ b. cond (b && not (came side n s)) y.time (first_time_at side n s)) (same_own side)
    ∙ ap (λ b. cond (not b) y.time (first_time_at side n s)) none

pub packet_other_at : (side : Side) (n : ℤ) (y : Placed) (s : List Placed) (x : Copied) (copies : List Copied) → int_eq n y.number ≡ false →
    first_packet_at side n (y ∷ s) (x ∷ copies) ≡ first_packet_at side n s copies
packet_other_at side n y s x copies other =
    ap (λ b. cond ((b && same_side side y.side) && not (came side n s)) x.packet (first_packet_at side n s copies)) other

pub packet_far : (side : Side) (n : ℤ) (y : Placed) (s : List Placed) (x : Copied) (copies : List Copied) → same_side side y.side ≡ false →
    first_packet_at side n (y ∷ s) (x ∷ copies) ≡ first_packet_at side n s copies
packet_far side n y s x copies far =
    ap (λ b. cond ((int_eq n y.number && b) && not (came side n s)) x.packet (first_packet_at side n s copies)) far
    ∙ none_and (int_eq n y.number) (not (came side n s)) x.packet (first_packet_at side n s copies)

pub packet_again : (side : Side) (n : ℤ) (y : Placed) (s : List Placed) (x : Copied) (copies : List Copied) → came side n s ≡ true →
    first_packet_at side n (y ∷ s) (x ∷ copies) ≡ first_packet_at side n s copies
packet_again side n y s x copies known =
    ap (λ b. cond ((int_eq n y.number && same_side side y.side) && not b) x.packet (first_packet_at side n s copies)) known
    ∙ and_none (int_eq n y.number && same_side side y.side) x.packet (first_packet_at side n s copies)

pub packet_first : (side : Side) (n : ℤ) (y : Placed) (s : List Placed) (x : Copied) (copies : List Copied) → int_eq n y.number ≡ true →
    y.side ≡ side → came side n s ≡ false → first_packet_at side n (y ∷ s) (x ∷ copies) ≡ x.packet
packet_first side n y s x copies own is none =
    ap (λ b. cond ((b && same_side side y.side) && not (came side n s)) x.packet (first_packet_at side n s copies)) own
    ∙ ap (λ t. cond (same_side side t && not (came side n s)) x.packet (first_packet_at side n s copies)) is
    ∙ ap (λ b. cond (b && not (came side n s)) x.packet (first_packet_at side n s copies)) (same_own side)
    ∙ ap (λ b. cond (not b) x.packet (first_packet_at side n s copies)) none

-- when a number came to lie in a stretch that has one copy more
pub reach_same : (n : ℤ) (y : Placed) (s : List Placed) → is_in_stretch n s ≡ true → reach_time n (y ∷ s) ≡ reach_time n s
reach_same n y s is = ap (λ b. cond b (reach_time n s) y.time) is

pub reach_now : (n : ℤ) (y : Placed) (s : List Placed) → is_in_stretch n s ≡ false → reach_time n (y ∷ s) ≡ y.time
reach_now n y s is = ap (λ b. cond b (reach_time n s) y.time) is

-- the line of another number than that of one copy more, and of the same one, of which a copy came at that side
pub line_other : (spans : Spans) (src : Mac) (y : Placed) (s : List Placed) (x : Copied) (copies : List Copied) (n : ℤ) →
    int_eq n y.number ≡ false → is_in_stretch n s ≡ true → number_line spans src (y ∷ s) (x ∷ copies) n ≡ number_line spans src s copies n
line_other spans src y s x copies n other is =
    same_line spans src n s (y ∷ s) copies (x ∷ copies) (came-other A n y s other) (came-other B n y s other) (first_other n y s other)
    (time_other A n y s other) (time_other B n y s other) (packet_other_at A n y s x copies other) (packet_other_at B n y s x copies other)
    (reach_same n y s is)

-- the lines of numbers in a row
pub lines_total : (spans : Spans) (src : Mac) (f : Listed → ℕ) (s : List Placed) (copies : List Copied) (b : ℤ) (k : ℕ) →
    sum_by f (number_lines spans src s copies (numbers_from b k)) ≡ total (told spans src f s copies) b k
lines_total spans src f s copies b zero = sym (total_zero (told spans src f s copies) b)
lines_total spans src f s copies b (suc k) =
    sum_by-append f (number_line spans src s copies (b +ℤ pos k)) (number_lines spans src s copies (numbers_from b k))
    ∙ ap (λ t. told spans src f s copies (b +ℤ pos k) + t) (lines_total spans src f s copies b k)
    ∙ sym (total_suc (told spans src f s copies) b k)
