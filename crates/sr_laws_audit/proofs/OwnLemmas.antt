-- What one copy more of a stretch lists of its own number.
use Rattle.std.proofs.Common.{◌≡◌, ℕ, ◌+◌, Bool, true, false, cond, ◌||◌, List, [], ◌∷◌, ◌++◌, ℤ, arith, refl, sym, ap, ◌∙◌}
use Rattle.std.specs.Prelude.{sum_by, int_lt}
use Rattle.std.specs.Ordering.{int_eq}
use Rattle.std.proofs.lemmas.Bool.Decides.{Decides-int_eq}
use Rattle.std.proofs.lemmas.List.Sums.{sum_by-append}
use Rattle.sr_frame.specs.declared.fields.Mac.{Mac}
use Rattle.sr_sequence.specs.Numbers.{wire}
use Rattle.sr_audit.specs.declared.listing.Copied.{Copied}
use Rattle.sr_audit.specs.declared.listing.Listed.{Listed}
use Rattle.sr_audit.specs.declared.listing.Listed.TheVariants.{Pair}
use Rattle.sr_audit.specs.declared.pending.Pending.{Pending}
use Rattle.sr_audit.specs.declared.side.Side.{Side}
use Rattle.sr_audit.specs.declared.side.Side.TheVariants.{A, B}
use Rattle.sr_audit.specs.declared.span.Spans.{Spans}
use Rattle.sr_audit.specs.Counting.{came_before_at}
use Rattle.sr_audit.specs.Edges.{first_time}
use Rattle.sr_audit.specs.Extents.{bottom_number}
use Rattle.sr_audit.specs.Fates.{fate_if, fate_of}
use Rattle.sr_audit.specs.Listings.{fate_kept, time_kept, packet_kept, copy_kept, paired_as, TakesCopyIf, TakesCopy}
use Rattle.sr_audit.specs.Looks.{came_by}
use Rattle.sr_audit.specs.Stretches.{Placed, copy_as, same_side, came}
use Rattle.sr_audit.proofs.EdgeLemmas.{first_own}
use Rattle.sr_audit.proofs.FrameLemmas.{came-same}
use Rattle.sr_laws_audit.specs.Lists.{first_time_at, first_packet_at, first_copy_at, is_in_stretch}
use Rattle.sr_laws_audit.proofs.OutcomeLemmas.{some}
use Rattle.sr_laws_audit.proofs.LineLemmas.{first_packet, only_time, only_packet, told, waits_if, waits, line_if, same_line, time_far, time_again, time_first, packet_far, packet_again, packet_first, reach_same}

-- what is told of a number, unless it lies below the stretch
abbrev pub inside : Spans → Mac → (Listed → ℕ) → List Placed → List Copied → ℤ → ℕ
inside spans src f s copies n = cond (int_lt n (bottom_number s)) 0 (told spans src f s copies n)

-- what is kept of the number of a copy says what became of it before
pub record KnowsOwn (s : List Placed) (copies : List Copied) (p : Pending) (m : ℤ) (seq : ℕ) : Type 0 where
  pub fate : some s m ≡ true → fate_kept p seq ≡ fate_of s m
  pub time : some s m ≡ true → time_kept p seq ≡ first_time m s
  pub packet : some s m ≡ true → packet_kept p seq ≡ first_packet m s copies
  pub lies : some s m ≡ true → is_in_stretch m s ≡ true

-- sums of what is told, where a copy is the first of its frame, one of a frame that came at its side, or one that makes a pair
new_sums : (now was w1 i1 w0 i0 v : ℕ) → now ≡ was → w1 ≡ v → i1 ≡ v → w0 ≡ i0 → now + (w1 + i0) ≡ was + (w0 + i1)
new_sums now was w1 i1 w0 i0 v a b c d = omega (arith, a, b, c, d)

same_sums : (now was w1 i1 w0 i0 : ℕ) → now ≡ was → w1 ≡ w0 → i1 ≡ i0 → now + (w1 + i0) ≡ was + (w0 + i1)
same_sums now was w1 i1 w0 i0 a b c = omega (arith, a, b, c)

pair_sums : (now was w1 i1 w0 i0 v pair : ℕ) → now ≡ was + pair → w1 ≡ 0 → i1 ≡ pair → w0 ≡ v → i0 ≡ v → now + (w1 + i0) ≡ was + (w0 + i1)
pair_sums now was w1 i1 w0 i0 v pair a b c d e = omega (arith, a, b, c, d, e)

pub own_step : (spans : Spans) (f : Listed → ℕ) (s : List Placed) (x : Copied) (copies : List Copied) (m : ℤ) (p new : Pending)
    (before after : List Listed) → wire m ≡ x.arrival.seq.0 → KnowsOwn s copies p m x.arrival.seq.0 →
    (some s m ≡ true → int_lt m (bottom_number s) ≡ false) → int_lt m (bottom_number (copy_as x.arrival m ∷ s)) ≡ false →
    TakesCopy (came_by s m) x p new before after →
    sum_by f after
    + (waits spans x.src f (copy_as x.arrival m ∷ s) (x ∷ copies) m + inside spans x.src f s copies m)
    ≡ sum_by f before
    + (waits spans x.src f s copies m + inside spans x.src f (copy_as x.arrival m ∷ s) (x ∷ copies) m)
own_step spans f s x copies m p new before after carried knows high high_now taken =
    by x.arrival.side refl (came A m s) (came B m s) refl refl taken
  where
    c : Placed
    c = copy_as x.arrival m

    own : int_eq m m ≡ true
    own = (Decides-int_eq m m).1 refl

    low : Bool
    low = int_lt m (bottom_number s)

    v : ℕ
    v = told spans x.src f s copies m

    v_now : ℕ
    v_now = told spans x.src f (c ∷ s) (x ∷ copies) m

    waits_is : (a b : Bool) → came A m s ≡ a → came B m s ≡ b → waits spans x.src f s copies m ≡ waits_if a b low v
    waits_is a b is_a is_b = ap (λ t. waits_if t (came B m s) low v) is_a ∙ ap (λ t. waits_if a t low v) is_b

    came_now : (side t : Side) (b : Bool) → x.arrival.side ≡ t → came side m s ≡ b → came side m (c ∷ s) ≡ (same_side side t || b)
    came_now side t b is_side is = came-same side m c s own ∙ ap (λ u. same_side side u || came side m s) is_side
        ∙ ap (λ u. same_side side t || u) is

    waits_now : (a b : Bool) → came A m (c ∷ s) ≡ a → came B m (c ∷ s) ≡ b →
        waits spans x.src f (c ∷ s) (x ∷ copies) m ≡ waits_if a b false v_now
    waits_now a b is_a is_b = ap (λ t. waits_if t (came B m (c ∷ s)) (int_lt m (bottom_number (c ∷ s))) v_now) is_a
        ∙ ap (λ t. waits_if a t (int_lt m (bottom_number (c ∷ s))) v_now) is_b ∙ ap (λ t. waits_if a b t v_now) high_now

    inside_now : inside spans x.src f (c ∷ s) (x ∷ copies) m ≡ v_now
    inside_now = ap (λ t. cond t 0 v_now) high_now

    inside_was : some s m ≡ true → inside spans x.src f s copies m ≡ v
    inside_was is = ap (λ t. cond t 0 v) (high is)

    -- no copy came before
    first : came A m s ≡ false → came B m s ≡ false → waits spans x.src f (c ∷ s) (x ∷ copies) m ≡ v_now → after ≡ before →
        sum_by f after + (waits spans x.src f (c ∷ s) (x ∷ copies) m + inside spans x.src f s copies m)
        ≡ sum_by f before + (waits spans x.src f s copies m + inside spans x.src f (c ∷ s) (x ∷ copies) m)
    first is_a is_b now same =
        new_sums (sum_by f after) (sum_by f before) _ _ _ _ v_now (ap (sum_by f) same) now inside_now (waits_is false false is_a is_b)

    -- one came at this side
    again : (side : Side) → x.arrival.side ≡ side → came side m s ≡ true → some s m ≡ true → came A m (c ∷ s) ≡ came A m s →
        came B m (c ∷ s) ≡ came B m s → after ≡ before →
        sum_by f after + (waits spans x.src f (c ∷ s) (x ∷ copies) m + inside spans x.src f s copies m)
        ≡ sum_by f before + (waits spans x.src f s copies m + inside spans x.src f (c ∷ s) (x ∷ copies) m)
    again side is known is_some a b same =
        same_sums (sum_by f after) (sum_by f before) _ _ _ _ (ap (sum_by f) same)
        (waits_now (came A m s) (came B m s) a b ∙ ap (waits_if (came A m s) (came B m s) false) told_same
        ∙ ap (λ t. waits_if (came A m s) (came B m s) t v) (sym (high is_some)))
        (inside_now ∙ told_same ∙ sym (inside_was is_some))
      where
        first_same : first_time m (c ∷ s) ≡ first_time m s
        first_same = first_own c s ∙ ap (λ t. cond t (first_time m s) c.time) is_some

        times : (other : Side) → first_time_at other m (c ∷ s) ≡ first_time_at other m s
        times other = at side other is known
          where
            at : (side other : Side) → x.arrival.side ≡ side → came side m s ≡ true → first_time_at other m (c ∷ s) ≡ first_time_at other m s
            at A A is known = time_again A m c s known
            at A B is known = time_far B m c s (ap (same_side B) is)
            at B A is known = time_far A m c s (ap (same_side A) is)
            at B B is known = time_again B m c s known

        packets : (other : Side) → first_packet_at other m (c ∷ s) (x ∷ copies) ≡ first_packet_at other m s copies
        packets other = at side other is known
          where
            at : (side other : Side) → x.arrival.side ≡ side → came side m s ≡ true →
                first_packet_at other m (c ∷ s) (x ∷ copies) ≡ first_packet_at other m s copies
            at A A is known = packet_again A m c s x copies known
            at A B is known = packet_far B m c s x copies (ap (same_side B) is)
            at B A is known = packet_far A m c s x copies (ap (same_side A) is)
            at B B is known = packet_again B m c s x copies known

        told_same : v_now ≡ v
        told_same = ap (sum_by f) (same_line spans x.src m s (c ∷ s) copies (x ∷ copies) a b first_same (times A) (times B) (packets A)
            (packets B) (reach_same m c s (knows.lies is_some)))

    -- one came at the other side alone
    joins : (pair : List Listed) → some s m ≡ true → waits spans x.src f s copies m ≡ v → came A m (c ∷ s) ≡ true → came B m (c ∷ s) ≡ true →
        after ≡ before ++ pair → pair ≡ Pair (first_copy_at x.src A m (c ∷ s) (x ∷ copies)) (first_time_at B m (c ∷ s)) ∷ [] →
        sum_by f after + (waits spans x.src f (c ∷ s) (x ∷ copies) m + inside spans x.src f s copies m)
        ≡ sum_by f before + (waits spans x.src f s copies m + inside spans x.src f (c ∷ s) (x ∷ copies) m)
    joins pair is_some was a b more is =
        pair_sums (sum_by f after) (sum_by f before) _ _ _ _ v (sum_by f pair) (ap (sum_by f) more ∙ sum_by-append f before pair)
        (waits_now true true a b)
        (inside_now ∙ ap (sum_by f) (line_if spans x.src (c ∷ s) (x ∷ copies) m true true a b) ∙ ap (sum_by f) (sym is)) was
        (inside_was is_some)

    fate_is : (a b : Bool) → came A m s ≡ a → came B m s ≡ b → fate_of s m ≡ fate_if a b low
    fate_is a b is_a is_b = ap (λ t. fate_if t (came B m s) low) is_a ∙ ap (λ t. fate_if a t low) is_b

    by : (side : Side) → x.arrival.side ≡ side → (a b : Bool) → came A m s ≡ a → came B m s ≡ b →
        TakesCopyIf (a || b) (came_before_at (record { a = a; b = b }) side) x p new before after →
        sum_by f after + (waits spans x.src f (c ∷ s) (x ∷ copies) m + inside spans x.src f s copies m)
        ≡ sum_by f before + (waits spans x.src f s copies m + inside spans x.src f (c ∷ s) (x ∷ copies) m)
    by A is false false is_a is_b taken =
        first is_a is_b (waits_now true false (came_now A A false is is_a) (came_now B A false is is_b)) taken.1
    by B is false false is_a is_b taken =
        first is_a is_b (waits_now false true (came_now A B false is is_a) (came_now B B false is is_b)) taken.1
    by A is true b is_a is_b taken =
        again A is is_a (ap (λ t. t || came B m s) is_a) (came_now A A true is is_a ∙ sym is_a) (came_now B A b is is_b ∙ sym is_b) taken.1
    by B is a true is_a is_b taken =
        again B is is_b (some_second a is_a) (came_now A B a is is_a ∙ sym is_a) (came_now B B true is is_b ∙ sym is_b) (kept a taken)
      where
        some_second : (a : Bool) → came A m s ≡ a → some s m ≡ true
        some_second true e = ap (λ t. t || came B m s) e
        some_second false e = ap (λ t. t || came B m s) e ∙ is_b

        kept : (a : Bool) → TakesCopyIf (a || true) true x p new before after → after ≡ before
        kept true t = t.1
        kept false t = t.1
    by A is false true is_a is_b taken =
        let is_some : some s m ≡ true = ap (λ t. t || came B m s) is_a ∙ is_b in
        joins (Pair x (time_kept p x.arrival.seq.0) ∷ []) is_some (waits_is false true is_a is_b) (came_now A A false is is_a)
        (came_now B A true is is_b)
        (taken.1 ∙ ap (λ t. before ++ paired_as p x t) (knows.fate is_some ∙ fate_is false true is_a is_b))
        (λ i. Pair (x_first is is_a i) (b_first is is_some is_a i) ∷ [])
      where
        x_first : x.arrival.side ≡ A → came A m s ≡ false → x ≡ first_copy_at x.src A m (c ∷ s) (x ∷ copies)
        x_first is is_a = λ i. record {
          src = x.src;
          arrival = record {
            side = is i;
            seq = record { 0 = sym carried i };
            time = sym (time_first A m c s own is is_a) i;
          };
          packet = sym (packet_first A m c s x copies own is is_a) i;
        }

        b_first : x.arrival.side ≡ A → some s m ≡ true → came A m s ≡ false → time_kept p x.arrival.seq.0 ≡ first_time_at B m (c ∷ s)
        b_first is is_some is_a = knows.time is_some ∙ only_time B m s is_a ∙ sym (time_far B m c s (ap (same_side B) is))
    by B is true false is_a is_b taken =
        let is_some : some s m ≡ true = ap (λ t. t || came B m s) is_a in
        joins (Pair (copy_kept p x.src x.arrival.seq A) x.arrival.time ∷ []) is_some (waits_is true false is_a is_b)
        (came_now A B true is is_a) (came_now B B false is is_b)
        (taken.1 ∙ ap (λ t. before ++ paired_as p x t) (knows.fate is_some ∙ fate_is true false is_a is_b))
        (λ i. Pair (a_first is is_some is_b i) (sym (time_first B m c s own is is_b) i) ∷ [])
      where
        a_first : x.arrival.side ≡ B → some s m ≡ true → came B m s ≡ false →
            copy_kept p x.src x.arrival.seq A ≡ first_copy_at x.src A m (c ∷ s) (x ∷ copies)
        a_first is is_some is_b = λ i. record {
          src = x.src;
          arrival = record {
            side = A;
            seq = record { 0 = sym carried i };
            time = (knows.time is_some ∙ only_time A m s is_b ∙ sym (time_far A m c s (ap (same_side A) is))) i;
          };
          packet = (knows.packet is_some ∙ only_packet A m s copies is_b ∙ sym (packet_far A m c s x copies (ap (same_side A) is))) i;
        }
