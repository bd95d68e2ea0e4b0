-- The frames of a stretch that wait, by the record.
use Rattle.std.proofs.Common.{◌≡◌, ℕ, zero, suc, ◌-◌, ◌≤◌, Bool, true, false, ◌||◌, List, [], ◌∷◌, Option, None, Some, ℤ, pos, arith, refl, sym, ap, ◌∙◌, subst, inl}
use Rattle.std.specs.Prelude.{slice_index_or, nat_lt, ◌+ℤ◌, ◌-ℤ◌, if◌then◌else◌}
use Rattle.sr_sequence.specs.Numbers.{wire, IsNear}
use Rattle.sr_dup_window.specs.Families.{StandsFor}
use Rattle.sr_dup_window.specs.Windows.{window_of, has_of}
use Rattle.sr_dup_window.specs.WindowLemmas.{has-by-family}
use Rattle.sr_audit.specs.declared.arrival.Arrival.{Arrival}
use Rattle.sr_audit.specs.declared.numbers.Numbers.{Numbers}
use Rattle.sr_audit.specs.declared.side.Side.TheVariants.{A, B}
use Rattle.sr_audit.specs.declared.tally.Sides.{Sides}
use Rattle.sr_audit.specs.Edges.{first_time, KeepsTimes}
use Rattle.sr_audit.specs.Following.{family_in, KeepsFigures}
use Rattle.sr_audit.specs.Lanes.{side_lane}
use Rattle.sr_audit.specs.Limits.{kept_numbers, place_in}
use Rattle.sr_audit.specs.Rows.{kept_number}
use Rattle.sr_audit.specs.Stretches.{Placed, came, top_number, current, stretches}
use Rattle.sr_audit.specs.Taken.{IsKeptIn}
use Rattle.sr_audit.specs.Waiting.{copy_in_time, none_waits, waits_with, waits_on, waits_of, waits_kept, last_numbers}
use Rattle.sr_audit.proofs.FollowLemmas.{family_came, none_stands}
use Rattle.sr_audit.proofs.RowLemmas.{kept_is, near_low, near_high}

-- where no copy came, the time says nothing
stays : (b : Bool) (w : Sides) → (if b then w else w) ≡ w
stays true w = refl
stays false w = refl

any_waits : (mark : ℕ) (a b : Bool) (t u : ℕ) (w : Sides) → ((a || b) ≡ true → t ≡ u) → waits_with mark a b t w ≡ waits_with mark a b u w
any_waits mark true b t u w same = ap (λ v. waits_with mark true b v w) (same refl)
any_waits mark false true t u w same = ap (λ v. waits_with mark false true v w) (same refl)
any_waits mark false false t u w same =
    stays (nat_lt (mark - t) copy_in_time) w ∙ sym (stays (nat_lt (mark - u) copy_in_time) w)

-- what waits by the record waits of the stretch
kept_waits : (mark : ℕ) (s : List Placed) (n : Numbers) (moments : List ℕ) →
    StandsFor kept_numbers (window_of n.seen) (family_in s) (top_number s) → KeepsTimes s moments → (k : ℕ) → k ≤ 1024 →
    waits_kept mark (window_of n.seen) moments k ≡ waits_on mark s (top_number s -ℤ pos 1023) k
kept_waits mark s n moments stands times zero le = refl
kept_waits mark s n moments stands times (suc k) le =
    let t = top_number s in
    let m = (t -ℤ pos 1023) +ℤ pos k in
    let w = window_of n.seen in
    let q = kept_number w.reference k in
    let carried : wire m ≡ q = kept_is t k ∙ ap (λ f. kept_number f k) (sym stands.reference) in
    let near : IsNear kept_numbers t m = record { above = near_low t k (omega (arith, le)); below = near_high t k (omega (arith, le)) } in
    let at_a : has_of kept_numbers w (side_lane A) q ≡ came A m s =
    has-by-family kept_numbers w (family_in s) t m q (side_lane A) (inl refl) stands near carried ∙ family_came s A m in
    let at_b : has_of kept_numbers w (side_lane B) q ≡ came B m s =
    has-by-family kept_numbers w (family_in s) t m q (side_lane B) (inl refl) stands near carried ∙ family_came s B m in
    let time : (came A m s || came B m s) ≡ true → slice_index_or moments (place_in q) 0 ≡ first_time m s =
    λ some. ap (λ p. slice_index_or moments (place_in p) 0) (sym carried) ∙ times m some near.above in
    ap (λ b. waits_with mark b (has_of kept_numbers w (side_lane B) q) (slice_index_or moments (place_in q) 0) (waits_kept mark w moments k)) at_a
    ∙ ap (λ b. waits_with mark (came A m s) b (slice_index_or moments (place_in q) 0) (waits_kept mark w moments k)) at_b
    ∙ any_waits mark (came A m s) (came B m s) (slice_index_or moments (place_in q) 0) (first_time m s) (waits_kept mark w moments k) time
    ∙ ap (waits_with mark (came A m s) (came B m s) (first_time m s)) (kept_waits mark s n moments stands times k (omega (arith, le)))

is_last : (k : ℕ) → k ≡ 1024 → k ≡ last_numbers
unfolding last_numbers
is_last k e = e

-- no number of no copy waits
none_on : (mark : ℕ) (n : ℤ) (k : ℕ) → waits_on mark [] n k ≡ none_waits
none_on mark n zero = refl
none_on mark n (suc k) = stays (nat_lt (mark - 0) copy_in_time) (waits_on mark [] n k) ∙ none_on mark n k

pub waits_none : (mark : ℕ) (xs : List Arrival) → xs ≡ [] → none_waits ≡ waits_of mark (current (stretches xs))
waits_none mark xs none =
    sym (none_on mark (pos 0 -ℤ pos 1023) last_numbers) ∙ ap (λ ys. waits_of mark (current (stretches ys))) (sym none)

pub waits_some : (mark : ℕ) (xs : List Arrival) (n : Numbers) (moments : List ℕ) (k : ℕ) → k ≡ 1024 → IsKeptIn xs (Some n) →
    KeepsTimes (current (stretches xs)) moments → waits_kept mark (window_of n.seen) moments k ≡ waits_of mark (current (stretches xs))
waits_some mark xs n moments k all follows times = go (stretches xs) follows times
  where
    go : (ss : List (List Placed)) → KeepsFigures ss n → KeepsTimes (current ss) moments →
        waits_kept mark (window_of n.seen) moments k ≡ waits_of mark (current ss)
    go [] stands kept = absurd (none_stands n stands.seen)
    go ([] ∷ rest) stands kept = absurd (none_stands n stands.seen)
    go ((z ∷ before) ∷ rest) stands kept =
        kept_waits mark (z ∷ before) n moments stands.seen kept k (omega (arith, all))
        ∙ ap (λ j. waits_on mark (z ∷ before) (top_number (z ∷ before) -ℤ pos 1023) j) (is_last k all)

-- by what is kept of the numbers
pub waits_at : (mark : ℕ) (xs : List Arrival) (o : Option Numbers) (n : Numbers) (moments : List ℕ) (k : ℕ) → k ≡ 1024 → o ≡ Some n →
    IsKeptIn xs o → KeepsTimes (current (stretches xs)) moments →
    waits_kept mark (window_of n.seen) moments k ≡ waits_of mark (current (stretches xs))
waits_at mark xs o n moments k all is taken times =
    waits_some mark xs n moments k all (subst (λ (p : Option Numbers). IsKeptIn xs p) is taken) times

pub waits_none_at : (mark : ℕ) (xs : List Arrival) (o : Option Numbers) → o ≡ None → IsKeptIn xs o →
    none_waits ≡ waits_of mark (current (stretches xs))
waits_none_at mark xs o is taken = waits_none mark xs (subst (λ (p : Option Numbers). IsKeptIn xs p) is taken)
