-- Times of a clock, by the other one.
use Rattle.std.proofs.Common.{◌≡◌, ℕ, zero, suc, ◌+◌, ◌-◌, ◌≤◌, Bool, true, false, List, ℤ, pos, negsuc, ◌+ℤ◌, ◌-ℤ◌, ◌*ℤ◌, ◌≤ℤ◌, refl, sym, ap, ◌∙◌, subst, arith}
use Rattle.std.proofs.Math.IntN.{suc_ℤ, *ℤ_comm, suc_ℤ-*ℤ}
use Rattle.std.proofs.lemmas.Int.{ints}
use Rattle.std.specs.Int.Signed.{≤ℤ_refl}
use Rattle.std.specs.Int.{int_div_euclid}
use Rattle.sr_clocks.specs.declared.clocks.Clocks.TheVariants.{One}
use Rattle.sr_clocks.specs.declared.line.Line.{Line}
use Rattle.sr_clocks.specs.declared.pair.Pair.{Pair}
use Rattle.sr_clocks.specs.Lines.{bounded, drift_of, clamped_time, corrected_scaled, corrected, IsClockLineIf}
use Rattle.sr_clocks.specs.Telling.{AreClocksIf}
use Rattle.sr_clocks.specs.Rests.{IsRest, ToldTimesKeepTheirOrder, RestsPutTimesRight}

-- whole seconds of a greater number
div_mono : (a b : ℤ) → a ≤ℤ b → int_div_euclid a (pos 1000000000) ≤ℤ int_div_euclid b (pos 1000000000)
div_mono (pos m) (pos n) le = omega (arith, ints, le)
div_mono (pos m) (negsuc n) le = omega (arith, ints, le)
div_mono (negsuc m) (pos n) le = omega (arith, ints, le)
div_mono (negsuc m) (negsuc n) le = omega (arith, ints, le)

clamped_mono : (a b : ℤ) → a ≤ℤ b → clamped_time a ≤ clamped_time b
clamped_mono (pos m) (pos n) le = omega (arith, ints, le)
clamped_mono (pos m) (negsuc n) le = omega (arith, ints, le)
clamped_mono (negsuc m) b le = omega arith

-- what a clock gains in a nanosecond more
one_more : (d : ℤ) (n at : ℕ) → d *ℤ (pos (n + 1) -ℤ pos at) ≡ d *ℤ (pos n -ℤ pos at) +ℤ d
one_more d n at =
    *ℤ_comm d (pos (n + 1) -ℤ pos at) ∙ ap (λ z. z *ℤ d) later ∙ suc_ℤ-*ℤ (pos n -ℤ pos at) d ∙ ap (λ z. z +ℤ d) (*ℤ_comm (pos n -ℤ pos at) d)
  where
    later : pos (n + 1) -ℤ pos at ≡ suc_ℤ (pos n -ℤ pos at)
    later = grind (arith, ints)

-- a clock gains less than it takes
one_on : (l : Line) (s t : ℕ) → l.drift ≤ℤ pos 1000000000 → corrected_scaled l s ≤ℤ corrected_scaled l t →
    corrected_scaled l s ≤ℤ corrected_scaled l (t + 1)
one_on l s t slow le = omega (arith, ints, le, one_more l.drift t l.at, slow)

scaled_plus : (l : Line) (s k : ℕ) → l.drift ≤ℤ pos 1000000000 → corrected_scaled l s ≤ℤ corrected_scaled l (s + k)
scaled_plus l s zero slow =
    let same : s ≡ s + 0 = omega arith in
    subst (λ u. corrected_scaled l s ≤ℤ corrected_scaled l u) same (≤ℤ_refl (corrected_scaled l s))
scaled_plus l s (suc k) slow =
    let same : (s + k) + 1 ≡ s + suc k = omega arith in
    subst (λ u. corrected_scaled l s ≤ℤ corrected_scaled l u) same (one_on l s (s + k) slow (scaled_plus l s k slow))

scaled_mono : (l : Line) (s t : ℕ) → l.drift ≤ℤ pos 1000000000 → s ≤ t → corrected_scaled l s ≤ℤ corrected_scaled l t
scaled_mono l s t slow le = subst (λ u. corrected_scaled l s ≤ℤ corrected_scaled l u) (omega (arith, le)) (scaled_plus l s (t - s) slow)

pub corrected_mono : (l : Line) (s t : ℕ) → l.drift ≤ℤ pos 1000000000 → s ≤ t → corrected l s ≤ corrected l t
corrected_mono l s t slow le = clamped_mono _ _ (div_mono (corrected_scaled l s) (corrected_scaled l t) (scaled_mono l s t slow le))

-- a line that frames tell has a drift of a thousandth at most
bounded_slow : (d : ℤ) → bounded d ≤ℤ pos 1000000000
bounded_slow d = grind arith

drift_slow : (rise : ℤ) (run : ℕ) → drift_of rise run ≤ℤ pos 1000000000
drift_slow rise run = grind (arith, bounded_slow)

line_slow : (told : Bool) (ps : List Pair) (l : Line) → IsClockLineIf told ps l → l.drift ≤ℤ pos 1000000000
line_slow true ps l h = subst (λ (m : Line). m.drift ≤ℤ pos 1000000000) (sym h.4) (drift_slow (h.1.ahead -ℤ h.0.ahead) (h.1.time - h.0.time))
line_slow false ps l h = subst (λ (m : Line). m.drift ≤ℤ pos 1000000000) (sym h.2) (omega arith)

pub told_slow : (none doubtful : Bool) (ps : List Pair) (l : Line) (held : ℕ) → AreClocksIf none doubtful ps (One l held) → l.drift ≤ℤ pos 1000000000
told_slow true doubtful ps l held h = grind (arith, h)
told_slow false true ps l held h = grind (arith, h)
told_slow false false ps l held h =
    let same : h.0 ≡ l = grind (arith, h.1) in
    subst (λ (m : Line). m.drift ≤ℤ pos 1000000000) same (line_slow _ _ h.0 h.2)

pub told_order : ToldTimesKeepTheirOrder
told_order ps l own held ahead delay start s t told rest le =
    let slow = told_slow _ _ ps l held told in
    (corrected_mono l s t slow le, corrected_mono own s t (subst (λ d. d ≤ℤ pos 1000000000) (sym rest.drift) slow) le)

-- what is left of a line, at a time that was moved
rest_scaled : (l own : Line) (ahead : ℤ) (delay start time : ℕ) → IsRest l ahead delay start own → start ≤ time + delay →
    corrected_scaled own ((time + delay) - start) ≡ corrected_scaled l time +ℤ ((ahead +ℤ (pos delay -ℤ pos start)) *ℤ pos 1000000000)
rest_scaled l own ahead delay start time rest le =
    let same : pos ((time + delay) - start) -ℤ pos own.at ≡ pos time -ℤ pos l.at = omega (arith, ints, rest.at, rest.counted, le) in
    let gains : own.drift *ℤ (pos ((time + delay) - start) -ℤ pos own.at) ≡ l.drift *ℤ (pos time -ℤ pos l.at) =
    ap (λ d. d *ℤ (pos ((time + delay) - start) -ℤ pos own.at)) rest.drift ∙ ap (λ z. l.drift *ℤ z) same in
    omega (arith, ints, gains, rest.ahead_is, le)

div_moved : (a k : ℤ) → int_div_euclid (a +ℤ k *ℤ pos 1000000000) (pos 1000000000) ≡ int_div_euclid a (pos 1000000000) +ℤ k
div_moved (pos m) (pos n) = grind (arith, ints)
div_moved (pos m) (negsuc n) = grind (arith, ints)
div_moved (negsuc m) (pos n) = grind (arith, ints)
div_moved (negsuc m) (negsuc n) = grind (arith, ints)

pub rests_right : RestsPutTimesRight
rests_right l own ahead delay start time rest le =
    ap (λ z. clamped_time (int_div_euclid z (pos 1000000000))) (rest_scaled l own ahead delay start time rest le)
    ∙ ap clamped_time (div_moved (corrected_scaled l time) (ahead +ℤ (pos delay -ℤ pos start)) ∙ omega (arith, ints))
