-- Whole windows that are merged in any order, and in any grouping.
use Rattle.std.proofs.Common.{◌≡◌, ◌≢◌, ℕ, ◌<◌, ℤ, pos, arith, sym, ap, ◌∙◌}
use Rattle.std.proofs.Math.Bool.{or_comm, or_assoc, or_self}
use Rattle.std.proofs.lemmas.Int.{ints}
use Rattle.sr_sequence.specs.Numbers.{wire}
use Rattle.sr_sequence.specs.Places.{steps}
use Rattle.sr_dup_window.specs.Bins.{IsWidth}
use Rattle.sr_dup_window.specs.Windows.{Window, window_merged}
use Rattle.sr_dup_window.specs.WindowLemmas.{merged-stands, same-numbers}
use Rattle.sr_dup_window.specs.Families.{Family, IsClose, join, greater, StandsFor}
use Rattle.sr_dup_window.specs.FamilyLemmas.{close_swap, close_greater}
use Rattle.sr_dup_window.specs.Records.{IsWhole}
use Rattle.sr_dup_window.specs.OwnLemmas.{own_family, own-stands, close_numbers}

pub carried : (n : ℕ) → n < 65536 → wire (pos n) ≡ n
carried n h = omega arith

pub merged-commutes : (w : ℕ) (a b : Window) → IsWidth w → IsWhole w a → IsWhole w b → steps a.reference b.reference ≢ 32768 →
    window_merged w a b ≡ window_merged w b a
merged-commutes w a b width one two apart =
    let m : ℤ = pos a.reference in
    let at_m : wire m ≡ a.reference = carried a.reference one.carried in
    let other = close_numbers m b.reference two.carried (λ e. apart (ap (λ r. steps r b.reference) (sym at_m) ∙ e)) in
    let n : ℤ = other.0 in
    let f : Family = own_family w a m in
    let g : Family = own_family w b n in
    let s : StandsFor w a f m = own-stands w a m width one at_m in
    let t : StandsFor w b g n = own-stands w b n width two other.1 in
    same-numbers w (window_merged w a b) (window_merged w b a) (join f g) (join g f) (greater m n) (greater n m)
    (merged-stands w a b f g m n width s t other.2)
    (merged-stands w b a g f n m width t s (close_swap m n other.2))
    (λ lane x. or_comm (f lane x) (g lane x))

pub merged-self : (w : ℕ) (a : Window) → IsWidth w → IsWhole w a → window_merged w a a ≡ a
merged-self w a width one =
    let m : ℤ = pos a.reference in
    let f : Family = own_family w a m in
    let s : StandsFor w a f m = own-stands w a m width one (carried a.reference one.carried) in
    same-numbers w (window_merged w a a) a (join f f) f (greater m m) m
    (merged-stands w a a f f m m width s s (omega (arith, ints), omega (arith, ints))) s
    (λ lane x. or_self (f lane x))

pub merged-associates : (w : ℕ) (a b c : Window) (m n k : ℤ) → IsWidth w → IsWhole w a → IsWhole w b → IsWhole w c
    → wire m ≡ a.reference → wire n ≡ b.reference → wire k ≡ c.reference → IsClose m n → IsClose n k → IsClose m k
    → window_merged w (window_merged w a b) c ≡ window_merged w a (window_merged w b c)
merged-associates w a b c m n k width one two three at_m at_n at_k mn nk mk =
    let f : Family = own_family w a m in
    let g : Family = own_family w b n in
    let h : Family = own_family w c k in
    let s : StandsFor w a f m = own-stands w a m width one at_m in
    let t : StandsFor w b g n = own-stands w b n width two at_n in
    let u : StandsFor w c h k = own-stands w c k width three at_k in
    let ab : StandsFor w (window_merged w a b) (join f g) (greater m n) = merged-stands w a b f g m n width s t mn in
    let bc : StandsFor w (window_merged w b c) (join g h) (greater n k) = merged-stands w b c g h n k width t u nk in
    same-numbers w (window_merged w (window_merged w a b) c) (window_merged w a (window_merged w b c))
    (join (join f g) h) (join f (join g h)) (greater (greater m n) k) (greater m (greater n k))
    (merged-stands w (window_merged w a b) c (join f g) h (greater m n) k width ab u (close_greater m n k mk nk))
    (merged-stands w a (window_merged w b c) f (join g h) m (greater n k) width s bc
    (close_swap (greater n k) m (close_greater n k m (close_swap m n mn) (close_swap m k mk))))
    (λ lane x. or_assoc (f lane x) (g lane x) (h lane x))
