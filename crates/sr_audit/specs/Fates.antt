-- What is kept of the last numbers of a stretch tells what became of them.
use Rattle.std.specs.Prelude.{◌≡◌, ◌-◌, min, Bool, true, false, List, [], ◌∷◌, ℤ, pos, ◌-ℤ◌, ◌<ℤ◌, ◌≤ℤ◌, int_lt}
use Rattle.sr_sequence.specs.Numbers.{wire}
use Rattle.sr_audit.specs.declared.pending.Fate.{Fate}
use Rattle.sr_audit.specs.declared.pending.Fate.TheVariants.{Settled, PassedOver, ByA, ByB}
use Rattle.sr_audit.specs.declared.pending.Pending.{Pending}
use Rattle.sr_audit.specs.declared.side.Side.TheVariants.{A, B}
use Rattle.sr_audit.specs.Extents.{bottom_number, size_of}
use Rattle.sr_audit.specs.Limits.{kept_numbers}
use Rattle.sr_audit.specs.Listings.{fate_kept}
use Rattle.sr_audit.specs.Stretches.{Placed, came, top_number}

-- what became of a number so far, of which copies came by A or not, and by B, and which lies below the least of its stretch or not
abbrev pub fate_if : Bool → Bool → Bool → Fate
fate_if true true is_below = Settled
fate_if true false is_below = ByA
fate_if false true is_below = ByB
fate_if false false true = Settled
fate_if false false false = PassedOver

abbrev pub fate_of : List Placed → ℤ → Fate
fate_of s n = fate_if (came A n s) (came B n s) (int_lt n (bottom_number s))

-- what is kept of the last 1024 numbers of a stretch is what became of them, and the reach is how many numbers it has below its greatest
pub record TellsFates (s : List Placed) (p : Pending) : Type 0 where
  pub fates : (n : ℤ) → (top_number s -ℤ pos kept_numbers) <ℤ n → n ≤ℤ top_number s → fate_kept p (wire n) ≡ fate_of s n
  pub reach : p.reach ≡ min (size_of (top_number s -ℤ bottom_number s)) (kept_numbers - 1)

abbrev pub KeepsFates : List Placed → Pending → Type 0
KeepsFates [] p = p.reach ≡ 0
KeepsFates (y ∷ before) p = TellsFates (y ∷ before) p
