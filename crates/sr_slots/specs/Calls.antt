-- What a passed closure did with a value, and what the ranks of the values say.
use Rattle.std.specs.Prelude.{◌≡◌, ℕ, min, Bool, List, [], ◌∷◌, Option, None, Some, if◌then◌else◌}
use Rattle.std.specs.Map.{lookup, set_value}
use Rattle.std.specs.Borrow.{Bor, MutBor}
use Rattle.std.specs.Fn.{Once, FnOnceReturnsAtMut}
use Rattle.sr_frame.specs.declared.fields.Mac.{Mac}
use Rattle.sr_frame.specs.Addresses.{mac_eq}

-- the value at the address is what a call of the closure left of it, and the call gave this answer
pub record ChangesAt {F V R : Type 0} (g : Once F (MutBor V × Unit {0}) (R × (MutBor V × Unit {0}))) (f : F) (key : Mac)
    (old : List (Mac × V)) (answer : R) (new : List (Mac × V)) : Type 0 where
  pub was : V
  pub is : V
  pub found : lookup (mac_eq key) old ≡ Some was
  pub called : FnOnceReturnsAtMut g f was answer is
  pub written : new ≡ set_value (mac_eq key) old is

-- the least rank of the values, or the greatest number of 64 bits where there is none
abbrev pub least_rank : {V : Type 0} → (V → ℕ) → List (Mac × V) → ℕ
least_rank order [] = 18446744073709551615
least_rank order (e ∷ es) = min (order e.1) (least_rank order es)

-- the rank of a value, or the greatest number of 64 bits where there is none
abbrev pub rank_or_most : {V : Type 0} → (V → ℕ) → Option V → ℕ
rank_or_most order None = 18446744073709551615
rank_or_most order (Some v) = order v

-- the value, if it passes
abbrev pub passing : {V : Type 0} → (V → Bool) → Option V → Option V
passing test None = None
passing test (Some v) = if test v then Some v else None

-- what an item of the iterator shows
abbrev pub shown_entry : {V : Type 0} → Mac × Bor V → Mac × V
shown_entry item = (item.0, item.1.now)
