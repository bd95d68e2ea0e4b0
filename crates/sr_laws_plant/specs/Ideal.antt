-- What an unbroken network would hand up: one with no paths and no copies.
use Rattle.std.specs.Prelude.{◌≡◌, ℕ, true, false, ◌==◌, List, [], ◌∷◌}
use Rattle.std.specs.List.{list_any}
use Rattle.sr_laws_plant.specs.Lists.{One, Each}
use Rattle.sr_laws_plant.specs.Frames.{is_for, Frame, same_pair}
use Rattle.sr_laws_plant.specs.Handlings.{IsSent, Handling}
use Rattle.sr_laws_plant.specs.OneNode.{handed}
use Rattle.sr_laws_plant.specs.PlantEvents.{History, done_in}

-- ideal for j: what other members' hosts sent to j, or to a group
pub record IsIdeal (j : ℕ) (f : Frame) (ds : List Handling) : Type 0 where
  pub sent : IsSent f ds
  pub host : f.supervision ≡ false
  pub for : is_for j f.dest ≡ true
  pub other : (j == f.src) ≡ false

abbrev pub IsHanded : ℕ → Frame → List Handling → Type 0
IsHanded j f ds = One (λ g. g ≡ f) (handed j ds)

-- each member hands up what is ideal for it, and nothing else
abbrev pub AreIdeal : History → Type 0
AreIdeal es = (j : ℕ) → Each (λ f. IsIdeal j f (done_in es)) (handed j (done_in es))

-- no two of one pair
abbrev pub AreApart : List Frame → Type 0
AreApart [] = Unit {0}
AreApart (f ∷ fs) = (list_any (same_pair f) fs ≡ false) × AreApart fs

-- each member hands up each pair once at most
abbrev pub AreOnce : History → Type 0
AreOnce es = (j : ℕ) → AreApart (handed j (done_in es))
