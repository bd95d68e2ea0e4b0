-- Ranks of what was released, and behind it of the fronts of both lines.
use Rattle.std.proofs.Common.{ℕ, ◌<◌, ◌≤◌, List, [], ◌∷◌, ◌++◌, arith}
use Rattle.sr_hold.specs.declared.recorder.Recorder.{Recorder}
use Rattle.sr_hold.specs.declared.recorder.Recorder.TheVariants.{A, B}
use Rattle.sr_hold.specs.declared.hold.Held.{Held}
use Rattle.sr_hold.specs.declared.hold.Released.{Released}
use Rattle.sr_hold.specs.Order.{as_released}

module _ {T : Type 0} where
  -- moments go up from one, and not over another
  abbrev pub Ascends : ℕ → List (Held T) → ℕ → Type 0
  Ascends low [] top = Unit {0}
  Ascends low (x ∷ xs) top = (low ≤ x.moment) × (x.moment ≤ top) × Ascends x.moment xs top

  pub ascends_push : (low : ℕ) (xs : List (Held T)) (top : ℕ) (m : Held T) → Ascends low xs top → low ≤ m.moment → top ≤ m.moment →
      Ascends low (xs ++ m ∷ []) m.moment
  ascends_push low [] top m up le over = (le, omega arith, tt)
  ascends_push low (x ∷ xs) top m up le over =
      let below : x.moment ≤ top = up.1 in
      (up.0, omega (arith, below, over), ascends_push x.moment xs top m up.2 (omega (arith, below, over)) over)

  pub ascends_wider : (low : ℕ) (xs : List (Held T)) (top wider : ℕ) → Ascends low xs top → top ≤ wider → Ascends low xs wider
  ascends_wider low [] top wider up le = tt
  ascends_wider low (x ∷ xs) top wider up le =
      let below : x.moment ≤ top = up.1 in
      (up.0, omega (arith, below, le), ascends_wider x.moment xs top wider up.2 le)

  pub ascends_lower : (low : ℕ) (xs : List (Held T)) (top : ℕ) → Ascends low xs top → Ascends 0 xs top
  ascends_lower low [] top up = tt
  ascends_lower low (x ∷ xs) top up = (omega arith, up.1, up.2)

  -- what was released lies below a limit
  abbrev pub AllBelow : ℕ → List (Released T) → Type 0
  AllBelow high [] = Unit {0}
  AllBelow high (x ∷ out) = (x.moment < high) × AllBelow high out

  pub below_raise : (high higher : ℕ) (out : List (Released T)) → high ≤ higher → AllBelow high out → AllBelow higher out
  below_raise high higher [] le all = tt
  below_raise high higher (x ∷ out) le all =
      let lt : x.moment < high = all.0 in
      (omega (arith, lt, le), below_raise high higher out le all.1)

  pub below_push : (high : ℕ) (out : List (Released T)) (x : Released T) → AllBelow high out → x.moment < high → AllBelow high (out ++ x ∷ [])
  below_push high [] x all lt = (lt, tt)
  below_push high (z ∷ out) x all lt = (all.0, below_push high out x all.1 lt)

  module _ (rank : Recorder → ℕ → ℕ) where
    abbrev pub FrontFrom : Recorder → ℕ → List (Held T) → Type 0
    FrontFrom r low [] = Unit {0}
    FrontFrom r low (x ∷ xs) = low ≤ rank r x.moment

    abbrev pub Chain : ℕ → List (Released T) → List (Held T) → List (Held T) → Type 0
    Chain low [] xs ys = FrontFrom A low xs × FrontFrom B low ys
    Chain low (x ∷ out) xs ys = (low ≤ rank x.recorder x.moment) × Chain (rank x.recorder x.moment) out xs ys

    abbrev pub AllUnder : ℕ → List (Released T) → Type 0
    AllUnder top [] = Unit {0}
    AllUnder top (x ∷ out) = (rank x.recorder x.moment ≤ top) × AllUnder top out

    pub under_below : (high top : ℕ) (out : List (Released T)) → ((s : Recorder) (m : ℕ) → m < high → rank s m ≤ top) → AllBelow high out →
        AllUnder top out
    under_below high top [] le all = tt
    under_below high top (x ∷ out) le all = (le x.recorder x.moment all.0, under_below high top out le all.1)

    -- an arrival more in a line
    pub chain_more_a : (low : ℕ) (out : List (Released T)) (xs ys : List (Held T)) (m : Held T) → Chain low out xs ys →
        low ≤ rank A m.moment → AllUnder (rank A m.moment) out → Chain low out (xs ++ m ∷ []) ys
    chain_more_a low [] [] ys m c le all = (le, c.1)
    chain_more_a low [] (x ∷ xs) ys m c le all = (c.0, c.1)
    chain_more_a low (x ∷ out) xs ys m c le all = (c.0, chain_more_a (rank x.recorder x.moment) out xs ys m c.1 all.0 all.1)

    pub chain_more_b : (low : ℕ) (out : List (Released T)) (xs ys : List (Held T)) (m : Held T) → Chain low out xs ys →
        low ≤ rank B m.moment → AllUnder (rank B m.moment) out → Chain low out xs (ys ++ m ∷ [])
    chain_more_b low [] xs [] m c le all = (c.0, le)
    chain_more_b low [] xs (y ∷ ys) m c le all = (c.0, c.1)
    chain_more_b low (x ∷ out) xs ys m c le all = (c.0, chain_more_b (rank x.recorder x.moment) out xs ys m c.1 all.0 all.1)

    -- the front of a line is released
    pub chain_take_a : (low : ℕ) (out : List (Released T)) (x : Held T) (xs ys : List (Held T)) → Chain low out (x ∷ xs) ys →
        FrontFrom A (rank A x.moment) xs → FrontFrom B (rank A x.moment) ys → Chain low (out ++ as_released A x ∷ []) xs ys
    chain_take_a low [] x xs ys c on_a on_b = (c.0, (on_a, on_b))
    chain_take_a low (z ∷ out) x xs ys c on_a on_b = (c.0, chain_take_a (rank z.recorder z.moment) out x xs ys c.1 on_a on_b)

    pub chain_take_b : (low : ℕ) (out : List (Released T)) (y : Held T) (xs ys : List (Held T)) → Chain low out xs (y ∷ ys) →
        FrontFrom A (rank B y.moment) xs → FrontFrom B (rank B y.moment) ys → Chain low (out ++ as_released B y ∷ []) xs ys
    chain_take_b low [] y xs ys c on_a on_b = (c.1, (on_a, on_b))
    chain_take_b low (z ∷ out) y xs ys c on_a on_b = (c.0, chain_take_b (rank z.recorder z.moment) out y xs ys c.1 on_a on_b)

    -- a front that is no earlier
    pub front_lower : (r : Recorder) (low high : ℕ) (xs : List (Held T)) → low ≤ high → FrontFrom r high xs → FrontFrom r low xs
    front_lower r low high [] le front = tt
    front_lower r low high (x ∷ xs) le front = let over : high ≤ rank r x.moment = front in omega (arith, le, over)

    pub front_ascends : (r : Recorder) (low : ℕ) (xs : List (Held T)) (top : ℕ) → ((m n : ℕ) → m ≤ n → rank r m ≤ rank r n) →
        Ascends low xs top → FrontFrom r (rank r low) xs
    front_ascends r low [] top mono up = tt
    front_ascends r low (x ∷ xs) top mono up = mono low x.moment up.0
