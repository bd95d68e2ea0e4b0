-- What forgetting leaves.
use Rattle.std.proofs.Common.{◌≡◌, ℕ, suc, ◌-◌, ◌<◌, ◌≤◌, Bool, true, false, cond, List, [], ◌∷◌, length, Option, None, Some}
use Rattle.std.proofs.Common.{refl, sym, ap, ◌∙◌, arith}
use Rattle.std.proofs.lemmas.Bool.{ltb-true, lt-ltb}
use Rattle.sr_frame.specs.declared.fields.Mac.{Mac}
use Rattle.sr_slots.specs.Calls.{passing}
use Rattle.sr_aged_slots.specs.declared.aged.Aged.{Aged}
use Rattle.sr_aged_slots.specs.Ages.{is_recent, live_by, live_at}

-- no more than there were
pub length-live_by_le : {X : Type 0} (time : X → ℕ) (span now : ℕ) (es : List (Mac × X)) → length (live_by time span now es) ≤ length es
length-live_by_le time span now [] = omega arith
length-live_by_le {X} time span now (e ∷ es) = by (is_recent span now (time e.1)) (length-live_by_le time span now es)
  where
    by : (b : Bool) → length (live_by time span now es) ≤ length es →
        length (cond b (e ∷ live_by time span now es) (live_by time span now es)) ≤ suc (length es)
    by true h = omega arith
    by false h = omega arith

pub length-live_le : {V : Type 0} (span now : ℕ) (es : List (Mac × Aged V)) → length (live_at span now es) ≤ length es
length-live_le span now es = length-live_by_le (λ v. v.time) span now es

-- a test of what is put in place of something, or of that
pub through_cond : {X : Type 0} (test : X → Bool) (b : Bool) (x : X) (o : Option X)
    → passing test (cond b (Some x) o) ≡ cond b (passing test (Some x)) (passing test o)
through_cond test true x o = refl
through_cond test false x o = refl

module _ {X : Type 0} (time : X → ℕ) (span now later : ℕ) (le : now ≤ later) where
  abbrev lives : ℕ → X → Bool
  lives at x = is_recent span at (time x)

  -- what is live later was live before
  live_before : (x : X) → lives later x ≡ true → lives now x ≡ true
  live_before x live = let l : later - time x < span = ltb-true (later - time x) span live in lt-ltb (now - time x) span (omega arith)

  pub passing_before : (o : Option X) → passing (lives later) (passing (lives now) o) ≡ passing (lives later) o
  passing_before None = refl
  passing_before (Some x) = by (lives now x) refl (lives later x) refl
    where
      by : (a : Bool) → lives now x ≡ a → (b : Bool) → lives later x ≡ b
          → passing (lives later) (cond a (Some x) None) ≡ cond (lives later x) (Some x) None
      by true p b q = refl
      by false p true q = let bad : true ≡ false = sym (live_before x q) ∙ p in cc
      by false p false q = sym (ap (λ c. cond c (Some x) None) q)

  abbrev live : ℕ → List (Mac × X) → List (Mac × X)
  live at s = live_by time span at s

  pub live_again : (s : List (Mac × X)) → live later (live now s) ≡ live later s
  live_again [] = refl
  live_again (e ∷ s) = by (lives now e.1) refl (lives later e.1) refl (live_again s)
    where
      by : (a : Bool) → lives now e.1 ≡ a → (b : Bool) → lives later e.1 ≡ b → live later (live now s) ≡ live later s
          → live later (cond a (e ∷ live now s) (live now s)) ≡ cond (lives later e.1) (e ∷ live later s) (live later s)
      by true p true q ih = λ j. cond (lives later e.1) (e ∷ ih j) (ih j)
      by true p false q ih = λ j. cond (lives later e.1) (e ∷ ih j) (ih j)
      by false p true q ih = let bad : true ≡ false = sym (live_before e.1 q) ∙ p in cc
      by false p false q ih = ih ∙ sym (ap (λ c. cond c (e ∷ live later s) (live later s)) q)
