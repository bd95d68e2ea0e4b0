-- Alarms are told once.
use Rattle.std.proofs.Common.{◌≡◌, ℕ, ◌+◌, List, [], ◌∷◌, Option, None, Some, is_some, arith, refl}
use Rattle.sr_watch.specs.declared.alarm.Note.TheVariants.{Raised, Cleared}
use Rattle.sr_watch.specs.Alarms.{alarm_between, raised_with, raised_after, has_note, told_with, one_if_some, AlarmsAreToldOnce}

-- one check more
more : (raised holds : Option ℕ) (n m : ℕ) → n ≡ m + one_if_some raised →
    has_note Raised (alarm_between raised holds) + n ≡ (has_note Cleared (alarm_between raised holds) + m) + one_if_some (raised_with raised holds)
more None None n m e = omega (arith, e)
more None (Some since) n m e = omega (arith, e)
more (Some since) None n m e = omega (arith, e)
more (Some since) (Some again) n m e = omega (arith, e)

once : (checks : List (Option ℕ)) → told_with Raised checks ≡ told_with Cleared checks + one_if_some (raised_after checks)
once [] = refl
once (holds ∷ before) = more (raised_after before) holds (told_with Raised before) (told_with Cleared before) (once before)

stands : (raised holds : Option ℕ) → is_some (raised_with raised holds) ≡ is_some holds
stands None None = refl
stands None (Some since) = refl
stands (Some since) None = refl
stands (Some since) (Some again) = refl

pub told_once : AlarmsAreToldOnce
told_once = record { once = λ checks. record { each = once checks }; holds = λ holds before. stands (raised_after before) holds }
