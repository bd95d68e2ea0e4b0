-- How the addresses change that a role stands for.
use Rattle.std.specs.Prelude.{ℕ, ◌-◌, max, nat_lt, List, [], ◌∷◌, ◌++◌, length, filter, Option, None, Some, if◌then◌else◌}
use Rattle.std.specs.Map.{lookup, set_value}
use Rattle.sr_frame.specs.declared.fields.Mac.{Mac}
use Rattle.sr_frame.specs.declared.ports.Port.{Port}
use Rattle.sr_frame.specs.declared.ports.Port.TheVariants.{C}
use Rattle.sr_frame.specs.declared.learn_outcome.LearnOutcome.{LearnOutcome}
use Rattle.sr_frame.specs.declared.learn_outcome.LearnOutcome.TheVariants.{New, Known, Full}
use Rattle.sr_frame.specs.Addresses.{mac_eq}
use Rattle.sr_forwarding.specs.declared.header.Header.{Header}
use Rattle.sr_forwarding.specs.declared.role_image.RoleImage.{RoleImage}
use Rattle.sr_forwarding.specs.Limits.{most_proxied}
use Rattle.sr_forwarding.specs.RoleImages.{is_recent}
use Rattle.sr_forwarding.specs.Kinds.{stands_alone}

-- those that are not forgotten
abbrev pub recent_of : List (Mac × ℕ) → ℕ → List (Mac × ℕ)
recent_of ps now = filter (λ p. is_recent now p.1) ps

-- as many as there may be: the forgotten ones go
abbrev pub with_room : List (Mac × ℕ) → ℕ → List (Mac × ℕ)
with_room ps now = if nat_lt (length ps) most_proxied then ps else recent_of ps now

-- a new address goes last, where there is room
abbrev pub with_new : List (Mac × ℕ) → Mac → ℕ → List (Mac × ℕ)
with_new ps mac now = if nat_lt (length ps) most_proxied then ps ++ (mac, now) ∷ [] else ps

-- one that stands there gets the later time, in its place
abbrev pub with_address : Option ℕ → List (Mac × ℕ) → Mac → ℕ → List (Mac × ℕ)
with_address None ps mac now = with_new (with_room ps now) mac now
with_address (Some time) ps mac now = set_value (mac_eq mac) ps (max time now)

-- the addresses after this one was learned
abbrev pub proxied_after : List (Mac × ℕ) → Mac → ℕ → List (Mac × ℕ)
proxied_after ps mac now = with_address (lookup (mac_eq mac) ps) ps mac now

-- what became of a new address, and of one that stands there
abbrev pub answer_at : Option ℕ → List (Mac × ℕ) → ℕ → LearnOutcome
answer_at None ps now = if nat_lt (length (with_room ps now)) most_proxied then New else Full
answer_at (Some time) ps now = if is_recent now time then Known else New

abbrev pub proxy_answer : List (Mac × ℕ) → Mac → ℕ → LearnOutcome
proxy_answer ps mac now = answer_at (lookup (mac_eq mac) ps) ps now

-- at its interlink a role that stands for other addresses too learns the source; nothing else is learned
abbrev pub learned_at : Port → RoleImage → Header → ℕ → RoleImage
learned_at C r h now = record r { proxied = proxied_after r.proxied h.src now }
learned_at inlet r h now = r

abbrev pub learned : RoleImage → Header → Port → ℕ → RoleImage
learned r h inlet now = if stands_alone r.kind then r else learned_at inlet r h now

-- what `learn` answers
abbrev pub learnt_at : Port → RoleImage → Header → ℕ → LearnOutcome
learnt_at C r h now = proxy_answer r.proxied h.src now
learnt_at inlet r h now = Known

abbrev pub learnt : RoleImage → Header → Port → ℕ → LearnOutcome
learnt r h inlet now = if stands_alone r.kind then Known else learnt_at inlet r h now

-- the role after the forgotten addresses went
abbrev pub pruned : RoleImage → ℕ → RoleImage
pruned r now = record r { proxied = recent_of r.proxied now }

-- how many went
abbrev pub pruned_count : RoleImage → ℕ → ℕ
pruned_count r now = length r.proxied - length (recent_of r.proxied now)
