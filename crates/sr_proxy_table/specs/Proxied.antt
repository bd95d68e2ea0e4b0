-- The addresses that a RedBox stands for, and when each was learned last.
use Rattle.std.specs.Prelude.{
  ℕ,
  Bool,
  not,
  ◌&&◌,
  max,
  nat_lt,
  List,
  [],
  ◌∷◌,
  ◌++◌,
  length,
  filter,
  map,
  Option,
  None,
  Some,
  is_some,
  if◌then◌else◌,
}
use Rattle.std.specs.List.{filter_map}
use Rattle.std.specs.Map.{lookup, set_value}
use Rattle.sr_frame.specs.Addresses.{mac_eq}
use Rattle.sr_frame.specs.declared.fields.Mac.{Mac}
use Rattle.sr_frame.specs.declared.learn_outcome.LearnOutcome.{LearnOutcome}
use Rattle.sr_frame.specs.declared.learn_outcome.LearnOutcome.TheVariants.{New, Known, Full}
use Rattle.sr_slots.specs.Calls.{passing}
use Rattle.sr_aged_slots.specs.Ages as ages
use Rattle.sr_aged_slots.specs.declared.aged.Aged.{Aged}

-- how long an address is remembered, in milliseconds, and how many are kept: choices of this project
abbrev pub forget_time : ℕ
forget_time = 60000

abbrev pub most_proxied : ℕ
most_proxied = 256

-- the addresses in the order of their first learning, each with the time of its last
abbrev pub Entry : Type 0
Entry = Aged (Unit {0})

abbrev pub Entries : Type 0
Entries = List (Mac × Entry)

-- each address with that time
abbrev pub times_of : Entries → List (Mac × ℕ)
times_of s = map (λ e. (e.0, e.1.time)) s

abbrev pub learned_at : ℕ → Entry
learned_at now = record { value = record {}; time = now }

-- an address that was learned less than 60000 ms ago
abbrev pub is_live : ℕ → Entry → Bool
is_live now e = ages.is_recent forget_time now e.time

abbrev pub live_at : ℕ → Entries → Entries
live_at now s = ages.live_at forget_time now s

-- the live addresses but one
abbrev pub live_others : Mac → ℕ → Entries → Entries
live_others mac now s = filter (λ e. is_live now e.1 && not (mac_eq mac e.0)) s

abbrev pub has_at : Entries → Mac → ℕ → Bool
has_at s mac now = is_some (passing (is_live now) (lookup (mac_eq mac) s))

-- a full table lets its forgotten addresses go
abbrev pub with_room : ℕ → Entries → Entries
with_room now s = ages.with_room forget_time most_proxied now s

-- an address that is learned again: an earlier time counts as its own
abbrev pub learned_again : Entry → ℕ → Entry
learned_again e now = record e { time = max e.time now }

abbrev pub learnt_again : ℕ → Entry → LearnOutcome
learnt_again now e = if is_live now e then Known else New

-- what a learning is answered
abbrev pub answer_of : Option Entry → Entries → ℕ → LearnOutcome
answer_of (Some e) s now = learnt_again now e
answer_of None s now = if nat_lt (length (with_room now s)) most_proxied then New else Full

abbrev pub answer_to : Entries → Mac → ℕ → LearnOutcome
answer_to s mac now = answer_of (lookup (mac_eq mac) s) s now

-- the addresses after one that is kept: it keeps its place, or comes last
abbrev pub kept_by : Option Entry → Entries → Mac → ℕ → Entries
kept_by (Some e) s mac now = set_value (mac_eq mac) s (learned_again e now)
kept_by None s mac now = with_room now s ++ (mac, learned_at now) ∷ []

abbrev pub after_answer : LearnOutcome → Entries → Mac → ℕ → Entries
after_answer Full s mac now = s
after_answer _ s mac now = kept_by (lookup (mac_eq mac) s) s mac now

-- the addresses after any learning: one that is answered Full leaves them
abbrev pub after_learning : Entries → Mac → ℕ → Entries
after_learning s mac now = after_answer (answer_to s mac now) s mac now

-- an address, if it is live
abbrev pub live_mac : ℕ → Mac × Entry → Option Mac
live_mac now e = if is_live now e.1 then Some e.0 else None

abbrev pub listed_at : Entries → ℕ → List Mac
listed_at s now = filter_map (live_mac now) s
