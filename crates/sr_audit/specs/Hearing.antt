-- Signs of life of a node, as they came in.
use Rattle.std.specs.Prelude.{
  ◌≡◌,
  ℕ,
  ◌-◌,
  ◌^◌,
  ◌<◌,
  ◌≤◌,
  ◌⊎◌,
  max,
  List,
  [],
  ◌∷◌,
  length,
  Option,
  None,
  Some,
  if◌then◌else◌,
}
use Rattle.std.specs.Map.{lookup}
use Rattle.sr_frame.specs.declared.fields.Mac.{Mac}
use Rattle.sr_frame.specs.Addresses.{mac_eq}
use Rattle.sr_audit.specs.declared.alive.Alive.{Alive}
use Rattle.sr_audit.specs.declared.alive.Lives.{Lives}
use Rattle.sr_audit.specs.declared.side.Side.{Side}
use Rattle.sr_audit.specs.declared.side.Side.TheVariants.{A, B}
use Rattle.sr_audit.specs.declared.source.Source.{Source}
use Rattle.sr_audit.specs.Limits.{most_audited}
use Rattle.sr_audit.specs.Shown.{bounded_sum}
use Rattle.sr_audit.specs.Stretches.{same_side}

-- a sign of life: the type of its first TLV, and where and when it came in
pub record Sign : Type 0 where
  pub kind : ℕ
  pub side : Side
  pub time : ℕ

abbrev pub sign_of : ℕ → Side → ℕ → Sign
sign_of kind side time = record { kind = kind; side = side; time = time }

-- when those came in that came by a side, newest first
abbrev pub times_at : Side → List Sign → List ℕ
times_at side [] = []
times_at side (s ∷ before) = if same_side side s.side then s.time ∷ times_at side before else times_at side before

-- the greatest time between two in a row, where none or another is known
abbrev pub wider : ℕ → Option ℕ → ℕ
wider gap None = gap
wider gap (Some most) = max most gap

abbrev pub gap_of : List ℕ → Option ℕ
gap_of [] = None
gap_of (t ∷ []) = None
gap_of (t ∷ u ∷ before) = Some (wider (t - u) (gap_of (u ∷ before)))

abbrev pub newest_of : List ℕ → Option ℕ
newest_of [] = None
newest_of (t ∷ before) = Some t

-- what is shown of the signs of life that came by a side, and of all of an address
abbrev pub lives_of : List ℕ → Lives
lives_of times = record { rx = length times; last = newest_of times; gap = gap_of times }

abbrev pub alive_of : List Sign → Option Alive
alive_of [] = None
alive_of (s ∷ before) =
    Some (record { kind = s.kind; a = lives_of (times_at A (s ∷ before)); b = lives_of (times_at B (s ∷ before)) })

-- what is kept with one sign more
abbrev pub gap_with : ℕ → Option ℕ → Option ℕ → Option ℕ
gap_with time None gap = gap
gap_with time (Some last) gap = Some (wider (time - last) gap)

abbrev pub lives_with : ℕ → Lives → Lives
lives_with time l = record { rx = bounded_sum l.rx 1; last = Some time; gap = gap_with time l.last l.gap }

abbrev pub alive_begun : ℕ → Alive
alive_begun kind = record {
  kind = kind;
  a = record { rx = 0; last = None; gap = None };
  b = record { rx = 0; last = None; gap = None };
}

abbrev pub alive_with : ℕ → Side → ℕ → Alive → Alive
alive_with kind A time k = record { kind = kind; a = lives_with time k.a; b = k.b }
alive_with kind B time k = record { kind = kind; a = k.a; b = lives_with time k.b }

abbrev pub alive_before : ℕ → Option Alive → Alive
alive_before kind None = alive_begun kind
alive_before kind (Some k) = k

-- these signs of life were taken, newest first
pub record HasHeard (signs : List Sign) (s : Source) : Type 0 where
  pub alive : length signs < 2 ^ 64 → s.alive ≡ alive_of signs

-- one more was taken
pub record HearsSign (sign : Sign) (old new : Source) : Type 0 where
  pub hears : (signs : List Sign) → HasHeard signs old → HasHeard (sign ∷ signs) new

-- a sign of life, and the address that it is for
abbrev pub Reported : Type 0
Reported = Mac × Sign

-- those for one address, newest first
abbrev pub signs_for : Mac → List Reported → List Sign
signs_for m [] = []
signs_for m (h ∷ before) = if mac_eq m h.0 then h.1 ∷ signs_for m before else signs_for m before

-- what is kept of an address says of the signs of life for it; nothing is kept where none came, or where so many sources came before
abbrev pub IsHeardFor : ℕ → List Sign → Option Source → Type 0
IsHeardFor count signs None = (signs ≡ []) ⊎ (most_audited ≤ count)
IsHeardFor count signs (Some s) = HasHeard signs s

-- these signs of life were taken, newest first: each address says of its own
pub record Hears (signs : List Reported) (entries : List (Mac × Source)) : Type 0 where
  pub each : (m : Mac) → IsHeardFor (length entries) (signs_for m signs) (lookup (mac_eq m) entries)
