-- What is told of a source by what is kept of it.
use Rattle.std.specs.Prelude.{
  ℕ,
  ◌+◌,
  ◌-◌,
  ◌/◌,
  ◌==◌,
  ◌&&◌,
  ◌||◌,
  not,
  false,
  max,
  nat_le,
  nat_lt,
  Bool,
  List,
  Option,
  Some,
  None,
  fold,
  if◌then◌else◌,
}
use Rattle.sr_frame.specs.declared.fields.Mac.{Mac}
use Rattle.sr_prp_trailer.specs.declared.trailer.Lan.{Lan}
use Rattle.sr_prp_trailer.specs.declared.trailer.Lan.TheVariants as lan
use Rattle.sr_supervision.specs.declared.message.Life.{Life}
use Rattle.sr_supervision.specs.declared.message.Life.TheVariants as life
use Rattle.sr_sources.specs.declared.lane.Lane.{Lane}
use Rattle.sr_sources.specs.declared.lane.Tail.{Tail}
use Rattle.sr_sources.specs.declared.kinds.NodeKind.{NodeKind}
use Rattle.sr_sources.specs.declared.kinds.NodeKind.TheVariants.{Danp, Danh, RedBox, BehindRedBox, San, Untold}
use Rattle.sr_sources.specs.declared.rates.Rates.{Rates}
use Rattle.sr_sources.specs.declared.rates.Second.{Second}
use Rattle.sr_sources.specs.declared.senders.Turns.{Turns}
use Rattle.sr_sources.specs.declared.source.Source.{Source}
use Rattle.sr_sources.specs.Limits.{whole_second, short_life, least_told}
use Rattle.sr_sources.specs.Rates.{second_of}

-- Two senders have one address in a LAN: its numbers went back to the run that they had left, three times or more, and more often than
-- elsewhere.
abbrev pub turn_to_and_fro : Turns → Bool
turn_to_and_fro t = nat_le least_told t.back && nat_lt t.elsewhere t.back

-- since when that is so
abbrev pub turned_since : Turns → Option ℕ
turned_since t = if turn_to_and_fro t then t.since else None

-- what is told of LAN A, or else what is of LAN B
abbrev pub told_first : {X : Type 0} → Option X → Option X → Option X
told_first (Some x) other = Some x
told_first None other = other

abbrev pub doubled_since : Source → Option ℕ
doubled_since s = told_first (turned_since s.a.turns) (turned_since s.b.turns)

-- A source lost its redundancy in a LAN: it had frames with a number there, and three or more behind them that have none; none before.
abbrev pub has_lost : Lane → Bool
has_lost l = nat_lt l.bare l.frames && ((l.tail.frames == l.bare) && nat_le least_told l.bare)

abbrev pub lost_at : Lan → Lane → Option (Lan × Tail)
lost_at own l = if has_lost l then Some (own, l.tail) else None

abbrev pub lost_redundancy : Source → Option (Lan × Tail)
lost_redundancy s = told_first (lost_at lan.A s.a) (lost_at lan.B s.b)

-- A source without redundancy: three frames or more in one LAN alone, none of which has a number.
abbrev pub is_bare_in : Lane → Lane → Bool
is_bare_in own other = nat_le least_told own.frames && ((own.bare == own.frames) && (other.frames == 0))

abbrev pub san_at : Lan → Lane → Lane → Option (Lan × ℕ)
san_at lan own other = if is_bare_in own other then Some (lan, own.frames) else None

abbrev pub san_of : Source → Option (Lan × ℕ)
san_of s = told_first (san_at lan.A s.a s.b) (san_at lan.B s.b s.a)

-- when the last frame of all came in a LAN
abbrev pub later_than : ℕ → Option ℕ → ℕ
later_than time None = time
later_than time (Some other) = max time other

abbrev pub last_in : Lan → Source → Option ℕ
last_in lan.A s = s.a.rates.last
last_in lan.B s = s.b.rates.last

abbrev pub end_with : Lan → ℕ → Mac × Source → ℕ
end_with own time e = later_than time (last_in own e.1)

abbrev pub end_at : Lan → List (Mac × Source) → ℕ
end_at own entries = fold (end_with own) 0 entries

-- In how many whole seconds a source is heard: from its first frame to its last one; where these are few, and it is silent for more than
-- a second behind them, those of the whole recording.
abbrev pub own_seconds : ℕ → ℕ → ℕ
own_seconds first last = second_of last - second_of first + 1

abbrev pub seconds_between : ℕ → ℕ → ℕ → ℕ
seconds_between end first last =
    if nat_lt (own_seconds first last) short_life && nat_lt whole_second (end - last) then second_of end + 1 else own_seconds first last

abbrev pub life_from : ℕ → Option ℕ → Option ℕ → ℕ
life_from end (Some first) (Some last) = seconds_between end first last
life_from end (Some first) None = 0
life_from end None last = 0

-- A source babbles in a LAN: it has 500 frames or more in a whole second, and fewer than 50 in half of them or more.
abbrev pub is_quiet : ℕ → Lane → Bool
is_quiet end l = nat_le l.rates.busy (life_from end l.first l.rates.last / 2)

abbrev pub loud_in : ℕ → Lane → Option ℕ → Option Second
loud_in end l None = None
loud_in end l (Some since) = if is_quiet end l then Some (record { frames = l.rates.fullest.frames; since = since }) else None

abbrev pub babbling_at : ℕ → Lane → Option Second
babbling_at end l = loud_in end l l.rates.loud

-- it has so many in a LAN all the time
abbrev pub is_busy_in : ℕ → Lane → Option ℕ → Bool
is_busy_in end l None = false
is_busy_in end l (Some since) = not (is_quiet end l)

abbrev pub is_busy_at : ℕ → Lane → Bool
is_busy_at end l = is_busy_in end l l.rates.loud

-- A source babbles where it does so in a LAN, and has so many in none all the time: a LAN that lost it is no sign.
abbrev pub babbling : ℕ → ℕ → Source → Option Second
babbling end_a end_b s =
    if is_busy_at end_a s.a || is_busy_at end_b s.b then None else told_first (babbling_at end_a s.a) (babbling_at end_b s.b)

-- What kind of node a source is: as supervision says, or else one without redundancy where no frame has a number.
abbrev pub kind_by_life : Option Life → Source → NodeKind
kind_by_life (Some life.Hsr) s = Danh
kind_by_life (Some life.PrpDiscard) s = Danp
kind_by_life (Some life.PrpAccept) s = Danp
kind_by_life (Some life.Announce) s = Untold
kind_by_life None s = if (s.a.bare == s.a.frames) && (s.b.bare == s.b.frames) then San else Untold

abbrev pub kind_behind : Option Mac → Source → NodeKind
kind_behind (Some redbox) s = BehindRedBox redbox
kind_behind None s = kind_by_life s.life s

abbrev pub node_kind : Source → NodeKind
node_kind s = if s.is_redbox then RedBox else kind_behind s.redbox s
