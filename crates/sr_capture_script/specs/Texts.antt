-- What is printed for packets.
use Rattle.std.specs.Prelude.{
  ℕ,
  ◌+◌,
  ◌-◌,
  ◌*◌,
  ◌/◌,
  min,
  map,
  List,
  [],
  ◌∷◌,
  ◌++◌,
  length,
  codes,
  Option,
  Some,
  None,
  unwrap_or,
  Bool,
  not,
  nat_lt,
  ◌||◌,
  ◌==◌,
  if◌then◌else◌,
  ◌^◌,
}
use Rattle.std.specs.List.{join_with_byte, flat_map, range_with_len}
use Rattle.std.specs.Fmt.{decimal}
use Rattle.hex.specs.Hex.{encode_lower}
use Rattle.sr_capture.specs.Records.{Captured}
use Rattle.sr_capture_script.specs.declared.choice.Inlet.{Inlet}
use Rattle.sr_capture_script.specs.declared.choice.Inlet.TheVariants.{A, B, C}
use Rattle.sr_capture_script.specs.declared.choice.Choice.{Choice}
use Rattle.sr_capture_script.specs.declared.flaws.Flaw.{Flaw}
use Rattle.sr_capture_script.specs.declared.flaws.FlawCounts.{FlawCounts}
use Rattle.sr_capture_script.specs.Flaws.{flaw_of, name_of, tallied}
use Rattle.sr_capture_script.specs.Items.{Item}

-- words with single spaces between them, as a line
abbrev pub printed : List (List ℕ) → List ℕ
printed words = join_with_byte 32 words ++ 10 ∷ []

abbrev pub letter_of : Inlet → List ℕ
letter_of A = codes "A"
letter_of B = codes "B"
letter_of C = codes "C"

-- octets that arrive at a port at a time in milliseconds
abbrev pub arrival_line : Inlet → ℕ → List ℕ → List ℕ
arrival_line inlet time octets = printed (codes "in" ∷ letter_of inlet ∷ decimal time ∷ encode_lower octets ∷ [])

-- a packet that is not used, by its number, and why
abbrev pub comment_line : Inlet → ℕ → Flaw → List ℕ
comment_line inlet number flaw = printed (codes "#" ∷ letter_of inlet ∷ decimal number ∷ name_of flaw ∷ [])

-- time passes
abbrev pub tick_line : ℕ → List ℕ
tick_line time = printed (codes "tick" ∷ decimal time ∷ [])

-- how many packets have a time before that of one ahead of them, where there are such
abbrev pub back_part : ℕ → List ℕ
back_part back = if back == 0 then [] else codes ", " ++ decimal back ++ codes " before one ahead of them"

-- how many packets a file had, how many of them are not used for each reason, and how many have times that go back
abbrev pub numbers_line : Inlet → ℕ → FlawCounts → List ℕ
numbers_line inlet number counts = join_with_byte 32
    (codes "#" ∷ letter_of inlet ∷ decimal number ∷ codes "packets," ∷ decimal counts.cut ∷ codes "cut,"
    ∷ decimal counts.long ∷ codes "long," ∷ decimal counts.empty ∷ codes "empty" ∷ [])
    ++ back_part counts.back ++ 10 ∷ []

-- the line of the counts of a file's packets; numbers are printed up to 18446744073709551615
abbrev pub counts_line : Inlet → List Captured → List ℕ
counts_line inlet packets = numbers_line inlet (min (length packets) (2 ^ 64 - 1)) (tallied packets)

abbrev pub line_by : Option Flaw → Inlet → ℕ → ℕ → List ℕ → List ℕ
line_by None inlet number time octets = arrival_line inlet time octets
line_by (Some flaw) inlet number time octets = comment_line inlet number flaw

-- the line of a packet; its number is printed up to 18446744073709551615
abbrev pub line_of : Inlet → ℕ → ℕ → Captured → List ℕ
line_of inlet number time packet = line_by (flaw_of packet) inlet (min number (2 ^ 64 - 1)) time packet.octets

-- milliseconds since a moment
abbrev pub time_since : ℕ → ℕ → ℕ
time_since base moment = (moment - base) / 1000000

-- whether lines of this time are wanted
abbrev pub is_wanted : Choice → ℕ → Bool
is_wanted choice time = not (nat_lt time choice.from || nat_lt (unwrap_or choice.to time) time)

-- whole steps of a grid from its beginning to a time
abbrev pub steps_to : ℕ → ℕ → ℕ → ℕ
steps_to from step time = (time - from) / step

-- the times from + k * step of a grid that are behind a time and not behind another
abbrev pub grid_between : ℕ → ℕ → ℕ → ℕ → List ℕ
grid_between from step last time =
    map (λ k. from + k * step) (range_with_len (steps_to from step last + 1) (steps_to from step time - steps_to from step last))

-- whether a time is on the grid
abbrev pub is_on_grid : ℕ → ℕ → ℕ → Bool
is_on_grid from step time = from + steps_to from step time * step == time

-- a time, where it is on the grid
abbrev pub grid_at : ℕ → ℕ → ℕ → List ℕ
grid_at from step time = if is_on_grid from step time then time ∷ [] else []

-- the ticks up to a time and at it: behind the line of the time `last`, or at the time alone where no line stands before
abbrev pub tick_times : ℕ → ℕ → Option ℕ → ℕ → List ℕ
tick_times from step None time = grid_at from step time
tick_times from step (Some last) time = grid_between from step last time

-- their lines, if ticks are wanted
abbrev pub ticks_to : ℕ → Option ℕ → Option ℕ → ℕ → List ℕ
ticks_to from None last time = []
ticks_to from (Some step) last time = flat_map tick_line (tick_times from step last time)

-- what is printed for an item, where a line of the time `last` stands before: ticks and its line, or nothing if its time is not wanted
abbrev pub piece_of : Choice → ℕ → Option ℕ → Item → List ℕ
piece_of choice base last item =
    if is_wanted choice (time_since base item.moment)
    then ticks_to choice.from choice.tick last (time_since base item.moment)
    ++ line_of item.inlet item.number (time_since base item.moment) item.packet
    else []

-- the time of the last line behind an item
abbrev pub last_after : Choice → ℕ → Option ℕ → ℕ → Option ℕ
last_after choice base last moment = if is_wanted choice (time_since base moment) then Some (time_since base moment) else last

-- what is printed for items in order
abbrev pub pieces_of : Choice → ℕ → Option ℕ → List Item → List ℕ
pieces_of choice base last [] = []
pieces_of choice base last (item ∷ items) = piece_of choice base last item
    ++ pieces_of choice base (last_after choice base last item.moment) items

-- the time of the last line behind items, where that before them is known
abbrev pub last_behind : Choice → ℕ → Option ℕ → List Item → Option ℕ
last_behind choice base last [] = last
last_behind choice base last (item ∷ items) = last_behind choice base (last_after choice base last item.moment) items

-- the moment of the first item
abbrev pub first_moment : List Item → Option ℕ
first_moment [] = None
first_moment (item ∷ items) = Some item.moment

-- times are counted from the first item on
abbrev pub base_of : List Item → ℕ
base_of items = unwrap_or (first_moment items) 0

-- the lines of the items
abbrev pub lines_of : Choice → List Item → List ℕ
lines_of choice items = pieces_of choice (base_of items) None items

-- the time of the last line of an item
abbrev pub last_line : Choice → List Item → Option ℕ
last_line choice items = last_behind choice (base_of items) None items

-- the ticks behind the last line: up to the last time that is wanted, if one is named
abbrev pub last_ticks : Choice → Option ℕ → List ℕ
last_ticks choice None = []
last_ticks choice (Some last) = ticks_to choice.from choice.tick (Some last) (unwrap_or choice.to last)
