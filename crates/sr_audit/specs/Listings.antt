-- Frames and copies that are listed one by one, as it is decided what became of them.
use Rattle.std.specs.Prelude.{◌≡◌, ℕ, ◌+◌, ◌-◌, ◌%◌, ◌<◌, ◌≤◌, zero, suc, length, Bool, true, false, List, [], ◌∷◌, ◌++◌}
use Rattle.std.specs.Prelude.{slice_set, slice_index_or, min, max, if◌then◌else◌}
use Rattle.sr_frame.specs.declared.fields.Mac.{Mac}
use Rattle.sr_sequence.specs.declared.Distance.TheVariants.{Behind, Ahead}
use Rattle.sr_sequence.specs.declared.Seq.{Seq}
use Rattle.sr_audit.specs.declared.arrival.Arrival.{Arrival}
use Rattle.sr_audit.specs.declared.listing.Copied.{Copied}
use Rattle.sr_audit.specs.declared.pending.Fate.{Fate}
use Rattle.sr_audit.specs.declared.pending.Fate.TheVariants.{Settled, PassedOver, ByA, ByB}
use Rattle.sr_audit.specs.declared.listing.Listed.{Listed}
use Rattle.sr_audit.specs.declared.listing.Listed.TheVariants.{Lost, Pair, Neither}
use Rattle.sr_audit.specs.declared.pending.Pending.{Pending}
use Rattle.sr_audit.specs.declared.look.Step.{Step}
use Rattle.sr_audit.specs.declared.look.Step.TheVariants.{First, Restart, Jump, On}
use Rattle.sr_audit.specs.declared.side.Side.{Side}
use Rattle.sr_audit.specs.declared.side.Side.TheVariants.{A, B}
use Rattle.sr_audit.specs.declared.span.Spans.{Spans}
use Rattle.sr_audit.specs.declared.tally.Came.{Came}
use Rattle.sr_audit.specs.Counting.{has_come, came_before_at}
use Rattle.sr_audit.specs.Edges.{is_beyond}
use Rattle.sr_audit.specs.Lanes.{other_side}
use Rattle.sr_sequence.specs.Numbers.{wire}
use Rattle.sr_audit.specs.Limits.{kept_numbers, place_in}
use Rattle.sr_audit.specs.Looks.{look_at}
use Rattle.sr_audit.specs.Rows.{kept_number}
use Rattle.sr_audit.specs.Stretches.{Placed, top_number}

-- what is kept of a number: what became of it so far, when its first copy came or it was passed over, and the packet of that copy
abbrev pub fate_kept : Pending → ℕ → Fate
fate_kept p seq = slice_index_or p.fates.items (place_in seq) Settled

abbrev pub time_kept : Pending → ℕ → ℕ
time_kept p seq = slice_index_or p.times.items (place_in seq) 0

abbrev pub packet_kept : Pending → ℕ → ℕ
packet_kept p seq = slice_index_or p.packets.items (place_in seq) 0

-- the first copy of a number, which came by a side
abbrev pub copy_kept : Pending → Mac → Seq → Side → Copied
copy_kept p src seq side =
    record { src = src; arrival = record { side = side; seq = seq; time = time_kept p seq.0 }; packet = packet_kept p seq.0 }

-- a frame that came by one side alone is lost, if it came while the capture of the other side ran
abbrev pub listed_if_lost : Spans → Copied → List Listed
listed_if_lost spans copy = if is_beyond spans (other_side copy.arrival.side) copy.arrival.time then [] else Lost copy ∷ []

-- what is listed of a number of which no further copy counts, by what became of it
abbrev pub settled_as : Spans → Pending → Mac → Seq → Fate → List Listed
settled_as spans p src seq Settled = []
settled_as spans p src seq PassedOver = Neither src seq (time_kept p seq.0) ∷ []
settled_as spans p src seq ByA = listed_if_lost spans (copy_kept p src seq A)
settled_as spans p src seq ByB = listed_if_lost spans (copy_kept p src seq B)

abbrev pub listed_of : Spans → Pending → Mac → Seq → List Listed
listed_of spans p src seq = settled_as spans p src seq (fate_kept p seq.0)

-- what is listed of so many of the last 1024 numbers of a stretch with that greatest number, from the least on
abbrev pub waiting : Spans → Pending → Mac → ℕ → ℕ → List Listed
waiting spans p src greatest zero = []
waiting spans p src greatest (suc k) = waiting spans p src greatest k ++ listed_of spans p src (record { 0 = kept_number greatest k })

-- a frame that came by one side alone is a pair with a copy at the other side: its first copy at side A, and when the first one came at B
abbrev pub paired_as : Pending → Copied → Fate → List Listed
paired_as p x Settled = []
paired_as p x PassedOver = []
paired_as p x ByA = Pair (copy_kept p x.src x.arrival.seq A) x.arrival.time ∷ []
paired_as p x ByB = Pair x (time_kept p x.arrival.seq.0) ∷ []

-- what became of a number is written down, with a time and a packet; all else stays
pub record PutsFate (seq : ℕ) (fate : Fate) (time packet : ℕ) (old new : Pending) : Type 0 where
  pub fates : new.fates.items ≡ slice_set old.fates.items (place_in seq) fate
  pub times : new.times.items ≡ slice_set old.times.items (place_in seq) time
  pub packets : new.packets.items ≡ slice_set old.packets.items (place_in seq) packet
  pub numbers : new.numbers ≡ old.numbers
  pub reach : new.reach ≡ old.reach
  pub listed : new.is_listed ≡ old.is_listed

-- a number is settled; all else stays
pub record SettlesNumber (seq : ℕ) (old new : Pending) : Type 0 where
  pub fates : new.fates.items ≡ slice_set old.fates.items (place_in seq) Settled
  pub times : new.times.items ≡ old.times.items
  pub packets : new.packets.items ≡ old.packets.items
  pub numbers : new.numbers ≡ old.numbers
  pub reach : new.reach ≡ old.reach
  pub listed : new.is_listed ≡ old.is_listed

-- what became of a frame whose first copy came by a side
abbrev pub fate_by : Side → Fate
fate_by A = ByA
fate_by B = ByB

-- a copy came of a frame: of none, of one that came by the other side alone, or of one that came by this side
abbrev pub TakesCopyIf : Bool → Bool → Copied → Pending → Pending → List Listed → List Listed → Type 0
TakesCopyIf false here x old new before after =
    PutsFate x.arrival.seq.0 (fate_by x.arrival.side) x.arrival.time x.packet old new × (after ≡ before)
TakesCopyIf true true x old new before after = (new ≡ old) × (after ≡ before)
TakesCopyIf true false x old new before after =
    SettlesNumber x.arrival.seq.0 old new × (after ≡ before ++ paired_as old x (fate_kept old x.arrival.seq.0))

abbrev pub TakesCopy : Came → Copied → Pending → Pending → List Listed → List Listed → Type 0
TakesCopy came x old new before after = TakesCopyIf (has_come came) (came_before_at came x.arrival.side) x old new before after

-- the number that lies so many steps before another
abbrev pub steps_before : ℕ → ℕ → ℕ
steps_before seq steps = (seq + (65536 - steps)) % 65536

-- a number was passed over at a time, and the one 1024 before it, which had its place, is decided
pub record GoesOver (spans : Spans) (src : Mac) (seq time : ℕ) (old new : Pending) (before after : List Listed) : Type 0 where
  pub listed : after ≡ before ++ listed_of spans old src (record { 0 = steps_before seq kept_numbers })
  pub mid : Pending
  pub settled : SettlesNumber (steps_before seq kept_numbers) old mid
  pub passed : PutsFate seq PassedOver time 0 mid new

-- the number that lies so many steps behind another
abbrev pub steps_behind : ℕ → ℕ → ℕ
steps_behind seq steps = (seq + steps) % 65536

-- there is room for the last 1024 numbers
pub record KeepsPlaces (p : Pending) : Type 0 where
  pub fates : length p.fates.items ≡ kept_numbers
  pub times : length p.times.items ≡ kept_numbers
  pub packets : length p.packets.items ≡ kept_numbers

-- what is kept of the numbers, and whether the source is listed, stay, and so does the room
pub record StaysAs (old new : Pending) : Type 0 where
  pub numbers : new.numbers ≡ old.numbers
  pub listed : new.is_listed ≡ old.is_listed
  pub room : KeepsPlaces old → KeepsPlaces new

-- the same is kept of a number
pub record IsKeptAs (old new : Pending) (seq : ℕ) : Type 0 where
  pub fate : fate_kept new seq ≡ fate_kept old seq
  pub time : time_kept new seq ≡ time_kept old seq
  pub packet : packet_kept new seq ≡ packet_kept old seq

-- on the way back to a number so many steps behind the greatest, all that lie deeper than a stretch reached are passed over at a time; the
-- same is kept of the others of 1024
pub record PassesOver (seq time depth steps : ℕ) (old new : Pending) : Type 0 where
  pub fates : (i : ℕ) → i + depth < steps → fate_kept new (steps_behind seq i) ≡ PassedOver
  pub times : (i : ℕ) → i + depth < steps → time_kept new (steps_behind seq i) ≡ time
  pub others : (i : ℕ) → steps ≤ i + depth → i < kept_numbers → IsKeptAs old new (steps_behind seq i)
  pub reach : new.reach ≡ max depth steps

-- on the way to a number so many steps ahead, all up to it are passed over at a time; the same is kept of the others of 1024
pub record PassesAhead (seq time steps : ℕ) (old new : Pending) : Type 0 where
  pub fates : (i : ℕ) → i < steps → fate_kept new (steps_before seq i) ≡ PassedOver
  pub times : (i : ℕ) → i < steps → time_kept new (steps_before seq i) ≡ time
  pub others : (i : ℕ) → steps ≤ i → i < kept_numbers → IsKeptAs old new (steps_before seq i)
  pub reach : new.reach ≡ min (old.reach + steps) (kept_numbers - 1)

-- nothing waits
pub record SettlesAll (new : Pending) : Type 0 where
  pub fates : (seq : ℕ) → fate_kept new seq ≡ Settled
  pub reach : new.reach ≡ 0

-- what is kept of the numbers where an arrival goes to its number: nothing waits where it begins a stretch behind others, and else the
-- numbers on its way are passed over
abbrev pub MovesTo : Step → Arrival → Pending → Pending → Type 0
MovesTo First x old new = new ≡ old
MovesTo Restart x old new = SettlesAll new
MovesTo Jump x old new = SettlesAll new
MovesTo (On (Ahead steps)) x old new = steps < kept_numbers → PassesAhead x.seq.0 x.time steps old new
MovesTo (On (Behind steps)) x old new = steps < kept_numbers → PassesOver x.seq.0 x.time old.reach steps old new

-- the number of which is decided what became of it where a stretch goes over one more, on the way to a number so many steps ahead
abbrev pub number_left : ℕ → ℕ → ℕ → ℕ
number_left seq steps k = steps_before (steps_before seq (steps - k - 1)) kept_numbers

-- what is listed of the first so many of these
abbrev pub left_behind : Spans → Pending → Mac → ℕ → ℕ → ℕ → List Listed
left_behind spans p src seq steps zero = []
left_behind spans p src seq steps (suc k) =
    left_behind spans p src seq steps k ++ listed_of spans p src (record { 0 = number_left seq steps k })

-- all that waits of the last 1024 numbers of a stretch is listed, from the least on
pub record ListsWaiting (spans : Spans) (p : Pending) (src : Mac) (greatest : ℕ) (before after : List Listed) : Type 0 where
  pub count : ℕ
  pub all : count ≡ kept_numbers
  pub listed : after ≡ before ++ waiting spans p src greatest count

-- what is listed where an arrival goes to its number: all that waits, where it begins a stretch, and else what the stretch leaves behind
abbrev pub ListsDecided : Spans → Pending → Copied → ℕ → Step → List Listed → List Listed → Type 0
ListsDecided spans p x greatest First before after = after ≡ before
ListsDecided spans p x greatest Restart before after = ListsWaiting spans p x.src greatest before after
ListsDecided spans p x greatest Jump before after = ListsWaiting spans p x.src greatest before after
ListsDecided spans p x greatest (On (Ahead steps)) before after = after ≡ before ++ left_behind spans p x.src x.arrival.seq.0 steps steps
ListsDecided spans p x greatest (On (Behind steps)) before after = after ≡ before

-- an arrival that goes on with a stretch lies less than 1024 ahead
abbrev pub IsStepWithin : Step → Type 0
IsStepWithin First = Unit {0}
IsStepWithin Restart = Unit {0}
IsStepWithin Jump = Unit {0}
IsStepWithin (On (Ahead steps)) = steps < kept_numbers
IsStepWithin (On (Behind steps)) = Unit {0}

-- the greatest number of the last stretch, as it is carried; where there is none, another
abbrev pub greatest_in : List (List Placed) → ℕ → ℕ
greatest_in [] seq = seq
greatest_in (s ∷ before) seq = wire (top_number s)

-- an arrival of a source that has these stretches goes to its number, and what this decides is listed; then it is a copy of its frame
pub record ListsArrival (spans : Spans) (ss : List (List Placed)) (x : Copied) (old new : Pending) (before after : List Listed) : Type 0
  where
    pub at : Pending
    pub room : KeepsPlaces at
    pub same : (seq : ℕ) → IsKeptAs old at seq
    pub same_reach : at.reach ≡ old.reach
    pub between : Pending
    pub still : KeepsPlaces between
    pub moves : MovesTo (look_at ss x.arrival).step x.arrival at between
    pub decided : List Listed
    pub goes : ListsDecided spans at x (greatest_in ss x.arrival.seq.0) (look_at ss x.arrival).step before decided
    pub taken : TakesCopy (look_at ss x.arrival).came x between new decided after

-- all that waits is listed at the end of a source that has these stretches
abbrev pub ListsEnd : Spans → Pending → Mac → List (List Placed) → List Listed → List Listed → Type 0
ListsEnd spans p src [] before after = after ≡ before
ListsEnd spans p src (s ∷ rest) before after = ListsWaiting spans p src (wire (top_number s)) before after
