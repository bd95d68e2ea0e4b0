-- What the table of a node notes in a run, beside what the run brings.
use Rattle.std.proofs.Common.{◌≡◌, ◌⊎◌, ℕ, ◌+◌, ◌≤◌, ◌<◌, Bool, true, false, ◌||◌, ◌&&◌, List, [], ◌∷◌, ◌++◌, Option, None, Some, option_to_list, ℤ, pos, refl, sym, ap, ◌∙◌, arith, if◌then◌else◌}
use Rattle.std.specs.List.{list_any}
use Rattle.std.specs.Ordering.{int_eq}
use Rattle.std.proofs.lemmas.List.{map-append}
use Rattle.std.proofs.lemmas.List.Folds.{list_any-append}
use Rattle.sr_frame.specs.declared.fields.Mac.{Mac}
use Rattle.sr_frame.specs.declared.ports.Port.{Port}
use Rattle.sr_frame.specs.declared.ports.Port.TheVariants.{A, B, C}
use Rattle.sr_frame.specs.Addresses.{mac_eq}
use Rattle.sr_frame.specs.AddressLemmas.{mac_symm}
use Rattle.sr_dup_window.specs.declared.lane_sets.Lane.{Lane}
use Rattle.sr_dup_window.specs.declared.lane_sets.Lanes.{Lanes}
use Rattle.sr_dup_window.specs.LaneSets as lanes
use Rattle.sr_laws_dup.specs.TableRuns.{Arrival, Noting, was_noted, arrivals_of}
use Rattle.sr_laws_dup.specs.TableRuns as table
use Rattle.sr_forwarding.specs.Outlets.{has}
use Rattle.sr_forwarding.specs.Headers.{header_of}
use Rattle.sr_node.specs.declared.event.Event.{Event}
use Rattle.sr_node.specs.declared.event.Event.TheVariants as event
use Rattle.sr_node.specs.declared.mode.Mode.{Mode}
use Rattle.sr_node.specs.Limits.{first_number}
use Rattle.sr_node.specs.Images.{State, time_at}
use Rattle.sr_node.specs.Starts.{is_x}
use Rattle.sr_node.specs.Lanes.{lane_at, lanes_noted}
use Rattle.sr_node.specs.Arriving.{is_own, going_on}
use Rattle.sr_node.specs.LifeChecks.{is_due}
use Rattle.sr_laws_node.specs.NodeRuns.{Turn, happened, swapped}
use Rattle.sr_laws_node.specs.Brought.{Brought, brought, event_brings, arrival_brings, send_brings, life_brings, is_copy, is_at, inlet_lane, keeps, bars, given, gives_number, one_if, number_if, whole_number}
use Rattle.sr_laws_node.specs.SteadyNodes.{arrival_if, event_arrives, arrivals}
use Rattle.sr_laws_node.proofs.OriginLemmas.{AreOfOthers}
use Rattle.sr_laws_node.proofs.OutletLemmas.{noted_at, noted_came}

-- what is noted of an arrival that has a number
abbrev pub noting_if : Mac → Option ℤ → ℕ → Lanes → List Noting
noting_if src None now lanes = []
noting_if src (Some n) now lanes = record { arrival = record { src = src; number = n; time = now }; lanes = lanes } ∷ []

abbrev pub noted_of : Port → Brought → ℕ → List Noting
noted_of port b now = noting_if b.src b.number now (lanes_noted port b.wanted)

abbrev pub event_notes : List Turn → State → Event → ℤ → List Noting
event_notes before s (event.Arrive port p now) n = if is_own s p then [] else noted_of port (arrival_brings before s port p (time_at s now) n) (time_at s now)
event_notes before s (event.Send octets now) n = []
event_notes before s (event.Tick now) n = []
event_notes before s (event.Take port) n = []

-- all that the table notes, the newest first
abbrev pub notings : List Turn → List Noting
notings [] = []
notings (happened s e a n ∷ before) = event_notes before s e n ++ notings before
notings (swapped s r ∷ before) = notings before

arrival_of_noting : (src : Mac) (k : Option ℤ) (now : ℕ) (lanes : Lanes) → arrivals_of (noting_if src k now lanes) ≡ arrival_if src k now
arrival_of_noting src None now lanes = refl
arrival_of_noting src (Some n) now lanes = refl

if_own : (own : Bool) (xs : List Noting) (ys : List Arrival) → arrivals_of xs ≡ ys → arrivals_of (if own then [] else xs) ≡ (if own then [] else ys)
if_own true xs ys e = refl
if_own false xs ys e = e

arrivals_at : (before : List Turn) (s : State) (e : Event) (n : ℤ) → arrivals_of (event_notes before s e n) ≡ event_arrives before s e n
arrivals_at before s (event.Arrive port p now) n =
    let b = arrival_brings before s port p (time_at s now) n in
    if_own (is_own s p) (noted_of port b (time_at s now)) (arrival_if b.src b.number (time_at s now))
    (arrival_of_noting b.src b.number (time_at s now) (lanes_noted port b.wanted))
arrivals_at before s (event.Send octets now) n = refl
arrivals_at before s (event.Tick now) n = refl
arrivals_at before s (event.Take port) n = refl

-- the arrivals among them are those of the run
pub arrivals_are : (turns : List Turn) → arrivals_of (notings turns) ≡ arrivals turns
arrivals_are [] = refl
arrivals_are (happened s e a n ∷ before) =
    map-append (λ (x : Noting). x.arrival) (event_notes before s e n) (notings before)
    ∙ ap (λ xs. xs ++ arrivals_of (notings before)) (arrivals_at before s e n)
    ∙ ap (λ ys. event_arrives before s e n ++ ys) (arrivals_are before)
arrivals_are (swapped s r ∷ before) = arrivals_are before

or_false : (b : Bool) → (b || false) ≡ b
or_false true = refl
or_false false = refl

and_false : (b : Bool) → (b && false) ≡ false
and_false true = refl
and_false false = refl

-- a copy of a frame of which this holds
abbrev pub copies_that : (Brought → Bool) → Mac → ℤ → Brought → Bool
copies_that claim src n b = is_copy src n b && claim b

-- a lane says this of what comes in
abbrev pub SaysOfArrivals : Lane → (Brought → Bool) → Type 0
SaysOfArrivals l claim = (port : Port) (b : Brought) → b.inlet ≡ port → lanes.has (lanes_noted port b.wanted) l ≡ claim b

copies_arrival : (l : Lane) (claim : Brought → Bool) → SaysOfArrivals l claim → (src : Mac) (n : ℤ) (port : Port) (b : Brought) (now : ℕ) → b.inlet ≡ port
    → was_noted src n l (noted_of port b now) ≡ list_any (copies_that claim src n) (b ∷ [])
copies_arrival l claim says src n port b now at = by b.number refl
  where
    none : (m : Bool) (x : Bool) → ((m && false) && x) ≡ false
    none true x = refl
    none false x = refl

    by : (k : Option ℤ) → b.number ≡ k → was_noted src n l (noting_if b.src k now (lanes_noted port b.wanted)) ≡ list_any (copies_that claim src n) (b ∷ [])
    by None e =
        sym (ap (λ y. y || false) (ap (λ k. (mac_eq src b.src && list_any (int_eq n) (option_to_list k)) && claim b) e ∙ none (mac_eq src b.src) (claim b)))
    by (Some m) e =
        ap (λ y. y || false)
        (ap (λ y. (mac_eq src b.src && int_eq n m) && y) (says port b at)
        ∙ ap (λ y. (mac_eq src b.src && y) && claim b) (sym (or_false (int_eq n m)))
        ∙ ap (λ k. (mac_eq src b.src && list_any (int_eq n) (option_to_list k)) && claim b) (sym e))

-- a frame of another source is no copy
copies_other : (claim : Brought → Bool) (src : Mac) (n : ℤ) (b : Brought) → mac_eq src b.src ≡ false → list_any (copies_that claim src n) (b ∷ []) ≡ false
copies_other claim src n b other = ap (λ y. ((y && list_any (int_eq n) (option_to_list b.number)) && claim b) || false) other

if_own_noted : (own : Bool) (l : Lane) (claim : Brought → Bool) (src : Mac) (n : ℤ) (xs : List Noting) (ys : List Brought) → was_noted src n l xs ≡ list_any (copies_that claim src n) ys
    → was_noted src n l (if own then [] else xs) ≡ list_any (copies_that claim src n) (if own then [] else ys)
if_own_noted true l claim src n xs ys e = refl
if_own_noted false l claim src n xs ys e = e

if_due : (due : Bool) (claim : Brought → Bool) (src : Mac) (n : ℤ) (b : Brought) → list_any (copies_that claim src n) (b ∷ []) ≡ false → false ≡ list_any (copies_that claim src n) (if due then b ∷ [] else [])
if_due true claim src n b e = sym e
if_due false claim src n b e = refl

noted_in : (l : Lane) (claim : Brought → Bool) → SaysOfArrivals l claim → (src : Mac) (n : ℤ) (before : List Turn) (s : State) (e : Event) (k : ℤ) → mac_eq src s.role.mac ≡ false
    → was_noted src n l (event_notes before s e k) ≡ list_any (copies_that claim src n) (event_brings before s e k)
noted_in l claim says src n before s (event.Arrive port p now) k other =
    let b = arrival_brings before s port p (time_at s now) k in
    if_own_noted (is_own s p) l claim src n (noted_of port b (time_at s now)) (b ∷ []) (copies_arrival l claim says src n port b (time_at s now) refl)
noted_in l claim says src n before s (event.Send octets now) k other = sym (copies_other claim src n (send_brings before s octets (time_at s now)) other)
noted_in l claim says src n before s (event.Tick now) k other =
    let b = life_brings before s (time_at s now) in
    if_due (is_due s.core.life_at (time_at s now)) claim src n b (copies_other claim src n b other)
noted_in l claim says src n before s (event.Take port) k other = refl

-- the address in each state of these turns is this one
abbrev pub KeepAddress : Mac → List Turn → Type 0
KeepAddress mac [] = Unit {0}
KeepAddress mac (happened s e a n ∷ before) = KeepAddress mac before × (s.role.mac ≡ mac)
KeepAddress mac (swapped s r ∷ before) = KeepAddress mac before

-- the mode in each of these states is this one
abbrev pub KeepMode : Mode → List Turn → Type 0
KeepMode m [] = Unit {0}
KeepMode m (happened s e a n ∷ before) = KeepMode m before × (s.core.mode ≡ m)
KeepMode m (swapped s r ∷ before) = KeepMode m before

-- what is noted on a lane is what came in of which it says so
pub noted_copies : (l : Lane) (claim : Brought → Bool) → SaysOfArrivals l claim → (src : Mac) (n : ℤ) (mac : Mac) (turns : List Turn) → KeepAddress mac turns → mac_eq src mac ≡ false
    → was_noted src n l (notings turns) ≡ list_any (copies_that claim src n) (brought turns)
noted_copies l claim says src n mac [] keep other = refl
noted_copies l claim says src n mac (happened s e a k ∷ before) keep other =
    let here : mac_eq src s.role.mac ≡ false = ap (λ m. mac_eq src m) keep.1 ∙ other in
    list_any-append (λ (x : Noting). table.is_copy src n x.arrival && lanes.has x.lanes l) (event_notes before s e k) (notings before)
    ∙ ap (λ y. y || was_noted src n l (notings before)) (noted_in l claim says src n before s e k here)
    ∙ ap (λ y. list_any (copies_that claim src n) (event_brings before s e k) || y) (noted_copies l claim says src n mac before keep.0 other)
    ∙ sym (list_any-append (copies_that claim src n) (event_brings before s e k) (brought before))
noted_copies l claim says src n mac (swapped s r ∷ before) keep other = noted_copies l claim says src n mac before keep other

-- wanted there, or come in at the interlink
abbrev pub is_outward : Port → Brought → Bool
is_outward o b = has b.wanted o || (is_at C o && is_at C b.inlet)

abbrev pub came_there : Port → Brought → Bool
came_there o b = is_at o b.inlet

pub outward_noted : (o : Port) → SaysOfArrivals (lane_at o) (is_outward o)
outward_noted o port b at = noted_at port b.wanted o ∙ ap (λ i. has b.wanted o || (is_at C o && is_at C i)) (sym at)

pub came_noted : (o : Port) → (o ≡ A) ⊎ (o ≡ B) → SaysOfArrivals (inlet_lane o) (came_there o)
came_noted o side port b at = noted_came port b.wanted o side ∙ ap (λ i. is_at o i) (sym at)

-- in all that came in while the mode was this
abbrev AllOf : Mode → List Brought → Type 0
AllOf m [] = Unit {0}
AllOf m (b ∷ bs) = (b.mode ≡ m) × AllOf m bs

all_append : (m : Mode) (xs ys : List Brought) → AllOf m xs → AllOf m ys → AllOf m (xs ++ ys)
all_append m [] ys a b = b
all_append m (x ∷ xs) ys a b = (a.0, all_append m xs ys a.1 b)

all_if : (m : Mode) (c : Bool) (b : Brought) → b.mode ≡ m → AllOf m (if c then [] else b ∷ [])
all_if m true b e = tt
all_if m false b e = (e, tt)

all_if_due : (m : Mode) (c : Bool) (b : Brought) → b.mode ≡ m → AllOf m (if c then b ∷ [] else [])
all_if_due m true b e = (e, tt)
all_if_due m false b e = tt

all_in : (m : Mode) (before : List Turn) (s : State) (e : Event) (n : ℤ) → s.core.mode ≡ m → AllOf m (event_brings before s e n)
all_in m before s (event.Arrive port p now) n is = all_if m (is_own s p) (arrival_brings before s port p (time_at s now) n) is
all_in m before s (event.Send octets now) n is = (is, tt)
all_in m before s (event.Tick now) n is = all_if_due m (is_due s.core.life_at (time_at s now)) (life_brings before s (time_at s now)) is
all_in m before s (event.Take port) n is = tt

all_brought : (m : Mode) (turns : List Turn) → KeepMode m turns → AllOf m (brought turns)
all_brought m [] keep = tt
all_brought m (happened s e a n ∷ before) keep = all_append m (event_brings before s e n) (brought before) (all_in m before s e n keep.1) (all_brought m before keep.0)
all_brought m (swapped s r ∷ before) keep = all_brought m before keep

-- at a ring port: wanted there, or come in there in mode X
side_parts : (o : Port) (b : Mode → Bool) → is_at C o ≡ false → ((m : Mode) → keeps o m ≡ b m) → (src : Mac) (n : ℤ) (m : Mode) (bs : List Brought) → AllOf m bs →
    list_any (bars o src n) bs ≡ (list_any (copies_that (is_outward o) src n) bs || (b m && list_any (copies_that (came_there o) src n) bs))
side_parts o b no_c is src n m [] all = none (b m)
  where
    none : (x : Bool) → false ≡ (false || (x && false))
    none true = refl
    none false = refl
side_parts o b no_c is src n m (x ∷ xs) all =
    let rest = side_parts o b no_c is src n m xs all.1 in
    ap (λ k. (is_copy src n x && (has x.wanted o || (k && is_at o x.inlet))) || list_any (bars o src n) xs) (is x.mode ∙ ap b all.0)
    ∙ ap (λ k. (is_copy src n x && (has x.wanted o || (b m && is_at o x.inlet))) || k) rest
    ∙ sort (is_copy src n x) (has x.wanted o) (b m) (is_at o x.inlet) (list_any (copies_that (is_outward o) src n) xs) (list_any (copies_that (came_there o) src n) xs)
    ∙ ap (λ k. ((is_copy src n x && (has x.wanted o || (k && is_at C x.inlet))) || list_any (copies_that (is_outward o) src n) xs)
    || (b m && ((is_copy src n x && is_at o x.inlet) || list_any (copies_that (came_there o) src n) xs))) (sym no_c)
  where
    sort : (c w k i p q : Bool) → ((c && (w || (k && i))) || (p || (k && q))) ≡ (((c && (w || (false && is_at C x.inlet))) || p) || (k && ((c && i) || q)))
    sort false w k i p q = refl
    sort true true k i p q = refl
    sort true false false i true q = refl
    sort true false false i false q = refl
    sort true false true true true q = refl
    sort true false true true false q = refl
    sort true false true false true q = refl
    sort true false true false false q = refl

pub side_bars_a : (src : Mac) (n : ℤ) (m : Mode) (turns : List Turn) → KeepMode m turns →
    list_any (bars A src n) (brought turns) ≡ (list_any (copies_that (is_outward A) src n) (brought turns) || (is_x m && list_any (copies_that (came_there A) src n) (brought turns)))
side_bars_a src n m turns keep = side_parts A is_x refl (λ k. refl) src n m (brought turns) (all_brought m turns keep)

pub side_bars_b : (src : Mac) (n : ℤ) (m : Mode) (turns : List Turn) → KeepMode m turns →
    list_any (bars B src n) (brought turns) ≡ (list_any (copies_that (is_outward B) src n) (brought turns) || (is_x m && list_any (copies_that (came_there B) src n) (brought turns)))
side_bars_b src n m turns keep = side_parts B is_x refl (λ k. refl) src n m (brought turns) (all_brought m turns keep)

-- a frame of another source bars none
bars_other : (o : Port) (src : Mac) (n : ℤ) (b : Brought) → mac_eq src b.src ≡ false → list_any (bars o src n) (b ∷ []) ≡ false
bars_other o src n b other =
    ap (λ y. ((y && list_any (int_eq n) (option_to_list b.number)) && (has b.wanted o || (keeps o b.mode && is_at o b.inlet))) || false) other

-- a later number of the node is none of an earlier frame of it
later_own : (o : Port) (mac : Mac) (k m : ℕ) (b : Brought) → b.number ≡ Some (pos m) → m < k → list_any (bars o mac (pos k)) (b ∷ []) ≡ false
later_own o mac k m b e lt =
    let differ : int_eq (pos k) (pos m) ≡ false = not_equal k m lt in
    ap (λ x. ((mac_eq mac b.src && list_any (int_eq (pos k)) (option_to_list x)) && (has b.wanted o || (keeps o b.mode && is_at o b.inlet))) || false) e
    ∙ ap (λ y. ((mac_eq mac b.src && (y || false)) && (has b.wanted o || (keeps o b.mode && is_at o b.inlet))) || false) differ
    ∙ ap (λ y. (y && (has b.wanted o || (keeps o b.mode && is_at o b.inlet))) || false) (and_false (mac_eq mac b.src))
  where
    not_equal : (k m : ℕ) → m < k → int_eq (pos k) (pos m) ≡ false
    not_equal k m lt = grind arith

own_in : (o : Port) (mac : Mac) (k : ℕ) (before : List Turn) (s : State) (e : Event) (n : ℤ) → s.role.mac ≡ mac → first_number + (given before + one_if (gives_number s e)) ≤ k
    → list_any (bars o mac (pos k)) (event_brings before s e n) ≡ false
own_in o mac k before s (event.Arrive port p now) n same le = by (is_own s p) refl
  where
    by : (own : Bool) → is_own s p ≡ own → list_any (bars o mac (pos k)) (if own then [] else arrival_brings before s port p (time_at s now) n ∷ []) ≡ false
    by true e = refl
    by false e = bars_other o mac (pos k) (arrival_brings before s port p (time_at s now) n) (mac_symm mac (header_of p).src ∙ ap (λ m. mac_eq (header_of p).src m) (sym same) ∙ e)
own_in o mac k before s (event.Send octets now) n same le =
    later_own o mac k (first_number + given before) (send_brings before s octets (time_at s now)) refl (omega (arith, le))
own_in o mac k before s (event.Tick now) n same le = by (is_due s.core.life_at (time_at s now)) le
  where
    by : (due : Bool) → first_number + (given before + one_if due) ≤ k → list_any (bars o mac (pos k)) (if due then life_brings before s (time_at s now) ∷ [] else []) ≡ false
    by true le = later_own o mac k (first_number + given before) (life_brings before s (time_at s now)) refl (omega (arith, le))
    by false le = refl
own_in o mac k before s (event.Take port) n same le = refl

-- nothing bars a frame under the node's next number
pub own_is_new : (o : Port) (mac : Mac) (k : ℕ) (turns : List Turn) → KeepAddress mac turns → first_number + given turns ≤ k → list_any (bars o mac (pos k)) (brought turns) ≡ false
own_is_new o mac k [] keep le = refl
own_is_new o mac k (happened s e a n ∷ before) keep le =
    list_any-append (bars o mac (pos k)) (event_brings before s e n) (brought before)
    ∙ ap (λ y. y || list_any (bars o mac (pos k)) (brought before)) (own_in o mac k before s e n keep.1 le)
    ∙ own_is_new o mac k before keep.0 (omega (arith, le))
own_is_new o mac k (swapped s r ∷ before) keep le = own_is_new o mac k before keep le

-- no arrival is of the node's own address
others_if : (mac src : Mac) (k : Option ℤ) (now : ℕ) → mac_eq src mac ≡ false → AreOfOthers mac (arrival_if src k now)
others_if mac src None now other = tt
others_if mac src (Some n) now other = (tt, other)

others_join : (mac : Mac) (xs ys : List Arrival) → AreOfOthers mac xs → AreOfOthers mac ys → AreOfOthers mac (xs ++ ys)
others_join mac [] ys a b = b
others_join mac (x ∷ xs) ys a b = (others_join mac xs ys a.0 b, a.1)

others_in : (mac : Mac) (before : List Turn) (s : State) (e : Event) (n : ℤ) → s.role.mac ≡ mac → AreOfOthers mac (event_arrives before s e n)
others_in mac before s (event.Arrive port p now) n same = by (is_own s p) refl
  where
    src : Mac
    src = (header_of p).src

    k : Option ℤ
    k = number_if (going_on s port p).seq (whole_number before port p n)

    by : (own : Bool) → is_own s p ≡ own → AreOfOthers mac (if own then [] else arrival_if src k (time_at s now))
    by true e = tt
    by false e = others_if mac src k (time_at s now) (ap (λ m. mac_eq src m) (sym same) ∙ e)
others_in mac before s (event.Send octets now) n same = tt
others_in mac before s (event.Tick now) n same = tt
others_in mac before s (event.Take port) n same = tt

pub others_arrive : (mac : Mac) (turns : List Turn) → KeepAddress mac turns → AreOfOthers mac (arrivals turns)
others_arrive mac [] keep = tt
others_arrive mac (happened s e a n ∷ before) keep =
    others_join mac (event_arrives before s e n) (arrivals before) (others_in mac before s e n keep.1) (others_arrive mac before keep.0)
others_arrive mac (swapped s r ∷ before) keep = others_arrive mac before keep
