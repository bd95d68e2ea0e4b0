-- The events of a plant, and what each does to it.
use Rattle.std.specs.Prelude.{◌≡◌, ℕ, ◌+◌, ◌≤◌, ◌⊎◌, Bool, true, false, not, ◌==◌, List, [], ◌∷◌, ◌++◌, length, filter, None, Some}
use Rattle.std.specs.List.{list_any}
use Rattle.sr_laws_plant.specs.Lists.{One, Each}
use Rattle.sr_laws_plant.specs.Frames.{Frame}
use Rattle.sr_laws_plant.specs.Handlings.{Handling, is_sending, IsSending}
use Rattle.sr_laws_plant.specs.Ledger.{Place, Copy, Net, spread, PlantTurn, handlings, count, made_in, lost_in, came_in}

-- a member's host sends; a member's clock goes on; the copy at a place of the list in flight is carried, dropped, repeated; a link is
-- cut or mended
pub data Event : Type 0 where
  send : (node : ℕ) → Event
  tick : (node now : ℕ) → Event
  carry : (place : ℕ) → Event
  drop : (place : ℕ) → Event
  repeat : (place : ℕ) → Event
  cut : (link : ℕ) → Event
  mend : (link : ℕ) → Event

-- the copies in flight, the links that are cut, the clock in milliseconds
pub record Plant : Type 0 where
  pub flight : List Copy
  pub cuts : List ℕ
  pub clock : ℕ

abbrev pub opening : Plant
opening = record { flight = []; cuts = []; clock = 0 }

-- nothing is in flight
abbrev pub IsQuiet : Plant → Type 0
IsQuiet p = p.flight ≡ []

abbrev pub is_on : ℕ → Copy → Bool
is_on link c = list_any (λ l. l == link) c.hop.links

-- one of its links is cut
abbrev pub is_stopped : List ℕ → Copy → Bool
is_stopped cuts c = list_any (λ link. is_on link c) cuts

abbrev pub those_stopped : List ℕ → List Copy → List Copy
those_stopped cuts cs = filter (is_stopped cuts) cs

abbrev pub those_passing : List ℕ → List Copy → List Copy
those_passing cuts cs = filter (λ c. not (is_stopped cuts c)) cs

-- the copy at this place, and the others
pub record IsTakenOut (flight : List Copy) (place : ℕ) (c : Copy) (rest : List Copy) : Type 0 where
  pub before : List Copy
  pub behind : List Copy
  pub index : length before ≡ place
  pub whole : flight ≡ before ++ c ∷ behind
  pub left : rest ≡ before ++ behind

-- a turn in which no copy is made, lost or comes in
abbrev pub idle_turn : PlantTurn
idle_turn = record { did = None; doubled = []; lost = []; came = [] }

-- a member puts out what it numbered; what it puts on a cut link is lost
pub record Sends (net : Net) (done : List Handling) (s : Plant) (now : ℕ) (d : Handling) (turn : PlantTurn) (t : Plant) : Type 0 where
  pub inlet : is_sending d ≡ true
  pub sending : IsSending done d
  pub time : d.time ≡ now
  pub says : turn ≡ record { did = Some d; doubled = []; lost = those_stopped s.cuts (spread net d); came = [] }
  pub after : t ≡ record { flight = s.flight ++ those_passing s.cuts (spread net d); cuts = s.cuts; clock = now }

-- a copy comes to its member, which refuses it: it is lost
pub record Refuses (s : Plant) (c : Copy) (rest : List Copy) (turn : PlantTurn) (t : Plant) : Type 0 where
  pub says : turn ≡ record idle_turn { lost = c ∷ [] }
  pub after : t ≡ record s { flight = rest }

-- or it is the member's own, and at its end
pub record Ends (s : Plant) (c : Copy) (rest : List Copy) (turn : PlantTurn) (t : Plant) : Type 0 where
  pub own : (c.hop.to.node == c.frame.src) ≡ true
  pub says : turn ≡ record idle_turn { came = c ∷ [] }
  pub after : t ≡ record s { flight = rest }

-- or the member takes it, and puts out what it sends on; what it puts on a cut link is lost
pub record Takes (net : Net) (s : Plant) (c : Copy) (rest : List Copy) (d : Handling) (turn : PlantTurn) (t : Plant) : Type 0 where
  pub foreign : (d.node == d.frame.src) ≡ false
  pub inlet : is_sending d ≡ false
  pub node : d.node ≡ c.hop.to.node
  pub port : d.inlet ≡ c.hop.to.port
  pub frame : d.frame ≡ c.frame
  pub time : d.time ≡ s.clock
  pub says : turn ≡ record { did = Some d; doubled = []; lost = those_stopped s.cuts (spread net d); came = c ∷ [] }
  pub after : t ≡ record s { flight = rest ++ those_passing s.cuts (spread net d) }

abbrev pub Carries : Net → Plant → ℕ → PlantTurn → Plant → Type 0
Carries net s place turn t =
    (c : Copy) × (rest : List Copy) × IsTakenOut s.flight place c rest
    × (Refuses s c rest turn t ⊎ (Ends s c rest turn t ⊎ ((d : Handling) × Takes net s c rest d turn t)))

-- the clock goes on; a member may send a life check, which is supervision
abbrev pub Ticks : Net → List Handling → Plant → ℕ → ℕ → PlantTurn → Plant → Type 0
Ticks net done s node now turn t =
    ((turn ≡ idle_turn) × (t ≡ record s { clock = now }))
    ⊎ ((d : Handling) × (d.node ≡ node) × (d.frame.supervision ≡ true) × Sends net done s now d turn t)

-- From one plant to the next, by cases of the event, after what members did so far.
abbrev pub Moves : Net → List Handling → Plant → Event → PlantTurn → Plant → Type 0
Moves net done s (send node) turn t = (d : Handling) × (d.node ≡ node) × Sends net done s s.clock d turn t
Moves net done s (tick node now) turn t = (s.clock ≤ now) × Ticks net done s node now turn t
Moves net done s (carry place) turn t = Carries net s place turn t
Moves net done s (drop place) turn t =
    (c : Copy) × (rest : List Copy) × IsTakenOut s.flight place c rest × Refuses s c rest turn t
Moves net done s (repeat place) turn t =
    (c : Copy) × (rest : List Copy) × IsTakenOut s.flight place c rest
    × (turn ≡ record idle_turn { doubled = c ∷ [] }) × (t ≡ record s { flight = s.flight ++ c ∷ [] })
Moves net done s (cut link) turn t =
    (turn ≡ record idle_turn { lost = filter (is_on link) s.flight })
    × (t ≡ record s { flight = filter (λ c. not (is_on link c)) s.flight; cuts = link ∷ s.cuts })
Moves net done s (mend link) turn t =
    (turn ≡ idle_turn) × (t ≡ record s { cuts = filter (λ l. not (l == link)) s.cuts })

-- the events from the opening on, each with its turn: it fixes what each member did, the pair of each copy, and which copies are lost
abbrev pub History : Type 0
History = List (Event × PlantTurn)

abbrev pub turns : History → List PlantTurn
turns [] = []
turns (e ∷ es) = e.1 ∷ turns es

-- what members did in it
abbrev pub done_in : History → List Handling
done_in es = handlings (turns es)

-- the history leads from the opening to this plant
abbrev pub PlantRun : Net → History → Plant → Type 0
PlantRun net [] t = t ≡ opening
PlantRun net (e ∷ es) t = (s : Plant) × PlantRun net es s × Moves net (done_in es) s e.0 e.1 t

-- In every plant each copy that was made is in flight, or was lost, or came in; there are no others.
abbrev pub CopiesAreAccountedFor : Type 0
CopiesAreAccountedFor =
    (net : Net) (es : History) (p : Plant) → PlantRun net es p → (q : Place) (f : Frame) →
    made_in net q f (turns es) ≡ count q f p.flight + lost_in q f (turns es) + came_in q f (turns es)

-- In every plant no copy in flight is on a link that is cut.
abbrev pub CutLinksCarryNothing : Type 0
CutLinksCarryNothing =
    (net : Net) (es : History) (p : Plant) → PlantRun net es p → (link : ℕ) → One (λ l. l ≡ link) p.cuts →
    Each (λ c. One (λ l. l ≡ link) c.hop.links → ⊥) p.flight
