-- What goes out on the wires of a LAN, and what comes in.
use Rattle.std.specs.Prelude.{◌≡◌, ◌<◌, ◌≤◌, ◌⊎◌, ℕ, ◌+◌, Bool, true, false, ◌&&◌, if◌then◌else◌}
use Rattle.std.specs.Prelude.{List, [], ◌∷◌, ◌++◌, length, map, get_or, set}
use Rattle.sr_workers.specs.declared.feed.Given.{Given}
use Rattle.sr_workers.specs.declared.feed.Given.TheVariants.{Put, Lost}
use Rattle.sr_workers.specs.Told.{Told, Framed, Timed}
use Rattle.sr_wires.specs.Wired.{WasEmpty}
use Rattle.sr_lines.specs.declared.lan.Lan.{Lan as ALan}
use Rattle.sr_lines.specs.Losing.{MayLose}

-- what was sent on each wire of a LAN, and what was taken from each
abbrev pub sent_by_lan : ALan → List (List (List ℕ))
sent_by_lan l = map (λ e. e.send.frames) l.ends.items

abbrev pub taken_by_lan : ALan → List (List (List ℕ))
taken_by_lan l = map (λ e. e.take.frames) l.ends.items

-- what was seen to be taken from each wire that it sends on, and to be sent on each that it takes from
abbrev pub seen_taken_of_lan : ALan → List (List (List ℕ))
seen_taken_of_lan l = map (λ e. e.send.seen) l.ends.items

abbrev pub seen_sent_to_lan : ALan → List (List (List ℕ))
seen_sent_to_lan l = map (λ e. e.take.seen) l.ends.items

-- one frame more at this wire
abbrev pub grown_at : ℕ → List ℕ → List (List (List ℕ)) → List (List (List ℕ))
grown_at at octets wires = set wires at (get_or wires at [] ++ octets ∷ [])

-- a frame goes out on those of the wires of which it is said so, in their order
abbrev pub sent_where : List Bool → List ℕ → List (List (List ℕ)) → List (List (List ℕ))
sent_where [] octets wires = wires
sent_where (b ∷ bs) octets [] = []
sent_where (b ∷ bs) octets (w ∷ ws) = (if b then w ++ octets ∷ [] else w) ∷ sent_where bs octets ws

abbrev pub are_all : List Bool → Bool
are_all [] = true
are_all (b ∷ bs) = b && are_all bs

-- each wire that it does not go out on may lose it, after so many failures
abbrev pub MayLoseOthers : List Bool → List ℕ → ℕ → List (List (List ℕ)) → List (List (List ℕ)) → Type 0
MayLoseOthers puts octets failures sent seen =
    (i : ℕ) → i < length puts → get_or puts i true ≡ false → MayLose (get_or sent i []) (get_or seen i []) octets failures

-- a frame that a LAN is given goes out once on each of its wires, but for those that may lose it; it goes out on all, or it does not
pub record SpreadsTo (octets : List ℕ) (failures : ℕ) (before seen after : List (List (List ℕ))) (all : Bool) : Type 0 where
  pub puts : List Bool
  pub count : length puts ≡ length before
  pub sent : after ≡ sent_where puts octets before
  pub others : MayLoseOthers puts octets failures before seen
  pub all_is : all ≡ are_all puts

-- a frame that a LAN fails to take goes out on some of its first wires, once on each
pub record SpreadsToSome (octets : List ℕ) (before after : List (List (List ℕ))) : Type 0 where
  pub puts : List Bool
  pub few : length puts < length before
  pub sent : after ≡ sent_where puts octets before

-- it is put where it goes out on all wires, and lost where it does not
abbrev pub is_put : Given → Bool
is_put Put = true
is_put Lost = false

-- the wires at those of these places that it is said of were empty
abbrev pub WereEmpty : (ℕ → Type 0) → List (List (List ℕ)) → List (List (List ℕ)) → Type 0
WereEmpty P taken seen = (i : ℕ) → i < length taken → P i → WasEmpty (get_or taken i []) (get_or seen i [])

-- one of the wires from one place up to another took this frame, those before it there were empty, and the turn is the next one's
pub record TookBetween (from to : ℕ) (octets : List ℕ) (before seen after : List (List (List ℕ))) (turn : ℕ) : Type 0 where
  pub wire : ℕ
  pub low : from ≤ wire
  pub high : wire < to
  pub within : wire < length before
  pub taken : after ≡ grown_at wire octets before
  pub passed : WereEmpty (λ i. (from ≤ i) × (i < wire)) before seen
  pub next : turn ≡ wire + 1

-- the place comes before the wire in turn, where the turn is that of the first: from there to the last, and then from place 0
abbrev pub ComesBefore : ℕ → ℕ → ℕ → Type 0
ComesBefore first wire i = ((first ≤ i) × (i < wire)) ⊎ ((wire < first) × ((first ≤ i) ⊎ (i < wire)))

-- one wire took this frame, those before it in turn were empty, and the turn is the next one's
pub record TookOne (octets : List ℕ) (first : ℕ) (before seen after : List (List (List ℕ))) (turn : ℕ) : Type 0 where
  pub wire : ℕ
  pub within : wire < length before
  pub taken : after ≡ grown_at wire octets before
  pub passed : WereEmpty (λ i. ComesBefore first wire i) before seen
  pub next : turn ≡ wire + 1

-- what a LAN hands out is the frame that one wire took, at time 0; where it hands out nothing, none took one
abbrev pub HandsOutOf : ℕ → List (List (List ℕ)) → List (List (List ℕ)) → List (List (List ℕ)) → ℕ → List Told → Type 0
HandsOutOf first before seen after turn [] = after ≡ before
HandsOutOf first before seen after turn (Framed octets now ∷ []) = (now ≡ 0) × TookOne octets first before seen after turn
HandsOutOf first before seen after turn (Framed octets now ∷ t ∷ ts) = ⊥
HandsOutOf first before seen after turn (Timed now ∷ ts) = ⊥
