-- What went through a wire, and what its passes know of it.
use Rattle.std.specs.Prelude.{◌≡◌, ◌≤◌, ℕ, Bool, true, List, ◌++◌, length}
use mathlib.Core.Option.{some}
use lib.ListN.{get_elem?}
use Rattle.sr_wires.specs.declared.rule.Rights.{Rights}
use Rattle.sr_wires.specs.Limits.{most_waiting}

-- what was sent is what was taken, and then what waits, in order; no more than so many wait
pub record IsWire (sent taken waiting : List (List ℕ)) : Type 0 where
  pub order : sent ≡ taken ++ waiting
  pub room : length waiting ≤ most_waiting

-- the frames begin with these
abbrev pub BeginsWithFrames : List (List ℕ) → List (List ℕ) → Type 0
BeginsWithFrames frames first = (rest : List (List ℕ)) × (frames ≡ first ++ rest)

abbrev pub rights : Bool → Bool → List (List ℕ) → List (List ℕ) → List (List ℕ) → List (List ℕ) → Rights
rights a b sent taken seen_sent seen_taken =
    record { sends = a; takes = b; sent = sent; taken = taken; seen_sent = seen_sent; seen_taken = seen_taken }

-- the pass that may send is one, and knows what was sent, and the first of what was taken; so does the one that may take, the other way
-- round
abbrev pub KnowsWhatItDid : ℕ → ℕ → List (List ℕ) → List (List ℕ) → ℕ → Rights → Type 0
KnowsWhatItDid sender taker sent taken pass v =
    (v.sends ≡ true → (pass ≡ sender) × (v.sent ≡ sent) × BeginsWithFrames taken v.seen_taken)
    × (v.takes ≡ true → (pass ≡ taker) × (v.taken ≡ taken) × BeginsWithFrames sent v.seen_sent)

-- the rule of a wire: so its queue and its passes stand to each other
abbrev pub Wired : List (List ℕ) → List Rights → Type 0
Wired waiting views =
    (sender : ℕ) × (taker : ℕ) × (sent : List (List ℕ)) × (taken : List (List ℕ)) × IsWire sent taken waiting
    × ((pass : ℕ) (v : Rights) → get_elem? views pass ≡ some v → KnowsWhatItDid sender taker sent taken pass v)

-- where a frame comes back, the wire was full: behind all that was seen to be taken as many were sent as may wait, or more
abbrev pub WasFull : List (List ℕ) → List (List ℕ) → Type 0
WasFull sent seen = (rest : List (List ℕ)) × (sent ≡ seen ++ rest) × (most_waiting ≤ length rest)

-- where none is taken, the wire was empty: all that was seen to be sent was taken
abbrev pub WasEmpty : List (List ℕ) → List (List ℕ) → Type 0
WasEmpty taken seen = BeginsWithFrames taken seen
