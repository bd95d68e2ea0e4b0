-- What the hosts of a threaded network are to send.
use Rattle.std.specs.Prelude.{ℕ, ◌==◌, List, map, filter}

-- of all that is to be sent, what the host of this node is to send: the frames with its number, in the order of the script
abbrev pub own_frames : ℕ → List (ℕ × List ℕ) → List (List ℕ)
own_frames node sent = map (λ (s : ℕ × List ℕ). s.1) (filter (λ (s : ℕ × List ℕ). s.0 == node) sent)
