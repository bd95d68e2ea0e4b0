-- What shows of a host of a threaded network.
use Rattle.std.specs.Prelude.{ℕ, List, [], map, take}
use Rattle.sr_workers.specs.Told.{Told, Framed}
use Rattle.sr_threaded_script.specs.declared.host.Host.{Host}

-- the frames that it is to send; they stay as they are
abbrev pub host_sends : Host → List (List ℕ)
host_sends h = h.frames.items

-- in how many turns it was asked
abbrev pub host_asked : Host → ℕ
host_asked h = h.asked

-- what it has handed out: in so many turns the first so many of its frames, each once, in order and at time 0, until there is none left
abbrev pub host_handed : Host → List Told
host_handed h = map (λ (f : List ℕ). Framed f 0) (take h.asked h.frames.items)

-- what it was given and has kept
abbrev pub host_given : Host → List (List ℕ)
host_given h = h.given.items

-- a host as one value: what it is to send, in how many turns it was asked, what it was given, how much of that it lost, and how often
-- it failed
pub record HostImage : Type 0 where
  pub sends : List (List ℕ)
  pub asked : ℕ
  pub given : List (List ℕ)
  pub lost : ℕ
  pub failed : ℕ

abbrev pub host_image : Host → HostImage
host_image h = record { sends = host_sends h; asked = host_asked h; given = host_given h; lost = h.lost; failed = h.failures }

-- one that is to send these frames, and was not asked yet
abbrev pub new_host : List (List ℕ) → HostImage
new_host frames = record { sends = frames; asked = 0; given = []; lost = 0; failed = 0 }
