-- What is left of workers' pairs.
use Rattle.std.specs.Prelude.{◌≡◌, ℕ, List, Option, Some, None, slice_index_or}
use Rattle.std.specs.Borrow.{Bor}
use Rattle.sr_node.specs.declared.event.Event.{Event}
use Rattle.sr_node.specs.declared.event.Answer.{Answer}
use Rattle.sr_ports.specs.declared.rests.Rests.{Rests}
use Rattle.sr_ports.specs.declared.worker.Worker.{Worker}
use Rattle.sr_ports.specs.declared.worker.Worker.TheVariants.{A, B, C, Ager, Host}

-- where it stands
abbrev pub worker_place : Worker → ℕ
worker_place A = 0
worker_place B = 1
worker_place C = 2
worker_place Ager = 3
worker_place Host = 4

-- of this worker
abbrev pub rest_of : Worker → Rests → Option (Bor (List (Event × Answer)))
rest_of w r = slice_index_or r.left (worker_place w) None

-- these pairs, and no others, are left
abbrev pub IsRest : List (Event × Answer) → Option (Bor (List (Event × Answer))) → Type 0
IsRest pairs (Some rest) = pairs ≡ rest.now
IsRest pairs None = ⊥
