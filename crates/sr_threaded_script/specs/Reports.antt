-- What is printed of the nodes of a threaded network.
use Rattle.std.specs.Prelude.{◌≡◌, ℕ, ◌-◌, List, [], ◌∷◌, ◌++◌, length, All, codes, slice_get}
use Rattle.std.specs.Fmt.{decimal}
use Rattle.std.specs.List.{enumerate_from, filter_map, flat_map}
use Rattle.std.specs.Option.{option_map_or}
use Rattle.sr_lines.specs.declared.line.Line.{Line}
use Rattle.sr_lines.specs.declared.line.Line.TheVariants as line
use Rattle.sr_ports.specs.declared.worker.Worker.{Worker}
use Rattle.sr_ports.specs.declared.worker.Worker.TheVariants as who
use Rattle.sr_ports.specs.declared.settling.Settlement.{Settlement}
use Rattle.sr_ports.specs.declared.settling.Settlement.TheVariants.{Settled, Disagrees, Torn}
use Rattle.sr_script.specs.Texts.{printed}
use Rattle.sr_plant_script.specs.Texts.{up_line}
use Rattle.sr_threaded.specs.declared.kit.LineEnd.{LineEnd}
use Rattle.sr_threaded.specs.declared.kit.NodeEnd.{NodeEnd}
use Rattle.sr_workers.specs.declared.fault.WorkerFault.{WorkerFault}
use Rattle.sr_workers.specs.declared.feed.Feed.{Ghosts}
use Rattle.sr_threaded_script.specs.declared.host.Host.{Host}
use Rattle.sr_threaded_script.specs.Hosts.{host_given}

-- a worker, as a word
abbrev pub worker_word : Worker → List ℕ
worker_word who.A = codes "A"
worker_word who.B = codes "B"
worker_word who.C = codes "C"
worker_word who.Ager = codes "Ager"
worker_word who.Host = codes "Host"

-- the words of a settlement
abbrev pub settlement_words : Settlement → List (List ℕ)
settlement_words Settled = codes "settled" ∷ []
settlement_words (Disagrees w) = codes "disagrees" ∷ worker_word w ∷ []
settlement_words (Torn i) = codes "torn" ∷ []

abbrev pub settled_line : ℕ → Settlement → List ℕ
settled_line node s = printed (codes "node" ∷ decimal node ∷ settlement_words s)

abbrev pub lost_line : ℕ → ℕ → List ℕ
lost_line node count = printed (codes "lost" ∷ decimal node ∷ decimal count ∷ [])

-- a line for each frame that the host of a node was given, in order
abbrev pub given_lines : ℕ → List (List ℕ) → List ℕ
given_lines node [] = []
given_lines node (x ∷ xs) = up_line node x ++ given_lines node xs

-- what is printed of one node: what its host was given, how it settled, and how much it lost
abbrev pub node_lines : ℕ → List (List ℕ) → Settlement → ℕ → List ℕ
node_lines node given s lost = given_lines node given ++ (settled_line node s ++ lost_line node lost)

-- what the host at a line was given; at wires there is none
abbrev pub given_on_line : Line Host → List (List ℕ)
given_on_line (line.Host h) = host_given h
given_on_line (line.Ring c) = []
given_on_line (line.Lan l) = []

-- what the host of a node was given: it is at the last of its lines
abbrev pub given_to : {feed : Ghosts Host} → NodeEnd Host feed → List (List ℕ)
given_to e = option_map_or (λ (x : LineEnd Host). given_on_line x.line) (slice_get e.ends.items (length e.ends.items - 1)) []

-- what ended workers of a node early: of A, of B, and of the host, in this order
abbrev pub faults_of : {feed : Ghosts Host} → NodeEnd Host feed → List WorkerFault
faults_of e = filter_map (λ (x : LineEnd Host). x.fault) e.ends.items

-- no worker of these nodes ended early
abbrev pub AllWhole : {feed : Ghosts Host} → List (NodeEnd Host feed) → Type 0
AllWhole ends = All (λ e. faults_of e ≡ []) ends

-- what is printed of the node of this number that ended so: its own of each
abbrev pub end_lines : {feed : Ghosts Host} → ℕ → NodeEnd Host feed → List ℕ
end_lines node e = node_lines node (given_to e) e.settlement e.lost

-- what is printed of nodes, of which the first has this number, one after the other
abbrev pub report_from : {feed : Ghosts Host} → ℕ → List (NodeEnd Host feed) → List ℕ
report_from {feed} first ends = flat_map (λ (x : ℕ × NodeEnd Host feed). end_lines x.0 x.1) (enumerate_from first ends)

-- what is printed of all nodes
abbrev pub report_of : {feed : Ghosts Host} → List (NodeEnd Host feed) → List ℕ
report_of ends = report_from 0 ends
