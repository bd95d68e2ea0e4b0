-- Flows: the frames of one source to one single address, and which flows both captures see.
use Rattle.std.specs.Prelude.{
  ◌≡◌,
  ℕ,
  ◌/◌,
  ◌-◌,
  nat_lt,
  nat_le,
  nat_eq,
  Bool,
  false,
  not,
  ◌&&◌,
  ◌||◌,
  List,
  [],
  ◌∷◌,
  ◌++◌,
  length,
  map,
  filter,
  slice_index,
  is_some,
  fold,
  if◌then◌else◌,
}
use Rattle.std.specs.List.{list_any}
use Rattle.std.specs.Map.{lookup}
use Rattle.sr_frame.specs.Addresses.{mac_eq}
use Rattle.sr_frame.specs.declared.fields.Mac.{Mac}
use Rattle.sr_audit.specs.declared.audit.Audit.{Audit}
use Rattle.sr_audit.specs.declared.source.Figures.{Figures}
use Rattle.sr_audit.specs.declared.source.Source.{Source}
use Rattle.sr_audit.specs.Shown.{bounded_sum, figures_of, frames_in}
use Rattle.sr_capture_audit.specs.declared.flows.End.{End}
use Rattle.sr_capture_audit.specs.declared.flows.Flows.{Flows}
use Rattle.sr_capture_audit.specs.declared.flows.Sight.{Sight}
use Rattle.sr_capture_audit.specs.declared.flows.Sight.TheVariants.{All, Part}
use Rattle.sr_capture_audit.specs.declared.kind.Numbered.{Numbered}
use Rattle.sr_capture_audit.specs.declared.network.Network.{Network}
use Rattle.sr_capture_audit.specs.declared.network.Network.TheVariants.{Prp, Hsr}
use Rattle.sr_capture_audit.specs.Faults.{shows_lost}

-- a flow is named by the last three octets of both its addresses
abbrev pub flow_name : Mac → Mac → Mac
flow_name src dst = record {
  0 = slice_index src.0 3 ∷ slice_index src.0 4 ∷ slice_index src.0 5
      ∷ slice_index dst.0 3 ∷ slice_index dst.0 4 ∷ slice_index dst.0 5 ∷ [];
}

-- where a flow of a name leads
abbrev pub flow_end : Mac → Mac
flow_end name = record { 0 = 0 ∷ 0 ∷ 0 ∷ slice_index name.0 3 ∷ slice_index name.0 4 ∷ slice_index name.0 5 ∷ [] }

-- how many frames came by one side alone while the capture of the other side ran
abbrev pub lone_frames : Figures → ℕ
lone_frames f = bounded_sum (f.tally.alone.a - f.edges.a) (f.tally.alone.b - f.edges.b)

-- both captures see a flow: it has 18 pairs, and nine for each frame that came by one side alone
abbrev pub is_paired : Figures → Bool
is_paired f = nat_le 18 f.tally.pairs && nat_le (lone_frames f) (f.tally.pairs / 9)

-- it has 20 frames, and one capture does not see it
abbrev pub is_unpaired : Figures → Bool
is_unpaired f = not (is_paired f) && nat_le 20 (bounded_sum f.tally.pairs (lone_frames f))

-- frames of a flow came by one side alone, of which it is not known that both captures see it
abbrev pub is_single : Figures → Bool
is_single f = not (is_paired f) && shows_lost f

-- a table with a name more, unless it is there
abbrev pub with_name : List (Mac × End) → Mac × Mac → List (Mac × End)
with_name names n = if is_some (lookup (mac_eq n.0) names) then names else names ++ (n.0, record { 0 = n.1 }) ∷ []

-- the flows that both captures see, each with its end; and their ends
abbrev pub paired_in : List (Mac × Source) → List (Mac × Mac)
paired_in entries = map (λ e. (e.0, flow_end e.0)) (filter (λ e. is_paired (figures_of e.1)) entries)

abbrev pub ends_in : List (Mac × Source) → List (Mac × Mac)
ends_in entries = map (λ e. (flow_end e.0, flow_end e.0)) (filter (λ e. is_paired (figures_of e.1)) entries)

-- both recorders are mirrors: they see flows to three addresses, and all that have 20 frames
abbrev pub are_mirrors : List (Mac × Source) → Bool
are_mirrors entries = nat_le 3 (length (fold with_name [] (ends_in entries))) && not (list_any (λ e. is_unpaired (figures_of e.1)) entries)

-- what an audit of frames by flow tells of the flows
pub record AreFlowsIn (entries : List (Mac × Source)) (f : Flows) : Type 0 where
  pub paired : f.paired.entries ≡ fold with_name [] (paired_in entries)
  pub mirrors : f.are_mirrors ≡ are_mirrors entries
  pub single : f.has_single ≡ (not (are_mirrors entries) && list_any (λ e. is_single (figures_of e.1)) entries)

-- a frame tells of losses: it was sent to a group, or both recorders are mirrors, or both captures see its flow
abbrev pub judges : Flows → Numbered → Bool
judges f n = n.to_group || (f.are_mirrors || is_some (lookup (mac_eq (flow_name n.src n.dst)) f.paired.entries))

-- 20 numbers or more of a counter never came, and more than one for eight frames that did
abbrev pub lacks_many : Figures → Bool
lacks_many f = nat_le 20 f.neither && nat_lt (frames_in f.tally / 8) f.neither

-- frames of a PRP network go past one recorder alone, while those to one address of a ring always do
abbrev pub shows_part : Network → Flows → Bool
shows_part Prp f = f.has_single
shows_part Hsr f = false

-- the captures have but part of what was sent: frames of some flow came by one side, or many of a counter by none
abbrev pub sight_of : Network → Flows → Audit → Sight
sight_of network f counters =
    if shows_part network f || list_any (λ e. lacks_many (figures_of e.1)) counters.sources.entries then Part else All

-- all frames tell of losses: both recorders are mirrors, or an audit by flow has no flow
abbrev pub judges_all : Flows → Audit → Bool
judges_all f by_flow = f.are_mirrors || nat_eq (length by_flow.sources.entries) 0
