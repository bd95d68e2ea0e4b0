-- What flows tell of where recorders are, as functions of the arrivals by flow.
use Rattle.std.specs.Prelude.{◌≡◌, nat_le, Bool, not, ◌&&◌, ◌||◌, List, map, filter, is_some, if◌then◌else◌}
use Rattle.std.specs.Map.{lookup}
use Rattle.std.specs.Set.{distinct_count}
use Rattle.sr_frame.specs.declared.fields.Mac.{Mac}
use Rattle.sr_frame.specs.Addresses.{mac_eq}
use Rattle.sr_audit.specs.declared.audit.Audit.{Audit}
use Rattle.sr_audit.specs.declared.source.Source.{Source}
use Rattle.sr_audit.specs.declared.span.Spans.{Spans}
use Rattle.sr_audit.specs.Audits.{Sent, of}
use Rattle.sr_laws_audit.specs.Exactly.{figures_by, some_source, HasEachSource}
use Rattle.sr_capture_audit.specs.declared.flows.Flows.{Flows}
use Rattle.sr_capture_audit.specs.declared.flows.Sight.TheVariants.{All, Part}
use Rattle.sr_capture_audit.specs.declared.network.Network.{Network}
use Rattle.sr_capture_audit.specs.Flows.{flow_end, is_paired, is_unpaired, is_single, lacks_many, shows_part, sight_of, AreFlowsIn}

-- where the flows lead that both captures see
abbrev pub ends_by : Spans → List Sent → List Mac
ends_by spans sent = map (λ x. flow_end x.0) (filter (λ x. is_paired (figures_by spans (of x.0 sent))) sent)

-- both recorders are mirrors, and frames of some flow came by one side alone where they are not
abbrev pub mirrors_by : Spans → List Sent → Bool
mirrors_by spans sent = nat_le 3 (distinct_count mac_eq (ends_by spans sent)) && not (some_source is_unpaired spans sent)

abbrev pub single_by : Spans → List Sent → Bool
single_by spans sent = not (mirrors_by spans sent) && some_source is_single spans sent

-- flows are what these arrivals, each of its flow, tell of them
pub record AreFlowsBy (spans : Spans) (sent : List Sent) (f : Flows) : Type 0 where
  pub mirrors : f.are_mirrors ≡ mirrors_by spans sent
  pub single : f.has_single ≡ single_by spans sent
  pub paired : (name : Mac) → is_some (lookup (mac_eq name) f.paired.entries) ≡ is_paired (figures_by spans (of name sent))

abbrev pub FlowsAreByArrivals : Type 0
FlowsAreByArrivals = (spans : Spans) (sent : List Sent) (entries : List (Mac × Source)) (f : Flows) → HasEachSource spans sent entries →
    AreFlowsIn entries f → AreFlowsBy spans sent f

-- whether captures have all that was sent, by flows and by the arrivals of the counters
abbrev pub SightIsByArrivals : Type 0
SightIsByArrivals = (network : Network) (f : Flows) (spans : Spans) (sent : List Sent) (counters : Audit) →
    HasEachSource spans sent counters.sources.entries →
    sight_of network f counters ≡ (if shows_part network f || some_source lacks_many spans sent then Part else All)
