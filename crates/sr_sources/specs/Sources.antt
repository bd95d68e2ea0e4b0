-- The sources of a network, by what was told of each.
use Rattle.std.specs.Prelude.{
  ◌≡◌,
  ℕ,
  ◌≤◌,
  ◌⊎◌,
  ◌-◌,
  ◌^◌,
  min,
  not,
  Bool,
  true,
  false,
  List,
  [],
  ◌∷◌,
  length,
  count_by,
  Option,
  Some,
  None,
  is_some,
  if◌then◌else◌,
}
use Rattle.std.specs.List.{filter_map, list_any}
use Rattle.std.specs.Map.{lookup}
use Rattle.sr_frame.specs.declared.fields.Mac.{Mac}
use Rattle.sr_frame.specs.Addresses.{mac_eq}
use Rattle.sr_prp_trailer.specs.declared.trailer.Lan.{Lan}
use Rattle.sr_prp_trailer.specs.declared.trailer.Lan.TheVariants.{A, B}
use Rattle.sr_supervision.specs.declared.message.Life.{Life}
use Rattle.sr_sources.specs.declared.glimpse.Glimpse.{Glimpse}
use Rattle.sr_sources.specs.declared.source.Event.{Event}
use Rattle.sr_sources.specs.declared.source.Event.TheVariants.{Frame, Alive, Behind, IsBox}
use Rattle.sr_sources.specs.declared.source.Source.{Source}
use Rattle.sr_sources.specs.Lanes.{lane_of, lane_with}
use Rattle.sr_sources.specs.Limits.{most_sources}

-- what is known of a source, and what is with one event more
abbrev pub no_source : Source
no_source = record { a = lane_of []; b = lane_of []; life = None; redbox = None; is_redbox = false }

abbrev pub source_with : Event → Source → Source
source_with (Frame A x) s = record s { a = lane_with x s.a }
source_with (Frame B x) s = record s { b = lane_with x s.b }
source_with (Alive life) s = record s { life = Some life }
source_with (Behind redbox) s = record s { redbox = Some redbox }
source_with IsBox s = record s { is_redbox = true }

-- what is known of a source by the events of it, the last one first
abbrev pub source_of : List Event → Source
source_of [] = no_source
source_of (e ∷ es) = source_with e (source_of es)

-- the frames in a LAN
abbrev pub frame_at : Lan → Event → Option Glimpse
frame_at A (Frame A x) = Some x
frame_at A (Frame B x) = None
frame_at B (Frame A x) = None
frame_at B (Frame B x) = Some x
frame_at lan (Alive life) = None
frame_at lan (Behind redbox) = None
frame_at lan IsBox = None

abbrev pub frames_at : Lan → List Event → List Glimpse
frames_at lan es = filter_map (frame_at lan) es

-- what supervision said last of how it announces itself, and of the RedBox that it stands behind; whether it was named as one
abbrev pub last_life : List Event → Option Life
last_life [] = None
last_life (Frame lan x ∷ es) = last_life es
last_life (Alive life ∷ es) = Some life
last_life (Behind redbox ∷ es) = last_life es
last_life (IsBox ∷ es) = last_life es

abbrev pub last_redbox : List Event → Option Mac
last_redbox [] = None
last_redbox (Frame lan x ∷ es) = last_redbox es
last_redbox (Alive life ∷ es) = last_redbox es
last_redbox (Behind redbox ∷ es) = Some redbox
last_redbox (IsBox ∷ es) = last_redbox es

abbrev pub names_box : Event → Bool
names_box (Frame lan x) = false
names_box (Alive life) = false
names_box (Behind redbox) = false
names_box IsBox = true

-- what is known of a source is of all of its frames and of all that supervision said
pub record ShowsEvents (es : List Event) (s : Source) : Type 0 where
  pub at_a : s.a ≡ lane_of (frames_at A es)
  pub at_b : s.b ≡ lane_of (frames_at B es)
  pub life : s.life ≡ last_life es
  pub redbox : s.redbox ≡ last_redbox es
  pub is_redbox : s.is_redbox ≡ list_any names_box es

abbrev pub SourcesShowEvents : Type 0
SourcesShowEvents = (es : List Event) → ShowsEvents es (source_of es)

-- an event, and the source that it is of
abbrev pub Noted : Type 0
Noted = Mac × Event

-- the events of one source, the last one first
abbrev pub events_of : Mac → List Noted → List Event
events_of m [] = []
events_of m (x ∷ before) = if mac_eq m x.0 then x.1 ∷ events_of m before else events_of m before

-- what is kept of a source is of its events; nothing is kept where there is none, or where so many sources came before
abbrev pub IsSourceFor : ℕ → List Event → Option Source → Type 0
IsSourceFor count es None = (es ≡ []) ⊎ (most_sources ≤ count)
IsSourceFor count es (Some s) = s ≡ source_of es

-- the sources of these events, the last one first: of each all of its own
pub record AreSourcesOf (xs : List Noted) (entries : List (Mac × Source)) : Type 0 where
  pub each : (m : Mac) → IsSourceFor (length entries) (events_of m xs) (lookup (mac_eq m) entries)

-- how many events are of sources that are not kept
abbrev pub passed_over : List (Mac × Source) → List Noted → ℕ
passed_over entries xs = count_by (λ x. not (is_some (lookup (mac_eq x.0) entries))) xs

-- a count is that of these, up to 2^64 - 1
abbrev pub IsPassedOver : List (Mac × Source) → List Noted → ℕ → Type 0
IsPassedOver entries xs count = count ≡ min (passed_over entries xs) (2 ^ 64 - 1)
