-- What the figures of captures say is wrong with a network: each verdict stands exactly where it holds, the most severe kind first.
use Rattle.std.specs.Prelude.{
  ◌≡◌,
  ℕ,
  nat_lt,
  nat_le,
  Bool,
  true,
  false,
  not,
  ◌&&◌,
  List,
  [],
  ◌∷◌,
  ◌++◌,
  Option,
  None,
  Some,
  is_some,
  filter,
  fold,
  ◌||◌,
  ℤ,
  if◌then◌else◌,
}
use Rattle.std.specs.List.{cons_option, filter_map, list_any}
use Rattle.std.specs.Map.{lookup}
use Rattle.sr_frame.specs.Addresses.{mac_eq}
use Rattle.sr_frame.specs.declared.fields.Mac.{Mac}
use Rattle.sr_prp_trailer.specs.declared.trailer.Lan.{Lan}
use Rattle.sr_prp_trailer.specs.declared.trailer.Lan.TheVariants as lan
use Rattle.sr_audit.specs.declared.audit.Audit.{Audit}
use Rattle.sr_audit.specs.declared.row.Row.{Row}
use Rattle.sr_audit.specs.declared.side.Side.{Side}
use Rattle.sr_audit.specs.declared.side.Side.TheVariants.{A, B}
use Rattle.sr_audit.specs.declared.source.Source.{Source}
use Rattle.sr_audit.specs.declared.tally.Sides.{Sides}
use Rattle.sr_audit.specs.Faults.{last_class}
use Rattle.sr_audit.specs.Lanes.{other_side}
use Rattle.sr_capture_audit.specs.declared.counts.Counts.{Counts}
use Rattle.sr_capture_audit.specs.declared.figures.Report.{Report}
use Rattle.sr_capture_audit.specs.declared.flows.Sight.{Sight}
use Rattle.sr_capture_audit.specs.declared.flows.Sight.TheVariants.{All, Part}
use Rattle.sr_capture_audit.specs.declared.network.Network.{Network}
use Rattle.sr_capture_audit.specs.declared.network.Network.TheVariants.{Prp, Hsr}
use Rattle.sr_capture_audit.specs.declared.network.Ports.{Ports}
use Rattle.sr_capture_audit.specs.declared.network.Ports.TheVariants.{Two, Mirror}
use Rattle.sr_capture_audit.specs.declared.network.Subject.{Subject}
use Rattle.sr_sources.specs.declared.lane.Tail.{Tail}
use Rattle.sr_sources.specs.declared.rates.Second.{Second}
use Rattle.sr_sources.specs.declared.source.Source.{Source as Node}
use Rattle.sr_sources.specs.Kinds.{doubled_since, lost_redundancy, san_of, babbling, end_at}
use Rattle.sr_verdict.specs.declared.heard.Heard.{Heard}
use Rattle.sr_verdict.specs.declared.heard.When.{When}
use Rattle.sr_verdict.specs.declared.heard.When.TheVariants.{AtLast, At}
use Rattle.sr_verdict.specs.declared.kinds.Kind.{Kind}
use Rattle.sr_verdict.specs.declared.kinds.Kind.TheVariants as kind
use Rattle.sr_verdict.specs.declared.names.Names.{Names}
use Rattle.sr_verdict.specs.declared.nodes.NodeVerdict.{NodeVerdict}
use Rattle.sr_verdict.specs.declared.nodes.NodeVerdict.TheVariants as node
use Rattle.sr_verdict.specs.declared.place.Place.{Place}
use Rattle.sr_verdict.specs.declared.shared.Cut.{Cut}
use Rattle.sr_verdict.specs.declared.shared.Share.{Share}
use Rattle.sr_verdict.specs.declared.verdict.Verdict.{Verdict}
use Rattle.sr_verdict.specs.declared.verdict.Verdict.TheVariants.{
  Unjudged,
  BothLost,
  TwoSenders,
  CutRing,
  DeadPort,
  Crossed,
  LostRedundancy,
  Loss,
  WrongLan,
  Misfit,
  Repeated,
  Late,
  Skew,
  BothLostWithin,
  LossWithin,
  RecorderDropped,
  Restart,
  Babbling,
  Unseen,
  San,
  Clock,
}
use Rattle.sr_verdict.specs.declared.why.Why.{Why}
use Rattle.sr_verdict.specs.Heards.{AreHeard, row_in}
use Rattle.sr_verdict.specs.Mending.{cut_time}
use Rattle.sr_verdict.specs.Names.{no_names, names_with}
use Rattle.sr_verdict.specs.Places.{cut_place}
use Rattle.sr_verdict.specs.Shared.{share_by, cut_in}

-- a verdict of a count, where it is not 0
abbrev pub when_counted : ℕ → Verdict → Option Verdict
when_counted n v = if nat_lt 0 n then Some v else None

abbrev pub when_either : ℕ → ℕ → Verdict → Option Verdict
when_either n m v = if nat_lt 0 n then Some v else when_counted m v

abbrev pub dead_by : Mac → Option Row → Option Verdict
dead_by mac None = None
dead_by mac (Some row) = Some (DeadPort mac row)

-- the verdict of a kind on a source: no frame had a number of it, which was lost or may have gone past no recorder; it is heard by one
-- side alone at last; copies of it came before by the same side; copies came 400 ms apart or more; its numbers began anew
abbrev pub verdict_on : Kind → Heard → Option Verdict
verdict_on kind.BothLost h = when_counted h.figures.neither (BothLost h.mac h.figures.neither)
verdict_on kind.DeadPort h = dead_by h.mac (row_in h)
verdict_on kind.Repeated h = when_either h.figures.tally.repeats.a h.figures.tally.repeats.b (Repeated h.mac h.figures.tally.repeats)
verdict_on kind.Late h = when_counted (last_class h.figures.skews.classes) (Late h.mac (last_class h.figures.skews.classes))
verdict_on kind.Restart h = when_counted h.figures.restarts (Restart h.mac h.figures.restarts)
verdict_on kind.Unseen h = when_counted h.figures.neither (Unseen h.mac h.figures.neither)

abbrev pub verdicts_on : Kind → List Heard → List Verdict
verdicts_on k hs = filter_map (verdict_on k) hs

abbrev pub verdicts_where : Bool → Kind → List Heard → List Verdict
verdicts_where true k hs = verdicts_on k hs
verdicts_where false k hs = []

abbrev pub as_list : Option Verdict → List Verdict
as_list v = cons_option v []

-- where a source is heard by one side alone at last, its port at the other LAN is dead, or a ring is cut
abbrev pub cut_told : Place → Option Cut → Option Verdict
cut_told place None = None
cut_told place (Some c) = Some (CutRing c place)

abbrev pub cut_at : When → List Heard → List Verdict
cut_at when hs = as_list (cut_told (cut_place when hs) (cut_in when hs))

-- or it was cut, and mended
abbrev pub cut_mended : Option ℕ → List Heard → List Verdict
cut_mended None hs = []
cut_mended (Some time) hs = cut_at (At time) hs

abbrev pub sided_verdicts : Network → Option ℕ → List Heard → List Verdict
sided_verdicts Prp mended hs = verdicts_on kind.DeadPort hs
sided_verdicts Hsr mended hs = cut_at AtLast hs ++ cut_mended mended hs

-- a LAN lost frames that came by the other one, besides those that came by one side alone while a ring was cut
abbrev pub loss_by : Side → Share → Share → Option Verdict
loss_by lan own other = if nat_lt 0 own.sources then Some (Loss lan own other.frames) else None

abbrev pub loss_at : Option ℕ → Side → List Heard → List Verdict
loss_at mended lan hs = as_list (loss_by lan (share_by mended (other_side lan) hs) (share_by mended lan hs))

-- so many copies have the other LAN's id at both sides where cables are crossed (choice of this project: one is a stray); fewer, or at one
-- side alone, are told by side
abbrev pub least_crossed : ℕ
least_crossed = 3

abbrev pub are_crossed : Counts → Bool
are_crossed c = nat_le least_crossed c.a.wrong_lan && nat_le least_crossed c.b.wrong_lan

-- of which sources copies had the other LAN's id, at a side or at either
abbrev pub has_astray : Option Side → Node → Bool
has_astray (Some A) s = nat_lt 0 s.a.astray
has_astray (Some B) s = nat_lt 0 s.b.astray
has_astray None s = nat_lt 0 s.a.astray || nat_lt 0 s.b.astray

abbrev pub astray_with : Option Side → Names → Mac × Node → Names
astray_with side names e = if has_astray side e.1 then names_with e.0 names else names

abbrev pub astray_names : Option Side → List (Mac × Node) → Names
astray_names side nodes = fold (astray_with side) no_names nodes

abbrev pub wrong_at : Option Side → ℕ → List (Mac × Node) → List Verdict
wrong_at side n nodes = as_list (when_counted n (WrongLan side n (astray_names side nodes)))

abbrev pub misfit_at : Option Side → ℕ → List Verdict
misfit_at side n = as_list (when_counted n (Misfit side n))

abbrev pub id_verdicts : Counts → List (Mac × Node) → List Verdict
id_verdicts c nodes =
    if are_crossed c then Crossed (record { a = c.a.wrong_lan; b = c.b.wrong_lan }) (astray_names None nodes) ∷ []
    else wrong_at (Some A) c.a.wrong_lan nodes ++ wrong_at (Some B) c.b.wrong_lan nodes

abbrev pub other_id_verdicts : Counts → List (Mac × Node) → List Verdict
other_id_verdicts c nodes = wrong_at None c.neither.wrong_lan nodes ++ misfit_at (Some A) c.a.misfit ++ misfit_at (Some B) c.b.misfit
    ++ misfit_at None c.neither.misfit

-- the captures have all that was sent, but what was lost, or so it is taken to be; otherwise numbers may have gone past no recorder
abbrev pub has_all_sent : Sight → Option Audit → Bool
has_all_sent Part (Some counters) = false
has_all_sent Part None = true
has_all_sent All counters = true

abbrev pub has_part : Sight → Option Audit → Bool
has_part sight counters = not (has_all_sent sight counters)

-- which figures tell what was lost, and which of numbers that no frame had: those of an audit of its own, or else those of all frames
abbrev pub telling_entries : Option Audit → Audit → List (Mac × Source)
telling_entries (Some own) audit = own.sources.entries
telling_entries None audit = audit.sources.entries

-- what is heard of the sources of a report, by each of these
pub record AreHeardIn (r : Report) (own telling counters : List Heard) : Type 0 where
  pub are_own : AreHeard r.spans r.audit.sources.entries own
  pub are_telling : AreHeard r.spans (telling_entries r.judged r.audit) telling
  pub are_counters : AreHeard r.spans (telling_entries r.counters r.audit) counters

-- the LAN that is told: a mirror port has the frames of both
abbrev pub side_of_lan : Lan → Side
side_of_lan lan.A = A
side_of_lan lan.B = B

abbrev pub told_lan : Ports → Lan → Option Side
told_lan Two own = Some (side_of_lan own)
told_lan Mirror own = None

-- the verdict of a kind on a source by its frames: two nodes have its address; it lost its redundancy, or never had it; it babbles
abbrev pub two_senders_told : Mac → Option ℕ → Option Verdict
two_senders_told mac None = None
two_senders_told mac (Some since) = Some (TwoSenders mac since)

abbrev pub lost_told : Ports → Mac → Option (Lan × Tail) → Option Verdict
lost_told ports mac None = None
lost_told ports mac (Some lost) = Some (LostRedundancy mac (told_lan ports lost.0) lost.1)

abbrev pub babbling_told : Mac → Option Second → Option Verdict
babbling_told mac None = None
babbling_told mac (Some second) = Some (Babbling mac second)

abbrev pub san_told : Ports → Mac → Option (Lan × ℕ) → Option Verdict
san_told ports mac None = None
san_told ports mac (Some san) = Some (San mac (told_lan ports san.0) san.1)

abbrev pub node_verdict : NodeVerdict → Ports → ℕ → ℕ → Mac × Node → Option Verdict
node_verdict node.TwoSenders ports end_a end_b e = two_senders_told e.0 (doubled_since e.1)
node_verdict node.LostRedundancy ports end_a end_b e = lost_told ports e.0 (lost_redundancy e.1)
node_verdict node.Babbling ports end_a end_b e = babbling_told e.0 (babbling end_a end_b e.1)
node_verdict node.San ports end_a end_b e = san_told ports e.0 (san_of e.1)

abbrev pub node_verdicts : NodeVerdict → Ports → List (Mac × Node) → List Verdict
node_verdicts k ports entries = filter_map (node_verdict k ports (end_at lan.A entries) (end_at lan.B entries)) entries

-- of frames without a number it is told in a PRP network alone: a ring has none
abbrev pub in_prp : Network → List Verdict → List Verdict
in_prp Prp vs = vs
in_prp Hsr vs = []

abbrev pub prp_verdicts : NodeVerdict → Subject → List (Mac × Node) → List Verdict
prp_verdicts k subject entries = in_prp subject.network (node_verdicts k subject.ports entries)

-- of a source with two senders it is not told what was lost: their numbers are no counter's
abbrev pub is_doubled_at : Option Node → Bool
is_doubled_at None = false
is_doubled_at (Some s) = is_some (doubled_since s)

abbrev pub is_doubled : List (Mac × Node) → Mac → Bool
is_doubled entries mac = is_doubled_at (lookup (mac_eq mac) entries)

abbrev pub single_in : List (Mac × Node) → List Heard → List Heard
single_in entries hs = filter (λ h. not (is_doubled entries h.mac)) hs

-- what is heard of the sources that have one sender
pub record IsSingleHearing (r : Report) (nodes : List (Mac × Node)) (own telling counters : List Heard) : Type 0 where
  pub all_own : List Heard
  pub all_telling : List Heard
  pub all_counters : List Heard
  pub are_heard : AreHeardIn r all_own all_telling all_counters
  pub own_is : own ≡ single_in nodes all_own
  pub telling_is : telling ≡ single_in nodes all_telling
  pub counters_is : counters ≡ single_in nodes all_counters

abbrev pub fault_verdicts : Report → List (Mac × Node) → List Heard → List Heard → List Heard → List Verdict
fault_verdicts r nodes own telling counters =
    let mended = cut_time r.subject.network telling in
    verdicts_where (has_all_sent r.sight r.counters) kind.BothLost counters ++ node_verdicts node.TwoSenders r.subject.ports nodes
    ++ sided_verdicts r.subject.network mended telling ++ id_verdicts r.counts nodes ++ prp_verdicts node.LostRedundancy r.subject nodes
    ++ loss_at mended A telling ++ loss_at mended B telling ++ other_id_verdicts r.counts nodes
    ++ verdicts_on kind.Repeated own ++ verdicts_on kind.Late own

abbrev pub clock_told : Option ℤ → Option Verdict
clock_told None = None
clock_told (Some ahead) = Some (Clock ahead)

abbrev pub notice_verdicts : Report → List (Mac × Node) → Option ℤ → List Heard → List Verdict
notice_verdicts r nodes ahead counters =
    verdicts_where (has_all_sent r.sight r.counters) kind.Restart counters ++ node_verdicts node.Babbling r.subject.ports nodes
    ++ verdicts_where (has_part r.sight r.counters) kind.Unseen counters ++ prp_verdicts node.San r.subject nodes
    ++ as_list (clock_told ahead)

-- which verdicts are faults
abbrev pub is_a_fault : Verdict → Bool
is_a_fault (Unjudged why) = false
is_a_fault (BothLost mac numbers) = true
is_a_fault (TwoSenders mac since) = true
is_a_fault (CutRing cut place) = true
is_a_fault (DeadPort mac row) = true
is_a_fault (Crossed copies names) = true
is_a_fault (LostRedundancy mac lan tail) = true
is_a_fault (Loss lan share other) = true
is_a_fault (WrongLan side copies names) = true
is_a_fault (Misfit side frames) = true
is_a_fault (Repeated mac copies) = true
is_a_fault (Late mac pairs) = true
is_a_fault (Skew mac skew most) = true
is_a_fault (BothLostWithin mac numbers) = false
is_a_fault (LossWithin lan share other) = false
is_a_fault (RecorderDropped lan packets) = false
is_a_fault (Restart mac times) = false
is_a_fault (Babbling mac second) = false
is_a_fault (Unseen mac numbers) = false
is_a_fault (San mac lan frames) = false
is_a_fault (Clock ahead) = false

-- why nothing can be judged: the first verdict says so
abbrev pub reason_in : List Verdict → Option Why
reason_in [] = None
reason_in (Unjudged why ∷ vs) = Some why
reason_in (v ∷ vs) = None

-- the exit status of a check: 4 where nothing can be judged, else 3 where a fault stands, else 0
abbrev pub block_status : List Verdict → ℕ
block_status vs = if is_some (reason_in vs) then 4 else if list_any is_a_fault vs then 3 else 0
