-- The packets of captures that an audit takes, and what it says of all of them.
use Rattle.std.specs.Prelude.{◌≡◌, ℕ, ◌^◌, ◌<◌, List, [], ◌∷◌, ◌++◌, length, map, reverse, Option, None, Some}
use Rattle.std.specs.List.{flat_map}
use Rattle.sr_audit.specs.declared.audit.Audit.{Audit}
use Rattle.sr_audit.specs.declared.side.Side.{Side}
use Rattle.sr_audit.specs.declared.side.Side.TheVariants as side
use Rattle.sr_audit.specs.declared.span.Spans.{Spans}
use Rattle.sr_audit.specs.Audits.{Sent, Audits, IsLeftOut}
use Rattle.sr_audit.specs.Hearing.{Reported, sign_of, Hears}
use Rattle.sr_audit.specs.Spans.{span_of}
use Rattle.sr_capture_script.specs.declared.choice.Choice.{Choice}
use Rattle.sr_capture_script.specs.declared.choice.Inlet.{Inlet}
use Rattle.sr_capture_script.specs.declared.choice.Inlet.TheVariants as inlet
use Rattle.sr_capture_script.specs.Coming.{AllCame}
use Rattle.sr_capture_script.specs.Items.{Item}
use Rattle.sr_capture_script.specs.Merging.{Feed}
use Rattle.sr_capture_script.specs.Passing.{Handed, wanted}
use Rattle.sr_capture_audit.specs.declared.figures.Report.{Report}
use Rattle.sr_capture_audit.specs.declared.kind.Kind.{Kind}
use Rattle.sr_capture_audit.specs.declared.kind.Kind.TheVariants.{Numbered}
use Rattle.sr_capture_audit.specs.declared.kind.Sign.{Sign}
use Rattle.sr_capture_audit.specs.declared.network.Network.{Network}
use Rattle.sr_capture_audit.specs.declared.network.Ports.{Ports}
use Rattle.sr_capture_audit.specs.declared.network.Ports.TheVariants.{Two, Mirror}
use Rattle.sr_capture_audit.specs.declared.network.Subject.{Subject}
use Rattle.sr_capture_audit.specs.declared.network.Tap.{Tap}
use Rattle.sr_capture_audit.specs.declared.network.Tap.TheVariants as tap
use Rattle.sr_capture_audit.specs.Counting.{Seen, all_figures}
use Rattle.sr_capture_audit.specs.Kinds.{IsKind}
use Rattle.sr_capture_audit.specs.Timing.{all_put_right}

-- where the capture of an inlet was made, if it is one of the audit: one at each side, or one at a mirror port
abbrev pub tap_at : Ports → Inlet → Option Tap
tap_at Two inlet.A = Some (tap.Side side.A)
tap_at Two inlet.B = Some (tap.Side side.B)
tap_at Two inlet.C = None
tap_at Mirror inlet.A = Some tap.Mirror
tap_at Mirror inlet.B = None
tap_at Mirror inlet.C = None

-- a packet as it came in there, and what it is; one of no capture of the audit is passed over
abbrev pub AreSeenAt : Option Tap → Network → Handed → List Seen → Type 0
AreSeenAt (Some own) network x seen = (k : Kind) × IsKind network own x.packet k
    × (seen ≡ record { tap = own; time = x.time; packet = x.packet; kind = k } ∷ [])
AreSeenAt None network x seen = seen ≡ []

-- the packets that an audit takes, each once, in order, as what they are
abbrev pub AreSeen : Subject → List Handed → List Seen → Type 0
AreSeen subject [] seen = seen ≡ []
AreSeen subject (x ∷ xs) seen = (own : List Seen) × (rest : List Seen) × (seen ≡ own ++ rest)
    × AreSeenAt (tap_at subject.ports x.inlet) subject.network x own × AreSeen subject xs rest

-- a frame with a number is an arrival of its source
abbrev pub sent_by : Kind → ℕ → List Sent
sent_by (Numbered n) time = (n.src, record { side = n.side; seq = n.seq; time = time }) ∷ []
sent_by other time = []

-- the arrivals of all sources, newest first
abbrev pub sent_in : List Seen → List Sent
sent_in seen = flat_map (λ x. sent_by x.kind x.time) (reverse seen)

-- a supervision frame with a number is a sign of life of the address that it is for
abbrev pub sign_with : Option Sign → Side → ℕ → List Reported
sign_with (Some sign) side time = (sign.mac, sign_of sign.kind side time) ∷ []
sign_with None side time = []

abbrev pub signs_by : Kind → ℕ → List Reported
signs_by (Numbered n) time = sign_with n.sign n.side time
signs_by other time = []

-- the signs of life of all addresses, newest first
abbrev pub signs_in : List Seen → List Reported
signs_in seen = flat_map (λ x. signs_by x.kind x.time) (reverse seen)

-- a report says of these packets: how many are of each kind and side, when the first and the last one came, and of each source and
-- address what came of it, and how many packets were of sources without an entry
pub record IsReportOf (subject : Subject) (spans : Spans) (xs : List Handed) (r : Report) : Type 0 where
  pub subject_is : r.subject ≡ subject
  pub spans_are : r.spans ≡ spans
  pub own_spans : r.audit.spans ≡ spans
  pub seen : List Seen
  pub are_seen : AreSeen subject xs seen
  pub counts : r.counts ≡ all_figures seen
  pub whole : r.whole ≡ span_of (map (λ s. s.time) seen)
  pub audits : length (sent_in seen) < 2 ^ 64 → Audits spans (sent_in seen) r.audit.sources.entries
  pub hears : Hears (signs_in seen) r.audit.sources.entries
  pub left_out : length (sent_in seen) < 2 ^ 64 → IsLeftOut r.audit.sources.entries (sent_in seen) r.audit.left_out

-- a report of one packet more
pub record ReportsMore (x : Handed) (old new : Report) : Type 0 where
  pub takes : (subject : Subject) (spans : Spans) (xs : List Handed) → IsReportOf subject spans xs old →
      IsReportOf subject spans (xs ++ x ∷ []) new

-- an audit took a packet of this kind, that came then
pub record TakesKind (k : Kind) (time : ℕ) (old new : Audit) : Type 0 where
  pub spans : new.spans ≡ old.spans
  pub audits : (xs : List Sent) → length (sent_by k time ++ xs) < 2 ^ 64 → Audits old.spans xs old.sources.entries →
      Audits old.spans (sent_by k time ++ xs) new.sources.entries
  pub hears : (signs : List Reported) → Hears signs old.sources.entries → Hears (signs_by k time ++ signs) new.sources.entries
  pub left_out : (xs : List Sent) → Audits old.spans xs old.sources.entries → IsLeftOut old.sources.entries xs old.left_out →
      length (sent_by k time ++ xs) < 2 ^ 64 → IsLeftOut new.sources.entries (sent_by k time ++ xs) new.left_out

-- the report of three files: of all their packets that are wanted, each once, in order of time and each file's in its own order
pub record IsAuditOf (choice : Choice) (subject : Subject) (spans : Spans) (x y z : Feed) (r : Report) : Type 0 where
  pub merged : List Item
  pub came : AllCame x y z merged
  pub report : IsReportOf subject spans (all_put_right subject.clock (wanted choice merged)) r
