-- The RedBoxes that sources stand behind: the frames of all of these have the numbers of one counter.
use Rattle.std.specs.Prelude.{◌≡◌, nat_eq, nat_le, Bool, ◌||◌, List, [], ◌∷◌, ◌++◌, length}
use Rattle.std.specs.Prelude.{Option, None, Some, is_some, fold, if◌then◌else◌}
use Rattle.std.specs.List.{flat_map}
use Rattle.std.specs.Map.{lookup}
use Rattle.sr_frame.specs.Addresses.{mac_eq}
use Rattle.sr_frame.specs.declared.fields.Mac.{Mac}
use Rattle.sr_audit.specs.Limits.{most_audited}
use Rattle.sr_capture_script.specs.Passing.{Handed}
use Rattle.sr_capture_audit.specs.declared.kind.Kind.{Kind}
use Rattle.sr_capture_audit.specs.declared.kind.Kind.TheVariants.{Numbered}
use Rattle.sr_capture_audit.specs.declared.kind.Sign.{Sign}
use Rattle.sr_capture_audit.specs.declared.network.Subject.{Subject}
use Rattle.sr_capture_audit.specs.declared.redboxes.RedBox.{RedBox}
use Rattle.sr_capture_audit.specs.declared.redboxes.RedBoxes.{RedBoxes}
use Rattle.sr_capture_audit.specs.Auditing.{AreSeen}
use Rattle.sr_capture_audit.specs.Counting.{Seen}

-- whose numbers the frames of a source have: those of the RedBox that it stands behind, or its own
abbrev pub counter_behind : Mac → Option RedBox → Mac
counter_behind src (Some box) = box.0
counter_behind src None = src

abbrev pub counter_of : List (Mac × RedBox) → Mac → Mac
counter_of boxes src = counter_behind src (lookup (mac_eq src) boxes)

-- no address is known to stand behind one
abbrev pub is_unnamed : RedBoxes → Bool
is_unnamed b = nat_eq (length b.boxes.entries) 0

-- an address more, with its RedBox, unless it is known, or 1024 are
abbrev pub boxes_with : List (Mac × RedBox) → Mac × Mac → List (Mac × RedBox)
boxes_with boxes named =
    if is_some (lookup (mac_eq named.0) boxes) || nat_le most_audited (length boxes) then boxes
    else boxes ++ (named.0, record { 0 = named.1 }) ∷ []

-- what a supervision frame with a number names: the address that it is for, and the RedBox of that
abbrev pub named_behind : Mac → Option Mac → List (Mac × Mac)
named_behind mac (Some box) = (mac, box) ∷ []
named_behind mac None = []

abbrev pub named_in : Option Sign → List (Mac × Mac)
named_in (Some sign) = named_behind sign.mac sign.redbox
named_in None = []

abbrev pub named_by : Kind → List (Mac × Mac)
named_by (Numbered n) = named_in n.sign
named_by other = []

-- the RedBoxes that packets name, each address as it is named first
abbrev pub boxes_in : List Seen → List (Mac × RedBox)
boxes_in seen = fold boxes_with [] (flat_map (λ x. named_by x.kind) seen)

pub record AreBoxesOf (subject : Subject) (xs : List Handed) (b : RedBoxes) : Type 0 where
  pub seen : List Seen
  pub are_seen : AreSeen subject xs seen
  pub boxes : b.boxes.entries ≡ boxes_in seen
