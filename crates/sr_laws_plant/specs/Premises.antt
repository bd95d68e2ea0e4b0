-- What is asked of the traffic of a plant, by the plant's clock, and of its members' addresses.
use Rattle.std.specs.Prelude.{◌≡◌, ℕ, ◌+◌, ◌-◌, ◌<◌, ◌≤◌, Bool, true, false, ◌&&◌, ◌==◌, nat_lt, List, [], ◌∷◌}
use Rattle.sr_frame.specs.declared.fields.Mac.{Mac}
use Rattle.sr_frame.specs.Addresses.{mac_eq}
use Rattle.sr_dup_table.specs.Limits.{forget_time}
use Rattle.sr_laws_plant.specs.Limits.{first_number, most_sent}
use Rattle.sr_laws_plant.specs.Lists.{Each, how_many}
use Rattle.sr_laws_plant.specs.Frames.{Frame}
use Rattle.sr_laws_plant.specs.Widths.{Widths}
use Rattle.sr_laws_plant.specs.Handlings.{Handling, is_sending, is_sending_of, sent_count}

-- how many frames the source of this one has numbered since
abbrev pub later_count : List Handling → Frame → ℕ
later_count before f = first_number + sent_count f.src before - (f.number + 1)

-- Early: a copy comes in while its source has numbered fewer later frames than any table remembers numbers.
abbrev pub IsEarly : Widths → List Handling → Frame → Type 0
IsEarly ws before f = later_count before f < ws.least

-- Young: a copy comes in before the time has passed, since its frame was sent, after which a silent source is forgotten.
abbrev pub IsYoung : Handling → Type 0
IsYoung d = d.time < d.frame.time + forget_time

-- what comes in is early and young; of what is sent nothing is asked
abbrev pub IsTimely : Widths → Bool → List Handling → Handling → Type 0
IsTimely ws true before d = Unit {0}
IsTimely ws false before d = IsEarly ws before d.frame × IsYoung d

-- how many frames a member numbered so lately that a source silent since would not be forgotten
abbrev pub recent_count : ℕ → ℕ → List Handling → ℕ
recent_count s now ds = how_many (λ d. is_sending_of s d && nat_lt now (d.time + forget_time)) ds

-- Few sent: no member numbered too many frames of late.
abbrev pub AreFewSent : Widths → ℕ → List Handling → Type 0
AreFewSent ws now ds = (s : ℕ) → recent_count s now ds ≤ most_sent ws.greatest

-- the limits on the traffic: at each moment what came in was early and young, and few frames had been sent
abbrev pub AreWithinLimits : Widths → List Handling → Type 0
AreWithinLimits ws [] = Unit {0}
AreWithinLimits ws (d ∷ before) =
    AreWithinLimits ws before × IsTimely ws (is_sending d) before d × AreFewSent ws d.time (d ∷ before)

-- Addressed: no two of the n members have one address.
pub record AreAddressed (mac : ℕ → Mac) (n : ℕ) : Type 0 where
  pub apart : (i j : ℕ) → i < n → j < n → mac_eq (mac i) (mac j) ≡ (i == j)

-- all frames are those of the n members
abbrev pub AreOfMembers : ℕ → List Handling → Type 0
AreOfMembers n ds = Each (λ d. d.frame.src < n) ds
