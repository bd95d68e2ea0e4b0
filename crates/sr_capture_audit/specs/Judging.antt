-- What captures say of a network as a whole, by the figures that a report holds.
use Rattle.std.specs.Prelude.{ℕ, ◌+◌, ◌/◌, nat_lt, Bool, not, ◌&&◌, ◌||◌, Option, None, Some, if◌then◌else◌}
use Rattle.std.specs.List.{list_any}
use Rattle.sr_audit.specs.declared.side.Side.TheVariants.{A, B}
use Rattle.sr_audit.specs.declared.source.Figures.{Figures}
use Rattle.sr_audit.specs.Shown.{figures_of}
use Rattle.sr_capture_audit.specs.declared.counts.SideCounts.{SideCounts}
use Rattle.sr_capture_audit.specs.declared.counts.Counts.{Counts}
use Rattle.sr_capture_audit.specs.declared.figures.Report.{Report}
use Rattle.sr_capture_audit.specs.declared.judgement.Judgement.{Judgement}
use Rattle.sr_capture_audit.specs.declared.judgement.Judgement.TheVariants.{Sound, Faulty, Unjudged}
use Rattle.sr_capture_audit.specs.declared.judgement.Reason.{Reason}
use Rattle.sr_capture_audit.specs.declared.judgement.Reason.TheVariants as reason
use Rattle.sr_capture_audit.specs.Faults.{has_faults}
use Rattle.sr_capture_audit.specs.Hints.{are_swapped}

-- a frame of a source came by both sides
abbrev pub shows_pairs : Figures → Bool
shows_pairs f = nat_lt 0 f.tally.pairs

abbrev pub has_pairs : Report → Bool
has_pairs r = list_any (λ e. shows_pairs (figures_of e.1)) r.audit.sources.entries

-- the recorder cut more than one packet in ten
abbrev pub has_cut_many : SideCounts → Bool
has_cut_many c = nat_lt (c.packets / 10) c.cut

abbrev pub are_cut : Counts → Bool
are_cut c = has_cut_many c.a || (has_cut_many c.b || has_cut_many c.neither)

-- more than one in ten of a source's copies is one that came before, at each side
abbrev pub are_repeated : Figures → Bool
are_repeated f = nat_lt (f.tally.rx.a / 10) f.tally.repeats.a && nat_lt (f.tally.rx.b / 10) f.tally.repeats.b

abbrev pub has_repeated : Report → Bool
has_repeated r = list_any (λ e. are_repeated (figures_of e.1)) r.audit.sources.entries

-- of one capture of a ring, whose sides are the ways that frames themselves name: both have more than one in twenty of them
abbrev pub have_both_ways : Counts → Bool
have_both_ways c = nat_lt ((c.a.numbered + c.b.numbered) / 20) c.a.numbered && nat_lt ((c.a.numbered + c.b.numbered) / 20) c.b.numbered

-- why nothing can be judged: numbers are gone with the ends of cut packets, a side has no frame with a number, the captures are swapped, or
-- no frame came by both
abbrev pub reason_of : Report → Option Reason
reason_of r =
    if are_cut r.counts then Some reason.Cut
    else if not (nat_lt 0 r.counts.a.numbered) then Some (reason.Unnumbered A)
    else if not (nat_lt 0 r.counts.b.numbered) then Some (reason.Unnumbered B)
    else if are_swapped r.counts then Some reason.Swapped
    else if has_pairs r then None else Some reason.Unpaired

-- where there is no such reason, the figures judge
abbrev pub judged : Option Reason → Report → Judgement
judged (Some why) r = Unjudged why
judged None r = if has_faults r then Faulty else Sound

abbrev pub network_judgement : Report → Judgement
network_judgement r = judged (reason_of r) r

-- the exit status of a check
abbrev pub check_status : Judgement → ℕ
check_status Sound = 0
check_status Faulty = 3
check_status (Unjudged why) = 4
