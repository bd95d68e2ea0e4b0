-- Reports that tell of faults of a network.
use Rattle.std.specs.Prelude.{◌-◌, nat_lt, Bool, false, ◌||◌, Option, None, Some}
use Rattle.std.specs.List.{list_any}
use Rattle.sr_audit.specs.declared.audit.Audit.{Audit}
use Rattle.sr_audit.specs.declared.source.Figures.{Figures}
use Rattle.sr_audit.specs.Faults.{tells_of_faults}
use Rattle.sr_audit.specs.Shown.{figures_of}
use Rattle.sr_capture_audit.specs.declared.counts.SideCounts.{SideCounts}
use Rattle.sr_capture_audit.specs.declared.counts.Counts.{Counts}
use Rattle.sr_capture_audit.specs.declared.figures.Report.{Report}
use Rattle.sr_capture_audit.specs.declared.flows.Sight.{Sight}
use Rattle.sr_capture_audit.specs.declared.flows.Sight.TheVariants.{All, Part}

-- a trailer names the other LAN, or is none
abbrev pub is_faulty : SideCounts → Bool
is_faulty c = nat_lt 0 c.wrong_lan || nat_lt 0 c.misfit

abbrev pub have_faults : Counts → Bool
have_faults c = is_faulty c.a || (is_faulty c.b || is_faulty c.neither)

-- a frame came by one side alone, while the capture of the other side ran
abbrev pub shows_lost : Figures → Bool
shows_lost f = nat_lt 0 (f.tally.alone.a - f.edges.a) || nat_lt 0 (f.tally.alone.b - f.edges.b)

abbrev pub have_lost : Audit → Bool
have_lost audit = list_any (λ e. shows_lost (figures_of e.1)) audit.sources.entries

-- no frame had a number of a source
abbrev pub shows_missing : Figures → Bool
shows_missing f = nat_lt 0 f.neither

abbrev pub have_missing : Audit → Bool
have_missing audit = list_any (λ e. shows_missing (figures_of e.1)) audit.sources.entries

-- figures without those of which another audit tells: of lost frames that of the frames which tell of them, and of numbers that no frame
-- had that of the counters
abbrev pub lost_told : Option Audit → Figures → Figures
lost_told (Some judged) f = record f { tally = record f.tally { alone = f.edges } }
lost_told None f = f

abbrev pub missing_told : Option Audit → Figures → Figures
missing_told (Some counters) f = record f { neither = 0 }
missing_told None f = f

abbrev pub own_figures : Report → Figures → Figures
own_figures r f = missing_told r.counters (lost_told r.judged f)

abbrev pub judged_have_lost : Option Audit → Bool
judged_have_lost (Some judged) = have_lost judged
judged_have_lost None = false

-- numbers that no frame had were lost, where captures have all that was sent
abbrev pub counters_have_missing : Sight → Option Audit → Bool
counters_have_missing All (Some counters) = have_missing counters
counters_have_missing Part (Some counters) = false
counters_have_missing sight None = false

-- the counts tell of faults, or what the figures of a source tell by themselves, or another audit does
abbrev pub has_faults : Report → Bool
has_faults r = have_faults r.counts || (judged_have_lost r.judged || (counters_have_missing r.sight r.counters
    || list_any (λ e. tells_of_faults (own_figures r (figures_of e.1))) r.audit.sources.entries))
