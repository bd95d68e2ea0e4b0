-- What sources share: the frames that one LAN lost of several, and the place at which a ring is cut.
use Rattle.std.specs.Prelude.{ℕ, min, max, nat_lt, List, Option, None, Some, fold, if◌then◌else◌}
use Rattle.sr_audit.specs.declared.row.Row.{Row}
use Rattle.sr_audit.specs.declared.side.Side.{Side}
use Rattle.sr_audit.specs.declared.side.Side.TheVariants.{A, B}
use Rattle.sr_audit.specs.Shown.{bounded_sum}
use Rattle.sr_audit.specs.Stretches.{same_side}
use Rattle.sr_verdict.specs.declared.heard.Heard.{Heard}
use Rattle.sr_verdict.specs.declared.heard.When.{When}
use Rattle.sr_verdict.specs.declared.heard.When.TheVariants.{AtLast, At}
use Rattle.sr_verdict.specs.declared.shared.Cut.{Cut}
use Rattle.sr_verdict.specs.declared.shared.Share.{Share}
use Rattle.sr_verdict.specs.Heards.{row_when, rest_at}
use Rattle.sr_verdict.specs.Names.{no_names, names_with}

-- what the sources share that have frames by a side alone, besides those of their rows at last, and of a cut that was mended
abbrev pub no_share : Share
no_share = record { frames = 0; brought = 0; sources = 0; names = no_names }

abbrev pub share_with : Option ℕ → Side → Share → Heard → Share
share_with mended side s h =
    if nat_lt 0 (rest_at mended side h) then record {
      frames = bounded_sum s.frames (rest_at mended side h);
      brought = bounded_sum s.brought (bounded_sum h.figures.tally.pairs (rest_at mended side h));
      sources = bounded_sum s.sources 1;
      names = names_with h.mac s.names;
    }
    else s

abbrev pub share_by : Option ℕ → Side → List Heard → Share
share_by mended side hs = fold (share_with mended side) no_share hs

-- a cut of a ring, with the row of a source more: it stands on A's side of the cut, or on B's
abbrev pub one_at : Side → Side → ℕ
one_at side other = if same_side side other then 1 else 0

-- a cut that stands at last has no end
abbrev pub cut_end : When → Row → Option ℕ
cut_end AtLast row = None
cut_end (At time) row = Some row.until

abbrev pub later : Option ℕ → Option ℕ → Option ℕ
later None end = end
later (Some end) None = Some end
later (Some end) (Some other) = Some (max end other)

abbrev pub cut_from : When → Row → Cut
cut_from when row =
    record { at_a = one_at A row.side; at_b = one_at B row.side; frames = row.frames; since = row.since; until = cut_end when row }

abbrev pub cut_and : When → Option Cut → Row → Cut
cut_and when None row = cut_from when row
cut_and when (Some c) row = record {
  at_a = bounded_sum c.at_a (one_at A row.side);
  at_b = bounded_sum c.at_b (one_at B row.side);
  frames = bounded_sum c.frames row.frames;
  since = min c.since row.since;
  until = later c.until (cut_end when row);
}

abbrev pub cut_by_row : When → Option Cut → Option Row → Option Cut
cut_by_row when c None = c
cut_by_row when c (Some row) = Some (cut_and when c row)

abbrev pub cut_with : When → Option Cut → Heard → Option Cut
cut_with when c h = cut_by_row when c (row_when when h)

abbrev pub cut_in : When → List Heard → Option Cut
cut_in when hs = fold (cut_with when) None hs
