-- How many packets of each kind came.
use Rattle.std.specs.Prelude.{ℕ, ◌+◌, ◌-◌, ◌^◌, min, Bool, true, false}
use Rattle.sr_intake.specs.declared.counts.PacketCounts.{PacketCounts}
use Rattle.sr_intake.specs.declared.kind.Kind.{Kind}
use Rattle.sr_intake.specs.declared.kind.Kind.TheVariants as kind

-- a count with one more
abbrev pub count_more : ℕ → ℕ
count_more count = min (count + 1) (2 ^ 64 - 1)

-- a count with one more, where something is so
abbrev pub count_more_if : Bool → ℕ → ℕ
count_more_if true count = count_more count
count_more_if false count = count

-- the counts with one packet more
abbrev pub counted_with : Kind → PacketCounts → PacketCounts
counted_with (kind.Numbered n) c = record c {
  packets = count_more c.packets;
  numbered = count_more c.numbered;
  wrong_lan = count_more_if n.is_astray c.wrong_lan;
}
counted_with kind.Plain c = record c { packets = count_more c.packets; plain = count_more c.plain }
counted_with kind.Misfit c = record c { packets = count_more c.packets; misfit = count_more c.misfit }
counted_with kind.Cut c = record c { packets = count_more c.packets; cut = count_more c.cut }
counted_with kind.Long c = record c { packets = count_more c.packets; long = count_more c.long }
counted_with kind.Empty c = record c { packets = count_more c.packets; empty = count_more c.empty }

-- how many more they are than earlier ones
abbrev pub changed : PacketCounts → PacketCounts → PacketCounts
changed c told = record {
  packets = c.packets - told.packets;
  numbered = c.numbered - told.numbered;
  plain = c.plain - told.plain;
  misfit = c.misfit - told.misfit;
  wrong_lan = c.wrong_lan - told.wrong_lan;
  cut = c.cut - told.cut;
  long = c.long - told.long;
  empty = c.empty - told.empty;
}
