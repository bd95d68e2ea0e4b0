-- What holds of every start.
use Rattle.std.proofs.Common.{refl, inl, inr}
use Rattle.sr_dup_window.specs.Bins.{IsWidth}
use Rattle.sr_dup_table.specs.declared.width.Width.{Width}
use Rattle.sr_dup_table.specs.declared.width.Width.TheVariants as width
use Rattle.sr_dup_table.specs.Widths.{numbers_in}
use Rattle.sr_node.specs.Starts.{Start, width_of}

widths : (w : Width) → IsWidth (numbers_in w)
widths width.Narrow = inl refl
widths width.Wide = inr refl

-- a node remembers 1024 numbers of each source, or 2048
pub has_width : (start : Start) → IsWidth (width_of start)
has_width start = widths start.settings.width
