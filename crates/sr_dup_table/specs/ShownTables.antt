-- What tables of either width show.
use Rattle.sr_dup_table.specs.declared.table.Tables.{Tables}
use Rattle.sr_dup_table.specs.declared.table.Tables.TheVariants.{Narrow, Wide}
use Rattle.sr_dup_table.specs.declared.table.Parts.{Parts}
use Rattle.sr_dup_table.specs.declared.table.Parts.TheVariants as parts
use Rattle.sr_dup_table.specs.Limits.{window, wide_window}
use Rattle.sr_dup_table.specs.Sources.{Table}

-- what a table shows, by its width
abbrev pub shown_table : Tables → Table
shown_table (Narrow t) = record { width = window; sources = t.sources; held = t.held }
shown_table (Wide t) = record { width = wide_window; sources = t.sources; held = t.held }

-- what is shown of a table that is lent by its width
abbrev pub shown_parts : Parts → Table
shown_parts (parts.Narrow t) = record { width = window; sources = t.now.sources; held = t.now.held }
shown_parts (parts.Wide t) = record { width = wide_window; sources = t.now.sources; held = t.now.held }
