-- What the entries of the table show.
use Rattle.std.specs.Prelude.{ℕ, List, map}
use Rattle.sr_frame.specs.declared.fields.Mac.{Mac}
use Rattle.sr_dup_window.specs.Windows.{window_of}
use Rattle.sr_dup_window.specs.declared.record.Record.{Record}
use Rattle.sr_aged_slots.specs.declared.aged.Aged.{Aged}
use Rattle.sr_dup_table.specs.Sources.{Remembered, Sources}

-- what one entry shows
abbrev pub heard_of : {N : ℕ} → Aged (Record N) → Remembered
heard_of e = record { seen = window_of e.value; time = e.time }

abbrev pub sources_of : {N : ℕ} → List (Mac × Aged (Record N)) → Sources
sources_of es = map (λ e. (e.0, heard_of e.1)) es
