-- What the lines of a source tell together, and between two of them.
use Rattle.std.specs.Prelude.{◌≡◌, ℕ, ◌^◌, ◌<◌, ◌≤◌, Bool, true, not, ◌&&◌, List, [], ◌∷◌, ◌++◌, length, None, pos, ◌+ℤ◌}
use Rattle.sr_frame.specs.declared.fields.Mac.{Mac}
use Rattle.sr_audit.specs.declared.arrival.Arrival.{Arrival}
use Rattle.sr_frame.specs.Addresses.{mac_eq}
use Rattle.sr_audit.specs.Audits.{of}
use Rattle.sr_audit.specs.Limits.{exact_arrivals}
use Rattle.sr_hold.specs.Turns.{Turn}
use Rattle.sr_watch.specs.declared.report.SourceLine.{SourceLine}
use Rattle.sr_watch.specs.declared.tracked.Tracked.{Tracked}
use Rattle.sr_watch.specs.declared.watch.Numbered.{Numbered}
use Rattle.sr_watch.specs.declared.watch.Watch.{Watch}
use Rattle.sr_watch.specs.Changed.{changes_between, sum_of, as_changes}
use Rattle.sr_watch.specs.Counted.{counted_of}
use Rattle.sr_watch.specs.Following.{Act, noted, passed, told, forgot, lines_in, FollowsTurns, released_sent}
use Rattle.sr_watch.specs.Watching.{lines_about, TellsSource}

-- a source was neither left out nor forgotten
abbrev pub is_told_whole : Mac → List Act → Bool
is_told_whole src [] = true
is_told_whole src (noted x ∷ before) = is_told_whole src before
is_told_whole src (passed x ∷ before) = not (mac_eq src x.0) && is_told_whole src before
is_told_whole src (told line ∷ before) = is_told_whole src before
is_told_whole src (forgot stays ∷ before) = stays src && is_told_whole src before

-- by whatever turns of a hold, and whatever was done: all lines of a source that was neither left out nor forgotten, the one that is told
-- now among them, are what is counted of all of its arrivals that were released
abbrev pub LinesTellOfAllThatWasReleased : Type 0
LinesTellOfAllThatWasReleased = (slack start mark : ℕ) (turns : List (Turn Numbered)) (acts : List Act) (w : Watch) (src : Mac)
    (new : List (Mac × Tracked)) (line : SourceLine) → FollowsTurns slack start turns acts w → w.next ≡ None →
    is_told_whole src acts ≡ true →
    length (released_sent slack start turns) < 2 ^ 64 → length (of src (released_sent slack start turns)) ≤ exact_arrivals →
    TellsSource mark src w.table.sources.entries new line →
    sum_of (lines_about src (line ∷ lines_in acts)) ≡ as_changes (counted_of mark (of src (released_sent slack start turns)))

-- between what is counted of some arrivals, up to a mark, and of these and more, up to another one: the copies are the arrivals that came
-- in between
abbrev pub EachArrivalIsInOneInterval : Type 0
EachArrivalIsInOneInterval = (mark later : ℕ) (before news : List Arrival) →
    let i = changes_between (counted_of mark before) (counted_of later (news ++ before)) in i.rx.a +ℤ i.rx.b ≡ pos (length news)
