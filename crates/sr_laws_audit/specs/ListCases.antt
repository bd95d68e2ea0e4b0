-- A list of copies worked out: the lines of its numbers.
use Rattle.std.specs.Prelude.{◌≡◌, ℕ, List, [], ◌∷◌, Some}
use Rattle.sr_frame.specs.declared.fields.Mac.{Mac}
use Rattle.sr_audit.specs.declared.listing.Copied.{Copied}
use Rattle.sr_audit.specs.declared.listing.Listed.TheVariants.{Lost, Pair, Neither}
use Rattle.sr_audit.specs.declared.side.Side.{Side}
use Rattle.sr_audit.specs.declared.side.Side.TheVariants.{A, B}
use Rattle.sr_audit.specs.declared.span.Spans.{Spans}
use Rattle.sr_laws_audit.specs.Lists.{wanted_lines}

abbrev pub one_source : Mac
one_source = record { 0 = 2 ∷ 0 ∷ 0 ∷ 0 ∷ 0 ∷ 1 ∷ [] }

abbrev pub other_source : Mac
other_source = record { 0 = 2 ∷ 0 ∷ 0 ∷ 0 ∷ 0 ∷ 2 ∷ [] }

abbrev pub listed_copy : Mac → Side → ℕ → ℕ → ℕ → Copied
listed_copy src side seq time packet =
    record { src = src; arrival = record { side = side; seq = record { 0 = seq }; time = time }; packet = packet }

-- the capture of A ends before the last frame
abbrev pub listed_spans : Spans
listed_spans = record { a = Some (record { first = 5; last = 60 }); b = Some (record { first = 5; last = 100 }) }

-- of the frames 7, 8, 10 and 11, B lost 8, no frame has the number 9, 10 came first at B, and 11 when A was not recorded; a frame of
-- another source came between
abbrev pub copies_up_to_10 : List Copied
copies_up_to_10 =
    listed_copy one_source A 10 42 6 ∷ listed_copy one_source B 10 40 5 ∷ listed_copy other_source A 500 30 4
    ∷ listed_copy one_source A 8 20 3 ∷ listed_copy one_source B 7 12 2 ∷ listed_copy one_source A 7 10 1 ∷ []

abbrev pub listed_copies : List Copied
listed_copies = listed_copy one_source B 11 90 7 ∷ copies_up_to_10

-- the same with a repeat of 7, and with a late copy of 8 at B
abbrev pub copies_with_repeat : List Copied
copies_with_repeat = listed_copy one_source A 7 91 8 ∷ listed_copies

abbrev pub copies_with_late_one : List Copied
copies_with_late_one = listed_copy one_source B 8 91 8 ∷ listed_copies

-- the lines are these, and a repeat changes none; a late copy makes a pair of a lost frame; a source before the first one has no line
pub record ListsAsWorkedOut : Type 0 where
  pub lines : wanted_lines listed_spans 0 one_source listed_copies
      ≡ Pair (listed_copy one_source A 10 42 6) 40 ∷ Neither one_source (record { 0 = 9 }) 40 ∷ Lost (listed_copy one_source A 8 20 3)
      ∷ Pair (listed_copy one_source A 7 10 1) 12 ∷ []
  pub with_repeat : wanted_lines listed_spans 0 one_source copies_with_repeat ≡ wanted_lines listed_spans 0 one_source listed_copies
  pub with_late_one : wanted_lines listed_spans 0 one_source copies_with_late_one
      ≡ Pair (listed_copy one_source A 10 42 6) 40 ∷ Neither one_source (record { 0 = 9 }) 40 ∷ Pair (listed_copy one_source A 8 20 3) 91
      ∷ Pair (listed_copy one_source A 7 10 1) 12 ∷ []
  pub of_other : wanted_lines listed_spans 1 other_source listed_copies ≡ Lost (listed_copy other_source A 500 30 4) ∷ []
  pub before_first : wanted_lines listed_spans 1 one_source listed_copies ≡ []
