-- What is heard of the sources of an audit, one after the other.
use Rattle.std.proofs.Common.{◌≡◌, List, [], ◌∷◌, ◌++◌, Option, refl, sym, subst, append_assoc}
use Rattle.std.proofs.lemmas.List.{append-nil}
use Rattle.sr_frame.specs.declared.fields.Mac.{Mac}
use Rattle.sr_audit.specs.declared.row.Row.{Row}
use Rattle.sr_audit.specs.declared.source.Figures.{Figures}
use Rattle.sr_audit.specs.declared.source.Source.{Source}
use Rattle.sr_audit.specs.declared.span.Spans.{Spans}
use Rattle.sr_audit.specs.Shown.{figures_of}
use Rattle.sr_verdict.specs.declared.heard.Heard.{Heard}
use Rattle.sr_verdict.specs.Heards.{IsHeardIn, AreHeard}

abbrev pub heard_as : Mac → Figures → Option Row → Option Row → Heard
heard_as mac f row closed = record { mac = mac; figures = f; sided = row; was_sided = closed }

-- what is heard of the sources so far is the front of what is heard of all
abbrev pub IsFront : Spans → List (Mac × Source) → List (Mac × Source) → List Heard → Type 0
IsFront spans entries left items = (rest : List Heard) → AreHeard spans left rest → AreHeard spans entries (items ++ rest)

-- with what is heard of one source more
front_and : (spans : Spans) (entries left : List (Mac × Source)) (mac : Mac) (s : Source) (row closed : Option Row) (items : List Heard)
    → IsHeardIn spans s row closed → IsFront spans entries ((mac, s) ∷ left) items
    → IsFront spans entries left (items ++ heard_as mac (figures_of s) row closed ∷ [])
front_and spans entries left mac s row closed items is_heard before rest are_heard =
    let h = heard_as mac (figures_of s) row closed in
    subst (λ (hs : List Heard). AreHeard spans entries hs) (sym (append_assoc items (h ∷ []) rest))
    (before (h ∷ rest) (row, closed, rest, is_heard, refl, are_heard))

pub heard_step : (spans : Spans) (entries own left : List (Mac × Source)) (mac : Mac) (s : Source) (row closed : Option Row) (f : Figures)
    (items new_items : List Heard) → own ≡ (mac, s) ∷ left → f ≡ figures_of s → IsHeardIn spans s row closed
    → new_items ≡ items ++ heard_as mac f row closed ∷ [] → IsFront spans entries own items → IsFront spans entries left new_items
heard_step spans entries own left mac s row closed f items new_items first shown is_heard more before =
    subst (λ (hs : List Heard). IsFront spans entries left hs) (sym more)
    (subst (λ (g : Figures). IsFront spans entries left (items ++ heard_as mac g row closed ∷ [])) (sym shown)
    (front_and spans entries left mac s row closed items is_heard
    (subst (λ (es : List (Mac × Source)). IsFront spans entries es items) first before)))

-- once no source is left it is all
pub heard_all : (spans : Spans) (entries own : List (Mac × Source)) (items : List Heard) → own ≡ [] → IsFront spans entries own items
    → AreHeard spans entries items
heard_all spans entries own items none before =
    subst (λ (hs : List Heard). AreHeard spans entries hs) (append-nil items)
    (subst (λ (es : List (Mac × Source)). IsFront spans entries es items) none before [] refl)
