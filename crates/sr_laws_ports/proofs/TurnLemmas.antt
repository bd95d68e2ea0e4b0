-- Histories are runs.
use Rattle.std.proofs.Common.{◌≡◌, ℕ, ◌+◌, ℤ, List, [], ◌∷◌, ◌++◌, Some, length, refl, sym, ap, ◌∙◌, subst, arith, add-one, append_assoc, append-nil}
use Rattle.std.proofs.Math.Logic.{∥∥₁_elim, ∥∥₁_map, ∥∥₁_prop}
use Rattle.std.proofs.lemmas.Grind.{merely}
use Rattle.std.specs.List.{slice_get}
use Rattle.sr_frame.specs.declared.ports.Port.{Port}
use Rattle.sr_node.specs.Images.{State}
use Rattle.sr_node.specs.NodeImages.{image_state}
use Rattle.sr_node.specs.Outboxes.{box_at}
use Rattle.sr_laws_node.specs.Origins.{Origin}
use Rattle.sr_laws_node.specs.NodeRuns.{Turn, happened, swapped, RunFrom}
use Rattle.sr_laws_node.specs.NodeLaws.{EachOnce}
use Rattle.sr_laws_node.specs.Brought.{taken, event_takes}
use Rattle.sr_ports.specs.declared.entry.Entry.{Entry}
use Rattle.sr_ports.specs.declared.segment.Segment.{Segment}
use Rattle.sr_ports.specs.Histories.{Steps}
use Rattle.sr_ports.specs.Parts.{entries_in}
use Rattle.sr_ports.specs.Settling.{Follows, AreWhole}
use Rattle.sr_laws_ports.specs.Turns.{AreTurns, AreTurnsBehind, AreTurnsOfAll, state_behind, handed_out}
use Rattle.sr_laws_ports.specs.JournalLaws.{
  HistoriesHaveTurns,
  HistoriesHappenOneWay,
  HistoriesAreRuns,
  SwapsAreTurns,
  SegmentsHaveTurns,
  SegmentsHappenOneWay,
  SegmentsAreRuns,
  EnteredOnce,
  EnteredOnceInAll,
}
use Rattle.sr_laws_ports.proofs.StepLemmas.{AreUnique, step_one}

-- the turn of an entry
abbrev turn_of : (ℕ → ℤ) → List Turn → State → Entry → Turn
turn_of number before s e = happened s e.event e.answer (number (length before))

pub have_turns : HistoriesHaveTurns
have_turns number before s t [] steps = (before, (steps, refl))
have_turns number before s t (e ∷ es) steps =
    let rest = have_turns number (turn_of number before s e ∷ before) steps.0 t es steps.2 in
    (rest.0, (steps.0, steps.1, rest.1))

pub happen_one_way : AreUnique → HistoriesHappenOneWay
happen_one_way unique number before s t u [] turns others are them = (are.0 ∙ sym them.0, are.1 ∙ sym them.1)
happen_one_way unique number before s t u (e ∷ es) turns others are them =
    let same : them.0 ≡ are.0 = step_one unique s e.event e.answer them.0 are.0 them.1.step are.1.step in
    happen_one_way unique number (turn_of number before s e ∷ before) are.0 t u es turns others
    are.2
    (subst (λ m. AreTurns number (turn_of number before s e ∷ before) m es u others) same them.2)

pub are_runs : HistoriesAreRuns
are_runs origin number before s t [] turns run are =
    subst (λ x. RunFrom origin x t) (sym are.1) (subst (λ x. RunFrom origin before x) (sym are.0) run)
are_runs origin number before s t (e ∷ es) turns run are =
    let here : RunFrom origin (turn_of number before s e ∷ before) are.0 = (run, are.1.taken, are.1.step) in
    are_runs origin number (turn_of number before s e ∷ before) are.0 t es turns here are.2

pub swaps_are_turns : SwapsAreTurns
swaps_are_turns origin before s t run follows = (run, follows.mac, λ i. record { role = t.role; core = follows.core i })

-- what entries take at an outlet is behind what was taken before
taken_behind : (o : Port) (number : ℕ → ℤ) (before : List Turn) (s t : State) (es : List Entry) (turns : List Turn)
    → AreTurns number before s es t turns → taken o turns ≡ taken o before ++ handed_out o es
taken_behind o number before s t [] turns are = ap (λ l. taken o l) are.1 ∙ sym (append-nil (taken o before))
taken_behind o number before s t (e ∷ es) turns are =
    taken_behind o number (turn_of number before s e ∷ before) are.0 t es turns are.2
    ∙ append_assoc (taken o before) (event_takes o e.event e.answer) (handed_out o es)

pub entered_once : EachOnce → EnteredOnce
entered_once once origin number s t es turns o begins are steady =
    let took : taken o turns ≡ handed_out o es = taken_behind o number [] s t es turns are in
    ap (λ l. l ++ box_at t.core.out o) (sym took)
    ∙ once origin turns t o (are_runs origin number [] s t es turns begins are) steady

-- what goes on in segments has turns
have_turns_behind : (number : ℕ → ℤ) (before : List Turn) (s : State) (gs : List Segment)
    → ∥ ((turns : List Turn) × AreTurnsBehind number before s gs turns) ∥₁
have_turns_behind number before s [] = merely (before, refl)
have_turns_behind number before s (g ∷ gs) =
    ∥∥₁_elim g.legal ∥∥₁_prop (λ steps.
    let r = have_turns number (swapped s g.opening.role ∷ before) (image_state g.opening) (image_state g.closing) g.entries.items steps in
    ∥∥₁_map (have_turns_behind number r.0 (image_state g.closing) gs) (λ rest. (rest.0, (r.0, r.1, rest.1))))

pub segments_have_turns : SegmentsHaveTurns
segments_have_turns number g gs =
    ∥∥₁_elim g.legal ∥∥₁_prop (λ steps.
    let r = have_turns number [] (image_state g.opening) (image_state g.closing) g.entries.items steps in
    ∥∥₁_map (have_turns_behind number r.0 (image_state g.closing) gs) (λ rest. (rest.0, (r.0, r.1, rest.1))))

-- segments have only these turns
one_way_behind : AreUnique → (number : ℕ → ℤ) (before : List Turn) (s : State) (gs : List Segment) (turns others : List Turn)
    → AreTurnsBehind number before s gs turns → AreTurnsBehind number before s gs others → turns ≡ others
one_way_behind unique number before s [] turns others are them = are ∙ sym them
one_way_behind unique number before s (g ∷ gs) turns others are them =
    let one = happen_one_way unique number (swapped s g.opening.role ∷ before) (image_state g.opening) (image_state g.closing) (image_state g.closing) g.entries.items them.0 are.0 them.1 are.1 in
    one_way_behind unique number are.0 (image_state g.closing) gs turns others
    are.2
    (subst (λ m. AreTurnsBehind number m (image_state g.closing) gs others) one.1 them.2)

pub segments_happen_one_way : AreUnique → SegmentsHappenOneWay
segments_happen_one_way unique number g gs turns others are them =
    let one = happen_one_way unique number [] (image_state g.opening) (image_state g.closing) (image_state g.closing) g.entries.items them.0 are.0 them.1 are.1 in
    one_way_behind unique number are.0 (image_state g.closing) gs turns others
    are.2
    (subst (λ m. AreTurnsBehind number m (image_state g.closing) gs others) one.1 them.2)

-- each segment follows the one before, the first this state
abbrev FollowFrom : State → List Segment → Type 0
FollowFrom s [] = Unit {0}
FollowFrom s (g ∷ gs) = Follows s (image_state g.opening) × FollowFrom (image_state g.closing) gs

-- on from a run they are a run
runs_behind : (origin : Origin) (number : ℕ → ℤ) (before : List Turn) (s : State) (gs : List Segment) (turns : List Turn)
    → RunFrom origin before s → FollowFrom s gs → AreTurnsBehind number before s gs turns → RunFrom origin turns (state_behind s gs)
runs_behind origin number before s [] turns run follow are = subst (λ x. RunFrom origin x s) (sym are) run
runs_behind origin number before s (g ∷ gs) turns run follow are =
    let here : RunFrom origin (swapped s g.opening.role ∷ before) (image_state g.opening) = swaps_are_turns origin before s (image_state g.opening) run follow.0 in
    let through : RunFrom origin are.0 (image_state g.closing) =
    are_runs origin number (swapped s g.opening.role ∷ before) (image_state g.opening) (image_state g.closing) g.entries.items are.0 here are.1 in
    runs_behind origin number are.0 (image_state g.closing) gs turns through follow.1 are.2

-- one place further
get_next : (g : Segment) (gs : List Segment) (i : ℕ) (s : Segment) → slice_get gs i ≡ Some s → slice_get (g ∷ gs) (i + 1) ≡ Some s
get_next g gs i s is = let e : slice_get (g ∷ gs) (i + 1) ≡ slice_get gs i = rw add-one in e ∙ is

-- segments of which none is torn follow each other
follow_from : (g : Segment) (gs : List Segment) → AreWhole (g ∷ gs) → FollowFrom (image_state g.closing) gs
follow_from g [] whole = tt
follow_from g (h ∷ hs) whole = (
  whole 0 (omega arith) g h refl refl,
  follow_from h hs (λ i below s t is_s is_t. whole (i + 1) (omega (arith, below)) s t (get_next g (h ∷ hs) i s is_s) (get_next g (h ∷ hs) (i + 1) t is_t)),
)

pub segments_are_runs : SegmentsAreRuns
segments_are_runs origin number g gs turns opens whole are =
    runs_behind origin number are.0 (image_state g.closing) gs turns
    (are_runs origin number [] (image_state g.opening) (image_state g.closing) g.entries.items are.0 opens are.1)
    (follow_from g gs whole)
    are.2

-- the entries of both take what each take
handed-append : (o : Port) (es fs : List Entry) → handed_out o (es ++ fs) ≡ handed_out o es ++ handed_out o fs
handed-append o [] fs = refl
handed-append o (e ∷ es) fs =
    ap (λ l. event_takes o e.event e.answer ++ l) (handed-append o es fs)
    ∙ sym (append_assoc (event_takes o e.event e.answer) (handed_out o es) (handed_out o fs))

-- what a segment and those behind it take is behind what was taken before
joined_behind : (o : Port) (before middle turns : List Turn) (es fs : List Entry)
    → taken o middle ≡ taken o before ++ handed_out o es
    → taken o turns ≡ taken o middle ++ handed_out o fs
    → taken o turns ≡ taken o before ++ handed_out o (es ++ fs)
joined_behind o before middle turns es fs first second =
    second
    ∙ ap (λ l. l ++ handed_out o fs) first
    ∙ append_assoc (taken o before) (handed_out o es) (handed_out o fs)
    ∙ ap (λ l. taken o before ++ l) (sym (handed-append o es fs))

taken_behind_all : (o : Port) (number : ℕ → ℤ) (before : List Turn) (s : State) (gs : List Segment) (turns : List Turn)
    → AreTurnsBehind number before s gs turns → taken o turns ≡ taken o before ++ handed_out o (entries_in gs)
taken_behind_all o number before s [] turns are = ap (λ l. taken o l) are ∙ sym (append-nil (taken o before))
taken_behind_all o number before s (g ∷ gs) turns are =
    let swap : Turn = swapped s g.opening.role in
    let first : taken o are.0 ≡ taken o before ++ handed_out o g.entries.items =
    taken_behind o number (swap ∷ before) (image_state g.opening) (image_state g.closing) g.entries.items are.0 are.1
    ∙ ap (λ l. l ++ handed_out o g.entries.items) (append-nil (taken o before)) in
    joined_behind o before are.0 turns g.entries.items (entries_in gs) first
    (taken_behind_all o number are.0 (image_state g.closing) gs turns are.2)

pub entered_once_in_all : EachOnce → EnteredOnceInAll
entered_once_in_all once origin number g gs turns o opens whole are steady =
    let took : taken o turns ≡ handed_out o (entries_in (g ∷ gs)) =
    joined_behind o [] are.0 turns g.entries.items (entries_in gs)
    (taken_behind o number [] (image_state g.opening) (image_state g.closing) g.entries.items are.0 are.1)
    (taken_behind_all o number are.0 (image_state g.closing) gs turns are.2) in
    ap (λ l. l ++ box_at (state_behind (image_state g.closing) gs).core.out o) (sym took)
    ∙ once origin turns (state_behind (image_state g.closing) gs) o (segments_are_runs origin number g gs turns opens whole are) steady
