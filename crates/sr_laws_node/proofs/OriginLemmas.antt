-- What holds of every beginning of a run, and of what stands before it.
use Rattle.std.proofs.Common.{◌≡◌, ℕ, ◌≤◌, ◌+◌, ◌%◌, Bool, true, false, ◌||◌, ◌&&◌, not, List, [], ◌∷◌, ◌++◌, None, Some, ℤ, pos, refl, sym, ap, ◌∙◌, subst, inl, inr, arith, if◌then◌else◌}
use Rattle.std.specs.Prelude.{max, nat_lt, ◌-◌, ◌-ℤ◌}
use Rattle.std.specs.List.{list_any, IsDistinct}
use Rattle.std.specs.Map.{lookup}
use Rattle.std.proofs.lemmas.Bool.{cases_Bool}
use Rattle.std.proofs.lemmas.List.{append-nil, map-append}
use Rattle.std.proofs.lemmas.List.Folds.{list_any-append}
use Rattle.std.proofs.lemmas.Map.Made.{IsDistinct-keys_filter}
use Rattle.std.proofs.Math.Nat.{le-max_left}
use Rattle.sr_frame.specs.declared.fields.Mac.{Mac}
use Rattle.sr_frame.specs.Addresses.{mac_eq}
use Rattle.sr_frame.specs.AddressLemmas.{mac_same, mac_symm}
use Rattle.sr_dup_window.specs.declared.lane_sets.Lane.{Lane}
use Rattle.sr_dup_window.specs.declared.lane_sets.Lanes.{Lanes}
use Rattle.sr_dup_window.specs.LaneSets as lanes
use Rattle.sr_dup_window.specs.LaneSets.{is_empty}
use Rattle.sr_dup_window.specs.Bins.{IsWidth}
use Rattle.sr_dup_table.specs.Limits.{forget_time}
use Rattle.sr_dup_table.specs.Sources.{Remembered, Sources}
use Rattle.sr_laws_dup.specs.TableRuns.{Arrival, Noting, epoch, copies_of, was_noted, IsNearAll, IsNext, AreSteady, TableTurn, notings_of, arrivals_of}
use Rattle.sr_laws_dup.specs.TableRuns as table
use Rattle.sr_laws_dup.specs.Starts.{pairs, stood, IsStart, StartsAreSteady}
use Rattle.sr_node.specs.Images.{State}
use Rattle.sr_node.specs.Limits.{first_number}
use Rattle.sr_node.specs.Outboxes.{boxes_empty}
use Rattle.sr_node.specs.Resuming.{last_heard}
use Rattle.sr_node.specs.StartLemmas.{has_width}
use Rattle.sr_node_table.specs.Nodes.{empty_table}
use Rattle.sr_laws_node.specs.Origins.{Origin, new, resumed, first_state, BeginsAs, sources_but, stands_before, HasTops}
use Rattle.sr_laws_node.specs.NodeRuns.{Turn, happened, swapped, RunFrom}
use Rattle.sr_laws_node.specs.SteadyNodes.{AreNumbered, arrivals, IsSteadyFrom}
use Rattle.sr_laws_node.specs.SteadyExamples.{OriginsAreSteady}

-- the whole numbers of its greatest ones
abbrev pub first_top : Origin → Mac → ℤ
first_top (new start) = λ src. pos 0
first_top (resumed role mode width sources top) = top

-- all pairs of its table, those of the node's own address among them
abbrev pub first_pairs : Origin → List Noting
first_pairs origin = stood (first_top origin) (first_state origin).core.sources

pub begins_there : (origin : Origin) (s : State) → BeginsAs origin s → s ≡ first_state origin
begins_there (new start) s b = b
begins_there (resumed role mode width sources top) s b = b.1

-- a run has its beginning
pub run_begins : (origin : Origin) (turns : List Turn) (t : State) → RunFrom origin turns t → (s : State) × BeginsAs origin s
run_begins origin [] t run = (t, run)
run_begins origin (happened s e a n ∷ before) t run = run_begins origin before s run.0
run_begins origin (swapped s r ∷ before) t run = run_begins origin before s run.0

pub first_width : (origin : Origin) → IsWidth (first_state origin).core.width
first_width (new start) = has_width start
first_width (resumed role mode width sources top) = has_width (record { role = role; settings = record { mode = mode; width = width } })

-- the rest is as in a new node
pub first_next : (origin : Origin) → (first_state origin).core.next.0 ≡ (first_number + 0) % 65536
first_next (new start) = refl
first_next (resumed role mode width sources top) = refl

pub first_nodes : (origin : Origin) → (first_state origin).core.nodes ≡ empty_table
first_nodes (new start) = refl
first_nodes (resumed role mode width sources top) = refl

pub first_out : (origin : Origin) → (first_state origin).core.out ≡ boxes_empty
first_out (new start) = refl
first_out (resumed role mode width sources top) = refl

pub has_tops : (origin : Origin) (turns : List Turn) → IsSteadyFrom origin turns → HasTops origin
has_tops (new start) turns steady = tt
has_tops (resumed role mode width sources top) turns steady = steady.0

pub are_numbered : (origin : Origin) (turns : List Turn) → IsSteadyFrom origin turns → AreNumbered turns
are_numbered (new start) turns steady = steady.0
are_numbered (resumed role mode width sources top) turns steady = steady.1

pub are_steady : (origin : Origin) (turns : List Turn) → IsSteadyFrom origin turns → AreSteady (first_state origin).core.width (arrivals turns ++ arrivals_of (stands_before origin))
are_steady (new start) turns steady = subst (AreSteady (first_state (new start)).core.width) (sym (append-nil (arrivals turns))) steady.1
are_steady (resumed role mode width sources top) turns steady = steady.2

pub is_steady : (origin : Origin) (turns : List Turn) → HasTops origin → AreNumbered turns → AreSteady (first_state origin).core.width (arrivals turns ++ arrivals_of (stands_before origin)) → IsSteadyFrom origin turns
is_steady (new start) turns tops numbered steady = (numbered, subst (AreSteady (first_state (new start)).core.width) (append-nil (arrivals turns)) steady)
is_steady (resumed role mode width sources top) turns tops numbered steady = (tops, numbered, steady)

-- no source was heard later than the latest
least_latest : (src : Mac) (h : Remembered) (s : Sources) → lookup (mac_eq src) s ≡ Some h → h.time ≤ last_heard s
least_latest src h [] found = absurd (let no : None ≡ Some h = found in cc)
least_latest src h (e ∷ es) found =
    elim (cases_Bool (mac_eq src e.0)) [
      | inl same ↦
          let is : Some e.1 ≡ Some h = rw same at found in
          let here : e.1 ≡ h = cc in
          subst (λ x. x.time ≤ max e.1.time (last_heard es)) here (le-max_left e.1.time (last_heard es))
      | inr other ↦
          let later : h.time ≤ last_heard es = least_latest src h es (rw other at found) in
          at_right h.time e.1.time (last_heard es) later
    ]
  where
    at_right : (a b c : ℕ) → a ≤ c → a ≤ max b c
    at_right a b c le = grind (arith, le)

-- so a run can begin with its table
pub is_start : (origin : Origin) (s : State) → BeginsAs origin s → HasTops origin → IsStart (first_state origin).core.width (first_state origin).core.time (first_top origin) (first_state origin).core.sources
unfolding IsDistinct
is_start (new start) s b tops = record { keys = tt; each = λ src h found. absurd (let no : None ≡ Some h = found in cc) }
is_start (resumed role mode width sources top) s b tops = record {
  keys = b.0.0.unique;
  each = λ src h found. record { whole = b.0.1 src h found; reference = tops src h found; time = least_latest src h sources found };
}

-- what is found among the others is found among all, and is of another address
found_other : (mac src : Mac) (h : Remembered) (s : Sources) → lookup (mac_eq src) (sources_but mac s) ≡ Some h → (mac_eq mac src ≡ false) × (lookup (mac_eq src) s ≡ Some h)
found_other mac src h [] found = absurd (let no : None ≡ Some h = found in cc)
found_other mac src h (e ∷ es) found =
    elim (cases_Bool (mac_eq mac e.0)) [
      | inl own ↦
          let rest = found_other mac src h es (rw own at found) in
          let apart : mac_eq src e.0 ≡ false = mac_symm src e.0 ∙ subst (λ m. mac_eq m src ≡ false) (mac_same mac e.0 own) rest.0 in
          (rest.0, rw apart rest.1)
      | inr other ↦
          elim (cases_Bool (mac_eq src e.0)) [
            | inl same ↦ (subst (λ m. mac_eq mac m ≡ false) (sym (mac_same src e.0 same)) other, rw same (rw (other, same) at found))
            | inr apart ↦ let rest = found_other mac src h es (rw (other, apart) at found) in (rest.0, rw apart rest.1)
          ]
    ]

others_start : (w from : ℕ) (top : Mac → ℤ) (mac : Mac) (s : Sources) → IsStart w from top s → IsStart w from top (sources_but mac s)
others_start w from top mac s start = record {
  keys = IsDistinct-keys_filter mac_eq (λ e. not (mac_eq mac e.0)) s start.keys;
  each = λ src h found. start.each src h (found_other mac src h s found).1;
}

-- pairs of another source are none of this one
pairs_noted : (q src : Mac) (n k : ℤ) (l : Lane) (time : ℕ) (marks : List Lanes) (rest : List Noting) → mac_eq q src ≡ false → was_noted q n l (pairs src k time marks ++ rest) ≡ was_noted q n l rest
pairs_noted q src n k l time [] rest other = refl
pairs_noted q src n k l time (m ∷ ms) rest other =
    let further = pairs_noted q src n (k -ℤ pos 1) l time ms rest other in
    elim (cases_Bool (is_empty m)) [
      | inl empty ↦ rw empty further
      | inr some ↦ rw (some, other) further
    ]

pairs_epoch : (q src : Mac) (n : ℤ) (now time : ℕ) (marks : List Lanes) (rest : List Noting) → mac_eq q src ≡ false → epoch q now (arrivals_of (pairs src n time marks ++ rest)) ≡ epoch q now (arrivals_of rest)
pairs_epoch q src n now time [] rest other = refl
pairs_epoch q src n now time (m ∷ ms) rest other =
    let further = pairs_epoch q src (n -ℤ pos 1) now time ms rest other in
    elim (cases_Bool (is_empty m)) [
      | inl empty ↦ rw empty further
      | inr some ↦ rw (some, other) further
    ]

pairs_copies : (q src : Mac) (n k : ℤ) (time : ℕ) (marks : List Lanes) (rest : List Noting) → mac_eq q src ≡ false → copies_of q n (arrivals_of (pairs src k time marks ++ rest)) ≡ copies_of q n (arrivals_of rest)
pairs_copies q src n k time [] rest other = refl
pairs_copies q src n k time (m ∷ ms) rest other =
    let further = pairs_copies q src n (k -ℤ pos 1) time ms rest other in
    elim (cases_Bool (is_empty m)) [
      | inl empty ↦ rw empty further
      | inr some ↦ rw (some, other) further
    ]

is_other : (q mac own : Mac) → mac_eq q mac ≡ false → mac_eq mac own ≡ true → mac_eq q own ≡ false
is_other q mac own other same = subst (λ m. mac_eq q m ≡ false) (mac_same mac own same) other

-- of another address, the table's pairs say the same without those of the node's own
others_noted : (top : Mac → ℤ) (mac q : Mac) (n : ℤ) (l : Lane) (s : Sources) → mac_eq q mac ≡ false → was_noted q n l (stood top (sources_but mac s)) ≡ was_noted q n l (stood top s)
others_noted top mac q n l [] other = refl
others_noted top mac q n l (e ∷ es) other =
    let further = others_noted top mac q n l es other in
    let these = pairs e.0 (top e.0) e.1.time e.1.seen.marks in
    let test : Noting → Bool = λ x. table.is_copy q n x.arrival && lanes.has x.lanes l in
    elim (cases_Bool (mac_eq mac e.0)) [
      | inl own ↦ rw own (further ∙ sym (pairs_noted q e.0 n (top e.0) l e.1.time e.1.seen.marks (stood top es) (is_other q mac e.0 other own)))
      | inr apart ↦ rw apart (list_any-append test these (stood top (sources_but mac es)) ∙ ap (λ y. list_any test these || y) further ∙ sym (list_any-append test these (stood top es)))
    ]

-- of the node's own address nothing is left
own_gone : (top : Mac → ℤ) (mac : Mac) (n : ℤ) (l : Lane) (s : Sources) → was_noted mac n l (stood top (sources_but mac s)) ≡ false
own_gone top mac n l [] = refl
own_gone top mac n l (e ∷ es) =
    elim (cases_Bool (mac_eq mac e.0)) [
      | inl own ↦ rw own (own_gone top mac n l es)
      | inr apart ↦ rw apart (pairs_noted mac e.0 n (top e.0) l e.1.time e.1.seen.marks (stood top (sources_but mac es)) apart ∙ own_gone top mac n l es)
    ]

pub stood_noted : (origin : Origin) (q : Mac) (n : ℤ) (l : Lane) → mac_eq q (first_state origin).role.mac ≡ false → was_noted q n l (first_pairs origin) ≡ was_noted q n l (stands_before origin)
stood_noted (new start) q n l other = refl
stood_noted (resumed role mode width sources top) q n l other = sym (others_noted top role.mac q n l sources other)

pub stood_own : (origin : Origin) (n : ℤ) (l : Lane) → was_noted (first_state origin).role.mac n l (stands_before origin) ≡ false
stood_own (new start) n l = refl
stood_own (resumed role mode width sources top) n l = own_gone top role.mac n l sources

-- the same behind other arrivals
epoch_behind : (q : Mac) (now : ℕ) (ys a b : List Arrival) → ((at : ℕ) → epoch q at a ≡ epoch q at b) → epoch q now (ys ++ a) ≡ epoch q now (ys ++ b)
epoch_behind q now [] a b same = same now
epoch_behind q now (y ∷ ys) a b same =
    ap (λ z. if mac_eq q y.src then (if nat_lt (now - y.time) forget_time then y ∷ z else []) else epoch q now (ys ++ a)) (epoch_behind q y.time ys a b same)
    ∙ ap (λ z. if mac_eq q y.src then (if nat_lt (now - y.time) forget_time then y ∷ epoch q y.time (ys ++ b) else []) else z) (epoch_behind q now ys a b same)

copies_behind : (q : Mac) (n : ℤ) (ys a b : List Arrival) → copies_of q n a ≡ copies_of q n b → copies_of q n (ys ++ a) ≡ copies_of q n (ys ++ b)
copies_behind q n [] a b same = same
copies_behind q n (y ∷ ys) a b same = ap (λ z. if table.is_copy q n y then y ∷ z else z) (copies_behind q n ys a b same)

-- these arrivals say the same of a source
record AreAlike (q : Mac) (a b : List Arrival) : Type 0 where
  pub epochs : (at : ℕ) → epoch q at a ≡ epoch q at b
  pub copies : (n : ℤ) → copies_of q n a ≡ copies_of q n b

-- of each source of others
abbrev AlikeForAll : List Arrival → List Arrival → List Arrival → Type 0
AlikeForAll a b [] = Unit {0}
AlikeForAll a b (y ∷ ys) = AlikeForAll a b ys × AreAlike y.src a b

-- those are steady behind these where they are steady behind those
steady_behind : (w : ℕ) (a b ys : List Arrival) → AlikeForAll a b ys → AreSteady w b → AreSteady w (ys ++ a) → AreSteady w (ys ++ b)
steady_behind w a b [] all first steady = first
steady_behind w a b (y ∷ ys) all first steady =
    let epochs = epoch_behind y.src y.time ys a b all.1.epochs in
    let near : IsNearAll w (epoch y.src y.time (ys ++ b)) y.number = subst (λ e. IsNearAll w e y.number) epochs steady.1.0 in
    let copies : copies_of y.src y.number (ys ++ b) ≡ copies_of y.src y.number (epoch y.src y.time (ys ++ b)) =
    sym (copies_behind y.src y.number ys a b (all.1.copies y.number)) ∙ steady.1.1 ∙ ap (copies_of y.src y.number) epochs in
    (steady_behind w a b ys all.0 first steady.0, (near, copies))

arrivals_join : (xs ys : List Noting) → arrivals_of (xs ++ ys) ≡ arrivals_of xs ++ arrivals_of ys
arrivals_join xs ys = map-append (λ (x : Noting). x.arrival) xs ys

others_alike : (top : Mac → ℤ) (mac q : Mac) (s : Sources) → mac_eq q mac ≡ false → AreAlike q (arrivals_of (stood top (sources_but mac s))) (arrivals_of (stood top s))
others_alike top mac q s other = record { epochs = λ at. epochs s at; copies = λ n. copies s n }
  where
    epochs : (s : Sources) (at : ℕ) → epoch q at (arrivals_of (stood top (sources_but mac s))) ≡ epoch q at (arrivals_of (stood top s))
    epochs [] at = refl
    epochs (e ∷ es) at =
        let these = pairs e.0 (top e.0) e.1.time e.1.seen.marks in
        elim (cases_Bool (mac_eq mac e.0)) [
          | inl own ↦ rw own (epochs es at ∙ sym (pairs_epoch q e.0 (top e.0) at e.1.time e.1.seen.marks (stood top es) (is_other q mac e.0 other own)))
          | inr apart ↦ rw apart (ap (epoch q at) (arrivals_join these (stood top (sources_but mac es)))
              ∙ epoch_behind q at (arrivals_of these) (arrivals_of (stood top (sources_but mac es))) (arrivals_of (stood top es)) (epochs es)
              ∙ ap (epoch q at) (sym (arrivals_join these (stood top es))))
        ]

    copies : (s : Sources) (n : ℤ) → copies_of q n (arrivals_of (stood top (sources_but mac s))) ≡ copies_of q n (arrivals_of (stood top s))
    copies [] n = refl
    copies (e ∷ es) n =
        let these = pairs e.0 (top e.0) e.1.time e.1.seen.marks in
        elim (cases_Bool (mac_eq mac e.0)) [
          | inl own ↦ rw own (copies es n ∙ sym (pairs_copies q e.0 n (top e.0) e.1.time e.1.seen.marks (stood top es) (is_other q mac e.0 other own)))
          | inr apart ↦ rw apart (ap (copies_of q n) (arrivals_join these (stood top (sources_but mac es)))
              ∙ copies_behind q n (arrivals_of these) (arrivals_of (stood top (sources_but mac es))) (arrivals_of (stood top es)) (copies es n)
              ∙ ap (copies_of q n) (sym (arrivals_join these (stood top es))))
        ]

-- none of these arrivals is of this address
abbrev pub AreOfOthers : Mac → List Arrival → Type 0
AreOfOthers mac [] = Unit {0}
AreOfOthers mac (x ∷ xs) = AreOfOthers mac xs × (mac_eq x.src mac ≡ false)

all_alike : (top : Mac → ℤ) (mac : Mac) (s : Sources) (ys : List Arrival) → AreOfOthers mac ys → AlikeForAll (arrivals_of (stood top (sources_but mac s))) (arrivals_of (stood top s)) ys
all_alike top mac s [] of = tt
all_alike top mac s (y ∷ ys) of = (all_alike top mac s ys of.0, others_alike top mac y.src s of.1)

-- a steady run is steady behind all pairs of its table, since nothing of the node's own address arrives
pub steady_of_all : StartsAreSteady → (origin : Origin) (s : State) (turns : List Turn) → BeginsAs origin s → AreOfOthers (first_state origin).role.mac (arrivals turns) → IsSteadyFrom origin turns
    → AreSteady (first_state origin).core.width (arrivals turns ++ arrivals_of (first_pairs origin))
steady_of_all law (new start) s turns begins of steady = are_steady (new start) turns steady
steady_of_all law (resumed role mode width sources top) s turns begins of steady =
    let origin : Origin = resumed role mode width sources top in
    let all = law (first_state origin).core.width (first_width origin) (first_state origin).core.time top sources (is_start origin s begins steady.0) in
    steady_behind (first_state origin).core.width (arrivals_of (stands_before origin)) (arrivals_of (first_pairs origin)) (arrivals turns)
    (all_alike top role.mac sources (arrivals turns) of) all steady.2

-- what stands before a run is steady by itself
pub origins_are_steady_lem : StartsAreSteady → OriginsAreSteady
origins_are_steady_lem law (new start) s begins tops = (tt, tt)
origins_are_steady_lem law (resumed role mode width sources top) s begins tops =
    let origin : Origin = resumed role mode width sources top in
    let w = (first_state origin).core.width in
    let from = (first_state origin).core.time in
    (tops, tt, law w (first_width origin) from top (sources_but role.mac sources) (others_start w from top role.mac sources (is_start origin s begins tops)))

-- arrivals of a source of which nothing stands before
pairs_absent : (top : Mac → ℤ) (mac q : Mac) (s : Sources) → lookup (mac_eq q) s ≡ None → AreAlike q [] (arrivals_of (stood top (sources_but mac s)))
pairs_absent top mac q s lacks = record { epochs = λ at. sym (epochs s at lacks); copies = λ n. sym (copies s n lacks) }
  where
    epochs : (s : Sources) (at : ℕ) → lookup (mac_eq q) s ≡ None → epoch q at (arrivals_of (stood top (sources_but mac s))) ≡ []
    epochs [] at none = refl
    epochs (e ∷ es) at none =
        elim (cases_Bool (mac_eq q e.0)) [
          | inl same ↦ absurd (let no : Some e.1 ≡ None = rw same at none in cc)
          | inr other ↦
              let rest = epochs es at (rw other at none) in
              elim (cases_Bool (mac_eq mac e.0)) [
                | inl own ↦ rw own rest
                | inr apart ↦ rw apart (pairs_epoch q e.0 (top e.0) at e.1.time e.1.seen.marks (stood top (sources_but mac es)) other ∙ rest)
              ]
        ]

    copies : (s : Sources) (n : ℤ) → lookup (mac_eq q) s ≡ None → copies_of q n (arrivals_of (stood top (sources_but mac s))) ≡ []
    copies [] n none = refl
    copies (e ∷ es) n none =
        elim (cases_Bool (mac_eq q e.0)) [
          | inl same ↦ absurd (let no : Some e.1 ≡ None = rw same at none in cc)
          | inr other ↦
              let rest = copies es n (rw other at none) in
              elim (cases_Bool (mac_eq mac e.0)) [
                | inl own ↦ rw own rest
                | inr apart ↦ rw apart (pairs_copies q e.0 n (top e.0) e.1.time e.1.seen.marks (stood top (sources_but mac es)) other ∙ rest)
              ]
        ]

-- these arrivals are of one source
abbrev pub AreOf : Mac → List Arrival → Type 0
AreOf src [] = Unit {0}
AreOf src (x ∷ xs) = AreOf src xs × (x.src ≡ src)

one_alike : (src : Mac) (a b ys : List Arrival) → AreAlike src a b → AreOf src ys → AlikeForAll a b ys
one_alike src a b [] alike of = tt
one_alike src a b (y ∷ ys) alike of = (one_alike src a b ys alike of.0, subst (λ q. AreAlike q a b) (sym of.1) alike)

-- they are steady behind what stands before where nothing of that source does
pub steady_of_one : (origin : Origin) (src : Mac) (ys : List Arrival) → lookup (mac_eq src) (first_state origin).core.sources ≡ None → AreOf src ys → AreSteady (first_state origin).core.width (arrivals_of (stands_before origin)) →
    AreSteady (first_state origin).core.width ys → AreSteady (first_state origin).core.width (ys ++ arrivals_of (stands_before origin))
steady_of_one (new start) src ys lacks of first steady = subst (AreSteady (first_state (new start)).core.width) (sym (append-nil ys)) steady
steady_of_one (resumed role mode width sources top) src ys lacks of first steady =
    let origin : Origin = resumed role mode width sources top in
    steady_behind (first_state origin).core.width [] (arrivals_of (stands_before origin)) ys
    (one_alike src [] (arrivals_of (stands_before origin)) ys (pairs_absent top role.mac src sources lacks) of) first
    (subst (AreSteady (first_state origin).core.width) (sym (append-nil ys)) steady)

-- what was noted after other notings
pub notings_behind : (before : List Noting) (took : List TableTurn) → notings_of before took ≡ notings_of [] took ++ before
notings_behind before [] = refl
notings_behind before (table.arrived x fresh ∷ took) = ap (λ xs. x ∷ xs) (notings_behind before took)
notings_behind before (table.aged now ∷ took) = notings_behind before took
