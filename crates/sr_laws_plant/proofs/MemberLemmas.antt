-- A table of duplicate records keeps the law of one node in a steady run.
use Rattle.std.specs.Prelude.{if◌then◌else◌}
use Rattle.std.proofs.Common.{◌≡◌, ℕ, ◌<◌, inl, inr, Bool, true, false, not, ◌&&◌, ◌||◌, List, [], ◌∷◌, ℤ, pos, arith, refl, sym, ap, ◌∙◌}
use Rattle.std.proofs.Common.{subst}
use Rattle.std.specs.Prelude.{◌==◌, Some}
use Rattle.std.specs.List.{list_any}
use Rattle.sr_sequence.specs.Numbers.{wire}
use Rattle.std.specs.Ordering.{int_eq}
use Rattle.std.proofs.lemmas.Bool.{cases_Bool, and_parts, and_left, eqb-true, eq-eqb, false_from_ne_true, true≢false}
use Rattle.std.proofs.lemmas.Bool.Decides.{Decides-int_eq}
use Rattle.sr_frame.specs.declared.fields.Mac.{Mac}
use Rattle.sr_frame.specs.Addresses.{mac_eq}
use Rattle.sr_dup_window.specs.declared.lane_sets.Lane.{Lane}
use Rattle.sr_dup_window.specs.declared.lane_sets.Lanes.{Lanes}
use Rattle.sr_dup_window.specs.LaneSets.{has, is_empty}
use Rattle.sr_dup_window.specs.Bins.{IsWidth}
use Rattle.sr_dup_table.specs.Sources.{Sources, live_at, after_arrive}
use Rattle.sr_laws_dup.specs.TableRuns.{Noting, TableTurn, TableRun, arrived, aged, notings_of, arrivals_of, was_noted, AreInOrder}
use Rattle.sr_laws_dup.specs.TableRuns.{AreSteady}
use Rattle.sr_laws_dup.specs.RunLemmas.{each_pair_is_new_once}
use Rattle.sr_laws_plant.specs.Lists.{Each}
use Rattle.sr_frame.specs.declared.ports.Port.{Port}
use Rattle.sr_frame.specs.declared.ports.Port.TheVariants.{H, A, B, C}
use Rattle.sr_laws_plant.specs.Frames.{Frame, same_pair}
use Rattle.sr_laws_plant.specs.Handlings.{Handling, is_sending, sent_count, IsSent, AreConsistent}
use Rattle.sr_laws_plant.specs.OneNode.{Bars, bars_of, claims, is_copy, had, IsExactAt, ComesIn}
use Rattle.sr_laws_plant.specs.ListLemmas.{any_one, one_is, one_each, each_map}
use Rattle.sr_laws_plant.proofs.FrameLemmas.{same_parts, as_sending, as_arrival, sent_below, all_sent, sent_in}
use Rattle.sr_laws_plant.specs.Premises.{AreAddressed, AreOfMembers}
use Rattle.sr_laws_plant.specs.Steadiness.{is_arrival_at, arrival_of, arrivals_at}
use Rattle.sr_laws_plant.specs.Ports.{is_at, is_side, lane_at, inlet_lane}
use Rattle.sr_laws_plant.specs.Tables.{AreLanes, GoesOut, AreAsked, GoesWhereNew, table_answer, after_handling}
use Rattle.sr_laws_plant.proofs.SteadyLemmas.{not_sending}
use Rattle.sr_laws_plant.specs.Widths.{Widths, AreWidths}

-- what came in, and the lanes on which it is noted
abbrev pub noting_of : (ℕ → Mac) → (Handling → Lanes) → Handling → Noting
noting_of mac lanes d = record { arrival = arrival_of mac d; lanes = lanes d }

abbrev pub notings_at : (ℕ → Mac) → (Handling → Lanes) → ℕ → List Handling → List Noting
notings_at mac lanes k [] = []
notings_at mac lanes k (d ∷ ds) = if is_arrival_at k d then noting_of mac lanes d ∷ notings_at mac lanes k ds else notings_at mac lanes k ds

-- the turns of a member's table, and what it comes to, beside what the members did
pub data Follows (mac : ℕ → Mac) (x : ℕ → Bool) (ws : Widths) (lanes : Handling → Lanes) (k : ℕ) : List Handling → List TableTurn → Sources → Type 0 where
  none : Follows mac x ws lanes k [] [] []
  ages : {ds : List Handling} {ts : List TableTurn} {s : Sources} (now : ℕ) → Follows mac x ws lanes k ds ts s →
      Follows mac x ws lanes k ds (aged now ∷ ts) (live_at now s)
  other : {ds : List Handling} {ts : List TableTurn} {s : Sources} (d : Handling) → is_arrival_at k d ≡ false →
      Follows mac x ws lanes k ds ts s → Follows mac x ws lanes k (d ∷ ds) ts s
  takes : {ds : List Handling} {ts : List TableTurn} {s : Sources} (d : Handling) (own asked fresh : Lanes) → is_arrival_at k d ≡ true →
      is_empty (lanes d) ≡ false → table_answer (ws.at k) mac s d (lanes d) ≡ Some own → AreAsked x d asked → table_answer (ws.at k) mac s d asked ≡ Some fresh →
      GoesWhereNew x d fresh → Follows mac x ws lanes k ds ts s →
      Follows mac x ws lanes k (d ∷ ds) (arrived (noting_of mac lanes d) own ∷ ts) (after_handling (ws.at k) mac lanes s d)

-- a run of a member's table
pub record FollowedRun (mac : ℕ → Mac) (x : ℕ → Bool) (ws : Widths) (lanes : Handling → Lanes) (k : ℕ) (ds : List Handling) : Type 0 where
  pub turns : List TableTurn
  pub sources : Sources
  pub follows : Follows mac x ws lanes k ds turns sources
  pub order : AreInOrder 0 turns

-- it is a run of a table
run_of : (mac : ℕ → Mac) (x : ℕ → Bool) (ws : Widths) (lanes : Handling → Lanes) (k : ℕ) {ds : List Handling} {ts : List TableTurn} {s : Sources} →
    Follows mac x ws lanes k ds ts s → TableRun (ws.at k) [] ts s
run_of mac x ws lanes k none = refl
run_of mac x ws lanes k (ages {s = s} now f) = (s, run_of mac x ws lanes k f, refl)
run_of mac x ws lanes k (other d not_here f) = run_of mac x ws lanes k f
run_of mac x ws lanes k (takes {s = s} d own asked fresh here some answer asks more new f) =
    (s, run_of mac x ws lanes k f, (some, answer, refl))

-- members with addresses of their own and runs of their tables
pub record AreMembers (n : ℕ) (mac : ℕ → Mac) (x : ℕ → Bool) (ws : Widths) (lanes : Handling → Lanes) (ds : List Handling) : Type 0 where
  pub addressed : AreAddressed mac n
  pub widths : AreWidths ws
  pub noted : AreLanes lanes
  pub out : Each GoesOut ds
  pub runs : (k : ℕ) → FollowedRun mac x ws lanes k ds

-- what a new number has had: nothing
sending_new : (bars : Bars) (before : List Handling) (d : Handling) (o : Port) → AreConsistent (d ∷ before) → is_sending d ≡ true →
    had bars before d o ≡ false
sending_new bars before d o done sends = false_from_ne_true (had bars before d o) clash
  where
    clash : had bars before d o ≡ true → ⊥
    clash has =
        let s = as_sending before d done.2 sends in
        let earlier = any_one (λ e. is_copy d e && claims bars o e) before has in
        let one = one_is (λ e. IsSent e.frame before × (is_copy d e && claims bars o e ≡ true)) before
        (one_each (λ e. IsSent e.frame before) (λ e. is_copy d e && claims bars o e ≡ true) before
        (all_sent before done.0) earlier) in
        let e = one.0 in
        let copy = and_parts (d.node == e.node) (same_pair d.frame e.frame)
        (and_parts (is_copy d e) (claims bars o e) one.1.1).0 in
        let parts = same_parts d.frame e.frame copy.1 in
        let low = sent_below before e.frame done.0 one.1.0 in
        let src : e.frame.src ≡ d.node = sym parts.0 ∙ s.own in
        let there : sent_count e.frame.src before ≡ sent_count d.node before = ap (λ k. sent_count k before) src in
        let number = s.number in
        let equal = parts.1 in
        omega (arith, low, there, number, equal)

-- the tests of a pair agree
pair_test : (n : ℕ) (mac : ℕ → Mac) (f g : Frame) → AreAddressed mac n → f.src < n → g.src < n →
    (mac_eq (mac f.src) (mac g.src) && int_eq (pos f.number) (pos g.number)) ≡ same_pair f g
pair_test n mac f g own f_in g_in = ap (λ b. b && int_eq (pos f.number) (pos g.number)) (own.apart f.src g.src f_in g_in)
    ∙ ap (λ b. (f.src == g.src) && b) numbers
  where
    differ : (f.number == g.number) ≡ false → pos f.number ≡ pos g.number → ⊥
    differ differs e =
        let numbers : f.number ≡ g.number = cc in
        true≢false (sym (eq-eqb f.number g.number numbers) ∙ differs)

    numbers : int_eq (pos f.number) (pos g.number) ≡ (f.number == g.number)
    numbers =
        elim (cases_Bool (f.number == g.number)) [
          | inl is ↦ (Decides-int_eq (pos f.number) (pos g.number)).1 (ap pos (eqb-true f.number g.number is)) ∙ sym is
          | inr differs ↦ false_from_ne_true (int_eq (pos f.number) (pos g.number))
              (λ t. differ differs ((Decides-int_eq (pos f.number) (pos g.number)).0 t)) ∙ sym differs
        ]

-- a sending is no copy of what came in
no_copy : (k : ℕ) (d e : Handling) (es : List Handling) → d.node ≡ k → (d.node == d.frame.src) ≡ false → AreConsistent (e ∷ es) →
    is_arrival_at k e ≡ false → is_copy d e ≡ false
no_copy k d e es node foreign done not_arrival =
    elim (cases_Bool (is_sending e)) [
      | inr comes ↦
          let away : (k == e.node) ≡ false = rw comes at not_arrival in
          and_left (d.node == e.node) (same_pair d.frame e.frame) (ap (λ j. j == e.node) node ∙ away)
      | inl sends ↦ false_from_ne_true (is_copy d e) (clash sends)
    ]
  where
    clash : is_sending e ≡ true → is_copy d e ≡ true → ⊥
    clash sends copy =
        let both = and_parts (d.node == e.node) (same_pair d.frame e.frame) copy in
        let s = as_sending es e done.2 sends in
        let src : d.node ≡ d.frame.src = eqb-true d.node e.node both.0 ∙ sym s.own ∙ sym (same_parts d.frame e.frame both.1).0 in
        true≢false (sym (eq-eqb d.node d.frame.src src) ∙ foreign)

-- some copy has this
abbrev pub some_copy : (Handling → Bool) → List Handling → Handling → Bool
some_copy claim es d = list_any (λ e. is_copy d e && claim e) es

-- what some copy has is what its table has noted, on the lane that says it
noted_copy : (n : ℕ) (mac : ℕ → Mac) (lanes : Handling → Lanes) (k : ℕ) (d : Handling) (l : Lane) (claim : Handling → Bool)
    (es : List Handling) → AreAddressed mac n → d.frame.src < n → AreOfMembers n es → ((e : Handling) → has (lanes e) l ≡ claim e) →
    d.node ≡ k → (d.node == d.frame.src) ≡ false → AreConsistent es →
    was_noted (mac d.frame.src) (pos d.frame.number) l (notings_at mac lanes k es) ≡ some_copy claim es d
noted_copy n mac lanes k d l claim [] own in_n within as_claimed node foreign done = refl
noted_copy n mac lanes k d l claim (e ∷ es) own in_n within as_claimed node foreign done =
    let rest = noted_copy n mac lanes k d l claim es own in_n within.1 as_claimed node foreign done.0 in
    elim (cases_Bool (is_arrival_at k e)) [
      | inr not_arrival ↦ rw (not_arrival, no_copy k d e es node foreign done not_arrival) rest
      | inl arrival ↦
          let here : (k == e.node) ≡ true = rw (not_sending k e arrival) at arrival in
          let at_node : (d.node == e.node) ≡ true = ap (λ j. j == e.node) node ∙ here in
          let seen : notings_at mac lanes k (e ∷ es) ≡ noting_of mac lanes e ∷ notings_at mac lanes k es = rw arrival refl in
          ap (λ xs. was_noted (mac d.frame.src) (pos d.frame.number) l xs) seen
          ∙ one_more (mac d.frame.src) (pos d.frame.number) (noting_of mac lanes e) (notings_at mac lanes k es)
          (same_pair d.frame e.frame) (claim e) (pair_test n mac d.frame e.frame own in_n within.0) (as_claimed e)
          ∙ ap (λ b. (same_pair d.frame e.frame && claim e) || b) rest
          ∙ ap (λ b. ((b && same_pair d.frame e.frame) && claim e) || some_copy claim es d) (sym at_node)
    ]
  where
    one_more : (src : Mac) (n : ℤ) (x : Noting) (xs : List Noting) (copy says : Bool) →
        (mac_eq src x.arrival.src && int_eq n x.arrival.number) ≡ copy → has x.lanes l ≡ says →
        was_noted src n l (x ∷ xs) ≡ ((copy && says) || was_noted src n l xs)
    one_more src n x xs true says test has_it = rw (test, has_it) refl
    one_more src n x xs false says test has_it = rw test refl

-- wanted there, or came in at the interlink
abbrev pub is_outward : Port → Handling → Bool
is_outward o e = e.wanted o || (is_at C o && is_at o e.inlet)

-- a member in mode X has had besides what came in at that side
side_had : (x : ℕ → Bool) (d : Handling) (o : Port) (b : ℕ → Bool) → ((k : ℕ) → b k ≡ bars_of x k o) → is_at C o ≡ false →
    (es : List Handling) →
    had (bars_of x) es d o ≡ (some_copy (is_outward o) es d || (b d.node && some_copy (λ e. is_at o e.inlet) es d))
side_had x d o b is side [] = none (b d.node)
  where
    none : (b : Bool) → false ≡ (false || (b && false))
    none true = refl
    none false = refl
side_had x d o b is side (e ∷ es) =
    let rest = side_had x d o b is side es in
    elim (cases_Bool (is_copy d e)) [
      | inr away ↦ rw away rest
      | inl copy ↦
          let node : d.node ≡ e.node = eqb-true d.node e.node (and_parts (d.node == e.node) (same_pair d.frame e.frame) copy).0 in
          let bar : bars_of x e.node o ≡ b d.node = sym (is e.node) ∙ ap b (sym node) in
          let left : had (bars_of x) (e ∷ es) d o ≡ ((e.wanted o || (b d.node && is_at o e.inlet)) || had (bars_of x) es d o) =
          rw (copy, bar) refl in
          let one : some_copy (is_outward o) (e ∷ es) d ≡ (is_outward o e || some_copy (is_outward o) es d) = rw copy refl in
          let two : some_copy (λ e. is_at o e.inlet) (e ∷ es) d ≡ (is_at o e.inlet || some_copy (λ e. is_at o e.inlet) es d) =
          rw copy refl in
          left ∙ ap (λ h. (e.wanted o || (b d.node && is_at o e.inlet)) || h) rest
          ∙ sort (is_at C o) side (e.wanted o) (b d.node) (is_at o e.inlet) (some_copy (is_outward o) es d) (some_copy (λ e. is_at o e.inlet) es d)
          ∙ sym (ap (λ h. h || (b d.node && (is_at o e.inlet || some_copy (λ e. is_at o e.inlet) es d))) one)
          ∙ sym (ap (λ h. some_copy (is_outward o) (e ∷ es) d || (b d.node && h)) two)
    ]
  where
    sort : (c : Bool) → c ≡ false → (w b i m n : Bool) → ((w || (b && i)) || (m || (b && n))) ≡ (((w || (c && i)) || m) || (b && (i || n)))
    sort true shut w b i m n = cc
    sort false shut true b i m n = refl
    sort false shut false true true true n = refl
    sort false shut false true true false n = refl
    sort false shut false true false true n = refl
    sort false shut false true false false n = refl
    sort false shut false false i true n = refl
    sort false shut false false i false n = refl

-- what a table's turns noted
notings_are : (mac : ℕ → Mac) (x : ℕ → Bool) (ws : Widths) (lanes : Handling → Lanes) (k : ℕ) {ds : List Handling} {ts : List TableTurn} {s : Sources} →
    Follows mac x ws lanes k ds ts s → notings_of [] ts ≡ notings_at mac lanes k ds
notings_are mac x ws lanes k none = refl
notings_are mac x ws lanes k (ages now f) = notings_are mac x ws lanes k f
notings_are mac x ws lanes k (other d not_here f) = notings_are mac x ws lanes k f ∙ sym (rw not_here refl)
notings_are mac x ws lanes k (takes d own asked fresh here some answer asks more new f) =
    ap (λ xs. noting_of mac lanes d ∷ xs) (notings_are mac x ws lanes k f) ∙ sym (rw here refl)

arrivals_noted : (mac : ℕ → Mac) (lanes : Handling → Lanes) (k : ℕ) (ds : List Handling) →
    arrivals_of (notings_at mac lanes k ds) ≡ arrivals_at mac k ds
arrivals_noted mac lanes k [] = refl
arrivals_noted mac lanes k (d ∷ ds) =
    elim (cases_Bool (is_arrival_at k d)) [
      | inl here ↦ rw here (ap (λ xs. arrival_of mac d ∷ xs) (arrivals_noted mac lanes k ds))
      | inr away ↦ rw away (arrivals_noted mac lanes k ds)
    ]

-- where it is wanted and new, and not kept back
exact_at : (wanted asked had went : Bool) → (wanted ≡ true → asked ≡ true) → went ≡ (wanted && ((asked && not had) && true)) →
    went ≡ (wanted && not had)
exact_at true asked true went both a = a ∙ ap (λ c. (c && false) && true) (both refl)
exact_at true asked false went both a = a ∙ ap (λ c. (c && true) && true) (both refl)
exact_at false asked had went both a = a

kept_at : (wanted x asked asked_side had came went : Bool) → (wanted ≡ true → asked ≡ true) → (x ≡ true → asked_side ≡ true) →
    went ≡ (wanted && ((asked && not had) && not (x && not (asked_side && not came)))) → went ≡ (wanted && not (had || (x && came)))
kept_at false x asked asked_side had came went both side a = a
kept_at true false asked asked_side true came went both side a = a ∙ ap (λ c. (c && false) && true) (both refl)
kept_at true false asked asked_side false came went both side a = a ∙ ap (λ c. (c && true) && true) (both refl)
kept_at true true asked asked_side true came went both side a =
    a ∙ ap (λ c. (c && false) && not (true && not (asked_side && not came))) (both refl)
kept_at true true asked asked_side false true went both side a =
    a ∙ ap (λ c. (c && true) && not (true && not (asked_side && false))) (both refl)
    ∙ ap (λ c. (true && true) && not (true && not (c && false))) (side refl)
kept_at true true asked asked_side false false went both side a =
    a ∙ ap (λ c. (c && true) && not (true && not (asked_side && true))) (both refl)
    ∙ ap (λ c. (true && true) && not (true && not (c && true))) (side refl)

member_exact : (n : ℕ) (mac : ℕ → Mac) (x : ℕ → Bool) (ws : Widths) (lanes : Handling → Lanes) (k : ℕ) {ds : List Handling} {ts : List TableTurn}
    {s : Sources} → IsWidth (ws.at k) → AreAddressed mac n → AreLanes lanes → Follows mac x ws lanes k ds ts s → AreInOrder 0 ts →
    AreSteady (ws.at k) (arrivals_of (notings_of [] ts)) → AreConsistent ds → AreOfMembers n ds → Each GoesOut ds → IsExactAt (bars_of x) k ds
member_exact n mac x ws lanes k wide own as_claimed none order steady done within out = tt
member_exact n mac x ws lanes k wide own as_claimed (ages now f) order steady done within out =
    member_exact n mac x ws lanes k wide own as_claimed f order.0 steady done within out
member_exact n mac x ws lanes k wide own as_claimed (other {ds = ds} d not_here f) order steady done within out =
    (member_exact n mac x ws lanes k wide own as_claimed f order steady done.0 within.1 out.1, λ node o. sends node o)
  where
    all : (a b : Bool) → b ≡ false → a ≡ (a && not b)
    all true b e = sym (ap not e)
    all false b e = refl

    sends : d.node ≡ k → (o : Port) → d.went o ≡ (d.wanted o && not (had (bars_of x) ds d o))
    sends node o =
        elim (cases_Bool (is_sending d)) [
          | inl sending ↦ out.0 sending o ∙ all (d.wanted o) (had (bars_of x) ds d o) (sending_new (bars_of x) ds d o done sending)
          | inr comes ↦
              let away : (k == d.node) ≡ false = rw comes at not_here in
              absurd (true≢false (sym (eq-eqb k d.node (sym node)) ∙ away))
        ]
member_exact n mac x ws lanes k wide own as_claimed (takes {ds = ds} {ts = ts} {s = s} d mine asked fresh here some answer asks more new f) order
    steady done within out =
    (member_exact n mac x ws lanes k wide own as_claimed f order.0 steady.0 done.0 within.1 out.1, λ node o. exact node o)
  where
    -- asked of any lane, the table answers by what was noted
    seen : (l : Lane) → has fresh l ≡ (has asked l && not (was_noted (mac d.frame.src) (pos d.frame.number) l (notings_of [] ts)))
    seen l = each_pair_is_new_once (ws.at k) wide (record { arrival = arrival_of mac d; lanes = asked }) fresh ts
        (after_arrive (ws.at k) s (mac d.frame.src) (wire (pos d.frame.number)) asked d.time) l
        (s, run_of mac x ws lanes k f, (asks.some, more, refl)) (order, steady)

    by_copies : d.node ≡ k → (l : Lane) (claim : Handling → Bool) → ((e : Handling) → has (lanes e) l ≡ claim e) →
        has fresh l ≡ (has asked l && not (some_copy claim ds d))
    by_copies node l claim says =
        let a = as_arrival ds d done.2 (not_sending k d here) in
        seen l ∙ ap (λ b. has asked l && not b) (ap (λ xs. was_noted (mac d.frame.src) (pos d.frame.number) l xs)
        (notings_are mac x ws lanes k f) ∙ noted_copy n mac lanes k d l claim ds own within.0 within.1 says node a.foreign done.0)

    freely : d.node ≡ k → (o : Port) → had (bars_of x) ds d o ≡ some_copy (is_outward o) ds d →
        d.went o ≡ (d.wanted o && (has fresh (lane_at o) && true)) → d.went o ≡ (d.wanted o && not (had (bars_of x) ds d o))
    freely node o same goes =
        exact_at (d.wanted o) (has asked (lane_at o)) (some_copy (is_outward o) ds d) (d.went o) (asks.outlets o)
        (goes ∙ ap (λ b. d.wanted o && (b && true)) (by_copies node (lane_at o) (is_outward o) (λ e. as_claimed.outlets e o)))
        ∙ ap (λ b. d.wanted o && not b) (sym same)

    at_side : d.node ≡ k → (o : Port) → is_side o ≡ true → had (bars_of x) ds d o
        ≡ (some_copy (is_outward o) ds d || (x d.node && some_copy (λ e. is_at o e.inlet) ds d)) →
        d.went o ≡ (d.wanted o && (has fresh (lane_at o) && not (x d.node && not (has fresh (inlet_lane o))))) →
        d.went o ≡ (d.wanted o && not (had (bars_of x) ds d o))
    at_side node o side same goes =
        kept_at (d.wanted o) (x d.node) (has asked (lane_at o)) (has asked (inlet_lane o)) (some_copy (is_outward o) ds d)
        (some_copy (λ e. is_at o e.inlet) ds d) (d.went o) (asks.outlets o) (asks.sides o side)
        (goes ∙ ap (λ b. d.wanted o && (b && not (x d.node && not (has fresh (inlet_lane o)))))
        (by_copies node (lane_at o) (is_outward o) (λ e. as_claimed.outlets e o))
        ∙ ap (λ b. d.wanted o && ((has asked (lane_at o) && not (some_copy (is_outward o) ds d)) && not (x d.node && not b)))
        (by_copies node (inlet_lane o) (λ e. is_at o e.inlet) (λ e. as_claimed.sides e o side)))
        ∙ ap (λ b. d.wanted o && not b) (sym same)

    exact : d.node ≡ k → (o : Port) → d.went o ≡ (d.wanted o && not (had (bars_of x) ds d o))
    exact node H = freely node H refl (new H)
    exact node A = at_side node A refl (side_had x d A x (λ k. refl) refl ds) (new A)
    exact node B = at_side node B refl (side_had x d B x (λ k. refl) refl ds) (new B)
    exact node C = freely node C refl (new C)

-- frames of members
pub of_members : (n : ℕ) (ds : List Handling) → AreConsistent ds → Each (λ d. d.node < n) ds → AreOfMembers n ds
of_members n ds done within = each_map (λ d. IsSent d.frame ds) (λ d. d.frame.src < n) source ds (all_sent ds done)
  where
    source : (d : Handling) → IsSent d.frame ds → d.frame.src < n
    source d sent =
        let home = one_is (λ e. (e.node < n) × ComesIn d.frame.src H d.frame e) ds
        (one_each (λ e. e.node < n) (ComesIn d.frame.src H d.frame) ds within (sent_in ds d.frame done sent)) in
        subst (λ i. i < n) home.1.1.0 home.1.0

pub members_are_exact : (n : ℕ) (mac : ℕ → Mac) (x : ℕ → Bool) (ws : Widths) (lanes : Handling → Lanes) (ds : List Handling) →
    AreMembers n mac x ws lanes ds → Each (λ d. d.node < n) ds → AreConsistent ds → ((k : ℕ) → AreSteady (ws.at k) (arrivals_at mac k ds)) →
    (k : ℕ) → IsExactAt (bars_of x) k ds
members_are_exact n mac x ws lanes ds m within done steady k =
    let r = m.runs k in
    member_exact n mac x ws lanes k (m.widths.width k) m.addressed m.noted r.follows r.order
    (subst (AreSteady (ws.at k)) (sym (ap arrivals_of (notings_are mac x ws lanes k r.follows)
    ∙ arrivals_noted mac lanes k ds)) (steady k)) done (of_members n ds done within) m.out
