-- Rings and LANs, a link at a time.
use Rattle.std.proofs.Common.{◌≡◌, ◌≢◌, ℕ, zero, suc, ◌+◌, ◌-◌, ◌<◌, List, [], ◌∷◌, ◌++◌, Vec, length, get_or, refl, sym, ap, ◌∙◌, subst, append_assoc, arith, ⊎_elim}
use Rattle.std.specs.Prelude.{All}
use Rattle.std.proofs.lemmas.List.Elements.{All-get_or, All-push, All-rest}
use Rattle.std.proofs.lemmas.List.{get_or_append_left, get_or_push, length_push, length-map, map-append}
use Rattle.std.proofs.lemmas.Bool.{cases_eq}
use Rattle.std.proofs.lemmas.Bool.Decides.{nat_tests}
use Rattle.sr_lines.specs.declared.ends.Ends.{Ends}
use Rattle.sr_lines.specs.Names.{end_wires, all_wires}
use Rattle.sr_lines.specs.Pairs.{WirePair, AreLinked}
use Rattle.sr_threaded.specs.Joined.{RingWires, IsRing, IsLan, IsUnused, AreUnused, AllUnused, AreAllUnused, ring_wires_of, ring_wires, lan_wires}
use Rattle.sr_threaded.specs.Judged.{behind}
use Rattle.sr_threaded.proofs.Zipped.{all_before}

-- from this end B is joined to A of the first of these nodes, B of each of them to A of the next, and B of the last to that end
abbrev pub Leads : WirePair → List RingWires → WirePair → Type 0
Leads b [] a = AreLinked b a
Leads b (n ∷ ns) a = AreLinked b n.a × Leads n.b ns a

pub leads_more : (b : WirePair) (ns : List RingWires) (n : RingWires) (a : WirePair) → Leads b ns n.a → AreLinked n.b a → Leads b (ns ++ n ∷ []) a
leads_more b [] n a to on = (to, on)
leads_more b (m ∷ ms) n a to on = (to.0, leads_more m.b ms n a to.1 on)

-- the first of these, and the last of them is followed by the end
follows : (b : WirePair) (ns : List RingWires) (n w : RingWires) → Leads b ns n.a → AreLinked b (get_or (ns ++ n ∷ []) 0 w).a
follows b [] n w to = to
follows b (m ∷ ms) n w to = to.0

nexts : (b : WirePair) (ns : List RingWires) (n w : RingWires) (i : ℕ) → Leads b ns n.a → i < length ns → AreLinked (get_or (ns ++ n ∷ []) i w).b (get_or (ns ++ n ∷ []) (suc i) w).a
nexts b [] n w i to low = absurd (omega (arith, low))
nexts b (m ∷ ms) n w zero to low = follows m.b ms n w to.1
nexts b (m ∷ ms) n w (suc i) to low = nexts m.b ms n w i to.1 (omega (arith, low))

behind_last : (i n : ℕ) → i + 1 ≡ n → behind i n ≡ 0
behind_last i n is = grind (arith, nat_tests)

behind_more : (i n : ℕ) → i + 1 ≢ n → behind i n ≡ suc i
behind_more i n is = grind (arith, nat_tests)

pub is_ring : (ns : List RingWires) (n : RingWires) → Leads n.b ns n.a → IsRing (ns ++ n ∷ [])
is_ring ns n to i w low =
    let all = ns ++ n ∷ [] in
    let count : length all ≡ length ns + 1 = length_push ns n in
    ⊎_elim
    (λ (last : i ≡ length ns).
    let here : get_or all i w ≡ n = get_or_push ns n w i (sym last) in
    let at : behind i (length all) ≡ 0 = behind_last i (length all) (omega arith) in
    let P : RingWires × ℕ → Type 0 = λ x. AreLinked x.0.b (get_or all x.1 w).a in
    subst P (λ k. (sym here k, sym at k)) (follows n.b ns n w to))
    (λ (more : i ≢ length ns).
    let at : behind i (length all) ≡ suc i = behind_more i (length all) (λ is. more (omega arith)) in
    let P : ℕ → Type 0 = λ x. AreLinked (get_or all i w).b (get_or all x w).a in
    subst P (sym at) (nexts n.b ns n w i to (omega arith)))
    (cases_eq i (length ns))

-- to each of these lists one more was added, joined to the one at its place here
abbrev pub AddedTo : List (List WirePair) → List (List WirePair) → List WirePair → Type 0
AddedTo [] [] [] = Unit {0}
AddedTo (r ∷ rs) (a ∷ ts) (o ∷ os) = (x : WirePair) × (a ≡ r ++ x ∷ []) × AreLinked x o × AddedTo rs ts os
AddedTo [] [] (o ∷ os) = ⊥
AddedTo [] (a ∷ ts) os = ⊥
AddedTo (r ∷ rs) [] os = ⊥
AddedTo (r ∷ rs) (a ∷ ts) [] = ⊥

pub added_more : (rs ts : List (List WirePair)) (os : List WirePair) (r a : List WirePair) (x o : WirePair) → AddedTo rs ts os → a ≡ r ++ x ∷ [] → AreLinked x o → AddedTo (rs ++ r ∷ []) (ts ++ a ∷ []) (os ++ o ∷ [])
added_more [] [] [] r a x o was is on = (x, is, on, tt)
added_more [] [] (p ∷ ps) r a x o was is on = absurd was
added_more [] (b ∷ bs) ps r a x o was is on = absurd was
added_more (q ∷ qs) [] ps r a x o was is on = absurd was
added_more (q ∷ qs) (b ∷ bs) [] r a x o was is on = absurd was
added_more (q ∷ qs) (b ∷ bs) (p ∷ ps) r a x o was is on = (was.0, was.1, was.2, added_more qs bs ps r a x o was.3 is on)

added_rows : (rs ts : List (List WirePair)) (os : List WirePair) → AddedTo rs ts os → length ts ≡ length rs
added_rows [] [] os was = refl
added_rows [] (b ∷ bs) ps was = absurd was
added_rows (q ∷ qs) [] ps was = absurd was
added_rows (q ∷ qs) (b ∷ bs) [] was = absurd was
added_rows (q ∷ qs) (b ∷ bs) (p ∷ ps) was = ap suc (added_rows qs bs ps was.3)

added_own : (rs ts : List (List WirePair)) (os : List WirePair) → AddedTo rs ts os → length os ≡ length rs
added_own [] [] [] was = refl
added_own [] [] (p ∷ ps) was = absurd was
added_own [] (b ∷ bs) ps was = absurd was
added_own (q ∷ qs) [] ps was = absurd was
added_own (q ∷ qs) (b ∷ bs) [] was = absurd was
added_own (q ∷ qs) (b ∷ bs) (p ∷ ps) was = ap suc (added_own qs bs ps was.3)

-- what was added at a place
record AddedAt (rs ts : List (List WirePair)) (os : List WirePair) (i : ℕ) (ws : List WirePair) (w : WirePair) : Type 0 where
  added : WirePair
  row : get_or ts i ws ≡ get_or rs i ws ++ added ∷ []
  on : AreLinked added (get_or os i w)

added_at : (rs ts : List (List WirePair)) (os : List WirePair) (i : ℕ) (ws : List WirePair) (w : WirePair) → AddedTo rs ts os → i < length rs → AddedAt rs ts os i ws w
added_at [] ts os i ws w was low = absurd (omega (arith, low))
added_at (q ∷ qs) [] ps i ws w was low = absurd was
added_at (q ∷ qs) (b ∷ bs) [] i ws w was low = absurd was
added_at (q ∷ qs) (b ∷ bs) (p ∷ ps) zero ws w was low = record { added = was.0; row = was.1; on = was.2 }
added_at (q ∷ qs) (b ∷ bs) (p ∷ ps) (suc i) ws w was low =
    let at = added_at qs bs ps i ws w was.3 (omega (arith, low)) in record { added = at.added; row = at.row; on = at.on }

pub no_lan : IsLan []
no_lan = record { others = λ i ws low. absurd (omega (arith, low)); joined = λ i j ws w less low. absurd (omega (arith, low)) }

added_len : (rs ts : List (List WirePair)) (os : List WirePair) (i : ℕ) (ws : List WirePair) → AddedTo rs ts os → i < length rs → length (get_or ts i ws) ≡ length (get_or rs i ws) + 1
added_len [] ts os i ws was low = absurd (omega (arith, low))
added_len (q ∷ qs) [] ps i ws was low = absurd was
added_len (q ∷ qs) (b ∷ bs) [] i ws was low = absurd was
added_len (q ∷ qs) (b ∷ bs) (p ∷ ps) zero ws was low = ap length was.1 ∙ length_push q was.0
added_len (q ∷ qs) (b ∷ bs) (p ∷ ps) (suc i) ws was low = added_len qs bs ps i ws was.3 (omega (arith, low))

module _ (rs ts : List (List WirePair)) (os : List WirePair) (lan : IsLan rs) (was : AddedTo rs ts os) where
  abbrev all : List (List WirePair)
  all = ts ++ os ∷ []

  count : length all ≡ length rs + 1
  count = length_push ts os ∙ ap (λ n. n + 1) (added_rows rs ts os was)

  left : (i : ℕ) (ws : List WirePair) → i < length rs → get_or all i ws ≡ get_or ts i ws
  left i ws low = get_or_append_left ts (os ∷ []) ws i (omega (arith, low, added_rows rs ts os was))

  end : (i : ℕ) (ws : List WirePair) → i ≡ length rs → get_or all i ws ≡ os
  end i ws is = get_or_push ts os ws i (added_rows rs ts os was ∙ sym is)

  -- an old node has one wire more
  old_len : (i : ℕ) (ws : List WirePair) → i < length rs → length (get_or all i ws) + 1 ≡ length all
  old_len i ws low =
      let here : length (get_or all i ws) ≡ length (get_or rs i ws) + 1 = ap length (left i ws low) ∙ added_len rs ts os i ws was low in
      let before : length (get_or rs i ws) + 1 ≡ length rs = lan.others i ws low in
      ap (λ n. n + 1) (here ∙ before) ∙ sym count

  -- what an old node had stands where it stood
  old_at : (i k : ℕ) (ws : List WirePair) (w : WirePair) → i < length rs → k + 1 < length rs → get_or (get_or all i ws) k w ≡ get_or (get_or rs i ws) k w
  old_at i k ws w low within =
      let at = added_at rs ts os i ws w was low in
      let before : length (get_or rs i ws) + 1 ≡ length rs = lan.others i ws low in
      ap (λ l. get_or l k w) (left i ws low ∙ at.row) ∙ get_or_append_left (get_or rs i ws) (at.added ∷ []) w k (omega (arith, within, before))

  old_joined : (i j : ℕ) (ws : List WirePair) (w : WirePair) → i < j → j < length rs → AreLinked (get_or (get_or all i ws) (j - 1) w) (get_or (get_or all j ws) i w)
  old_joined i j ws w less low =
      let P : WirePair × WirePair → Type 0 = λ x. AreLinked x.0 x.1 in
      let first = old_at i (j - 1) ws w (omega (arith, less, low)) (omega (arith, less, low)) in
      let second = old_at j i ws w low (omega (arith, less, low)) in
      subst P (λ k. (sym first k, sym second k)) (lan.joined i j ws w less low)

  new_joined : (i j : ℕ) (ws : List WirePair) (w : WirePair) → i < j → j ≡ length rs → AreLinked (get_or (get_or all i ws) (j - 1) w) (get_or (get_or all j ws) i w)
  new_joined i j ws w less is =
      let low : i < length rs = omega (arith, less, is) in
      let at = added_at rs ts os i ws w was low in
      let before : length (get_or rs i ws) + 1 ≡ length rs = lan.others i ws low in
      let first : get_or (get_or all i ws) (j - 1) w ≡ at.added = ap (λ l. get_or l (j - 1) w) (left i ws low ∙ at.row) ∙ get_or_push (get_or rs i ws) at.added w (j - 1) (omega (arith, before, is, less)) in
      let second : get_or (get_or all j ws) i w ≡ get_or os i w = ap (λ l. get_or l i w) (end j ws is) in
      let P : WirePair × WirePair → Type 0 = λ x. AreLinked x.0 x.1 in
      subst P (λ k. (sym first k, sym second k)) at.on

  pub lan_more : IsLan all
  lan_more = record {
    others = λ i ws low. ⊎_elim
        (λ (is : i ≡ length rs). ap (λ l. length l + 1) (end i ws is) ∙ ap (λ n. n + 1) (added_own rs ts os was) ∙ sym count)
        (λ (more : i ≢ length rs). old_len i ws (let other = more in omega (arith, low, count, other)))
        (cases_eq i (length rs));
    joined = λ i j ws w less low. ⊎_elim
        (λ (is : j ≡ length rs). new_joined i j ws w less is)
        (λ (more : j ≢ length rs). old_joined i j ws w less (let other = more in omega (arith, low, count, other)))
        (cases_eq j (length rs));
  }

-- of these nodes' ends these rows are left, and those before were joined to the new node
pub record Adding (rows rest all : List (List WirePair)) (own : List WirePair) : Type 0 where
  pub done : List (List WirePair)
  pub rows_are : rows ≡ done ++ rest
  pub added : AddedTo done all own

pub none_added : (rows made : List (List WirePair)) (own : List WirePair) → made ≡ [] → own ≡ [] → Adding rows rows made own
none_added rows made own none bare =
    let P : List (List WirePair) × List WirePair → Type 0 = λ x. AddedTo [] x.0 x.1 in
    record { done = []; rows_are = refl; added = subst P (λ k. (sym none k, sym bare k)) tt }

pub one_added : (rows rest behind made now : List (List WirePair)) (own then : List WirePair) (r a : List WirePair) (x o : WirePair)
    → Adding rows rest made own → rest ≡ r ∷ behind → a ≡ r ++ x ∷ [] → AreLinked x o → now ≡ made ++ a ∷ [] → then ≡ own ++ o ∷ [] → Adding rows behind now then
one_added rows rest behind made now own then r a x o was head is on first second =
    let P : List (List WirePair) × List WirePair → Type 0 = λ y. AddedTo (was.done ++ r ∷ []) y.0 y.1 in
    record {
      done = was.done ++ r ∷ [];
      rows_are = was.rows_are ∙ ap (λ l. was.done ++ l) head ∙ sym (append_assoc was.done (r ∷ []) behind);
      added = subst P (λ k. (sym first k, sym second k)) (added_more was.done made own r a x o was.added is on);
    }

pub all_added : (rows rest made now : List (List WirePair)) (own : List WirePair) → Adding rows rest made own → length made ≡ length rows → IsLan rows → now ≡ made ++ own ∷ [] → IsLan now
all_added rows rest made now own was len lan is =
    let whole : rows ≡ was.done = all_before rows was.done rest was.rows_are (sym (added_rows was.done made own was.added) ∙ len) in
    subst (λ l. IsLan l) (sym is) (lan_more was.done made own (subst (λ l. IsLan l) whole lan) was.added)

ring_push : (es now : List (Ends × Ends)) (e : Ends × Ends) → now ≡ es ++ e ∷ [] → ring_wires now ≡ ring_wires es ++ ring_wires_of e ∷ []
ring_push es now e is = ap (λ l. ring_wires l) is ∙ map-append (λ x. ring_wires_of x) es (e ∷ [])

-- one node more of a ring, and the last one
pub ring_more : (last : Ends) (es now : List (Ends × Ends)) (a b next : Ends) → now ≡ es ++ (a, b) ∷ [] → Leads (end_wires last) (ring_wires es) (end_wires a) → AreLinked (end_wires b) (end_wires next) → Leads (end_wires last) (ring_wires now) (end_wires next)
ring_more last es now a b next is to on =
    subst (λ l. Leads (end_wires last) l (end_wires next)) (sym (ring_push es now (a, b) is)) (leads_more (end_wires last) (ring_wires es) (ring_wires_of (a, b)) (end_wires next) to on)

pub ring_closed : (es now : List (Ends × Ends)) (a last : Ends) → now ≡ es ++ (a, last) ∷ [] → Leads (end_wires last) (ring_wires es) (end_wires a) → IsRing (ring_wires now)
ring_closed es now a last is to = subst (λ l. IsRing l) (sym (ring_push es now (a, last) is)) (is_ring (ring_wires es) (ring_wires_of (a, last)) to)

pub unused_more : (es now : List (Ends × Ends)) (e : Ends × Ends) → now ≡ es ++ e ∷ [] → AllUnused es → IsUnused e.0 → IsUnused e.1 → AllUnused now
unused_more es now e is was first second i d low =
    let count : length now ≡ length es + 1 = ap length is ∙ length_push es e in
    ⊎_elim
    (λ (last : i ≡ length es).
    let here : get_or now i d ≡ e = ap (λ l. get_or l i d) is ∙ get_or_push es e d i (sym last) in
    subst (λ x. AreUnused x) (sym here) (record { at_a = first; at_b = second }))
    (λ (more : i ≢ length es).
    let other = more in
    let below : i < length es = omega (arith, low, count, other) in
    let here : get_or now i d ≡ get_or es i d = ap (λ l. get_or l i d) is ∙ get_or_append_left es (e ∷ []) d i below in
    subst (λ x. AreUnused x) (sym here) (was i d below))
    (cases_eq i (length es))

-- the ends of one node more of a LAN
pub row_added : {Z : Type 0} (rows rest behind made now : List (Vec Ends Z)) (own then : List Ends) (row new : Vec Ends Z) (there here : Ends)
    → Adding (lan_wires rows) (lan_wires rest) (lan_wires made) (all_wires own) → rest ≡ row ∷ behind → new.items ≡ row.items ++ there ∷ []
    → AreLinked (end_wires there) (end_wires here) → now ≡ made ++ new ∷ [] → then ≡ own ++ here ∷ []
    → Adding (lan_wires rows) (lan_wires behind) (lan_wires now) (all_wires then)
row_added rows rest behind made now own then row new there here was head grown on first second =
    one_added (lan_wires rows) (lan_wires rest) (lan_wires behind) (lan_wires made) (lan_wires now) (all_wires own) (all_wires then) (all_wires row.items) (all_wires new.items) (end_wires there) (end_wires here)
    was (ap (λ l. lan_wires l) head) (ap (λ l. all_wires l) grown ∙ map-append (λ e. end_wires e) row.items (there ∷ [])) on
    (ap (λ l. lan_wires l) first ∙ map-append (λ r. all_wires r.items) made (new ∷ []))
    (ap (λ l. all_wires l) second ∙ map-append (λ e. end_wires e) own (here ∷ []))

pub lan_whole : {Z : Type 0} (rows rest made now : List (Vec Ends Z)) (own : Vec Ends Z)
    → Adding (lan_wires rows) (lan_wires rest) (lan_wires made) (all_wires own.items) → length made ≡ length rows → IsLan (lan_wires rows) → now ≡ made ++ own ∷ []
    → IsLan (lan_wires now)
lan_whole rows rest made now own was len lan is =
    let same : length (lan_wires made) ≡ length (lan_wires rows) = length-map made (λ r. all_wires r.items) ∙ len ∙ sym (length-map rows (λ r. all_wires r.items)) in
    all_added (lan_wires rows) (lan_wires rest) (lan_wires made) (lan_wires now) (all_wires own.items) was same lan (ap (λ l. lan_wires l) is ∙ map-append (λ r. all_wires r.items) made (own ∷ []))

-- the ends of one node more of a LAN are unused as those before are
pub row_unused : {Z : Type 0} (rest behind made now : List (Vec Ends Z)) (own then : List Ends) (row new : Vec Ends Z) (there here : Ends)
    → AreAllUnused rest → AreAllUnused made → All (λ e. IsUnused e) own → rest ≡ row ∷ behind → new.items ≡ row.items ++ there ∷ []
    → IsUnused there → IsUnused here → now ≡ made ++ new ∷ [] → then ≡ own ++ here ∷ []
    → AreAllUnused behind × AreAllUnused now × All (λ e. IsUnused e) then
row_unused rest behind made now own then row new there here left done mine head grown first second is then_is =
    let Row = λ (r : Vec Ends _). All (λ e. IsUnused e) r.items in
    let old : Row row = All-get_or Row (row ∷ behind) 0 row (omega arith) (subst (λ l. AreAllUnused l) head left) in
    let more : Row new = subst (λ l. All (λ e. IsUnused e) l) (sym grown) (All-push (λ e. IsUnused e) row.items there old first) in (
      All-rest Row row behind rest head left,
      subst (λ l. AreAllUnused l) (sym is) (All-push Row made new done more),
      subst (λ l. All (λ e. IsUnused e) l) (sym then_is) (All-push (λ e. IsUnused e) own here mine second),
    )
