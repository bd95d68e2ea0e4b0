-- What a LAN's wires show after a frame more.
use Rattle.std.proofs.Common.{arith, ◌≡◌, ◌≢◌, ◌⊎◌, true≢false, below_more, ◌<◌, ◌≤◌, ◌+◌, ℕ, Option, None, Some, suc, Bool, true, false, ◌&&◌, List, [], ◌∷◌, ◌++◌, length, map, get_or, set, refl, sym, ap, ◌∙◌, subst, ⊎_elim, if◌then◌else◌, length-append}
use Rattle.std.specs.Prelude.{⊤, MatchBool, MatchOption, MatchResult, is_ok, Result, Ok, Err}
use Rattle.std.proofs.lemmas.Bool.{cases_lt, cases_eq}
use Rattle.std.proofs.lemmas.List.{length-map, get_or-map, map-set, set-get_or, set_past, get_or_append_left, get_or_push}
use Rattle.sr_wires.specs.Wired.{WasEmpty}
use Rattle.sr_lines.specs.declared.ends.Ends.{Ends}
use Rattle.sr_lines.specs.Losing.{MayLose}
use Rattle.sr_lines.specs.Spreading.{grown_at, sent_where, are_all, MayLoseOthers, SpreadsTo, SpreadsToSome, WereEmpty, TookBetween, TookOne}

abbrev Frames : Type 0
Frames = List (List ℕ)

-- one end changes, and what is seen of it does not
pub seen_same : {A : Type 0} (f : Ends → A) (xs : List Ends) (i : ℕ) (x y : Ends) → x ≡ get_or xs i x → f y ≡ f x → map f (set xs i y) ≡ map f xs
seen_same f xs i x y is same =
    ⊎_elim
    (λ (low : i < length xs).
    let here : f y ≡ get_or (map f xs) i (f x) = same ∙ ap f is ∙ sym (get_or-map f xs i x (f x) low) in
    map-set f xs i y ∙ ap (λ w. set (map f xs) i w) here ∙ set-get_or (map f xs) i (f x))
    (λ (past : length xs ≤ i). ap (λ l. map f l) (set_past xs i y past))
    (cases_lt i (length xs))

-- one end changes, and one frame more is seen there
pub seen_more : (f : Ends → Frames) (xs : List Ends) (i : ℕ) (x y : Ends) (o : List ℕ) → i < length xs → x ≡ get_or xs i x → f y ≡ f x ++ o ∷ [] → map f (set xs i y) ≡ grown_at i o (map f xs)
seen_more f xs i x y o low is more =
    let here : f y ≡ get_or (map f xs) i [] ++ o ∷ [] = more ∙ ap (λ l. l ++ o ∷ []) (ap f is ∙ sym (get_or-map f xs i x [] low)) in
    map-set f xs i y ∙ ap (λ w. set (map f xs) i w) here

-- one wire more of which it is said that the frame went out there, or did not
sent_more : (bs : List Bool) (o : List ℕ) (ws : List Frames) → length bs < length ws → grown_at (length bs) o (sent_where bs o ws) ≡ sent_where (bs ++ true ∷ []) o ws
sent_more [] o [] low = absurd (omega (arith, low))
sent_more [] o (w ∷ ws) low = refl
sent_more (b ∷ bs) o [] low = absurd (omega (arith, low))
sent_more (b ∷ bs) o (w ∷ ws) low = ap (λ l. (if b then w ++ o ∷ [] else w) ∷ l) (sent_more bs o ws (omega (arith, low)))

sent_still : (bs : List Bool) (o : List ℕ) (ws : List Frames) → sent_where (bs ++ false ∷ []) o ws ≡ sent_where bs o ws
sent_still [] o [] = refl
sent_still [] o (w ∷ ws) = refl
sent_still (b ∷ bs) o [] = refl
sent_still (b ∷ bs) o (w ∷ ws) = ap (λ l. (if b then w ++ o ∷ [] else w) ∷ l) (sent_still bs o ws)

-- as many wires, and the next of them is as it was
as_many : (bs : List Bool) (o : List ℕ) (ws : List Frames) → length (sent_where bs o ws) ≡ length ws
as_many [] o ws = refl
as_many (b ∷ bs) o [] = refl
as_many (b ∷ bs) o (w ∷ ws) = ap suc (as_many bs o ws)

next_still : (bs : List Bool) (o : List ℕ) (ws : List Frames) → get_or (sent_where bs o ws) (length bs) [] ≡ get_or ws (length bs) []
next_still [] o ws = refl
next_still (b ∷ bs) o [] = refl
next_still (b ∷ bs) o (w ∷ ws) = next_still bs o ws

all_true : (bs : List Bool) → are_all (bs ++ true ∷ []) ≡ are_all bs
all_true [] = refl
all_true (true ∷ bs) = all_true bs
all_true (false ∷ bs) = refl

all_false : (bs : List Bool) → are_all (bs ++ false ∷ []) ≡ false
all_false [] = refl
all_false (true ∷ bs) = all_false bs
all_false (false ∷ bs) = refl

-- one wire more on which it went out, and one on which it did not and that may lose it
others_true : (bs : List Bool) (o : List ℕ) (n : ℕ) (ws ss : List Frames) → MayLoseOthers bs o n ws ss → MayLoseOthers (bs ++ true ∷ []) o n ws ss
others_true bs o n ws ss h i low out =
    let Q : ℕ → Type 0 = λ k. get_or (bs ++ true ∷ []) k true ≡ false → MayLose (get_or ws k []) (get_or ss k []) o n in
    let before : (k : ℕ) → k < length bs → Q k = λ k below not. h k below (sym (get_or_append_left bs (true ∷ []) true k below) ∙ not) in
    let here : Q (length bs) = λ not. absurd (true≢false (sym (get_or_push bs true true (length bs) refl) ∙ not)) in
    below_more Q (length bs) before here i (omega (arith, low, length-append bs (true ∷ []))) out

others_false : (bs : List Bool) (o : List ℕ) (n : ℕ) (ws ss : List Frames) → MayLoseOthers bs o n ws ss → MayLose (get_or ws (length bs) []) (get_or ss (length bs) []) o n → MayLoseOthers (bs ++ false ∷ []) o n ws ss
others_false bs o n ws ss h why i low out =
    let Q : ℕ → Type 0 = λ k. get_or (bs ++ false ∷ []) k true ≡ false → MayLose (get_or ws k []) (get_or ss k []) o n in
    let before : (k : ℕ) → k < length bs → Q k = λ k below not. h k below (sym (get_or_append_left bs (false ∷ []) true k below) ∙ not) in
    below_more Q (length bs) before (λ _. why) i (omega (arith, low, length-append bs (false ∷ []))) out

-- how far a frame was sent on the wires of a LAN, one after the other
abbrev pub SoFar : List ℕ → ℕ → List Frames → List Frames → List Frames → ℕ → Bool → Type 0
SoFar o n before seen now at all =
    (puts : List Bool) × (length puts ≡ at) × (now ≡ sent_where puts o before) × MayLoseOthers puts o n before seen × (all ≡ are_all puts)

pub so_far_none : (o : List ℕ) (n : ℕ) (before seen : List Frames) → SoFar o n before seen before 0 true
so_far_none o n before seen = ([], refl, refl, (λ i low. absurd (omega (arith, low))), refl)

pub so_far_put : (o : List ℕ) (n : ℕ) (before seen now next : List Frames) (at : ℕ) (all : Bool) → SoFar o n before seen now at all → at < length before → next ≡ grown_at at o now → SoFar o n before seen next (at + 1) all
so_far_put o n before seen now next at all h low more = let bs = h.0 in (
  bs ++ true ∷ [],
  length-append bs (true ∷ []) ∙ ap (λ k. k + 1) h.1,
  more ∙ ap (λ k. grown_at k o now) (sym h.1) ∙ ap (λ l. grown_at (length bs) o l) h.2 ∙ sent_more bs o before (subst (λ k. k < length before) (sym h.1) low),
  others_true bs o n before seen h.3,
  h.4 ∙ sym (all_true bs),
)

pub so_far_lost : (o : List ℕ) (n : ℕ) (before seen now next : List Frames) (at : ℕ) (all : Bool) → SoFar o n before seen now at all → at < length before → next ≡ now → (at < length now → MayLose (get_or now at []) (get_or seen at []) o n) → SoFar o n before seen next (at + 1) false
so_far_lost o n before seen now next at all h low same why =
    let bs = h.0 in
    let many : length now ≡ length before = ap length h.2 ∙ as_many bs o before in
    let here : get_or now at [] ≡ get_or before (length bs) [] = ap (λ k. get_or now k []) (sym h.1) ∙ ap (λ l. get_or l (length bs) []) h.2 ∙ next_still bs o before in
    let there : get_or seen at [] ≡ get_or seen (length bs) [] = ap (λ k. get_or seen k []) (sym h.1) in
    let P : Frames × Frames → Type 0 = λ w. MayLose w.0 w.1 o n in (
      bs ++ false ∷ [],
      length-append bs (false ∷ []) ∙ ap (λ k. k + 1) h.1,
      same ∙ h.2 ∙ sym (sent_still bs o before),
      others_false bs o n before seen h.3 (subst P (λ k. (here k, there k)) (why (subst (λ k. at < k) (sym many) low))),
      sym (all_false bs),
    )

pub so_far_all : (o : List ℕ) (n : ℕ) (before seen now : List Frames) (at : ℕ) (all : Bool) → SoFar o n before seen now at all → at ≡ length before → SpreadsTo o n before seen now all
so_far_all o n before seen now at all h is = record { puts = h.0; count = h.1 ∙ is; sent = h.2; others = h.3; all_is = h.4 }

pub so_far_some : (o : List ℕ) (n : ℕ) (before seen now : List Frames) (at : ℕ) (all : Bool) → SoFar o n before seen now at all → at < length before → SpreadsToSome o before now
so_far_some o n before seen now at all h low = record { puts = h.0; few = subst (λ k. k < length before) (sym h.1) low; sent = h.2 }

-- whether it was put, where a wire says it
pub said : {A E : Type 0} (r : Result A E) (b : Bool) (P Q : Type 0) (F : A → Type 0) (G : E → Type 0) → b ≡ is_ok r → MatchResult r F G → ((a : A) → F a → P) → ((e : E) → G e → Q) → MatchBool b P Q
said (Ok x) b P Q F G is m a e = subst (λ y. MatchBool y P Q) (sym is) (a x m)
said (Err x) b P Q F G is m a e = subst (λ y. MatchBool y P Q) (sym is) (e x m)

seen_within : (f : Ends → Frames) (xs : List Ends) (i : ℕ) → i < length xs → i < length (map f xs)
seen_within f xs i low = subst (λ k. i < k) (sym (length-map xs f)) low

seen_took : (f : Ends → Frames) (xs : List Ends) (i : ℕ) (x y : Ends) (o : List ℕ) → i < length xs → x ≡ get_or xs i x → f y ≡ f x ++ o ∷ [] → (i < length (map f xs)) × (map f (set xs i y) ≡ grown_at i o (map f xs))
seen_took f xs i x y o low is more = (seen_within f xs i low, seen_more f xs i x y o low is more)

abbrev taken_by : Ends → Frames
taken_by e = e.take.frames

abbrev seen_by : Ends → Frames
seen_by e = e.take.seen

-- what a wire took, a LAN took; where it was empty, it was so in the LAN
pub took_of : (r : Option (List ℕ)) (xs : List Ends) (i : ℕ) (x y : Ends) → i < length xs → x ≡ get_or xs i x
    → MatchOption r ((y.take.frames ≡ x.take.frames) × WasEmpty x.take.frames x.take.seen) (λ f. y.take.frames ≡ x.take.frames ++ f ∷ [])
    → MatchOption r ((map (λ e. e.take.frames) (set xs i y) ≡ map (λ e. e.take.frames) xs) × WereEmpty (λ k. k ≡ i) (map (λ e. e.take.frames) xs) (map (λ e. e.take.seen) xs))
    (λ f. (i < length (map (λ e. e.take.frames) xs)) × (map (λ e. e.take.frames) (set xs i y) ≡ grown_at i f (map (λ e. e.take.frames) xs)))
took_of None xs i x y low is m =
    let here : x.take.frames ≡ get_or (map taken_by xs) i [] = ap taken_by is ∙ sym (get_or-map taken_by xs i x [] low) in
    let there : x.take.seen ≡ get_or (map seen_by xs) i [] = ap seen_by is ∙ sym (get_or-map seen_by xs i x [] low) in
    let P : Frames × Frames → Type 0 = λ w. WasEmpty w.0 w.1 in
    let empty : WasEmpty (get_or (map taken_by xs) i []) (get_or (map seen_by xs) i []) = subst P (λ k. (here k, there k)) m.1 in
    (seen_same taken_by xs i x y is m.0, λ k _ at. subst (λ l. WasEmpty (get_or (map taken_by xs) l []) (get_or (map seen_by xs) l [])) (sym at) empty)
took_of (Some f) xs i x y low is m = seen_took (λ e. e.take.frames) xs i x y f low is m

-- no wire was looked at yet
pub none_empty : (from : ℕ) (before ss : List Frames) → WereEmpty (λ i. (from ≤ i) × (i < from)) before ss
none_empty from before ss i within at = absurd (omega (arith, at.0, at.1))

-- one wire more was empty
pub one_more_empty : (from at : ℕ) (before now ss news : List Frames) → WereEmpty (λ i. (from ≤ i) × (i < at)) before ss → now ≡ before → news ≡ ss → WereEmpty (λ i. i ≡ at) now news → WereEmpty (λ i. (from ≤ i) × (i < at + 1)) before ss
one_more_empty from at before now ss news was same as_seen one i within here =
    let P : List Frames × List Frames → Type 0 = λ x. WereEmpty (λ k. k ≡ at) x.0 x.1 in
    let own = subst P (λ k. (same k, as_seen k)) one in
    ⊎_elim (λ (is : i ≡ at). own i within is) (λ (other : i ≢ at). was i within (here.0, (let apart = other in omega (arith, here.1, apart)))) (cases_eq i at)

-- one of them took a frame
pub took_between : (o : List ℕ) (from to at turn : ℕ) (before now ss after : List Frames) → from ≤ at → at < to → WereEmpty (λ i. (from ≤ i) × (i < at)) before ss → now ≡ before → (at < length now) × (after ≡ grown_at at o now) → turn ≡ at + 1 → TookBetween from to o before ss after turn
took_between o from to at turn before now ss after low high was same h next =
    record { wire = at; low = low; high = high; within = subst (λ l. at < length l) same h.0; taken = h.1 ∙ ap (λ l. grown_at at o l) same; passed = was; next = next }

-- one of the wires whose turn comes first took a frame, or one of the others did
pub took_first : (o : List ℕ) (first count turn : ℕ) (before ss after : List Frames) → TookBetween first count o before ss after turn → TookOne o first before ss after turn
took_first o first count turn before ss after h = record {
  wire = h.wire;
  within = h.within;
  taken = h.taken;
  passed = λ i within at. h.passed i within (⊎_elim (λ x. x) (λ x. absurd (let below = x.0 in let low = h.low in omega (arith, below, low))) at);
  next = h.next;
}

took_second : (o : List ℕ) (first count turn : ℕ) (before now ss news after : List Frames) → length before ≡ count → WereEmpty (λ i. (first ≤ i) × (i < count)) before ss → now ≡ before → news ≡ ss → TookBetween 0 first o now news after turn → TookOne o first before ss after turn
took_second o first count turn before now ss news after len was same as_seen h =
    let P : List Frames × List Frames → Type 0 = λ x. TookBetween 0 first o x.0 x.1 after turn in
    let took = subst P (λ k. (same k, as_seen k)) h in
    let below : took.wire < first = took.high in
    record {
      wire = took.wire;
      within = took.within;
      taken = took.taken;
      passed = λ i within at. ⊎_elim
          (λ x. absurd (let low = x.0 in let high = x.1 in omega (arith, low, high, below)))
          (λ x. ⊎_elim (λ low. was i within (low, omega (arith, within, len))) (λ high. took.passed i within (omega arith, high)) x.1)
          at;
      next = took.next;
    }

-- each wire was looked at once round
all_empty : (first count : ℕ) (before now ss news : List Frames) → length before ≡ count → WereEmpty (λ i. (first ≤ i) × (i < count)) before ss → now ≡ before → news ≡ ss → WereEmpty (λ i. (0 ≤ i) × (i < first)) now news → WereEmpty (λ i. ⊤) before ss
all_empty first count before now ss news len was same as_seen h i within _ =
    let P : List Frames × List Frames → Type 0 = λ x. WereEmpty (λ k. (0 ≤ k) × (k < first)) x.0 x.1 in
    let others = subst P (λ k. (same k, as_seen k)) h in
    ⊎_elim (λ (low : i < first). others i within (omega arith, low)) (λ (high : first ≤ i). was i within (high, omega (arith, within, len))) (cases_lt i first)

-- what comes of the second half, where the first was empty
pub took_round : (r : Option (List ℕ)) (first count turn : ℕ) (before now ss news after : List Frames) → length before ≡ count → WereEmpty (λ i. (first ≤ i) × (i < count)) before ss → now ≡ before → news ≡ ss
    → MatchOption r ((after ≡ now) × WereEmpty (λ i. (0 ≤ i) × (i < first)) now news) (λ f. TookBetween 0 first f now news after turn)
    → MatchOption r ((after ≡ before) × WereEmpty (λ i. ⊤) before ss) (λ f. TookOne f first before ss after turn)
took_round None first count turn before now ss news after len was same as_seen m = (m.0 ∙ same, all_empty first count before now ss news len was same as_seen m.1)
took_round (Some f) first count turn before now ss news after len was same as_seen m = took_second f first count turn before now ss news after len was same as_seen m

pub took_as : (o x : List ℕ) (first : ℕ) (before ss after : List Frames) (turn : ℕ) → o ≡ x → TookOne x first before ss after turn → TookOne o first before ss after turn
took_as o x first before ss after turn is h = subst (λ y. TookOne y first before ss after turn) (sym is) h

pub put_as : (o x : List ℕ) (at : ℕ) (b : Bool) (now next : List Frames) → x ≡ o → MatchBool b (next ≡ grown_at at x now) (next ≡ now) → MatchBool b (next ≡ grown_at at o now) (next ≡ now)
put_as o x at b now next is h = subst (λ y. MatchBool b (next ≡ grown_at at y now) (next ≡ now)) is h

pub so_far_more : (o : List ℕ) (n : ℕ) (before seen now next : List Frames) (at : ℕ) (all put : Bool) → SoFar o n before seen now at all → at < length before → MatchBool put (next ≡ grown_at at o now) (next ≡ now) → (put ≡ false → at < length now → MayLose (get_or now at []) (get_or seen at []) o n) → SoFar o n before seen next (at + 1) (all && put)
so_far_more o n before seen now next at true true h low sent why = so_far_put o n before seen now next at true h low sent
so_far_more o n before seen now next at false true h low sent why = so_far_put o n before seen now next at false h low sent
so_far_more o n before seen now next at true false h low sent why = so_far_lost o n before seen now next at true h low sent (why refl)
so_far_more o n before seen now next at false false h low sent why = so_far_lost o n before seen now next at false h low sent (why refl)

pub so_far_then : (o : List ℕ) (n : ℕ) (before seen now : List Frames) (at : ℕ) (all put both : Bool) → all ≡ true → both ≡ put → SoFar o n before seen now at (all && put) → SoFar o n before seen now at both
so_far_then o n before seen now at all put both a b h = subst (λ x. SoFar o n before seen now at x) (ap (λ y. y && put) a ∙ sym b) h

pub so_far_else : (o : List ℕ) (n : ℕ) (before seen now : List Frames) (at : ℕ) (all put both : Bool) → all ≡ false → both ≡ false → SoFar o n before seen now at (all && put) → SoFar o n before seen now at both
so_far_else o n before seen now at all put both a b h = subst (λ x. SoFar o n before seen now at x) (ap (λ y. y && put) a ∙ sym b) h
