-- The late port of an entry is that of its hearings.
use Rattle.std.proofs.Common.{◌≡◌, ℕ, ◌-◌, ◌<◌, ◌≤◌, max, Bool, true, false, cond, not, ◌&&◌, ◌||◌, nat_lt, List, [], ◌∷◌, filter, Option, None, Some, refl, sym, ap, ◌∙◌, arith}
use Rattle.std.specs.Prelude.{nat_le}
use Rattle.std.specs.List.{list_any}
use Rattle.std.proofs.lemmas.Bool.{ltb-true, lt-ltb, le-ltb, leb-true, leb-false, le-leb, lt-leb, and_parts, false_from_ne_true}
use Rattle.sr_frame.specs.declared.fields.Mac.{Mac}
use Rattle.sr_frame.specs.declared.ports.Port.{Port}
use Rattle.sr_frame.specs.declared.ports.Port.TheVariants.{H, A, B, C}
use Rattle.sr_aged_slots.specs.Ages.{is_recent}
use Rattle.sr_node_table.specs.Nodes.{Hearing, times_after}
use Rattle.sr_node_table.specs.Watching.{is_behind, late_port, was_late}
use Rattle.sr_node_table.specs.Hearings.{is_heard, life_of, is_a, at_a, at_b, latest_of, Event, Hears, Prunes}
use Rattle.sr_laws_node_table.specs.Kept.{kept_of}
use Rattle.sr_laws_node_table.specs.Lateness.{is_heard_at, is_late, was_late_at_prune}
use Rattle.sr_laws_node_table.proofs.HeardLemmas.{AreBefore, before_later, entry_by}

-- the port that is late, if there is one
abbrev pub late_by : List Hearing → ℕ → Option Port
late_by hs now = cond (is_late A hs now) (Some A) (cond (is_late B hs now) (Some B) None)

-- a time that is at most 3000 ms before another
abbrev near : ℕ → Option ℕ → Bool
near now None = false
near now (Some time) = nat_le (now - time) 3000

or_false : (b : Bool) → (b || false) ≡ b
or_false true = refl
or_false false = refl

nearest : (now s t : ℕ) → (nat_le (now - s) 3000 || nat_le (now - t) 3000) ≡ nat_le (now - max t s) 3000
nearest now s t = by (nat_le (now - s) 3000) refl (nat_le (now - t) 3000) refl
  where
    by : (a : Bool) → nat_le (now - s) 3000 ≡ a → (b : Bool) → nat_le (now - t) 3000 ≡ b → (a || b) ≡ nat_le (now - max t s) 3000
    by true p b q = let l : now - s ≤ 3000 = leb-true (now - s) 3000 p in sym (le-leb (now - max t s) 3000 (omega arith))
    by false p true q = let l : now - t ≤ 3000 = leb-true (now - t) 3000 q in sym (le-leb (now - max t s) 3000 (omega arith))
    by false p false q =
        let k : 3000 < now - s = leb-false (now - s) 3000 p in
        let l : 3000 < now - t = leb-false (now - t) 3000 q in
        sym (lt-leb (now - max t s) 3000 (omega arith))

-- whether some hearing that passes is near is told by the latest of them
any_near : (p : Hearing → Bool) (now : ℕ) (hs : List Hearing) → list_any (λ x. p x && nat_le (now - x.time) 3000) hs ≡ near now (latest_of (filter p hs))
any_near p now [] = refl
any_near p now (h ∷ hs) = by (p h) (any_near p now hs)
  where
    later : (o : Option ℕ) (a : Bool) → a ≡ near now o → (nat_le (now - h.time) 3000 || a) ≡ near now (times_after o h.time)
    later None a e = ap (λ b. nat_le (now - h.time) 3000 || b) e ∙ or_false (nat_le (now - h.time) 3000)
    later (Some t) a e = ap (λ b. nat_le (now - h.time) 3000 || b) e ∙ nearest now h.time t

    by : (b : Bool) → list_any (λ x. p x && nat_le (now - x.time) 3000) hs ≡ near now (latest_of (filter p hs))
        → ((b && nat_le (now - h.time) 3000) || list_any (λ x. p x && nat_le (now - x.time) 3000) hs) ≡ near now (latest_of (cond b (h ∷ filter p hs) (filter p hs)))
    by true ih = later (latest_of (filter p hs)) (list_any (λ x. p x && nat_le (now - x.time) 3000) hs) ih
    by false ih = ih

-- no time is after this one
abbrev AtMost : ℕ → Option ℕ → Type 0
AtMost now None = Unit {0}
AtMost now (Some time) = time ≤ now

at_most_later : (now later : ℕ) (o : Option ℕ) → now ≤ later → AtMost now o → AtMost later o
at_most_later now later None le h = tt
at_most_later now later (Some t) le h = omega arith

latest_at_most : (p : Hearing → Bool) (now : ℕ) (hs : List Hearing) → AreBefore now hs → AtMost now (latest_of (filter p hs))
latest_at_most p now [] order = tt
latest_at_most p now (h ∷ hs) order = by (p h) (latest_at_most p h.time hs order.1)
  where
    le : h.time ≤ now
    le = order.0

    later : (o : Option ℕ) → AtMost h.time o → AtMost now (times_after o h.time)
    later None at = omega (arith, le)
    later (Some t) at = omega (arith, le, at)

    by : (b : Bool) → AtMost h.time (latest_of (filter p hs)) → AtMost now (latest_of (cond b (h ∷ filter p hs) (filter p hs)))
    by true ih = later (latest_of (filter p hs)) ih
    by false ih = at_most_later h.time now (latest_of (filter p hs)) le ih

-- the hearings of a life after its last one
abbrev rest_of : Hearing → List Hearing → List Hearing
rest_of h hs = cond (is_heard hs h.time) (life_of hs) []

life_is : (h : Hearing) (hs : List Hearing) → life_of (h ∷ hs) ≡ h ∷ rest_of h hs
life_is h hs = by (is_heard hs h.time)
  where
    by : (b : Bool) → cond b (h ∷ life_of hs) (h ∷ []) ≡ h ∷ cond b (life_of hs) []
    by true = refl
    by false = refl

life_before : (now : ℕ) (hs : List Hearing) → AreBefore now hs → AreBefore now (life_of hs)
life_before now [] order = tt
life_before now (h ∷ hs) order = by (is_heard hs h.time) (life_before h.time hs order.1)
  where
    by : (b : Bool) → AreBefore h.time (life_of hs) → AreBefore now (cond b (h ∷ life_of hs) (h ∷ []))
    by true ih = (order.0, ih)
    by false ih = (order.0, tt)

rest_before : (h : Hearing) (hs : List Hearing) → AreBefore h.time hs → AreBefore h.time (rest_of h hs)
rest_before h hs order = by (is_heard hs h.time)
  where
    by : (b : Bool) → AreBefore h.time (cond b (life_of hs) [])
    by true = life_before h.time hs order
    by false = tt

-- what a test of near hearings finds, it finds in the present life
module _ (now : ℕ) (q : Hearing → Bool) (is_near : (x : Hearing) → q x ≡ true → now - x.time ≤ 3000) where
  any_heard : (at : ℕ) (hs : List Hearing) → at ≤ now → list_any q hs ≡ true → is_heard hs at ≡ true
  any_heard at [] le e = cc
  any_heard at (h ∷ hs) le e = by (q h) refl e (any_heard at hs le)
    where
      or_true : (a : Bool) → (a || true) ≡ true
      or_true true = refl
      or_true false = refl

      recent : q h ≡ true → is_recent 60000 at h.time ≡ true
      recent e = let l : now - h.time ≤ 3000 = is_near h e in lt-ltb (at - h.time) 60000 (omega arith)

      by : (b : Bool) → q h ≡ b → (b || list_any q hs) ≡ true → (list_any q hs ≡ true → is_heard hs at ≡ true) → (is_recent 60000 at h.time || is_heard hs at) ≡ true
      by true e some ih = ap (λ a. a || is_heard hs at) (recent e)
      by false e some ih = ap (λ a. is_recent 60000 at h.time || a) (ih some) ∙ or_true (is_recent 60000 at h.time)

  any_in_life : (hs : List Hearing) → AreBefore now hs → list_any q hs ≡ list_any q (life_of hs)
  any_in_life [] order = refl
  any_in_life (h ∷ hs) order = by (is_heard hs h.time) refl (any_in_life hs (before_later h.time now hs order.0 order.1))
    where
      none : is_heard hs h.time ≡ false → list_any q hs ≡ false
      none e = false_from_ne_true (list_any q hs) (λ some. let bad : true ≡ false = sym (any_heard h.time hs order.0 some) ∙ e in absurd cc)

      by : (b : Bool) → is_heard hs h.time ≡ b → list_any q hs ≡ list_any q (life_of hs) → (q h || list_any q hs) ≡ list_any q (cond b (h ∷ life_of hs) (h ∷ []))
      by true e ih = ap (λ a. q h || a) ih
      by false e ih = ap (λ a. q h || a) (none e)

-- a port of the last hearing is not behind, and the other is where nothing near was heard there
first_near : (now : ℕ) (o : Option ℕ) → AtMost now o → near now (times_after o now) ≡ true
first_near now None h = le-leb (now - now) 3000 (omega arith)
first_near now (Some t) h = le-leb (now - max t now) 3000 (omega (arith, h))

first_not_behind : (now : ℕ) (o p : Option ℕ) → AtMost now o → AtMost now p → is_behind (times_after o now) p ≡ false
first_not_behind now None None h k = refl
first_not_behind now (Some t) None h k = refl
first_not_behind now None (Some s) h k = le-ltb 3000 (s - now) (omega (arith, k))
first_not_behind now (Some t) (Some s) h k = le-ltb 3000 (s - max t now) (omega (arith, k))

other_behind : (now : ℕ) (o p : Option ℕ) → AtMost now o → AtMost now p → is_behind p (times_after o now) ≡ not (near now p)
other_behind now o None h k = refl
other_behind now None (Some s) h k = by (nat_le (now - s) 3000) refl
  where
    by : (b : Bool) → nat_le (now - s) 3000 ≡ b → nat_lt 3000 (now - s) ≡ not b
    by true e = let l : now - s ≤ 3000 = leb-true (now - s) 3000 e in le-ltb 3000 (now - s) l
    by false e = let l : 3000 < now - s = leb-false (now - s) 3000 e in lt-ltb 3000 (now - s) l
other_behind now (Some t) (Some s) h k = by (nat_le (now - s) 3000) refl
  where
    by : (b : Bool) → nat_le (now - s) 3000 ≡ b → nat_lt 3000 (max t now - s) ≡ not b
    by true e = let l : now - s ≤ 3000 = leb-true (now - s) 3000 e in le-ltb 3000 (max t now - s) (omega (arith, h))
    by false e = let l : 3000 < now - s = leb-false (now - s) 3000 e in lt-ltb 3000 (max t now - s) (omega (arith, h))

-- the late one of two ports
abbrev choice : Bool → Bool → Option Port
choice a b = cond a (Some A) (cond b (Some B) None)

module _ (h : Hearing) (hs : List Hearing) (order : AreBefore h.time hs) where
  -- whether something near was heard at a port
  abbrev near_at : Port → Bool
  near_at port = list_any (λ x. is_heard_at port x && nat_le (h.time - x.time) 3000) (h ∷ hs)

  near_in_life : (port : Port) → near_at port ≡ near h.time (latest_of (filter (λ x. is_heard_at port x) (h ∷ rest_of h hs)))
  near_in_life port =
      any_in_life h.time (λ x. is_heard_at port x && nat_le (h.time - x.time) 3000)
      (λ x e. leb-true (h.time - x.time) 3000 (and_parts (is_heard_at port x) (nat_le (h.time - x.time) 3000) e).1) (h ∷ hs) (omega arith, order)
      ∙ ap (list_any (λ x. is_heard_at port x && nat_le (h.time - x.time) 3000)) (life_is h hs)
      ∙ any_near (λ x. is_heard_at port x) h.time (h ∷ rest_of h hs)

  -- the port that is behind
  abbrev behind_in : List Hearing → Option Port
  behind_in life = choice (is_behind (latest_of (at_a life)) (latest_of (at_b life))) (is_behind (latest_of (at_b life)) (latest_of (at_a life)))

  abbrev a_before : Option ℕ
  a_before = latest_of (at_a (rest_of h hs))

  abbrev b_before : Option ℕ
  b_before = latest_of (at_b (rest_of h hs))

  a_at_most : AtMost h.time a_before
  a_at_most = latest_at_most (λ x. is_a x.port) h.time (rest_of h hs) (rest_before h hs order)

  b_at_most : AtMost h.time b_before
  b_at_most = latest_at_most (λ x. not (is_a x.port)) h.time (rest_of h hs) (rest_before h hs order)

  behind_is : behind_in (h ∷ rest_of h hs) ≡ choice (not (near_at A)) (not (near_at B))
  behind_is = by (is_a h.port) ∙ ap (λ b. choice (not b) (not (near h.time (latest_of (at_b (h ∷ rest_of h hs)))))) (sym (near_in_life A)) ∙ ap (λ b. choice (not (near_at A)) (not b)) (sym (near_in_life B))
    where
      near_true : (b : Bool) → b ≡ true → false ≡ not b
      near_true b e = sym (ap not e)

      by : (b : Bool)
          → choice (is_behind (latest_of (cond b (h ∷ at_a (rest_of h hs)) (at_a (rest_of h hs)))) (latest_of (cond (not b) (h ∷ at_b (rest_of h hs)) (at_b (rest_of h hs)))))
          (is_behind (latest_of (cond (not b) (h ∷ at_b (rest_of h hs)) (at_b (rest_of h hs)))) (latest_of (cond b (h ∷ at_a (rest_of h hs)) (at_a (rest_of h hs)))))
          ≡ choice (not (near h.time (latest_of (cond b (h ∷ at_a (rest_of h hs)) (at_a (rest_of h hs)))))) (not (near h.time (latest_of (cond (not b) (h ∷ at_b (rest_of h hs)) (at_b (rest_of h hs))))))
      by true =
          ap (λ x. choice x (is_behind b_before (times_after a_before h.time))) (first_not_behind h.time a_before b_before a_at_most b_at_most ∙ near_true (near h.time (times_after a_before h.time)) (first_near h.time a_before a_at_most))
          ∙ ap (choice (not (near h.time (times_after a_before h.time)))) (other_behind h.time a_before b_before a_at_most b_at_most)
      by false =
          ap (λ x. choice x (is_behind (times_after b_before h.time) a_before)) (other_behind h.time b_before a_before b_at_most a_at_most)
          ∙ ap (choice (not (near h.time a_before))) (first_not_behind h.time b_before a_before b_at_most a_at_most ∙ near_true (near h.time (times_after b_before h.time)) (first_near h.time b_before b_at_most))

  late_first : (now : ℕ) → late_port now (entry_by (h ∷ hs)) ≡ late_by (h ∷ hs) now
  late_first now = ap (λ life. cond (nat_lt (now - h.time) 4500) (behind_in life) None) (life_is h hs) ∙ ap (λ o. cond (nat_lt (now - h.time) 4500) o None) behind_is ∙ by (nat_lt (now - h.time) 4500)
    where
      by : (b : Bool) → cond b (choice (not (near_at A)) (not (near_at B))) None ≡ choice (b && not (near_at A)) (b && not (near_at B))
      by true = refl
      by false = refl

pub late-entry_by : (hs : List Hearing) (u v now : ℕ) → AreBefore now hs → is_heard hs v ≡ true → late_port u (entry_by hs) ≡ late_by hs u
late-entry_by [] u v now order e = cc
late-entry_by (h ∷ hs) u v now order e = late_first h hs order.1 u

-- what is late is live
pub late_is_heard : (port : Port) (hs : List Hearing) (now : ℕ) → is_late port hs now ≡ true → is_heard hs now ≡ true
late_is_heard H (h ∷ hs) now e = cc
late_is_heard C (h ∷ hs) now e = cc
late_is_heard port [] now e = cc
late_is_heard A (h ∷ hs) now e =
    let l : now - h.time < 4500 = ltb-true (now - h.time) 4500 (and_parts (nat_lt (now - h.time) 4500) (not (list_any (λ x. is_heard_at A x && nat_le (h.time - x.time) 3000) (h ∷ hs))) e).0 in
    ap (λ b. b || is_heard hs now) (lt-ltb (now - h.time) 60000 (omega arith))
late_is_heard B (h ∷ hs) now e =
    let l : now - h.time < 4500 = ltb-true (now - h.time) 4500 (and_parts (nat_lt (now - h.time) 4500) (not (list_any (λ x. is_heard_at B x && nat_le (h.time - x.time) 3000) (h ∷ hs))) e).0 in
    ap (λ b. b || is_heard hs now) (lt-ltb (now - h.time) 60000 (omega arith))

-- no two ports are late at once
pub one_is_late : (hs : List Hearing) (now : ℕ) → is_late A hs now ≡ true → is_late B hs now ≡ false
one_is_late [] now e = refl
one_is_late (h ∷ hs) now e = by (nat_lt (now - h.time) 4500) (is_a h.port) e
  where
    here : nat_le (h.time - h.time) 3000 ≡ true
    here = le-leb (h.time - h.time) 3000 (omega arith)

    some : (c : Bool) → c ≡ true → (x : Bool) → not (c || x) ≡ false
    some c e x = ap (λ y. not (y || x)) e

    by : (b a : Bool) → (b && not ((a && nat_le (h.time - h.time) 3000) || list_any (λ x. is_heard_at A x && nat_le (h.time - x.time) 3000) hs)) ≡ true
        → (b && not ((not a && nat_le (h.time - h.time) 3000) || list_any (λ x. is_heard_at B x && nat_le (h.time - x.time) 3000) hs)) ≡ false
    by false a e = refl
    by true true e = let bad : false ≡ true = sym (some (nat_le (h.time - h.time) 3000) here (list_any (λ x. is_heard_at A x && nat_le (h.time - x.time) 3000) hs)) ∙ e in cc
    by true false e = some (nat_le (h.time - h.time) 3000) here (list_any (λ x. is_heard_at B x && nat_le (h.time - x.time) 3000) hs)

-- what is not live has no late port
pub late_none : (hs : List Hearing) (now : ℕ) → is_heard hs now ≡ false → late_by hs now ≡ None
late_none hs now e = (λ j. cond (none A j) (Some A) (cond (none B j) (Some B) None))
  where
    none : (port : Port) → is_late port hs now ≡ false
    none port = false_from_ne_true (is_late port hs now) (λ l. let bad : true ≡ false = sym (late_is_heard port hs now l) ∙ e in absurd cc)

-- the port that was late at the latest prune
abbrev pub late_then : Mac → List Event → Option Port
late_then mac [] = None
late_then mac (Hears h ∷ events) = late_then mac events
late_then mac (Prunes now ∷ events) = late_by (kept_of mac events) now

pub was_late_a : (mac : Mac) (events : List Event) → was_late (late_then mac events) A ≡ was_late_at_prune A mac events
was_late_a mac [] = refl
was_late_a mac (Hears h ∷ events) = was_late_a mac events
was_late_a mac (Prunes now ∷ events) = by (is_late A (kept_of mac events) now) (is_late B (kept_of mac events) now)
  where
    by : (a b : Bool) → was_late (cond a (Some A) (cond b (Some B) None)) A ≡ a
    by true b = refl
    by false true = refl
    by false false = refl

pub was_late_b : (mac : Mac) (events : List Event) → was_late (late_then mac events) B ≡ was_late_at_prune B mac events
was_late_b mac [] = refl
was_late_b mac (Hears h ∷ events) = was_late_b mac events
was_late_b mac (Prunes now ∷ events) = by (is_late A (kept_of mac events) now) refl (is_late B (kept_of mac events) now) refl
  where
    by : (a : Bool) → is_late A (kept_of mac events) now ≡ a → (b : Bool) → is_late B (kept_of mac events) now ≡ b → was_late (cond a (Some A) (cond b (Some B) None)) B ≡ b
    by true e b f = sym (one_is_late (kept_of mac events) now e) ∙ f
    by false e true f = refl
    by false e false f = refl
