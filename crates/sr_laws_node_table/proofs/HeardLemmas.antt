-- Hearings in the order of their times, and the entry of an address that they make.
use Rattle.std.proofs.Common.{◌≡◌, ℕ, ◌-◌, ◌<◌, ◌≤◌, max, Bool, true, false, cond, ◌||◌, List, [], ◌∷◌, filter, refl, sym, ap, ◌∙◌, arith}
use Rattle.std.proofs.lemmas.Bool.{ltb-true, lt-ltb}
use Rattle.sr_frame.specs.declared.ports.Port.{Port}
use Rattle.sr_frame.specs.declared.ports.Port.TheVariants.{H, A, B, C}
use Rattle.sr_aged_slots.specs.Ages.{is_recent}
use Rattle.sr_node_table.specs.Nodes.{Hearing, Entry, is_live, node_after, entry_begun, entry_after}
use Rattle.sr_node_table.specs.Hearings.{is_heard, life_of, node_in}

-- none is after this time, and each is followed by none that is later
abbrev pub AreBefore : ℕ → List Hearing → Type 0
AreBefore now [] = Unit {0}
AreBefore now (h ∷ hs) = (h.time ≤ now) × AreBefore h.time hs

pub before_later : (now later : ℕ) (hs : List Hearing) → now ≤ later → AreBefore now hs → AreBefore later hs
before_later now later [] le order = tt
before_later now later (h ∷ hs) le order = (omega (arith, order.0), order.1)

pub before-filter : (p : Hearing → Bool) (now : ℕ) (hs : List Hearing) → AreBefore now hs → AreBefore now (filter p hs)
before-filter p now [] order = tt
before-filter p now (h ∷ hs) order = by (p h) (before-filter p h.time hs order.1)
  where
    by : (b : Bool) → AreBefore h.time (filter p hs) → AreBefore now (cond b (h ∷ filter p hs) (filter p hs))
    by true ih = (order.0, ih)
    by false ih = before_later h.time now (filter p hs) order.0 ih

-- what is recent later was recent before
recent_before : (u v time : ℕ) → u ≤ v → is_recent 60000 v time ≡ true → is_recent 60000 u time ≡ true
recent_before u v time le e = let l : v - time < 60000 = ltb-true (v - time) 60000 e in lt-ltb (u - time) 60000 (omega arith)

pub heard_before : (hs : List Hearing) (u v : ℕ) → u ≤ v → is_heard hs v ≡ true → is_heard hs u ≡ true
heard_before [] u v le e = e
heard_before (h ∷ hs) u v le e = by (is_recent 60000 v h.time) refl e (heard_before hs u v le)
  where
    or_true : (a : Bool) → (a || true) ≡ true
    or_true true = refl
    or_true false = refl

    by : (b : Bool) → is_recent 60000 v h.time ≡ b → (b || is_heard hs v) ≡ true → (is_heard hs v ≡ true → is_heard hs u ≡ true) → is_heard (h ∷ hs) u ≡ true
    by true r e ih = ap (λ a. a || is_heard hs u) (recent_before u v h.time le r)
    by false r e ih = ap (λ a. is_recent 60000 u h.time || a) (ih e) ∙ or_true (is_recent 60000 u h.time)

-- of hearings in order, the first tells how long ago the last was
pub heard_first : (h : Hearing) (hs : List Hearing) (u : ℕ) → AreBefore h.time hs → is_heard (h ∷ hs) u ≡ is_recent 60000 u h.time
heard_first h hs u order = by (is_recent 60000 u h.time) refl (is_heard hs u) refl
  where
    older : (time : ℕ) (xs : List Hearing) → AreBefore time xs → is_heard xs u ≡ true → is_recent 60000 u time ≡ true
    older time [] order e = cc
    older time (x ∷ xs) order e = step (is_recent 60000 u x.time) refl e (older x.time xs order.1)
      where
        le : x.time ≤ time
        le = order.0

        nearer : is_recent 60000 u x.time ≡ true → is_recent 60000 u time ≡ true
        nearer r = let l : u - x.time < 60000 = ltb-true (u - x.time) 60000 r in lt-ltb (u - time) 60000 (omega (arith, le))

        step : (b : Bool) → is_recent 60000 u x.time ≡ b → (b || is_heard xs u) ≡ true → (is_heard xs u ≡ true → is_recent 60000 u x.time ≡ true) → is_recent 60000 u time ≡ true
        step true r e ih = nearer r
        step false r e ih = nearer (ih e)

    by : (a : Bool) → is_recent 60000 u h.time ≡ a → (b : Bool) → is_heard hs u ≡ b → (a || b) ≡ a
    by true r b e = refl
    by false r true e = sym (older h.time hs order e) ∙ r
    by false r false e = refl

-- the time of the last hearing
abbrev pub last_of : List Hearing → ℕ
last_of [] = 0
last_of (h ∷ hs) = h.time

-- the entry that hearings make
abbrev pub entry_by : List Hearing → Entry
entry_by hs = record { value = node_in (life_of hs); time = last_of hs }

pub live-entry_by : (hs : List Hearing) (u v now : ℕ) → AreBefore now hs → is_heard hs v ≡ true → is_live u (entry_by hs) ≡ is_heard hs u
live-entry_by [] u v now order e = cc
live-entry_by (h ∷ hs) u v now order e = sym (heard_first h hs u order.1)

node_more : (h : Hearing) (life : List Hearing) → node_after (node_in life) h.port h.told h.time ≡ node_in (h ∷ life)
node_more h life = by h.port
  where
    by : (p : Port) → node_after (node_in life) p h.told h.time ≡ node_in ((record h { port = p }) ∷ life)
    by H = refl
    by A = refl
    by B = refl
    by C = refl

-- one more hearing within the life
abbrev next_of : Hearing → List Hearing → Entry
next_of h hs = record { value = node_after (node_in (life_of hs)) h.port h.told h.time; time = max (last_of hs) h.time }

-- one more hearing, within the life or after a silence
pub begun-entry_by : (h : Hearing) (hs : List Hearing) → is_heard hs h.time ≡ false → entry_begun h.port h.told h.time ≡ entry_by (h ∷ hs)
begun-entry_by h hs e =
    (λ j. record { value = node_more h [] j; time = h.time })
    ∙ ap (λ b. record { value = node_in (cond b (h ∷ life_of hs) (h ∷ [])); time = h.time }) (sym e)

pub after-entry_by : (h : Hearing) (hs : List Hearing) (v : ℕ) → AreBefore h.time hs → is_heard hs v ≡ true → entry_after (entry_by hs) h.port h.told h.time ≡ entry_by (h ∷ hs)
after-entry_by h [] v order e = cc
after-entry_by h (x ∷ xs) v order e =
    ap (λ b. cond b (next_of h (x ∷ xs)) (entry_begun h.port h.told h.time)) (live-entry_by (x ∷ xs) h.time v h.time order e) ∙ by (is_heard (x ∷ xs) h.time) refl
  where
    time : max x.time h.time ≡ h.time
    time = omega (arith, order.0)

    by : (b : Bool) → is_heard (x ∷ xs) h.time ≡ b → cond b (next_of h (x ∷ xs)) (entry_begun h.port h.told h.time) ≡ entry_by (h ∷ x ∷ xs)
    by true r = (λ j. record { value = node_more h (life_of (x ∷ xs)) j; time = time j }) ∙ ap (λ b. record { value = node_in (cond b (h ∷ life_of (x ∷ xs)) (h ∷ [])); time = h.time }) (sym r)
    by false r = begun-entry_by h (x ∷ xs) r
