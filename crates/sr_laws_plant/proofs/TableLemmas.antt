-- Step by step, a table's turns follow what its member did.
use Rattle.std.proofs.Common.{◌≡◌, ℕ, ◌≤◌, inl, inr, List, [], ◌∷◌, ◌++◌, arith, refl, sym, ap, subst, Bool, length, nat_lt, Option, None, Some, pos}
use Rattle.std.specs.Prelude.{option_to_list}
use Rattle.sr_frame.specs.declared.fields.Mac.{Mac}
use Rattle.sr_dup_window.specs.declared.lane_sets.Lanes.{Lanes}
use Rattle.std.proofs.lemmas.Bool.{cases_Bool}
use Rattle.std.specs.Map.{lookup}
use Rattle.sr_frame.specs.Addresses.{mac_eq}
use Rattle.sr_sequence.specs.Numbers.{wire}
use Rattle.sr_dup_table.specs.Limits.{most_sources}
use Rattle.sr_dup_table.specs.Sources.{Remembered, Sources, answer_of, fresh_at, with_room}
use Rattle.sr_laws_dup.specs.TableRuns.{TableTurn, arrived, aged, latest, AreInOrder}
use Rattle.sr_laws_plant.specs.Handlings.{Handling}
use Rattle.sr_laws_plant.specs.Ledger.{Net, PlantTurn}
use Rattle.sr_laws_plant.specs.PlantEvents.{Event, send, tick, carry, drop, repeat, cut, mend, Plant, Moves, History, PlantRun, done_in}
use Rattle.sr_laws_plant.proofs.MemberLemmas.{noting_of, Follows, none, ages, other, takes, AreMembers}
use Rattle.sr_laws_plant.specs.Tables.{Rests, TableStep, MemberRun, HaveTables}
use Rattle.sr_laws_plant.specs.Widths.{Widths}

-- the clock goes on
clock_on : (net : Net) (done : List Handling) (s : Plant) (e : Event) (turn : PlantTurn) (t : Plant) → Moves net done s e turn t →
    s.clock ≤ t.clock
clock_on net done s (send node) turn t m = let at_once : t.clock ≡ s.clock = ap (λ x. x.clock) m.2.after in omega arith
clock_on net done s (tick node now) turn t (order, inl idle) = let at_now : t.clock ≡ now = ap (λ x. x.clock) idle.1 in omega arith
clock_on net done s (tick node now) turn t (order, inr life) = let at_now : t.clock ≡ now = ap (λ x. x.clock) life.3.after in omega arith
clock_on net done s (carry place) turn t (c, rest, out, inl m) = let still : t.clock ≡ s.clock = ap (λ x. x.clock) m.after in omega arith
clock_on net done s (carry place) turn t (c, rest, out, inr (inl m)) = let still : t.clock ≡ s.clock =
    ap (λ x. x.clock) m.after in omega arith
clock_on net done s (carry place) turn t (c, rest, out, inr (inr m)) = let still : t.clock ≡ s.clock =
    ap (λ x. x.clock) m.1.after in omega arith
clock_on net done s (drop place) turn t m = let still : t.clock ≡ s.clock = ap (λ x. x.clock) m.3.after in omega arith
clock_on net done s (repeat place) turn t m = let still : t.clock ≡ s.clock = ap (λ x. x.clock) m.4 in omega arith
clock_on net done s (cut link) turn t m = let still : t.clock ≡ s.clock = ap (λ x. x.clock) m.1 in omega arith
clock_on net done s (mend link) turn t m = let still : t.clock ≡ s.clock = ap (λ x. x.clock) m.1 in omega arith

-- the turns of a table so far
pub record TurnsOf (mac : ℕ → Mac) (x : ℕ → Bool) (ws : Widths) (lanes : Handling → Lanes) (k : ℕ) (ds : List Handling) (s : Sources) (clock : ℕ) : Type 0 where
  pub turns : List TableTurn
  pub follows : Follows mac x ws lanes k ds turns s
  pub order : AreInOrder 0 turns
  pub past : latest 0 turns ≤ clock

-- what others did
rested : (mac : ℕ → Mac) (x : ℕ → Bool) (ws : Widths) (lanes : Handling → Lanes) (k : ℕ) (did : Option Handling) (ds : List Handling)
    (ts : List TableTurn) (s : Sources) → Rests k did → Follows mac x ws lanes k ds ts s → Follows mac x ws lanes k (option_to_list did ++ ds) ts s
rested mac x ws lanes k None ds ts s rests f = f
rested mac x ws lanes k (Some d) ds ts s rests f = other d rests.0 f

-- whatever lanes a table is asked of, it answers where it is not full
answers : (w : ℕ) (o : Option Remembered) (s : Sources) (seq now : ℕ) (asked lanes fresh : Lanes) → answer_of w o s seq asked now ≡ Some fresh →
    (own : Lanes) × (answer_of w o s seq lanes now ≡ Some own)
answers w None s seq now asked lanes fresh is =
    elim (cases_Bool (nat_lt (length (with_room now s)) most_sources)) [
      | inl room ↦ (lanes, rw room refl)
      | inr full ↦ let no : None ≡ Some fresh = rw full at is in absurd cc
    ]
answers w (Some h) s seq now asked lanes fresh is = (fresh_at w h seq lanes now, refl)

step_turns : (mac : ℕ → Mac) (x : ℕ → Bool) (ws : Widths) (lanes : Handling → Lanes) (k : ℕ) (did : Option Handling) (ds : List Handling)
    (u s : Sources) (before now : ℕ) → before ≤ now → TurnsOf mac x ws lanes k ds u before → TableStep mac x ws lanes k now did u s →
    TurnsOf mac x ws lanes k (option_to_list did ++ ds) s now
step_turns mac x ws lanes k did ds u s before now order t (inl rests) =
    let past = t.past in
    record {
      turns = t.turns;
      follows = subst (λ v. Follows mac x ws lanes k (option_to_list did ++ ds) t.turns v) (sym rests.1)
          (rested mac x ws lanes k did ds t.turns u rests.0 t.follows);
      order = t.order;
      past = omega arith;
    }
step_turns mac x ws lanes k did ds u s before now order t (inr (inl rests)) =
    let past = t.past in
    record {
      turns = aged now ∷ t.turns;
      follows = subst (λ v. Follows mac x ws lanes k (option_to_list did ++ ds) (aged now ∷ t.turns) v) (sym rests.1)
          (ages now (rested mac x ws lanes k did ds t.turns u rests.0 t.follows));
      order = (t.order, omega arith);
      past = omega arith;
    }
step_turns mac x ws lanes k did ds u s before now order t (inr (inr m)) =
    let past = t.past in
    let time = m.time in
    let d = m.handling in
    let own = answers (ws.at k) (lookup (mac_eq (mac d.frame.src)) u) u (wire (pos d.frame.number)) d.time m.asked (lanes d) m.fresh m.answer in
    subst (λ v. TurnsOf mac x ws lanes k (option_to_list v ++ ds) s now) (sym m.did_it)
    (record {
      turns = arrived (noting_of mac lanes m.handling) own.0 ∷ t.turns;
      follows = subst (λ v. Follows mac x ws lanes k (d ∷ ds) (arrived (noting_of mac lanes d) own.0 ∷ t.turns) v) (sym m.after)
          (takes d own.0 m.asked m.fresh m.here m.some own.1 m.asks m.answer m.goes t.follows);
      order = (t.order, omega arith);
      past = omega arith;
    })

all_turns : (mac : ℕ → Mac) (x : ℕ → Bool) (ws : Widths) (lanes : Handling → Lanes) (k : ℕ) (net : Net) (es : History) (p : Plant)
    (run : PlantRun net es p) (s : Sources) → MemberRun mac x ws lanes k net es p run s → TurnsOf mac x ws lanes k (done_in es) s p.clock
all_turns mac x ws lanes k net [] p run s r =
    record { turns = []; follows = subst (λ v. Follows mac x ws lanes k [] [] v) (sym r) none; order = tt; past = omega arith }
all_turns mac x ws lanes k net (e ∷ es) p run s r =
    step_turns mac x ws lanes k e.1.did (done_in es) r.0 s run.0.clock p.clock (clock_on net (done_in es) run.0 e.0 e.1 p run.2)
    (all_turns mac x ws lanes k net es run.0 run.1 r.0 r.1) r.2

pub members_of : (n : ℕ) (mac : ℕ → Mac) (x : ℕ → Bool) (ws : Widths) (lanes : Handling → Lanes) (net : Net) (es : History) (p : Plant)
    (run : PlantRun net es p) →
    HaveTables n mac x ws lanes net es p run → AreMembers n mac x ws lanes (done_in es)
members_of n mac x ws lanes net es p run h = record {
  addressed = h.addressed;
  widths = h.widths;
  noted = h.noted;
  out = h.out;
  runs = λ k. (let t = all_turns mac x ws lanes k net es p run (h.tables k) (h.runs k) in record {
    turns = t.turns;
    sources = h.tables k;
    follows = t.follows;
    order = t.order;
  });
}
