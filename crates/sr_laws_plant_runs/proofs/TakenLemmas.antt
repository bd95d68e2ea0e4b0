-- What a plant handed up changes nothing of what it does.
use Rattle.std.proofs.Common.{◌≡◌, inl, inr, ℕ, zero, suc, List, [], ◌∷◌, ◌++◌, length, replicate, None, slice_set, slice_index_or, refl, sym, ap, ◌∙◌, subst, arith}
use Rattle.sr_forwarding.specs.Parcels.{ParcelImage}
use Rattle.sr_node.specs.declared.event.Event.{Event}
use Rattle.sr_node.specs.Starts.{Start}
use Rattle.sr_plant.specs.declared.topology.Topology.{Topology}
use Rattle.sr_plant.specs.declared.event.PlantEvent.{PlantEvent}
use Rattle.sr_plant.specs.declared.event.PlantEvent.TheVariants.{Send, Carry, Drop, Repeat, Cut, Mend, Tick}
use Rattle.sr_plant.specs.Copies.{Copy}
use Rattle.sr_plant.specs.Plants.{Plant}
use Rattle.sr_plant.specs.Steps.{acted, Acts, without, IsLost, PlantStep, plant_refusal}
use Rattle.sr_laws_plant_runs.specs.PlantRuns.{Turn}
use Rattle.sr_laws_plant_runs.specs.Taken.{taken_away, joined_up, TakenRun, TakenRunsAreRuns}

abbrev Ups : Type 0
Ups = List (List ParcelImage)

abbrev empties : Ups → Ups
empties hs = replicate (length hs) []

-- what was handed up, joined
joined_none : (us hs : Ups) → joined_up us (empties hs) ≡ us
joined_none [] hs = refl
joined_none (u ∷ us) [] = refl
joined_none (u ∷ us) (h ∷ hs) = λ j. append_none u j ∷ joined_none us hs j
  where
    append_none : (ps : List ParcelImage) → ps ++ [] ≡ ps
    append_none [] = refl
    append_none (p ∷ ps) = ap (λ x. p ∷ x) (append_none ps)

-- of lists that are as long
abbrev AsLong : Ups → Ups → Type 0
AsLong us hs = length us ≡ length hs

joined_set : (us hs : Ups) (i : ℕ) (out : List ParcelImage) → AsLong us hs → joined_up us (slice_set (empties hs) i (slice_index_or (empties hs) i [] ++ out)) ≡ slice_set us i (slice_index_or us i [] ++ out)
joined_set [] [] i out long = refl
joined_set [] (h ∷ hs) i out long = refl
joined_set (u ∷ us) [] i out long = absurd cc
joined_set (u ∷ us) (h ∷ hs) zero out long = ap (λ x. (u ++ out) ∷ x) (joined_none us hs)
joined_set (u ∷ us) (h ∷ hs) (suc i) out long =
    let less : AsLong us hs = omega (arith, long) in
    λ j. joined_first u j ∷ joined_set us hs i out less j
  where
    joined_first : (ps : List ParcelImage) → ps ++ [] ≡ ps
    joined_first [] = refl
    joined_first (p ∷ ps) = ap (λ x. p ∷ x) (joined_first ps)

-- the plant that keeps these
abbrev keeping : Plant → Ups → Plant
keeping s ups = record s { handed = ups }

acts_too : (v s : Plant) (all : Ups) (i : ℕ) (event : Event) (now : ℕ) → AsLong all v.handed → Acts (taken_away v) i event now s → Acts (keeping v all) i event now (keeping s (joined_up all s.handed))
acts_too v s all i event now long acts = record {
  before = acts.before;
  answer = acts.answer;
  after = acts.after;
  there = acts.there;
  fits = acts.fits;
  step = acts.step;
  plant = ap (λ (x : Plant). keeping x (joined_up all x.handed)) acts.plant ∙ ap (keeping (acted (taken_away v) i acts.after now)) (joined_set all v.handed i acts.after.core.out.h long);
}

stays : (v s u : Plant) (all : Ups) → s ≡ u → u.handed ≡ empties v.handed → keeping s (joined_up all s.handed) ≡ keeping u all
stays v s u all is same = ap (λ (x : Plant). keeping x (joined_up all x.handed)) is ∙ ap (keeping u) (ap (joined_up all) same ∙ joined_none all v.handed)

lost_too : (v : Plant) (all : Ups) (c : Copy) → IsLost (taken_away v) c → IsLost (keeping v all) c
lost_too v all c (inl refused) = inl (refused.0, refused.1, record { octets = refused.2.octets; before = refused.2.before; written = refused.2.written; there = refused.2.there; refused = refused.2.refused })
lost_too v all c (inr unwritten) = inr unwritten

step_too : (v s : Plant) (all : Ups) (e : PlantEvent) → AsLong all v.handed → PlantStep (taken_away v) e s → PlantStep (keeping v all) e (keeping s (joined_up all s.handed))
step_too v s all (Send i frame) long step = acts_too v s all i _ v.clock long step
step_too v s all (Tick i now) long step = acts_too v s all i _ now long step
step_too v s all (Carry place) long (c, at, inl comes) = (
  c,
  at,
  inl (record {
    octets = comes.octets;
    before = comes.before;
    answer = comes.answer;
    after = comes.after;
    written = comes.written;
    there = comes.there;
    taken = comes.taken;
    plant = ap (λ (x : Plant). keeping x (joined_up all x.handed)) comes.plant ∙ ap (keeping (acted (without (taken_away v) place) c.hop.to.node comes.after v.clock)) (joined_set all v.handed c.hop.to.node comes.after.core.out.h long);
  }),
)
step_too v s all (Carry place) long (c, at, inr lost) = (c, at, inr (lost_too v all c lost.0, stays v s (without (taken_away v) place) all lost.1 refl))
step_too v s all (Drop place) long step = stays v s (without (taken_away v) place) all step refl
step_too v s all (Repeat place) long step = (step.0, step.1, stays v s (record (taken_away v) { flight = step.0 }) all step.2 refl)
step_too v s all (Cut link) long step = stays v s _ all step refl
step_too v s all (Mend link) long step = stays v s _ all step refl

refusal_too : (v : Plant) (all : Ups) (e : PlantEvent) → plant_refusal (taken_away v) e ≡ None → plant_refusal (keeping v all) e ≡ None
refusal_too v all (Send i frame) none = none
refusal_too v all (Carry place) none = none
refusal_too v all (Drop place) none = none
refusal_too v all (Repeat place) none = none
refusal_too v all (Cut link) none = none
refusal_too v all (Mend link) none = none
refusal_too v all (Tick i now) none = none

-- as many hosts as ever
length_set : (hs : Ups) (i : ℕ) (h : List ParcelImage) → length (slice_set hs i h) ≡ length hs
length_set [] i h = refl
length_set (x ∷ hs) zero h = refl
length_set (x ∷ hs) (suc i) h = ap suc (length_set hs i h)

length_empties : (hs : Ups) → length (empties hs) ≡ length hs
length_empties [] = refl
length_empties (h ∷ hs) = ap suc (length_empties hs)

length_joined : (us hs : Ups) → length (joined_up us hs) ≡ length us
length_joined [] hs = refl
length_joined (u ∷ us) [] = refl
length_joined (u ∷ us) (h ∷ hs) = ap suc (length_joined us hs)

hosts_stay : (s v : Plant) (e : PlantEvent) → PlantStep s e v → length v.handed ≡ length s.handed
hosts_stay s v (Send i frame) step = ap (λ (x : Plant). length x.handed) step.plant ∙ length_set s.handed i (slice_index_or s.handed i [] ++ step.after.core.out.h)
hosts_stay s v (Tick i now) step = ap (λ (x : Plant). length x.handed) step.plant ∙ length_set s.handed i (slice_index_or s.handed i [] ++ step.after.core.out.h)
hosts_stay s v (Carry place) (c, at, inl comes) = ap (λ (x : Plant). length x.handed) comes.plant ∙ length_set s.handed c.hop.to.node (slice_index_or s.handed c.hop.to.node [] ++ comes.after.core.out.h)
hosts_stay s v (Carry place) (c, at, inr lost) = ap (λ (x : Plant). length x.handed) lost.1
hosts_stay s v (Drop place) step = ap (λ (x : Plant). length x.handed) step
hosts_stay s v (Repeat place) step = ap (λ (x : Plant). length x.handed) step.2
hosts_stay s v (Cut link) step = ap (λ (x : Plant). length x.handed) step
hosts_stay s v (Mend link) step = ap (λ (x : Plant). length x.handed) step

pub as_long : (t : Topology) (starts : List Start) (turns : List Turn) (s : Plant) (ups : Ups) → TakenRun t starts turns s ups → AsLong ups s.handed
as_long t starts [] s ups run = ap length run.2
as_long t starts (turn ∷ before) s ups (v, all, run, taken, none, step, is) =
    ap length is ∙ length_joined all s.handed ∙ as_long t starts before v all run
    ∙ sym (length_empties v.handed) ∙ sym (ap (λ (x : Plant). length x.handed) taken) ∙ sym (hosts_stay turn.before s turn.event step)

pub taken_runs : TakenRunsAreRuns
taken_runs t starts [] s ups run = ([], tt, (run.0, ap (keeping s) run.2 ∙ run.1))
taken_runs t starts (turn ∷ before) s ups (v, all, run, taken, none, step, is) =
    let earlier = taken_runs t starts before v all run in
    let there : PlantStep (taken_away v) turn.event s = subst (λ x. PlantStep x turn.event s) taken step in
    let open_to : plant_refusal (taken_away v) turn.event ≡ None = subst (λ x. plant_refusal x turn.event ≡ None) taken none in
    let now : PlantStep (keeping v all) turn.event (keeping s ups) =
    subst (λ x. PlantStep (keeping v all) turn.event (keeping s x)) (sym is) (step_too v s all turn.event (as_long t starts before v all run) there) in
    (record { before = keeping v all; event = turn.event } ∷ earlier.0, (refl, earlier.1), (earlier.2, refusal_too v all turn.event open_to, now))
