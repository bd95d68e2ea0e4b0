-- What is kept of the last numbers of a source, with one arrival more.
use Rattle.std.proofs.Common.{◌≡◌, ℕ, ◌-◌, ◌<◌, ◌≤◌, ◌⊎◌, Bool, true, false, cond, List, [], ◌∷◌, ℤ, pos, refl, sym, ap, ◌∙◌, subst, inl, inr}
use Rattle.std.specs.Prelude.{nat_lt, slice_index_or, ◌+ℤ◌, ◌-ℤ◌}
use Rattle.std.proofs.lemmas.Bool.{cases_Bool, cases_lt, lt-ltb, le-ltb, lt-leb, le-leb}
use Rattle.sr_sequence.specs.Numbers.{wire}
use Rattle.sr_sequence.specs.Places.{number_at, steps, IsTheOne}
use Rattle.sr_sequence.specs.declared.Distance.{Distance}
use Rattle.sr_sequence.specs.declared.Distance.TheVariants.{Behind, Ahead}
use Rattle.sr_audit.specs.declared.arrival.Arrival.{Arrival}
use Rattle.sr_audit.specs.declared.listing.Copied.{Copied}
use Rattle.sr_audit.specs.declared.listing.Listed.{Listed}
use Rattle.sr_audit.specs.declared.pending.Fate.TheVariants.{Settled}
use Rattle.sr_audit.specs.declared.pending.Pending.{Pending}
use Rattle.sr_audit.specs.declared.span.Spans.{Spans}
use Rattle.sr_audit.specs.Fates.{TellsFates, KeepsFates}
use Rattle.sr_audit.specs.Limits.{kept_numbers, epoch_gap, place_in}
use Rattle.sr_audit.specs.Listings.{fate_kept, KeepsPlaces, IsKeptAs, SettlesAll, MovesTo, TakesCopy, ListsArrival}
use Rattle.sr_audit.specs.Looks.{step_to, came_by, by_neither, look_at}
use Rattle.sr_audit.specs.Stretches.{Placed, copy_as, top_number, lies_from, goes_to, stretch_begun, goes_on, gone_on, current, with_arrival, stretches}
use Rattle.sr_audit.proofs.ExtentLemmas.{no_empty}
use Rattle.sr_audit.proofs.FollowLemmas.{number_is}
use Rattle.sr_audit.specs.Edges.{KeepsTimes}
use Rattle.sr_audit.proofs.FateLemmas.{ahead_fates, begun_fates, behind_fates, le_own, near_own, wire_own}
use Rattle.sr_audit.proofs.FirstLemmas.{ahead_first, behind_first, with_first}

-- with one arrival more
tells_same : (z : Placed) (before : List Placed) (old at : Pending) → ((seq : ℕ) → IsKeptAs old at seq) → at.reach ≡ old.reach →
    TellsFates (z ∷ before) old → TellsFates (z ∷ before) at
tells_same z before old at same reach tells = record {
  fates = λ n above below. (same (wire n)).fate ∙ tells.fates n above below;
  reach = reach ∙ tells.reach;
}

-- what became of the numbers, and when the first copies came
abbrev pub KeepsAll : List Placed → Pending → Type 0
KeepsAll s p = KeepsFates s p × KeepsTimes s p.times.items

begun_all : (x : Copied) (between new : Pending) (list after : List Listed) → x.arrival.seq.0 < 65536 → KeepsPlaces between →
    ((seq : ℕ) → fate_kept between seq ≡ Settled) → between.reach ≡ 0 → TakesCopy by_neither x between new list after →
    KeepsAll (stretch_begun x.arrival) new
begun_all x between new list after fits room settled none taken = (
  begun_fates x between new list after fits room settled none taken,
  with_first [] x (pos x.arrival.seq.0) between new list after (wire_own x.arrival.seq.0 fits) (near_own (pos x.arrival.seq.0))
      (le_own (pos x.arrival.seq.0)) room (λ n some above. let no : false ≡ true = some in absurd cc) taken,
)

times_same : (s : List Placed) (old at : Pending) → ((seq : ℕ) → IsKeptAs old at seq) → KeepsTimes s old.times.items →
    KeepsTimes s at.times.items
times_same s old at same keeps = λ n some above. (same (wire n)).time ∙ keeps n some above

goes_fates : (z : Placed) (before : List Placed) (rest : List (List Placed)) (x : Copied) (at between new : Pending) (list after : List Listed) →
    x.arrival.seq.0 < 65536 → KeepsPlaces between → TellsFates (z ∷ before) at → KeepsTimes (z ∷ before) at.times.items →
    MovesTo (look_at ((z ∷ before) ∷ rest) x.arrival).step x.arrival at between →
    TakesCopy (look_at ((z ∷ before) ∷ rest) x.arrival).came x between new list after →
    KeepsAll (current (with_arrival ((z ∷ before) ∷ rest) x.arrival)) new
goes_fates z before rest x at between new list after fits room keeps times moves taken =
    place (cases_lt (steps a.seq.0 (wire t)) kept_numbers) (cases_lt (steps (wire t) a.seq.0) kept_numbers) (cases_Bool soon) moves taken
  where
    a : Arrival
    a = x.arrival

    s : List Placed
    s = z ∷ before

    t : ℤ
    t = top_number s

    soon : Bool
    soon = nat_lt (a.time - z.time) epoch_gap

    begun : SettlesAll between → TakesCopy by_neither x between new list after → KeepsAll (stretch_begun a) new
    begun all = begun_all x between new list after fits room all.fates all.reach

    -- by the place of the number
    By : Distance → Type 0
    By p = MovesTo (step_to soon p) a at between →
        TakesCopy (cond (goes_to soon p) (came_by s (number_at t p)) by_neither) x between new list after →
        KeepsAll (current (cond (goes_to soon p) ((copy_as a (number_at t p) ∷ s) ∷ rest) (stretch_begun a ∷ s ∷ rest))) new

    lies : (b : Bool) → nat_lt (steps a.seq.0 (wire t)) kept_numbers ≡ b →
        cond b (Behind (steps a.seq.0 (wire t))) (Ahead (steps (wire t) a.seq.0)) ≡ lies_from s a.seq.0
    lies b e = ap (λ c. cond c (Behind (steps a.seq.0 (wire t))) (Ahead (steps (wire t) a.seq.0))) (sym e)

    one : IsTheOne kept_numbers t a.seq.0 (number_at t (lies_from s a.seq.0))
    one = number_is t a.seq.0 fits

    place : (steps a.seq.0 (wire t) < kept_numbers) ⊎ (kept_numbers ≤ steps a.seq.0 (wire t)) →
        (steps (wire t) a.seq.0 < kept_numbers) ⊎ (kept_numbers ≤ steps (wire t) a.seq.0) → (soon ≡ true) ⊎ (soon ≡ false) → By (lies_from s a.seq.0)
    place (inl less) any (inl near) =
        let behind = lies true (lt-ltb (steps a.seq.0 (wire t)) kept_numbers less) in
        subst By behind
        (rw near (λ passes taken.
        let at_wire = ap (λ p. wire (number_at t p)) behind ∙ one.carried in
        let k = steps a.seq.0 (wire t) in (
          behind_fates z before x (t -ℤ pos k) k at between new list after refl less at_wire room keeps (passes less) taken,
          behind_first z before x (t -ℤ pos k) k at between new list after refl less at_wire room keeps.reach times (passes less) taken,
        )))
    place (inl less) any (inr silent) =
        subst By (lies true (lt-ltb (steps a.seq.0 (wire t)) kept_numbers less)) (rw silent (λ all taken. begun all taken))
    place (inr more) (inl close) any =
        let ahead = lies false (le-ltb (steps a.seq.0 (wire t)) kept_numbers more) in
        subst By ahead
        (rw (lt-leb kept_numbers (steps (wire t) a.seq.0) close) (λ passes taken.
        let at_wire = ap (λ p. wire (number_at t p)) ahead ∙ one.carried in
        let k = steps (wire t) a.seq.0 in (
          ahead_fates z before x (t +ℤ pos k) k at between new list after refl close at_wire room keeps (passes close) taken,
          ahead_first z before x (t +ℤ pos k) k at between new list after refl close at_wire room times (passes close) taken,
        )))
    place (inr more) (inr far) (inl near) =
        subst By (lies false (le-ltb (steps a.seq.0 (wire t)) kept_numbers more))
        (rw (near, le-leb kept_numbers (steps (wire t) a.seq.0) far) (λ all taken. begun all taken))
    place (inr more) (inr far) (inr silent) =
        subst By (lies false (le-ltb (steps a.seq.0 (wire t)) kept_numbers more))
        (rw (silent, le-leb kept_numbers (steps (wire t) a.seq.0) far) (λ all taken. begun all taken))

-- what is kept of a source, with one arrival more
pub pending_follows : (spans : Spans) (xs : List Arrival) (x : Copied) (old new : Pending) (before after : List Listed) → x.arrival.seq.0 < 65536 →
    (xs ≡ [] → old.fates.items ≡ []) → KeepsAll (current (stretches xs)) old → ListsArrival spans (stretches xs) x old new before after →
    KeepsAll (current (stretches (x.arrival ∷ xs))) new
pending_follows spans xs x old new before after fits empty keeps lists = go (stretches xs) (no_empty xs) (first xs) keeps lists
  where
    first : (ys : List Arrival) → stretches xs ≡ [] → xs ≡ []
    first ys e = none xs e
      where
        none : (zs : List Arrival) → stretches zs ≡ [] → zs ≡ []
        none [] e = refl
        none (y ∷ zs) e = by (stretches zs) e
          where
            by : (ss : List (List Placed)) → with_arrival ss y ≡ [] → (y ∷ zs) ≡ []
            by [] e = absurd cc
            by (s ∷ ss) e =
                elim (cases_Bool (goes_on s y)) [
                  | inl on ↦ let is : gone_on s y ∷ ss ≡ [] = rw on at e in absurd cc
                  | inr off ↦ let is : stretch_begun y ∷ s ∷ ss ≡ [] = rw off at e in absurd cc
                ]

    go : (ss : List (List Placed)) → ((rest : List (List Placed)) → ss ≡ [] ∷ rest → ⊥) → (ss ≡ [] → xs ≡ []) → KeepsAll (current ss) old →
        ListsArrival spans ss x old new before after → KeepsAll (current (with_arrival ss x.arrival)) new
    go [] some is kept l =
        let none = empty (is refl) in
        let settled : (seq : ℕ) → fate_kept l.between seq ≡ Settled =
        λ seq. ap (λ p. fate_kept p seq) l.moves ∙ (l.same seq).fate ∙ ap (λ i. slice_index_or i (place_in seq) Settled) none in
        begun_all x l.between new l.decided after fits (subst KeepsPlaces (sym l.moves) l.room) settled
        (ap (λ p. p.reach) l.moves ∙ l.same_reach ∙ kept.0) l.taken
    go ([] ∷ rest) some is kept l = absurd (some rest refl)
    go ((z ∷ old_copies) ∷ rest) some is kept l =
        goes_fates z old_copies rest x l.at l.between new l.decided after fits l.still
        (tells_same z old_copies old l.at l.same l.same_reach kept.0) (times_same (z ∷ old_copies) old l.at l.same kept.1) l.moves l.taken
