-- A pair has one frame.
use Rattle.std.proofs.Common.{◌≡◌, ℕ, ◌+◌, ◌<◌, ◌≤◌, inl, inr, true, false, List, [], ◌∷◌, arith, refl, sym, ap, ◌∙◌, subst}
use Rattle.std.proofs.lemmas.Bool.{cases_Bool, and_parts, and_from, eqb-true, eq-eqb}
use Rattle.sr_laws_plant.specs.Limits.{first_number}
use Rattle.sr_laws_plant.specs.Lists.{Each}
use Rattle.sr_frame.specs.declared.ports.Port.{Port}
use Rattle.sr_frame.specs.declared.ports.Port.TheVariants.{H, A, B, C}
use Rattle.sr_laws_plant.specs.Ports.{is_at}
use Rattle.sr_laws_plant.specs.Frames.{Frame, same_pair}
use Rattle.sr_laws_plant.specs.Handlings.{Handling, is_sending, is_sending_of, sent_count, IsSent, IsSending, IsArrival}
use Rattle.sr_laws_plant.specs.Handlings.{IsSendingOrArrival, AreConsistent}
use Rattle.sr_laws_plant.specs.OneNode.{CameIn}
use Rattle.sr_laws_plant.specs.ListLemmas.{each_map}

pub port_same : (p q : Port) → is_at p q ≡ true → p ≡ q
port_same H H e = refl
port_same A A e = refl
port_same B B e = refl
port_same C C e = refl
port_same p q e = cc

pub port_self : (p : Port) → is_at p p ≡ true
port_self H = refl
port_self A = refl
port_self B = refl
port_self C = refl

pub same_self : (f : Frame) → same_pair f f ≡ true
same_self f = and_from _ _ (eq-eqb f.src f.src refl) (eq-eqb f.number f.number refl)

pub same_parts : (f g : Frame) → same_pair f g ≡ true → (f.src ≡ g.src) × (f.number ≡ g.number)
same_parts f g e = let both = and_parts _ _ e in (eqb-true f.src g.src both.0, eqb-true f.number g.number both.1)

pub numbered_more : (s : ℕ) (d : Handling) (ds : List Handling) → sent_count s ds ≤ sent_count s (d ∷ ds)
numbered_more s d ds =
    elim (cases_Bool (is_sending_of s d)) [
      | inl is ↦ rw is (omega arith)
      | inr not ↦ rw not (omega arith)
    ]

-- of what came before and is a sending
pub as_sending : (before : List Handling) (d : Handling) → IsSendingOrArrival (is_sending d) before d → is_sending d ≡ true →
    IsSending before d
as_sending before d e is = subst (λ b. IsSendingOrArrival b before d) is e

pub as_arrival : (before : List Handling) (d : Handling) → IsSendingOrArrival (is_sending d) before d → is_sending d ≡ false →
    IsArrival before d
as_arrival before d e is = subst (λ b. IsSendingOrArrival b before d) is e

-- numbers that were given lie below the next
pub sent_below : (ds : List Handling) (f : Frame) → AreConsistent ds → IsSent f ds → f.number < first_number + sent_count f.src ds
sent_below [] f done sent = absurd sent
sent_below (d ∷ before) f done (inl is) =
    let s = as_sending before d done.2 is.0 in
    let src : f.src ≡ d.node = sym (ap (λ g. g.src) is.1) ∙ s.own in
    let number : f.number ≡ first_number + sent_count d.node before = sym (ap (λ g. g.number) is.1) ∙ s.number in
    let counts : is_sending_of f.src d ≡ true = and_from _ _ is.0 (eq-eqb f.src d.node src) in
    let next : sent_count f.src (d ∷ before) ≡ sent_count f.src before + 1 = rw counts refl in
    let there : sent_count f.src before ≡ sent_count d.node before = ap (λ k. sent_count k before) src in
    omega arith
sent_below (d ∷ before) f done (inr o) =
    let rest = sent_below before f done.0 o in
    let more = numbered_more f.src d before in
    omega (arith, rest, more)

pub one_frame : (ds : List Handling) (f g : Frame) → AreConsistent ds → IsSent f ds → IsSent g ds → same_pair f g ≡ true → f ≡ g
one_frame [] f g done a b e = absurd a
one_frame (d ∷ before) f g done (inl x) (inl y) e = sym x.1 ∙ y.1
one_frame (d ∷ before) f g done (inl x) (inr o) e =
    let s = as_sending before d done.2 x.0 in
    let p = same_parts f g e in
    let low = sent_below before g done.0 o in
    let src : g.src ≡ d.node = sym p.0 ∙ sym (ap (λ h. h.src) x.1) ∙ s.own in
    let number : g.number ≡ first_number + sent_count d.node before = sym p.1 ∙ sym (ap (λ h. h.number) x.1) ∙ s.number in
    let there : sent_count g.src before ≡ sent_count d.node before = ap (λ k. sent_count k before) src in
    absurd (omega (arith, low))
one_frame (d ∷ before) f g done (inr o) (inl y) e =
    let s = as_sending before d done.2 y.0 in
    let p = same_parts f g e in
    let low = sent_below before f done.0 o in
    let src : f.src ≡ d.node = p.0 ∙ sym (ap (λ h. h.src) y.1) ∙ s.own in
    let number : f.number ≡ first_number + sent_count d.node before = p.1 ∙ sym (ap (λ h. h.number) y.1) ∙ s.number in
    let there : sent_count f.src before ≡ sent_count d.node before = ap (λ k. sent_count k before) src in
    absurd (omega (arith, low))
one_frame (d ∷ before) f g done (inr a) (inr b) e = one_frame before f g done.0 a b e

-- all that was done was done with frames that were sent
pub all_sent : (ds : List Handling) → AreConsistent ds → Each (λ d. IsSent d.frame ds) ds
all_sent [] done = tt
all_sent (d ∷ before) done = (
  first,
  each_map
      (λ e. IsSent e.frame before) (λ e. IsSent e.frame (d ∷ before)) (λ e o. inr o) before (all_sent before done.0),
)
  where
    first : IsSent d.frame (d ∷ before)
    first =
        elim (cases_Bool (is_sending d)) [
          | inl is ↦ inl (is, refl)
          | inr not ↦ inr (as_arrival before d done.2 not).sent
        ]

-- a frame that was sent comes from its source's host
pub sent_in : (ds : List Handling) (f : Frame) → AreConsistent ds → IsSent f ds → CameIn f.src H f ds
sent_in [] f done sent = absurd sent
sent_in (d ∷ before) f done (inl is) =
    let s = as_sending before d done.2 is.0 in
    inl (sym s.own ∙ ap (λ g. g.src) is.1, sym (port_same H d.inlet is.0), is.1)
sent_in (d ∷ before) f done (inr o) = inr (sent_in before f done.0 o)
