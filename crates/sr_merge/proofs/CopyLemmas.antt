-- Copies that count, and packets that came by both sides.
use Rattle.std.proofs.Common.{◌≡◌, ℕ, ◌+◌, ◌-◌, ◌<◌, Bool, true, false, zero, suc, List, [], ◌∷◌, ◌++◌, Option, None, Some, refl, sym, ap}
use Rattle.std.proofs.Common.{◌∙◌, subst, arith, inl, inr}
use Rattle.std.specs.Prelude.{◌||◌, nat_lt, slice_get}
use Rattle.std.proofs.lemmas.Bool.Decides.{nat_tests}
use Rattle.std.proofs.lemmas.List.{append-nil, append_assoc}
use Rattle.std.proofs.lemmas.Option.{same_Some}
use Rattle.sr_audit.specs.declared.side.Side.{Side}
use Rattle.sr_audit.specs.declared.side.Side.TheVariants.{A, B}
use Rattle.sr_audit.specs.Lanes.{other_side}
use Rattle.sr_merge.specs.declared.came.Came.{Came}
use Rattle.sr_merge.specs.declared.came.FrameId.{FrameId}
use Rattle.sr_merge.specs.KeyLemmas.{at_same}
use Rattle.sr_merge.specs.Limits.{copy_time}
use Rattle.sr_merge.specs.Merging.{Read, Pending, Merging, frame_at, is_copy_at, is_copy_of, farther, newest_copy, met, meet, meet_at}
use Rattle.sr_merge.specs.Merging.{copy_noted, unmet, is_new, waiting_behind}
use Rattle.sr_merge.specs.Verdicts.{with_taken, with_all, kept_of_all}
use Rattle.sr_merge.specs.Copies.{IsCopyInTime, HasCopy, AllMet, WhatIsMetHasACopy, IsMetAt, CopiesInTimeCount}

-- a copy among more packets
copy_before : (p : Read) (qs more : List Read) → HasCopy p qs → HasCopy p (qs ++ more)
copy_before p [] more h = absurd h
copy_before p (q ∷ qs) more (inl h) = inl h
copy_before p (q ∷ qs) more (inr h) = inr (copy_before p qs more h)

copy_last : (p q : Read) (qs : List Read) → IsCopyInTime p q → HasCopy p (qs ++ q ∷ [])
copy_last p q [] h = inl h
copy_last p q (r ∷ rs) h = inr (copy_last p q rs h)

met_before : (ps more : List Read) (ws : List Pending) → AllMet ps ws → AllMet (ps ++ more) ws
met_before ps more [] h = tt
met_before ps more (w ∷ ws) h = (λ e. copy_before w.packet ps more (h.0 e), met_before ps more ws h.1)

met_unmet : (ps : List Read) (ws : List Pending) (p : Read) → AllMet ps ws → AllMet ps (ws ++ unmet p ∷ [])
met_unmet ps [] p h = (λ e. cc, tt)
met_unmet ps (w ∷ ws) p h = (h.0, met_unmet ps ws p h.1)

-- a packet at which a copy is noted is of its frame, and came by the other side
other_other : (s t : Side) → s ≡ other_side t → t ≡ other_side s
other_other A B e = refl
other_other B A e = refl
other_other A A e = cc
other_other B B e = cc

copied : (f : FrameId) (side own : Side) (o : Option FrameId) →
    is_copy_at (frame_at own o) (record { frame = f; side = other_side side }) ≡ true → (o ≡ Some f) × (side ≡ other_side own)
copied f side own None e = cc
copied f side own (Some g) e =
    let same = at_same (record { frame = g; side = own }) (record { frame = f; side = other_side side }) e in
    (ap (λ k. Some k.frame) same, other_other own side (ap (λ k. k.side) same))

in_time : (now own : ℕ) → nat_lt (now - own) copy_time ≡ true → now - own < copy_time
in_time now own h = grind (arith, nat_tests)

met_one : (done : List Read) (q : Read) (f : FrameId) (w : Pending) → q.came.frame ≡ Some f →
    is_copy_of (record { frame = f; side = other_side q.came.side }) w ≡ true → (w.is_met ≡ true → HasCopy w.packet done) →
    (met q.came.time w).is_met ≡ true → HasCopy w.packet (done ++ q ∷ [])
met_one done q f w is copy had = by w.is_met refl
  where
    by : (b : Bool) → w.is_met ≡ b → (b || nat_lt (q.came.time - w.packet.came.time) copy_time) ≡ true → HasCopy w.packet (done ++ q ∷ [])
    by true e h = copy_before w.packet done (q ∷ []) (had e)
    by false e h =
        let c = copied f q.came.side w.packet.came.side w.packet.came.frame copy in
        copy_last w.packet q done (is ∙ sym c.0, c.1, in_time q.came.time w.packet.came.time h)

far : (b : Bool) (n : ℕ) → Some (n + 1) ≡ farther b (Some n)
far true n = refl
far false n = refl

met_meet : (done : List Read) (q : Read) (f : FrameId) → q.came.frame ≡ Some f → (ws : List Pending) (o : Option ℕ) →
    newest_copy (record { frame = f; side = other_side q.came.side }) ws ≡ o → AllMet done ws → AllMet (done ++ q ∷ []) (meet_at q.came.time o ws)
met_meet done q f is ws None e h = met_before done (q ∷ []) ws h
met_meet done q f is [] (Some at) e h = tt
met_meet done q f is (w ∷ ws) (Some at) e h =
    by (newest_copy (record { frame = f; side = other_side q.came.side }) ws) refl (is_copy_of (record { frame = f; side = other_side q.came.side }) w) refl
    (λ n is_at. met_meet done q f is ws (Some n) is_at h.1) e
  where
    by : (o : Option ℕ) → newest_copy (record { frame = f; side = other_side q.came.side }) ws ≡ o → (b : Bool) →
        is_copy_of (record { frame = f; side = other_side q.came.side }) w ≡ b →
        ((n : ℕ) → newest_copy (record { frame = f; side = other_side q.came.side }) ws ≡ Some n → AllMet (done ++ q ∷ []) (meet q.came.time n ws)) →
        farther b o ≡ Some at → AllMet (done ++ q ∷ []) (meet q.came.time at (w ∷ ws))
    by None none true copy ih e =
        let zero_is : 0 ≡ at = same_Some 0 at e in
        subst (λ n. AllMet (done ++ q ∷ []) (meet q.came.time n (w ∷ ws))) zero_is
        (met_one done q f w is copy h.0, met_before done (q ∷ []) ws h.1)
    by None none false copy ih e = cc
    by (Some n) some b copy ih e =
        let next : suc n ≡ at = omega (arith, same_Some (n + 1) at (far b n ∙ e)) in
        subst (λ k. AllMet (done ++ q ∷ []) (meet q.came.time k (w ∷ ws))) next
        (λ m. copy_before w.packet done (q ∷ []) (h.0 m), ih n some)

met_noted : (done : List Read) (q : Read) (ws : List Pending) (o : Option FrameId) → q.came.frame ≡ o → AllMet done ws →
    AllMet (done ++ q ∷ []) (copy_noted q.came o ws)
met_noted done q ws None e h = met_before done (q ∷ []) ws h
met_noted done q ws (Some f) e h = met_meet done q f e ws (newest_copy (record { frame = f; side = other_side q.came.side }) ws) refl h

met_taken : (done : List Read) (q : Read) (ws : List Pending) (b : Bool) → AllMet done ws → AllMet (done ++ q ∷ []) (waiting_behind b q ws)
met_taken done q ws true h = met_unmet (done ++ q ∷ []) ws q (met_before done (q ∷ []) ws h)
met_taken done q ws false h = met_noted done q ws q.came.frame refl h

met_all : (m : Merging) (done ps : List Read) → AllMet done m.waiting → AllMet (done ++ ps) (with_all m ps).waiting
met_all m done [] h = subst (λ l. AllMet l m.waiting) (sym (append-nil done)) h
met_all m done (p ∷ ps) h =
    subst (λ l. AllMet l (with_all (with_taken m p) ps).waiting) (append_assoc done (p ∷ []) ps)
    (met_all (with_taken m p) (done ++ p ∷ []) ps (met_taken done p m.waiting (is_new m.sources p.came.time p.came.frame) h))

pub what_is_met_has_a_copy : WhatIsMetHasACopy
what_is_met_has_a_copy ps = met_all (record { sources = []; waiting = []; untold = 0 }) [] ps tt

-- what is met stays so, at its place
met_push : (ws : List Pending) (x : Pending) (at : ℕ) (p : Read) → IsMetAt ws at p → IsMetAt (ws ++ x ∷ []) at p
met_push ws x at p h = record { now = h.now; there = found ws at h.there; packet = h.packet; is_met = h.is_met }
  where
    found : (vs : List Pending) (n : ℕ) → slice_get vs n ≡ Some h.now → slice_get (vs ++ x ∷ []) n ≡ Some h.now
    found [] n e = cc
    found (v ∷ vs) zero e = e
    found (v ∷ vs) (suc n) e = found vs n e

still_met : (time : ℕ) (w : Pending) → w.is_met ≡ true → (met time w).is_met ≡ true
still_met time w e = ap (λ b. b || nat_lt (time - w.packet.came.time) copy_time) e

met_later : (time n at : ℕ) (ws : List Pending) (p : Read) → IsMetAt ws at p → IsMetAt (meet time n ws) at p
met_later time n at [] p h = h
met_later time zero zero (w ∷ ws) p h =
    let own : w ≡ h.now = same_Some w h.now h.there in
    record { now = met time w; there = refl; packet = ap (λ v. v.packet) own ∙ h.packet; is_met = still_met time w (ap (λ v. v.is_met) own ∙ h.is_met) }
met_later time zero (suc at) (w ∷ ws) p h = record { now = h.now; there = h.there; packet = h.packet; is_met = h.is_met }
met_later time (suc n) zero (w ∷ ws) p h = record { now = h.now; there = h.there; packet = h.packet; is_met = h.is_met }
met_later time (suc n) (suc at) (w ∷ ws) p h =
    let rest = met_later time n at ws p (record { now = h.now; there = h.there; packet = h.packet; is_met = h.is_met }) in
    record { now = rest.now; there = rest.there; packet = rest.packet; is_met = rest.is_met }

later_at : (time : ℕ) (o : Option ℕ) (at : ℕ) (ws : List Pending) (p : Read) → IsMetAt ws at p → IsMetAt (meet_at time o ws) at p
later_at time None at ws p h = h
later_at time (Some n) at ws p h = met_later time n at ws p h

later_noted : (came : Came) (o : Option FrameId) (at : ℕ) (ws : List Pending) (p : Read) → IsMetAt ws at p → IsMetAt (copy_noted came o ws) at p
later_noted came None at ws p h = h
later_noted came (Some f) at ws p h = later_at came.time (newest_copy (record { frame = f; side = other_side came.side }) ws) at ws p h

later_taken : (b : Bool) (q : Read) (at : ℕ) (ws : List Pending) (p : Read) → IsMetAt ws at p → IsMetAt (waiting_behind b q ws) at p
later_taken true q at ws p h = met_push ws (unmet q) at p h
later_taken false q at ws p h = later_noted q.came q.came.frame at ws p h

met_end : (m : Merging) (ps : List Read) (at : ℕ) (p : Read) → IsMetAt m.waiting at p → IsMetAt (with_all m ps).waiting at p
met_end m [] at p h = h
met_end m (q ∷ qs) at p h =
    met_end (with_taken m q) qs at p (later_taken (is_new m.sources q.came.time q.came.frame) q at m.waiting p h)

-- the packet at which a copy is noted in time
early_is : (now own : ℕ) → now - own < copy_time → nat_lt (now - own) copy_time ≡ true
early_is now own h = grind (arith, nat_tests)

or_true : (b c : Bool) → c ≡ true → (b || c) ≡ true
or_true true c e = refl
or_true false c e = e

meets : (time at : ℕ) (ws : List Pending) (w : Pending) → slice_get ws at ≡ Some w → time - w.packet.came.time < copy_time →
    IsMetAt (meet time at ws) at w.packet
meets time at [] w e h = cc
meets time zero (v ∷ vs) w e h =
    let own : v ≡ w = same_Some v w e in
    record {
      now = met time v;
      there = refl;
      packet = ap (λ k. k.packet) own;
      is_met = or_true v.is_met (nat_lt (time - v.packet.came.time) copy_time)
          (ap (λ k. nat_lt (time - k.packet.came.time) copy_time) own ∙ early_is time w.packet.came.time h);
    }
meets time (suc at) (v ∷ vs) w e h =
    let rest = meets time at vs w e h in
    record { now = rest.now; there = rest.there; packet = rest.packet; is_met = rest.is_met }

all_behind : (m : Merging) (ps qs : List Read) → with_all m (ps ++ qs) ≡ with_all (with_all m ps) qs
all_behind m [] qs = refl
all_behind m (p ∷ ps) qs = all_behind (with_taken m p) ps qs

pub copies_in_time_count : CopiesInTimeCount
copies_in_time_count before behind q f at w frame old place there early =
    let m = kept_of_all before in
    let noted : IsMetAt (copy_noted q.came (Some f) m.waiting) at w.packet =
    subst (λ o. IsMetAt (meet_at q.came.time o m.waiting) at w.packet) (sym place) (meets q.came.time at m.waiting w there early) in
    let taken : IsMetAt (with_taken m q).waiting at w.packet =
    subst (λ b. IsMetAt (waiting_behind b q m.waiting) at w.packet) (sym old)
    (subst (λ o. IsMetAt (copy_noted q.came o m.waiting) at w.packet) (sym frame) noted) in
    subst (λ k. IsMetAt k.waiting at w.packet) (sym (all_behind (record { sources = []; waiting = []; untold = 0 }) before (q ∷ behind)))
    (met_end (with_taken m q) behind at w.packet taken)
