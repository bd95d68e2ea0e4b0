-- The places of the newest copies, as packets come and go.
use Rattle.std.proofs.Common.{◌≡◌, ℕ, ◌+◌, ◌-◌, ◌%◌, ◌^◌, ◌<◌, Bool, true, false, cond, zero, suc, List, [], ◌∷◌, ◌++◌, length, Option, None, Some, refl, sym, ap, subst, ◌∙◌, arith, eqb-true, eq-eqb, nat_eq}
use Rattle.std.specs.Prelude.{map, set, slice_index_or, nat_lt, ◌||◌, if◌then◌else◌}
use Rattle.std.specs.HashMap.{HashMap, get}
use Rattle.sr_merge.specs.declared.came.FrameAt.{FrameAt}
use Rattle.sr_merge.specs.declared.waiting.Waiting.{Waiting}
use Rattle.sr_merge.specs.Limits.{copy_time}
use Rattle.sr_merge.specs.KeyLemmas.{at_same, at_refl}
use Rattle.sr_merge.specs.Merging.{Pending, pending_of, frame_at, at_eq, is_copy_at, is_copy_of, unmet_at, farther, newest_copy, meet, meet_at, noted_place, is_met_at, is_settled, IsNoted, HasPlaces, PutsPlace, unless_place, ForgetsPlace, ForgetsFrame}

-- a packet more that is put
farther_none : (b : Bool) → farther b None ≡ cond b (Some 0) None
farther_none true = refl
farther_none false = refl

newest-push : (key : FrameAt) (ws : List Pending) (w : Pending) →
    newest_copy key (ws ++ w ∷ []) ≡ cond (is_copy_of key w) (Some (length ws)) (newest_copy key ws)
newest-push key [] w = farther_none (is_copy_of key w)
newest-push key (v ∷ vs) w =
    ap (farther (is_copy_of key v)) (newest-push key vs w) ∙ by (is_copy_of key w) (is_copy_of key v) (newest_copy key vs)
  where
    by : (b c : Bool) (o : Option ℕ) → farther c (cond b (Some (length vs)) o) ≡ cond b (Some (length (v ∷ vs))) (farther c o)
    by true c o = ap Some (omega arith)
    by false c o = refl

some_is : (m n : ℕ) → Some m ≡ Some n → m ≡ n
some_is m n e = cc

-- the newest copy is one of those that wait
pub newest-within : (key : FrameAt) (ws : List Pending) (at : ℕ) → newest_copy key ws ≡ Some at → at < length ws
newest-within key [] at h = cc
newest-within key (w ∷ ws) at h = by (newest_copy key ws) refl (is_copy_of key w) (λ n e. newest-within key ws n e) h
  where
    by : (o : Option ℕ) → newest_copy key ws ≡ o → (b : Bool) → ((n : ℕ) → newest_copy key ws ≡ Some n → n < length ws) →
        farther b o ≡ Some at → at < length (w ∷ ws)
    by None is true ih e = omega (arith, some_is 0 at e)
    by None is false ih e = cc
    by (Some n) is b ih e = omega (arith, ih n is, some_is (n + 1) at e)

-- where it stands, by what is noted
back_at : (gone at : ℕ) → gone < 2 ^ 64 → at < 2 ^ 64 → ((gone + at) % 2 ^ 64 + (2 ^ 64 - gone)) % 2 ^ 64 ≡ at
back_at gone at g a = omega arith

pub found_at : (gone place : ℕ) (o : Option ℕ) → gone < 2 ^ 64 → ((at : ℕ) → o ≡ Some at → at < 2 ^ 64) → noted_place gone o ≡ Some place →
    o ≡ Some ((place + (2 ^ 64 - gone)) % 2 ^ 64)
found_at gone place None g within is = cc
found_at gone place (Some at) g within is =
    ap Some (sym (back_at gone at g (within at refl)) ∙ ap (λ p. (p + (2 ^ 64 - gone)) % 2 ^ 64) (some_is ((gone + at) % 2 ^ 64) place is))

-- the packets that stay are a place nearer to the first one
nearer_place : (gone at : ℕ) → (gone + (at + 1)) % 2 ^ 64 ≡ ((gone + 1) % 2 ^ 64 + at) % 2 ^ 64
nearer_place gone at = omega arith

same_place : (gone : ℕ) → gone < 2 ^ 64 → nat_eq ((gone + 0) % 2 ^ 64) gone ≡ true
same_place gone g = eq-eqb ((gone + 0) % 2 ^ 64) gone (omega arith)

other_place : (gone at : ℕ) → gone < 2 ^ 64 → at + 1 < 2 ^ 64 → nat_eq ((gone + (at + 1)) % 2 ^ 64) gone ≡ false
other_place gone at g a = by (nat_eq ((gone + (at + 1)) % 2 ^ 64) gone) refl
  where
    by : (b : Bool) → nat_eq ((gone + (at + 1)) % 2 ^ 64) gone ≡ b → b ≡ false
    by true e = let h = eqb-true ((gone + (at + 1)) % 2 ^ 64) gone e in absurd (omega (arith, h))
    by false e = refl

passed : (gone : ℕ) (o : Option ℕ) → noted_place gone (farther false o) ≡ noted_place ((gone + 1) % 2 ^ 64) o
passed gone None = refl
passed gone (Some at) = ap Some (nearer_place gone at)

taken_out : (gone : ℕ) (o : Option ℕ) → gone < 2 ^ 64 → ((at : ℕ) → o ≡ Some at → at + 1 < 2 ^ 64) →
    unless_place gone (noted_place gone (farther true o)) ≡ noted_place ((gone + 1) % 2 ^ 64) o
taken_out gone None g within = ap (λ b. if b then None else Some ((gone + 0) % 2 ^ 64)) (same_place gone g)
taken_out gone (Some at) g within =
    ap (λ b. if b then None else Some ((gone + (at + 1)) % 2 ^ 64)) (other_place gone at g (within at refl))
    ∙ ap Some (nearer_place gone at)

-- a copy that is noted moves no place
newest-meet : (key : FrameAt) (time at : ℕ) (ws : List Pending) → newest_copy key (meet time at ws) ≡ newest_copy key ws
newest-meet key time at [] = refl
newest-meet key time zero (w ∷ ws) = refl
newest-meet key time (suc at) (w ∷ ws) = ap (farther (is_copy_of key w)) (newest-meet key time at ws)

-- two keys whose newest copies stand at one place are one
some_one : (one other : FrameAt) (own : Option FrameAt) → is_copy_at own one ≡ true → is_copy_at own other ≡ true → one ≡ other
some_one one other None g h = cc
some_one one other (Some own) g h = sym (at_same own one g) ∙ at_same own other h

farther_some : (b : Bool) (n : ℕ) → farther b (Some n) ≡ Some (n + 1)
farther_some true n = refl
farther_some false n = refl

newest-one : (one other : FrameAt) (ws : List Pending) (n : ℕ) → newest_copy one ws ≡ Some n → newest_copy other ws ≡ Some n → one ≡ other
newest-one one other [] n g h = cc
newest-one one other (w ∷ ws) n g h =
    by (λ k f s. newest-one one other ws k f s) (newest_copy one ws) refl (newest_copy other ws) refl (is_copy_of one w) refl
    (is_copy_of other w) refl g h
  where
    by : ((k : ℕ) → newest_copy one ws ≡ Some k → newest_copy other ws ≡ Some k → one ≡ other) → (o : Option ℕ) → newest_copy one ws ≡ o →
        (p : Option ℕ) → newest_copy other ws ≡ p → (b : Bool) → is_copy_of one w ≡ b → (c : Bool) → is_copy_of other w ≡ c →
        farther b o ≡ Some n → farther c p ≡ Some n → one ≡ other
    by ih None o None p true b true c g h = some_one one other (frame_at w.packet.came.side w.packet.came.frame) b c
    by ih None o None p true b false c g h = cc
    by ih None o None p false b c cs g h = cc
    by ih None o (Some m) p true b c cs g h =
        let zero_is = some_is 0 n g in
        let next = some_is (m + 1) n (sym (farther_some c m) ∙ h) in absurd (omega (arith, zero_is, next))
    by ih None o (Some m) p false b c cs g h = cc
    by ih (Some k) o None p b bs true c g h =
        let zero_is = some_is 0 n h in
        let next = some_is (k + 1) n (sym (farther_some b k) ∙ g) in absurd (omega (arith, zero_is, next))
    by ih (Some k) o None p b bs false c g h = cc
    by ih (Some k) o (Some m) p b bs c cs g h =
        let first = some_is (k + 1) n (sym (farther_some b k) ∙ g) in
        let second = some_is (m + 1) n (sym (farther_some c m) ∙ h) in
        let same : m ≡ k = omega (arith, first, second) in
        ih k o (p ∙ ap Some same)

-- whether a place is settled: where a packet is put of which no copy is known, and where the first one is taken out
met-push : (ws : List Pending) (w : Pending) (at : ℕ) → w.is_met ≡ false → is_met_at (ws ++ w ∷ []) at ≡ is_met_at ws at
met-push [] w zero h = h
met-push [] w (suc at) h = refl
met-push (v ∷ vs) w zero h = refl
met-push (v ∷ vs) w (suc at) h = met-push vs w at h

met-last : (ws : List Pending) (w : Pending) → is_met_at (ws ++ w ∷ []) (length ws) ≡ w.is_met
met-last [] w = refl
met-last (v ∷ vs) w = let next : length (v ∷ vs) ≡ suc (length vs) = omega arith in ap (is_met_at (v ∷ (vs ++ w ∷ []))) next ∙ met-last vs w

settled-push : (ws : List Pending) (w : Pending) (o : Option ℕ) → w.is_met ≡ false → is_settled (ws ++ w ∷ []) o ≡ is_settled ws o
settled-push ws w None h = refl
settled-push ws w (Some at) h = met-push ws w at h

settled-pop : (w : Pending) (ws : List Pending) (at : ℕ) → is_met_at (w ∷ ws) (at + 1) ≡ is_met_at ws at
settled-pop w ws at = let next : at + 1 ≡ suc at = omega arith in ap (is_met_at (w ∷ ws)) next

settled-pass : (w : Pending) (ws : List Pending) (o : Option ℕ) → is_settled (w ∷ ws) (farther false o) ≡ is_settled ws o
settled-pass w ws None = refl
settled-pass w ws (Some at) = settled-pop w ws at

-- a copy that is noted: what is met stays so, and at other places nothing changes
met-meet : (time n : ℕ) (ws : List Pending) (at : ℕ) → is_met_at ws at ≡ true → is_met_at (meet time n ws) at ≡ true
met-meet time n [] at h = h
met-meet time zero (w ∷ ws) zero h = ap (λ b. b || nat_lt (time - w.packet.came.time) copy_time) h
met-meet time zero (w ∷ ws) (suc at) h = h
met-meet time (suc n) (w ∷ ws) zero h = h
met-meet time (suc n) (w ∷ ws) (suc at) h = met-meet time n ws at h

settled-meet : (time n : ℕ) (ws : List Pending) (o : Option ℕ) → is_settled ws o ≡ true → is_settled (meet time n ws) o ≡ true
settled-meet time n ws None h = refl
settled-meet time n ws (Some at) h = met-meet time n ws at h

met-other : (time n : ℕ) (ws : List Pending) (at : ℕ) → (at ≡ n → ⊥) → is_met_at (meet time n ws) at ≡ is_met_at ws at
met-other time n [] at other = refl
met-other time zero (w ∷ ws) zero other = absurd (other refl)
met-other time zero (w ∷ ws) (suc at) other = refl
met-other time (suc n) (w ∷ ws) zero other = refl
met-other time (suc n) (w ∷ ws) (suc at) other = met-other time n ws at (λ e. other (ap suc e))

-- a copy of what is settled changes nothing, nor does one after which it is not
known-stays : (b late : Bool) → b ≡ true → (b || late) ≡ b
known-stays true late h = refl
known-stays false late h = cc

late-stays : (b late : Bool) → (b || late) ≡ false → (b || late) ≡ b
late-stays true late h = cc
late-stays false late h = h

meet-met : (time at : ℕ) (ws : List Pending) → is_met_at ws at ≡ true → meet time at ws ≡ ws
meet-met time at [] h = refl
meet-met time zero (w ∷ ws) h =
    ap (λ b. (record w { is_met = b }) ∷ ws) (known-stays w.is_met (nat_lt (time - w.packet.came.time) copy_time) h)
meet-met time (suc at) (w ∷ ws) h = ap (λ l. w ∷ l) (meet-met time at ws h)

pub meet-settled : (time : ℕ) (o : Option ℕ) (ws : List Pending) → is_settled ws o ≡ true → meet_at time o ws ≡ ws
meet-settled time None ws h = refl
meet-settled time (Some at) ws h = meet-met time at ws h

pub meet-late : (time at : ℕ) (ws : List Pending) → is_met_at (meet time at ws) at ≡ false → meet time at ws ≡ ws
meet-late time at [] h = refl
meet-late time zero (w ∷ ws) h =
    ap (λ b. (record w { is_met = b }) ∷ ws) (late-stays w.is_met (nat_lt (time - w.packet.came.time) copy_time) h)
meet-late time (suc at) (w ∷ ws) h = ap (λ l. w ∷ l) (meet-late time at ws h)

unmet_some : (b : Bool) (o : Option FrameAt) (own : FrameAt) → unmet_at b o ≡ Some own → o ≡ Some own
unmet_some true o own h = cc
unmet_some false o own h = h

-- what is noted of a frame and a side, as packets come and go
noted-push : (gone : ℕ) (ws : List Pending) (w : Pending) (o known : Option ℕ) → w.is_met ≡ false → IsNoted gone ws o known →
    IsNoted gone (ws ++ w ∷ []) o known
noted-push gone ws w o None m h = settled-push ws w o m ∙ h
noted-push gone ws w o (Some place) m h = (h.0, settled-push ws w o m ∙ h.1)

noted-pass : (gone : ℕ) (w : Pending) (ws : List Pending) (o known : Option ℕ) →
    IsNoted gone (w ∷ ws) (farther false o) known → IsNoted ((gone + 1) % 2 ^ 64) ws o known
noted-pass gone w ws o None h = sym (settled-pass w ws o) ∙ h
noted-pass gone w ws o (Some place) h = (sym (passed gone o) ∙ h.0, sym (settled-pass w ws o) ∙ h.1)

not_both : (b : Bool) → b ≡ true → b ≡ false → ⊥
not_both true g h = cc
not_both false g h = cc

noted-met : (gone : ℕ) (w : Pending) (ws : List Pending) (b : Bool) (o known : Option ℕ) → w.is_met ≡ true →
    IsNoted gone (w ∷ ws) (farther b o) known → IsNoted ((gone + 1) % 2 ^ 64) ws o known
noted-met gone w ws false o known m h = noted-pass gone w ws o known h
noted-met gone w ws true None None m h = refl
noted-met gone w ws true None (Some place) m h = absurd (not_both w.is_met m h.1)
noted-met gone w ws true (Some at) None m h = sym (settled-pop w ws at) ∙ h
noted-met gone w ws true (Some at) (Some place) m h = (ap Some (sym (nearer_place gone at)) ∙ h.0, sym (settled-pop w ws at) ∙ h.1)

noted-pop : (gone : ℕ) (w : Pending) (ws : List Pending) (o known : Option ℕ) → gone < 2 ^ 64 → ((at : ℕ) → o ≡ Some at → at + 1 < 2 ^ 64) →
    IsNoted gone (w ∷ ws) (farther true o) known → IsNoted ((gone + 1) % 2 ^ 64) ws o (unless_place gone known)
noted-pop gone w ws None None g within h = refl
noted-pop gone w ws (Some at) None g within h = sym (settled-pop w ws at) ∙ h
noted-pop gone w ws None (Some place) g within h =
    subst (IsNoted ((gone + 1) % 2 ^ 64) ws None) (sym (taken_out gone None g within) ∙ ap (unless_place gone) h.0) refl
noted-pop gone w ws (Some at) (Some place) g within h =
    subst (IsNoted ((gone + 1) % 2 ^ 64) ws (Some at)) (sym (taken_out gone (Some at) g within) ∙ ap (unless_place gone) h.0)
    (refl, sym (settled-pop w ws at) ∙ h.1)

-- a copy is noted of a packet that is none of this frame and side
noted-other : (gone time n : ℕ) (ws : List Pending) (o known : Option ℕ) → ((at : ℕ) → o ≡ Some at → at ≡ n → ⊥) → IsNoted gone ws o known →
    IsNoted gone (meet time n ws) o known
noted-other gone time n ws o None other h = settled-meet time n ws o h
noted-other gone time n ws None (Some place) other h = h
noted-other gone time n ws (Some at) (Some place) other h = (h.0, met-other time n ws at (other at refl) ∙ h.1)

module _ {S : Type 0} where
  -- the first packet is taken out: one without a number, one of which a copy is known, or one whose place is forgotten
  places-pop_none : (gone : ℕ) (map : HashMap FrameAt ℕ S) (w : Pending) (ws : List Pending) →
      frame_at w.packet.came.side w.packet.came.frame ≡ None → HasPlaces gone map (w ∷ ws) → HasPlaces ((gone + 1) % 2 ^ 64) map ws
  places-pop_none gone map w ws none has key =
      noted-pass gone w ws (newest_copy key ws) (get at_eq map key)
      (subst (λ o. IsNoted gone (w ∷ ws) (farther (is_copy_at o key) (newest_copy key ws)) (get at_eq map key)) none (has key))

  places-pop_met : (gone : ℕ) (map : HashMap FrameAt ℕ S) (w : Pending) (ws : List Pending) → w.is_met ≡ true →
      HasPlaces gone map (w ∷ ws) → HasPlaces ((gone + 1) % 2 ^ 64) map ws
  places-pop_met gone map w ws met has key =
      noted-met gone w ws (is_copy_of key w) (newest_copy key ws) (get at_eq map key) met (has key)

  pub places-pop_quiet : (gone : ℕ) (map : HashMap FrameAt ℕ S) (w : Pending) (ws : List Pending) →
      unmet_at w.is_met (frame_at w.packet.came.side w.packet.came.frame) ≡ None → HasPlaces gone map (w ∷ ws) →
      HasPlaces ((gone + 1) % 2 ^ 64) map ws
  places-pop_quiet gone map w ws none has = by w.is_met refl none
    where
      by : (b : Bool) → w.is_met ≡ b → unmet_at b (frame_at w.packet.came.side w.packet.came.frame) ≡ None → HasPlaces ((gone + 1) % 2 ^ 64) map ws
      by true met e = places-pop_met gone map w ws met has
      by false met e = places-pop_none gone map w ws e has

  pub places-pop : (gone : ℕ) (old new : HashMap FrameAt ℕ S) (w : Pending) (ws : List Pending) (own : FrameAt) →
      gone < 2 ^ 64 → length (w ∷ ws) < 2 ^ 64 →
      unmet_at w.is_met (frame_at w.packet.came.side w.packet.came.frame) ≡ Some own → HasPlaces gone old (w ∷ ws) →
      ForgetsPlace own gone old new → HasPlaces ((gone + 1) % 2 ^ 64) new ws
  places-pop gone old new w ws own g fits noted has forgets key =
      let is = unmet_some w.is_met (frame_at w.packet.came.side w.packet.came.frame) own noted in
      subst (IsNoted ((gone + 1) % 2 ^ 64) ws (newest_copy key ws)) (sym (forgets key))
      (by (at_eq own key)
      (subst (λ o. IsNoted gone (w ∷ ws) (farther (is_copy_at o key) (newest_copy key ws)) (get at_eq old key)) is (has key)))
    where
      by : (b : Bool) → IsNoted gone (w ∷ ws) (farther b (newest_copy key ws)) (get at_eq old key) →
          IsNoted ((gone + 1) % 2 ^ 64) ws (newest_copy key ws) (if b then unless_place gone (get at_eq old key) else get at_eq old key)
      by true h = noted-pop gone w ws (newest_copy key ws) (get at_eq old key) g
          (λ at e. let l = newest-within key ws at e in omega (arith, l, fits)) h
      by false h = noted-pass gone w ws (newest_copy key ws) (get at_eq old key) h

  -- a packet is put behind all others: one without a number, or one whose place is noted
  pub places-push_none : (gone : ℕ) (map : HashMap FrameAt ℕ S) (ws : List Pending) (w : Pending) → w.is_met ≡ false →
      frame_at w.packet.came.side w.packet.came.frame ≡ None → HasPlaces gone map ws → HasPlaces gone map (ws ++ w ∷ [])
  places-push_none gone map ws w unmet none has key =
      subst (λ o. IsNoted gone (ws ++ w ∷ []) o (get at_eq map key))
      (sym (newest-push key ws w ∙ ap (λ o. cond (is_copy_at o key) (Some (length ws)) (newest_copy key ws)) none))
      (noted-push gone ws w (newest_copy key ws) (get at_eq map key) unmet (has key))

  pub places-push : (gone : ℕ) (old new : HashMap FrameAt ℕ S) (ws : List Pending) (w : Pending) (own : FrameAt) → w.is_met ≡ false →
      frame_at w.packet.came.side w.packet.came.frame ≡ Some own → HasPlaces gone old ws →
      PutsPlace own ((gone + length ws) % 2 ^ 64) old new → HasPlaces gone new (ws ++ w ∷ [])
  places-push gone old new ws w own unmet is has puts key =
      subst (IsNoted gone (ws ++ w ∷ []) (newest_copy key (ws ++ w ∷ []))) (sym (puts key))
      (subst (λ o. IsNoted gone (ws ++ w ∷ []) o (if at_eq own key then Some ((gone + length ws) % 2 ^ 64) else get at_eq old key))
      (sym (newest-push key ws w ∙ ap (λ o. cond (is_copy_at o key) (Some (length ws)) (newest_copy key ws)) is))
      (by (at_eq own key)))
    where
      by : (b : Bool) → IsNoted gone (ws ++ w ∷ []) (cond b (Some (length ws)) (newest_copy key ws))
          (if b then Some ((gone + length ws) % 2 ^ 64) else get at_eq old key)
      by true = (refl, met-last ws w ∙ unmet)
      by false = noted-push gone ws w (newest_copy key ws) (get at_eq old key) unmet (has key)

  -- a copy is noted of the newest packet of a frame and a side, and what is noted there is forgotten
  pub places-met : (gone time at : ℕ) (old new : HashMap FrameAt ℕ S) (ws : List Pending) (own : FrameAt) →
      newest_copy own ws ≡ Some at → is_met_at (meet time at ws) at ≡ true → HasPlaces gone old ws → ForgetsFrame own old new →
      HasPlaces gone new (meet time at ws)
  places-met gone time at old new ws own is known has forgets key =
      subst (IsNoted gone (meet time at ws) (newest_copy key (meet time at ws))) (sym (forgets key)) (by (at_eq own key) refl)
    where
      by : (b : Bool) → at_eq own key ≡ b →
          IsNoted gone (meet time at ws) (newest_copy key (meet time at ws)) (if b then None else get at_eq old key)
      by true e =
          ap (is_settled (meet time at ws)) (newest-meet key time at ws ∙ ap (λ k. newest_copy k ws) (sym (at_same own key e)) ∙ is) ∙ known
      by false e =
          subst (λ o. IsNoted gone (meet time at ws) o (get at_eq old key)) (sym (newest-meet key time at ws))
          (noted-other gone time at ws (newest_copy key ws) (get at_eq old key)
          (λ n found same. not_both (at_eq own key)
          (ap (at_eq own) (sym (newest-one own key ws at is (found ∙ ap Some same))) ∙ at_refl own) e) (has key))

-- the packet at a place with a copy that comes at this time
abbrev pub met_at : ℕ → Waiting → Waiting
met_at time w = record w { is_met = w.is_met || nat_lt (time - w.came.time) copy_time }

set-meet : (time at : ℕ) (ws : List Waiting) (d : Waiting) →
    map pending_of (set ws at (met_at time (slice_index_or ws at d))) ≡ meet time at (map pending_of ws)
set-meet time at [] d = refl
set-meet time zero (w ∷ ws) d = refl
set-meet time (suc at) (w ∷ ws) d = ap (λ l. pending_of w ∷ l) (set-meet time at ws d)

pub meet_list : (time at : ℕ) (old new : List Waiting) → ((d : Waiting) → new ≡ set old at (met_at time (slice_index_or old at d))) →
    map pending_of new ≡ meet time at (map pending_of old)
meet_list time at [] new is = ap (map pending_of) (nothing new is)
  where
    nothing : (new : List Waiting) → ((d : Waiting) → new ≡ []) → new ≡ []
    nothing [] h = refl
    nothing (w ∷ ws) h = h w
meet_list time at (w ∷ ws) new is = ap (map pending_of) (is w) ∙ set-meet time at (w ∷ ws) w

-- whether a copy of the packet at a place is known, where one comes at this time
pub known_at : (time at : ℕ) (ws : List Waiting) (known : Bool) → at < length ws →
    ((d : Waiting) → known ≡ (met_at time (slice_index_or ws at d)).is_met) → is_met_at (meet time at (map pending_of ws)) at ≡ known
known_at time at [] known l h = absurd (omega (arith, l))
known_at time at (w ∷ ws) known l h = by at (w ∷ ws) l ∙ sym (h w)
  where
    by : (at : ℕ) (vs : List Waiting) → at < length vs →
        is_met_at (meet time at (map pending_of vs)) at ≡ (met_at time (slice_index_or vs at w)).is_met
    by at [] l = absurd (omega (arith, l))
    by zero (v ∷ vs) l = refl
    by (suc at) (v ∷ vs) l = let fits : at < length vs = omega (arith, l) in by at vs fits
