-- Packets that are taken one by one, and verdicts that stay.
use Rattle.std.proofs.Common.{◌≡◌, ℕ, ◌+◌, ◌-◌, ◌<◌, ◌≤◌, Bool, true, false, cond, zero, suc, List, []}
use Rattle.std.proofs.Common.{◌∷◌, ◌++◌, length, Option, None, Some, refl, sym, ap, ◌∙◌, arith, ◌⊎◌, inl, inr}
use Rattle.std.specs.Prelude.{◌||◌, nat_lt}
use Rattle.std.proofs.lemmas.Bool.Decides.{nat_tests}
use Rattle.std.proofs.lemmas.List.{append_assoc}
use Rattle.sr_merge.specs.declared.came.Came.{Came}
use Rattle.sr_merge.specs.declared.came.FrameId.{FrameId}
use Rattle.sr_merge.specs.declared.came.FrameAt.{FrameAt}
use Rattle.sr_merge.specs.declared.waiting.Verdict.{Verdict}
use Rattle.sr_merge.specs.declared.waiting.Verdict.TheVariants as verdict
use Rattle.sr_audit.specs.Lanes.{other_side}
use Rattle.sr_merge.specs.Limits.{copy_time, most_held}
use Rattle.sr_merge.specs.Merging.{Read, Pending, Merging, is_copy_of, farther, newest_copy, met}
use Rattle.sr_merge.specs.Merging.{meet, meet_at, copy_noted, unmet, waiting_behind, verdict_by, verdict_of}
use Rattle.sr_merge.specs.Verdicts.{with_taken, with_all, last_verdict_by, last_verdict, near_behind, IsCrowded, AllBy}

-- one packet more
pub with_all_more : (m : Merging) (ps : List Read) (p : Read) → with_all m (ps ++ p ∷ []) ≡ with_taken (with_all m ps) p
with_all_more m [] p = refl
with_all_more m (q ∷ qs) p = with_all_more (with_taken m q) qs p

-- the newest copy is behind some packets, or else among them
farther_some : (b : Bool) (n : ℕ) → farther b (Some n) ≡ Some (n + 1)
farther_some true n = refl
farther_some false n = refl

newest_behind : (key : FrameAt) (gone ws : List Pending) (at : ℕ) → newest_copy key ws ≡ Some at →
    newest_copy key (gone ++ ws) ≡ Some (length gone + at)
newest_behind key [] ws at h = h ∙ ap Some (omega arith)
newest_behind key (g ∷ gs) ws at h =
    ap (farther (is_copy_of key g)) (newest_behind key gs ws at h) ∙ farther_some (is_copy_of key g) (length gs + at)
    ∙ ap Some (omega arith)

newest_before : (key : FrameAt) (gone ws : List Pending) → newest_copy key ws ≡ None → newest_copy key (gone ++ ws) ≡ newest_copy key gone
newest_before key [] ws h = h
newest_before key (g ∷ gs) ws h = ap (farther (is_copy_of key g)) (newest_before key gs ws h)

-- a copy of one of them
meet_behind : (time : ℕ) (gone ws : List Pending) (at : ℕ) → meet time (length gone + at) (gone ++ ws) ≡ gone ++ meet time at ws
meet_behind time [] ws at = let e : 0 + at ≡ at = omega arith in ap (λ n. meet time n ws) e
meet_behind time (g ∷ gs) ws at =
    let e : length (g ∷ gs) + at ≡ suc (length gs + at) = omega arith in
    ap (λ n. meet time n (g ∷ (gs ++ ws))) e ∙ ap (λ l. g ∷ l) (meet_behind time gs ws at)

meet_before : (time : ℕ) (gone ws : List Pending) (at : ℕ) → at < length gone → meet time at (gone ++ ws) ≡ meet time at gone ++ ws
meet_before time [] ws at h = absurd (omega (arith, h))
meet_before time (g ∷ gs) ws zero h = refl
meet_before time (g ∷ gs) ws (suc at) h = let l : at < length gs = omega (arith, h) in ap (λ l. g ∷ l) (meet_before time gs ws at l)

some_is : (m n : ℕ) → Some m ≡ Some n → m ≡ n
some_is m n e = cc

newest_place : (key : FrameAt) (ws : List Pending) (at : ℕ) → newest_copy key ws ≡ Some at → at < length ws
newest_place key [] at h = cc
newest_place key (w ∷ ws) at h = by (newest_copy key ws) refl (is_copy_of key w) (λ n e. newest_place key ws n e) h
  where
    by : (o : Option ℕ) → newest_copy key ws ≡ o → (b : Bool) → ((n : ℕ) → newest_copy key ws ≡ Some n → n < length ws) →
        farther b o ≡ Some at → at < length (w ∷ ws)
    by None is true ih e = let s = some_is 0 at e in omega (arith, s)
    by None is false ih e = cc
    by (Some n) is b ih e =
        let s = some_is (n + 1) at (sym (farther_some b n) ∙ e) in
        let l = ih n is in omega (arith, l, s)

-- a copy that comes behind packets that are gone is noted at one that stays, or at one that is gone, or at none
noted_at : (time : ℕ) (key : FrameAt) (gone ws : List Pending) → (before : List Pending)
    × (meet_at time (newest_copy key (gone ++ ws)) (gone ++ ws) ≡ before ++ meet_at time (newest_copy key ws) ws)
    × ((before ≡ gone) ⊎ ((at : ℕ) × (before ≡ meet time at gone)))
noted_at time key gone ws = by (newest_copy key ws) refl (newest_copy key gone) refl
  where
    by : (o : Option ℕ) → newest_copy key ws ≡ o → (p : Option ℕ) → newest_copy key gone ≡ p → (before : List Pending)
        × (meet_at time (newest_copy key (gone ++ ws)) (gone ++ ws) ≡ before ++ meet_at time (newest_copy key ws) ws)
        × ((before ≡ gone) ⊎ ((at : ℕ) × (before ≡ meet time at gone)))
    by (Some at) is p also = (
      gone,
      ap (λ o. meet_at time o (gone ++ ws)) (newest_behind key gone ws at is) ∙ meet_behind time gone ws at
          ∙ ap (λ o. gone ++ meet_at time o ws) (sym is),
      inl refl,
    )
    by None is None also = (
      gone,
      ap (λ o. meet_at time o (gone ++ ws)) (newest_before key gone ws is ∙ also) ∙ ap (λ o. gone ++ meet_at time o ws) (sym is),
      inl refl,
    )
    by None is (Some at) also = (
      meet time at gone,
      ap (λ o. meet_at time o (gone ++ ws)) (newest_before key gone ws is ∙ also)
          ∙ meet_before time gone ws at (newest_place key gone at also)
          ∙ ap (λ o. meet time at gone ++ meet_at time o ws) (sym is),
      inr (at, refl),
    )

pub noted_behind : (came : Came) (frame : Option FrameId) (gone ws : List Pending) → (before : List Pending)
    × (copy_noted came frame (gone ++ ws) ≡ before ++ copy_noted came frame ws)
    × ((before ≡ gone) ⊎ ((at : ℕ) × (before ≡ meet came.time at gone)))
noted_behind came None gone ws = (gone, refl, inl refl)
noted_behind came (Some f) gone ws = noted_at came.time (record { frame = f; side = other_side came.side }) gone ws

-- a packet that is taken behind packets that are gone
pub taken_behind : (new : Bool) (p : Read) (gone ws : List Pending) → (before : List Pending)
    × (waiting_behind new p (gone ++ ws) ≡ before ++ waiting_behind new p ws)
    × ((before ≡ gone) ⊎ ((at : ℕ) × (before ≡ meet p.came.time at gone)))
taken_behind true p gone ws = (gone, append_assoc gone ws (unmet p ∷ []), inl refl)
taken_behind false p gone ws = noted_behind p.came p.came.frame gone ws

-- a verdict that is known stays as time passes
late_stays : (before now time : ℕ) → before ≤ now → nat_lt (before - time) copy_time ≡ false → nat_lt (now - time) copy_time ≡ false
late_stays before now time le h = grind (arith, nat_tests)

known_stays : (x : Verdict) (m early late : Bool) → (early ≡ false → late ≡ false) →
    cond m (Some verdict.Both) (cond early None (Some verdict.Alone)) ≡ Some x →
    cond m (Some verdict.Both) (cond late None (Some verdict.Alone)) ≡ Some x
known_stays x true early late stays h = h
known_stays x false true late stays h = cc
known_stays x false false late stays h = ap (λ b. cond b None (Some verdict.Alone)) (stays refl) ∙ h

pub verdict_stays : (before now : ℕ) (w : Pending) (x : Verdict) → before ≤ now → verdict_of before w ≡ Some x → verdict_of now w ≡ Some x
verdict_stays before now w x le h = by w.packet.came.frame h
  where
    by : (o : Option FrameId) → verdict_by before w o ≡ Some x → verdict_by now w o ≡ Some x
    by None e = e
    by (Some f) e = known_stays x w.is_met (nat_lt (before - w.packet.came.time) copy_time) (nat_lt (now - w.packet.came.time) copy_time)
        (late_stays before now w.packet.came.time le) e

-- a copy that comes then changes it not
known_met : (x : Verdict) (m early : Bool) → cond m (Some verdict.Both) (cond early None (Some verdict.Alone)) ≡ Some x →
    cond (m || early) (Some verdict.Both) (cond early None (Some verdict.Alone)) ≡ Some x
known_met x true early h = h
known_met x false true h = cc
known_met x false false h = h

pub verdict_met : (now : ℕ) (w : Pending) (x : Verdict) → verdict_of now w ≡ Some x → verdict_of now (met now w) ≡ Some x
verdict_met now w x h = by w.packet.came.frame h
  where
    by : (o : Option FrameId) → verdict_by now w o ≡ Some x → verdict_by now (met now w) o ≡ Some x
    by None e = e
    by (Some f) e = known_met x w.is_met (nat_lt (now - w.packet.came.time) copy_time) e

-- a verdict that is known is the last one too
known_last : (x : Verdict) (m early : Bool) → cond m (Some verdict.Both) (cond early None (Some verdict.Alone)) ≡ Some x →
    Some (cond m verdict.Both verdict.Alone) ≡ Some x
known_last x true early h = h
known_last x false true h = cc
known_last x false false h = h

pub verdict_last : (now : ℕ) (w : Pending) (x : Verdict) → verdict_of now w ≡ Some x → Some (last_verdict w) ≡ Some x
verdict_last now w x h = by w.packet.came.frame h
  where
    by : (o : Option FrameId) → verdict_by now w o ≡ Some x → Some (last_verdict_by w o) ≡ Some x
    by None e = e
    by (Some f) e = known_last x w.is_met (nat_lt (now - w.packet.came.time) copy_time) e

-- a packet without verdict came less than 400 ms before
known_none : (m early : Bool) → cond m (Some verdict.Both) (cond early None (Some verdict.Alone)) ≡ None → early ≡ true
known_none true early h = cc
known_none false true h = refl
known_none false false h = cc

pub none_early : (now : ℕ) (w : Pending) → verdict_of now w ≡ None → nat_lt (now - w.packet.came.time) copy_time ≡ true
none_early now w h = by w.packet.came.frame h
  where
    by : (o : Option FrameId) → verdict_by now w o ≡ None → nat_lt (now - w.packet.came.time) copy_time ≡ true
    by None e = cc
    by (Some f) e = known_none w.is_met (nat_lt (now - w.packet.came.time) copy_time) e

near_is : (now time own : ℕ) → nat_lt (now - own) copy_time ≡ true → time ≤ now → nat_lt (time - own) copy_time ≡ true
near_is now time own h le = grind (arith, nat_tests)

all_near : (now : ℕ) (p : Read) (ps : List Read) → nat_lt (now - p.came.time) copy_time ≡ true → AllBy now ps → near_behind p ps ≡ length ps
all_near now p [] h all = refl
all_near now p (q ∷ qs) h all =
    let one = near_is now q.came.time p.came.time h all.0 in
    let rest = all_near now p qs h all.1 in
    ap (λ b. cond b 1 0 + near_behind p qs) one ∙ omega (arith, rest)

-- one that is written without verdict, since so many wait, is crowded
pub crowded : (now : ℕ) (w : Pending) (ps : List Read) → verdict_of now w ≡ None → AllBy now ps → most_held ≤ length ps + 1 →
    IsCrowded w.packet ps
crowded now w ps none all many = let n = all_near now w.packet ps (none_early now w none) all in omega (arith, n, many)

near_more : (p : Read) (ps more : List Read) → near_behind p ps ≤ near_behind p (ps ++ more)
near_more p [] more = omega arith
near_more p (q ∷ qs) more = let h = near_more p qs more in omega (arith, h)

pub crowded_more : (p : Read) (ps more : List Read) → IsCrowded p ps → IsCrowded p (ps ++ more)
crowded_more p ps more h = let n = near_more p ps more in omega (arith, h, n)

-- packets that came by a time
pub all_later : (before now : ℕ) (ps : List Read) → before ≤ now → AllBy before ps → AllBy now ps
all_later before now [] le all = tt
all_later before now (p ∷ ps) le all = (omega (arith, all.0), all_later before now ps le all.1)

pub all_more : (now : ℕ) (ps qs : List Read) → AllBy now ps → AllBy now qs → AllBy now (ps ++ qs)
all_more now [] qs all more = more
all_more now (p ∷ ps) qs all more = (all.0, all_more now ps qs all.1 more)
