-- What is left of faults by the limits of a user.
use Rattle.std.proofs.Common.{◌≡◌, ℕ, ◌+◌, ◌-◌, ◌*◌, ◌^◌, ◌≤◌, ◌⊎◌, inl, inr, Bool, true, false, cond, ◌&&◌, ◌||◌, is_some, List, [], ◌∷◌, ◌++◌, Option, None, Some, ℤ, arith, refl, sym, ap, ap₂, ◌∙◌}
use Rattle.std.specs.Prelude.{min, nat_lt, nat_le, unsigned_abs, filter, fold, sum_by}
use Rattle.std.specs.List.{cons_option, filter_map, list_any}
use Rattle.std.proofs.lemmas.Bool.{lt-ltb, le-ltb, ltb-true, ltb-false, leb-true, leb-false, or_parts, cases_Bool}
use Rattle.std.proofs.lemmas.List.Folds.{list_any-append}
use Rattle.std.proofs.lemmas.List.Sums.{sum_by-cons, sum_by-append}
use Rattle.sr_frame.specs.declared.fields.Mac.{Mac}
use Rattle.sr_audit.specs.declared.side.Side.{Side}
use Rattle.sr_audit.specs.declared.side.Side.TheVariants.{A, B}
use Rattle.sr_audit.specs.declared.skew.Skews.{Skews}
use Rattle.sr_audit.specs.declared.tally.Sides.{Sides}
use Rattle.sr_audit.specs.Shown.{bounded_sum}
use Rattle.sr_capture_audit.specs.declared.network.Ports.{Ports}
use Rattle.sr_verdict.specs.declared.heard.Heard.{Heard}
use Rattle.sr_verdict.specs.declared.verdict.Verdict.{Verdict}
use Rattle.sr_verdict.specs.declared.verdict.Verdict.TheVariants.{Unjudged, BothLost, TwoSenders, CutRing, DeadPort, Crossed, LostRedundancy, Loss, WrongLan, Misfit, Repeated, Late, Skew, BothLostWithin, LossWithin, RecorderDropped, Restart, Babbling, Unseen, San, Clock}
use Rattle.sr_verdict.specs.Drops.{loss_in, losses_in, explains, dropped_of_b, explained_by}
use Rattle.sr_verdict.specs.Limits.{within, notice_in_place, fault_beyond, limited, farthest, skew_on, skew_verdicts}
use Rattle.sr_verdict.specs.Verdicts.{is_a_fault}
use Rattle.sr_laws_capture.specs.Limited.{is_wide, is_fault_over, is_fault_beyond}
use Rattle.sr_laws_capture.proofs.ToldLemmas.{is_unjudged}

-- a test of what may be there
abbrev pub passes : {X : Type 0} → (X → Bool) → Option X → Bool
passes p None = false
passes p (Some x) = p x

pub any_map : {X Y : Type 0} (p : Y → Bool) (on : X → Option Y) (xs : List X) → list_any p (filter_map on xs) ≡ list_any (λ x. passes p (on x)) xs
any_map p on [] = refl
any_map {X} {Y} p on (x ∷ xs) = by (on x) (any_map p on xs)
  where
    by : (o : Option Y) → list_any p (filter_map on xs) ≡ list_any (λ y. passes p (on y)) xs →
        list_any p (cons_option o (filter_map on xs)) ≡ (passes p o || list_any (λ y. passes p (on y)) xs)
    by None rest = rest
    by (Some y) rest = ap (λ b. p y || b) rest

pub any_same : {X : Type 0} (p q : X → Bool) → ((x : X) → p x ≡ q x) → (xs : List X) → list_any p xs ≡ list_any q xs
any_same p q same [] = refl
any_same p q same (x ∷ xs) = ap₂ (λ a b. a || b) (same x) (any_same p q same xs)

pub any_false : {X : Type 0} (p : X → Bool) → ((x : X) → p x ≡ false) → (xs : List X) → list_any p xs ≡ false
any_false p none [] = refl
any_false p none (x ∷ xs) = ap₂ (λ a b. a || b) (none x) (any_false p none xs)

pub any_filter : {X : Type 0} (p q : X → Bool) (xs : List X) → list_any p (filter q xs) ≡ list_any (λ x. q x && p x) xs
any_filter p q [] = refl
any_filter p q (x ∷ xs) = by (q x) (any_filter p q xs)
  where
    by : (b : Bool) → list_any p (filter q xs) ≡ list_any (λ y. q y && p y) xs →
        list_any p (cond b (x ∷ filter q xs) (filter q xs)) ≡ ((b && p x) || list_any (λ y. q y && p y) xs)
    by true rest = ap (λ b. p x || b) rest
    by false rest = rest

-- a verdict stays as it is, or a notice of the same loss stands in its place
record Stays (limit : Option ℕ) (v : Verdict) : Type 0 where
  pub none : notice_in_place limit v ≡ None
  pub same : is_fault_beyond limit v ≡ is_a_fault v

record Gives (limit : Option ℕ) (v w : Verdict) : Type 0 where
  pub one : notice_in_place limit v ≡ Some w
  pub within : is_fault_beyond limit v ≡ false
  pub notice : is_a_fault w ≡ false
  pub judging : is_unjudged w ≡ false
  pub loss : (lan : Side) → loss_in lan w ≡ loss_in lan v

stays_or_gives : (limit : Option ℕ) (v : Verdict) → Stays limit v ⊎ ((w : Verdict) × Gives limit v w)
stays_or_gives None v = inl (record { none = refl; same = refl })
stays_or_gives (Some most) v = by v
  where
    more : (n : ℕ) → nat_le n most ≡ false → nat_lt most n ≡ true
    more n e = lt-ltb most n (leb-false n most e)

    few : (n : ℕ) → nat_le n most ≡ true → nat_lt most n ≡ false
    few n e = le-ltb most n (leb-true n most e)

    by_count : (n : ℕ) (v w : Verdict) → within most v ≡ cond (nat_le n most) (Some w) None → is_fault_over most v ≡ nat_lt most n → is_a_fault v ≡ true
        → is_a_fault w ≡ false → is_unjudged w ≡ false → ((lan : Side) → loss_in lan w ≡ loss_in lan v) →
        Stays (Some most) v ⊎ ((w : Verdict) × Gives (Some most) v w)
    by_count n v w is test fault notice judging loss =
        elim (cases_Bool (nat_le n most)) [
          | inl e ↦ inr (w, record { one = is ∙ ap (λ b. cond b (Some w) None) e; within = test ∙ few n e; notice = notice; judging = judging; loss = loss })
          | inr e ↦ inl (record { none = is ∙ ap (λ b. cond b (Some w) None) e; same = test ∙ more n e ∙ sym fault })
        ]

    by : (v : Verdict) → Stays (Some most) v ⊎ ((w : Verdict) × Gives (Some most) v w)
    by (BothLost mac numbers) =
        by_count numbers (BothLost mac numbers) (BothLostWithin mac numbers) refl refl refl refl refl (λ lan. refl)
    by (Loss lan share other) = by_count share.frames (Loss lan share other) (LossWithin lan share other) refl refl refl refl refl (λ own. refl)
    by (Unjudged why) = inl (record { none = refl; same = refl })
    by (TwoSenders mac since) = inl (record { none = refl; same = refl })
    by (CutRing cut place) = inl (record { none = refl; same = refl })
    by (DeadPort mac row) = inl (record { none = refl; same = refl })
    by (Crossed copies names) = inl (record { none = refl; same = refl })
    by (LostRedundancy mac lan tail) = inl (record { none = refl; same = refl })
    by (WrongLan side copies names) = inl (record { none = refl; same = refl })
    by (Misfit side frames) = inl (record { none = refl; same = refl })
    by (Repeated mac copies) = inl (record { none = refl; same = refl })
    by (Late mac pairs) = inl (record { none = refl; same = refl })
    by (Skew mac skew most) = inl (record { none = refl; same = refl })
    by (BothLostWithin mac numbers) = inl (record { none = refl; same = refl })
    by (LossWithin lan share other) = inl (record { none = refl; same = refl })
    by (RecorderDropped lan packets) = inl (record { none = refl; same = refl })
    by (Restart mac times) = inl (record { none = refl; same = refl })
    by (Babbling mac second) = inl (record { none = refl; same = refl })
    by (Unseen mac numbers) = inl (record { none = refl; same = refl })
    by (San mac lan frames) = inl (record { none = refl; same = refl })
    by (Clock ahead) = inl (record { none = refl; same = refl })

-- by a limit a fault is left exactly where one is beyond it, also among those that a test picks
pub left_beyond : (limit : Option ℕ) (q : Verdict → Bool) (vs : List Verdict) →
    list_any (λ v. q v && is_a_fault v) (limited limit vs) ≡ list_any (λ v. q v && is_fault_beyond limit v) vs
left_beyond limit q vs =
    list_any-append test (filter_map (fault_beyond limit) vs) (filter_map (notice_in_place limit) vs)
    ∙ ap₂ (λ a b. a || b) (any_map test (fault_beyond limit) vs ∙ any_same _ (λ v. q v && is_fault_beyond limit v) (λ v. kept v (stays_or_gives limit v)) vs)
    (any_map test (notice_in_place limit) vs ∙ any_false _ (λ v. notices v (stays_or_gives limit v)) vs)
    ∙ or_false (list_any (λ v. q v && is_fault_beyond limit v) vs)
  where
    test : Verdict → Bool
    test v = q v && is_a_fault v

    or_false : (b : Bool) → (b || false) ≡ b
    or_false true = refl
    or_false false = refl

    and_false : (b : Bool) → (b && false) ≡ false
    and_false true = refl
    and_false false = refl

    kept : (v : Verdict) → Stays limit v ⊎ ((w : Verdict) × Gives limit v w) → passes test (fault_beyond limit v) ≡ (q v && is_fault_beyond limit v)
    kept v (inl stays) = ap (λ (o : Option Verdict). passes test (cond (is_some o) None (Some v))) stays.none ∙ ap (λ b. q v && b) (sym stays.same)
    kept v (inr gives) =
        ap (λ (o : Option Verdict). passes test (cond (is_some o) None (Some v))) gives.1.one
        ∙ sym (ap (λ b. q v && b) gives.1.within ∙ and_false (q v))

    notices : (v : Verdict) → Stays limit v ⊎ ((w : Verdict) × Gives limit v w) → passes test (notice_in_place limit v) ≡ false
    notices v (inl stays) = ap (passes test) stays.none
    notices v (inr gives) = ap (passes test) gives.1.one ∙ ap (λ b. q gives.0 && b) gives.1.notice ∙ and_false (q gives.0)

-- none says that nothing can be judged, where none did
pub left_judging : (limit : Option ℕ) (vs : List Verdict) → list_any is_unjudged vs ≡ false → list_any is_unjudged (limited limit vs) ≡ false
left_judging limit vs none =
    list_any-append is_unjudged (filter_map (fault_beyond limit) vs) (filter_map (notice_in_place limit) vs)
    ∙ ap₂ (λ a b. a || b) (kept vs none)
    (any_map is_unjudged (notice_in_place limit) vs ∙ any_false _ (λ v. notices v (stays_or_gives limit v)) vs)
  where
    notices : (v : Verdict) → Stays limit v ⊎ ((w : Verdict) × Gives limit v w) → passes is_unjudged (notice_in_place limit v) ≡ false
    notices v (inl stays) = ap (passes is_unjudged) stays.none
    notices v (inr gives) = ap (passes is_unjudged) gives.1.one ∙ gives.1.judging

    by : (b : Bool) (v : Verdict) (ws : List Verdict) → is_unjudged v ≡ false → list_any is_unjudged ws ≡ false →
        list_any is_unjudged (cons_option (cond b None (Some v)) ws) ≡ false
    by true v ws e f = f
    by false v ws e f = ap₂ (λ a c. a || c) e f

    kept : (vs : List Verdict) → list_any is_unjudged vs ≡ false → list_any is_unjudged (filter_map (fault_beyond limit) vs) ≡ false
    kept [] e = refl
    kept (v ∷ vs) e =
        let parts = or_parts (is_unjudged v) (list_any is_unjudged vs) e in
        by (is_some (notice_in_place limit v)) v (filter_map (fault_beyond limit) vs) parts.0 (kept vs parts.1)

-- sums that stay at the greatest number of 64 bits are those of all, up to it
pub fold_bounded : {X : Type 0} (f : X → ℕ) (n : ℕ) (xs : List X) → n ≤ 2 ^ 64 - 1 →
    fold (λ m x. bounded_sum m (f x)) n xs ≡ min (n + sum_by f xs) (2 ^ 64 - 1)
fold_bounded f n [] le = omega (arith, le)
fold_bounded f n (x ∷ xs) le =
    fold_bounded f (bounded_sum n (f x)) xs (omega arith) ∙ omega (arith, sum_by-cons f x xs)

-- a limit makes no loss smaller
abbrev amount : (Verdict → ℕ) → Option Verdict → ℕ
amount f None = 0
amount f (Some v) = f v

sum_map : (f : Verdict → ℕ) (on : Verdict → Option Verdict) (v : Verdict) (vs : List Verdict) →
    sum_by f (filter_map on (v ∷ vs)) ≡ amount f (on v) + sum_by f (filter_map on vs)
sum_map f on v vs = by (on v)
  where
    by : (o : Option Verdict) → sum_by f (cons_option o (filter_map on vs)) ≡ amount f o + sum_by f (filter_map on vs)
    by None = omega arith
    by (Some w) = sum_by-cons f w (filter_map on vs)

sums_kept : (limit : Option ℕ) (lan : Side) (vs : List Verdict) →
    sum_by (loss_in lan) (filter_map (fault_beyond limit) vs) + sum_by (loss_in lan) (filter_map (notice_in_place limit) vs) ≡ sum_by (loss_in lan) vs
sums_kept limit lan [] = refl
sums_kept limit lan (v ∷ vs) =
    omega (
      arith,
      sum_map (loss_in lan) (fault_beyond limit) v vs,
      sum_map (loss_in lan) (notice_in_place limit) v vs,
      sum_by-cons (loss_in lan) v vs,
      sums_kept limit lan vs,
      both (stays_or_gives limit v),
    )
  where
    none_more : (n : ℕ) → 0 + n ≡ n
    none_more n = omega arith

    both : Stays limit v ⊎ ((w : Verdict) × Gives limit v w) →
        amount (loss_in lan) (fault_beyond limit v) + amount (loss_in lan) (notice_in_place limit v) ≡ loss_in lan v
    both (inl stays) =
        ap (λ (o : Option Verdict). amount (loss_in lan) (cond (is_some o) None (Some v)) + amount (loss_in lan) o) stays.none ∙ omega arith
    both (inr gives) =
        ap (λ (o : Option Verdict). amount (loss_in lan) (cond (is_some o) None (Some v)) + amount (loss_in lan) o) gives.1.one
        ∙ none_more (loss_in lan gives.0) ∙ gives.1.loss lan

-- the skews of sources are no losses
no_loss : (lan : Side) (most : ℕ) (hs : List Heard) → sum_by (loss_in lan) (filter_map (skew_on most) hs) ≡ 0
no_loss lan most [] = refl
no_loss lan most (h ∷ hs) = by (nat_lt (1000 * most) (unsigned_abs (farthest h.figures.skews))) (no_loss lan most hs)
  where
    by : (b : Bool) → sum_by (loss_in lan) (filter_map (skew_on most) hs) ≡ 0 → sum_by (loss_in lan) (cons_option (cond b (Some (Skew h.mac (farthest h.figures.skews) most)) None) (filter_map (skew_on most) hs)) ≡ 0
    by true none = omega (arith, sum_by-cons (loss_in lan) (Skew h.mac (farthest h.figures.skews) most) (filter_map (skew_on most) hs), none)
    by false none = none

skews_lose_none : (lan : Side) (skew : Option ℕ) (hs : List Heard) → sum_by (loss_in lan) (skew_verdicts skew hs) ≡ 0
skews_lose_none lan None hs = refl
skews_lose_none lan (Some most) hs = no_loss lan most hs

pub same_losses : (limit skew : Option ℕ) (lan : Side) (vs : List Verdict) (hs : List Heard) →
    losses_in lan (limited limit (vs ++ skew_verdicts skew hs)) ≡ losses_in lan vs
same_losses limit skew lan vs hs =
    let all = vs ++ skew_verdicts skew hs in
    let beyond = filter_map (fault_beyond limit) all in
    let notices = filter_map (notice_in_place limit) all in
    let sums : sum_by (loss_in lan) (beyond ++ notices) ≡ sum_by (loss_in lan) vs =
    omega (
      arith,
      sum_by-append (loss_in lan) beyond notices,
      sums_kept limit lan all,
      sum_by-append (loss_in lan) vs (skew_verdicts skew hs),
      skews_lose_none lan skew hs,
    ) in
    fold_bounded (loss_in lan) 0 (beyond ++ notices) (omega arith) ∙ ap (λ n. min (0 + n) (2 ^ 64 - 1)) sums
    ∙ sym (fold_bounded (loss_in lan) 0 vs (omega arith))

pub same_explained : (limit skew : Option ℕ) (ports : Ports) (dropped : Sides) (vs : List Verdict) (hs : List Heard) →
    explained_by ports dropped (limited limit (vs ++ skew_verdicts skew hs)) ≡ explained_by ports dropped vs
same_explained limit skew ports dropped vs hs = λ i. record {
  a = explains dropped.a (same_losses limit skew A vs hs i);
  b = explains (dropped_of_b ports dropped) (same_losses limit skew B vs hs i);
}

-- of two sizes the greater one is beyond a bound where either is
greater_of : (bound a b : ℕ) → cond (nat_lt a b) (nat_lt bound b) (nat_lt bound a) ≡ (nat_lt bound b || nat_lt bound a)
greater_of bound a b = by (nat_lt a b) (nat_lt bound b) (nat_lt bound a) refl refl refl
  where
    by : (t p q : Bool) → nat_lt a b ≡ t → nat_lt bound b ≡ p → nat_lt bound a ≡ q → cond t p q ≡ (p || q)
    by true true q e f g = refl
    by true false true e f g = absurd (omega (arith, ltb-true a b e, ltb-false bound b f, ltb-true bound a g))
    by true false false e f g = refl
    by false true true e f g = refl
    by false true false e f g = absurd (omega (arith, ltb-false a b e, ltb-true bound b f, ltb-false bound a g))
    by false false q e f g = refl

is_far : (bound : ℕ) (k : Skews) → nat_lt bound (unsigned_abs (farthest k)) ≡ (nat_lt bound (unsigned_abs k.least) || nat_lt bound (unsigned_abs k.greatest))
is_far bound k =
    of_chosen (nat_lt (unsigned_abs k.greatest) (unsigned_abs k.least)) ∙ greater_of bound (unsigned_abs k.greatest) (unsigned_abs k.least)
  where
    of_chosen : (t : Bool) → nat_lt bound (unsigned_abs (cond t k.least k.greatest))
        ≡ cond t (nat_lt bound (unsigned_abs k.least)) (nat_lt bound (unsigned_abs k.greatest))
    of_chosen true = refl
    of_chosen false = refl

-- a source is told where some of its pairs is beyond a limit, and no limit of losses leaves it out
pub skews_told : (limit skew : Option ℕ) (q : Verdict → Bool) → ((mac : Mac) (z : ℤ) (most : ℕ) → q (Skew mac z most) ≡ true) → (hs : List Heard) →
    list_any (λ v. q v && is_fault_beyond limit v) (skew_verdicts skew hs) ≡ list_any (is_wide skew) hs
skews_told limit None q all hs = sym (any_false (is_wide None) (λ h. refl) hs)
skews_told limit (Some most) q all hs = any_map test (skew_on most) hs ∙ any_same _ (is_wide (Some most)) (λ h. told h) hs
  where
    test : Verdict → Bool
    test v = q v && is_fault_beyond limit v

    beyond : (limit : Option ℕ) (mac : Mac) (z : ℤ) → is_fault_beyond limit (Skew mac z most) ≡ true
    beyond None mac z = refl
    beyond (Some lost) mac z = refl

    told : (h : Heard) → passes test (skew_on most h) ≡ is_wide (Some most) h
    told h = by (nat_lt (1000 * most) (unsigned_abs (farthest h.figures.skews))) ∙ is_far (1000 * most) h.figures.skews
      where
        by : (b : Bool) → passes test (cond b (Some (Skew h.mac (farthest h.figures.skews) most)) None) ≡ b
        by true = ap₂ (λ a c. a && c) (all h.mac (farthest h.figures.skews) most) (beyond limit h.mac (farthest h.figures.skews))
        by false = refl
