-- What holds of what was released and what waits, with each turn.
use Rattle.std.proofs.Common.{◌≡◌, ℕ, ◌-◌, ◌<◌, ◌≤◌, max, Bool, true, false, nat_lt, if◌then◌else◌, List, [], ◌∷◌, ◌++◌, map, Option, Some, None, option_to_list, refl, ap, sym, subst, ◌∙◌, append_assoc, append-nil, arith}
use Rattle.std.proofs.lemmas.Bool.{ltb-true, ltb-false}
use Rattle.std.proofs.lemmas.List.{map-append}
use Rattle.sr_hold.specs.declared.pace.Pace.{Pace}
use Rattle.sr_hold.specs.declared.progress.Progress.{Progress}
use Rattle.sr_hold.specs.declared.recorder.Recorder.{Recorder}
use Rattle.sr_hold.specs.declared.recorder.Recorder.TheVariants.{A, B}
use Rattle.sr_hold.specs.declared.hold.Held.{Held}
use Rattle.sr_hold.specs.declared.hold.Released.{Released}
use Rattle.sr_hold.specs.Marks.{limit, passes}
use Rattle.sr_hold.specs.Paces.{newest_of, own_moment, told_at, arrived, quiet, ended_now, begun_again}
use Rattle.sr_hold.specs.Pacing.{pace_of, put, capture_clock}
use Rattle.sr_hold.specs.Order.{as_released, due_at}
use Rattle.sr_hold.specs.Holding.{Holding, paced, held_at, with_arrival, next_by, next_of, without_by, without_next}
use Rattle.sr_hold.specs.Turns.{Turn, came, heard, silent, ended, begins, release, state_after, released_in, own_newest, own_held, capture, released_of}
use Rattle.sr_hold.proofs.MarkLemmas.{put-mark}
use Rattle.sr_hold.proofs.ChainLemmas.{Ascends, ascends_push, ascends_wider, ascends_lower, AllBelow, below_raise, below_push, FrontFrom, Chain, under_below, chain_more_a, chain_more_b, chain_take_a, chain_take_b, front_ascends}
use Rattle.sr_hold.proofs.MergeLemmas.{released_of-append}

quiet_by : (b : Bool) (p : Pace) (told : ℕ) → newest_of (if b then p else record p { told = told }) ≡ newest_of p
quiet_by true p told = refl
quiet_by false p told = refl

pub quiet-newest : (slack clock : ℕ) (p : Pace) (now : ℕ) → newest_of (quiet slack clock p now) ≡ newest_of p
quiet-newest slack clock p now = quiet_by (nat_lt (now - p.heard) slack) p (max p.told (clock - slack))

-- ranks go up with moments, and those of two recorders as their order
pub record IsRank (rank : Recorder → ℕ → ℕ) : Type 0 where
  pub mono : (r : Recorder) (m n : ℕ) → m ≤ n → rank r m ≤ rank r n
  pub a_first : (m n : ℕ) → m ≤ n → rank A m ≤ rank B n
  pub b_first : (m n : ℕ) → m < n → rank B m ≤ rank A n

module _ {T X : Type 0} (f : Held T → X) where
  same_more : (rel xs ca : List (Held T)) (m own : Held T) → map f (rel ++ xs) ≡ map f ca → f m ≡ f own →
      map f (rel ++ (xs ++ m ∷ [])) ≡ map f (ca ++ own ∷ [])
  same_more rel xs ca m own same e =
      ap (λ l. map f l) (sym (append_assoc rel xs (m ∷ [])))
      ∙ map-append f (rel ++ xs) (m ∷ [])
      ∙ ap (λ l. l ++ f m ∷ []) same
      ∙ ap (λ (x : X). map f ca ++ x ∷ []) e
      ∙ sym (map-append f ca (own ∷ []))

  -- what was released goes on by the front of a line, or not
  taken : (rel xs : List (Held T)) (x : Held T) (ca : List (Held T)) (more : List (Held T)) → map f (rel ++ x ∷ xs) ≡ map f ca →
      more ≡ rel ++ x ∷ [] → map f (more ++ xs) ≡ map f ca
  taken rel xs x ca more same e = ap (λ l. map f (l ++ xs)) e ∙ ap (λ l. map f l) (append_assoc rel (x ∷ []) xs) ∙ same

  module _ (rank : Recorder → ℕ → ℕ) where
    pub record Holds (out : List (Released T)) (h : Holding T) (ca cb : List (Held T)) : Type 0 where
      pub same_a : map f (released_of A out ++ h.a) ≡ map f ca
      pub same_b : map f (released_of B out ++ h.b) ≡ map f cb
      pub rise_a : Ascends 0 h.a (newest_of h.progress.a)
      pub rise_b : Ascends 0 h.b (newest_of h.progress.b)
      pub chain : Chain rank 0 out h.a h.b
      pub past : AllBelow (limit h.progress.mark) out

    -- an arrival is as that of its own capture, and ranks behind all that lies on this side of the mark
    pub record Fits (r : Recorder) (time : ℕ) (item : T) (h : Holding T) (newest : ℕ) : Type 0 where
      pub same : f (held_at r time item h) ≡ f (own_held time item newest)
      pub behind : (s : Recorder) (m : ℕ) → m < limit h.progress.mark → rank s m ≤ rank r (held_at r time item h).moment

    came_a : (time now : ℕ) (item : T) (h : Holding T) (out : List (Released T)) (ca cb : List (Held T)) (newest : ℕ) → Holds out h ca cb →
        Fits A time item h newest → Holds out (with_arrival A time now item h) (ca ++ own_held time item newest ∷ []) cb
    came_a time now item h out ca cb newest i fits = record {
      same_a = same_more (released_of A out) h.a ca (held_at A time item h) (own_held time item newest) i.same_a fits.same;
      same_b = i.same_b;
      rise_a = ascends_push 0 h.a (newest_of h.progress.a) (held_at A time item h) i.rise_a (omega arith) (omega arith);
      rise_b = i.rise_b;
      chain = chain_more_a rank 0 out h.a h.b (held_at A time item h) i.chain (omega arith)
          (under_below rank (limit h.progress.mark) (rank A (held_at A time item h).moment) out fits.behind i.past);
      past = below_raise (limit h.progress.mark) (limit (with_arrival A time now item h).progress.mark) out
          (put-mark A (arrived h.progress.mark h.progress.a time now) h.progress) i.past;
    }

    came_b : (time now : ℕ) (item : T) (h : Holding T) (out : List (Released T)) (ca cb : List (Held T)) (newest : ℕ) → Holds out h ca cb →
        Fits B time item h newest → Holds out (with_arrival B time now item h) ca (cb ++ own_held time item newest ∷ [])
    came_b time now item h out ca cb newest i fits = record {
      same_a = i.same_a;
      same_b = same_more (released_of B out) h.b cb (held_at B time item h) (own_held time item newest) i.same_b fits.same;
      rise_a = i.rise_a;
      rise_b = ascends_push 0 h.b (newest_of h.progress.b) (held_at B time item h) i.rise_b (omega arith) (omega arith);
      chain = chain_more_b rank 0 out h.a h.b (held_at B time item h) i.chain (omega arith)
          (under_below rank (limit h.progress.mark) (rank B (held_at B time item h).moment) out fits.behind i.past);
      past = below_raise (limit h.progress.mark) (limit (with_arrival B time now item h).progress.mark) out
          (put-mark B (arrived h.progress.mark h.progress.b time now) h.progress) i.past;
    }

    -- more is known of a capture
    paced_by : (r : Recorder) (p : Pace) (h : Holding T) (out : List (Released T)) (ca cb : List (Held T)) → Holds out h ca cb →
        newest_of (pace_of r h.progress) ≤ newest_of p → Holds out (paced (put r p) h) ca cb
    paced_by A p h out ca cb i le = record {
      same_a = i.same_a;
      same_b = i.same_b;
      rise_a = ascends_wider 0 h.a (newest_of h.progress.a) (newest_of p) i.rise_a le;
      rise_b = i.rise_b;
      chain = i.chain;
      past = below_raise (limit h.progress.mark) (limit (put A p h.progress).mark) out (put-mark A p h.progress) i.past;
    }
    paced_by B p h out ca cb i le = record {
      same_a = i.same_a;
      same_b = i.same_b;
      rise_a = i.rise_a;
      rise_b = ascends_wider 0 h.b (newest_of h.progress.b) (newest_of p) i.rise_b le;
      chain = i.chain;
      past = below_raise (limit h.progress.mark) (limit (put B p h.progress).mark) out (put-mark B p h.progress) i.past;
    }

    -- the same with other spellings of the lists
    same_lists : (out more : List (Released T)) (h : Holding T) (ca da cb db : List (Held T)) → Holds out h ca cb → more ≡ out → da ≡ ca →
        db ≡ cb → Holds more h da db
    same_lists out more h ca da cb db i e ea eb =
        subst (λ (l : List (Released T)). Holds l h da db) (sym e)
        (subst (λ (l : List (Held T)). Holds out h l db) (sym ea) (subst (λ (l : List (Held T)). Holds out h ca l) (sym eb) i))

    -- what a release leaves, by whose front is due
    abbrev Leaves : Option Recorder → Holding T → List (Released T) → List (Held T) → List (Held T) → Type 0
    Leaves d h out ca cb = Holds (out ++ option_to_list (next_by d h)) (without_by d h) ca cb

    none : (h : Holding T) (out : List (Released T)) (ca cb : List (Held T)) → Holds out h ca cb → Holds (out ++ []) h ca cb
    none h out ca cb i = same_lists out (out ++ []) h ca ca cb cb i (append-nil out) refl refl

    take_a : (g : Progress) (x : Held T) (xs ys : List (Held T)) (out : List (Released T)) (ca cb : List (Held T)) →
        ((m n : ℕ) → m ≤ n → rank A m ≤ rank A n) → x.moment < limit g.mark → FrontFrom rank B (rank A x.moment) ys →
        Holds out (record { a = x ∷ xs; b = ys; progress = g }) ca cb →
        Holds (out ++ as_released A x ∷ []) (record { a = xs; b = ys; progress = g }) ca cb
    take_a g x xs ys out ca cb mono lt front i = record {
      same_a = taken (released_of A out) xs x ca (released_of A (out ++ as_released A x ∷ [])) i.same_a
          (released_of-append A out (as_released A x ∷ []));
      same_b = ap (λ l. map f (l ++ ys)) (released_of-append B out (as_released A x ∷ []) ∙ append-nil (released_of B out)) ∙ i.same_b;
      rise_a = ascends_lower x.moment xs (newest_of g.a) i.rise_a.2;
      rise_b = i.rise_b;
      chain = chain_take_a rank 0 out x xs ys i.chain (front_ascends rank A x.moment xs (newest_of g.a) mono i.rise_a.2) front;
      past = below_push (limit g.mark) out (as_released A x) i.past lt;
    }

    take_b : (g : Progress) (y : Held T) (xs ys : List (Held T)) (out : List (Released T)) (ca cb : List (Held T)) →
        ((m n : ℕ) → m ≤ n → rank B m ≤ rank B n) → y.moment < limit g.mark → FrontFrom rank A (rank B y.moment) xs →
        Holds out (record { a = xs; b = y ∷ ys; progress = g }) ca cb →
        Holds (out ++ as_released B y ∷ []) (record { a = xs; b = ys; progress = g }) ca cb
    take_b g y xs ys out ca cb mono lt front i = record {
      same_a = ap (λ l. map f (l ++ xs)) (released_of-append A out (as_released B y ∷ []) ∙ append-nil (released_of A out)) ∙ i.same_a;
      same_b = taken (released_of B out) ys y cb (released_of B (out ++ as_released B y ∷ [])) i.same_b
          (released_of-append B out (as_released B y ∷ []));
      rise_a = i.rise_a;
      rise_b = ascends_lower y.moment ys (newest_of g.b) i.rise_b.2;
      chain = chain_take_b rank 0 out y xs ys i.chain front (front_ascends rank B y.moment ys (newest_of g.b) mono i.rise_b.2);
      past = below_push (limit g.mark) out (as_released B y) i.past lt;
    }

    leave_a : (b : Bool) (g : Progress) (x : Held T) (xs ys : List (Held T)) (out : List (Released T)) (ca cb : List (Held T)) → IsRank rank →
        (b ≡ true → x.moment < limit g.mark) → FrontFrom rank B (rank A x.moment) ys →
        Holds out (record { a = x ∷ xs; b = ys; progress = g }) ca cb →
        Leaves (if b then Some A else None) (record { a = x ∷ xs; b = ys; progress = g }) out ca cb
    leave_a true g x xs ys out ca cb is lt front i = take_a g x xs ys out ca cb (is.mono A) (lt refl) front i
    leave_a false g x xs ys out ca cb is lt front i = none (record { a = x ∷ xs; b = ys; progress = g }) out ca cb i

    leave_b : (b : Bool) (g : Progress) (y : Held T) (xs ys : List (Held T)) (out : List (Released T)) (ca cb : List (Held T)) → IsRank rank →
        (b ≡ true → y.moment < limit g.mark) → FrontFrom rank A (rank B y.moment) xs →
        Holds out (record { a = xs; b = y ∷ ys; progress = g }) ca cb →
        Leaves (if b then Some B else None) (record { a = xs; b = y ∷ ys; progress = g }) out ca cb
    leave_b true g y xs ys out ca cb is lt front i = take_b g y xs ys out ca cb (is.mono B) (lt refl) front i
    leave_b false g y xs ys out ca cb is lt front i = none (record { a = xs; b = y ∷ ys; progress = g }) out ca cb i

    leave_both : (c : Bool) (g : Progress) (x y : Held T) (xs ys : List (Held T)) (out : List (Released T)) (ca cb : List (Held T)) → IsRank rank →
        (c ≡ true → y.moment < x.moment) → (c ≡ false → x.moment ≤ y.moment) →
        Holds out (record { a = x ∷ xs; b = y ∷ ys; progress = g }) ca cb →
        Leaves (if c then due_at g.mark B y.moment else due_at g.mark A x.moment) (record { a = x ∷ xs; b = y ∷ ys; progress = g }) out ca cb
    leave_both true g x y xs ys out ca cb is lt le i =
        leave_b (passes g.mark y.moment) g y (x ∷ xs) ys out ca cb is (ltb-true y.moment (limit g.mark))
        (is.b_first y.moment x.moment (lt refl)) i
    leave_both false g x y xs ys out ca cb is lt le i =
        leave_a (passes g.mark x.moment) g x xs (y ∷ ys) out ca cb is (ltb-true x.moment (limit g.mark))
        (is.a_first x.moment y.moment (le refl)) i

    leave : (xs ys : List (Held T)) (g : Progress) (out : List (Released T)) (ca cb : List (Held T)) → IsRank rank →
        Holds out (record { a = xs; b = ys; progress = g }) ca cb →
        Holds (out ++ option_to_list (next_of (record { a = xs; b = ys; progress = g })))
        (without_next (record { a = xs; b = ys; progress = g })) ca cb
    leave [] [] g out ca cb is i = none (record { a = []; b = []; progress = g }) out ca cb i
    leave (x ∷ xs) [] g out ca cb is i =
        leave_a (passes g.mark x.moment) g x xs [] out ca cb is (ltb-true x.moment (limit g.mark)) tt i
    leave [] (y ∷ ys) g out ca cb is i =
        leave_b (passes g.mark y.moment) g y [] ys out ca cb is (ltb-true y.moment (limit g.mark)) tt i
    leave (x ∷ xs) (y ∷ ys) g out ca cb is i =
        leave_both (nat_lt y.moment x.moment) g x y xs ys out ca cb is (ltb-true y.moment x.moment) (ltb-false y.moment x.moment) i

    -- each arrival fits
    abbrev pub AllFit : ℕ → ℕ → List (Turn T) → Type 0
    AllFit slack start [] = Unit {0}
    AllFit slack start (came r time now item ∷ before) =
        Fits r time item (state_after slack start before) (own_newest r before) × AllFit slack start before
    AllFit slack start (heard r time now ∷ before) = AllFit slack start before
    AllFit slack start (silent r now ∷ before) = AllFit slack start before
    AllFit slack start (ended r ∷ before) = AllFit slack start before
    AllFit slack start (begins r now ∷ before) = AllFit slack start before
    AllFit slack start (release ∷ before) = AllFit slack start before

    -- a turn that changes what is known alone
    known : (r : Recorder) (p : Pace) (h : Holding T) (out : List (Released T)) (ca cb : List (Held T)) → Holds out h ca cb →
        newest_of (pace_of r h.progress) ≤ newest_of p → Holds (out ++ []) (paced (put r p) h) (ca ++ []) (cb ++ [])
    known r p h out ca cb i le =
        same_lists out (out ++ []) (paced (put r p) h) ca (ca ++ []) cb (cb ++ []) (paced_by r p h out ca cb i le)
        (append-nil out) (append-nil ca) (append-nil cb)

    pub all_hold : (slack start : ℕ) (turns : List (Turn T)) → IsRank rank → AllFit slack start turns →
        Holds (released_in slack start turns) (state_after slack start turns) (capture A turns) (capture B turns)
    all_hold slack start [] is fit = record { same_a = refl; same_b = refl; rise_a = tt; rise_b = tt; chain = (tt, tt); past = tt }
    all_hold slack start (came A time now item ∷ before) is fit =
        let h = state_after slack start before in
        let out = released_in slack start before in
        let ca = capture A before in
        let cb = capture B before in
        let newest = own_newest A before in
        same_lists out (out ++ []) (with_arrival A time now item h) (ca ++ own_held time item newest ∷ [])
        (ca ++ own_held time item newest ∷ []) cb (cb ++ [])
        (came_a time now item h out ca cb newest (all_hold slack start before is fit.1) fit.0)
        (append-nil out) refl (append-nil cb)
    all_hold slack start (came B time now item ∷ before) is fit =
        let h = state_after slack start before in
        let out = released_in slack start before in
        let ca = capture A before in
        let cb = capture B before in
        let newest = own_newest B before in
        same_lists out (out ++ []) (with_arrival B time now item h) ca (ca ++ []) (cb ++ own_held time item newest ∷ [])
        (cb ++ own_held time item newest ∷ [])
        (came_b time now item h out ca cb newest (all_hold slack start before is fit.1) fit.0)
        (append-nil out) (append-nil ca) refl
    all_hold slack start (heard r time now ∷ before) is fit =
        let h = state_after slack start before in
        known r (told_at (pace_of r h.progress) (own_moment (pace_of r h.progress) time) now) h (released_in slack start before)
        (capture A before) (capture B before) (all_hold slack start before is fit) (omega arith)
    all_hold slack start (silent r now ∷ before) is fit =
        let h = state_after slack start before in
        let same = quiet-newest h.progress.slack (capture_clock h.progress now) (pace_of r h.progress) now in
        known r (quiet h.progress.slack (capture_clock h.progress now) (pace_of r h.progress) now) h (released_in slack start before)
        (capture A before) (capture B before) (all_hold slack start before is fit) (omega (arith, same))
    all_hold slack start (ended r ∷ before) is fit =
        let h = state_after slack start before in
        known r (ended_now (pace_of r h.progress)) h (released_in slack start before)
        (capture A before) (capture B before) (all_hold slack start before is fit) (omega arith)
    all_hold slack start (begins r now ∷ before) is fit =
        let h = state_after slack start before in
        known r (begun_again (pace_of r h.progress) now) h (released_in slack start before)
        (capture A before) (capture B before) (all_hold slack start before is fit) (omega arith)
    all_hold slack start (release ∷ before) is fit =
        let h = state_after slack start before in
        let out = released_in slack start before in
        let ca = capture A before in
        let cb = capture B before in
        same_lists (out ++ option_to_list (next_of h)) (out ++ option_to_list (next_of h)) (without_next h) ca (ca ++ []) cb (cb ++ [])
        (leave h.a h.b h.progress out ca cb is (all_hold slack start before is fit)) refl (append-nil ca) (append-nil cb)
