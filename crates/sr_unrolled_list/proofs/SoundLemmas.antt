-- What holds of the pieces still holds when one goes, changes or is added.
use Rattle.std.proofs.Common.{◌≡◌, ℕ, zero, suc, ◌+◌, ◌<◌, ◌≤◌, ◌*◌, List, [], ◌∷◌, ◌++◌, length, take, drop, get_or, set, refl, ap, sym, subst, ◌∙◌, length-append, length-drop, length-set, arith}
use Rattle.std.specs.List.{remove, All}
use Rattle.std.specs.VecDeque.{deque_capacity}
use Rattle.std.proofs.lemmas.List.Elements.{All-append, All-take, All-drop, All-push, All-set, All-get_or}
use Rattle.std.proofs.lemmas.List.{drop_all}
use Rattle.std.proofs.lemmas.List.Edits.{length-remove, get_or-remove_below}
use Rattle.std.specs.declared.collections.VecDeque.{VecDeque}
use Rattle.std.specs.declared.alloc.Global.{Global}
use Rattle.sr_unrolled_list.specs.declared.TheConstants.{PIECE}
use Rattle.sr_unrolled_list.specs.Lists.{front_of, IsFilled, IsBlank, AreSound, AreFew}

-- the first item goes last: the first piece has room again in the last one and in spare ones
pub turned : (front last spare less more front' last' spare' : ℕ) → front ≤ PIECE → 0 < front → front + last ≤ (spare + 1) * PIECE → last ≤ PIECE →
    less + 1 + spare * PIECE ≤ front + more * PIECE → (less ≡ 0 → spare < more) → last' + more * PIECE ≡ last + 1 + spare' * PIECE →
    front' ≤ PIECE → (0 < less → front' ≡ less) → front' + last' ≤ (spare' + 1) * PIECE
turned front last spare zero more front' last' spare' few some first full popped gone moved few' same = let one = gone refl in omega arith
turned front last spare (suc less) more front' last' spare' few some first full popped gone moved few' same = let e : front' ≡ suc less = same (omega arith) in omega arith

-- the first item goes last: as many items
pub as_many : {X : Type 0} (before last rest after last' : List X) (x : X) (len : ℕ) → len ≡ length before + length last → 0 < length before → rest ≡ drop 1 before →
    after ++ last' ≡ rest ++ last ++ x ∷ [] → len ≡ length after + length last'
as_many before last rest after last' x len counted some popped moved =
    omega (arith, counted, ap length popped, length-drop 1 before, ap length moved, length-append after last', length-append (rest ++ last) (x ∷ []), length-append rest last)

module _ {T : Type 0} where
  All-remove : (ps : List (VecDeque T Global)) (k : ℕ) → All (IsFilled {T = T}) ps → All (IsFilled {T = T}) (remove ps k)
  All-remove ps k all = All-append (IsFilled {T = T}) (take k ps) (drop (suc k) ps) (All-take (IsFilled {T = T}) k ps all) (All-drop (IsFilled {T = T}) (suc k) ps all)

  -- a piece goes, and is spare
  pub sound_less : (used spare less more : VecDeque (VecDeque T Global) Global) (k : ℕ) (p : VecDeque T Global) → AreSound used spare →
      k < length used.items → less.items ≡ remove used.items k → deque_capacity less ≡ deque_capacity used →
      more.items ≡ spare.items ++ p ∷ [] → deque_capacity more ≡ deque_capacity spare → IsBlank p → AreSound less more
  sound_less used spare less more k p sound within gone room added spare_room blank =
      let short = length-remove used.items k within in
      let long = length-append spare.items (p ∷ []) in
      let fewer = ap length gone in
      let longer = ap length added in
      record {
        filled = subst (λ (ps : List (VecDeque T Global)). All (IsFilled {T = T}) ps) (sym gone) (All-remove used.items k sound.filled);
        blank = subst (λ (ps : List (VecDeque T Global)). All (IsBlank {T = T}) ps) (sym added) (All-push (IsBlank {T = T}) spare.items p sound.blank blank);
        used_fit = omega (arith, short, long, fewer, longer, sound.used_fit);
        spare_fit = omega (arith, short, long, fewer, longer, sound.spare_fit);
      }

  -- a piece changes
  pub sound_set : (used other spare : VecDeque (VecDeque T Global) Global) (k : ℕ) (p : VecDeque T Global) → AreSound used spare →
      other.items ≡ set used.items k p → deque_capacity other ≡ deque_capacity used → IsFilled p → AreSound other spare
  sound_set used other spare k p sound changed room filled =
      let same = length-set used.items k p in
      let long = ap length changed in
      record {
        filled = subst (λ (ps : List (VecDeque T Global)). All (IsFilled {T = T}) ps) (sym changed) (All-set (IsFilled {T = T}) used.items k p filled sound.filled);
        blank = sound.blank;
        used_fit = omega (arith, same, long, sound.used_fit);
        spare_fit = omega (arith, same, long, sound.spare_fit);
      }

  -- the first piece has no more items than any may have
  pub front_few : (ps : List (VecDeque T Global)) → All (IsFilled {T = T}) ps → front_of ps ≤ PIECE
  front_few [] all = omega arith
  front_few (p ∷ ps) all = (All-get_or (IsFilled {T = T}) (p ∷ ps) 0 p (omega arith) all).is.few

  pub front_some : (ps : List (VecDeque T Global)) → All (IsFilled {T = T}) ps → 0 < length ps → 0 < front_of ps
  front_some [] all some = absurd (omega arith)
  front_some (p ∷ ps) all some = (All-get_or (IsFilled {T = T}) (p ∷ ps) 0 p (omega arith) all).some

  pub front_set : (ps : List (VecDeque T Global)) (k : ℕ) (p w : VecDeque T Global) → p ≡ get_or ps k p → k < length ps → length w.items ≤ length p.items → front_of (set ps k w) ≤ front_of ps
  front_set [] k p w here within less = omega arith
  front_set (q ∷ qs) zero p w here within less = let e = ap (λ (v : VecDeque T Global). length v.items) here in omega (arith, e)
  front_set (q ∷ qs) (suc k) p w here within less = omega arith

  -- two neighbours become one
  pub sound_joined : (used spare less other more : VecDeque (VecDeque T Global) Global) (k j : ℕ) (p next w blank : VecDeque T Global) → AreSound used spare → AreFew used.items k → j ≡ k + 1 →
      less.items ≡ remove used.items j → deque_capacity less ≡ deque_capacity used →
      p ≡ get_or less.items k p → next ≡ get_or used.items j next → w.items ≡ p.items ++ next.items → deque_capacity p ≤ deque_capacity w →
      other.items ≡ set less.items k w → deque_capacity other ≡ deque_capacity less →
      blank.items ≡ [] → deque_capacity blank ≡ deque_capacity next →
      more.items ≡ spare.items ++ blank ∷ [] → deque_capacity more ≡ deque_capacity spare → AreSound other more
  sound_joined used spare less other more k j p next w blank sound few after gone room here there both room_w changed same_room none room_blank added spare_room =
      let inside : j < length used.items = omega (arith, few.inside) in
      let there' : next ≡ get_or used.items (k + 1) next = subst (λ n. next ≡ get_or used.items n next) after there in
      let before : p ≡ get_or used.items k p = here ∙ (ap (λ ps. get_or ps k p) gone ∙ get_or-remove_below used.items j p k (omega arith) inside) in
      let p_is : IsFilled p = subst (IsFilled {T = T}) (sym before) (All-get_or (IsFilled {T = T}) used.items k p (omega arith) sound.filled) in
      let next_is : IsFilled next = subst (IsFilled {T = T}) (sym there) (All-get_or (IsFilled {T = T}) used.items j next inside sound.filled) in
      let long = ap length both ∙ length-append p.items next.items in
      let fit = few.few p next before there' in
      let w_is : IsFilled w = record { some = omega (arith, long, p_is.some); is = record { few = omega (arith, long, fit); room = omega (arith, room_w, p_is.is.room) } } in
      let blank_is : IsBlank blank = record { none = none; room = omega (arith, room_blank, next_is.is.room) } in
      sound_set less other more k w (sound_less used spare less more j blank sound inside gone room added spare_room blank_is) changed same_room w_is

  -- a piece has room for the items of the one behind it
  pub joined_fit : (used spare less : VecDeque (VecDeque T Global) Global) (k j : ℕ) (p next : VecDeque T Global) → AreSound used spare → AreFew used.items k → j ≡ k + 1 →
      less.items ≡ remove used.items j → p ≡ get_or less.items k p → next ≡ get_or used.items j next → length p.items + length next.items ≤ deque_capacity p
  joined_fit used spare less k j p next sound few after gone here there =
      let inside : j < length used.items = omega (arith, few.inside) in
      let there' : next ≡ get_or used.items (k + 1) next = subst (λ n. next ≡ get_or used.items n next) after there in
      let before : p ≡ get_or used.items k p = here ∙ (ap (λ ps. get_or ps k p) gone ∙ get_or-remove_below used.items j p k (omega arith) inside) in
      let p_is : IsFilled p = subst (IsFilled {T = T}) (sym before) (All-get_or (IsFilled {T = T}) used.items k p (omega arith) sound.filled) in
      omega (arith, few.few p next before there', p_is.is.room)

  -- a piece is taken whole, and its one item from it
  pub blank_after : (ps : List (VecDeque T Global)) (k : ℕ) (p after : VecDeque T Global) → All (IsFilled {T = T}) ps → k < length ps → p ≡ get_or ps k p →
      length p.items ≡ 1 → after.items ≡ drop 1 p.items → deque_capacity after ≡ deque_capacity p → IsBlank after
  blank_after ps k p after filled within here one gone room =
      let p_is : IsFilled p = subst (IsFilled {T = T}) (sym here) (All-get_or (IsFilled {T = T}) ps k p within filled) in
      record { none = gone ∙ drop_all 1 p.items (omega arith); room = omega (arith, room, p_is.is.room) }

  -- one more piece is spare
  pub sound_more : (used spare more : VecDeque (VecDeque T Global) Global) (p : VecDeque T Global) → AreSound used spare →
      p.items ≡ [] → deque_capacity p ≡ PIECE → more.items ≡ spare.items ++ p ∷ [] → deque_capacity more ≡ deque_capacity spare →
      length used.items + length spare.items + 1 ≤ deque_capacity used → length used.items + length spare.items + 1 ≤ deque_capacity spare → AreSound used more
  sound_more used spare more p sound none room added spare_room used_fit spare_fit =
      let long = ap length added ∙ length-append spare.items (p ∷ []) in
      record {
        filled = sound.filled;
        blank = subst (λ (ps : List (VecDeque T Global)). All (IsBlank {T = T}) ps) (sym added) (All-push (IsBlank {T = T}) spare.items p sound.blank (record { none = none; room = omega (arith, room) }));
        used_fit = omega (arith, long, used_fit);
        spare_fit = omega (arith, long, spare_fit, spare_room);
      }

  -- one more piece is in use
  pub front_push : (ps : List (VecDeque T Global)) (p : VecDeque T Global) → front_of ps ≤ PIECE → length p.items ≤ PIECE → front_of (ps ++ p ∷ []) ≤ PIECE
  front_push [] p few more = more
  front_push (q ∷ qs) p few more = few
