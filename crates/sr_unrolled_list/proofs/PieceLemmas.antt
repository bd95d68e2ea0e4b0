-- The items of pieces round one piece, and where a place is among pieces.
use Rattle.std.proofs.Common.{◌≡◌, ℕ, zero, suc, ◌+◌, ◌<◌, ◌≤◌, ◌-◌, List, [], ◌∷◌, ◌++◌, length, take, drop, get_or, set, refl, ap, sym, subst, ◌∙◌, append_assoc, length-append, inl, inr, arith}
use Rattle.std.specs.List.{remove}
use Rattle.std.proofs.lemmas.List.{set_split, set-get_or, get_or_append_left, get_or-append_right, take-append-le, take_all}
use Rattle.std.proofs.lemmas.Bool.{cases_lt}
use Rattle.std.proofs.lemmas.List.Concat.{flat_map-append, get_or-flat_map}
use Rattle.std.proofs.lemmas.List.Edits.{remove-append_left, remove-append_right}
use Rattle.std.specs.declared.collections.VecDeque.{VecDeque}
use Rattle.std.specs.declared.alloc.Global.{Global}
use Rattle.sr_unrolled_list.specs.Lists.{items_of, IsAt}

-- a list round one of its elements
pub split_at : {X : Type 0} (xs : List X) (i : ℕ) (x : X) → i < length xs → x ≡ get_or xs i x → xs ≡ take i xs ++ x ∷ drop (suc i) xs
split_at [] i x within here = absurd (omega arith)
split_at (y ∷ ys) zero x within here = ap (λ z. z ∷ ys) (sym here)
split_at (y ∷ ys) (suc i) x within here = ap (λ zs. y ∷ zs) (split_at ys i x (omega arith) here)

take_past : {X : Type 0} (xs ys : List X) (k : ℕ) → take (length xs + k) (xs ++ ys) ≡ xs ++ take k ys
take_past [] ys k = grind arith
take_past (x ∷ xs) ys k =
    let longer : suc (length xs) + k ≡ suc (length xs + k) = omega arith in
    ap (λ n. take n (x ∷ (xs ++ ys))) longer ∙ ap (λ zs. x ∷ zs) (take_past xs ys k)

-- an element is put where it is
pub set_same : {X : Type 0} (xs : List X) (i : ℕ) (x : X) → x ≡ get_or xs i x → set xs i x ≡ xs
set_same xs i x here = ap (set xs i) here ∙ set-get_or xs i x

-- a list of one item, without it
remove_only : {X : Type 0} (xs : List X) (i : ℕ) → length xs ≡ 1 → i < length xs → remove xs i ≡ []
remove_only [] i one within = absurd (omega arith)
remove_only (x ∷ []) zero one within = refl
remove_only (x ∷ []) (suc i) one within = absurd (omega arith)
remove_only (x ∷ y ∷ ys) i one within = absurd (omega arith)

-- what a list of one item has
pub read_only : {X : Type 0} (xs : List X) (i : ℕ) (x : X) → xs ≡ x ∷ [] → i < length xs → x ≡ get_or xs i x
read_only {X} xs i x only within =
    subst (λ (ys : List X). x ≡ get_or ys i x) (sym only) (at i (omega (arith, ap length only)))
  where
    at : (i : ℕ) → i < 1 → x ≡ get_or (x ∷ []) i x
    at zero h = refl
    at (suc i) h = absurd (omega arith)

module _ {T : Type 0} where
  -- the items round those of one piece
  pub around : (ps : List (VecDeque T Global)) (k : ℕ) (p : VecDeque T Global) → k < length ps → p ≡ get_or ps k p →
      items_of ps ≡ items_of (take k ps) ++ (p.items ++ items_of (drop (suc k) ps))
  around ps k p within here =
      ap items_of (split_at ps k p within here) ∙ flat_map-append (λ q. q.items) (take k ps) (p ∷ drop (suc k) ps)

  pub around_set : (ps : List (VecDeque T Global)) (k : ℕ) (w : VecDeque T Global) → k < length ps →
      items_of (set ps k w) ≡ items_of (take k ps) ++ (w.items ++ items_of (drop (suc k) ps))
  around_set ps k w within =
      ap items_of (set_split ps k w within) ∙ flat_map-append (λ q. q.items) (take k ps) (w ∷ drop (suc k) ps)

  pub around_remove : (ps : List (VecDeque T Global)) (k : ℕ) →
      items_of (remove ps k) ≡ items_of (take k ps) ++ items_of (drop (suc k) ps)
  around_remove ps k = flat_map-append (λ q. q.items) (take k ps) (drop (suc k) ps)

  -- an item goes from its piece
  pub removed : (ps : List (VecDeque T Global)) (place k r : ℕ) (p : VecDeque T Global) → IsAt ps place k r → k < length ps → p ≡ get_or ps k p →
      remove (items_of ps) place ≡ items_of (take k ps) ++ (remove p.items r ++ items_of (drop (suc k) ps))
  removed ps place k r p at within here =
      let inside = at.inside p within here in
      let front = items_of (take k ps) in
      let back = items_of (drop (suc k) ps) in
      let left : place - length front ≡ r = omega (arith, at.sum) in
      ap (λ xs. remove xs place) (around ps k p within here)
      ∙ (remove-append_right front (p.items ++ back) (length front) place refl (omega (arith, at.sum))
      ∙ ap (λ xs. front ++ xs) (ap (remove (p.items ++ back)) left ∙ remove-append_left p.items back r inside))

  -- the item at a place is that of its piece
  pub read_at : (ps : List (VecDeque T Global)) (place k r : ℕ) (p : VecDeque T Global) (x : T) → IsAt ps place k r → k < length ps → p ≡ get_or ps k p →
      x ≡ get_or p.items r x → x ≡ get_or (items_of ps) place x
  read_at ps place k r p x at within here same =
      let inside = at.inside p within here in
      let e = get_or-flat_map (λ q. q.items) ps k r p x within (subst (λ (q : VecDeque T Global). r < length q.items) here inside) in
      same ∙ (ap (λ (q : VecDeque T Global). get_or q.items r x) here ∙ (sym e ∙ ap (λ n. get_or (items_of ps) n x) (sym at.sum)))

  -- a place that is within is in a piece
  pub within_pieces : (ps : List (VecDeque T Global)) (place k r : ℕ) → IsAt ps place k r → place < length (items_of ps) → k < length ps
  within_pieces ps place k r at inside =
      elim (cases_lt k (length ps)) [
        | inl short ↦ short
        | inr long ↦ let whole = ap (λ qs. length (items_of qs)) (take_all k ps long) in absurd (omega (arith, whole, at.sum))
      ]

  pub spot_here : (xs ys : List (VecDeque T Global)) (place k r : ℕ) → IsAt xs place k r → k < length xs → IsAt (xs ++ ys) place k r
  spot_here xs ys place k r at within = record {
    few = omega (arith, length-append xs ys);
    sum = rw (take-append-le k xs ys (omega arith)) at.sum;
    inside = λ p short here. at.inside p within (here ∙ get_or_append_left xs ys p k within);
  }

  pub spot_behind : (xs ys : List (VecDeque T Global)) (place k r j s : ℕ) → IsAt xs place k r → length xs ≤ k → IsAt ys r j s →
      IsAt (xs ++ ys) place (length xs + j) s
  spot_behind xs ys place k r j s at past next =
      let whole : take k xs ≡ xs = take_all k xs past in
      let first : place ≡ length (items_of xs) + r = subst (λ (zs : List (VecDeque T Global)). place ≡ length (items_of zs) + r) whole at.sum in
      let both : length (items_of (take (length xs + j) (xs ++ ys))) ≡ length (items_of xs) + length (items_of (take j ys)) =
      ap (λ zs. length (items_of zs)) (take_past xs ys j) ∙ (ap length (flat_map-append (λ q. q.items) xs (take j ys)) ∙ length-append (items_of xs) (items_of (take j ys))) in
      record {
        few = omega (arith, length-append xs ys, next.few);
        sum = omega (arith, next.sum, both, first);
        inside = λ p short here. next.inside p (omega (arith, length-append xs ys)) (here ∙ (get_or-append_right xs ys (length xs) (length xs + j) p refl (omega arith) ∙ ap (λ n. get_or ys n p) (omega arith)));
      }

  -- two neighbours become one
  pub joined : (ps : List (VecDeque T Global)) (k j : ℕ) (p next w : VecDeque T Global) → j ≡ suc k → j < length ps →
      p ≡ get_or (remove ps j) k p → next ≡ get_or ps j next → w.items ≡ p.items ++ next.items → items_of (set (remove ps j) k w) ≡ items_of ps
  joined ps k j p next w after within here there both =
      subst (λ n. items_of (set (remove ps n) k w) ≡ items_of ps) (sym after)
      (at_last ps k p next w (omega arith) (subst (λ n. p ≡ get_or (remove ps n) k p) after here) (subst (λ n. next ≡ get_or ps n next) after there) both)
    where
      at_last : (ps : List (VecDeque T Global)) (k : ℕ) (p next w : VecDeque T Global) → suc k < length ps →
          p ≡ get_or (remove ps (suc k)) k p → next ≡ get_or ps (suc k) next → w.items ≡ p.items ++ next.items → items_of (set (remove ps (suc k)) k w) ≡ items_of ps
      at_last [] k p next w within here there both = absurd (omega arith)
      at_last (q ∷ []) zero p next w within here there both = absurd (omega arith)
      at_last (q ∷ r ∷ rs) zero p next w within here there both =
          let first = ap (λ (v : VecDeque T Global). v.items) here in
          let second = ap (λ (v : VecDeque T Global). v.items) there in
          let two : w.items ≡ q.items ++ r.items = cc in
          ap (λ xs. xs ++ items_of rs) two ∙ append_assoc q.items r.items (items_of rs)
      at_last (q ∷ qs) (suc k) p next w within here there both =
          ap (λ xs. q.items ++ xs) (at_last qs k p next w (omega arith) here there both)

  -- a place that is in a piece is within
  pub place_within : (ps : List (VecDeque T Global)) (place k r : ℕ) (p : VecDeque T Global) → IsAt ps place k r → k < length ps → p ≡ get_or ps k p →
      place < length (items_of ps)
  place_within ps place k r p at within here =
      let inside = at.inside p within here in
      let front = items_of (take k ps) in
      let back = items_of (drop (suc k) ps) in
      let long = ap length (around ps k p within here) in
      omega (arith, at.sum, long, length-append front (p.items ++ back), length-append p.items back)

  -- an item goes from its piece, which stays
  pub removed_part : (ps : List (VecDeque T Global)) (place k r : ℕ) (p w : VecDeque T Global) → IsAt ps place k r → k < length ps → p ≡ get_or ps k p →
      w.items ≡ remove p.items r → items_of (set ps k w) ≡ remove (items_of ps) place
  removed_part ps place k r p w at within here gone =
      around_set ps k w within
      ∙ (ap (λ xs. items_of (take k ps) ++ (xs ++ items_of (drop (suc k) ps))) gone ∙ sym (removed ps place k r p at within here))

  -- a piece goes with its only item
  pub removed_whole : (ps : List (VecDeque T Global)) (place k r : ℕ) (p : VecDeque T Global) → IsAt ps place k r → k < length ps → p ≡ get_or ps k p →
      length p.items ≡ 1 → items_of (remove ps k) ≡ remove (items_of ps) place
  removed_whole ps place k r p at within here one =
      around_remove ps k
      ∙ (ap (λ xs. items_of (take k ps) ++ (xs ++ items_of (drop (suc k) ps))) (sym (remove_only p.items r one (at.inside p within here)))
      ∙ sym (removed ps place k r p at within here))
