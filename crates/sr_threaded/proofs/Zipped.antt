-- Lists that are made side by side, item by item.
use Rattle.std.proofs.Common.{◌≡◌, ℕ, zero, suc, ◌<◌, List, [], ◌∷◌, ◌++◌, length, map, get_or, refl, sym, ap, ◌∙◌, subst, arith, append_assoc, length-append}
use Rattle.std.proofs.lemmas.List.{get_or_append_left, append-nil, nil_from_length}

-- the fact holds of what stands at each place, and the lists are of one length
abbrev pub Zipped : {A B C : Type 0} → (A → B → C → Type 0) → List A → List B → List C → Type 0
Zipped P [] [] [] = Unit {0}
Zipped P (x ∷ xs) (y ∷ ys) (z ∷ zs) = P x y z × Zipped P xs ys zs
Zipped P [] [] (z ∷ zs) = ⊥
Zipped P [] (y ∷ ys) zs = ⊥
Zipped P (x ∷ xs) [] zs = ⊥
Zipped P (x ∷ xs) (y ∷ ys) [] = ⊥

pub zipped_more : {A B C : Type 0} (P : A → B → C → Type 0) (xs : List A) (ys : List B) (zs : List C) (x : A) (y : B) (z : C) → Zipped P xs ys zs → P x y z → Zipped P (xs ++ x ∷ []) (ys ++ y ∷ []) (zs ++ z ∷ [])
zipped_more P [] [] [] x y z was is = (is, tt)
zipped_more P [] [] (c ∷ cs) x y z was is = absurd was
zipped_more P [] (b ∷ bs) cs x y z was is = absurd was
zipped_more P (a ∷ aa) [] cs x y z was is = absurd was
zipped_more P (a ∷ aa) (b ∷ bs) [] x y z was is = absurd was
zipped_more P (a ∷ aa) (b ∷ bs) (c ∷ cs) x y z was is = (was.0, zipped_more P aa bs cs x y z was.1 is)

pub zipped_second : {A B C : Type 0} (P : A → B → C → Type 0) (xs : List A) (ys : List B) (zs : List C) → Zipped P xs ys zs → length ys ≡ length xs
zipped_second P [] [] [] was = refl
zipped_second P [] [] (c ∷ cs) was = absurd was
zipped_second P [] (b ∷ bs) cs was = absurd was
zipped_second P (a ∷ aa) [] cs was = absurd was
zipped_second P (a ∷ aa) (b ∷ bs) [] was = absurd was
zipped_second P (a ∷ aa) (b ∷ bs) (c ∷ cs) was = ap suc (zipped_second P aa bs cs was.1)

pub zipped_third : {A B C : Type 0} (P : A → B → C → Type 0) (xs : List A) (ys : List B) (zs : List C) → Zipped P xs ys zs → length zs ≡ length xs
zipped_third P [] [] [] was = refl
zipped_third P [] [] (c ∷ cs) was = absurd was
zipped_third P [] (b ∷ bs) cs was = absurd was
zipped_third P (a ∷ aa) [] cs was = absurd was
zipped_third P (a ∷ aa) (b ∷ bs) [] was = absurd was
zipped_third P (a ∷ aa) (b ∷ bs) (c ∷ cs) was = ap suc (zipped_third P aa bs cs was.1)

pub zipped_at : {A B C : Type 0} (P : A → B → C → Type 0) (xs : List A) (ys : List B) (zs : List C) → Zipped P xs ys zs → (i : ℕ) (a : A) (b : B) (c : C) → i < length xs → P (get_or xs i a) (get_or ys i b) (get_or zs i c)
zipped_at P [] ys zs was i a b c low = absurd (omega (arith, low))
zipped_at P (x ∷ xs) [] zs was i a b c low = absurd was
zipped_at P (x ∷ xs) (y ∷ ys) [] was i a b c low = absurd was
zipped_at P (x ∷ xs) (y ∷ ys) (z ∷ zs) was zero a b c low = was.0
zipped_at P (x ∷ xs) (y ∷ ys) (z ∷ zs) was (suc i) a b c low = zipped_at P xs ys zs was.1 i a b c (omega (arith, low))

-- of two lists these are left, and of what stood before them the third was made
pub record Joining {A B C : Type 0} (P : A → B → C → Type 0) (first : List A) (second : List B) (rest : List A) (others : List B) (all : List C) : Type 0 where
  pub xs : List A
  pub ys : List B
  pub first_is : first ≡ xs ++ rest
  pub second_is : second ≡ ys ++ others
  pub zipped : Zipped P xs ys all

shift : {A : Type 0} (all xs rest behind : List A) (x : A) → all ≡ xs ++ rest → rest ≡ x ∷ behind → all ≡ (xs ++ x ∷ []) ++ behind
shift all xs rest behind x is head = is ∙ ap (λ l. xs ++ l) head ∙ sym (append_assoc xs (x ∷ []) behind)

pub none_joined : {A B C : Type 0} (P : A → B → C → Type 0) (first : List A) (second : List B) (all : List C) → all ≡ [] → Joining P first second first second all
none_joined P first second all is = record { xs = []; ys = []; first_is = refl; second_is = refl; zipped = subst (λ l. Zipped P [] [] l) (sym is) tt }

pub one_joined : {A B C : Type 0} (P : A → B → C → Type 0) (first : List A) (second : List B) (rest behind : List A) (others after : List B) (all now : List C) (x : A) (y : B) (z : C) → Joining P first second rest others all → rest ≡ x ∷ behind → others ≡ y ∷ after → P x y z → now ≡ all ++ z ∷ [] → Joining P first second behind after now
one_joined P first second rest behind others after all now x y z was head next is then_is =
    record {
      xs = was.xs ++ x ∷ [];
      ys = was.ys ++ y ∷ [];
      first_is = shift first was.xs rest behind x was.first_is head;
      second_is = shift second was.ys others after y was.second_is next;
      zipped = subst (λ l. Zipped P (was.xs ++ x ∷ []) (was.ys ++ y ∷ []) l) (sym then_is) (zipped_more P was.xs was.ys all x y z was.zipped is);
    }

pub all_joined : {A B C : Type 0} (P : A → B → C → Type 0) (first : List A) (second : List B) (rest : List A) (others : List B) (all : List C) → Joining P first second rest others all → length all ≡ length first → (i : ℕ) (a : A) (b : B) (c : C) → i < length first → P (get_or first i a) (get_or second i b) (get_or all i c)
all_joined P first second rest others all was len i a b c low =
    let third = zipped_third P was.xs was.ys all was.zipped in
    let same = zipped_second P was.xs was.ys all was.zipped in
    let within : i < length was.xs = omega (arith, low, len, third) in
    let here : get_or first i a ≡ get_or was.xs i a = ap (λ l. get_or l i a) was.first_is ∙ get_or_append_left was.xs rest a i within in
    let there : get_or second i b ≡ get_or was.ys i b = ap (λ l. get_or l i b) was.second_is ∙ get_or_append_left was.ys others b i (omega (arith, within, same)) in
    let Q : _ × _ → Type 0 = λ x. P x.0 x.1 (get_or all i c) in
    subst Q (λ k. (sym here k, sym there k)) (zipped_at P was.xs was.ys all was.zipped i a b c within)

-- of a list these are left, and of what stood before them two lists were made
pub record Splitting {A B C : Type 0} (P : A → B → C → Type 0) (items rest : List A) (ys : List B) (zs : List C) : Type 0 where
  pub xs : List A
  pub items_is : items ≡ xs ++ rest
  pub zipped : Zipped P xs ys zs

pub one_split : {A B C : Type 0} (P : A → B → C → Type 0) (items rest behind : List A) (ys ys' : List B) (zs zs' : List C) (x : A) (y : B) (z : C) → Splitting P items rest ys zs → rest ≡ x ∷ behind → P x y z → ys' ≡ ys ++ y ∷ [] → zs' ≡ zs ++ z ∷ [] → Splitting P items behind ys' zs'
one_split P items rest behind ys ys' zs zs' x y z was head is first second =
    let Q : _ × _ → Type 0 = λ l. Zipped P (was.xs ++ x ∷ []) l.0 l.1 in
    record {
      xs = was.xs ++ x ∷ [];
      items_is = shift items was.xs rest behind x was.items_is head;
      zipped = subst Q (λ k. (sym first k, sym second k)) (zipped_more P was.xs ys zs x y z was.zipped is);
    }

-- where as many stand before what is left as in all, nothing is left
pub all_before : {A : Type 0} (all xs rest : List A) → all ≡ xs ++ rest → length xs ≡ length all → all ≡ xs
all_before all xs rest is len =
    let none : rest ≡ [] = nil_from_length rest (omega (arith, ap length is, length-append xs rest, len)) in
    is ∙ ap (λ l. xs ++ l) none ∙ append-nil xs

pub all_split : {A B C : Type 0} (P : A → B → C → Type 0) (items rest : List A) (ys : List B) (zs : List C) → Splitting P items rest ys zs → length ys ≡ length items → Zipped P items ys zs
all_split P items rest ys zs was len =
    let whole = all_before items was.xs rest was.items_is (sym (zipped_second P was.xs ys zs was.zipped) ∙ len) in
    subst (λ l. Zipped P l ys zs) (sym whole) was.zipped

-- what is made of the items of two lists is the same, where it is so at each place
pub same_maps : {A B C : Type 0} (f : A → C) (g : B → C) (xs : List A) (ys : List B) → length xs ≡ length ys → ((i : ℕ) (x : A) (y : B) → i < length xs → f (get_or xs i x) ≡ g (get_or ys i y)) → map f xs ≡ map g ys
same_maps f g [] [] len each = refl
same_maps f g [] (y ∷ ys) len each = absurd (omega (arith, len))
same_maps f g (x ∷ xs) [] len each = absurd (omega (arith, len))
same_maps f g (x ∷ xs) (y ∷ ys) len each =
    let first : f x ≡ g y = each 0 x y (omega arith) in
    let behind : map f xs ≡ map g ys = same_maps f g xs ys (omega (arith, len)) (λ i a b low. each (suc i) a b (omega (arith, low))) in
    λ k. first k ∷ behind k
