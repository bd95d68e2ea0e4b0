-- Where the place of an address is in the map.
use Rattle.std.proofs.Common.{◌≡◌, ℕ, zero, suc, ◌+◌, Bool, true, false, cond, not, nat_lt, List, [], ◌∷◌, length, Option, None, Some, is_some, IfSome, refl, sym, ap, ◌∙◌, arith}
use Rattle.std.specs.Map.{lookup, set_value, values_of, keys_of}
use Rattle.std.specs.List.{IsDistinct, AllByRecursion, position, position_or_len, slice_get}
use Rattle.std.specs.Option.{option_map}
use Rattle.std.proofs.lemmas.Option.{slice_get-map}
use Rattle.indexmap.specs.IndexMap.{set_value_at}
use Rattle.sr_frame.specs.declared.fields.Mac.{Mac}
use Rattle.sr_frame.specs.Addresses.{mac_eq}
use Rattle.sr_frame.specs.AddressLemmas.{mac_refl, mac_symm}
use Rattle.sr_slots.specs.Places.{StandsAt}

-- the first index where a test passes
pub position_is : {X : Type 0} (test : X → Bool) (xs : List X) (i : ℕ) → Some i ≡ position test xs → position_or_len test xs ≡ i
position_is test xs i h = by (nat_lt (position_or_len test xs) (length xs)) h
  where
    by : (b : Bool) → Some i ≡ cond b (Some (position_or_len test xs)) None → position_or_len test xs ≡ i
    by true e = cc
    by false e = cc

module _ {X : Type 0} where
  set_at_first : (test : Mac → Bool) (es : List (Mac × X)) (w : X) → set_value_at es (position_or_len test (keys_of es)) w ≡ set_value test es w
  set_at_first test [] w = refl
  set_at_first test (e ∷ es) w = by (test e.0) (set_at_first test es w)
    where
      at_next : (i : ℕ) → set_value_at (e ∷ es) (1 + i) w ≡ e ∷ set_value_at es i w
      at_next i = let one : 1 + i ≡ suc i = omega arith in ap (λ k. set_value_at (e ∷ es) k w) one

      by : (t : Bool) → set_value_at es (position_or_len test (keys_of es)) w ≡ set_value test es w
          → set_value_at (e ∷ es) (cond (not t) (1 + position_or_len test (keys_of es)) 0) w ≡ cond t ((e.0, w) ∷ es) (e ∷ set_value test es w)
      by true ih = refl
      by false ih = at_next (position_or_len test (keys_of es)) ∙ ap (λ l. e ∷ l) ih

  -- the index that a look-up finds
  pub found_at : (m : Mac) (es : List (Mac × X)) (o : Option ℕ) → o ≡ position (mac_eq m) (keys_of es) → IfSome o (λ i. slice_get (values_of es) i ≡ lookup (mac_eq m) es)
      → is_some o ≡ is_some (lookup (mac_eq m) es) → IfSome o (λ i. StandsAt m es i)
  found_at m es None is value found = tt
  found_at m es (Some i) is value found = record {
    there = sym found;
    look = value;
    write = λ w. ap (λ k. set_value_at es k w) (sym (position_is (mac_eq m) (keys_of es) i is)) ∙ set_at_first (mac_eq m) es w;
  }

  -- an address differs from those before it
  differs : (m : Mac) (x : X) (k : Mac) (es : List (Mac × X)) (i : ℕ) → slice_get es i ≡ Some (m, x) → AllByRecursion (λ y. mac_eq k y ≡ false) (keys_of es) → mac_eq k m ≡ false
  differs m x k [] i at h = cc
  differs m x k (e ∷ es) zero at h = let v : e ≡ (m, x) = cc in ap (λ p. mac_eq k p.0) (sym v) ∙ h.0
  differs m x k (e ∷ es) (suc i) at h = differs m x k es i at h.1

  -- an index whose address was compared
  pub stands_here : (m : Mac) (x : X) (es : List (Mac × X)) (i : ℕ) → slice_get es i ≡ Some (m, x) → IsDistinct mac_eq (keys_of es) → StandsAt m es i
  unfolding IsDistinct
  stands_here m x [] i at unique = cc
  stands_here m x (e ∷ es) zero at unique =
      let v : e ≡ (m, x) = cc in
      let t : mac_eq m e.0 ≡ true = ap (λ p. mac_eq m p.0) v ∙ mac_refl m in
      let found : cond (mac_eq m e.0) (Some e.1) (lookup (mac_eq m) es) ≡ Some e.1 = ap (λ b. cond b (Some e.1) (lookup (mac_eq m) es)) t in
      record { there = ap is_some found; look = sym found; write = λ w. sym (ap (λ b. cond b ((e.0, w) ∷ es) (e ∷ set_value (mac_eq m) es w)) t) }
  stands_here m x (e ∷ es) (suc i) at unique =
      let f : mac_eq m e.0 ≡ false = mac_symm m e.0 ∙ differs m x e.0 es i at unique.0 in
      let rest = stands_here m x es i at unique.1 in
      let found : cond (mac_eq m e.0) (Some e.1) (lookup (mac_eq m) es) ≡ lookup (mac_eq m) es = ap (λ b. cond b (Some e.1) (lookup (mac_eq m) es)) f in
      record {
        there = ap is_some found ∙ rest.there;
        look = rest.look ∙ sym found;
        write = λ w. ap (λ l. e ∷ l) (rest.write w) ∙ sym (ap (λ b. cond b ((e.0, w) ∷ es) (e ∷ set_value (mac_eq m) es w)) f);
      }

  -- what the entry at the index has
  pub entry_there : (m : Mac) (es : List (Mac × X)) (i : ℕ) (o : Option (Mac × X)) → StandsAt m es i → o ≡ slice_get es i → lookup (mac_eq m) es ≡ option_map (λ e. e.1) o
  entry_there m es i o at is = sym at.look ∙ slice_get-map (λ e. e.1) es i ∙ ap (option_map (λ e. e.1)) (sym is)
