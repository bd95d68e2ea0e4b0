-- The join of two tables, one source after another.
use Rattle.std.proofs.Common.{◌≡◌, ℕ, suc, ◌+◌, ◌≤◌, Bool, true, false, cond, not, nat_lt, [], ◌∷◌, ◌++◌, length, Option, None, Some, is_some, refl, sym, ap, ◌∙◌, subst, arith, append_assoc}
use Rattle.std.specs.Prelude.{find, Result, IfErr, unwrap_or}
use Rattle.std.specs.List.{IsDistinct, AllByRecursion}
use Rattle.std.specs.Map.{lookup, keys_of}
use Rattle.std.specs.Option.{option_map}
use Rattle.std.proofs.lemmas.Map.{keys-set_value, length-set_value}
use Rattle.std.proofs.lemmas.Map.Entries.{length-keys_of}
use Rattle.std.proofs.lemmas.List.{length-append, map-append, append-nil}
use Rattle.sr_frame.specs.declared.fields.Mac.{Mac}
use Rattle.sr_frame.specs.Addresses.{mac_eq}
use Rattle.sr_frame.specs.AddressLemmas.{mac_same, mac_symm}
use Rattle.sr_slots.specs.EntryLemmas.{lookup-set, lookup-push, lookup-passing, distinct-passing}
use Rattle.sr_slots.specs.Calls.{passing}
use Rattle.std.proofs.lemmas.Bool.{ltb-false, le-ltb}
use Rattle.sr_dup_table.specs.declared.fault.DupFault.{DupFault}
use Rattle.sr_dup_table.specs.declared.fault.DupFault.TheVariants.{TableFull, Apart, NoMemory}
use Rattle.sr_dup_table.specs.Sources.{Remembered, Sources, Table, is_live, live_at}
use Rattle.sr_dup_table.specs.Joins.{joined, joined_heard, lacking_in, IsJoin, join_count, is_apart, first_apart, join_fault, merge_fault, new_source, apart_source, or_else, put_with, with_source, with_sources}
use Rattle.sr_dup_table.proofs.SameLemmas.{absent_apart}

-- what stands at an address after one source was joined
at_with : (w : ℕ) (s : Sources) (e : Mac × Remembered) (q : Mac) (o : Option Remembered) → lookup (mac_eq e.0) s ≡ o
    → lookup (mac_eq q) (put_with w o s e) ≡ cond (mac_eq e.0 q) (joined w o (Some e.1)) (lookup (mac_eq q) s)
at_with w s e q None at = lookup-push e.0 q e.1 s at
at_with w s e q (Some h) at = lookup-set e.0 q (joined_heard w h e.1) s (ap is_some at)

lookup-with : (w : ℕ) (s : Sources) (e : Mac × Remembered) (q : Mac) → lookup (mac_eq q) (with_source w s e) ≡ cond (mac_eq e.0 q) (joined w (lookup (mac_eq e.0) s) (Some e.1)) (lookup (mac_eq q) s)
lookup-with w s e q = at_with w s e q (lookup (mac_eq e.0) s) refl

-- another address is left as it was
pub lookup-other : (w : ℕ) (s : Sources) (e : Mac × Remembered) (q : Mac) → mac_eq e.0 q ≡ false → lookup (mac_eq q) (with_source w s e) ≡ lookup (mac_eq q) s
lookup-other w s e q apart = lookup-with w s e q ∙ ap (λ b. cond b (joined w (lookup (mac_eq e.0) s) (Some e.1)) (lookup (mac_eq q) s)) apart

joined-right : (w : ℕ) (a : Option Remembered) → joined w a None ≡ a
joined-right w None = refl
joined-right w (Some a) = refl

-- the sources that are lacking, where those that are looked for are the same
lacking-same : (m : Mac) (s other t : Sources) → AllByRecursion (λ y. mac_eq m y ≡ false) (keys_of t)
    → ((q : Mac) → mac_eq m q ≡ false → lookup (mac_eq q) other ≡ lookup (mac_eq q) s) → lacking_in other t ≡ lacking_in s t
lacking-same m s other [] apart same = refl
lacking-same m s other (x ∷ t) apart same = λ i. cond (not (is_some (same x.0 apart.0 i))) (x ∷ lacking-same m s other t apart.1 same i) (lacking-same m s other t apart.1 same i)

-- nor do other records come apart
apart-same : (m : Mac) (s other t : Sources) → AllByRecursion (λ y. mac_eq m y ≡ false) (keys_of t)
    → ((q : Mac) → mac_eq m q ≡ false → lookup (mac_eq q) other ≡ lookup (mac_eq q) s) → first_apart other t ≡ first_apart s t
apart-same m s other [] apart same = refl
apart-same m s other (x ∷ t) apart same = by (is_apart (lookup (mac_eq x.0) s) x.1) (is_apart (lookup (mac_eq x.0) other) x.1)
    (ap (λ o. is_apart o x.1) (same x.0 apart.0)) (apart-same m s other t apart.1 same)
  where
    by : (a b : Bool) → b ≡ a → first_apart other t ≡ first_apart s t
        → option_map (λ e. e.0) (cond b (Some x) (find (λ e. is_apart (lookup (mac_eq e.0) other) e.1) t))
        ≡ option_map (λ e. e.0) (cond a (Some x) (find (λ e. is_apart (lookup (mac_eq e.0) s) e.1) t))
    by true true e ih = refl
    by true false e ih = cc
    by false true e ih = cc
    by false false e ih = ih

-- the live ones of a list
pub live-none : (now : ℕ) (s : Sources) (q : Mac) → IsDistinct mac_eq (keys_of s) → lookup (mac_eq q) s ≡ None → lookup (mac_eq q) (live_at now s) ≡ None
live-none now s q unique at = lookup-passing (is_live now) q s unique ∙ ap (passing (is_live now)) at

pub live-there : (now : ℕ) (s : Sources) (q : Mac) (h : Remembered) → IsDistinct mac_eq (keys_of s) → lookup (mac_eq q) s ≡ Some h → is_live now h ≡ true → lookup (mac_eq q) (live_at now s) ≡ Some h
live-there now s q h unique at live = lookup-passing (is_live now) q s unique ∙ ap (passing (is_live now)) at ∙ ap (λ b. cond b (Some h) None) live

pub live-gone : (now : ℕ) (s : Sources) (q : Mac) (h : Remembered) → IsDistinct mac_eq (keys_of s) → lookup (mac_eq q) s ≡ Some h → is_live now h ≡ false → lookup (mac_eq q) (live_at now s) ≡ None
live-gone now s q h unique at dead = lookup-passing (is_live now) q s unique ∙ ap (passing (is_live now)) at ∙ ap (λ b. cond b (Some h) None) dead

-- the first of some is live, or not
pub live-first : (now : ℕ) (e : Mac × Remembered) (r es : Sources) → es ≡ e ∷ r → is_live now e.1 ≡ true → live_at now es ≡ e ∷ live_at now r
live-first now e r es parts live = ap (live_at now) parts ∙ ap (λ b. cond b (e ∷ live_at now r) (live_at now r)) live

pub live-passed : (now : ℕ) (e : Mac × Remembered) (r es : Sources) → es ≡ e ∷ r → is_live now e.1 ≡ false → live_at now es ≡ live_at now r
live-passed now e r es parts dead = ap (live_at now) parts ∙ ap (λ b. cond b (e ∷ live_at now r) (live_at now r)) dead

-- what is seen of the first of some
pub count-first : (s t : Sources) (e : Mac × Remembered) → length (lacking_in s (e ∷ t)) ≡ length (new_source (lookup (mac_eq e.0) s) e) + length (lacking_in s t)
count-first s t e = by (is_some (lookup (mac_eq e.0) s))
  where
    by : (b : Bool) → length (cond (not b) (e ∷ lacking_in s t) (lacking_in s t)) ≡ length (cond b [] (e ∷ [])) + length (lacking_in s t)
    by true = omega arith
    by false = omega arith

pub apart-first : (s t : Sources) (e : Mac × Remembered) (o : Option Mac) → or_else o (first_apart s (e ∷ t)) ≡ or_else (or_else o (apart_source (lookup (mac_eq e.0) s) e)) (first_apart s t)
apart-first s t e (Some m) = refl
apart-first s t e None = by (is_apart (lookup (mac_eq e.0) s) e.1)
  where
    by : (b : Bool) → option_map (λ e. e.0) (cond b (Some e) (find (λ e. is_apart (lookup (mac_eq e.0) s) e.1) t)) ≡ or_else (cond b (Some e.0) None) (first_apart s t)
    by true = refl
    by false = refl

-- the addresses of live sources are among all
apart-live : (now : ℕ) (m : Mac) (t : Sources) → AllByRecursion (λ y. mac_eq m y ≡ false) (keys_of t) → AllByRecursion (λ y. mac_eq m y ≡ false) (keys_of (live_at now t))
apart-live now m [] h = tt
apart-live now m (e ∷ t) h = by (is_live now e.1) (apart-live now m t h.1)
  where
    by : (b : Bool) → AllByRecursion (λ y. mac_eq m y ≡ false) (keys_of (live_at now t)) → AllByRecursion (λ y. mac_eq m y ≡ false) (keys_of (cond b (e ∷ live_at now t) (live_at now t)))
    by true ih = (h.0, ih)
    by false ih = ih

pub not-true : (b : Bool) → not b ≡ true → b ≡ false
not-true true h = sym h
not-true false h = refl

put-more : (w : ℕ) (s : Sources) (e : Mac × Remembered) (o : Option Remembered) → length (put_with w o s e) ≡ length s + length (new_source o e)
put-more w s e None = length-append s (e ∷ [])
put-more w s e (Some h) = omega (arith, length-set_value (mac_eq e.0) s (joined_heard w h e.1))

pub length-known : (w : ℕ) (s : Sources) (e : Mac × Remembered) → is_some (lookup (mac_eq e.0) s) ≡ true → length (with_source w s e) ≡ length s
length-known w s e there = omega (arith, put-more w s e (lookup (mac_eq e.0) s), ap (λ b. length (cond b [] (e ∷ []))) there)

-- one live source that is close is joined, and what is left makes the same of it
pub record Takes (w : ℕ) (now : ℕ) (s : Sources) (e : Mac × Remembered) (r es : Sources) : Type 0 where
  pub rest : with_sources w (with_source w s e) (live_at now r) ≡ with_sources w s (live_at now es)
  pub close : first_apart (with_source w s e) (live_at now r) ≡ first_apart s (live_at now es)
  pub count : length (with_source w s e) + length (lacking_in (with_source w s e) (live_at now r)) ≡ join_count s (live_at now es)

pub takes : (w : ℕ) (now : ℕ) (s : Sources) (e : Mac × Remembered) (r es : Sources) → es ≡ e ∷ r → is_live now e.1 ≡ true → IsDistinct mac_eq (keys_of es)
    → is_apart (lookup (mac_eq e.0) s) e.1 ≡ false → Takes w now s e r es
unfolding IsDistinct
takes w now s e r es parts live unique near =
    let here : live_at now es ≡ e ∷ live_at now r = live-first now e r es parts live in
    let apart : AllByRecursion (λ y. mac_eq e.0 y ≡ false) (keys_of (live_at now r)) =
    apart-live now e.0 r (subst (λ x. IsDistinct mac_eq (keys_of x)) parts unique).0 in
    let others : lacking_in (with_source w s e) (live_at now r) ≡ lacking_in s (live_at now r) =
    lacking-same e.0 s (with_source w s e) (live_at now r) apart (λ q other. lookup-other w s e q other) in
    record {
      rest = sym (ap (with_sources w s) here);
      close =
          apart-same e.0 s (with_source w s e) (live_at now r) apart (λ q other. lookup-other w s e q other)
          ∙ sym (ap (λ b. option_map (λ f. f.0) (cond b (Some e) (find (λ f. is_apart (lookup (mac_eq f.0) s) f.1) (live_at now r)))) near)
          ∙ sym (ap (first_apart s) here);
      count = omega (arith, ap length others, put-more w s e (lookup (mac_eq e.0) s), count-first s (live_at now r) e, ap (λ l. length (lacking_in s l)) here);
    }

-- of what has a join, each live source is close and finds room
pub record Fits (w : ℕ) (s : Sources) (e : Mac × Remembered) : Type 0 where
  pub room : length (with_source w s e) ≤ 1024
  pub close : is_apart (lookup (mac_eq e.0) s) e.1 ≡ false

pub fits : (w : ℕ) (now : ℕ) (s : Sources) (e : Mac × Remembered) (r es : Sources) → es ≡ e ∷ r → is_live now e.1 ≡ true → first_apart s (live_at now es) ≡ None
    → join_count s (live_at now es) ≤ 1024 → Fits w s e
fits w now s e r es parts live none few =
    let here : live_at now es ≡ e ∷ live_at now r = live-first now e r es parts live in
    record {
      room = omega (arith, put-more w s e (lookup (mac_eq e.0) s), count-first s (live_at now r) e, ap (λ l. length (lacking_in s l)) here);
      close = first_close (is_apart (lookup (mac_eq e.0) s) e.1) (sym (ap (first_apart s) here) ∙ none);
    }
  where
    first_close : (b : Bool) → option_map (λ f. f.0) (cond b (Some e) (find (λ f. is_apart (lookup (mac_eq f.0) s) f.1) (live_at now r))) ≡ None → b ≡ false
    first_close true h = cc
    first_close false h = refl

-- nothing is in the way where there is room and no records are apart
pub joinable : (s t : Sources) → join_count s t ≤ 1024 → first_apart s t ≡ None → join_fault s t ≡ None
joinable s t few none = rw (le-ltb 1024 (join_count s t) few, none) refl

-- the keys that are left
pub distinct-rest : (e : Mac × Remembered) (r es : Sources) → es ≡ e ∷ r → IsDistinct mac_eq (keys_of es) → IsDistinct mac_eq (keys_of r)
unfolding IsDistinct
distinct-rest e r es parts unique = (subst (λ x. IsDistinct mac_eq (keys_of x)) parts unique).1

-- sources that are joined one after another are the join
keys-put : (w : ℕ) (s t : Sources) (e : Mac × Remembered) (o : Option Remembered) → lookup (mac_eq e.0) s ≡ o → lacking_in (put_with w o s e) t ≡ lacking_in s t
    → keys_of (put_with w o s e) ++ keys_of (lacking_in (put_with w o s e) t) ≡ keys_of s ++ keys_of (cond (not (is_some o)) (e ∷ lacking_in s t) (lacking_in s t))
keys-put w s t e None at same =
    (λ i. keys_of (s ++ e ∷ []) ++ keys_of (same i))
    ∙ ap (λ ks. ks ++ keys_of (lacking_in s t)) (map-append (λ e. e.0) s (e ∷ []))
    ∙ append_assoc (keys_of s) (e.0 ∷ []) (keys_of (lacking_in s t))
keys-put w s t e (Some h) at same = λ i. keys-set_value (mac_eq e.0) s (joined_heard w h e.1) i ++ keys_of (same i)

pub with-is-join : (w : ℕ) (s t : Sources) → IsDistinct mac_eq (keys_of t) → IsJoin w s t (with_sources w s t)
unfolding IsDistinct
with-is-join w s [] unique = record { each = λ q. sym (joined-right w (lookup (mac_eq q) s)); order = sym (append-nil (keys_of s)) }
with-is-join w s (e ∷ t) unique = by (with-is-join w (with_source w s e) t unique.1)
  where
    others : lacking_in (with_source w s e) t ≡ lacking_in s t
    others = lacking-same e.0 s (with_source w s e) t unique.0 (λ q apart. lookup-other w s e q apart)

    at : (q : Mac) (b : Bool) → mac_eq e.0 q ≡ b → (c : Bool) → mac_eq q e.0 ≡ c
        → joined w (lookup (mac_eq q) (with_source w s e)) (lookup (mac_eq q) t) ≡ joined w (lookup (mac_eq q) s) (cond c (Some e.1) (lookup (mac_eq q) t))
    at q true p true r =
        let same : e.0 ≡ q = mac_same e.0 q p in
        let none : lookup (mac_eq q) t ≡ None = ap (λ m. lookup (mac_eq m) t) (sym same) ∙ absent_apart e.0 t unique.0 in
        let one : lookup (mac_eq q) (with_source w s e) ≡ joined w (lookup (mac_eq q) s) (Some e.1) =
        lookup-with w s e q ∙ ap (λ b. cond b (joined w (lookup (mac_eq e.0) s) (Some e.1)) (lookup (mac_eq q) s)) p ∙ ap (λ m. joined w (lookup (mac_eq m) s) (Some e.1)) same in
        (λ i. joined w (one i) (none i)) ∙ joined-right w (joined w (lookup (mac_eq q) s) (Some e.1))
    at q true p false r = let bad : true ≡ false = sym p ∙ mac_symm e.0 q ∙ r in cc
    at q false p true r = let bad : true ≡ false = sym r ∙ mac_symm q e.0 ∙ p in cc
    at q false p false r = ap (λ o. joined w o (lookup (mac_eq q) t)) (lookup-other w s e q p)

    by : IsJoin w (with_source w s e) t (with_sources w (with_source w s e) t) → IsJoin w s (e ∷ t) (with_sources w s (e ∷ t))
    by ih = record {
      each = λ q. ih.each q ∙ at q (mac_eq e.0 q) refl (mac_eq q e.0) refl;
      order = ih.order ∙ keys-put w s t e (lookup (mac_eq e.0) s) refl others;
    }

pub join-length : (w : ℕ) (s t both : Sources) → IsJoin w s t both → length both ≡ join_count s t
join-length w s t both j =
    sym (length-keys_of both) ∙ ap length j.order ∙ length-append (keys_of s) (keys_of (lacking_in s t))
    ∙ (λ i. length-keys_of s i + length-keys_of (lacking_in s t) i)

-- where nothing is in the way there is room, and no records are apart
pub none-in-the-way : (one other : Sources) → join_fault one other ≡ None → (join_count one other ≤ 1024) × (first_apart one other ≡ None)
none-in-the-way one other h = by (nat_lt 1024 (join_count one other)) refl h
  where
    mapped : (o : Option Mac) → option_map Apart o ≡ None → o ≡ None
    mapped None e = refl
    mapped (Some m) e = cc

    by : (b : Bool) → nat_lt 1024 (join_count one other) ≡ b → cond b (Some TableFull) (option_map Apart (first_apart one other)) ≡ None
        → (join_count one other ≤ 1024) × (first_apart one other ≡ None)
    by true p e = cc
    by false p e = (ltb-false 1024 (join_count one other) p, mapped (first_apart one other) e)

pub lacking_le : (s t : Sources) → length (lacking_in s t) ≤ length t
lacking_le s [] = omega arith
lacking_le s (e ∷ t) = by (not (is_some (lookup (mac_eq e.0) s))) (lacking_le s t)
  where
    by : (b : Bool) → length (lacking_in s t) ≤ length t → length (cond b (e ∷ lacking_in s t) (lacking_in s t)) ≤ suc (length t)
    by true h = omega arith
    by false h = omega arith

pub distinct-live : (now : ℕ) (s : Sources) → IsDistinct mac_eq (keys_of s) → IsDistinct mac_eq (keys_of (live_at now s))
distinct-live now s unique = distinct-passing (is_live now) s unique

-- why a merge of two tables was refused is why that of what they show is
pub refused-as : {one other t u : Table} (now : ℕ) {said answer : Result (Unit {0}) DupFault} → one ≡ t → other ≡ u → answer ≡ said
    → IfErr said (λ e. e ≡ unwrap_or (merge_fault one other now) NoMemory) → IfErr answer (λ e. e ≡ unwrap_or (merge_fault t u now) NoMemory)
refused-as now first second same refused = rw (same, ← first, ← second) refused
