-- Tables that took the same arrivals know the same.
use Rattle.std.proofs.Common.{◌≡◌, ℕ, ◌≤◌, Bool, true, false, cond, nat_lt, List, [], ◌∷◌, ◌++◌, length, Option, None, Some, is_some, refl, sym, ap, ◌∙◌, subst, arith, ◌⊎◌, inl, inr}
use Rattle.std.specs.Prelude.{Contains}
use Rattle.std.specs.List.{IsDistinct}
use Rattle.std.specs.Map.{lookup, keys_of}
use Rattle.sr_frame.specs.declared.fields.Mac.{Mac}
use Rattle.sr_frame.specs.Addresses.{mac_eq}
use Rattle.sr_frame.specs.AddressLemmas.{mac_same, mac_symm}
use Rattle.sr_sequence.specs.Numbers.{wire}
use Rattle.sr_slots.specs.Calls.{passing}
use Rattle.sr_slots.specs.EntryLemmas.{lookup-set, lookup-push}
use Rattle.sr_dup_window.specs.Bins.{IsWidth}
use Rattle.sr_dup_window.specs.WindowLemmas.{same-numbers}
use Rattle.sr_dup_table.specs.Limits.{most_sources}
use Rattle.sr_dup_table.specs.Sources.{Remembered, Sources, is_live, live_at, with_room, begun_at, heard_next, after_of}
use Rattle.sr_dup_table.specs.Joins.{joined}
use Rattle.sr_laws_dup.specs.TableRuns.{Noting}
use Rattle.sr_laws_dup.specs.Starts.{stood}
use Rattle.sr_laws_dup_joins.specs.Growths.{Growth, empty, started, arrived, aged, merged, Grew, arrivals_of, remembered, epoch, numbers, latest, AreInOrder, AreSteady, IsSteady}
use Rattle.sr_laws_dup_joins.specs.GrowthLaws.{Tells, KeepsAll, TablesAgree}
use Rattle.sr_laws_dup_joins.proofs.ListLemmas.{Among, among-from, contains-from, among-left, among-right, among-either, among-remembered, number-of, same-numbers-among, no-newer}
use Rattle.sr_laws_dup_joins.proofs.StartLemmas.{noted-from, start_has}
use Rattle.sr_laws_dup_joins.proofs.GrowthLemmas.{kept, live-is}

-- what is in an epoch is among the arrivals, and of the source
pub epoch-from : (t : Growth) (src : Mac) (now : ℕ) (x : Noting) → Among (epoch src now t) x → Among (arrivals_of t) x × (mac_eq src x.arrival.src ≡ true)
epoch-from empty src now x h = absurd h
epoch-from (started from top start) src now x h = noted-from src now (stood top start) x h
epoch-from (aged t at) src now x h = epoch-from t src now x h
epoch-from (merged t u at) src now x h =
    elim (among-either (epoch src at t) (epoch src at u) x (among-remembered now (epoch src at t ++ epoch src at u) x h)) [
      | inl g ↦ let r = epoch-from t src at x g in (among-left (arrivals_of t) (arrivals_of u) x r.0, r.1)
      | inr g ↦ let r = epoch-from u src at x g in (among-right (arrivals_of t) (arrivals_of u) x r.0, r.1)
    ]
epoch-from (arrived t y) src now x h = by (mac_eq src y.arrival.src) refl h (epoch-from t src now x) (epoch-from t src y.arrival.time x)
  where
    by : (b : Bool) → mac_eq src y.arrival.src ≡ b → Among (cond b (remembered now (y ∷ epoch src y.arrival.time t)) (epoch src now t)) x
        → (Among (epoch src now t) x → Among (arrivals_of t) x × (mac_eq src x.arrival.src ≡ true))
        → (Among (epoch src y.arrival.time t) x → Among (arrivals_of t) x × (mac_eq src x.arrival.src ≡ true))
        → Among (y ∷ arrivals_of t) x × (mac_eq src x.arrival.src ≡ true)
    by false p g later then = let r = later g in (inr r.0, r.1)
    by true p g later then =
        elim (among-remembered now (y ∷ epoch src y.arrival.time t) x g) [
          | inl e ↦ (inl e, ap (λ (z : Noting). mac_eq src z.arrival.src) (sym e) ∙ p)
          | inr k ↦ let r = then k in (inr r.0, r.1)
        ]

-- a source of the table is that of an arrival
abbrev HasArrival : Growth → Mac → Type 0
HasArrival t src = (x : Noting) × Among (arrivals_of t) x × (mac_eq src x.arrival.src ≡ true)

passing-there : (now : ℕ) (o : Option Remembered) → is_some (passing (is_live now) o) ≡ true → is_some o ≡ true
passing-there now None h = h
passing-there now (Some g) h = refl

live-there : (now : ℕ) (s : Sources) (src : Mac) → IsDistinct mac_eq (keys_of s) → is_some (lookup (mac_eq src) (live_at now s)) ≡ true → is_some (lookup (mac_eq src) s) ≡ true
live-there now s src keys h = passing-there now (lookup (mac_eq src) s) (ap is_some (sym (live-is now s src keys)) ∙ h)

room-there : (now : ℕ) (s : Sources) (src : Mac) → IsDistinct mac_eq (keys_of s) → is_some (lookup (mac_eq src) (with_room now s)) ≡ true → is_some (lookup (mac_eq src) s) ≡ true
room-there now s src keys h = by (nat_lt (length s) most_sources) h
  where
    by : (b : Bool) → is_some (lookup (mac_eq src) (cond b s (live_at now s))) ≡ true → is_some (lookup (mac_eq src) s) ≡ true
    by true h = h
    by false h = live-there now s src keys h

joined-there : (w : ℕ) (a b : Option Remembered) → is_some (joined w a b) ≡ true → (is_some a ≡ true) ⊎ (is_some b ≡ true)
joined-there w None b h = inr h
joined-there w (Some a) b h = inl refl

after-there : (w : ℕ) (x : Noting) (old : Sources) (src : Mac) (o : Option Remembered) → lookup (mac_eq x.arrival.src) old ≡ o → IsDistinct mac_eq (keys_of old)
    → is_some (lookup (mac_eq src) (after_of w o old x.arrival.src (wire x.arrival.number) x.lanes x.arrival.time)) ≡ true
    → (mac_eq src x.arrival.src ≡ true) ⊎ (is_some (lookup (mac_eq src) old) ≡ true)
after-there w x old src None at keys h =
    let r = with_room x.arrival.time old in
    let new = begun_at w (wire x.arrival.number) x.lanes x.arrival.time in
    by (mac_eq x.arrival.src src) refl (ap is_some (sym (lookup-push x.arrival.src src new r (absent (nat_lt (length old) most_sources)))) ∙ h)
  where
    absent : (b : Bool) → lookup (mac_eq x.arrival.src) (cond b old (live_at x.arrival.time old)) ≡ None
    absent true = at
    absent false = live-is x.arrival.time old x.arrival.src keys ∙ ap (passing (is_live x.arrival.time)) at

    by : (b : Bool) → mac_eq x.arrival.src src ≡ b
        → is_some (cond b (Some (begun_at w (wire x.arrival.number) x.lanes x.arrival.time)) (lookup (mac_eq src) (with_room x.arrival.time old))) ≡ true
        → (mac_eq src x.arrival.src ≡ true) ⊎ (is_some (lookup (mac_eq src) old) ≡ true)
    by true p g = inl (mac_symm src x.arrival.src ∙ p)
    by false p g = inr (room-there x.arrival.time old src keys g)
after-there w x old src (Some was) at keys h =
    let new = heard_next w was (wire x.arrival.number) x.lanes x.arrival.time in
    by (mac_eq x.arrival.src src) refl new (ap is_some (sym (lookup-set x.arrival.src src new old (ap is_some at))) ∙ h)
  where
    by : (b : Bool) → mac_eq x.arrival.src src ≡ b → (new : Remembered) → is_some (cond b (Some new) (lookup (mac_eq src) old)) ≡ true
        → (mac_eq src x.arrival.src ≡ true) ⊎ (is_some (lookup (mac_eq src) old) ≡ true)
    by true p new g = inl (mac_symm src x.arrival.src ∙ p)
    by false p new g = inr g

arrival-of : (w : ℕ) → IsWidth w → (t : Growth) (s : Sources) (src : Mac) → Grew w t s → AreInOrder t → AreSteady w t → is_some (lookup (mac_eq src) s) ≡ true → HasArrival t src
arrival-of w width empty s src grew order steady h = let bad : true ≡ false = sym h ∙ ap (λ z. is_some (lookup (mac_eq src) z)) grew in cc
arrival-of w width (started from top start) s src grew order steady h =
    start_has w width from top start grew.0 src (ap (λ z. is_some (lookup (mac_eq src) z)) (sym grew.1) ∙ h)
arrival-of w width (arrived t x) s src grew order steady h =
    let old = grew.0 in
    let keys = (kept w width t old grew.2 order.0 steady.0).keys in
    elim (after-there w x old src (lookup (mac_eq x.arrival.src) old) refl keys (ap (λ z. is_some (lookup (mac_eq src) z)) (sym grew.3.2) ∙ h)) [
      | inl own ↦ (x, inl refl, own)
      | inr there ↦ let r = arrival-of w width t old src grew.2 order.0 steady.0 there in (r.0, inr r.1, r.2)
    ]
arrival-of w width (aged t now) s src grew order steady h =
    let old = grew.0 in
    let keys = (kept w width t old grew.1 order.0 steady).keys in
    arrival-of w width t old src grew.1 order.0 steady (live-there now old src keys (ap (λ z. is_some (lookup (mac_eq src) z)) (sym grew.2) ∙ h))
arrival-of w width (merged t u now) s src grew order steady h =
    let one = grew.0 in
    let other = grew.1 in
    elim (joined-there w (lookup (mac_eq src) (live_at now one)) (lookup (mac_eq src) (live_at now other)) (ap is_some (sym (grew.4.each src)) ∙ h)) [
      | inl there ↦
          let r = arrival-of w width t one src grew.2 order.0 steady.0 (live-there now one src (kept w width t one grew.2 order.0 steady.0).keys there) in
          (r.0, among-left (arrivals_of t) (arrivals_of u) r.0 r.1, r.2)
      | inr there ↦
          let r = arrival-of w width u other src grew.3 order.1 steady.1 (live-there now other src (kept w width u other grew.3 order.1 steady.1).keys there) in
          (r.0, among-right (arrivals_of t) (arrivals_of u) r.0 r.1, r.2)
    ]

-- the epoch of an arrival's source, by an equal address
epoch-of : (t : Growth) (src : Mac) (now : ℕ) (x : Noting) → KeepsAll now t → mac_eq src x.arrival.src ≡ true → Among (arrivals_of t) x → Among (epoch src now t) x
epoch-of t src now x all own h =
    let P : Mac → Type 0 = λ m. Among (epoch m now t) x in
    subst P (sym (mac_same src x.arrival.src own)) (among-from (epoch x.arrival.src now t) x (all x (contains-from (arrivals_of t) x h)))

-- where nothing is forgotten each source is live
all-live : (w : ℕ) → IsWidth w → (t : Growth) (s : Sources) (src : Mac) (now : ℕ) → Grew w t s → IsSteady w t → latest t ≤ now → KeepsAll now t
    → passing (is_live now) (lookup (mac_eq src) s) ≡ lookup (mac_eq src) s
all-live w width t s src now grew steady le all = by (lookup (mac_eq src) s) refl
  where
    told : Tells w src (epoch src now t) (passing (is_live now) (lookup (mac_eq src) s))
    told = (kept w width t s grew steady.0 steady.1).tells src now le

    at : (h : Remembered) → lookup (mac_eq src) s ≡ Some h → (b : Bool) → is_live now h ≡ b → cond b (Some h) None ≡ Some h
    at h is true p = refl
    at h is false p =
        let r = arrival-of w width t s src grew steady.0 steady.1 (ap is_some is) in
        let among : Among (epoch src now t) r.0 = epoch-of t src now r.0 all r.2 r.1 in
        let gone : passing (is_live now) (lookup (mac_eq src) s) ≡ None = ap (passing (is_live now)) is ∙ ap (λ b. cond b (Some h) None) p in
        let none : epoch src now t ≡ [] = subst (λ o. Tells w src (epoch src now t) o) gone told in
        let bad : ⊥ = subst (λ xs. Among xs r.0) none among in
        absurd bad

    by : (o : Option Remembered) → lookup (mac_eq src) s ≡ o → passing (is_live now) o ≡ o
    by None is = refl
    by (Some h) is = at h is (is_live now h) refl

-- the same arrivals tell the same
heard-same : (a b : Remembered) → a.seen ≡ b.seen → a.time ≡ b.time → a ≡ b
heard-same a b e f = λ i. record { seen = e i; time = f i }

same-told : (w : ℕ) (src : Mac) (xs ys : List Noting) (a b : Option Remembered) → ((x : Noting) → Among xs x → Among ys x) → ((x : Noting) → Among ys x → Among xs x)
    → Tells w src xs a → Tells w src ys b → a ≡ b
same-told w src xs ys None None there back one other = refl
same-told w src xs ys None (Some b) there back one other =
    let r = number-of src ys other.2.top.member.0 other.1 other.2.top.member.1 in
    let bad : ⊥ = subst (λ zs. Among zs r.0) one (back r.0 r.1) in absurd bad
same-told w src xs ys (Some a) None there back one other =
    let r = number-of src xs one.2.top.member.0 one.1 one.2.top.member.1 in
    let bad : ⊥ = subst (λ zs. Among zs r.0) other (there r.0 r.1) in absurd bad
same-told w src xs ys (Some a) (Some b) there back one other =
    ap Some (heard-same a b
    (same-numbers w a.seen b.seen (numbers src xs) (numbers src ys) one.1 other.1 one.2 other.2 (same-numbers-among src xs ys there back))
    (omega (arith, one.0, other.0, no-newer xs ys there, no-newer ys xs back)))

-- arrivals of an epoch are in that of a tree that took them too
carried-over : (t u : Growth) (src : Mac) (now : ℕ) → KeepsAll now u → ((x : Noting) → Contains (arrivals_of t) x → Contains (arrivals_of u) x)
    → (x : Noting) → Among (epoch src now t) x → Among (epoch src now u) x
carried-over t u src now all same x h =
    let r = epoch-from t src now x h in
    epoch-of u src now x all r.1 (among-from (arrivals_of u) x (same x (contains-from (arrivals_of t) x r.0)))

pub tables_agree : TablesAgree
tables_agree w width t u one other now grew_t grew_u steady_t steady_u le_t le_u all_t all_u same src =
    sym (all-live w width t one src now grew_t steady_t le_t all_t)
    ∙ same-told w src (epoch src now t) (epoch src now u) (passing (is_live now) (lookup (mac_eq src) one)) (passing (is_live now) (lookup (mac_eq src) other))
    (carried-over t u src now all_u (λ x. (same x).0)) (carried-over u t src now all_t (λ x. (same x).1))
    ((kept w width t one grew_t steady_t.0 steady_t.1).tells src now le_t) ((kept w width u other grew_u steady_u.0 steady_u.1).tells src now le_u)
    ∙ all-live w width u other src now grew_u steady_u le_u all_u
