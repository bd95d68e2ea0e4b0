-- Which addresses stand in a list of hearings, and in the entries.
use Rattle.std.proofs.Common.{◌≡◌, ℕ, suc, ◌-◌, ◌≤◌, Bool, true, false, cond, not, ◌&&◌, ◌||◌, List, [], ◌∷◌, ◌++◌, length, filter, refl, sym, ap, ◌∙◌, subst, arith}
use Rattle.std.specs.List.{IsDistinct}
use Rattle.std.proofs.lemmas.Bool.{lt-ltb}
use Rattle.std.proofs.lemmas.List.Elements.{filter-append, filter_agree}
use Rattle.sr_frame.specs.declared.fields.Mac.{Mac}
use Rattle.sr_frame.specs.Addresses.{mac_eq}
use Rattle.sr_frame.specs.AddressLemmas.{mac_same, mac_refl, mac_symm}
use Rattle.sr_aged_slots.specs.Ages.{is_recent}
use Rattle.sr_node_table.specs.Nodes.{Hearing}
use Rattle.sr_node_table.specs.Hearings.{is_heard, Event, Hears, Prunes, AreUpTo}
use Rattle.sr_laws_node_table.specs.Kept.{of_address, is_live_by, addresses, finds_room, kept_in}
use Rattle.sr_laws_node_table.specs.Entered.{has_entry, is_filled, makes_entry, removal_in}
use Rattle.sr_laws_node_table.proofs.AddressListLemmas.{has, has-append, has-filter, filter-filter, distinct_none, distinct_filter, distinct_push}
use Rattle.sr_laws_node_table.proofs.HeardLemmas.{AreBefore, before_later, heard_before}

-- a test that another one implies
pub and_implied : (p q : Bool) → (p ≡ true → q ≡ true) → (p && q) ≡ p
and_implied true q h = h refl
and_implied false q h = refl

pub implied_and : (p q : Bool) → (p ≡ true → q ≡ true) → (q && p) ≡ p
implied_and true q h = ap (λ b. b && true) (h refl)
implied_and false true h = refl
implied_and false false h = refl

pub length-filter_le : {X : Type 0} (p : X → Bool) (xs : List X) → length (filter p xs) ≤ length xs
length-filter_le p [] = omega arith
length-filter_le {X} p (x ∷ xs) = by (p x) (length-filter_le p xs)
  where
    by : (b : Bool) → length (filter p xs) ≤ length xs → length (cond b (x ∷ filter p xs) (filter p xs)) ≤ suc (length xs)
    by true ih = omega arith
    by false ih = omega arith

-- kept hearings come in order, and no removal is later than the latest event
pub kept_before : (events : List Event) (now : ℕ) → AreUpTo now events → AreBefore now (kept_in events)
kept_before [] now up = tt
kept_before (Prunes at ∷ events) now up = before_later at now (kept_in events) up.0 (kept_before events at up.1)
kept_before (Hears h ∷ events) now up = by (finds_room (kept_in events) h) (kept_before events h.time up.1)
  where
    le : h.time ≤ now
    le = up.0

    by : (b : Bool) → AreBefore h.time (kept_in events) → AreBefore now (cond b (h ∷ kept_in events) (kept_in events))
    by true ih = (le, ih)
    by false ih = before_later h.time now (kept_in events) le ih

pub removal_le : (events : List Event) (now : ℕ) → AreUpTo now events → removal_in events ≤ now
removal_le [] now up = omega arith
removal_le (Prunes at ∷ events) now up = up.0
removal_le (Hears h ∷ events) now up = by (makes_entry h (kept_in events) (removal_in events) && is_filled (kept_in events) (removal_in events)) (removal_le events h.time up.1)
  where
    le : h.time ≤ now
    le = up.0

    by : (b : Bool) → removal_in events ≤ h.time → cond b h.time (removal_in events) ≤ now
    by true ih = le
    by false ih = omega (arith, ih, le)

-- the addresses of hearings, each once
has_last : (m : Mac) → (ks : List Mac) (k : Mac) → mac_eq m k ≡ true → has (ks ++ k ∷ []) m ≡ true
has_last m ks k e = has-append m ks (k ∷ []) ∙ ap (λ b. has ks m || (b || false)) e ∙ or_true (has ks m)
  where
    or_true : (b : Bool) → (b || true) ≡ true
    or_true true = refl
    or_true false = refl

pub addresses_distinct : (hs : List Hearing) → IsDistinct mac_eq (addresses hs)
addresses_distinct [] = distinct_none
addresses_distinct (h ∷ hs) =
    distinct_push (filter (λ m. not (mac_eq h.mac m)) (addresses hs)) h.mac (distinct_filter (λ m. not (mac_eq h.mac m)) (addresses hs) (addresses_distinct hs))
    (has-filter (λ m. not (mac_eq h.mac m)) h.mac (addresses hs) ∙ ap (λ b. not b && has (addresses hs) h.mac) (mac_refl h.mac))

-- among them is the address of the first hearing, and each that was among the others'
pub addresses_first : (h : Hearing) (hs : List Hearing) (m : Mac) → mac_eq h.mac m ≡ true → has (addresses (h ∷ hs)) m ≡ true
addresses_first h hs m e = has_last m (filter (λ k. not (mac_eq h.mac k)) (addresses hs)) h.mac (mac_symm m h.mac ∙ e)

pub addresses_more : (h : Hearing) (hs : List Hearing) (m : Mac) → has (addresses hs) m ≡ true → has (addresses (h ∷ hs)) m ≡ true
addresses_more h hs m e = by (mac_eq h.mac m) refl
  where
    by : (b : Bool) → mac_eq h.mac m ≡ b → has (addresses (h ∷ hs)) m ≡ true
    by true t = addresses_first h hs m t
    by false t =
        has-append m (filter (λ k. not (mac_eq h.mac k)) (addresses hs)) (h.mac ∷ [])
        ∙ ap (λ b. b || has (h.mac ∷ []) m) (has-filter (λ k. not (mac_eq h.mac k)) m (addresses hs) ∙ ap (λ b. not b && has (addresses hs) m) t ∙ e)

pub addresses_have : (m : Mac) (u : ℕ) (hs : List Hearing) → is_live_by hs u m ≡ true → has (addresses hs) m ≡ true
addresses_have m u [] e = cc
addresses_have m u (h ∷ hs) e = by (mac_eq h.mac m) refl e (addresses_have m u hs)
  where
    by : (b : Bool) → mac_eq h.mac m ≡ b → is_heard (cond b (h ∷ of_address m hs) (of_address m hs)) u ≡ true → (is_live_by hs u m ≡ true → has (addresses hs) m ≡ true)
        → has (addresses (h ∷ hs)) m ≡ true
    by true t e ih = addresses_first h hs m t
    by false t e ih = addresses_more h hs m (ih e)

-- the hearings of an address, with one more
pub of_other : (h : Hearing) (hs : List Hearing) (m : Mac) → mac_eq h.mac m ≡ false → of_address m (h ∷ hs) ≡ of_address m hs
of_other h hs m e = ap (λ b. cond b (h ∷ of_address m hs) (of_address m hs)) e

pub of_own : (h : Hearing) (hs : List Hearing) → of_address h.mac (h ∷ hs) ≡ h ∷ of_address h.mac hs
of_own h hs = ap (λ b. cond b (h ∷ of_address h.mac hs) (of_address h.mac hs)) (mac_refl h.mac)

-- the address of the latest hearing is live from any time before it on
pub own_live : (h : Hearing) (hs : List Hearing) (u : ℕ) → u ≤ h.time → is_live_by (h ∷ hs) u h.mac ≡ true
own_live h hs u le = ap (λ l. is_heard l u) (of_own h hs) ∙ ap (λ b. b || is_heard (of_address h.mac hs) u) (lt-ltb (u - h.time) 60000 (omega arith))

-- an address that was live stays so with more hearings
pub live_more : (h : Hearing) (hs : List Hearing) (u : ℕ) (m : Mac) → is_live_by hs u m ≡ true → is_live_by (h ∷ hs) u m ≡ true
live_more h hs u m e = by (mac_eq h.mac m)
  where
    or_true : (b : Bool) → (b || true) ≡ true
    or_true true = refl
    or_true false = refl

    by : (b : Bool) → is_heard (cond b (h ∷ of_address m hs) (of_address m hs)) u ≡ true
    by true = ap (λ b. is_recent 60000 u h.time || b) e ∙ or_true (is_recent 60000 u h.time)
    by false = e

-- the addresses that have an entry
abbrev pub entered_by : List Hearing → ℕ → List Hearing → List Mac
entered_by hs removal makers = filter (has_entry hs removal) (addresses makers)

-- each that has an entry has a hearing that made it
abbrev pub AreMade : List Hearing → ℕ → List Hearing → Type 0
AreMade hs removal makers = (m : Mac) → has_entry hs removal m ≡ true → has (addresses makers) m ≡ true

pub entered_have : (hs makers : List Hearing) (removal : ℕ) → AreMade hs removal makers → (m : Mac) → has (entered_by hs removal makers) m ≡ has_entry hs removal m
entered_have hs makers removal made m = has-filter (has_entry hs removal) m (addresses makers) ∙ and_implied (has_entry hs removal m) (has (addresses makers) m) (made m)

-- after a prune: those that are live
pub entered_live : (hs makers : List Hearing) (removal now : ℕ) → removal ≤ now → entered_by hs now makers ≡ filter (is_live_by hs now) (entered_by hs removal makers)
entered_live hs makers removal now le =
    filter_agree (has_entry hs now) (λ m. has_entry hs removal m && is_live_by hs now m)
    (λ m. sym (implied_and (is_live_by hs now m) (has_entry hs removal m) (heard_before (of_address m hs) removal now le))) (addresses makers)
    ∙ sym (filter-filter (is_live_by hs now) (has_entry hs removal) (addresses makers))

-- where an address that has an entry is heard: the same ones
pub entered_again : (h : Hearing) (hs makers : List Hearing) (removal : ℕ) → has_entry hs removal h.mac ≡ true → (m : Mac) → has_entry (h ∷ hs) removal m ≡ has_entry hs removal m
entered_again h hs makers removal e m = by (mac_eq h.mac m) refl
  where
    by : (b : Bool) → mac_eq h.mac m ≡ b → has_entry (h ∷ hs) removal m ≡ has_entry hs removal m
    by true t =
        let was : has_entry hs removal m ≡ true = subst (λ k. has_entry hs removal k ≡ true) (mac_same h.mac m t) e in
        live_more h hs removal m was ∙ sym was
    by false t = ap (λ l. is_heard l removal) (of_other h hs m t)

-- where one that has none makes one: those that stay, and it last
module _ (h : Hearing) (hs makers : List Hearing) (removal : ℕ) (none : has_entry hs removal h.mac ≡ false) where
  others_same : (later : ℕ) (p : Mac → Bool) → p h.mac ≡ false → ((m : Mac) → mac_eq h.mac m ≡ false → is_live_by hs later m ≡ p m)
      → later ≤ h.time → entered_by (h ∷ hs) later (h ∷ makers) ≡ filter p (addresses makers) ++ h.mac ∷ []
  others_same later p own other le =
      filter-append (has_entry (h ∷ hs) later) (filter (λ m. not (mac_eq h.mac m)) (addresses makers)) (h.mac ∷ [])
      ∙ ap (λ b. filter (has_entry (h ∷ hs) later) (filter (λ m. not (mac_eq h.mac m)) (addresses makers)) ++ cond b (h.mac ∷ []) []) (own_live h hs later le)
      ∙ ap (λ l. l ++ h.mac ∷ []) (filter-filter (has_entry (h ∷ hs) later) (λ m. not (mac_eq h.mac m)) (addresses makers) ∙ filter_agree (λ m. not (mac_eq h.mac m) && has_entry (h ∷ hs) later m) p agree (addresses makers))
    where
      agree : (m : Mac) → (not (mac_eq h.mac m) && has_entry (h ∷ hs) later m) ≡ p m
      agree m = by (mac_eq h.mac m) refl
        where
          by : (b : Bool) → mac_eq h.mac m ≡ b → (not b && has_entry (h ∷ hs) later m) ≡ p m
          by true t = sym (ap p (sym (mac_same h.mac m t)) ∙ own)
          by false t = ap (λ l. is_heard l later) (of_other h hs m t) ∙ other m t

  pub entered_new : removal ≤ h.time → entered_by (h ∷ hs) removal (h ∷ makers) ≡ entered_by hs removal makers ++ h.mac ∷ []
  entered_new le = others_same removal (has_entry hs removal) none (λ m e. refl) le

  pub entered_removing : removal ≤ h.time → entered_by (h ∷ hs) h.time (h ∷ makers) ≡ filter (is_live_by hs h.time) (entered_by hs removal makers) ++ h.mac ∷ []
  entered_removing le =
      others_same h.time (λ m. has_entry hs removal m && is_live_by hs h.time m) (ap (λ b. b && is_live_by hs h.time h.mac) none)
      (λ m e. sym (implied_and (is_live_by hs h.time m) (has_entry hs removal m) (heard_before (of_address m hs) removal h.time le))) (omega arith)
      ∙ ap (λ l. l ++ h.mac ∷ []) (sym (filter-filter (is_live_by hs h.time) (has_entry hs removal) (addresses makers)))
