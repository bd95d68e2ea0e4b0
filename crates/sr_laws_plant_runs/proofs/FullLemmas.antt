-- A node's table has no more sources than the plant has members: it is never full.
use Rattle.std.proofs.Common.{◌≡◌, ◌⊎◌, inl, inr, ℕ, zero, suc, ◌<◌, ◌≤◌, nat_lt, Bool, true, false, cond, List, [], ◌∷◌, ◌++◌, length, Option, None, Some, is_some, refl, sym, ap, ◌∙◌, subst, arith}
use Rattle.std.specs.Prelude.{IsSome}
use Rattle.std.specs.List.{IsDistinct}
use Rattle.std.specs.Map.{lookup, keys_of}
use Rattle.std.specs.Option.{option_to_list}
use Rattle.std.proofs.lemmas.Bool.{cases_Bool, lt-ltb, true≢false}
use Rattle.std.proofs.lemmas.Map.Made.{is_some-lookup}
use Rattle.std.proofs.lemmas.Map.Entries.{length-keys_of}
use Rattle.std.proofs.lemmas.Map.Steps.{length-le_from_keys}
use Rattle.sr_frame.specs.declared.fields.Mac.{Mac}
use Rattle.sr_frame.specs.Addresses.{mac_eq}
use Rattle.sr_frame.specs.AddressLemmas.{mac_same, mac_refl, mac_laws}
use Rattle.sr_slots.specs.Calls.{passing}
use Rattle.sr_slots.specs.EntryLemmas.{lookup-set, distinct-set, lookup-push, distinct-push, lookup-passing, distinct-passing}
use Rattle.sr_dup_window.specs.declared.lane_sets.Lanes.{Lanes}
use Rattle.sr_dup_table.specs.Sources.{Remembered, Sources, is_live, live_at, with_room, begun_at, heard_next, answer_of, arrive_answer, after_of, after_arrive}
use Rattle.sr_laws_plant.specs.Handlings.{Handling}
use Rattle.sr_laws_plant.specs.Ledger.{Net}
use Rattle.sr_laws_plant.specs.Lists.{Each}
use Rattle.sr_laws_plant.specs.PlantEvents.{History, done_in}
use Rattle.sr_laws_plant.specs.PlantEvents as law
use Rattle.sr_laws_plant.specs.Tables.{TableStep, MemberRun}
use Rattle.sr_laws_plant.specs.Widths.{Widths}

-- the address is that of one of the n members
pub record IsKnown (mac : ℕ → Mac) (n : ℕ) (q : Mac) : Type 0 where
  pub member : ℕ
  pub within : member < n
  pub same : mac_eq q (mac member) ≡ true

-- each source of the table is a member, and no two are one
pub record HasMembers (mac : ℕ → Mac) (n : ℕ) (s : Sources) : Type 0 where
  pub unique : IsDistinct mac_eq (keys_of s)
  pub known : (q : Mac) → is_some (lookup (mac_eq q) s) ≡ true → IsKnown mac n q

module _ (mac : ℕ → Mac) (n : ℕ) where
  begins : HasMembers mac n []
  unfolding IsDistinct
  begins = record { unique = tt; known = λ q there. absurd (true≢false (sym there)) }

  lets_go : (now : ℕ) (s : Sources) → HasMembers mac n s → HasMembers mac n (live_at now s)
  lets_go now s h = record {
    unique = distinct-passing (is_live now) s h.unique;
    known = λ q there. h.known q (was (lookup (mac_eq q) s) (sym (ap is_some (lookup-passing (is_live now) q s h.unique)) ∙ there));
  }
    where
      was : (o : Option Remembered) → is_some (passing (is_live now) o) ≡ true → is_some o ≡ true
      was None e = e
      was (Some x) e = refl

  makes_room : (now : ℕ) (s : Sources) → HasMembers mac n s → HasMembers mac n (with_room now s)
  makes_room now s h = by (nat_lt (length s) 1024)
    where
      by : (b : Bool) → HasMembers mac n (cond b s (live_at now s))
      by true = h
      by false = lets_go now s h

  room_none : (now : ℕ) (s : Sources) (m : Mac) → HasMembers mac n s → lookup (mac_eq m) s ≡ None → lookup (mac_eq m) (with_room now s) ≡ None
  room_none now s m h at = by (nat_lt (length s) 1024)
    where
      by : (b : Bool) → lookup (mac_eq m) (cond b s (live_at now s)) ≡ None
      by true = at
      by false = lookup-passing (is_live now) m s h.unique ∙ ap (passing (is_live now)) at

  -- one more, or the same once more
  is_one : (j : ℕ) → j < n → (m q : Mac) → m ≡ mac j → mac_eq m q ≡ true → IsKnown mac n q
  is_one j less m q is same = record {
    member = j;
    within = less;
    same = ap (λ x. mac_eq q x) (sym is ∙ mac_same m q same) ∙ mac_refl q;
  }

  either : (j : ℕ) → j < n → (m q : Mac) → m ≡ mac j → (w : Remembered) (o : Option Remembered) → (is_some o ≡ true → IsKnown mac n q) → is_some (cond (mac_eq m q) (Some w) o) ≡ true → IsKnown mac n q
  either j less m q is w o old there = elim (cases_Bool (mac_eq m q)) [
    | inl same ↦ is_one j less m q is same
    | inr other ↦ old (sym (ap (λ b. is_some (cond b (Some w) o)) other) ∙ there)
  ]

  notes : (w j : ℕ) → j < n → (s : Sources) (m : Mac) (seq : ℕ) (lanes : Lanes) (now : ℕ) → m ≡ mac j → HasMembers mac n s → HasMembers mac n (after_arrive w s m seq lanes now)
  notes w j less s m seq lanes now is h = by (lookup (mac_eq m) s) refl
    where
      by : (o : Option Remembered) → lookup (mac_eq m) s ≡ o → HasMembers mac n (after_of w o s m seq lanes now)
      by None at =
          let r = makes_room now s h in
          let none = room_none now s m h at in
          record {
            unique = distinct-push m (begun_at w seq lanes now) (with_room now s) r.unique none;
            known = λ q there. either j less m q is (begun_at w seq lanes now) (lookup (mac_eq q) (with_room now s)) (r.known q) (sym (ap is_some (lookup-push m q (begun_at w seq lanes now) (with_room now s) none)) ∙ there);
          }
      by (Some x) at = record {
        unique = distinct-set m (heard_next w x seq lanes now) s h.unique;
        known = λ q there. either j less m q is (heard_next w x seq lanes now) (lookup (mac_eq q) s) (h.known q) (sym (ap is_some (lookup-set m q (heard_next w x seq lanes now) s (ap is_some at))) ∙ there);
      }

  -- along a run
  pub have_members : (x : ℕ → Bool) (ws : Widths) (lanes : Handling → Lanes) (k : ℕ) (net : Net) (es : History) (p : law.Plant) (run : law.PlantRun net es p) (s : Sources) →
      MemberRun mac x ws lanes k net es p run s → Each (λ d. d.frame.src < n) (done_in es) → HasMembers mac n s
  have_members x ws lanes k net [] p run s noted all = subst (HasMembers mac n) (sym noted) begins
  have_members x ws lanes k net (e ∷ es) p run s noted all =
      step (e.1.did) noted.2 (front (e.1.did) all) (have_members x ws lanes k net es run.0 run.1 noted.0 noted.1 (rest (e.1.did) all))
    where
      front : (did : Option Handling) → Each (λ d. d.frame.src < n) (option_to_list did ++ done_in es) → Each (λ d. d.frame.src < n) (option_to_list did)
      front None a = tt
      front (Some d) a = (a.0, tt)

      rest : (did : Option Handling) → Each (λ d. d.frame.src < n) (option_to_list did ++ done_in es) → Each (λ d. d.frame.src < n) (done_in es)
      rest None a = a
      rest (Some d) a = a.1

      step : (did : Option Handling) → TableStep mac x ws lanes k p.clock did noted.0 s → Each (λ d. d.frame.src < n) (option_to_list did) → HasMembers mac n noted.0 → HasMembers mac n s
      step did (inl stays) a h = subst (HasMembers mac n) (sym stays.1) h
      step did (inr (inl aged)) a h = subst (HasMembers mac n) (sym aged.1) (lets_go p.clock noted.0 h)
      step did (inr (inr note)) a h =
          let d = note.handling in
          let mine : Each (λ d. d.frame.src < n) (option_to_list (Some d)) = subst (λ o. Each (λ d. d.frame.src < n) (option_to_list o)) note.did_it a in
          subst (HasMembers mac n) (sym note.after) (notes (ws.at k) d.frame.src mine.0 noted.0 (mac d.frame.src) _ (lanes d) d.time refl h)

  -- no more sources than members
  abbrev entries : ℕ → List (Mac × ℕ)
  entries zero = []
  entries (suc m) = (mac m, m) ∷ entries m

  many : (m : ℕ) → length (entries m) ≡ m
  many zero = refl
  many (suc m) = ap suc (many m)

  there_is : (m j : ℕ) (q : Mac) → j < m → mac_eq q (mac j) ≡ true → is_some (lookup (mac_eq q) (entries m)) ≡ true
  there_is zero j q less same = absurd (omega (arith, less))
  there_is (suc m) j q less same = elim (cases_Bool (mac_eq q (mac m))) [
    | inl is ↦ ap (λ b. is_some (cond b (Some m) (lookup (mac_eq q) (entries m)))) is
    | inr other ↦ ap (λ b. is_some (cond b (Some m) (lookup (mac_eq q) (entries m)))) other ∙ there_is m j q (below other) same
  ]
    where
      below : mac_eq q (mac m) ≡ false → j < m
      below other = elim (le_or j m less) [
        | inl l ↦ l
        | inr e ↦ absurd (true≢false (sym same ∙ ap (λ i. mac_eq q (mac i)) e ∙ other))
      ]
        where
          le_or : (j m : ℕ) → j < suc m → (j < m) ⊎ (j ≡ m)
          le_or zero zero less = inr refl
          le_or zero (suc m) less = inl (omega arith)
          le_or (suc j) zero less = absurd (omega (arith, less))
          le_or (suc j) (suc m) less = elim (le_or j m (omega (arith, less))) [
            | inl l ↦ inl (omega (arith, l))
            | inr e ↦ inr (ap suc e)
          ]

  few : (s : Sources) → HasMembers mac n s → length s ≤ n
  few s h =
      let le : length (keys_of s) ≤ length (entries n) = length-le_from_keys mac_laws (keys_of s) (entries n) h.unique (λ q any. found q (h.known q (is_some-lookup (mac_eq q) s ∙ any))) in
      omega (arith, le, length-keys_of s, many n)
    where
      found : (q : Mac) → IsKnown mac n q → IsSome (lookup (mac_eq q) (entries n))
      found q k = there_is n k.member q k.within k.same

  -- such a table answers
  pub answers : n ≤ 32 → (w : ℕ) (s : Sources) → HasMembers mac n s → (src : Mac) (seq : ℕ) (lanes : Lanes) (now : ℕ) → arrive_answer w s src seq lanes now ≡ None → ⊥
  answers small w s h src seq lanes now none = by (lookup (mac_eq src) s) none
    where
      room : length (with_room now s) < 1024
      room = let f = few (with_room now s) (makes_room now s h) in omega (arith, f, small)

      by : (o : Option Remembered) → answer_of w o s seq lanes now ≡ None → ⊥
      by None e =
          let said : Some lanes ≡ None = sym (ap (λ b. cond b (Some lanes) None) (lt-ltb (length (with_room now s)) 1024 room)) ∙ e in
          absurd cc
      by (Some x) e = absurd cc
