-- A table that is full for an address is so after the hearing of another one.
use Rattle.std.proofs.Common.{◌≡◌, ℕ, suc, ◌≤◌, ◌-◌, max, Bool, true, false, cond, not, ◌&&◌, [], ◌∷◌, length, if◌then◌else◌, arith}
use Rattle.std.proofs.Common.{Option, None, Some, refl, sym, ap, ◌∙◌, subst}
use Rattle.std.specs.Map.{lookup, set_value}
use Rattle.std.proofs.lemmas.Bool.{lt-ltb}
use Rattle.std.proofs.lemmas.List.Filters.{length-filter_both}
use Rattle.std.proofs.lemmas.Map.{length-set_value}
use Rattle.sr_frame.specs.declared.fields.Mac.{Mac}
use Rattle.sr_frame.specs.declared.learn_outcome.LearnOutcome.{LearnOutcome}
use Rattle.sr_frame.specs.declared.learn_outcome.LearnOutcome.TheVariants.{New, Known, Full}
use Rattle.sr_frame.specs.Addresses.{mac_eq}
use Rattle.sr_frame.specs.AddressLemmas.{mac_same}
use Rattle.sr_aged_slots.specs.FullLemmas.{kept_again, new_is_kept, full_where}
use Rattle.sr_node_table.specs.Limits.{forget_time, most_nodes}
use Rattle.sr_node_table.specs.Nodes.{Table, Entry, Entries, Hearing, is_live, live_others, node_after, entry_after, entry_begun}
use Rattle.sr_node_table.specs.Nodes.{answer_of, answer_to, kept_by, after_answer, after_hearing}

known_is_kept : Known ≡ Full → ⊥
known_is_kept h = cc

-- an entry that is heard is live then
heard_is_live : (e : Entry) (h : Hearing) → is_live h.time (entry_after e h.port h.told h.time) ≡ true
heard_is_live e h = by (is_live h.time e)
  where
    by : (b : Bool)
        → is_live h.time (if b then record { value = node_after e.value h.port h.told h.time; time = max e.time h.time }
        else entry_begun h.port h.told h.time)
        ≡ true
    by true = lt-ltb (h.time - max e.time h.time) forget_time (omega arith)
    by false = lt-ltb (h.time - h.time) forget_time (omega arith)

-- no fewer others are live where another one was heard
others_heard : (m src : Mac) (now : ℕ) (w : Entry) → is_live now w ≡ true → mac_eq m src ≡ false → (es : Entries)
    → length (live_others m now es) ≤ length (live_others m now (set_value (mac_eq src) es w))
others_heard m src now w live apart [] = omega arith
others_heard m src now w live apart (e ∷ es) = by (mac_eq src e.0) refl (others_heard m src now w live apart es)
  where
    counted : (b : Bool) → length (cond b (e ∷ live_others m now es) (live_others m now es)) ≤ suc (length (live_others m now es))
    counted true = omega arith
    counted false = omega arith

    more : (b : Bool) → length (live_others m now es) ≤ length (live_others m now (set_value (mac_eq src) es w))
        → length (cond b (e ∷ live_others m now es) (live_others m now es))
        ≤ length (cond b (e ∷ live_others m now (set_value (mac_eq src) es w)) (live_others m now (set_value (mac_eq src) es w)))
    more true rest = omega (arith, rest)
    more false rest = rest

    by : (b : Bool) → mac_eq src e.0 ≡ b → length (live_others m now es) ≤ length (live_others m now (set_value (mac_eq src) es w))
        → length (live_others m now (e ∷ es)) ≤ length (live_others m now (cond b ((e.0, w) ∷ es) (e ∷ set_value (mac_eq src) es w)))
    by true same rest =
        let other : mac_eq m e.0 ≡ false = ap (mac_eq m) (sym (mac_same src e.0 same)) ∙ apart in
        let stays : (is_live now w && not (mac_eq m e.0)) ≡ true = ap (λ b. b && not (mac_eq m e.0)) live ∙ ap not other in
        subst (λ b. length (live_others m now (e ∷ es)) ≤ length (cond b ((e.0, w) ∷ live_others m now es) (live_others m now es)))
        (sym stays)
        (counted (is_live now e.1 && not (mac_eq m e.0)))
    by false same rest = more (is_live now e.1 && not (mac_eq m e.0)) rest

-- a table that is full for an address is so after any hearing at that time
pub full_still : (t : Table) (h : Hearing) (m : Mac) → length t.entries ≤ most_nodes → length (live_others m h.time t.entries) ≡ most_nodes
    → length (live_others m h.time (after_hearing t h).entries) ≡ most_nodes
full_still t h m few full = by_answer (answer_to t h) refl
  where
    others : Entries → ℕ
    others es = length (live_others m h.time es)

    -- the address has no entry, and there is room for none that has none
    no_entry : (o : Option Entry) → answer_of o t.entries h.time ≡ Full → o ≡ None
    no_entry None is = refl
    no_entry (Some e) is = absurd (kept_again (is_live h.time e) is)

    refused : answer_of (lookup (mac_eq m) t.entries) t.entries h.time ≡ Full
    refused =
        (full_where (λ e. e.time) forget_time most_nodes m h.time t.entries (λ o. answer_of o t.entries h.time) New Full new_is_kept
        (λ e. kept_again (is_live h.time e)) refl few).1 full

    absent : lookup (mac_eq m) t.entries ≡ None
    absent = no_entry (lookup (mac_eq m) t.entries) refused

    apart : (e : Entry) → lookup (mac_eq h.mac) t.entries ≡ Some e → (b : Bool) → mac_eq m h.mac ≡ b → b ≡ false
    apart e there false is = refl
    apart e there true is = let bad : None ≡ Some e = sym absent ∙ ap (λ q. lookup (mac_eq q) t.entries) (mac_same m h.mac is) ∙ there in cc

    by_entry : (o : Option Entry) → lookup (mac_eq h.mac) t.entries ≡ o → (answer_of o t.entries h.time ≡ Full → ⊥)
        → others (kept_by o t h).entries ≡ most_nodes
    by_entry None there kept = absurd (kept (ap (λ o. answer_of o t.entries h.time) (sym absent) ∙ refused))
    by_entry (Some e) there kept =
        let w : Entry = entry_after e h.port h.told h.time in
        let heard : Entries = set_value (mac_eq h.mac) t.entries w in
        let is_other : Mac × Entry → Bool = λ e. is_live h.time e.1 && not (mac_eq m e.0) in
        let more : others t.entries ≤ others heard =
        others_heard m h.mac h.time w (heard_is_live e h) (apart e there (mac_eq m h.mac) refl) t.entries in
        omega (
          arith,
          more,
          few,
          full,
          length-filter_both is_other (λ e. not (is_other e)) (λ e. refl) heard,
          length-set_value (mac_eq h.mac) t.entries w,
        )

    by_answer : (x : LearnOutcome) → answer_to t h ≡ x → others (after_answer x t h).entries ≡ most_nodes
    by_answer Full is = full
    by_answer New is = by_entry (lookup (mac_eq h.mac) t.entries) refl (λ e. new_is_kept (sym is ∙ e))
    by_answer Known is = by_entry (lookup (mac_eq h.mac) t.entries) refl (λ e. known_is_kept (sym is ∙ e))
