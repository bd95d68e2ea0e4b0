use Rattle.std.proofs.Common.{◌≡◌, ◌∙◌, refl, sym, ap, subst, Option, None, Some, is_some, Bool, true, false, not, nat_lt, ℕ, length, ◌≤◌, if◌then◌else◌}
use Rattle.std.specs.Borrow.{Bor}
use Rattle.std.specs.Map.{lookup}
use Rattle.std.specs.Option.{option_copied}
use Rattle.sr_frame.specs.Addresses.{mac_eq}
use Rattle.sr_frame.specs.declared.fields.Mac.{Mac}
use Rattle.sr_frame.specs.declared.learn_outcome.LearnOutcome.TheVariants.{New, Full}
use Rattle.sr_node_table.specs.Nodes.{Entry, Entries, is_live, live_others, answer_of, with_room}
use Rattle.sr_aged_slots.specs.FullLemmas.{kept_again, new_is_kept, full_where}
use Rattle.sr_node_table.specs.Limits.{forget_time, most_nodes}
use Rattle.sr_node_table.proofs.table.NodeTable.is_full_for.Goals.{then-is_full_now, else-is_full_now}
use Rattle.sr_node_table.proofs.table.NodeTable.is_full_for.Goals as goal

some_copied : {V : Type 0} (r : Option (Bor V)) → is_some (option_copied r) ≡ is_some r
some_copied None = refl
some_copied (Some b) = refl

not_not : (b : Bool) → b ≡ not (not b)
not_not true = refl
not_not false = refl

apart : false ≡ true → ⊥
apart e = cc

learned : New ≡ Full → ⊥
learned e = cc

-- there is no room for an address that has no entry in a full table
no_room : (mac : Mac) (now : ℕ) (es : Entries) → length es ≤ most_nodes → (full : Bool) → full ≡ not (nat_lt (length (with_room now es)) most_nodes)
    → (result : Bool) → result ≡ (if full then not (is_some (lookup (mac_eq mac) es)) else false)
    → (result ≡ true → length (live_others mac now es) ≡ most_nodes) × (length (live_others mac now es) ≡ most_nodes → result ≡ true)
no_room mac now es few full is result told =
    let exactly = full_where (λ e. e.time) forget_time most_nodes mac now es (λ o. answer_of o es now) New Full new_is_kept (λ e. kept_again (is_live now e)) refl few in
    let same = by (lookup (mac_eq mac) es) (nat_lt (length (with_room now es)) most_nodes) refl full is told in
    (λ e. exactly.0 (same.0 e), λ e. same.1 (exactly.1 e))
  where
    by : (o : Option Entry) (fits : Bool) → nat_lt (length (with_room now es)) most_nodes ≡ fits → (full : Bool) → full ≡ not fits
        → result ≡ (if full then not (is_some o) else false)
        → (result ≡ true → answer_of o es now ≡ Full) × (answer_of o es now ≡ Full → result ≡ true)
    by None true fits false is told = (λ e. absurd (apart (sym told ∙ e)), λ e. absurd (learned (sym (ap (λ b. if b then New else Full) fits) ∙ e)))
    by None false fits true is told = (λ e. ap (λ b. if b then New else Full) fits, λ e. told)
    by None true fits true is told = absurd (apart (sym is))
    by None false fits false is told = absurd (apart is)
    by (Some e) fits at true is told = (λ t. absurd (apart (sym told ∙ t)), λ f. absurd (kept_again (is_live now e) f))
    by (Some e) fits at false is told = (λ t. absurd (apart (sym told ∙ t)), λ f. absurd (kept_again (is_live now e) f))

-- what the code asks for, in a table that is full and in one that is not
asked : (result full none : Bool) (found : Option (Bor Entry)) (o : Option Entry) → result ≡ none → full ≡ true → is_some found ≡ not none → option_copied found ≡ o
    → result ≡ (if full then not (is_some o) else false)
asked result full none found o is set looked at =
    is ∙ not_not none ∙ ap not (sym looked ∙ sym (some_copied found) ∙ ap is_some at) ∙ ap (λ b. if b then not (is_some o) else false) (sym set)

pub returns-clause-full : goal.returns-clause-full
returns-clause-full c =
    let inside = c.self.inside.nodes.entries in
    let shown = ap (λ t. t.table.entries) c.self.view_is in
    let o = lookup (mac_eq c.args.mac) inside in
    let told : c.if-is_full_now.result ≡ (if c.is_full_now.result then not (is_some o) else false) =
    elim c.if-is_full_now.branch [
      | then-is_full_now w ↦ asked c.if-is_full_now.result c.is_full_now.result w.is_none.result w.get.result o w.result-is w.if-is_full_now.true w.is_none.ensures
          (w.get.ensures.value ∙ ap (λ p. lookup (mac_eq c.args.mac) p.entries) c.is_full_now.ensures.same)
      | else-is_full_now w ↦ w.result-is ∙ w.if-is_full_now.false ∙ ap (λ b. if b then not (is_some o) else false) (sym w.if-is_full_now.false)
    ] in
    subst (λ es. (c.if-is_full_now.result ≡ true → length (live_others c.args.mac c.args.now es) ≡ most_nodes)
    × (length (live_others c.args.mac c.args.now es) ≡ most_nodes → c.if-is_full_now.result ≡ true)) shown
    (no_room c.args.mac c.args.now inside c.len-nodes.ensures.few c.is_full_now.result c.is_full_now.ensures.result c.if-is_full_now.result told)
