use Rattle.std.proofs.Common.{◌≡◌, ◌≤◌, ◌∙◌, refl, sym, ap, subst, Ok, Option, None, Some, is_some, true, false, ℕ, length}
use Rattle.std.specs.Map.{lookup}
use Rattle.sr_frame.specs.Addresses.{mac_eq}
use Rattle.sr_frame.specs.declared.learn_outcome.LearnOutcome.TheVariants.{New, Full}
use Rattle.sr_node_table.specs.Nodes.{hearing_of, Entry, Entries, is_live, answer_of}
use Rattle.sr_aged_slots.specs.FullLemmas.{kept_again, new_is_kept, full_where}
use Rattle.sr_node_table.specs.Limits.{forget_time, most_nodes}
use Rattle.sr_node_table.specs.Observing.{ObservesNode}
use Rattle.sr_node_table.proofs.table.NodeTable.observe.Goals as goal

-- an entry is heard again in a full table too
never_full : (o : Option Entry) (es : Entries) (now : ℕ) → is_some o ≡ true → answer_of o es now ≡ Full → ⊥
never_full (Some e) es now some full = kept_again (is_live now e) full
never_full None es now none full = cc

apart : false ≡ true → ⊥
apart e = cc

pub returns-in-Some : goal.returns-in-Some
returns-in-Some c =
    let h = c.in-Some.ensures in
    let entries = c.args.self.now.table.entries in
    let exactly = full_where (λ e. e.time) forget_time most_nodes c.args.mac c.args.now entries
    (λ o. answer_of o entries c.args.now) New Full new_is_kept (λ e. kept_again (is_live c.args.now e)) refl h.few in
    record {
      answer = h.answer;
      after = h.after;
      full = (λ e. exactly.0 (sym h.answer ∙ cc), λ e. ap Ok (h.answer ∙ exactly.1 e));
      known = λ e. refl;
      reserved = λ e. refl;
      held = h.others;
      used = λ e. h.used;
      nothing = λ e. absurd (never_full (lookup (mac_eq c.args.mac) entries) entries c.args.now (sym h.found) (sym h.answer ∙ cc));
      err = tt;
    }

pub returns-in-None : goal.returns-in-None
returns-in-None c =
    let was = c.in-None.ensures.none in
    let few = subst (λ t. length t.table.entries ≤ most_nodes) (sym was) c.in-None.ensures.few in
    let entries = c.observe_again.new.self.table.entries in
    let exactly = full_where (λ e. e.time) forget_time most_nodes c.args.mac c.args.now entries
    (λ o. answer_of o entries c.args.now) New Full new_is_kept (λ e. kept_again (is_live c.args.now e)) refl few in
    let h = c.begin.ensures in
    subst (λ t. ObservesNode t (hearing_of c.args.mac c.args.port c.args.told c.args.now) c.begin.result c.begin.new.self) was (record {
      answer = h.answer;
      after = h.after;
      full = (λ e. exactly.0 (sym ((rw e at h.answer))), λ e. h.full (exactly.1 e));
      known = λ e. absurd (apart (c.in-None.ensures.found ∙ ap (λ t. is_some (lookup (mac_eq c.args.mac) t.table.entries)) (sym was) ∙ e));
      reserved = h.reserved;
      held = h.held;
      used = h.used;
      nothing = h.nothing;
      err = h.err;
    })
