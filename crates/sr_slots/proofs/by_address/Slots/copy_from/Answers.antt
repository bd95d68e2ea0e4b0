use Rattle.std.proofs.Common.{◌++◌, sym, ap, ◌∙◌, subst}
use Rattle.std.specs.List.{IsDistinct}
use Rattle.std.specs.Map.{keys_of}
use Rattle.sr_frame.specs.Addresses.{mac_eq}
use Rattle.sr_slots.proofs.CloneLemmas.{absent_before, one_more}
use Rattle.sr_slots.proofs.by_address.Slots.copy_from.Goals as goal

pub append-requires : goal.append-requires
append-requires g c =
    let own = c.loop-key.self.entries in
    let parts = sym (ap (λ r. own ++ r) c.in-Some.ensures.steps) ∙ c.loop-key.invariant.together in
    absent_before c.in-Some.key c.in-Some.value.now own c.next.new.self (subst (λ es. IsDistinct mac_eq (keys_of es)) (sym parts) c.loop-key.invariant.unique)

pub loop-key-init : goal.loop-key-init
loop-key-init g c = record {
  together = ap (λ es. es ++ c.into_iter-key-iterator.result) (ap (λ own. own.entries) c.reserve.ensures ∙ c.requires) ∙ c.into_iter-key-iterator.ensures.into_iter_gives ∙ c.iter-key-items.ensures.rest;
  unique = c.len.ensures.unique;
}

pub loop-key-preserved : goal.loop-key-preserved
loop-key-preserved g c =
    let own = c.loop-key.self.entries in
    let parts = sym (ap (λ r. own ++ r) c.in-Some.ensures.steps) ∙ c.loop-key.invariant.together in
    record {
      together = ap (λ es. es ++ c.next.new.self) c.in_ok-append.ensures.entries ∙ one_more own c.args.other.now.entries c.next.new.self (c.in-Some.key, c.in-Some.value.now) parts;
      unique = c.loop-key.invariant.unique;
    }
