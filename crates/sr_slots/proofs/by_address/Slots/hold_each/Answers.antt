use Rattle.std.proofs.Common.{◌||◌, ◌∙◌, sym, ap, refl}
use Rattle.std.specs.List.{list_any}
use Rattle.sr_frame.specs.Addresses.{mac_eq}
use Rattle.sr_slots.specs.Places.{held_of}
use Rattle.sr_slots.proofs.PlaceLemmas.{holds_next, passes_next, or_none}
use Rattle.sr_slots.proofs.by_address.Slots.hold_each.Goals as goal

pub loop-key-init : goal.loop-key-init
loop-key-init g c = record {
  entries = refl;
  together = λ m.
      ap (λ l. list_any (mac_eq m) l || list_any (mac_eq m) (held_of c.into_iter-key-iterator.result)) c.requires
      ∙ ap (λ l. list_any (mac_eq m) (held_of l)) c.into_iter-key-iterator.ensures.into_iter_gives;
}

pub loop-key-preserved-in-Continue-1 : goal.loop-key-preserved-in-Continue-1
loop-key-preserved-in-Continue-1 g c =
    record {
      entries = c.in_ok-hold.ensures.entries ∙ c.loop-key.invariant.entries;
      together = λ m.
          holds_next c.loop-key.key-iterator c.next.new.self c.in-Some.key.now c.in-Some.slot.now c.loop-key.self.held c.hold.new.self.held
          c.in-Some.ensures.steps c.if-slot.true c.in_ok-hold.ensures.others c.in_ok-hold.ensures.held m
          ∙ c.loop-key.invariant.together m;
    }

pub loop-key-preserved : goal.loop-key-preserved
loop-key-preserved g c = record {
  entries = c.loop-key.invariant.entries;
  together = λ m.
      ap (λ l. list_any (mac_eq m) c.loop-key.self.held || list_any (mac_eq m) l)
      (passes_next c.loop-key.key-iterator c.next.new.self c.in-Some.key.now c.in-Some.slot.now c.in-Some.ensures.steps c.if-slot.false)
      ∙ c.loop-key.invariant.together m;
}

pub returns-clause-held : goal.returns-clause-held
returns-clause-held g c m =
    sym (or_none (list_any (mac_eq m) c.loop-key.self.held))
    ∙ sym (ap (λ l. list_any (mac_eq m) c.loop-key.self.held || list_any (mac_eq m) (held_of l)) c.in-None.ensures.steps.0)
    ∙ c.loop-key.invariant.together m
