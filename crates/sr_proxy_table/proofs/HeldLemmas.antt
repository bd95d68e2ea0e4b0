-- Held places.
use Rattle.std.proofs.Common.{◌≡◌, Bool, true, false, ◌||◌, List, [], ◌∷◌, refl, sym, ap, ◌∙◌}
use Rattle.std.specs.List.{list_any}
use Rattle.sr_frame.specs.declared.fields.Mac.{Mac}
use Rattle.sr_frame.specs.Addresses.{mac_eq}
use Rattle.sr_frame.specs.AddressLemmas.{mac_same, mac_refl}
use Rattle.sr_slots.specs.Places.{KeepsHeld}

held_first : (m : Mac) (ms : List Mac) → list_any (mac_eq m) (m ∷ ms) ≡ true
held_first m ms = ap (λ b. b || list_any (mac_eq m) ms) (mac_refl m)

-- where none was held but that of one address, which is used up, none is held
pub none_held : (old new : List Mac) (key : Mac) → old ≡ [] → KeepsHeld old new key → list_any (mac_eq key) new ≡ false → new ≡ []
none_held old [] key none others used = refl
none_held old (m ∷ ms) key none others used = by (mac_eq m key) refl
  where
    by : (b : Bool) → mac_eq m key ≡ b → (m ∷ ms) ≡ []
    by true t =
        let e : true ≡ false = sym (held_first m ms) ∙ ap (λ k. list_any (mac_eq k) (m ∷ ms)) (mac_same m key t) ∙ used in
        cc
    by false t =
        let e : true ≡ false = sym (held_first m ms) ∙ others m t ∙ ap (λ l. list_any (mac_eq m) l) none in
        cc
