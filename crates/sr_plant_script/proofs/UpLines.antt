-- Lines of what is handed up, one by one.
use Rattle.std.proofs.Common.{◌≡◌, ℕ, ◌+◌, ◌<◌, List, [], ◌∷◌, ◌++◌, length, take, get_or, refl, sym, ap, ◌∙◌, append_assoc}
use Rattle.std.proofs.lemmas.List.{append-nil, take_more}
use Rattle.sr_forwarding.specs.Parcels.{ParcelImage, plain_of}
use Rattle.sr_plant_script.specs.Texts.{up_line, up_lines}

up_lines-append : (node : ℕ) (ps qs : List ParcelImage) → up_lines node (ps ++ qs) ≡ up_lines node ps ++ up_lines node qs
up_lines-append node [] qs = refl
up_lines-append node (p ∷ ps) qs =
    ap (λ (l : List ℕ). up_line node (plain_of p) ++ l) (up_lines-append node ps qs)
    ∙ sym (append_assoc (up_line node (plain_of p)) (up_lines node ps) (up_lines node qs))

-- one parcel more
pub up_lines-more : (node : ℕ) (ps : List ParcelImage) (i : ℕ) (d : ParcelImage) → i < length ps
    → up_lines node (take (i + 1) ps) ≡ up_lines node (take i ps) ++ up_line node (plain_of (get_or ps i d))
up_lines-more node ps i d lt =
    ap (up_lines node) (take_more ps i d lt) ∙ up_lines-append node (take i ps) (get_or ps i d ∷ [])
    ∙ ap (λ (l : List ℕ). up_lines node (take i ps) ++ l) (append-nil (up_line node (plain_of (get_or ps i d))))

-- behind a text
pub ups_behind : (node : ℕ) (ps : List ParcelImage) (i : ℕ) (p : ParcelImage) (before text later : List ℕ) → i < length ps
    → p ≡ get_or ps i p → text ≡ before ++ up_lines node (take i ps) → later ≡ text ++ up_line node (plain_of p)
    → later ≡ before ++ up_lines node (take (i + 1) ps)
ups_behind node ps i p before text later lt is so_far told =
    told ∙ ap (λ (l : List ℕ). l ++ up_line node (plain_of p)) so_far
    ∙ append_assoc before (up_lines node (take i ps)) (up_line node (plain_of p))
    ∙ ap (λ (l : List ℕ). before ++ l)
    (ap (λ (q : ParcelImage). up_lines node (take i ps) ++ up_line node (plain_of q)) is ∙ sym (up_lines-more node ps i p lt))
