-- Blocks behind blocks.
use Rattle.std.proofs.Common.{◌≡◌, ℕ, List, [], ◌∷◌, ◌++◌, length, sym, ap, subst, refl, ◌∙◌, arith, append_assoc}
use Rattle.std.proofs.lemmas.List.{length-append, append-nil}
use Rattle.sr_capture.specs.Records.{Captured}
use Rattle.sr_pcapng.specs.declared.track.Track.{Track}
use Rattle.sr_pcapng.specs.Steps.{IsStep, Follow, AreBlocks}

-- no blocks
pub blocks_none : (track : Track) → AreBlocks track [] [] track
blocks_none track = ([], (refl, refl, refl))

-- one block
pub blocks_one : (track : Track) (octets : List ℕ) (shown : List Captured) (next : Track) → IsStep track octets shown next
    → AreBlocks track octets shown next
blocks_one track octets shown next is =
    (octets ∷ [], ([], shown, [], next, sym (append-nil octets), sym (append-nil shown), is, (refl, refl, refl)))

-- more blocks behind blocks
follow_on : (bs cs : List (List ℕ)) (s t u : Track) (a b : List ℕ) (xs ys : List Captured) → Follow bs s a xs t → Follow cs t b ys u
    → (ds : List (List ℕ)) × Follow ds s (a ++ b) (xs ++ ys) u
follow_on [] cs s t u a b xs ys h k =
    let one = subst (λ (v : Track). Follow cs v b ys u) h.2 k in
    let two = subst (λ (l : List ℕ). Follow cs s (l ++ b) ys u) (sym h.0) one in
    (cs, subst (λ (l : List Captured). Follow cs s (a ++ b) (l ++ ys) u) (sym h.1) two)
follow_on (c ∷ bs) cs s t u a b xs ys h k =
    let rest = follow_on bs cs h.3 t u h.0 b h.2 ys h.7 k in (
      c ∷ rest.0,
      (
        h.0 ++ b,
        h.1,
        h.2 ++ ys,
        h.3,
        ap (λ (l : List ℕ). l ++ b) h.4 ∙ append_assoc c h.0 b,
        ap (λ (l : List Captured). l ++ ys) h.5 ∙ append_assoc h.1 h.2 ys,
        h.6,
        rest.1,
      ),
    )

pub blocks_on : (s t u : Track) (a b : List ℕ) (xs ys : List Captured) → AreBlocks s a xs t → AreBlocks t b ys u
    → AreBlocks s (a ++ b) (xs ++ ys) u
blocks_on s t u a b xs ys h k = follow_on h.0 k.0 s t u a b xs ys h.1 k.1

-- of no octets there are no packets
pub no_blocks : (s t : Track) (xs : List Captured) → AreBlocks s [] xs t → xs ≡ []
no_blocks s t xs ([], h) = h.1
no_blocks s t xs (b ∷ bs, h) = absurd (omega (arith, ap length h.4, length-append b h.0, h.6.1.begins.front))
