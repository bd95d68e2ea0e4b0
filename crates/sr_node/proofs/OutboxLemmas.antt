-- The parcels at an outlet behind those that are kept for their memory.
use Rattle.std.proofs.Common.{arith, ◌≡◌, ℕ, suc, ◌+◌, ◌-◌, ◌<◌, ◌≤◌, List, [], ◌∷◌, ◌++◌, length, take, drop, sym, ap, ◌∙◌}
use Rattle.std.proofs.lemmas.List.{drop-drop, drop-append-le, drop_at, length-drop, length-take-le}
use Rattle.std.specs.List.{remove}
use Rattle.sr_forwarding.specs.Parcels.{ParcelImage}

-- one of those kept goes
pub one_less : (xs : List ParcelImage) (i : ℕ) → 0 < i → drop (i - 1) (drop 1 xs) ≡ drop i xs
one_less xs i some = drop-drop (i - 1) 1 xs ∙ ap (λ n. drop n xs) (omega arith)

-- one of those kept goes, and another parcel is put last
pub put_again : (xs : List ParcelImage) (i : ℕ) (p : ParcelImage) → 0 < i → i ≤ length xs → drop (i - 1) (drop 1 xs ++ p ∷ []) ≡ drop i xs ++ p ∷ []
put_again xs i p some within =
    let len = length-drop 1 xs in
    drop-append-le (i - 1) (drop 1 xs) (p ∷ []) (omega (arith, len)) ∙ ap (λ l. l ++ p ∷ []) (one_less xs i some)

-- the first that waits is kept
pub next_left : (xs : List ParcelImage) (i : ℕ) → drop 1 (drop i xs) ≡ drop (i + 1) xs
next_left xs i = drop-drop 1 i xs

-- the first that waits is taken out
pub taken_out : (xs : List ParcelImage) (i : ℕ) → i < length xs → drop i (remove xs i) ≡ drop 1 (drop i xs)
taken_out xs i within =
    let len = length-take-le i xs (omega arith) in
    let same : suc i ≡ i + 1 = omega arith in
    drop_at (take i xs) (drop (suc i) xs) i len ∙ ap (λ n. drop n xs) same ∙ sym (next_left xs i)
