-- Each move keeps the rule of the wire.
use Rattle.std.proofs.Common.{arith, length-append, ◌≡◌, ◌≢◌, ℕ, zero, suc, true, false, true≢false, List, [], ◌∷◌, ◌++◌, length, ◌≤◌, set, sym, refl, ap, ◌∙◌, subst, ⊎_elim, append_assoc, append-nil}
use mathlib.Core.Option.{some, some-ne-none}
use lib.ListN.{get_elem?}
use Rattle.crossbeam_queue.specs.Fifo.{Pushes, Pops, Forks, Merges, Learns}
use Rattle.crossbeam_queue.proofs.Lists.{at_set, at_snoc}
use Rattle.sr_wires.specs.declared.rule.Rights.{Rights}
use Rattle.sr_wires.specs.Wired.{rights, IsWire, BeginsWithFrames, KnowsWhatItDid, Wired}

at_end : (l : List Rights) (a b : Rights) (j : ℕ) → get_elem? l j ≢ some b → get_elem? (l ++ a ∷ []) j ≡ some b → j ≡ length l
at_end [] a b zero n e = refl
at_end [] a b (suc j) n e = absurd (some-ne-none b (sym e))
at_end (x ∷ xs) a b zero n e = absurd (n e)
at_end (x ∷ xs) a b (suc j) n e = ap suc (at_end xs a b j n e)

abbrev All : (ℕ → Rights → Type 0) → List Rights → Type 0
All F views = (port : ℕ) (v : Rights) → get_elem? views port ≡ some v → F port v

all_set : (F : ℕ → Rights → Type 0) (views : List Rights) (port : ℕ) (w : Rights) → F port w → ((j : ℕ) (u : Rights) → j ≢ port → get_elem? views j ≡ some u → F j u) → All F (set views port w)
all_set F views port w mine others j u e = ⊎_elim (λ (x : (j ≡ port) × (w ≡ u)). subst (λ (y : ℕ × Rights). F y.0 y.1) (λ i. (sym x.0 i, x.1 i)) mine)
    (λ (x : (j ≢ port) × (get_elem? views j ≡ some u)). others j u x.0 x.1) (at_set views port j w u e)

-- a list begins with what it began with, once it is longer
grown : (xs ys : List (List ℕ)) (x : List ℕ) → BeginsWithFrames ys xs → BeginsWithFrames (ys ++ x ∷ []) xs
grown xs ys x f = (f.0 ++ x ∷ [], ap (λ l. l ++ x ∷ []) f.1 ∙ append_assoc xs f.0 (x ∷ []))

-- each list begins with itself
whole : (xs : List (List ℕ)) → BeginsWithFrames xs xs
whole xs = ([], sym (append-nil xs))

pub begins : Wired [] (rights true true [] [] [] [] ∷ [])
begins = (0, 0, [], [], record { order = refl; room = omega arith }, all_set (KnowsWhatItDid 0 0 [] []) (rights true true [] [] [] [] ∷ []) 0 (rights true true [] [] [] []) ((λ _. (refl, refl, ([], refl))), λ _. (refl, refl, ([], refl))) (λ j u other e. absurd (other (at_end [] _ u j (λ x. some-ne-none u (sym x)) e))))

pub puts : (n port : ℕ) (v : Rights) (x : List ℕ) → n ≡ 256 → v.sends ≡ true → Pushes Wired n port v x (λ w. w ≡ rights v.sends v.takes (v.sent ++ x ∷ []) v.taken v.seen_sent v.seen_taken)
puts n port v x size may items views below h at = let w : Rights = rights v.sends v.takes (v.sent ++ x ∷ []) v.taken v.seen_sent v.seen_taken in let mine = h.5 port v at in let sent = h.2 ++ x ∷ [] in (
  w,
  (
    h.0,
    h.1,
    sent,
    h.3,
    record { order = ap (λ l. l ++ x ∷ []) h.4.order ∙ append_assoc h.3 items (x ∷ []); room = omega (arith, length-append items (x ∷ [])) },
    all_set (KnowsWhatItDid h.0 h.1 sent h.3) views port w ((λ _. ((mine.0 may).0, ap (λ l. l ++ x ∷ []) (mine.0 may).1, (mine.0 may).2)), (λ p. ((mine.1 p).0, (mine.1 p).1, grown v.seen_sent h.2 x (mine.1 p).2)))
        (λ j u other e. ((λ p. absurd (other (((h.5 j u e).0 p).0 ∙ sym (mine.0 may).0))), (λ p. (((h.5 j u e).1 p).0, ((h.5 j u e).1 p).1, grown u.seen_sent h.2 x ((h.5 j u e).1 p).2)))),
  ),
  refl,
)

pub takes : (port : ℕ) (v : Rights) → v.takes ≡ true → Pops Wired port v (λ x w. w ≡ rights v.sends v.takes v.sent (v.taken ++ x ∷ []) v.seen_sent v.seen_taken)
takes port v may x items views h at = let w : Rights = rights v.sends v.takes v.sent (v.taken ++ x ∷ []) v.seen_sent v.seen_taken in let mine = h.5 port v at in let taken = h.3 ++ x ∷ [] in (
  w,
  (
    h.0,
    h.1,
    h.2,
    taken,
    record { order = h.4.order ∙ sym (append_assoc h.3 (x ∷ []) items); room = omega (arith, h.4.room) },
    all_set (KnowsWhatItDid h.0 h.1 h.2 taken) views port w ((λ p. ((mine.0 p).0, (mine.0 p).1, grown v.seen_taken h.3 x (mine.0 p).2)), λ _. ((mine.1 may).0, ap (λ l. l ++ x ∷ []) (mine.1 may).1, (mine.1 may).2))
        (λ j u other e. ((λ p. (((h.5 j u e).0 p).0, ((h.5 j u e).0 p).1, grown u.seen_taken h.3 x ((h.5 j u e).0 p).2)), (λ p. absurd (other (((h.5 j u e).1 p).0 ∙ sym (mine.1 may).0))))),
  ),
  refl,
)

pub forks : (port : ℕ) (v : Rights) → v.sends ≡ true → v.takes ≡ true → Forks Wired port v (rights true false v.sent [] [] v.taken) (rights false true [] v.taken v.sent [])
forks port v a b items views h at = let l : Rights = rights true false v.sent [] [] v.taken in let r : Rights = rights false true [] v.taken v.sent [] in let mine = h.5 port v at in let vs : List Rights = set views port l in
    let Old : ℕ → Rights → Type 0 = λ j u. (u.sends ≡ true → (j ≡ h.0) × (u.sent ≡ h.2) × BeginsWithFrames h.3 u.seen_taken) × (u.takes ≢ true) in
    let front_taken : BeginsWithFrames h.3 v.taken = subst (λ (y : List (List ℕ)). BeginsWithFrames y v.taken) (mine.1 b).1 (whole v.taken) in
    let front_sent : BeginsWithFrames h.2 v.sent = subst (λ (y : List (List ℕ)). BeginsWithFrames y v.sent) (mine.0 a).1 (whole v.sent) in
    let old : All Old vs = all_set Old views port l ((λ _. ((mine.0 a).0, (mine.0 a).1, front_taken)), λ p. true≢false (sym p)) (λ j u other e. ((h.5 j u e).0, λ p. other (((h.5 j u e).1 p).0 ∙ sym (mine.1 b).0))) in (
      h.0,
      length vs,
      h.2,
      h.3,
      h.4,
      λ j u e. ⊎_elim (λ x. ((old j u x).0, λ p. absurd ((old j u x).1 p)))
          (λ (is : r ≡ u). ((λ p. absurd (true≢false (sym (ap (λ (y : Rights). y.sends) is ∙ p)))), λ p. (at_end vs r u j (λ x. (old j u x).1 p) e, ap (λ (y : Rights). y.taken) (sym is) ∙ (mine.1 b).1, subst (λ (y : Rights). BeginsWithFrames h.2 y.seen_sent) is front_sent))) (at_snoc vs r u j e),
    )

pub merges : (port : ℕ) (v : Rights) (other : ℕ) (u : Rights) → v.sends ≡ true → u.takes ≡ true → Merges Wired port v other u (rights true true v.sent u.taken u.seen_sent v.seen_taken) (rights false false [] [] [] [])
merges port v other u a b items views h at two at' = let both : Rights = rights true true v.sent u.taken u.seen_sent v.seen_taken in let mine = h.5 port v at in let vs : List Rights = set views port both in
    let was : get_elem? views other ≡ some u = ⊎_elim (λ x. absurd (two x.0)) (λ x. x.1) (at_set views port other both u at') in let theirs = (h.5 other u was).1 b in
    let Now : ℕ → Rights → Type 0 = λ j y. j ≢ other → KnowsWhatItDid h.0 port h.2 h.3 j y in
    let now : All Now vs = all_set Now views port both (λ _. ((λ _. mine.0 a), λ _. (refl, theirs.1, theirs.2))) (λ j y _ e apart. ((h.5 j y e).0, λ p. absurd (apart (((h.5 j y e).1 p).0 ∙ sym theirs.0)))) in
    (h.0, port, h.2, h.3, h.4, all_set (KnowsWhatItDid h.0 port h.2 h.3) vs other (rights false false [] [] [] []) ((λ p. absurd (true≢false (sym p))), λ p. absurd (true≢false (sym p))) (λ j y apart e. now j y e apart))

pub totals : (port : ℕ) (v : Rights) → v.sends ≡ true → v.takes ≡ true → Learns Wired port v (λ items. IsWire v.sent v.taken items)
totals port v a b items views h at = let mine = h.5 port v at in let P : List (List ℕ) × List (List ℕ) → Type 0 = λ p. IsWire p.0 p.1 items in subst P (λ i. (sym (mine.0 a).1 i, sym (mine.1 b).1 i)) h.4

pub sender_learns : (port : ℕ) (v : Rights) → v.sends ≡ true → Learns Wired port v (λ items. (rest : List (List ℕ)) × (v.sent ≡ v.seen_taken ++ rest) × (length items ≤ length rest))
sender_learns port v a items views h at =
    let mine = (h.5 port v at).0 a in
    let seen = mine.2 in
    let order : v.sent ≡ (v.seen_taken ++ seen.0) ++ items = mine.1 ∙ h.4.order ∙ ap (λ l. l ++ items) seen.1 in (
      seen.0 ++ items,
      order ∙ append_assoc v.seen_taken seen.0 items,
      omega (arith, length-append seen.0 items),
    )

pub taker_learns : (port : ℕ) (v : Rights) → v.takes ≡ true → Learns Wired port v (λ items. BeginsWithFrames (v.taken ++ items) v.seen_sent)
taker_learns port v b items views h at =
    let mine = (h.5 port v at).1 b in
    let order : h.2 ≡ v.taken ++ items = h.4.order ∙ ap (λ l. l ++ items) (sym mine.1) in
    subst (λ l. BeginsWithFrames l v.seen_sent) order mine.2
