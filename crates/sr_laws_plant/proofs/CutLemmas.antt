-- No copy in flight is on a link that is cut.
use Rattle.std.proofs.Common.{◌≡◌, ℕ, inl, inr, Bool, true, false, not, List, [], ◌∷◌, refl, sym, ◌∙◌, subst}
use Rattle.std.specs.Prelude.{◌==◌, filter}
use Rattle.std.proofs.lemmas.Bool.{cases_Bool, eq-eqb, true≢false}
use Rattle.sr_laws_plant.specs.Lists.{One, Each}
use Rattle.sr_laws_plant.specs.ListLemmas.{one_map, one_any, each_map, each_append, each_of}
use Rattle.sr_laws_plant.specs.Handlings.{Handling}
use Rattle.sr_laws_plant.specs.Ledger.{Copy, Net, spread, PlantTurn}
use Rattle.sr_laws_plant.specs.PlantEvents.{Event, send, tick, carry, drop, repeat, cut, mend, Plant, is_on, is_stopped, those_passing}
use Rattle.sr_laws_plant.specs.PlantEvents.{IsTakenOut, Sends, Moves, History, PlantRun, done_in, CutLinksCarryNothing}
use Rattle.sr_laws_plant.proofs.OriginLemmas.{each_within}
use Rattle.sr_laws_plant.proofs.BalanceLemmas.{rest_within, in_flight}

-- none of its links is cut
abbrev IsClear : List ℕ → Copy → Type 0
IsClear cuts c = is_stopped cuts c ≡ false

abbrev AreClear : Plant → Type 0
AreClear p = Each (IsClear p.cuts) p.flight

passing_clear : (cuts : List ℕ) (cs : List Copy) → Each (IsClear cuts) (those_passing cuts cs)
passing_clear cuts [] = tt
passing_clear cuts (c ∷ cs) =
    elim (cases_Bool (is_stopped cuts c)) [
      | inl stops ↦ rw stops (passing_clear cuts cs)
      | inr clear ↦ rw clear (clear, passing_clear cuts cs)
    ]

cut_clear : (link : ℕ) (cuts : List ℕ) (cs : List Copy) → Each (IsClear cuts) cs →
    Each (IsClear (link ∷ cuts)) (filter (λ c. not (is_on link c)) cs)
cut_clear link cuts [] clear = tt
cut_clear link cuts (c ∷ cs) clear =
    elim (cases_Bool (is_on link c)) [
      | inl on ↦ rw on (cut_clear link cuts cs clear.1)
      | inr off ↦ rw off (both off, cut_clear link cuts cs clear.1)
    ]
  where
    both : is_on link c ≡ false → is_stopped (link ∷ cuts) c ≡ false
    both off = rw off clear.0

mend_clear : (test : ℕ → Bool) (cuts : List ℕ) (c : Copy) → IsClear cuts c → IsClear (filter test cuts) c
mend_clear test [] c clear = refl
mend_clear test (l ∷ cuts) c clear =
    elim (cases_Bool (is_on l c)) [
      | inl on ↦ let no : true ≡ false = rw on at clear in absurd (true≢false no)
      | inr off ↦
          let rest : IsClear cuts c = rw off at clear in
          elim (cases_Bool (test l)) [
            | inl stays ↦ rw (stays, off) (mend_clear test cuts c rest)
            | inr goes ↦ rw goes (mend_clear test cuts c rest)
          ]
    ]

-- what is taken out is clear, and so are the others
rest_clear : (s : Plant) (place : ℕ) (c : Copy) (rest : List Copy) → IsTakenOut s.flight place c rest → AreClear s →
    Each (IsClear s.cuts) rest
rest_clear s place c rest out clear = each_within (IsClear s.cuts) rest s.flight clear (rest_within s.flight place c rest out)

sends_clear : (net : Net) (done : List Handling) (s : Plant) (now : ℕ) (d : Handling) (turn : PlantTurn) (t : Plant) →
    Sends net done s now d turn t → AreClear s → AreClear t
sends_clear net done s now d turn t m clear =
    subst AreClear (sym m.after)
    (each_append (IsClear s.cuts) s.flight (those_passing s.cuts (spread net d)) clear (passing_clear s.cuts (spread net d)))

gone_clear : (s t : Plant) (place : ℕ) (c : Copy) (rest : List Copy) → IsTakenOut s.flight place c rest → t ≡ record s { flight = rest } →
    AreClear s → AreClear t
gone_clear s t place c rest out is clear = subst AreClear (sym is) (rest_clear s place c rest out clear)

move_clear : (net : Net) (done : List Handling) (s : Plant) (e : Event) (turn : PlantTurn) (t : Plant) → Moves net done s e turn t →
    AreClear s → AreClear t
move_clear net done s (send node) turn t m clear = sends_clear net done s s.clock m.0 turn t m.2 clear
move_clear net done s (tick node now) turn t (order, inl idle) clear = subst AreClear (sym idle.1) clear
move_clear net done s (tick node now) turn t (order, inr life) clear = sends_clear net done s now life.0 turn t life.3 clear
move_clear net done s (carry place) turn t (c, rest, out, inl m) clear = gone_clear s t place c rest out m.after clear
move_clear net done s (carry place) turn t (c, rest, out, inr (inl m)) clear = gone_clear s t place c rest out m.after clear
move_clear net done s (carry place) turn t (c, rest, out, inr (inr m)) clear =
    let sent = spread net m.0 in
    subst AreClear (sym m.1.after)
    (each_append (IsClear s.cuts) rest (those_passing s.cuts sent) (rest_clear s place c rest out clear) (passing_clear s.cuts sent))
move_clear net done s (drop place) turn t m clear = gone_clear s t place m.0 m.1 m.2 m.3.after clear
move_clear net done s (repeat place) turn t m clear =
    let one = each_of (IsClear s.cuts) s.flight clear m.0 (in_flight s.flight place m.0 m.1 m.2) in
    subst AreClear (sym m.4) (each_append (IsClear s.cuts) s.flight (m.0 ∷ []) clear (one, tt))
move_clear net done s (cut link) turn t m clear = subst AreClear (sym m.1) (cut_clear link s.cuts s.flight clear)
move_clear net done s (mend link) turn t m clear =
    subst AreClear (sym m.1)
    (each_map (IsClear s.cuts) (IsClear (filter (λ l. not (l == link)) s.cuts)) (mend_clear (λ l. not (l == link)) s.cuts) s.flight clear)

run_clear : (net : Net) (es : History) (p : Plant) → PlantRun net es p → AreClear p
run_clear net [] p run = subst AreClear (sym run) tt
run_clear net (e ∷ es) p run = move_clear net (done_in es) run.0 e.0 e.1 p run.2 (run_clear net es run.0 run.1)

pub cut_links_carry_nothing : CutLinksCarryNothing
cut_links_carry_nothing net es p run link is_cut =
    each_map (IsClear p.cuts) (λ c. One (λ l. l ≡ link) c.hop.links → ⊥) off p.flight (run_clear net es p run)
  where
    on : (c : Copy) → One (λ l. l ≡ link) c.hop.links → is_on link c ≡ true
    on c one = one_any (λ l. l == link) c.hop.links
        (one_map (λ l. l ≡ link) (λ l. (l == link) ≡ true) (λ l e. eq-eqb l link e) c.hop.links one)

    stopped : (c : Copy) → is_on link c ≡ true → is_stopped p.cuts c ≡ true
    stopped c is = one_any (λ l. is_on l c) p.cuts
        (one_map (λ l. l ≡ link) (λ l. is_on l c ≡ true) (λ l e. subst (λ k. is_on k c ≡ true) (sym e) is) p.cuts is_cut)

    off : (c : Copy) → IsClear p.cuts c → One (λ l. l ≡ link) c.hop.links → ⊥
    off c clear one = true≢false (sym (stopped c (on c one)) ∙ clear)
