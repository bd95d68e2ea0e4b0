-- What is said of lists side by side.
use Rattle.std.proofs.Common.{◌≡◌, ℕ, ◌+◌, List, [], ◌∷◌, ◌++◌, refl, sym, ap, ◌∙◌, subst, arith, append_assoc}
use Rattle.sr_forwarding.specs.Parcels.{ParcelImage}
use Rattle.sr_forwarding.specs.Framings.{FramingImage}
use Rattle.sr_node.specs.declared.event.Event.{Event}
use Rattle.sr_node.specs.declared.event.Answer.{Answer}
use Rattle.sr_ports.specs.declared.worker.Worker.{Worker}
use Rattle.sr_workers.specs.declared.feed.Given.{Given}
use Rattle.sr_workers.specs.Told.{Told, put_of, lost_after}
use Rattle.sr_workers.specs.Work.{AreOwn, Became, entered, unread, refused, GivesEach, unwritten, gave, brought_in, brought_by, parcels_in, parcel_in, nones_in, puts, losses_after}

pub brought-append : (xs ys : List (Event × Answer)) → brought_in (xs ++ ys) ≡ brought_in xs ++ brought_in ys
brought-append [] ys = refl
brought-append (x ∷ xs) ys = ap (λ l. brought_by x.0 ++ l) (brought-append xs ys) ∙ sym (append_assoc (brought_by x.0) (brought_in xs) (brought_in ys))

pub parcels_in-append : (xs ys : List (Event × Answer)) → parcels_in (xs ++ ys) ≡ parcels_in xs ++ parcels_in ys
parcels_in-append [] ys = refl
parcels_in-append (x ∷ xs) ys = ap (λ l. parcel_in x.1 ++ l) (parcels_in-append xs ys) ∙ sym (append_assoc (parcel_in x.1) (parcels_in xs) (parcels_in ys))

pub nones_in-append : (xs ys : List (Event × Answer)) → nones_in (xs ++ ys) ≡ nones_in xs + nones_in ys
nones_in-append [] ys = omega arith
nones_in-append (x ∷ xs) ys = omega (arith, nones_in-append xs ys)

pub puts-append : (xs ys : List (Given × List ℕ)) → puts (xs ++ ys) ≡ puts xs ++ puts ys
puts-append [] ys = refl
puts-append (x ∷ xs) ys = ap (λ l. put_of x.0 x.1 ++ l) (puts-append xs ys) ∙ sym (append_assoc (put_of x.0 x.1) (puts xs) (puts ys))

pub losses-append : (n : ℕ) (xs ys : List (Given × List ℕ)) → losses_after n (xs ++ ys) ≡ losses_after (losses_after n xs) ys
losses-append n [] ys = refl
losses-append n (x ∷ xs) ys = losses-append (lost_after n x.0) xs ys

pub AreOwn-append : (w : Worker) (xs ys : List (Event × Answer)) → AreOwn w xs → AreOwn w ys → AreOwn w (xs ++ ys)
AreOwn-append w [] ys p q = q
AreOwn-append w (x ∷ xs) ys p q = (p.0, AreOwn-append w xs ys p.1 q)

pub Became-count : (w : Worker) (f : FramingImage) (ts : List Told) (es : List Event) (u v : ℕ) → u ≡ v → Became w f ts es u → Became w f ts es v
Became-count w f ts es u v is b = subst (λ n. Became w f ts es n) is b

pub Became-append : (w : Worker) (f : FramingImage) (ts ts' : List Told) (es es' : List Event) (u u' : ℕ) → Became w f ts es u → Became w f ts' es' u' → Became w f (ts ++ ts') (es ++ es') (u + u')
Became-append w f ts ts' es es' u u' Became.nothing q = Became-count w f ts' es' u' (0 + u') (omega arith) q
Became-append w f ts ts' es es' u u' (entered t e rest more n is p) q = entered t e (rest ++ ts') (more ++ es') (n + u') is (Became-append w f rest ts' more es' n u' p q)
Became-append w f ts ts' es es' u u' (unread t rest more n none p) q =
    Became-count w f (t ∷ rest ++ ts') (more ++ es') (1 + (n + u')) (1 + n + u') (omega arith) (unread t (rest ++ ts') (more ++ es') (n + u') none (Became-append w f rest ts' more es' n u' p q))
Became-append w f ts ts' es es' u u' (refused t e rest more n is p) q =
    Became-count w f (t ∷ rest ++ ts') (more ++ es') (1 + (n + u')) (1 + n + u') (omega arith) (refused t e (rest ++ ts') (more ++ es') (n + u') is (Became-append w f rest ts' more es' n u' p q))

pub Sends-append : (f : FramingImage) (ps ps' : List ParcelImage) (gs gs' : List (Given × List ℕ)) → GivesEach f ps gs → GivesEach f ps' gs' → GivesEach f (ps ++ ps') (gs ++ gs')
Sends-append f ps ps' gs gs' GivesEach.nothing q = q
Sends-append f ps ps' gs gs' (unwritten p rest more bare s) q = unwritten p (rest ++ ps') (more ++ gs') bare (Sends-append f rest ps' more gs' s q)
Sends-append f ps ps' gs gs' (gave p g octets rest more can is s) q = gave p g octets (rest ++ ps') (more ++ gs') can is (Sends-append f rest ps' more gs' s q)
