-- What is judged of nodes, one more.
use Rattle.std.proofs.Common.{◌≡◌, Bool, true, false, List, [], ◌∷◌, Some, refl, sym, ap, ◌∙◌, subst}
use Rattle.std.specs.Prelude.{◌&&◌}
use Rattle.sr_frame.specs.declared.fields.Mac.{Mac}
use Rattle.sr_frame.specs.Addresses.{mac_eq}
use Rattle.sr_forwarding.specs.Framings.{FramingImage}
use Rattle.sr_node.specs.declared.event.Event.{Event}
use Rattle.sr_node.specs.declared.event.Answer.{Answer}
use Rattle.sr_agreement.specs.Agreement.{Agreement}
use Rattle.sr_ports.specs.declared.worker.Worker.{Worker}
use Rattle.sr_workers.specs.declared.feed.Feed.{Ghosts}
use Rattle.sr_threaded.specs.Judged.{pairs_of}
use Rattle.sr_threaded.specs.declared.kit.NodeEnd.{NodeEnd}
use Rattle.sr_threaded.specs.Sources.{address_of, AgreementIf, IsAgreementWith, AgreesWithAll}

and_true : (a : Bool) → (a && true) ≡ a
and_true true = refl
and_true false = refl

and_assoc : (a b c : Bool) → (a && (b && c)) ≡ ((a && b) && c)
and_assoc true b c = refl
and_assoc false b c = refl

module _ {F : Type 0} {feed : Ghosts F} (f : FramingImage) (w : Worker) (own : Mac) (arrivals : List (Event × Answer)) where
  pub the_own : (e : NodeEnd F feed) → mac_eq (address_of e) own ≡ true → IsAgreementWith f w own arrivals e true
  the_own e is = subst (λ b. AgreementIf b f w arrivals e true) (sym is) refl

  pub anothers : (e : NodeEnd F feed) (c : Bool) → mac_eq (address_of e) own ≡ false
      → Agreement f (Some (address_of e)) arrivals (pairs_of w e.logs.items) c → IsAgreementWith f w own arrivals e c
  anothers e c is agrees = subst (λ b. AgreementIf b f w arrivals e c) (sym is) agrees

  -- one more is asked
  pub one_more : (all rest behind : List (NodeEnd F feed)) (e : NodeEnd F feed) (old new c : Bool)
      → ((d : Bool) → AgreesWithAll f w own arrivals rest d → AgreesWithAll f w own arrivals all (old && d))
      → rest ≡ e ∷ behind → IsAgreementWith f w own arrivals e c → new ≡ (old && c)
      → (d : Bool) → AgreesWithAll f w own arrivals behind d → AgreesWithAll f w own arrivals all (new && d)
  one_more all rest behind e old new c was is agrees then_is d others =
      let here : AgreesWithAll f w own arrivals rest (c && d) = subst (λ l. AgreesWithAll f w own arrivals l (c && d)) (sym is) (c, d, agrees, others, refl) in
      subst (λ b. AgreesWithAll f w own arrivals all b) (and_assoc old c d ∙ ap (λ b. b && d) (sym then_is)) (was (c && d) here)

  -- all are asked
  pub all_asked : (all rest : List (NodeEnd F feed)) (old : Bool)
      → ((d : Bool) → AgreesWithAll f w own arrivals rest d → AgreesWithAll f w own arrivals all (old && d))
      → rest ≡ [] → AgreesWithAll f w own arrivals all old
  all_asked all rest old was is =
      subst (λ b. AgreesWithAll f w own arrivals all b) (and_true old) (was true (subst (λ l. AgreesWithAll f w own arrivals l true) (sym is) refl))

-- one fact more where all so far hold, and where they do not
pub goes_on : (old c : Bool) → old ≡ true → c ≡ (old && c)
goes_on true c is = refl
goes_on false c is = absurd cc

pub stays : (old c : Bool) → old ≡ false → old ≡ (old && c)
stays false c is = refl
stays true c is = absurd cc
