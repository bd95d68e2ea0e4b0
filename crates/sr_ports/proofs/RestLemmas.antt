-- What is left of workers' pairs once entries were walked.
use Rattle.std.proofs.Common.{◌≡◌, ◌≢◌, ℕ, ◌<◌, ◌⊎◌, inl, inr, List, ◌∷◌, length, get_or, set, Option, None, Bool, true, false, eqb, refl, sym, ap, ◌∙◌, subst, if◌then◌else◌}
use Rattle.std.specs.Prelude.{◌↔◌}
use Rattle.std.specs.Borrow.{Bor}
use Rattle.std.proofs.lemmas.Bool.Decides.{eqb_tells}
use Rattle.std.proofs.lemmas.Grind.{get_or-set_at}
use Rattle.std.proofs.lemmas.List.{get_or_default, get_or-set_other}
use Rattle.sr_node.specs.declared.event.Event.{Event}
use Rattle.sr_node.specs.declared.event.Answer.{Answer}
use Rattle.sr_ports.specs.declared.log.Log.{Log}
use Rattle.sr_ports.specs.declared.segment.Segment.{Segment}
use Rattle.sr_ports.specs.declared.settling.Settlement.{Settlement}
use Rattle.sr_ports.specs.declared.settling.Settlement.TheVariants.{Settled, Disagrees, Torn}
use Rattle.sr_ports.specs.declared.worker.Worker.{Worker}
use Rattle.sr_ports.specs.declared.worker.Worker.TheVariants.{A, B, C, Ager, Host}
use Rattle.sr_ports.specs.Parts.{is_same_worker, entries_in}
use Rattle.sr_ports.specs.Rests.{worker_place, IsRest}
use Rattle.sr_ports.specs.Settling.{AreWhole, IsSettlement, IsSettlementOfAll}

abbrev Pairs : Type 0
Pairs = List (Event × Answer)

abbrev Left : Type 0
Left = Option (Bor Pairs)

-- what holds of the five workers holds of each
pub each_worker : (P : Worker → Type 0) → P A → P B → P C → P Ager → P Host → (w : Worker) → P w
each_worker P a b c ager host A = a
each_worker P a b c ager host B = b
each_worker P a b c ager host C = c
each_worker P a b c ager host Ager = ager
each_worker P a b c ager host Host = host

-- workers are one where their places are
places_tell : (w v : Worker) → is_same_worker w v ≡ eqb (worker_place w) (worker_place v)
places_tell = each_worker (λ w. (v : Worker) → is_same_worker w v ≡ eqb (worker_place w) (worker_place v))
    (each_worker (λ v. is_same_worker A v ≡ eqb 0 (worker_place v)) refl refl refl refl refl)
    (each_worker (λ v. is_same_worker B v ≡ eqb 1 (worker_place v)) refl refl refl refl refl)
    (each_worker (λ v. is_same_worker C v ≡ eqb 2 (worker_place v)) refl refl refl refl refl)
    (each_worker (λ v. is_same_worker Ager v ≡ eqb 3 (worker_place v)) refl refl refl refl refl)
    (each_worker (λ v. is_same_worker Host v ≡ eqb 4 (worker_place v)) refl refl refl refl refl)

-- the same is left of the same pairs
same_rest : (xs ys : Pairs) (l m : Left) → xs ≡ ys → l ≡ m → (IsRest xs l) ↔ (IsRest ys m)
same_rest xs ys l m e f = (
  λ h. subst (λ k. IsRest ys k) f (subst (λ k. IsRest k l) e h),
  λ h. subst (λ k. IsRest xs k) (sym f) (subst (λ k. IsRest k m) (sym e) h),
)

-- what is left of the worker of an entry is left behind it, and of the others what was
stepped : (w v : Worker) (p : Event × Answer) (l : List Left) (k : ℕ) (old new : Left) (others : Pairs)
    → k ≡ worker_place v → k < length l → old ≡ get_or l k old
    → ((pairs : Pairs) → (IsRest (p ∷ pairs) old) ↔ (IsRest pairs new))
    → (IsRest (if is_same_worker w v then p ∷ others else others) (get_or l (worker_place w) None))
    ↔ (IsRest others (get_or (set l k new) (worker_place w) None))
stepped w v p l k old new others at within read goes =
    let own : Pairs = if is_same_worker w v then p ∷ others else others in
    let before : Left = get_or l (worker_place w) None in
    let after : Left = get_or (set l k new) (worker_place w) None in
    let told : (b : Bool) → eqb (worker_place w) (worker_place v) ≡ b → own ≡ (if b then p ∷ others else others) =
    λ b e. ap (λ c. if c then p ∷ others else others) (places_tell w v ∙ e) in
    let here : worker_place w ≡ k → eqb (worker_place w) (worker_place v) ≡ true → (IsRest own before) ↔ (IsRest others after) =
    λ e t.
    let first : (IsRest own before) ↔ (IsRest (p ∷ others) old) =
    same_rest own (p ∷ others) before old (told true t) (ap (λ i. get_or l i None) e ∙ get_or_default l k None old within ∙ sym read) in
    let last : (IsRest others new) ↔ (IsRest others after) =
    same_rest others others new after refl (sym (get_or-set_at l k (worker_place w) new None e within)) in
    (λ h. last.0 ((goes others).0 (first.0 h)), λ h. first.1 ((goes others).1 (last.1 h))) in
    let either_way : (((eqb (worker_place w) (worker_place v) ≡ true) × (worker_place w ≡ worker_place v)) ⊎ ((eqb (worker_place w) (worker_place v) ≡ false) × (worker_place w ≢ worker_place v)))
    → (IsRest own before) ↔ (IsRest others after) = elim [
      | inl same ↦ here (same.1 ∙ sym at) same.0
      | inr other ↦ same_rest own others before after (told false other.0) (sym (get_or-set_other l k (worker_place w) new None (λ e. other.1 (e ∙ at))))
    ] in
    either_way (eqb_tells (worker_place w) (worker_place v))

-- the same, where what is found behind the entry and what stands there then are told apart
pub stepped_to : (w v : Worker) (p : Event × Answer) (l m : List Left) (k : ℕ) (old new got : Left) (others : Pairs)
    → k ≡ worker_place v → k < length l → old ≡ get_or l k old
    → ((pairs : Pairs) → (IsRest (p ∷ pairs) old) ↔ (IsRest pairs got)) → got ≡ new → m ≡ set l k new
    → (IsRest (if is_same_worker w v then p ∷ others else others) (get_or l (worker_place w) None))
    ↔ (IsRest others (get_or m (worker_place w) None))
stepped_to w v p l m k old new got others at within read goes is_new is_set =
    subst (λ n. (IsRest (if is_same_worker w v then p ∷ others else others) (get_or l (worker_place w) None)) ↔ (IsRest others (get_or n (worker_place w) None)))
    (sym is_set)
    (stepped w v p l k old new others at within read (subst (λ r. (pairs : Pairs) → (IsRest (p ∷ pairs) old) ↔ (IsRest pairs r)) is_new goes))

-- what holds where it holds of a list goes on, where that list is another
pub on_from : {X P R : Type 0} {xs ys : List X} (Q : List X → Type 0) → xs ≡ ys → P ↔ Q xs → (Q ys) ↔ R → P ↔ R
on_from Q e f g = (λ p. g.0 (subst Q e (f.0 p)), λ r. f.1 (subst Q (sym e) (g.1 r)))

-- where no segment is torn, all settle as their entries do
pub whole : (ss : List Segment) (ls : List Log) (s : Settlement) → AreWhole ss → IsSettlement (entries_in ss) ls s → IsSettlementOfAll ss ls s
whole ss ls Settled follow settles = (follow, settles)
whole ss ls (Disagrees w) follow settles = (follow, settles)
whole ss ls (Torn i) follow settles = absurd settles
