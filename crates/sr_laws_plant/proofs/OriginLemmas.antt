-- What is in flight was put out by a member, and was sent.
use Rattle.std.proofs.Common.{◌≡◌, ℕ, ◌⊎◌, inl, inr, Bool, true, false, List, [], ◌∷◌, ◌++◌, map, refl, sym, ap, ◌∙◌, subst, Option, None}
use Rattle.std.proofs.Common.{Some}
use Rattle.std.proofs.lemmas.Bool.{cases_Bool}
use Rattle.std.specs.Prelude.{◌==◌, option_to_list}
use Rattle.sr_laws_plant.specs.Lists.{One, Each}
use Rattle.sr_frame.specs.declared.ports.Port.{Port}
use Rattle.sr_frame.specs.declared.ports.Port.TheVariants.{A, B, C}
use Rattle.sr_laws_plant.specs.Frames.{Frame}
use Rattle.sr_laws_plant.specs.Handlings.{Handling, is_sending, IsSent, IsSending, IsNotEarlier, IsSendingOrArrival, AreConsistent}
use Rattle.sr_laws_plant.specs.OneNode.{WasPut, ComesIn, CameIn}
use Rattle.sr_laws_plant.specs.Ledger.{Hop, Copy, Net, copies_put, spread, spread_all, PlantTurn, made, handlings, IsArrivalOf, CameFrom}
use Rattle.sr_laws_plant.specs.Ledger.{Within, LedgerRun}
use Rattle.sr_laws_plant.specs.ListLemmas.{one_map, one_is, one_each, each_map, each_append, each_of}

-- a property of copies, by what was done so far
abbrev pub Property : Type 1
Property = List Handling → Copy → Type 0

-- what comes in has it
pub record Arose (Q : Property) (before : List Handling) (d : Handling) : Type 0 where
  pub copy : Copy
  pub is : IsArrivalOf d copy
  pub has : Q before copy

abbrev pub IsBorn : Property → List Handling → Handling → Type 0
IsBorn Q before d = (is_sending d ≡ true) ⊎ Arose Q before d

abbrev pub AreBorn : Property → List Handling → Type 0
AreBorn Q [] = Unit {0}
AreBorn Q (d ∷ before) = AreBorn Q before × IsBorn Q before d

-- it stays, and what goes out has it
pub record IsKept (net : Net) (Q : Property) : Type 0 where
  pub stays : (d : Handling) (ds : List Handling) (c : Copy) → Q ds c → Q (d ∷ ds) c
  pub out : (d : Handling) (ds : List Handling) → IsBorn Q ds d → Each (Q (d ∷ ds)) (spread net d)

pub each_within : (P : Copy → Type 0) (cs xs : List Copy) → Each P xs → Within cs xs → Each P cs
each_within P cs xs all within = each_map (λ c. One (λ x. x ≡ c) xs) P (λ c o. each_of P xs all c o) cs within

after_turn : (net : Net) (Q : Property) → IsKept net Q → (did : Option Handling) (doubled u : List Copy) (before : List Handling) →
    AreBorn Q before → Each (Q before) u → Each (CameFrom u) (option_to_list did) → Within doubled u →
    AreBorn Q (option_to_list did ++ before) × Each (Q (option_to_list did ++ before))
    (u ++ (spread_all net (option_to_list did) ++ doubled))
after_turn net Q keeps None doubled u before born flight from doubles =
    (born, each_append (Q before) u doubled flight (each_within (Q before) doubled u flight doubles))
after_turn net Q keeps (Some d) doubled u before born flight from doubles =
    let now : IsBorn Q before d = comes from.0 in
    let older : Each (Q (d ∷ before)) u = each_map (Q before) (Q (d ∷ before)) (keeps.stays d before) u flight in
    let out : Each (Q (d ∷ before)) (spread net d ++ []) = each_append (Q (d ∷ before)) (spread net d) [] (keeps.out d before now) tt in (
      (born, now),
      each_append (Q (d ∷ before)) u ((spread net d ++ []) ++ doubled) older
          (each_append (Q (d ∷ before)) (spread net d ++ []) doubled out (each_within (Q (d ∷ before)) doubled u older doubles)),
    )
  where
    comes : CameFrom u d → IsBorn Q before d
    comes (inl sends) = inl sends
    comes (inr copy) =
        let both = one_is (λ c. Q before c × IsArrivalOf d c) u (one_each (Q before) (IsArrivalOf d) u flight copy) in
        inr (record { copy = both.0; is = both.1.1; has = both.1.0 })

pub all_born : (net : Net) (Q : Property) → IsKept net Q → (ts : List PlantTurn) (v : List Copy) → LedgerRun net ts v →
    AreBorn Q (handlings ts) × Each (Q (handlings ts)) v
all_born net Q keeps [] v run = (tt, rw run tt)
all_born net Q keeps (t ∷ ts) v run =
    let before = all_born net Q keeps ts run.0 run.1 in
    let now = after_turn net Q keeps t.did t.doubled run.0 (handlings ts) before.0 before.1 run.2.from run.2.doubles in
    (now.0, each_within (Q (handlings (t ∷ ts))) v (run.0 ++ made net t) now.1 run.2.stays)

-- what a member put out
pub record IsOut (net : Net) (ds : List Handling) (c : Copy) : Type 0 where
  pub node : ℕ
  pub outlet : Port
  pub put : WasPut node outlet c.frame ds
  pub hop : One (λ h. h ≡ c.hop) (net node outlet)

outs_of : (net : Net) (d : Handling) (o : Port) (ds : List Handling) (hs : List Hop) → WasPut d.node o d.frame (d ∷ ds) →
    ((h : Hop) → One (λ g. g ≡ h) hs → One (λ g. g ≡ h) (net d.node o)) →
    Each (IsOut net (d ∷ ds)) (map (λ h. record { hop = h; frame = d.frame }) hs)
outs_of net d o ds [] put within = tt
outs_of net d o ds (h ∷ hs) put within =
    (record { node = d.node; outlet = o; put = put; hop = within h (inl refl) }, outs_of net d o ds hs put (λ g is. within g (inr is)))

put_outs : (net : Net) (d : Handling) (o : Port) (ds : List Handling) → Each (IsOut net (d ∷ ds)) (copies_put net d o)
put_outs net d o ds =
    elim (cases_Bool (d.went o)) [
      | inl out ↦ rw out (outs_of net d o ds (net d.node o) (inl (refl, refl, out)) (λ h is. is))
      | inr not_out ↦ rw not_out tt
    ]

pub out_kept : (net : Net) → IsKept net (IsOut net)
out_kept net = record {
  stays = λ d ds c q. record { node = q.node; outlet = q.outlet; put = inr q.put; hop = q.hop };
  out = λ d ds born.
      each_append (IsOut net (d ∷ ds)) (copies_put net d A) (copies_put net d B ++ copies_put net d C) (put_outs net d A ds)
      (each_append (IsOut net (d ∷ ds)) (copies_put net d B) (copies_put net d C) (put_outs net d B ds) (put_outs net d C ds));
}

-- what was sent
abbrev Sent : Property
Sent ds c = IsSent c.frame ds

frames_of : (f : Frame) (hs : List Hop) → Each (λ (c : Copy). c.frame ≡ f) (map (λ h. record { hop = h; frame = f }) hs)
frames_of f [] = tt
frames_of f (h ∷ hs) = (refl, frames_of f hs)

put_frames : (net : Net) (d : Handling) (o : Port) → Each (λ c. c.frame ≡ d.frame) (copies_put net d o)
put_frames net d o =
    elim (cases_Bool (d.went o)) [
      | inl out ↦ rw out (frames_of d.frame (net d.node o))
      | inr not_out ↦ rw not_out tt
    ]

spread_frames : (net : Net) (d : Handling) → Each (λ c. c.frame ≡ d.frame) (spread net d)
spread_frames net d =
    let Its : Copy → Type 0 = λ c. c.frame ≡ d.frame in
    each_append Its (copies_put net d A) (copies_put net d B ++ copies_put net d C) (put_frames net d A)
    (each_append Its (copies_put net d B) (copies_put net d C) (put_frames net d B) (put_frames net d C))

born_sent : (d : Handling) (ds : List Handling) → IsBorn Sent ds d → IsSent d.frame (d ∷ ds)
born_sent d ds (inl sends) = inl (sends, refl)
born_sent d ds (inr a) = inr (subst (λ g. IsSent g ds) (sym a.is.2) a.has)

sent_kept : (net : Net) → IsKept net Sent
sent_kept net = record {
  stays = λ d ds c q. inr q;
  out = λ d ds born.
      each_map (λ c. c.frame ≡ d.frame) (Sent (d ∷ ds)) (λ c e. subst (λ g. IsSent g (d ∷ ds)) (sym e) (born_sent d ds born))
      (spread net d) (spread_frames net d);
}

-- Consistent, by each member's own rules alone: that what comes in was sent is the plant's affair.
abbrev pub KeepsOwnRules : Bool → List Handling → Handling → Type 0
KeepsOwnRules true before d = IsSending before d
KeepsOwnRules false before d = (d.node == d.frame.src) ≡ false

-- no time goes back
abbrev pub AreOrderly : List Handling → Type 0
AreOrderly [] = Unit {0}
AreOrderly (d ∷ before) = AreOrderly before × IsNotEarlier before d × KeepsOwnRules (is_sending d) before d

-- so the members' own rules are all that has to be asked
done_of : (ds : List Handling) → AreOrderly ds → AreBorn Sent ds → AreConsistent ds
done_of [] orderly born = tt
done_of (d ∷ before) orderly born = (done_of before orderly.0 born.0, orderly.1, either (is_sending d) refl orderly.2)
  where
    either : (b : Bool) → is_sending d ≡ b → KeepsOwnRules b before d → IsSendingOrArrival b before d
    either true is rule = rule
    either false is rule =
        elim born.1 [
          | inl sends ↦ let no : true ≡ false = sym sends ∙ is in absurd cc
          | inr a ↦ record { sent = subst (λ g. IsSent g before) (sym a.is.2) a.has; foreign = rule }
        ]

pub all_done : (net : Net) (ts : List PlantTurn) (v : List Copy) → LedgerRun net ts v → AreOrderly (handlings ts) →
    AreConsistent (handlings ts)
all_done net ts v run orderly = done_of (handlings ts) orderly (all_born net Sent (sent_kept net) ts v run).0

-- What came in from outside was put out by a member from which that leads there.
pub record Fed (net : Net) (ds : List Handling) (k : ℕ) (p : Port) (f : Frame) : Type 0 where
  pub node : ℕ
  pub outlet : Port
  pub put : WasPut node outlet f ds
  pub leads : One (λ h. h.to ≡ record { node = k; port = p }) (net node outlet)

fed_in : (net : Net) (ds : List Handling) (k : ℕ) (p : Port) (f : Frame) → AreBorn (IsOut net) ds → CameIn k p f ds →
    Fed net ds k p f ⊎ One (λ d. (is_sending d ≡ true) × ComesIn k p f d) ds
fed_in net [] k p f born came = absurd came
fed_in net (d ∷ before) k p f born (inr came) =
    elim (fed_in net before k p f born.0 came) [
      | inl fed ↦ inl (record { node = fed.node; outlet = fed.outlet; put = inr fed.put; leads = fed.leads })
      | inr sends ↦ inr (inr sends)
    ]
fed_in net (d ∷ before) k p f born (inl here) =
    elim born.1 [
      | inl sends ↦ inr (inl (sends, here))
      | inr a ↦
          let q = a.has in
          let frame : a.copy.frame ≡ f = sym a.is.2 ∙ here.2 in
          let node : a.copy.hop.to.node ≡ k = sym a.is.0 ∙ here.0 in
          let port : a.copy.hop.to.port ≡ p = sym a.is.1 ∙ here.1 in
          let place : a.copy.hop.to ≡ record { node = k; port = p } = λ j. record { node = node j; port = port j } in
          inl (record {
            node = q.node;
            outlet = q.outlet;
            put = inr (subst (λ g. WasPut q.node q.outlet g before) frame q.put);
            leads = one_map (λ h. h ≡ a.copy.hop) (λ h. h.to ≡ record { node = k; port = p }) (λ h e. ap (λ x. x.to) e
                ∙ place) (net q.node q.outlet) q.hop;
          })
    ]

pub fed : (net : Net) (ts : List PlantTurn) (v : List Copy) (k : ℕ) (p : Port) (f : Frame) → LedgerRun net ts v →
    CameIn k p f (handlings ts) → Fed net (handlings ts) k p f ⊎ One (λ d. (is_sending d ≡ true) × ComesIn k p f d) (handlings ts)
fed net ts v k p f run came = fed_in net (handlings ts) k p f (all_born net (IsOut net) (out_kept net) ts v run).0 came
