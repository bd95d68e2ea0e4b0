-- What is judged of nodes holds of their ends once these tell it.
use Rattle.std.proofs.Common.{◌≡◌, ◌≢◌, ℕ, suc, ◌+◌, ◌-◌, ◌<◌, Bool, true, false, List, [], ◌∷◌, length, vec_len, get_or, Vec, Global, Some, refl, sym, ap, ◌∙◌, subst, arith, ⊎_elim, inl, inr, true≢false}
use Rattle.std.specs.Prelude.{◌==◌, ◌&&◌, ◌||◌, ◌⊎◌, ◌↔◌, IsTrue, if◌then◌else◌}
use Rattle.std.proofs.lemmas.Bool.Decides.{eqb_tells}
use Rattle.sr_frame.specs.declared.fields.Mac.{Mac}
use Rattle.sr_frame.specs.Addresses.{mac_eq}
use Rattle.sr_forwarding.specs.Framings.{FramingImage}
use Rattle.sr_forwarding.specs.Headers.{header_of}
use Rattle.sr_agreement.specs.Agreement.{Agreement}
use Rattle.sr_lines.specs.Pairs.{WirePair}
use Rattle.sr_node.specs.declared.event.Event.{Event}
use Rattle.sr_node.specs.declared.event.Event.TheVariants.{Arrive, Send, Tick, Take}
use Rattle.sr_node.specs.declared.event.Answer.{Answer}
use Rattle.sr_node.specs.Images.{State}
use Rattle.sr_node.specs.NodeImages.{image_state}
use Rattle.sr_ports.specs.declared.entry.Entry.{Entry}
use Rattle.sr_ports.specs.declared.log.Log.{Log}
use Rattle.sr_ports.specs.declared.segment.Segment.{Segment}
use Rattle.sr_ports.specs.declared.settling.Settlement.{Settlement}
use Rattle.sr_ports.specs.declared.settling.Settlement.TheVariants.{Torn}
use Rattle.sr_ports.specs.declared.worker.Worker.{Worker}
use Rattle.sr_ports.specs.Settling.{IsSettlement}
use Rattle.sr_workers.specs.declared.feed.Feed.{Ghosts}
use Rattle.sr_threaded.specs.declared.judging.Judgement.{Judgement}
use Rattle.sr_threaded.specs.declared.kit.LineEnd.{LineEnd}
use Rattle.sr_threaded.specs.declared.kit.NodeEnd.{NodeEnd}
use Rattle.sr_threaded.specs.declared.judging.Judgement.TheVariants.{Agree}
use Rattle.sr_threaded.specs.Joined.{RingWires}
use Rattle.sr_threaded.specs.Judged.{IsJudged, pairs_of, before, behind}
use Rattle.sr_threaded.specs.Ran.{NodeStart, IsSettlementFrom, LineRan, NodeRan, AllRan, WiredInRing, WiredInLans, EndsJudged, AreJudgedInRing, AreJudgedInLans, RanInRing, RanInLans}
use Rattle.sr_threaded.specs.Sources.{address_of, is_others, comes_from_others, all_from_others, AgreementIf, AgreesWithAll, LanAgreement, IsJudgedInLans}

-- the places before and behind one within are within
before_if : (b : Bool) (i n : ℕ) → i < n → (if b then n - 1 else i - 1) < n
before_if true i n low = omega (arith, low)
before_if false i n low = omega (arith, low)

pub before_in : (i n : ℕ) → i < n → before i n < n
before_in i n low = before_if (i == 0) i n low

behind_if : (b : Bool) (i n : ℕ) → ((b ≡ false) → i + 1 ≢ n) → i < n → (if b then 0 else i + 1) < n
behind_if true i n other low = omega (arith, low)
behind_if false i n other low =
    let is = other refl in
    omega (arith, low, is)

differ : (a b : ℕ) → (a == b) ≡ false → a ≢ b
differ a b is same = ⊎_elim (λ (t : ((a == b) ≡ true) × (a ≡ b)). absurd (true≢false (sym t.0 ∙ is))) (λ (f : ((a == b) ≡ false) × (a ≢ b)). f.1 same) (eqb_tells a b)

pub behind_in : (i n : ℕ) → i < n → behind i n < n
behind_in i n low = behind_if (i + 1 == n) i n (differ (i + 1) n) low

module _ {F : Type 0} {feed : Ghosts F} where
  -- a node ran, whatever its settlement tells beside
  still_ran : (start : NodeStart feed.Name) (own : Settlement) (was e : NodeEnd F feed)
      → e.segment ≡ was.segment → e.logs ≡ was.logs → e.ends ≡ was.ends → NodeRan feed start own was → NodeRan feed start own e
  still_ran start own was e history logs ends ran =
      let P : Segment × Vec Log Global → Type 0 = λ y. IsSettlementFrom start.node y.0 y.1.items own in
      record {
        logs = ap (λ v. vec_len v) logs ∙ ran.logs;
        ends = ap (λ v. vec_len v) ends ∙ ran.ends;
        each = λ i s l x low.
            let Q : Vec Log Global × Vec (LineEnd F) Global → Type 0 = λ y.
            LineRan feed (get_or start.lines i s) (get_or y.0.items i l) (get_or y.1.items i x) in
            subst Q (λ k. (sym logs k, sym ends k)) (ran.each i s l x low);
        settles = subst P (λ k. (sym history k, sym logs k)) ran.settles;
      }

  pub ran_in_ring : (begins : List (RingWires → NodeStart feed.Name)) (starts : List (NodeStart feed.Name)) (were ends : List (NodeEnd F feed))
      → WiredInRing begins starts → AllRan feed starts were → AreJudgedInRing were ends → RanInRing feed begins ends
  ran_in_ring begins starts were ends wired ran judged =
      let logs_at : (m : ℕ) (e : NodeEnd F feed) → m < length were → (get_or were m e).logs.items ≡ (get_or ends m e).logs.items =
      λ m e low. ap (λ v. v.items) (sym (judged.each m e low).2.logs) in
      record {
        wires = wired.wires;
        count = wired.count ∙ sym ran.count ∙ sym judged.count;
        ring = wired.ring;
        each = λ i b w e low.
            let below : i < length were = subst (λ n. i < n) judged.count low in
            let within : i < length starts = subst (λ n. i < n) ran.count below in
            let was = get_or were i e in
            let now = get_or ends i e in
            let is = judged.each i e below in
            let start = get_or begins i b (get_or wired.wires i w) in
            let begun : NodeRan feed start was.settlement was =
            subst (λ s. NodeRan feed s was.settlement was) (wired.each i b w start within) (ran.each i start e within) in
            let first : (get_or were (before i (length were)) e).logs.items ≡ (get_or ends (before i (length ends)) e).logs.items =
            logs_at (before i (length were)) e (before_in i (length were) below)
            ∙ ap (λ n. (get_or ends (before i n) e).logs.items) (sym judged.count) in
            let last : (get_or were (behind i (length were)) e).logs.items ≡ (get_or ends (behind i (length ends)) e).logs.items =
            logs_at (behind i (length were)) e (behind_in i (length were) below)
            ∙ ap (λ n. (get_or ends (behind i n) e).logs.items) (sym judged.count) in
            let own = logs_at i e below in
            let P : List Log × List Log × List Log → Type 0 = λ y. IsJudged y.0 y.1 y.2 is.0 in
            record {
              own = was.settlement;
              judgement = is.0;
              ran = still_ran start was.settlement was now is.2.segment is.2.logs is.2.ends begun;
              judged = subst P (λ k. (first k, own k, last k)) is.1;
              settlement = is.2.settlement;
            };
      }

  -- what was judged of each of a ring's nodes its end tells; xs are the ends as a slice
  pub judged_in_ring : (xs were ends : List (NodeEnd F feed)) (js : List Judgement) (n : ℕ) → xs ≡ were → n ≡ length were → length ends ≡ length were
      → ((i : ℕ) (e : NodeEnd F feed) (j : Judgement) → i < length xs → IsJudged (get_or xs (before i (length xs)) e).logs.items
      (get_or xs i e).logs.items (get_or xs (behind i (length xs)) e).logs.items (get_or js i j))
      → ((i : ℕ) (was : NodeEnd F feed) (j : Judgement) (e : NodeEnd F feed) → i < n → EndsJudged (get_or were i was) (get_or js i j) (get_or ends i e))
      → AreJudgedInRing were ends
  judged_in_ring xs were ends js n xs_are many count judged tells = record {
    count = count;
    each = λ i e low.
        let P : List (NodeEnd F feed) → Type 0 = λ ys. IsJudged (get_or ys (before i (length ys)) e).logs.items
        (get_or ys i e).logs.items (get_or ys (behind i (length ys)) e).logs.items (get_or js i Agree) in
        let below : i < length xs = subst (λ ys. i < length ys) (sym xs_are) low in
        let within : i < n = subst (λ m. i < m) (sym many) low in
        (get_or js i Agree, subst P xs_are (judged i e Agree below), tells i e Agree e within);
  }

  pub judged_in_lans : (xs were ends : List (NodeEnd F feed)) (js : List Judgement) (n : ℕ) → xs ≡ were → n ≡ length were → length ends ≡ length were
      → ((i : ℕ) (e : NodeEnd F feed) (j : Judgement) → i < length xs → IsJudgedInLans xs (get_or xs i e) (get_or js i j))
      → ((i : ℕ) (was : NodeEnd F feed) (j : Judgement) (e : NodeEnd F feed) → i < n → EndsJudged (get_or were i was) (get_or js i j) (get_or ends i e))
      → AreJudgedInLans were ends
  judged_in_lans xs were ends js n xs_are many count judged tells = record {
    count = count;
    each = λ i e low.
        let below : i < length xs = subst (λ ys. i < length ys) (sym xs_are) low in
        let within : i < n = subst (λ m. i < m) (sym many) low in
        (get_or js i Agree, subst (λ ys. IsJudgedInLans ys (get_or ys i e) (get_or js i Agree)) xs_are (judged i e Agree below), tells i e Agree e within);
  }

  -- so many nodes show the same to who judges them
  abbrev AreShown : List (NodeEnd F feed) → List (NodeEnd F feed) → Type 0
  AreShown [] [] = Unit {0}
  AreShown [] (y ∷ ys) = ⊥
  AreShown (x ∷ xs) [] = ⊥
  AreShown (x ∷ xs) (y ∷ ys) = (x.segment ≡ y.segment) × (x.logs ≡ y.logs) × AreShown xs ys

  all_shown : (xs ys : List (NodeEnd F feed)) → length ys ≡ length xs
      → ((i : ℕ) (e : NodeEnd F feed) → i < length xs
      → ((get_or xs i e).segment ≡ (get_or ys i e).segment) × ((get_or xs i e).logs ≡ (get_or ys i e).logs))
      → AreShown xs ys
  all_shown [] [] len each = tt
  all_shown [] (y ∷ ys) len each = absurd (omega (arith, len))
  all_shown (x ∷ xs) [] len each = absurd (omega (arith, len))
  all_shown (x ∷ xs) (y ∷ ys) len each =
      let here = each 0 x (omega arith) in
      (here.0, here.1, all_shown xs ys (omega (arith, len)) (λ i e low. each (suc i) e (omega (arith, low))))

  same_address : (x y : NodeEnd F feed) → x.segment ≡ y.segment → address_of x ≡ address_of y
  same_address x y is = ap (λ s. s.opening.role.mac) is

  same_others : (own m : Mac) (xs ys : List (NodeEnd F feed)) → AreShown xs ys → is_others own xs m ≡ is_others own ys m
  same_others own m [] [] shown = refl
  same_others own m [] (y ∷ ys) shown = absurd shown
  same_others own m (x ∷ xs) [] shown = absurd shown
  same_others own m (x ∷ xs) (y ∷ ys) shown =
      let here = same_address x y shown.0 in
      let rest = same_others own m xs ys shown.2 in
      λ k. (if mac_eq (here k) own then false else mac_eq m (here k)) || rest k

  same_source : (own : Mac) (e : Event) (xs ys : List (NodeEnd F feed)) → AreShown xs ys → comes_from_others own xs e ≡ comes_from_others own ys e
  same_source own (Arrive port p now) xs ys shown = same_others own (header_of p).src xs ys shown
  same_source own (Send frame now) xs ys shown = refl
  same_source own (Tick now) xs ys shown = refl
  same_source own (Take port) xs ys shown = refl

  same_sources : (own : Mac) (log : List (Event × Answer)) (xs ys : List (NodeEnd F feed)) → AreShown xs ys
      → all_from_others own xs log ≡ all_from_others own ys log
  same_sources own [] xs ys shown = refl
  same_sources own (p ∷ ps) xs ys shown =
      let here = same_source own p.0 xs ys shown in
      let rest = same_sources own ps xs ys shown in
      λ k. here k && rest k

  same_agreement : (own : Bool) (f : FramingImage) (w : Worker) (arrivals : List (Event × Answer)) (x y : NodeEnd F feed) (b : Bool)
      → x.segment ≡ y.segment → x.logs ≡ y.logs → AgreementIf own f w arrivals x b → AgreementIf own f w arrivals y b
  same_agreement true f w arrivals x y b history logs is = is
  same_agreement false f w arrivals x y b history logs is =
      let P : Mac × Vec Log Global → Type 0 = λ z. Agreement f (Some z.0) arrivals (pairs_of w z.1.items) b in
      let here = same_address x y history in
      subst P (λ k. (here k, logs k)) is

  same_agreements : (f : FramingImage) (w : Worker) (own : Mac) (arrivals : List (Event × Answer)) (xs ys : List (NodeEnd F feed)) (b : Bool)
      → AreShown xs ys → AgreesWithAll f w own arrivals xs b → AgreesWithAll f w own arrivals ys b
  same_agreements f w own arrivals [] [] b shown is = is
  same_agreements f w own arrivals [] (y ∷ ys) b shown is = absurd shown
  same_agreements f w own arrivals (x ∷ xs) [] b shown is = absurd shown
  same_agreements f w own arrivals (x ∷ xs) (y ∷ ys) b shown is =
      let here = same_agreement (mac_eq (address_of x) own) f w arrivals x y is.0 shown.0 shown.1 is.2 in
      let first = subst (λ m. AgreementIf (mac_eq m own) f w arrivals y is.0) (same_address x y shown.0) here in
      (is.0, is.1, first, same_agreements f w own arrivals xs ys is.1 shown.2 is.3, is.4)

  same_lan : (f : FramingImage) (w : Worker) (xs ys : List (NodeEnd F feed)) (x y : NodeEnd F feed) (b : Bool)
      → AreShown xs ys → x.segment ≡ y.segment → x.logs ≡ y.logs → LanAgreement f w xs x b → LanAgreement f w ys y b
  same_lan f w xs ys x y b shown history logs is =
      let here = same_address x y history in
      let P : Mac × Vec Log Global → Type 0 = λ z. AgreesWithAll f w z.0 (pairs_of w z.1.items) ys is.sent in
      let sources = same_sources (address_of x) (pairs_of w x.logs.items) xs ys shown in
      record {
        sent = is.sent;
        with_all = subst P (λ k. (here k, logs k)) (same_agreements f w (address_of x) (pairs_of w x.logs.items) xs ys is.sent shown is.with_all);
        agrees = is.agrees ∙ (λ k. sources k && is.sent) ∙ (λ k. all_from_others (here k) ys (pairs_of w (logs k).items) && is.sent);
      }

  pub ran_in_lans : (begins : List (List WirePair → List WirePair → NodeStart feed.Name)) (starts : List (NodeStart feed.Name))
      (were ends : List (NodeEnd F feed)) → WiredInLans begins starts → AllRan feed starts were → AreJudgedInLans were ends → RanInLans feed begins ends
  ran_in_lans begins starts were ends wired ran judged =
      let shown : AreShown were ends = all_shown were ends judged.count (λ i e low. (sym (judged.each i e low).2.segment, sym (judged.each i e low).2.logs)) in
      record {
        a = wired.a;
        b = wired.b;
        count_a = wired.count_a ∙ sym ran.count ∙ sym judged.count;
        count_b = wired.count_b ∙ sym ran.count ∙ sym judged.count;
        lan_a = wired.lan_a;
        lan_b = wired.lan_b;
        each = λ i f w e low.
            let below : i < length were = subst (λ n. i < n) judged.count low in
            let within : i < length starts = subst (λ n. i < n) ran.count below in
            let was = get_or were i e in
            let now = get_or ends i e in
            let is = judged.each i e below in
            let start = get_or begins i f (get_or wired.a i w) (get_or wired.b i w) in
            let begun : NodeRan feed start was.settlement was =
            subst (λ s. NodeRan feed s was.settlement was) (wired.each i f w start within) (ran.each i start e within) in
            let history = sym is.2.segment in
            let logs = sym is.2.logs in
            record {
              own = was.settlement;
              judgement = is.0;
              ran = still_ran start was.settlement was now is.2.segment is.2.logs is.2.ends begun;
              judged = record {
                at_a = is.1.at_a;
                at_b = is.1.at_b;
                a = same_lan _ _ were ends was now is.1.at_a shown history logs is.1.a;
                b = same_lan _ _ were ends was now is.1.at_b shown history logs is.1.b;
                judged = is.1.judged;
              };
              settlement = is.2.settlement;
            };
      }

-- a node settles so, by whether its history opens with what was given
pub settles_from : (node : State) (history : Segment) (logs : List Log) (es : List Entry) (opens : Bool) (own result : Settlement)
    → (IsTrue opens ↔ (image_state history.opening ≡ node)) → es ≡ history.entries.items → IsSettlement es logs own
    → result ≡ (if opens then own else Torn 0) → IsSettlementFrom node history logs result
settles_from node history logs es true own result same entries is told =
    let P : List Entry × Settlement → Type 0 = λ x. IsSettlement x.0 logs x.1 in
    inl (same.0 refl, subst P (λ k. (entries k, sym told k)) is)
settles_from node history logs es false own result same entries is told =
    inr ((λ e. true≢false (sym (same.1 e))), told)
