-- A file whose packets are taken one by one.
use Rattle.std.proofs.Common.{◌≡◌, ℕ, ◌+◌, ◌-◌, ◌^◌, List, [], ◌∷◌, ◌++◌, length, Option, Some, None, sym, ap, subst, refl, ◌∙◌, arith}
use Rattle.std.specs.Prelude.{min, max, cond, nat_lt, ◌&&◌, Bool, true, false}
use Rattle.std.proofs.lemmas.List.{length-append, append-nil}
use Rattle.std.proofs.lemmas.List.Sums.{sum_by-append}
use Rattle.std.proofs.lemmas.Bool.Decides.{nat_tests}
use Rattle.sr_capture.specs.declared.fault.CaptureFault.{CaptureFault}
use Rattle.sr_capture_file.specs.declared.format.Format.{Format}
use Rattle.sr_capture.specs.Taking.{Loses}
use Rattle.sr_capture.specs.TakingLemmas.{loses_more, none_left, loses_nothing}
use Rattle.sr_capture.specs.Records.{Captured, Shows}
use Rattle.sr_capture_file.specs.Formats.{front_len, AreTaken}
use Rattle.sr_capture_file.specs.TakenLemmas.{taken_none, taken_on, front_few}
use Rattle.sr_capture_script.specs.declared.choice.Inlet.{Inlet}
use Rattle.sr_capture_script.specs.declared.flaws.Flaw.{Flaw}
use Rattle.sr_capture_script.specs.declared.flaws.Flaw.TheVariants as flaw
use Rattle.sr_capture_script.specs.declared.flaws.FlawCounts.{FlawCounts}
use Rattle.sr_capture_script.specs.Flaws.{flaw_of, is_flaw, tally, tallied, counted, latest_time, backs, goes_back, with_back}
use Rattle.sr_capture_script.specs.Items.{Item, moment_of, items_from, items_of}
use Rattle.sr_capture_script.specs.Sources.{Progress, last_moment, IsDue, Feeds, GoesOn, IsUntaken, IsStuck, IsFaulty}
use Rattle.sr_capture_script.specs.Picking.{NotBefore}

last_moment_more : (delay last : ℕ) (packets : List Captured) (packet : Captured)
    → last_moment delay last (packets ++ packet ∷ []) ≡ moment_of delay (last_moment delay last packets) packet
last_moment_more delay last [] packet = refl
last_moment_more delay last (p ∷ ps) packet = last_moment_more delay (moment_of delay last p) ps packet

-- the item of a packet behind others
abbrev item_behind : Inlet → ℕ → ℕ → ℕ → List Captured → Captured → Item
item_behind inlet delay last number packets packet =
    record { inlet = inlet; number = number + length packets; moment = moment_of delay (last_moment delay last packets) packet; packet = packet }

item_is : (inlet : Inlet) (n m moment : ℕ) (packet : Captured) → n ≡ m
    → (let x : Item = record { inlet = inlet; number = n; moment = moment; packet = packet } in x) ≡ record { inlet = inlet; number = m; moment = moment; packet = packet }
item_is inlet n m moment packet e = ap (λ (k : ℕ). let x : Item = record { inlet = inlet; number = k; moment = moment; packet = packet } in x) e

items_more : (inlet : Inlet) (delay last number : ℕ) (packets : List Captured) (packet : Captured)
    → items_from inlet delay last number (packets ++ packet ∷ []) ≡ items_from inlet delay last number packets ++ item_behind inlet delay last number packets packet ∷ []
items_more inlet delay last number [] packet =
    ap (λ (x : Item). x ∷ []) (item_is inlet number (number + 0) (moment_of delay last packet) packet (omega arith))
items_more inlet delay last number (p ∷ ps) packet =
    let rest = items_more inlet delay (moment_of delay last p) (number + 1) ps packet in
    let first : Item = record { inlet = inlet; number = number; moment = moment_of delay last p; packet = p } in
    let moved = item_is inlet (number + 1 + length ps) (number + length (p ∷ ps)) (moment_of delay (last_moment delay (moment_of delay last p) ps) packet) packet (omega arith) in
    ap (λ (l : List Item). first ∷ l) (rest ∙ ap (λ (x : Item). items_from inlet delay (moment_of delay last p) (number + 1) ps ++ x ∷ []) moved)

-- the number of a reason's packets with one more
tally_more : (why : Flaw) (packets : List Captured) (packet : Captured)
    → tally why (packets ++ packet ∷ []) ≡ min (tally why packets + cond (is_flaw why (flaw_of packet)) 1 0) (2 ^ 64 - 1)
tally_more why packets packet =
    let f : Captured → ℕ = λ p. cond (is_flaw why (flaw_of p)) 1 0 in
    omega (arith, sum_by-append f packets (packet ∷ []))

-- where all times are put off, so is the latest of them
last_put_off : (delay last : ℕ) (packets : List Captured) → last_moment delay (last + delay) packets ≡ latest_time last packets + delay
last_put_off delay last [] = refl
last_put_off delay last (p ∷ ps) =
    let put_off : max (last + delay) (p.time + delay) ≡ max last p.time + delay = omega arith in
    ap (λ (n : ℕ). last_moment delay n ps) put_off ∙ last_put_off delay (max last p.time) ps

below_put_off : (a b delay : ℕ) → nat_lt (a + delay) (b + delay) ≡ nat_lt a b
below_put_off a b delay = grind (arith, nat_tests)

-- a time goes back before it is put off as behind that
back_put_off : (delay time : ℕ) (packets : List Captured) → nat_lt (time + delay) (last_moment delay 0 packets) ≡ nat_lt time (latest_time 0 packets)
back_put_off delay time [] = grind (arith, nat_tests)
back_put_off delay time (p ∷ ps) =
    let first : max 0 (p.time + delay) ≡ max 0 p.time + delay = omega arith in
    ap (λ (n : ℕ). nat_lt (time + delay) n) (ap (λ (n : ℕ). last_moment delay n ps) first ∙ last_put_off delay (max 0 p.time) ps)
    ∙ below_put_off time (latest_time (max 0 p.time) ps) delay

-- the packets whose times go back with one more
backs_more : (last : ℕ) (packets : List Captured) (packet : Captured)
    → backs last (packets ++ packet ∷ []) ≡ backs last packets + cond (goes_back packet.time packet.time (latest_time last packets)) 1 0
backs_more last [] packet = omega arith
backs_more last (p ∷ ps) packet = omega (arith, backs_more (max last p.time) ps packet)

counts_are : (a b c d e f g h : ℕ) → a ≡ e → b ≡ f → c ≡ g → d ≡ h
    → (let n : FlawCounts = record { cut = a; long = b; empty = c; back = d } in n) ≡ record { cut = e; long = f; empty = g; back = h }
counts_are a b c d e f g h p q r s = cc

-- what is counted with one packet more, whose time goes back or does not
counted_by : (o : Option Flaw) (is_back : Bool) (packets more : List Captured)
    → ((why : Flaw) → tally why more ≡ min (tally why packets + cond (is_flaw why o) 1 0) (2 ^ 64 - 1))
    → backs 0 more ≡ backs 0 packets + cond is_back 1 0 → counted (with_back is_back (tallied packets)) o ≡ tallied more
counted_by None true packets more h b = counts_are _ _ _ _ _ _ _ _ (omega (arith, h flaw.Cut)) (omega (arith, h flaw.Long)) (omega (arith, h flaw.Empty)) (omega (arith, b))
counted_by None false packets more h b = counts_are _ _ _ _ _ _ _ _ (omega (arith, h flaw.Cut)) (omega (arith, h flaw.Long)) (omega (arith, h flaw.Empty)) (omega (arith, b))
counted_by (Some flaw.Cut) true packets more h b = counts_are _ _ _ _ _ _ _ _ (omega (arith, h flaw.Cut)) (omega (arith, h flaw.Long)) (omega (arith, h flaw.Empty)) (omega (arith, b))
counted_by (Some flaw.Cut) false packets more h b = counts_are _ _ _ _ _ _ _ _ (omega (arith, h flaw.Cut)) (omega (arith, h flaw.Long)) (omega (arith, h flaw.Empty)) (omega (arith, b))
counted_by (Some flaw.Long) true packets more h b = counts_are _ _ _ _ _ _ _ _ (omega (arith, h flaw.Cut)) (omega (arith, h flaw.Long)) (omega (arith, h flaw.Empty)) (omega (arith, b))
counted_by (Some flaw.Long) false packets more h b = counts_are _ _ _ _ _ _ _ _ (omega (arith, h flaw.Cut)) (omega (arith, h flaw.Long)) (omega (arith, h flaw.Empty)) (omega (arith, b))
counted_by (Some flaw.Empty) true packets more h b = counts_are _ _ _ _ _ _ _ _ (omega (arith, h flaw.Cut)) (omega (arith, h flaw.Long)) (omega (arith, h flaw.Empty)) (omega (arith, b))
counted_by (Some flaw.Empty) false packets more h b = counts_are _ _ _ _ _ _ _ _ (omega (arith, h flaw.Cut)) (omega (arith, h flaw.Long)) (omega (arith, h flaw.Empty)) (omega (arith, b))

tallied_more : (delay : ℕ) (packets : List Captured) (packet : Captured)
    → counted (with_back (goes_back packet.time (packet.time + delay) (last_moment delay 0 packets)) (tallied packets)) (flaw_of packet)
    ≡ tallied (packets ++ packet ∷ [])
tallied_more delay packets packet =
    ap (λ (b : Bool). counted (with_back (nat_lt 0 packet.time && b) (tallied packets)) (flaw_of packet)) (back_put_off delay packet.time packets)
    ∙ counted_by (flaw_of packet) (goes_back packet.time packet.time (latest_time 0 packets)) packets (packets ++ packet ∷ []) (λ why. tally_more why packets packet) (backs_more 0 packets packet)

-- an item went, and the next one is due
pub record Served (inlet : Inlet) (form : Format) (delay : ℕ) (start now : Option (List ℕ)) (p q : Progress) (m : ℕ) (gone : List Item) : Type 0 where
  pub item : Item
  pub at : item.inlet ≡ inlet
  pub when : item.moment ≡ m
  pub number : p.number ≡ min item.number (2 ^ 64 - 1)
  pub shown : Shows p.shown item.packet
  pub later : NotBefore q.due m
  pub feeds : Feeds inlet form delay start now q (gone ++ item ∷ [])

-- the next packet is due
feeds_next : (inlet : Inlet) (form : Format) (delay : ℕ) (start mid now : Option (List ℕ)) (p q : Progress) (gone : List Item) (m : ℕ)
    (packets : List Captured) (octets : List ℕ) → Loses octets start mid → AreTaken form octets packets p.state → p.place ≡ min (front_len form + length octets) (2 ^ 64 - 1)
    → p.flaws ≡ tallied packets → p.number ≡ min (length packets) (2 ^ 64 - 1)
    → p.moment ≡ last_moment delay 0 packets → items_of inlet delay packets ≡ gone → q.due ≡ Some m → GoesOn p.state delay (Some m) mid now p q
    → Feeds inlet form delay start now q gone
feeds_next inlet form delay start mid now p q gone m packets octets lost records place flaws number moment items due goes =
    let packet = goes.1 in
    let item = item_behind inlet delay 0 1 packets packet in
    let whole : items_of inlet delay (packets ++ packet ∷ []) ≡ gone ++ item ∷ [] =
    items_more inlet delay 0 1 packets packet ∙ ap (λ (l : List Item). l ++ item ∷ []) items in
    let when : m ≡ moment_of delay (last_moment delay 0 packets) packet = goes.5 ∙ ap (λ n. moment_of delay n packet) moment in
    let count : length (packets ++ packet ∷ []) ≡ length packets + 1 = length-append packets (packet ∷ []) in
    let is_due : IsDue inlet q (Some m) (items_of inlet delay (packets ++ packet ∷ [])) gone start now =
    (item, whole, refl, sym when, goes.6, omega (arith, goes.7, number), goes.4) in
    record {
      packets = packets ++ packet ∷ [];
      octets = octets ++ goes.0;
      lost = loses_more octets goes.0 start mid now lost goes.2;
      records = taken_on form p.state q.state octets goes.0 packets (packet ∷ []) records goes.3;
      place = omega (arith, goes.8, place, length-append octets goes.0);
      flaws = goes.9 ∙ ap (λ (n : FlawCounts). counted (with_back (goes_back packet.time (packet.time + delay) p.moment) n) (flaw_of packet)) flaws
          ∙ ap (λ (n : ℕ). counted (with_back (goes_back packet.time (packet.time + delay) n) (tallied packets)) (flaw_of packet)) moment ∙ tallied_more delay packets packet;
      number = omega (arith, goes.7, number, count);
      moment = goes.6 ∙ when ∙ sym (last_moment_more delay 0 packets packet);
      due = subst (λ (o : Option ℕ). IsDue inlet q o (items_of inlet delay (packets ++ packet ∷ [])) gone start now) (sym due) is_due;
    }

-- the file is at its end
feeds_end : (inlet : Inlet) (form : Format) (delay : ℕ) (start mid now : Option (List ℕ)) (p q : Progress) (gone : List Item)
    (packets : List Captured) (octets : List ℕ) → Loses octets start mid → AreTaken form octets packets p.state → p.place ≡ min (front_len form + length octets) (2 ^ 64 - 1)
    → p.flaws ≡ tallied packets → p.number ≡ min (length packets) (2 ^ 64 - 1)
    → p.moment ≡ last_moment delay 0 packets → items_of inlet delay packets ≡ gone → q.due ≡ None → GoesOn p.state delay None mid now p q
    → Feeds inlet form delay start now q gone
feeds_end inlet form delay start mid now p q gone packets octets lost records place flaws number moment items due goes =
    let is_due : IsDue inlet q None (items_of inlet delay packets) gone start now = (items, none_left octets start mid now lost goes.3) in
    record {
      packets = packets;
      octets = octets ++ goes.0;
      lost = loses_more octets goes.0 start mid now lost goes.1;
      records = subst (λ (l : List Captured). AreTaken form (octets ++ goes.0) l q.state) (append-nil packets)
          (taken_on form p.state q.state octets goes.0 packets [] records goes.2);
      place = omega (arith, goes.6, place, length-append octets goes.0);
      flaws = goes.7 ∙ flaws;
      number = goes.5 ∙ number;
      moment = goes.4 ∙ moment;
      due = subst (λ (o : Option ℕ). IsDue inlet q o (items_of inlet delay packets) gone start now) (sym due) is_due;
    }

feeds_on : (d : Option ℕ) (inlet : Inlet) (form : Format) (delay : ℕ) (start mid now : Option (List ℕ)) (p q : Progress) (gone : List Item)
    (packets : List Captured) (octets : List ℕ) → Loses octets start mid → AreTaken form octets packets p.state → p.place ≡ min (front_len form + length octets) (2 ^ 64 - 1)
    → p.flaws ≡ tallied packets → p.number ≡ min (length packets) (2 ^ 64 - 1)
    → p.moment ≡ last_moment delay 0 packets → items_of inlet delay packets ≡ gone → q.due ≡ d → GoesOn p.state delay d mid now p q
    → Feeds inlet form delay start now q gone
feeds_on None inlet form delay start mid now p q gone packets octets l r pl fl n m i due goes = feeds_end inlet form delay start mid now p q gone packets octets l r pl fl n m i due goes
feeds_on (Some x) inlet form delay start mid now p q gone packets octets l r pl fl n m i due goes = feeds_next inlet form delay start mid now p q gone x packets octets l r pl fl n m i due goes

later_than : (d : Option ℕ) (form : Format) (delay : ℕ) (mid now : Option (List ℕ)) (p q : Progress) → GoesOn form delay d mid now p q → NotBefore d p.moment
later_than None form delay mid now p q goes = tt
later_than (Some x) form delay mid now p q goes = omega (arith, goes.5)

-- a file of which nothing was taken
pub feeds_first : (inlet : Inlet) (form : Format) (delay : ℕ) (start now : Option (List ℕ)) (p q : Progress) → IsUntaken form p
    → GoesOn p.state delay q.due start now p q → Feeds inlet form delay start now q []
feeds_first inlet form delay start now p q none goes =
    feeds_on q.due inlet form delay start start now p q [] [] [] (loses_nothing start)
    (subst (AreTaken form [] []) (sym none.state) (taken_none form)) (omega (arith, none.place, front_few form)) none.flaws (omega (arith, none.number))
    none.moment refl refl goes

pub serves : (inlet : Inlet) (form : Format) (delay : ℕ) (start mid now : Option (List ℕ)) (p q : Progress) (m : ℕ) (gone : List Item) → p.due ≡ Some m
    → Feeds inlet form delay start mid p gone → GoesOn p.state delay q.due mid now p q → Served inlet form delay start now p q m gone
serves inlet form delay start mid now p q m gone due feeds goes =
    let is_due : IsDue inlet p (Some m) (items_of inlet delay feeds.packets) gone start mid =
    subst (λ (o : Option ℕ). IsDue inlet p o (items_of inlet delay feeds.packets) gone start mid) due feeds.due in
    record {
      item = is_due.0;
      at = is_due.2;
      when = is_due.3;
      number = is_due.5;
      shown = is_due.6;
      later = subst (NotBefore q.due) is_due.4 (later_than q.due p.state delay mid now p q goes);
      feeds = feeds_on q.due inlet form delay start mid now p q (gone ++ is_due.0 ∷ []) feeds.packets feeds.octets feeds.lost feeds.records feeds.place feeds.flaws feeds.number feeds.moment is_due.1 refl goes;
    }

-- an item went, and the file has a fault behind it
pub record Stuck (inlet : Inlet) (form : Format) (delay : ℕ) (fault : CaptureFault) (start : Option (List ℕ)) (p : Progress) (m : ℕ) (gone : List Item) : Type 0 where
  pub item : Item
  pub at : item.inlet ≡ inlet
  pub when : item.moment ≡ m
  pub number : p.number ≡ min item.number (2 ^ 64 - 1)
  pub shown : Shows p.shown item.packet
  pub faulty : IsFaulty inlet form delay fault start (gone ++ item ∷ [])

-- an offset of 64 bits is that of the octets
pub stuck_at : (state : Format) (place n : ℕ) (fault : CaptureFault) (old new : Option (List ℕ)) → place ≡ min n (2 ^ 64 - 1) → IsStuck state place fault old new
    → IsStuck state n fault old new
stuck_at state place n fault old new e s = (s.0, s.1, s.2, omega (arith, s.3, e))

pub sticks : (inlet : Inlet) (form : Format) (delay : ℕ) (fault : CaptureFault) (start mid now : Option (List ℕ)) (p : Progress) (m : ℕ) (gone : List Item)
    → p.due ≡ Some m → Feeds inlet form delay start mid p gone → IsStuck p.state p.place fault mid now → Stuck inlet form delay fault start p m gone
sticks inlet form delay fault start mid now p m gone due feeds stuck =
    let is_due : IsDue inlet p (Some m) (items_of inlet delay feeds.packets) gone start mid =
    subst (λ (o : Option ℕ). IsDue inlet p o (items_of inlet delay feeds.packets) gone start mid) due feeds.due in
    record {
      item = is_due.0;
      at = is_due.2;
      when = is_due.3;
      number = is_due.5;
      shown = is_due.6;
      faulty = record {
        packets = feeds.packets;
        octets = feeds.octets;
        left = mid;
        after = now;
        lost = feeds.lost;
        last = p.state;
        records = feeds.records;
        items = is_due.1;
        stuck = stuck_at p.state p.place (front_len form + length feeds.octets) fault mid now feeds.place stuck;
      };
    }
