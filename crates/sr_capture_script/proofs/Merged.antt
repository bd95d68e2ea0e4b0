-- Files that have given all, and how far the others came.
use Rattle.std.proofs.Common.{◌≡◌, ◌≢◌, ◌≤◌, ℕ, ◌-◌, ◌^◌, List, [], ◌∷◌, ◌++◌, length, Option, Some, None, Bool, sym, ap, subst, refl, ◌∙◌, inl, inr}
use Rattle.std.specs.Prelude.{unwrap_or, is_some, min}
use Rattle.std.specs.Io.KnownBytes.{Appends}
use Rattle.std.proofs.KnownBytes.{Appends-trans}
use Rattle.std.proofs.lemmas.List.{append-nil}
use Rattle.sr_capture_file.specs.declared.format.Format.{Format}
use Rattle.sr_capture.specs.Taking.{Loses, LeavesNone}
use Rattle.sr_capture.specs.Records.{Captured}
use Rattle.sr_capture_file.specs.Formats.{AreTaken, HasPackets}
use Rattle.sr_capture_script.specs.declared.choice.Choice.{Choice}
use Rattle.sr_capture_script.specs.declared.choice.Inlet.{Inlet}
use Rattle.sr_capture_script.specs.declared.choice.Inlet.TheVariants.{A, B, C}
use Rattle.sr_capture_script.specs.declared.fault.ScriptFault.{ScriptFault}
use Rattle.sr_capture_script.specs.declared.fault.ScriptFault.TheVariants.{File, Write, NoMemory, Endless}
use Rattle.sr_capture_script.specs.declared.flaws.FlawCounts.{FlawCounts}
use Rattle.sr_capture_script.specs.declared.merge.Clock.{Clock}
use Rattle.sr_capture_script.specs.declared.source.Source.{Source}
use Rattle.sr_capture_script.specs.Items.{Item, key_of, came_at, items_of, AllTo, AllToDue}
use Rattle.sr_capture_script.specs.Picking.{IsEarliest, NoneDue}
use Rattle.sr_capture_script.specs.Sources.{Progress, left_of, Feeds, IsDue, IsFaulty}
use Rattle.sr_capture_script.specs.SourceViews.{IsFed, IsSame, progress_of, StopsServing}
use Rattle.sr_capture_script.specs.Texts.{last_line, last_ticks, lines_of}
use Rattle.sr_capture_script.specs.Merging.{Feed, feed_of, HasRecords, numbers_of, counts_of, HasCounted, Merges, end_of, Scripts, IsNext, HasCome, Halts}
use Rattle.sr_capture_script.specs.Going.{Going}
use Rattle.sr_capture_script.proofs.Ordering.{order_more, came_here, came_apart}
use Rattle.sr_capture_script.proofs.Going.{key_is, more_lines, behind_a, behind_b, behind_c}

pub has_records : (start now : Option (List ℕ)) (form : Format) (delay : ℕ) (octets : List ℕ) (packets : List Captured) (last : Format) → Loses octets start now
    → LeavesNone start now → AreTaken form octets packets last → HasRecords (record { form = form; delay = delay; start = start }) packets
has_records None now form delay octets packets last lost none records = tt
has_records (Some xs) None form delay octets packets last lost none records = absurd lost
has_records (Some xs) (Some ys) form delay octets packets last lost none records =
    subst (λ (l : List ℕ). HasPackets form l packets) (sym (lost ∙ ap (λ (l : List ℕ). octets ++ l) none ∙ append-nil octets)) (last, records)

-- a file at its end has given all
record Whole {R : Type 0} (inlet : Inlet) (s : Source R) (start : Option (List ℕ)) (gone : List Item) : Type 0 where
  packets : List Captured
  has : HasRecords (feed_of s start) packets
  counted : HasCounted s packets
  items : gone ≡ items_of inlet s.delay packets

whole : {R : Type 0} (remaining : R → Option (List ℕ)) (inlet : Inlet) (start : Option (List ℕ)) (s : Source R) (gone : List Item)
    → s.due ≡ None → IsFed remaining inlet start s gone → Whole inlet s start gone
whole remaining inlet start s gone none fed =
    let left = left_of remaining s.reader in
    let due = subst (λ (o : Option ℕ). IsDue inlet (progress_of s) o (items_of inlet s.delay fed.packets) gone start left) none fed.due in
    record {
      packets = fed.packets;
      has = has_records start left s.form s.delay fed.octets fed.packets s.state fed.lost due.1 fed.records;
      counted = record { number = fed.number; flaws = fed.flaws };
      items = sym due.0;
    }

pub merges : {R : Type 0} (remaining : R → Option (List ℕ)) (choice : Choice) (sa sb sc : Option (List ℕ)) (a b c : Source R) (clock : Clock)
    (held now : Option (List ℕ)) → Going remaining choice sa sb sc a b c clock held now → NoneDue a.due b.due c.due
    → Merges choice (feed_of a sa) (feed_of b sb) (feed_of c sc) a b c clock.last held now
merges remaining choice sa sb sc a b c clock held now g none =
    let wa = whole remaining A sa a (came_at A g.out) none.0 g.fed_a in
    let wb = whole remaining B sb b (came_at B g.out) none.1 g.fed_b in
    let wc = whole remaining C sc c (came_at C g.out) none.2 g.fed_c in
    record {
      packets_a = wa.packets;
      packets_b = wb.packets;
      packets_c = wc.packets;
      has_a = wa.has;
      has_b = wb.has;
      has_c = wc.has;
      counted_a = wa.counted;
      counted_b = wb.counted;
      counted_c = wc.counted;
      merged = g.out;
      is_merge = record { at_a = wa.items; at_b = wb.items; at_c = wc.items; order = g.order };
      last_is = g.last;
      wrote = g.wrote;
    }

-- how far a file came whose next item, if there is one, comes behind what is printed
come_by : (d : Option ℕ) (inlet : Inlet) (form : Format) (delay : ℕ) (start now : Option (List ℕ)) (p : Progress) (printed : List Item) → p.due ≡ d
    → Feeds inlet form delay start now p (came_at inlet printed) → AllToDue inlet d printed
    → HasCome inlet (record { form = form; delay = delay; start = start }) printed
come_by None inlet form delay start now p printed due fed to =
    let is_due = subst (λ (o : Option ℕ). IsDue inlet p o (items_of inlet delay fed.packets) (came_at inlet printed) start now) due fed.due in
    (fed.packets, inl (has_records start now form delay fed.octets fed.packets p.state fed.lost is_due.1 fed.records, sym is_due.0))
come_by (Some m) inlet form delay start now p printed due fed to =
    let is_due = subst (λ (o : Option ℕ). IsDue inlet p o (items_of inlet delay fed.packets) (came_at inlet printed) start now) due fed.due in
    let next : IsNext inlet delay fed.packets printed = (is_due.0, is_due.1, subst (λ n. AllTo (key_of inlet n) printed) (sym is_due.3) to) in
    (fed.packets, inr (record { octets = fed.octets; left = now; lost = fed.lost; last = p.state; records = fed.records; next = next }))

pub has_come : {R : Type 0} (remaining : R → Option (List ℕ)) (inlet : Inlet) (start : Option (List ℕ)) (s : Source R) (printed : List Item)
    → IsFed remaining inlet start s (came_at inlet printed) → AllToDue inlet s.due printed → HasCome inlet (feed_of s start) printed
has_come remaining inlet start s printed fed to = come_by s.due inlet s.form s.delay start _ (progress_of s) printed refl fed to

-- where a file has no fault, all files came so far
pub halts_endless : {R : Type 0} (remaining : R → Option (List ℕ)) (choice : Choice) (sa sb sc : Option (List ℕ)) (a b c : Source R) (clock : Clock)
    (held now : Option (List ℕ)) → (going : Going remaining choice sa sb sc a b c clock held now) → 2 ^ 64 - 1 ≤ length going.out
    → Halts choice (feed_of a sa) (feed_of b sb) (feed_of c sc) Endless held now
halts_endless remaining choice sa sb sc a b c clock held now g many = record {
  printed = g.out;
  at_a = has_come remaining A sa a g.out g.fed_a g.to_a;
  at_b = has_come remaining B sb b g.out g.fed_b g.to_b;
  at_c = has_come remaining C sc c g.out g.fed_c g.to_c;
  order = g.order;
  enough = many;
  wrote = g.wrote;
}

halts_no_memory : {R : Type 0} (remaining : R → Option (List ℕ)) (choice : Choice) (sa sb sc : Option (List ℕ)) (a b c : Source R) (clock : Clock)
    (held now : Option (List ℕ)) → Going remaining choice sa sb sc a b c clock held now
    → Halts choice (feed_of a sa) (feed_of b sb) (feed_of c sc) NoMemory held now
halts_no_memory remaining choice sa sb sc a b c clock held now g = record {
  printed = g.out;
  at_a = has_come remaining A sa a g.out g.fed_a g.to_a;
  at_b = has_come remaining B sb b g.out g.fed_b g.to_b;
  at_c = has_come remaining C sc c g.out g.fed_c g.to_c;
  order = g.order;
  enough = tt;
  wrote = g.wrote;
}

pub halts_a : {R : Type 0} (remaining : R → Option (List ℕ)) (choice : Choice) (sa sb sc : Option (List ℕ)) (a a' b c : Source R) (clock : Clock)
    (held mid now : Option (List ℕ)) (m : ℕ) (fault : ScriptFault) → fault ≢ Write → Going remaining choice sa sb sc a b c clock held mid
    → IsEarliest A m a.due b.due c.due → StopsServing remaining A choice (unwrap_or clock.base m) m clock.last fault a a' mid now
    → Halts choice (feed_of a sa) (feed_of b sb) (feed_of c sc) fault held now
halts_a remaining choice sa sb sc a a' b c clock held mid now m Write other g early stop = absurd (other refl)
halts_a remaining choice sa sb sc a a' b c clock held mid now m Endless other g early stop = absurd stop
halts_a remaining choice sa sb sc a a' b c clock held mid now m NoMemory other g early stop =
    let all = halts_no_memory remaining choice sa sb sc a b c clock held mid g in
    record {
      printed = all.printed;
      at_a = all.at_a;
      at_b = all.at_b;
      at_c = all.at_c;
      order = all.order;
      enough = tt;
      wrote = subst (λ (o : Option (List ℕ)). Appends held o (lines_of choice all.printed)) (sym stop.1) all.wrote;
    }
halts_a remaining choice sa sb sc a a' b c clock held mid now m (File B fault) other g early stop = absurd (cc (stop.0))
halts_a remaining choice sa sb sc a a' b c clock held mid now m (File C fault) other g early stop = absurd (cc (stop.0))
halts_a remaining choice sa sb sc a a' b c clock held mid now m (File A fault) other g early stop =
    let s = stop.1 sa (came_at A g.out) g.fed_a in
    let to : AllTo (key_of A m) g.out = subst (λ (o : Option ℕ). AllToDue A o g.out) early.0 g.to_a in
    let key = key_is A m s.item s.at s.when in
    let behind = behind_a m b.due c.due a.due g.out s.item early to key in
    let fed_b = subst (λ (l : List Item). IsFed remaining B sb b l) (sym (came_apart B A g.out s.item s.at refl)) g.fed_b in
    let fed_c = subst (λ (l : List Item). IsFed remaining C sc c l) (sym (came_apart C A g.out s.item s.at refl)) g.fed_c in
    record {
      printed = g.out ++ s.item ∷ [];
      at_a = subst (λ (l : List Item). IsFaulty A a.form a.delay fault sa l) (sym (came_here A g.out s.item s.at)) s.faulty;
      at_b = has_come remaining B sb b (g.out ++ s.item ∷ []) fed_b behind.0;
      at_c = has_come remaining C sc c (g.out ++ s.item ∷ []) fed_c behind.1;
      order = order_more g.out s.item g.order (subst (λ n. AllTo n g.out) (sym key) to);
      enough = tt;
      wrote = more_lines choice clock m g.out s.item held mid now s.when g.base g.last g.wrote s.wrote;
    }

pub halts_b : {R : Type 0} (remaining : R → Option (List ℕ)) (choice : Choice) (sa sb sc : Option (List ℕ)) (a b b' c : Source R) (clock : Clock)
    (held mid now : Option (List ℕ)) (m : ℕ) (fault : ScriptFault) → fault ≢ Write → Going remaining choice sa sb sc a b c clock held mid
    → IsEarliest B m a.due b.due c.due → StopsServing remaining B choice (unwrap_or clock.base m) m clock.last fault b b' mid now
    → Halts choice (feed_of a sa) (feed_of b sb) (feed_of c sc) fault held now
halts_b remaining choice sa sb sc a b b' c clock held mid now m Write other g early stop = absurd (other refl)
halts_b remaining choice sa sb sc a b b' c clock held mid now m Endless other g early stop = absurd stop
halts_b remaining choice sa sb sc a b b' c clock held mid now m NoMemory other g early stop =
    let all = halts_no_memory remaining choice sa sb sc a b c clock held mid g in
    record {
      printed = all.printed;
      at_a = all.at_a;
      at_b = all.at_b;
      at_c = all.at_c;
      order = all.order;
      enough = tt;
      wrote = subst (λ (o : Option (List ℕ)). Appends held o (lines_of choice all.printed)) (sym stop.1) all.wrote;
    }
halts_b remaining choice sa sb sc a b b' c clock held mid now m (File A fault) other g early stop = absurd (cc (stop.0))
halts_b remaining choice sa sb sc a b b' c clock held mid now m (File C fault) other g early stop = absurd (cc (stop.0))
halts_b remaining choice sa sb sc a b b' c clock held mid now m (File B fault) other g early stop =
    let s = stop.1 sb (came_at B g.out) g.fed_b in
    let to : AllTo (key_of B m) g.out = subst (λ (o : Option ℕ). AllToDue B o g.out) early.0 g.to_b in
    let key = key_is B m s.item s.at s.when in
    let behind = behind_b m a.due c.due b.due g.out s.item early to key in
    let fed_a = subst (λ (l : List Item). IsFed remaining A sa a l) (sym (came_apart A B g.out s.item s.at refl)) g.fed_a in
    let fed_c = subst (λ (l : List Item). IsFed remaining C sc c l) (sym (came_apart C B g.out s.item s.at refl)) g.fed_c in
    record {
      printed = g.out ++ s.item ∷ [];
      at_b = subst (λ (l : List Item). IsFaulty B b.form b.delay fault sb l) (sym (came_here B g.out s.item s.at)) s.faulty;
      at_a = has_come remaining A sa a (g.out ++ s.item ∷ []) fed_a behind.0;
      at_c = has_come remaining C sc c (g.out ++ s.item ∷ []) fed_c behind.1;
      order = order_more g.out s.item g.order (subst (λ n. AllTo n g.out) (sym key) to);
      enough = tt;
      wrote = more_lines choice clock m g.out s.item held mid now s.when g.base g.last g.wrote s.wrote;
    }

pub halts_c : {R : Type 0} (remaining : R → Option (List ℕ)) (choice : Choice) (sa sb sc : Option (List ℕ)) (a b c c' : Source R) (clock : Clock)
    (held mid now : Option (List ℕ)) (m : ℕ) (fault : ScriptFault) → fault ≢ Write → Going remaining choice sa sb sc a b c clock held mid
    → IsEarliest C m a.due b.due c.due → StopsServing remaining C choice (unwrap_or clock.base m) m clock.last fault c c' mid now
    → Halts choice (feed_of a sa) (feed_of b sb) (feed_of c sc) fault held now
halts_c remaining choice sa sb sc a b c c' clock held mid now m Write other g early stop = absurd (other refl)
halts_c remaining choice sa sb sc a b c c' clock held mid now m Endless other g early stop = absurd stop
halts_c remaining choice sa sb sc a b c c' clock held mid now m NoMemory other g early stop =
    let all = halts_no_memory remaining choice sa sb sc a b c clock held mid g in
    record {
      printed = all.printed;
      at_a = all.at_a;
      at_b = all.at_b;
      at_c = all.at_c;
      order = all.order;
      enough = tt;
      wrote = subst (λ (o : Option (List ℕ)). Appends held o (lines_of choice all.printed)) (sym stop.1) all.wrote;
    }
halts_c remaining choice sa sb sc a b c c' clock held mid now m (File A fault) other g early stop = absurd (cc (stop.0))
halts_c remaining choice sa sb sc a b c c' clock held mid now m (File B fault) other g early stop = absurd (cc (stop.0))
halts_c remaining choice sa sb sc a b c c' clock held mid now m (File C fault) other g early stop =
    let s = stop.1 sc (came_at C g.out) g.fed_c in
    let to : AllTo (key_of C m) g.out = subst (λ (o : Option ℕ). AllToDue C o g.out) early.0 g.to_c in
    let key = key_is C m s.item s.at s.when in
    let behind = behind_c m a.due b.due c.due g.out s.item early to key in
    let fed_a = subst (λ (l : List Item). IsFed remaining A sa a l) (sym (came_apart A C g.out s.item s.at refl)) g.fed_a in
    let fed_b = subst (λ (l : List Item). IsFed remaining B sb b l) (sym (came_apart B C g.out s.item s.at refl)) g.fed_b in
    record {
      printed = g.out ++ s.item ∷ [];
      at_c = subst (λ (l : List Item). IsFaulty C c.form c.delay fault sc l) (sym (came_here C g.out s.item s.at)) s.faulty;
      at_a = has_come remaining A sa a (g.out ++ s.item ∷ []) fed_a behind.0;
      at_b = has_come remaining B sb b (g.out ++ s.item ∷ []) fed_b behind.1;
      order = order_more g.out s.item g.order (subst (λ n. AllTo n g.out) (sym key) to);
      enough = tt;
      wrote = more_lines choice clock m g.out s.item held mid now s.when g.base g.last g.wrote s.wrote;
    }

feed_of_fields : (f g : Format) (d e : ℕ) (start : Option (List ℕ)) → f ≡ g → d ≡ e
    → (let x : Feed = record { form = f; delay = d; start = start } in x) ≡ record { form = g; delay = e; start = start }
feed_of_fields f g d e start p q = cc

pub feed_is : {R : Type 0} (s t : Source R) (start : Option (List ℕ)) → IsSame s t → feed_of t start ≡ feed_of s start
feed_is s t start same = feed_of_fields t.form s.form t.delay s.delay start same.form same.delay

pub same_again : {R : Type 0} (a b c : Source R) → IsSame a b → IsSame b c → IsSame a c
same_again a b c s t = record { form = t.form ∙ s.form; delay = t.delay ∙ s.delay; file = t.file ∙ s.file }

-- the same with other names for the files
pub halts_as : (choice : Choice) (x y z u v w : Feed) (fault : ScriptFault) (held now : Option (List ℕ)) → x ≡ u → y ≡ v → z ≡ w
    → Halts choice x y z fault held now → Halts choice u v w fault held now
halts_as choice x y z u v w fault held now p q r h =
    let one = subst (λ (f : Feed). Halts choice f y z fault held now) p h in
    let two = subst (λ (f : Feed). Halts choice u f z fault held now) q one in
    subst (λ (f : Feed). Halts choice u v f fault held now) r two

pub merges_as : {R : Type 0} (choice : Choice) (x y z u v w : Feed) (a b c : Source R) (last : Option ℕ) (held now : Option (List ℕ)) → x ≡ u → y ≡ v → z ≡ w
    → Merges choice x y z a b c last held now → Merges choice u v w a b c last held now
merges_as choice x y z u v w a b c last held now p q r h =
    let one = subst (λ (f : Feed). Merges choice f y z a b c last held now) p h in
    let two = subst (λ (f : Feed). Merges choice u f z a b c last held now) q one in
    subst (λ (f : Feed). Merges choice u v f a b c last held now) r two

-- memory is refused behind the last packet
pub halts_merged : {R : Type 0} (choice : Choice) (x y z : Feed) (a b c : Source R) (last : Option ℕ) (held now : Option (List ℕ)) (fault : ScriptFault)
    → Merges choice x y z a b c last held now → fault ≡ NoMemory → Halts choice x y z fault held now
halts_merged choice x y z a b c last held now fault h is =
    let own : Halts choice x y z NoMemory held now = record {
      printed = h.merged;
      at_a = (h.packets_a, inl (h.has_a, h.is_merge.at_a));
      at_b = (h.packets_b, inl (h.has_b, h.is_merge.at_b));
      at_c = (h.packets_c, inl (h.has_c, h.is_merge.at_c));
      order = h.is_merge.order;
      enough = tt;
      wrote = h.wrote;
    } in
    subst (λ (f : ScriptFault). Halts choice x y z f held now) (sym is) own

numbers_are : {R : Type 0} (inlet : Inlet) (there : Bool) (s : Source R) (packets : List Captured) → is_some s.reader ≡ there → HasCounted s packets
    → numbers_of (is_some s.reader) inlet s.number s.flaws ≡ counts_of there inlet packets
numbers_are inlet there s packets at counted =
    ap (λ (b : Bool). numbers_of b inlet s.number s.flaws) at ∙ ap (λ n. numbers_of there inlet n s.flaws) counted.number
    ∙ ap (λ (n : FlawCounts). numbers_of there inlet (min (length packets) (2 ^ 64 - 1)) n) counted.flaws

end_is : (choice : Choice) (l m : Option ℕ) (a b c d e f : List ℕ) → l ≡ m → a ≡ d → b ≡ e → c ≡ f → end_of choice l a b c ≡ end_of choice m d e f
end_is choice l m a b c d e f p q r s =
    ap (λ (o : Option ℕ). end_of choice o a b c) p ∙ ap (λ (x : List ℕ). end_of choice m x b c) q ∙ ap (λ (x : List ℕ). end_of choice m d x c) r
    ∙ ap (λ (x : List ℕ). end_of choice m d e x) s

-- a script and its end
pub scripts : {R : Type 0} (choice : Choice) (x y z : Feed) (a b c : Source R) (there_a there_b there_c : Bool) (last : Option ℕ)
    (held mid ticked now : Option (List ℕ)) (old text shown : List ℕ) → Merges choice x y z a b c last held mid
    → is_some a.reader ≡ there_a → is_some b.reader ≡ there_b → is_some c.reader ≡ there_c
    → old ≡ [] → shown ≡ text → text ≡ old ++ (numbers_of (is_some a.reader) A a.number a.flaws
    ++ (numbers_of (is_some b.reader) B b.number b.flaws ++ numbers_of (is_some c.reader) C c.number c.flaws))
    → Appends mid ticked (last_ticks choice last) → Appends ticked now shown
    → (all : List ℕ) × Scripts choice x y z there_a there_b there_c all × Appends held now all
scripts choice x y z a b c there_a there_b there_c last held mid ticked now old text shown h at_a at_b at_c none same is ticks wrote =
    let numbers = numbers_of (is_some a.reader) A a.number a.flaws
    ++ (numbers_of (is_some b.reader) B b.number b.flaws ++ numbers_of (is_some c.reader) C c.number c.flaws) in
    let own = ap (λ (l : List ℕ). last_ticks choice last ++ l) (same ∙ is ∙ ap (λ (l : List ℕ). l ++ numbers) none) in
    let ending = own ∙ end_is choice last (last_line choice h.merged) _ _ _ _ _ _ h.last_is (numbers_are A there_a a h.packets_a at_a h.counted_a)
    (numbers_are B there_b b h.packets_b at_b h.counted_b) (numbers_are C there_c c h.packets_c at_c h.counted_c) in (
      lines_of choice h.merged ++ (last_ticks choice last ++ shown),
      record {
        packets_a = h.packets_a;
        packets_b = h.packets_b;
        packets_c = h.packets_c;
        has_a = h.has_a;
        has_b = h.has_b;
        has_c = h.has_c;
        merged = h.merged;
        is_merge = h.is_merge;
        is = ap (λ (l : List ℕ). lines_of choice h.merged ++ l) ending;
      },
      Appends-trans held mid now (lines_of choice h.merged) (last_ticks choice last ++ shown) h.wrote
          (Appends-trans mid ticked now (last_ticks choice last) shown ticks wrote),
    )
