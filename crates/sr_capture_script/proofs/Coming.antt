-- The packets of three files, as they come one by one.
use Rattle.std.proofs.Common.{lit≤, ◌≡◌, ℕ, ◌-◌, ◌^◌, ◌≤◌, List, [], ◌∷◌, ◌++◌, Option, Some, None, refl, sym, ap, ◌∙◌, subst, arith}
use Rattle.std.specs.Prelude.{min}
use Rattle.sr_capture.specs.Records.{Captured, Shows}
use Rattle.sr_capture.specs.declared.fault.CaptureFault.{CaptureFault}
use Rattle.sr_capture.specs.declared.packet.Packet.{Packet}
use Rattle.sr_capture_script.specs.Captures.{file_at, IsDueFirst, HasNoFront, Advances, KeepsOthers}
use Rattle.sr_capture_script.specs.Coming.{HaveCome, StartsAt, last_time, AllCame, CameUpTo}
use Rattle.sr_capture_script.specs.declared.captures.Captures.{Captures}
use Rattle.sr_capture_script.specs.declared.captures.Front.{Front}
use Rattle.sr_capture_script.specs.declared.choice.Inlet.{Inlet}
use Rattle.sr_capture_script.specs.declared.choice.Inlet.TheVariants.{A, B, C}
use Rattle.sr_capture_script.specs.declared.fault.ScriptFault.{ScriptFault}
use Rattle.sr_capture_script.specs.declared.fault.ScriptFault.TheVariants.{File}
use Rattle.sr_capture_script.specs.declared.source.Source.{Source}
use Rattle.sr_capture_script.specs.Items.{Item, rank, key_of, items_of, came_at, AllTo, AllToDue}
use Rattle.sr_capture_script.specs.Merging.{Feed, feed_of, HasRecords, fault_at, Stands, HasCome, AreEnoughFor}
use Rattle.sr_capture_script.specs.Picking.{NotBefore, IsEarliest}
use Rattle.sr_capture_script.specs.Sources.{left_of, IsFaulty, IsStuck, IsDue, Feeds}
use Rattle.sr_capture_script.specs.SourceViews.{IsFed, IsSame, progress_of}
use Rattle.sr_capture_script.proofs.Feeding.{serves, sticks}
use Rattle.sr_capture_script.proofs.Going.{key_is, behind_a, behind_b, behind_c}
use Rattle.sr_capture_script.proofs.Merged.{has_records, has_come, feed_is}
use Rattle.sr_capture_script.proofs.Ordering.{order_more, due_more, came_here, came_apart}

-- what is due is not before a moment
not_before_is : (d : Option ℕ) (m n : ℕ) → NotBefore d m → d ≡ Some n → m ≤ n
not_before_is d m n h e = let P : Option ℕ → Type 0 = λ o. NotBefore o m in subst P e h

-- a file that goes on is fed
fed_on : {R : Type 0} (remaining : R → Option (List ℕ)) (i : Inlet) (start : Option (List ℕ)) (s t : Source R) (gone : List Item) → IsSame s t →
    Feeds i s.form s.delay start (left_of remaining t.reader) (progress_of t) gone → IsFed remaining i start t gone
fed_on remaining i start s t gone same h =
    subst (λ f. Feeds i f t.delay start (left_of remaining t.reader) (progress_of t) gone) (sym same.form)
    (subst (λ d. Feeds i s.form d start (left_of remaining t.reader) (progress_of t) gone) (sym same.delay) h)

fed_other : {R : Type 0} (remaining : R → Option (List ℕ)) (i : Inlet) (start : Option (List ℕ)) (s t : Source R) (gone more : List Item) →
    t ≡ s → more ≡ gone → IsFed remaining i start s gone → IsFed remaining i start t more
fed_other remaining i start s t gone more same e h =
    subst (λ l. IsFed remaining i start t l) (sym e) (subst (λ r. IsFed remaining i start r gone) (sym same) h)

due_other : {R : Type 0} (i : Inlet) (s t : Source R) (xs : List Item) → t ≡ s → AllToDue i s.due xs → AllToDue i t.due xs
due_other i s t xs same h = subst (λ r. AllToDue i r.due xs) (sym same) h

feed_other : {R : Type 0} (s t : Source R) (x : Feed) → t ≡ s → feed_of s x.start ≡ x → feed_of t x.start ≡ x
feed_other s t x same h = ap (λ r. feed_of r x.start) same ∙ h

-- one packet more came: it is the one that was due
pub record HasMore {R : Type 0} (remaining : R → Option (List ℕ)) (x y z : Feed) (old new : Captures R) (i : Inlet) (m n : ℕ)
    (out : List Item) : Type 0 where
  pub item : Item
  pub at : item.inlet ≡ i
  pub when : item.moment ≡ m
  pub number : n ≡ min item.number (2 ^ 64 - 1)
  pub shown : Shows (file_at i old).packet item.packet
  pub come : HaveCome remaining x y z new (out ++ item ∷ [])

comes : {R : Type 0} (remaining : R → Option (List ℕ)) (x y z : Feed) (old new : Captures R) (i : Inlet) (m n : ℕ) (out : List Item) →
    IsEarliest i m old.a.due old.b.due old.c.due → n ≡ (file_at i old).number → Advances remaining (file_at i old) (file_at i new) →
    KeepsOthers i old new → HaveCome remaining x y z old out → HasMore remaining x y z old new i m n out
comes remaining x y z old new A m n out early number goes others h =
    let s = serves A old.a.form old.a.delay x.start (left_of remaining old.a.reader) (left_of remaining new.a.reader) (progress_of old.a) (progress_of new.a)
    m (came_at A out) early.0 h.fed_a goes.1 in
    let to : AllTo (key_of A m) out = subst (λ (o : Option ℕ). AllToDue A o out) early.0 h.to_a in
    let key = key_is A m s.item s.at s.when in
    let behind = behind_a m old.b.due old.c.due old.a.due out s.item early to key in
    record {
      item = s.item;
      at = s.at;
      when = s.when;
      number = number ∙ s.number;
      shown = s.shown;
      come = record {
        same_a = feed_is old.a new.a x.start goes.0 ∙ h.same_a;
        same_b = feed_other old.b new.b y others.0 h.same_b;
        same_c = feed_other old.c new.c z others.1 h.same_c;
        fed_a = subst (λ l. IsFed remaining A x.start new.a l) (sym (came_here A out s.item s.at))
            (fed_on remaining A x.start old.a new.a (came_at A out ++ s.item ∷ []) goes.0 s.feeds);
        fed_b = fed_other remaining B y.start old.b new.b _ _ others.0 (came_apart B A out s.item s.at refl) h.fed_b;
        fed_c = fed_other remaining C z.start old.c new.c _ _ others.1 (came_apart C A out s.item s.at refl) h.fed_c;
        order = order_more out s.item h.order (subst (λ k. AllTo k out) (sym key) to);
        to_a = due_more A new.a.due (key_of A m) out s.item to key (λ k e. let l = not_before_is new.a.due m k s.later e in omega (arith, l));
        to_b = due_other B old.b new.b (out ++ s.item ∷ []) others.0 behind.0;
        to_c = due_other C old.c new.c (out ++ s.item ∷ []) others.1 behind.1;
      };
    }
comes remaining x y z old new B m n out early number goes others h =
    let s = serves B old.b.form old.b.delay y.start (left_of remaining old.b.reader) (left_of remaining new.b.reader) (progress_of old.b) (progress_of new.b)
    m (came_at B out) early.0 h.fed_b goes.1 in
    let to : AllTo (key_of B m) out = subst (λ (o : Option ℕ). AllToDue B o out) early.0 h.to_b in
    let key = key_is B m s.item s.at s.when in
    let behind = behind_b m old.a.due old.c.due old.b.due out s.item early to key in
    record {
      item = s.item;
      at = s.at;
      when = s.when;
      number = number ∙ s.number;
      shown = s.shown;
      come = record {
        same_a = feed_other old.a new.a x others.0 h.same_a;
        same_b = feed_is old.b new.b y.start goes.0 ∙ h.same_b;
        same_c = feed_other old.c new.c z others.1 h.same_c;
        fed_a = fed_other remaining A x.start old.a new.a _ _ others.0 (came_apart A B out s.item s.at refl) h.fed_a;
        fed_b = subst (λ l. IsFed remaining B y.start new.b l) (sym (came_here B out s.item s.at))
            (fed_on remaining B y.start old.b new.b (came_at B out ++ s.item ∷ []) goes.0 s.feeds);
        fed_c = fed_other remaining C z.start old.c new.c _ _ others.1 (came_apart C B out s.item s.at refl) h.fed_c;
        order = order_more out s.item h.order (subst (λ k. AllTo k out) (sym key) to);
        to_a = due_other A old.a new.a (out ++ s.item ∷ []) others.0 behind.0;
        to_b = due_more B new.b.due (key_of B m) out s.item to key (λ k e. let l = not_before_is new.b.due m k s.later e in omega (arith, l));
        to_c = due_other C old.c new.c (out ++ s.item ∷ []) others.1 behind.1;
      };
    }
comes remaining x y z old new C m n out early number goes others h =
    let s = serves C old.c.form old.c.delay z.start (left_of remaining old.c.reader) (left_of remaining new.c.reader) (progress_of old.c) (progress_of new.c)
    m (came_at C out) early.0 h.fed_c goes.1 in
    let to : AllTo (key_of C m) out = subst (λ (o : Option ℕ). AllToDue C o out) early.0 h.to_c in
    let key = key_is C m s.item s.at s.when in
    let behind = behind_c m old.a.due old.b.due old.c.due out s.item early to key in
    record {
      item = s.item;
      at = s.at;
      when = s.when;
      number = number ∙ s.number;
      shown = s.shown;
      come = record {
        same_a = feed_other old.a new.a x others.0 h.same_a;
        same_b = feed_other old.b new.b y others.1 h.same_b;
        same_c = feed_is old.c new.c z.start goes.0 ∙ h.same_c;
        fed_a = fed_other remaining A x.start old.a new.a _ _ others.0 (came_apart A C out s.item s.at refl) h.fed_a;
        fed_b = fed_other remaining B y.start old.b new.b _ _ others.1 (came_apart B C out s.item s.at refl) h.fed_b;
        fed_c = subst (λ l. IsFed remaining C z.start new.c l) (sym (came_here C out s.item s.at))
            (fed_on remaining C z.start old.c new.c (came_at C out ++ s.item ∷ []) goes.0 s.feeds);
        order = order_more out s.item h.order (subst (λ k. AllTo k out) (sym key) to);
        to_a = due_other A old.a new.a (out ++ s.item ∷ []) others.0 behind.0;
        to_b = due_other B old.b new.b (out ++ s.item ∷ []) others.1 behind.1;
        to_c = due_more C new.c.due (key_of C m) out s.item to key (λ k e. let l = not_before_is new.c.due m k s.later e in omega (arith, l));
      };
    }

pub comes_first : {R : Type 0} (remaining : R → Option (List ℕ)) (x y z : Feed) (old new : Captures R) (front : Front) (out : List Item) →
    IsDueFirst old front → Advances remaining (file_at front.inlet old) (file_at front.inlet new) → KeepsOthers front.inlet old new →
    HaveCome remaining x y z old out → HasMore remaining x y z old new front.inlet front.moment front.number out
comes_first remaining x y z old new front out first goes others h =
    comes remaining x y z old new front.inlet front.moment front.number out first.0 first.1 goes others h

-- nothing came yet
to_nothing : (i : Inlet) (d : Option ℕ) → AllToDue i d []
to_nothing i None = tt
to_nothing i (Some m) = tt

pub come_none : {R : Type 0} (remaining : R → Option (List ℕ)) (a b c : Option (List ℕ)) (all : Captures R) → IsFed remaining A a all.a [] →
    IsFed remaining B b all.b [] → IsFed remaining C c all.c [] → HaveCome remaining (feed_of all.a a) (feed_of all.b b) (feed_of all.c c) all []
come_none remaining a b c all fed_a fed_b fed_c = record {
  same_a = refl;
  same_b = refl;
  same_c = refl;
  fed_a = fed_a;
  fed_b = fed_b;
  fed_c = fed_c;
  order = tt;
  to_a = to_nothing A all.a.due;
  to_b = to_nothing B all.b.due;
  to_c = to_nothing C all.c.due;
}

-- how far files came, where none has a fault
stands : (fault : Option CaptureFault) (i : Inlet) (x : Feed) (out : List Item) → fault ≡ None → HasCome i x out → Stands fault i x out
stands fault i x out none h = subst (λ f. Stands f i x out) (sym none) h

pub came_to : {R : Type 0} (remaining : R → Option (List ℕ)) (x y z : Feed) (all : Captures R) (fault : ScriptFault) (out : List Item) →
    HaveCome remaining x y z all out → fault_at A fault ≡ None → fault_at B fault ≡ None → fault_at C fault ≡ None →
    AreEnoughFor fault out → CameUpTo fault x y z out
came_to remaining x y z all fault out h none_a none_b none_c enough = record {
  at_a = stands (fault_at A fault) A x out none_a (subst (λ f. HasCome A f out) h.same_a (has_come remaining A x.start all.a out h.fed_a h.to_a));
  at_b = stands (fault_at B fault) B y out none_b (subst (λ f. HasCome B f out) h.same_b (has_come remaining B y.start all.b out h.fed_b h.to_b));
  at_c = stands (fault_at C fault) C z out none_c (subst (λ f. HasCome C f out) h.same_c (has_come remaining C z.start all.c out h.fed_c h.to_c));
  order = h.order;
  enough = enough;
}

-- files that are at their ends have given all
record AllGiven (inlet : Inlet) (x : Feed) (gone : List Item) : Type 0 where
  packets : List Captured
  has : HasRecords x packets
  items : gone ≡ items_of inlet x.delay packets

all_given : {R : Type 0} (remaining : R → Option (List ℕ)) (inlet : Inlet) (x : Feed) (s : Source R) (gone : List Item) →
    feed_of s x.start ≡ x → s.due ≡ None → IsFed remaining inlet x.start s gone → AllGiven inlet x gone
all_given remaining inlet x s gone same none fed =
    let left = left_of remaining s.reader in
    let due = subst (λ (o : Option ℕ). IsDue inlet (progress_of s) o (items_of inlet s.delay fed.packets) gone x.start left) none fed.due in
    let given : AllGiven inlet (feed_of s x.start) gone = record {
      packets = fed.packets;
      has = has_records x.start left s.form s.delay fed.octets fed.packets s.state fed.lost due.1 fed.records;
      items = sym due.0;
    } in
    subst (λ f. AllGiven inlet f gone) same given

pub all_came : {R : Type 0} (remaining : R → Option (List ℕ)) (x y z : Feed) (all : Captures R) (out : List Item) → HaveCome remaining x y z all out →
    HasNoFront all → AllCame x y z out
all_came remaining x y z all out h none =
    let wa = all_given remaining A x all.a (came_at A out) h.same_a none.0 h.fed_a in
    let wb = all_given remaining B y all.b (came_at B out) h.same_b none.1 h.fed_b in
    let wc = all_given remaining C z all.c (came_at C out) h.same_c none.2 h.fed_c in
    record {
      packets_a = wa.packets;
      packets_b = wb.packets;
      packets_c = wc.packets;
      has_a = wa.has;
      has_b = wb.has;
      has_c = wc.has;
      is_merge = record { at_a = wa.items; at_b = wb.items; at_c = wc.items; order = h.order };
    }

-- the packet that was due came, and behind it its file has a fault
pub record HasLast (x y z : Feed) (shown : Packet) (i : Inlet) (m n : ℕ) (own : CaptureFault) (out : List Item) : Type 0 where
  pub item : Item
  pub at : item.inlet ≡ i
  pub when : item.moment ≡ m
  pub number : n ≡ min item.number (2 ^ 64 - 1)
  pub shows : Shows shown item.packet
  pub came : CameUpTo (File i own) x y z (out ++ item ∷ [])

stops : {R : Type 0} (remaining : R → Option (List ℕ)) (x y z : Feed) (all : Captures R) (i : Inlet) (m n : ℕ) (own : CaptureFault)
    (left : Option (List ℕ)) (out : List Item) → IsEarliest i m all.a.due all.b.due all.c.due → n ≡ (file_at i all).number →
    IsStuck (file_at i all).state (file_at i all).place own (left_of remaining (file_at i all).reader) left →
    HaveCome remaining x y z all out → HasLast x y z (file_at i all).packet i m n own out
stops remaining x y z all A m n own left out early number stuck h =
    let s = sticks A all.a.form all.a.delay own x.start (left_of remaining all.a.reader) left (progress_of all.a) m (came_at A out) early.0 h.fed_a stuck in
    let to : AllTo (key_of A m) out = subst (λ (o : Option ℕ). AllToDue A o out) early.0 h.to_a in
    let key = key_is A m s.item s.at s.when in
    let behind = behind_a m all.b.due all.c.due all.a.due out s.item early to key in
    let faulty = subst (λ l. IsFaulty A all.a.form all.a.delay own x.start l) (sym (came_here A out s.item s.at)) s.faulty in
    let fed_b = subst (λ (l : List Item). IsFed remaining B y.start all.b l) (sym (came_apart B A out s.item s.at refl)) h.fed_b in
    let fed_c = subst (λ (l : List Item). IsFed remaining C z.start all.c l) (sym (came_apart C A out s.item s.at refl)) h.fed_c in
    record {
      item = s.item;
      at = s.at;
      when = s.when;
      number = number ∙ s.number;
      shows = s.shown;
      came = record {
        at_a = subst (λ (f : Feed). IsFaulty A f.form f.delay own f.start (came_at A (out ++ s.item ∷ []))) h.same_a faulty;
        at_b = subst (λ (f : Feed). HasCome B f (out ++ s.item ∷ [])) h.same_b
            (has_come remaining B y.start all.b (out ++ s.item ∷ []) fed_b behind.0);
        at_c = subst (λ (f : Feed). HasCome C f (out ++ s.item ∷ [])) h.same_c
            (has_come remaining C z.start all.c (out ++ s.item ∷ []) fed_c behind.1);
        order = order_more out s.item h.order (subst (λ k. AllTo k out) (sym key) to);
        enough = tt;
      };
    }
stops remaining x y z all B m n own left out early number stuck h =
    let s = sticks B all.b.form all.b.delay own y.start (left_of remaining all.b.reader) left (progress_of all.b) m (came_at B out) early.0 h.fed_b stuck in
    let to : AllTo (key_of B m) out = subst (λ (o : Option ℕ). AllToDue B o out) early.0 h.to_b in
    let key = key_is B m s.item s.at s.when in
    let behind = behind_b m all.a.due all.c.due all.b.due out s.item early to key in
    let faulty = subst (λ l. IsFaulty B all.b.form all.b.delay own y.start l) (sym (came_here B out s.item s.at)) s.faulty in
    let fed_a = subst (λ (l : List Item). IsFed remaining A x.start all.a l) (sym (came_apart A B out s.item s.at refl)) h.fed_a in
    let fed_c = subst (λ (l : List Item). IsFed remaining C z.start all.c l) (sym (came_apart C B out s.item s.at refl)) h.fed_c in
    record {
      item = s.item;
      at = s.at;
      when = s.when;
      number = number ∙ s.number;
      shows = s.shown;
      came = record {
        at_a = subst (λ (f : Feed). HasCome A f (out ++ s.item ∷ [])) h.same_a
            (has_come remaining A x.start all.a (out ++ s.item ∷ []) fed_a behind.0);
        at_b = subst (λ (f : Feed). IsFaulty B f.form f.delay own f.start (came_at B (out ++ s.item ∷ []))) h.same_b faulty;
        at_c = subst (λ (f : Feed). HasCome C f (out ++ s.item ∷ [])) h.same_c
            (has_come remaining C z.start all.c (out ++ s.item ∷ []) fed_c behind.1);
        order = order_more out s.item h.order (subst (λ k. AllTo k out) (sym key) to);
        enough = tt;
      };
    }
stops remaining x y z all C m n own left out early number stuck h =
    let s = sticks C all.c.form all.c.delay own z.start (left_of remaining all.c.reader) left (progress_of all.c) m (came_at C out) early.0 h.fed_c stuck in
    let to : AllTo (key_of C m) out = subst (λ (o : Option ℕ). AllToDue C o out) early.0 h.to_c in
    let key = key_is C m s.item s.at s.when in
    let behind = behind_c m all.a.due all.b.due all.c.due out s.item early to key in
    let faulty = subst (λ l. IsFaulty C all.c.form all.c.delay own z.start l) (sym (came_here C out s.item s.at)) s.faulty in
    let fed_a = subst (λ (l : List Item). IsFed remaining A x.start all.a l) (sym (came_apart A C out s.item s.at refl)) h.fed_a in
    let fed_b = subst (λ (l : List Item). IsFed remaining B y.start all.b l) (sym (came_apart B C out s.item s.at refl)) h.fed_b in
    record {
      item = s.item;
      at = s.at;
      when = s.when;
      number = number ∙ s.number;
      shows = s.shown;
      came = record {
        at_a = subst (λ (f : Feed). HasCome A f (out ++ s.item ∷ [])) h.same_a
            (has_come remaining A x.start all.a (out ++ s.item ∷ []) fed_a behind.0);
        at_b = subst (λ (f : Feed). HasCome B f (out ++ s.item ∷ [])) h.same_b
            (has_come remaining B y.start all.b (out ++ s.item ∷ []) fed_b behind.1);
        at_c = subst (λ (f : Feed). IsFaulty C f.form f.delay own f.start (came_at C (out ++ s.item ∷ []))) h.same_c faulty;
        order = order_more out s.item h.order (subst (λ k. AllTo k out) (sym key) to);
        enough = tt;
      };
    }

pub stops_first : {R : Type 0} (remaining : R → Option (List ℕ)) (x y z : Feed) (all : Captures R) (front : Front) (own : CaptureFault)
    (left : Option (List ℕ)) (out : List Item) → IsDueFirst all front →
    IsStuck (file_at front.inlet all).state (file_at front.inlet all).place own (left_of remaining (file_at front.inlet all).reader) left →
    HaveCome remaining x y z all out → HasLast x y z (file_at front.inlet all).packet front.inlet front.moment front.number own out
stops_first remaining x y z all front own left out first stuck h =
    stops remaining x y z all front.inlet front.moment front.number own left out first.0 first.1 stuck h

-- the time of what is due is not before that of the last packet that came
last_by : (i : Inlet) (m start last : ℕ) (xs : List Item) → last ≤ m - start → AllTo (key_of i m) xs → last_time start last xs ≤ m - start
last_by i m start last [] le to = le
last_by i m start last (x ∷ xs) le to =
    let own = rank_small x.inlet in
    let other = rank_small i in
    last_by i m start (x.moment - start) xs (let t = to.0 in omega (arith, t, own, other)) to.1
  where
    rank_small : (j : Inlet) → rank j ≤ 2
    rank_small A = lit≤ tt
    rank_small B = lit≤ tt
    rank_small C = lit≤ tt

due_to : (i : Inlet) (m : ℕ) (a b c : Option ℕ) (out : List Item) → IsEarliest i m a b c → AllToDue A a out → AllToDue B b out → AllToDue C c out →
    AllTo (key_of i m) out
due_to A m a b c out early to_a to_b to_c = subst (λ (o : Option ℕ). AllToDue A o out) early.0 to_a
due_to B m a b c out early to_a to_b to_c = subst (λ (o : Option ℕ). AllToDue B o out) early.0 to_b
due_to C m a b c out early to_a to_b to_c = subst (λ (o : Option ℕ). AllToDue C o out) early.0 to_c

pub not_early : {R : Type 0} (remaining : R → Option (List ℕ)) (x y z : Feed) (all : Captures R) (front : Front) (start : ℕ) (out : List Item) →
    IsDueFirst all front → HaveCome remaining x y z all out → last_time start 0 out ≤ front.moment - start
not_early remaining x y z all front start out first h =
    last_by front.inlet front.moment start 0 out (omega arith)
    (due_to front.inlet front.moment all.a.due all.b.due all.c.due out first.0 h.to_a h.to_b h.to_c)

-- the time of one packet more
pub last_more : (start last : ℕ) (xs : List Item) (x : Item) → last_time start last (xs ++ x ∷ []) ≡ x.moment - start
last_more start last [] x = refl
last_more start last (y ∷ ys) x = last_more start (y.moment - start) ys x

-- where times are counted from
pub starts_more : (start : ℕ) (out : List Item) (item : Item) → StartsAt start out → (out ≡ [] → item.moment ≡ start) → StartsAt start (out ++ item ∷ [])
starts_more start [] item h first = first refl
starts_more start (x ∷ xs) item h first = h

pub none_behind : (xs : List Item) (x : Item) → xs ++ x ∷ [] ≡ [] → ⊥
none_behind [] x e = cc
none_behind (y ∷ ys) x e = cc
