-- What the steps of a worker add.
use Rattle.std.proofs.Common.{◌≡◌, ◌≢◌, ◌≤◌, ◌<◌, ℕ, ◌+◌, List, [], ◌∷◌, ◌++◌, length, Option, Some, None, Bool, true, refl, sym, ap, ◌∙◌, subst, arith, append-nil, append_assoc, length-append, lit≤, inl, inr}
use Rattle.sr_frame.specs.declared.ports.Port.{Port}
use Rattle.sr_forwarding.specs.Parcels.{ParcelImage}
use Rattle.sr_forwarding.specs.Framings.{FramingImage}
use Rattle.sr_forwarding.specs.Encoding.{write_fault}
use Rattle.sr_node.specs.declared.event.Event.TheVariants.{Take}
use Rattle.sr_node.specs.declared.event.Answer.TheVariants.{Taken}
use Rattle.sr_ports.specs.declared.worker.Worker.{Worker}
use Rattle.sr_ports.specs.declared.worker.Worker.TheVariants as who
use Rattle.sr_workers.specs.declared.fault.WorkerFault.{WorkerFault}
use Rattle.sr_workers.specs.declared.feed.Turn.{Turn}
use Rattle.sr_workers.specs.declared.feed.Turn.TheVariants as turn
use Rattle.sr_workers.specs.Told.{Told, told_of, turns_in, IsLastTurn}
use Rattle.sr_workers.specs.Work.{Moment, Did, DidLast, Finished, Stopped, Became, GivesEach, ServesPort, brought_in, parcels_in, nones_of, parcels_held, puts, losses_after}
use Rattle.sr_workers.specs.declared.fault.WorkerFault.TheVariants as fault
use Rattle.sr_workers.specs.Worked.{Begun, Ended, beginning, ending, Worked}
use Rattle.sr_workers.specs.Turns.{Brings, Out}
use Rattle.sr_workers.proofs.Lists.{brought-append, parcels_in-append, nones_in-append, puts-append, losses-append, AreOwn-append, Became-append, Sends-append}

-- what was done first, and what was done then
pub did_more : (tells : Bool) (w : Worker) (f : FramingImage) (n n' a a' : ℕ) (held : List ParcelImage) (lost : List Told) (s m t : Moment) → Did tells w f n a [] [] s m → Did tells w f n' a' held lost m t → Did tells w f (n + n') (a + a') held lost s t
did_more tells w f n n' a a' held lost s m t p q =
    record {
      pairs = p.pairs ++ q.pairs;
      told = p.told ++ q.told;
      sent = p.sent ++ q.sent;
      gave = p.gave ++ q.gave;
      unread = p.unread + q.unread;
      log = q.log ∙ ap (λ l. l ++ q.pairs) p.log ∙ append_assoc s.pairs p.pairs q.pairs;
      count = omega (arith, p.count, q.count, length-append p.pairs q.pairs);
      own = AreOwn-append w p.pairs q.pairs p.own q.own;
      became =
          subst (λ es. Became w f (p.told ++ q.told) es (p.unread + q.unread)) (sym (brought-append p.pairs q.pairs)) (Became-append w f p.told q.told (brought_in p.pairs) (brought_in q.pairs) p.unread q.unread p.became q.became);
      handed =
          λ tell. q.handed tell ∙ ap (λ l. l ++ q.told ++ lost) (p.handed tell ∙ append-nil (s.handed ++ p.told)) ∙ ap (λ l. l ++ lost) (append_assoc s.handed p.told q.told);
      asked = λ tell. omega (arith, p.asked tell, q.asked tell);
      counted = omega (arith, p.counted, q.counted);
      taken = parcels_in-append p.pairs q.pairs ∙ ap (λ l. l ++ parcels_in q.pairs) (p.taken ∙ append-nil p.sent) ∙ ap (λ l. p.sent ++ l) q.taken ∙ sym (append_assoc p.sent q.sent held);
      sends = Sends-append f p.sent q.sent p.gave q.gave p.sends q.sends;
      given =
          λ tell. q.given tell ∙ ap (λ l. l ++ puts q.gave) (p.given tell) ∙ append_assoc s.given (puts p.gave) (puts q.gave) ∙ ap (λ l. s.given ++ l) (sym (puts-append p.gave q.gave));
      short = q.short ∙ ap (λ n. losses_after n q.gave) p.short ∙ sym (losses-append s.losses p.gave q.gave);
      failures = omega (arith, p.failures, q.failures);
      writable = q.writable;
      nones = omega (arith, nones_in-append p.pairs q.pairs, p.nones, q.nones);
    }

pub last_more : (tells : Bool) (w : Worker) (f : FramingImage) (reason : WorkerFault) (held : Option ParcelImage) (n n' a : ℕ) (s m t : Moment) → Did tells w f n a [] [] s m → DidLast tells w f reason held n' m t → DidLast tells w f reason held (n + n') s t
last_more tells w f reason held n n' a s m t p q =
    record {
      lost = q.lost;
      asks = a + q.asks;
      did = did_more tells w f n n' a q.asks (parcels_held held) q.lost s m t p q.did;
      one = q.one;
      only = q.only;
      failed = λ is. omega (arith, p.failures, q.failed is);
    }

-- nothing was entered; something may have been handed out, and is lost
pub did_nothing : (tells : Bool) (w : Worker) (f : FramingImage) (asks : ℕ) (lost : List Told) (s t : Moment) → t.count ≡ s.count → t.pairs ≡ s.pairs → t.unread ≡ s.unread → (tells ≡ true → t.handed ≡ s.handed ++ lost) → (tells ≡ true → t.asked ≡ s.asked + asks) → (tells ≡ true → t.given ≡ s.given) → t.losses ≡ s.losses → s.failed ≤ t.failed → Did tells w f 0 asks [] lost s t
did_nothing tells w f asks lost s t count pairs unread handed asked given losses failed =
    record {
      pairs = [];
      told = [];
      sent = [];
      gave = [];
      unread = 0;
      log = pairs ∙ sym (append-nil s.pairs);
      count = omega (arith, count);
      own = tt;
      became = Became.nothing;
      handed = λ tell. handed tell ∙ ap (λ l. l ++ lost) (sym (append-nil s.handed));
      asked = asked;
      counted = omega (arith, unread);
      taken = refl;
      sends = GivesEach.nothing;
      given = λ tell. given tell ∙ sym (append-nil s.given);
      short = losses;
      failures = failed;
      writable = tt;
      nones = refl;
    }

-- nothing was there to take
pub took_none : (tells : Bool) (w : Worker) (f : FramingImage) (port : Port) (s t : Moment) → ServesPort w port → t.count ≡ s.count + 1 → t.pairs ≡ s.pairs ++ (Take port, Taken None) ∷ [] → t.unread ≡ s.unread → (tells ≡ true → t.handed ≡ s.handed) → (tells ≡ true → t.asked ≡ s.asked) → (tells ≡ true → t.given ≡ s.given) → t.losses ≡ s.losses → s.failed ≤ t.failed → Did tells w f 1 0 [] [] s t
took_none tells w f port s t serves count pairs unread handed asked given losses failed =
    record {
      pairs = (Take port, Taken None) ∷ [];
      told = [];
      sent = [];
      gave = [];
      unread = 0;
      log = pairs;
      count = count;
      own = (serves, tt);
      became = Became.nothing;
      handed = λ tell. handed tell ∙ sym (append-nil s.handed) ∙ sym (append-nil (s.handed ++ []));
      asked = λ tell. omega (arith, asked tell);
      counted = omega (arith, unread);
      taken = refl;
      sends = GivesEach.nothing;
      given = λ tell. given tell ∙ sym (append-nil s.given);
      short = losses;
      failures = failed;
      writable = tt;
      nones = refl;
    }

-- a parcel was taken, and was given as its encoding, if it has one
pub took_some : (tells : Bool) (w : Worker) (f : FramingImage) (port : Port) (p : ParcelImage) (s t : Moment) → ServesPort w port → t.count ≡ s.count + 1 → t.pairs ≡ s.pairs ++ (Take port, Taken (Some p)) ∷ [] → t.unread ≡ s.unread → (tells ≡ true → t.handed ≡ s.handed) → (tells ≡ true → t.asked ≡ s.asked) → Out tells f p s.given t.given s.losses t.losses → s.failed ≤ t.failed → Did tells w f 0 0 [] [] s t
took_some tells w f port p s t serves count pairs unread handed asked out failed =
    record {
      pairs = (Take port, Taken (Some p)) ∷ [];
      told = [];
      sent = p ∷ [];
      gave = out.gave;
      unread = 0;
      log = pairs;
      count = count;
      own = (serves, tt);
      became = Became.nothing;
      handed = λ tell. handed tell ∙ sym (append-nil s.handed) ∙ sym (append-nil (s.handed ++ []));
      asked = λ tell. omega (arith, asked tell);
      counted = omega (arith, unread);
      taken = refl;
      sends = out.sends;
      given = out.given;
      short = out.short;
      failures = failed;
      writable = tt;
      nones = refl;
    }

-- a parcel that can be written was taken, and was not given
pub took_held : (tells : Bool) (w : Worker) (f : FramingImage) (port : Port) (p : ParcelImage) (reason : WorkerFault) (held : Option ParcelImage) (s t : Moment) → reason ≡ fault.FeedFault → held ≡ Some p → ServesPort w port → t.count ≡ s.count + 1 → t.pairs ≡ s.pairs ++ (Take port, Taken (Some p)) ∷ [] → t.unread ≡ s.unread → (tells ≡ true → t.handed ≡ s.handed) → (tells ≡ true → t.asked ≡ s.asked) → (tells ≡ true → t.given ≡ s.given) → write_fault f p ≡ None → t.losses ≡ s.losses → s.failed < t.failed → DidLast tells w f reason held 0 s t
took_held tells w f port p reason held s t reason_is is serves count pairs unread handed asked given writable losses failed =
    record {
      lost = [];
      asks = 0;
      did =
          subst (λ h. Did tells w f 0 0 (parcels_held h) [] s t) (sym is) (record {
            pairs = (Take port, Taken (Some p)) ∷ [];
            told = [];
            sent = [];
            gave = [];
            unread = 0;
            log = pairs;
            count = count;
            own = (serves, tt);
            became = Became.nothing;
            handed = λ tell. handed tell ∙ sym (append-nil s.handed) ∙ sym (append-nil (s.handed ++ []));
            asked = λ tell. omega (arith, asked tell);
            counted = omega (arith, unread);
            taken = refl;
            sends = GivesEach.nothing;
            given = λ tell. given tell ∙ sym (append-nil s.given);
            short = losses;
            failures = omega (arith, failed);
            writable = (writable, tt);
            nones = refl;
          });
      one = lit≤ tt;
      only = λ bare. absurd (bare reason_is);
      failed = λ _. failed;
    }

pub last_nothing : (tells : Bool) (w : Worker) (f : FramingImage) (reason : WorkerFault) (held : Option ParcelImage) (asks : ℕ) (lost : List Told) (s t : Moment) → held ≡ None → length lost ≤ 1 → Did tells w f 0 asks [] lost s t → (reason ≡ fault.FeedFault → s.failed < t.failed) → DidLast tells w f reason held 0 s t
last_nothing tells w f reason held asks lost s t is one did failed =
    record {
      lost = lost;
      asks = asks;
      did = subst (λ h. Did tells w f 0 asks (parcels_held h) lost s t) (sym is) did;
      one = one;
      only = λ _. is;
      failed = failed;
    }

-- what a turn brings
pub did_bring : (tells : Bool) (w : Worker) (f : FramingImage) (asks : ℕ) (turn : Turn) (octets : List ℕ) (s t : Moment) → Brings w f turn octets s.count t.count s.pairs t.pairs s.unread t.unread → (tells ≡ true → t.handed ≡ s.handed ++ told_of turn octets) → (tells ≡ true → t.asked ≡ s.asked + asks) → (tells ≡ true → t.given ≡ s.given) → t.losses ≡ s.losses → s.failed ≤ t.failed → Did tells w f 0 asks [] [] s t
did_bring tells w f asks turn octets s t b handed asked given losses failed =
    record {
      pairs = b.pairs;
      told = told_of turn octets;
      sent = [];
      gave = [];
      unread = b.unread;
      log = b.log;
      count = b.count;
      own = b.own;
      became = b.became;
      handed = λ tell. handed tell ∙ sym (append-nil (s.handed ++ told_of turn octets));
      asked = asked;
      counted = b.counted;
      taken = b.taken;
      sends = GivesEach.nothing;
      given = λ tell. given tell ∙ sym (append-nil s.given);
      short = losses;
      failures = failed;
      writable = tt;
      nones = b.nones;
    }

-- nothing was done, and nothing handed out
pub last_still : (tells : Bool) (w : Worker) (f : FramingImage) (reason : WorkerFault) (held : Option ParcelImage) (s t : Moment) → held ≡ None → t.count ≡ s.count → t.pairs ≡ s.pairs → t.unread ≡ s.unread → (tells ≡ true → t.handed ≡ s.handed) → (tells ≡ true → t.asked ≡ s.asked) → (tells ≡ true → t.given ≡ s.given) → t.losses ≡ s.losses → s.failed ≤ t.failed → (reason ≡ fault.FeedFault → s.failed < t.failed) → DidLast tells w f reason held 0 s t
last_still tells w f reason held s t is count pairs unread handed asked given losses failed risen =
    last_nothing tells w f reason held 0 [] s t is (lit≤ tt) (did_nothing tells w f 0 [] s t count pairs unread (λ tell. handed tell ∙ sym (append-nil s.handed)) (λ tell. omega (arith, asked tell)) given losses failed) risen

pub did_still : (tells : Bool) (w : Worker) (f : FramingImage) (s t : Moment) → t.count ≡ s.count → t.pairs ≡ s.pairs → t.unread ≡ s.unread → (tells ≡ true → t.handed ≡ s.handed) → (tells ≡ true → t.asked ≡ s.asked) → (tells ≡ true → t.given ≡ s.given) → t.losses ≡ s.losses → s.failed ≤ t.failed → Did tells w f 0 0 [] [] s t
did_still tells w f s t count pairs unread handed asked given losses failed =
    did_nothing tells w f 0 [] s t count pairs unread (λ tell. handed tell ∙ sym (append-nil s.handed)) (λ tell. omega (arith, asked tell)) given losses failed

-- the same of what is the same
pub did_as : (tells tells' : Bool) (w w' : Worker) (f : FramingImage) (n n' asks asks' : ℕ) (held : List ParcelImage) (lost : List Told) (s t : Moment) → tells ≡ tells' → w ≡ w' → n ≡ n' → asks ≡ asks' → Did tells w f n asks held lost s t → Did tells' w' f n' asks' held lost s t
did_as tells tells' w w' f n n' asks asks' held lost s t tell who count same p =
    subst (λ (x : Bool × Worker × ℕ × ℕ). Did x.0 x.1 f x.2 x.3 held lost s t) (λ i. (tell i, who i, count i, same i)) p

pub last_as : (tells tells' : Bool) (w w' : Worker) (f : FramingImage) (reason : WorkerFault) (held : Option ParcelImage) (n n' : ℕ) (s t : Moment) → tells ≡ tells' → w ≡ w' → n ≡ n' → DidLast tells w f reason held n s t → DidLast tells' w' f reason held n' s t
last_as tells tells' w w' f reason held n n' s t tell who count p =
    record {
      lost = p.lost;
      asks = p.asks;
      did = did_as tells tells' w w' f n n' p.asks p.asks (parcels_held held) p.lost s t tell who count refl p.did;
      one = p.one;
      only = p.only;
      failed = p.failed;
    }

pub at_end : (P : Type 0) (t : Turn) → t ≡ turn.End → (IsLastTurn t → P) → P
at_end P t is f = f (subst IsLastTurn (sym is) tt)

-- the feed's end hands nothing out
pub did_end : (tells : Bool) (w : Worker) (f : FramingImage) (x : Turn) (octets : List ℕ) (s t : Moment) → x ≡ turn.End → t.count ≡ s.count → t.pairs ≡ s.pairs → t.unread ≡ s.unread → (tells ≡ true → t.handed ≡ s.handed ++ told_of x octets) → (tells ≡ true → t.asked ≡ s.asked + turns_in x) → (tells ≡ true → t.given ≡ s.given) → t.losses ≡ s.losses → s.failed ≤ t.failed → Did tells w f 0 0 [] [] s t
did_end tells w f x octets s t is count pairs unread handed asked given losses failed =
    did_still tells w f s t count pairs unread (λ tell. handed tell ∙ ap (λ y. s.handed ++ told_of y octets) is ∙ append-nil s.handed) (λ tell. omega (arith, asked tell, ap turns_in is)) given losses failed

pub told_few : (t : Turn) (octets : List ℕ) → length (told_of t octets) ≤ 1
told_few (turn.Frame now) octets = lit≤ tt
told_few (turn.Tick now) octets = lit≤ tt
told_few turn.Idle octets = lit≤ tt
told_few turn.End octets = lit≤ tt

-- what was handed out is lost
pub last_lost : (tells : Bool) (w : Worker) (f : FramingImage) (reason : WorkerFault) (held : Option ParcelImage) (turn : Turn) (octets : List ℕ) (s t : Moment) → held ≡ None → t.count ≡ s.count → t.pairs ≡ s.pairs → t.unread ≡ s.unread → (tells ≡ true → t.handed ≡ s.handed ++ told_of turn octets) → (tells ≡ true → t.asked ≡ s.asked + turns_in turn) → (tells ≡ true → t.given ≡ s.given) → t.losses ≡ s.losses → s.failed ≤ t.failed → reason ≢ fault.FeedFault → DidLast tells w f reason held 0 s t
last_lost tells w f reason held turn octets s t is count pairs unread handed asked given losses failed other =
    last_nothing tells w f reason held (turns_in turn) (told_of turn octets) s t is (told_few turn octets) (did_nothing tells w f (turns_in turn) (told_of turn octets) s t count pairs unread handed asked given losses failed) (λ fails. absurd (other fails))

pub nones_zero : (w : Worker) → 0 ≡ nones_of w 0
nones_zero who.A = refl
nones_zero who.B = refl
nones_zero who.C = refl
nones_zero who.Ager = refl
nones_zero who.Host = refl

pub nones_more : (w : Worker) (n : ℕ) → nones_of w n + nones_of w 1 ≡ nones_of w (n + 1)
nones_more who.A n = refl
nones_more who.B n = refl
nones_more who.C n = refl
nones_more who.Ager n = refl
nones_more who.Host n = refl

some_none : (x : WorkerFault) → Some x ≢ None
some_none x is = cc

some_same : (x y : WorkerFault) → Some x ≡ Some y → x ≡ y
some_same x y is = cc

-- a fault that is no feed's says nothing of the feed
pub no_feed : (P : Type 0) (x : WorkerFault) → x ≢ fault.FeedFault → x ≡ fault.FeedFault → P
no_feed P x other is = absurd (other is)

memory_is_no_feed : fault.NoMemory ≢ fault.FeedFault
memory_is_no_feed is = cc

-- what came of a failed allocation says nothing of the feed
pub no_feed_of : (P : Type 0) (x : WorkerFault) → x ≡ fault.NoMemory → x ≡ fault.FeedFault → P
no_feed_of P x memory is = absurd (memory_is_no_feed (sym memory ∙ is))

-- the feed's end after so many rounds
pub finished_end : (tells : Bool) (w : Worker) (f : FramingImage) (turns rounds : ℕ) (s m t : Moment) (ended : Bool) → rounds ≤ turns → Did tells w f (nones_of w rounds) rounds [] [] s m → Did tells w f 0 0 [] [] m t → ended ≡ true → Finished tells w f turns s t ended
finished_end tells w f turns rounds s m t ended few p q end =
    record {
      rounds = rounds;
      did =
          did_as tells tells w w f (nones_of w rounds + 0) (nones_of w rounds) (rounds + 0) rounds [] [] s t refl refl (omega arith) (omega arith) (did_more tells w f (nones_of w rounds) 0 rounds 0 [] [] s m t p q);
      few = few;
      made = inr end;
    }

-- all turns
pub finished_all : (tells : Bool) (w : Worker) (f : FramingImage) (turns rounds : ℕ) (s t : Moment) (ended : Bool) → rounds ≡ turns → Did tells w f (nones_of w rounds) rounds [] [] s t → Finished tells w f turns s t ended
finished_all tells w f turns rounds s t ended is p = record { rounds = rounds; did = p; few = omega (arith, is); made = inl is }

-- a fault after so many rounds
pub stopped_at : (tells : Bool) (w : Worker) (f : FramingImage) (turns rounds : ℕ) (reason : WorkerFault) (held : Option ParcelImage) (s m t : Moment) → rounds ≤ turns → Did tells w f (nones_of w rounds) rounds [] [] s m → DidLast tells w f reason held 0 m t → Stopped tells w f turns reason held s t
stopped_at tells w f turns rounds reason held s m t few p q =
    record {
      rounds = rounds;
      last = last_as tells tells w w f reason held (nones_of w rounds + 0) (nones_of w rounds) s t refl refl (omega arith) (last_more tells w f reason held (nones_of w rounds) 0 rounds s m t p q);
      few = few;
    }

-- a fault before the first round
pub stopped_first : (tells : Bool) (w : Worker) (f : FramingImage) (turns : ℕ) (reason : WorkerFault) (held : Option ParcelImage) (s t : Moment) → DidLast tells w f reason held 0 s t → Stopped tells w f turns reason held s t
stopped_first tells w f turns reason held s t q =
    record {
      rounds = 0;
      last = last_as tells tells w w f reason held 0 (nones_of w 0) s t refl refl (nones_zero w) q;
      few = omega arith;
    }

-- what is the same did the same
pub finished_as : (tells : Bool) (w : Worker) (f : FramingImage) (turns : ℕ) (s s' t t' : Moment) (x x' : Bool) → s ≡ s' → t ≡ t' → x ≡ x' → Finished tells w f turns s t x → Finished tells w f turns s' t' x'
finished_as tells w f turns s s' t t' x x' begin end ended p =
    subst (λ (y : Moment × Moment × Bool). Finished tells w f turns y.0 y.1 y.2) (λ i. (begin i, end i, ended i)) p

pub stopped_as : (tells : Bool) (w : Worker) (f : FramingImage) (turns : ℕ) (reason : WorkerFault) (held held' : Option ParcelImage) (s s' t t' : Moment) → held ≡ held' → s ≡ s' → t ≡ t' → Stopped tells w f turns reason held s t → Stopped tells w f turns reason held' s' t'
stopped_as tells w f turns reason held held' s s' t t' is begin end p =
    subst (λ (y : Option ParcelImage × Moment × Moment). Stopped tells w f turns reason y.0 y.1 y.2) (λ i. (is i, begin i, end i)) p

-- how a worker ends
pub worked_whole : (b : Begun) (e : Ended) → e.fault ≡ None → e.held ≡ None → Finished b.tells b.worker b.framing b.turns (beginning b) (ending e) e.ended → Worked b e
worked_whole b e none held p =
    record {
      rounds = p.rounds;
      lost = [];
      asks = p.rounds;
      did = subst (λ h. Did b.tells b.worker b.framing (nones_of b.worker p.rounds) p.rounds (parcels_held h) [] (beginning b) (ending e)) (sym held) p.did;
      few = p.few;
      one = lit≤ tt;
      only = λ _. held;
      failed = λ failed. absurd (some_none fault.FeedFault (sym failed ∙ none));
      whole = λ _. record { lost_none = refl; asked = refl; made = p.made };
    }

pub worked_last : (b : Begun) (e : Ended) (reason : WorkerFault) → e.fault ≡ Some reason → Stopped b.tells b.worker b.framing b.turns reason e.held (beginning b) (ending e) → Worked b e
worked_last b e reason is p =
    record {
      rounds = p.rounds;
      lost = p.last.lost;
      asks = p.last.asks;
      did = p.last.did;
      few = p.few;
      one = p.last.one;
      only = λ bare. p.last.only (λ failed. bare (is ∙ ap (λ x. Some x) failed));
      failed = λ failed. p.last.failed (some_same reason fault.FeedFault (sym is ∙ failed));
      whole = λ none. absurd (some_none reason (sym is ∙ none));
    }
