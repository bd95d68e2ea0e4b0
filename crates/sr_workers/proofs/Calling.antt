-- What the calls of a worker add up to.
use Rattle.std.proofs.Common.{◌≡◌, ◌≢◌, ◌≤◌, ◌⊎◌, ℕ, ◌+◌, List, [], ◌∷◌, ◌++◌, length, Option, Some, None, Bool, true, refl, sym, ap, ◌∙◌, subst, arith, append-nil, append_assoc, lit≤, inl, inr}
use Rattle.std.specs.Prelude.{MatchOption, map}
use Rattle.std.specs.declared.result.Result.{Result}
use Rattle.std.specs.declared.result.Result.TheVariants.{Ok, Err}
use Rattle.sr_forwarding.specs.Framings.{FramingImage}
use Rattle.sr_frame.specs.declared.ports.Port.{Port}
use Rattle.sr_node.specs.declared.event.Event.{Event}
use Rattle.sr_node.specs.declared.event.Event.TheVariants.{Take}
use Rattle.sr_node.specs.declared.event.Answer.{Answer}
use Rattle.sr_ports.specs.declared.fault.EnterFault.{EnterFault}
use Rattle.sr_ports.specs.declared.worker.Worker.{Worker}
use Rattle.sr_workers.specs.declared.fault.WorkerFault.{WorkerFault}
use Rattle.sr_workers.specs.declared.fault.WorkerFault.TheVariants.{NoMemory, JournalFull, FeedFault}
use Rattle.sr_workers.specs.declared.feed.Turn.{Turn}
use Rattle.sr_workers.specs.declared.becoming.Becoming.{Becoming}
use Rattle.sr_workers.specs.declared.becoming.Becoming.TheVariants as becoming
use Rattle.sr_workers.specs.Calls.{Call, EntersBy, LedBy, LedTo, Called, answered_by, answered_in, fed_by, fed_in, stop_by, one_if_none, refused_by, refused_in, StopsBy}
use Rattle.sr_workers.specs.Ends.{stop_of}
use Rattle.sr_workers.specs.Told.{Told, told_of}
use Rattle.sr_workers.specs.Turns.{Becomes}
use Rattle.sr_workers.specs.Work.{IsEventOf, brought_by}
use Rattle.sr_workers.proofs.Bringing.{own_of, comes, has_none, none_told}
use Rattle.sr_workers.proofs.Steps.{told_few}

led-append : {E : Type 0} (enters : EntersBy E) (s m t : E) (cs ds : List Call) → LedBy enters s cs m → LedBy enters m ds t → LedBy enters s (cs ++ ds) t
led-append enters s m t cs ds (LedBy.none x) q = q
led-append enters s m t cs ds (LedBy.call x y z e r rest one p) q = LedBy.call x y t e r (rest ++ ds) one (led-append enters y z t rest ds p q)

answered-append : (cs ds : List Call) → answered_in (cs ++ ds) ≡ answered_in cs ++ answered_in ds
answered-append [] ds = refl
answered-append (c ∷ cs) ds = ap (λ l. answered_by c.0 c.1 ++ l) (answered-append cs ds) ∙ sym (append_assoc (answered_by c.0 c.1) (answered_in cs) (answered_in ds))

fed-append : (cs ds : List Call) → fed_in (cs ++ ds) ≡ fed_in cs ++ fed_in ds
fed-append [] ds = refl
fed-append (c ∷ cs) ds = ap (λ l. fed_by c ++ l) (fed-append cs ds) ∙ sym (append_assoc (fed_by c) (fed_in cs) (fed_in ds))

refused-append : (cs ds : List Call) → refused_in (cs ++ ds) ≡ refused_in cs + refused_in ds
refused-append [] ds = omega arith
refused-append (c ∷ cs) ds = omega (arith, refused-append cs ds)

to_count : (w : Worker) (f : FramingImage) (ts : List Told) (cs : List Call) (u v : ℕ) → u ≡ v → LedTo w f ts cs u → LedTo w f ts cs v
to_count w f ts cs u v is b = subst (λ n. LedTo w f ts cs n) is b

to-append : (w : Worker) (f : FramingImage) (ts ts' : List Told) (cs cs' : List Call) (u u' : ℕ) → LedTo w f ts cs u → LedTo w f ts' cs' u' → LedTo w f (ts ++ ts') (cs ++ cs') (u + u')
to-append w f ts ts' cs cs' u u' LedTo.nothing q = to_count w f ts' cs' u' (0 + u') (omega arith) q
to-append w f ts ts' cs cs' u u' (LedTo.called t e r rest more n is p) q = LedTo.called t e r (rest ++ ts') (more ++ cs') (n + u') is (to-append w f rest ts' more cs' n u' p q)
to-append w f ts ts' cs cs' u u' (LedTo.eventless t rest more n none p) q =
    to_count w f (t ∷ rest ++ ts') (more ++ cs') (1 + (n + u')) (1 + n + u') (omega arith) (LedTo.eventless t (rest ++ ts') (more ++ cs') (n + u') none (to-append w f rest ts' more cs' n u' p q))

some_is_no_none : {A : Type 0} (P : Type 0) (x : A) → None ≡ Some x → P
some_is_no_none P x is = cc

-- no call stopped the worker so far
stops_head : (o : Option WorkerFault) (why : Option WorkerFault) (cs ds : List Call) → (StopsBy cs None → StopsBy (cs ++ ds) why) → MatchOption o (StopsBy cs None) (λ reason. (cs ≡ []) × (None ≡ Some reason)) → MatchOption o (StopsBy (cs ++ ds) why) (λ reason. (cs ++ ds ≡ []) × (why ≡ Some reason))
stops_head None why cs ds more p = more p
stops_head (Some reason) why cs ds more p = some_is_no_none _ reason p.1

stops-append : (why : Option WorkerFault) (cs ds : List Call) → StopsBy cs None → StopsBy ds why → StopsBy (cs ++ ds) why
stops-append why [] ds p q = q
stops-append why (c ∷ cs) ds p q = stops_head (stop_by c.1) why cs ds (λ r. stops-append why cs ds r q) p

none_is_kept : None ≢ Some NoMemory
none_is_kept is = cc

pub none_is_not_full : None ≢ Some JournalFull
none_is_not_full is = cc

memory_is_not_full : Some NoMemory ≢ Some JournalFull
memory_is_not_full is = cc

feed_is_not_full : Some FeedFault ≢ Some JournalFull
feed_is_not_full is = cc

-- a failed allocation is no full journal, and neither is a feed that failed
pub memory_not_full : (x : WorkerFault) → x ≡ NoMemory → Some x ≢ Some JournalFull
memory_not_full x is full = memory_is_not_full (ap (λ y. Some y) (sym is) ∙ full)

pub feed_not_full : (x : WorkerFault) → x ≡ FeedFault → Some x ≢ Some JournalFull
feed_not_full x is full = feed_is_not_full (ap (λ y. Some y) (sym is) ∙ full)

-- what was called first, and what was called then
pub called_more : {E : Type 0} (enters : EntersBy E) (tells : Bool) (w : Worker) (f : FramingImage) (why : Option WorkerFault) (s m t : E) (h h' h'' : List Told) (ps ps' ps'' : List (Event × Answer)) (u u' u'' : ℕ) → Called enters tells w f None s m h h' ps ps' u u' → Called enters tells w f why m t h' h'' ps' ps'' u' u'' → Called enters tells w f why s t h h'' ps ps'' u u''
called_more enters tells w f why s m t h h' h'' ps ps' ps'' u u' u'' p q =
    record {
      calls = p.calls ++ q.calls;
      told = p.told ++ q.told;
      lost = q.lost;
      bare = p.bare + q.bare;
      led = led-append enters s m t p.calls q.calls p.led q.led;
      log = q.log ∙ ap (λ l. l ++ answered_in q.calls) p.log ∙ append_assoc ps (answered_in p.calls) (answered_in q.calls) ∙ ap (λ l. ps ++ l) (sym (answered-append p.calls q.calls));
      fed = subst (λ cs. LedTo w f (p.told ++ q.told) cs (p.bare + q.bare)) (sym (fed-append p.calls q.calls)) (to-append w f p.told q.told (fed_in p.calls) (fed_in q.calls) p.bare q.bare p.fed q.fed);
      told_is =
          λ tell. q.told_is tell ∙ ap (λ l. l ++ q.told ++ q.lost) (p.told_is tell ∙ ap (λ l. h ++ p.told ++ l) (p.kept none_is_kept) ∙ append-nil (h ++ p.told)) ∙ ap (λ l. l ++ q.lost) (append_assoc h p.told q.told);
      few = q.few;
      kept = q.kept;
      counted = omega (arith, p.counted, q.counted, refused-append p.calls q.calls);
      stops = stops-append why p.calls q.calls p.stops q.stops;
    }

-- nothing was called, and nothing handed out
pub called_still : {E : Type 0} (enters : EntersBy E) (tells : Bool) (w : Worker) (f : FramingImage) (why : Option WorkerFault) (s t : E) (h h' : List Told) (ps ps' : List (Event × Answer)) (u u' : ℕ) → why ≢ Some JournalFull → t ≡ s → (tells ≡ true → h' ≡ h) → ps' ≡ ps → u' ≡ u → Called enters tells w f why s t h h' ps ps' u u'
called_still enters tells w f why s t h h' ps ps' u u' other same handed pairs unread =
    record {
      calls = [];
      told = [];
      lost = [];
      bare = 0;
      led = subst (λ x. LedBy enters s [] x) (sym same) (LedBy.none s);
      log = pairs ∙ sym (append-nil ps);
      fed = LedTo.nothing;
      told_is = λ tell. handed tell ∙ sym (append-nil h) ∙ sym (append-nil (h ++ []));
      few = lit≤ tt;
      kept = λ _. refl;
      counted = omega (arith, unread);
      stops = other;
    }

-- nothing was called, and what was handed out is lost where an allocation failed
called_lost : {E : Type 0} (enters : EntersBy E) (tells : Bool) (w : Worker) (f : FramingImage) (why : Option WorkerFault) (s t : E) (h h' ts : List Told) (ps ps' : List (Event × Answer)) (u u' : ℕ) → why ≡ Some NoMemory → length ts ≤ 1 → t ≡ s → (tells ≡ true → h' ≡ h ++ ts) → ps' ≡ ps → u' ≡ u → Called enters tells w f why s t h h' ps ps' u u'
called_lost enters tells w f why s t h h' ts ps ps' u u' is few same handed pairs unread =
    record {
      calls = [];
      told = [];
      lost = ts;
      bare = 0;
      led = subst (λ x. LedBy enters s [] x) (sym same) (LedBy.none s);
      log = pairs ∙ sym (append-nil ps);
      fed = LedTo.nothing;
      told_is = λ tell. handed tell ∙ ap (λ l. l ++ ts) (sym (append-nil h));
      few = few;
      kept = λ bare. absurd (bare is);
      counted = omega (arith, unread);
      stops = λ full. memory_is_not_full (sym is ∙ full);
    }

-- a call that is refused so that the worker stops is its last
stops_last : (fault : EnterFault) (e : Event) (reason : WorkerFault) → stop_of fault ≡ Some reason → StopsBy ((e, Err fault) ∷ []) (Some reason)
stops_last fault e reason is = subst (λ (o : Option WorkerFault). MatchOption o (StopsBy [] (Some reason)) (λ r. ◌≡◌ {A = List Call} [] [] × (Some reason ≡ Some r))) (sym is) (refl, refl)

stops_none : (fault : EnterFault) (e : Event) → stop_of fault ≡ None → StopsBy ((e, Err fault) ∷ []) None
stops_none fault e is = subst (λ (o : Option WorkerFault). MatchOption o (StopsBy [] None) (λ r. ◌≡◌ {A = List Call} [] [] × (None ≡ Some r))) (sym is) none_is_not_full

refused_last : (fault : EnterFault) (o : Option WorkerFault) → stop_of fault ≡ o → refused_by (Err fault) ≡ one_if_none o
refused_last fault o is = ap one_if_none is

-- a Take that was answered
pub called_take : {E : Type 0} (enters : EntersBy E) (tells : Bool) (w : Worker) (f : FramingImage) (why : Option WorkerFault) (port : Port) (a : Answer) (s t : E) (h h' : List Told) (ps ps' : List (Event × Answer)) (u u' : ℕ) → why ≢ Some JournalFull → enters s (Take port) (Ok a) t → ps' ≡ ps ++ (Take port, a) ∷ [] → (tells ≡ true → h' ≡ h) → u' ≡ u → Called enters tells w f why s t h h' ps ps' u u'
called_take enters tells w f why port a s t h h' ps ps' u u' other did log handed unread =
    record {
      calls = (Take port, Ok a) ∷ [];
      told = [];
      lost = [];
      bare = 0;
      led = LedBy.call s t t (Take port) (Ok a) [] did (LedBy.none t);
      log = log;
      fed = LedTo.nothing;
      told_is = λ tell. handed tell ∙ sym (append-nil h) ∙ sym (append-nil (h ++ []));
      few = lit≤ tt;
      kept = λ _. refl;
      counted = omega (arith, unread);
      stops = other;
    }

-- a Take that was refused
pub called_in_vain : {E : Type 0} (enters : EntersBy E) (tells : Bool) (w : Worker) (f : FramingImage) (reason : WorkerFault) (port : Port) (fault : EnterFault) (s t : E) (h h' : List Told) (ps ps' : List (Event × Answer)) (u u' : ℕ) → stop_of fault ≡ Some reason → enters s (Take port) (Err fault) t → ps' ≡ ps → (tells ≡ true → h' ≡ h) → u' ≡ u → Called enters tells w f (Some reason) s t h h' ps ps' u u'
called_in_vain enters tells w f reason port fault s t h h' ps ps' u u' is did log handed unread =
    record {
      calls = (Take port, Err fault) ∷ [];
      told = [];
      lost = [];
      bare = 0;
      led = LedBy.call s t t (Take port) (Err fault) [] did (LedBy.none t);
      log = log ∙ sym (append-nil ps);
      fed = LedTo.nothing;
      told_is = λ tell. handed tell ∙ sym (append-nil h) ∙ sym (append-nil (h ++ []));
      few = lit≤ tt;
      kept = λ _. refl;
      counted = omega (arith, unread, refused_last fault (Some reason) is);
      stops = stops_last fault (Take port) reason is;
    }

-- one thing was handed out, and its event was asked for
called_one : {E : Type 0} (enters : EntersBy E) (w : Worker) (f : FramingImage) (why : Option WorkerFault) (turn : Turn) (octets : List ℕ) (x : Told) (e : Event) (r : Result Answer EnterFault) (s t : E) (ps ps' : List (Event × Answer)) (u u' : ℕ) → told_of turn octets ≡ x ∷ [] → IsEventOf w f x e → enters s e r t → ps' ≡ ps ++ answered_by e r → u' ≡ u + refused_by r → StopsBy ((e, r) ∷ []) why → Called enters true w f why s t [] (told_of turn octets) ps ps' u u'
called_one enters w f why turn octets x e r s t ps ps' u u' one is did log unread stops =
    let once : brought_by e ≡ e ∷ [] = (own_of w f x e is).once in
    record {
      calls = (e, r) ∷ [];
      told = x ∷ [];
      lost = [];
      bare = 0;
      led = LedBy.call s t t e r [] did (LedBy.none t);
      log = log ∙ ap (λ l. ps ++ l) (sym (append-nil (answered_by e r)));
      fed =
          subst (λ l. LedTo w f (x ∷ []) l 0) (ap (λ (l : List Event). map (λ y. (y, r)) l ++ []) (sym once)) (LedTo.called x e r [] [] 0 is LedTo.nothing);
      told_is = λ _. one;
      few = lit≤ tt;
      kept = λ _. refl;
      counted = omega (arith, unread);
      stops = stops;
    }

pub calls_entered : {E : Type 0} (enters : EntersBy E) (w : Worker) (f : FramingImage) (turn : Turn) (octets : List ℕ) (b : Becoming) (e : Event) (a : Answer) (s t : E) (ps ps' : List (Event × Answer)) (u u' : ℕ) → b ≡ becoming.Event e → Becomes w f turn octets b → enters s e (Ok a) t → ps' ≡ ps ++ (e, a) ∷ [] → u' ≡ u → Called enters true w f None s t [] (told_of turn octets) ps ps' u u'
calls_entered enters w f turn octets b e a s t ps ps' u u' event is did log unread =
    let c = comes w f turn octets e (subst (λ x. Becomes w f turn octets x) event is) in called_one enters w f None turn octets c.told_one e (Ok a) s t ps ps' u u' c.one c.event did log (omega (arith, unread)) none_is_not_full

pub calls_refused : {E : Type 0} (enters : EntersBy E) (w : Worker) (f : FramingImage) (turn : Turn) (octets : List ℕ) (b : Becoming) (e : Event) (fault : EnterFault) (s t : E) (ps ps' : List (Event × Answer)) (u u' : ℕ) → b ≡ becoming.Event e → Becomes w f turn octets b → stop_of fault ≡ None → enters s e (Err fault) t → ps' ≡ ps → u' ≡ u + 1 → Called enters true w f None s t [] (told_of turn octets) ps ps' u u'
calls_refused enters w f turn octets b e fault s t ps ps' u u' event is goes did log unread =
    let c = comes w f turn octets e (subst (λ x. Becomes w f turn octets x) event is) in called_one enters w f None turn octets c.told_one e (Err fault) s t ps ps' u u' c.one c.event did (log ∙ sym (append-nil ps)) (omega (arith, unread, refused_last fault None goes)) (stops_none fault e goes)

pub calls_stopped : {E : Type 0} (enters : EntersBy E) (w : Worker) (f : FramingImage) (turn : Turn) (octets : List ℕ) (b : Becoming) (e : Event) (reason : WorkerFault) (s t : E) (ps ps' : List (Event × Answer)) (u u' : ℕ) → b ≡ becoming.Event e → Becomes w f turn octets b → ((t ≡ s) × (reason ≡ NoMemory)) ⊎ ((fault : EnterFault) × (stop_of fault ≡ Some reason) × enters s e (Err fault) t) → ps' ≡ ps → u' ≡ u → Called enters true w f (Some reason) s t [] (told_of turn octets) ps ps' u u'
calls_stopped enters w f turn octets b e reason s t ps ps' u u' event is (inl p) log unread =
    called_lost enters true w f (Some reason) s t [] (told_of turn octets) (told_of turn octets) ps ps' u u' (ap (λ x. Some x) p.1) (told_few turn octets) p.0 (λ _. refl) log unread
calls_stopped enters w f turn octets b e reason s t ps ps' u u' event is (inr p) log unread =
    let c = comes w f turn octets e (subst (λ x. Becomes w f turn octets x) event is) in called_one enters w f (Some reason) turn octets c.told_one e (Err p.0) s t ps ps' u u' c.one c.event p.2 (log ∙ sym (append-nil ps)) (omega (arith, unread, refused_last p.0 (Some reason) p.1)) (stops_last p.0 e reason p.1)

-- an allocation failed before there was an event
pub calls_none : {E : Type 0} (enters : EntersBy E) (w : Worker) (f : FramingImage) (turn : Turn) (octets : List ℕ) (reason : WorkerFault) (s : E) (ps : List (Event × Answer)) (u : ℕ) → reason ≡ NoMemory → Called enters true w f (Some reason) s s [] (told_of turn octets) ps ps u u
calls_none enters w f turn octets reason s ps u memory =
    called_lost enters true w f (Some reason) s s [] (told_of turn octets) (told_of turn octets) ps ps u u (ap (λ x. Some x) memory) (told_few turn octets) refl (λ _. refl) refl refl

pub calls_unread : {E : Type 0} (enters : EntersBy E) (w : Worker) (f : FramingImage) (turn : Turn) (octets : List ℕ) (b : Becoming) (s : E) (ps : List (Event × Answer)) (u : ℕ) → b ≡ becoming.Unread → Becomes w f turn octets b → Called enters true w f None s s [] (told_of turn octets) ps ps u (u + 1)
calls_unread enters w f turn octets b s ps u unread is =
    let h = has_none w f turn octets (subst (λ x. Becomes w f turn octets x) unread is) in
    record {
      calls = [];
      told = h.told_one ∷ [];
      lost = [];
      bare = 1 + 0;
      led = LedBy.none s;
      log = sym (append-nil ps);
      fed = LedTo.eventless h.told_one [] [] 0 h.none LedTo.nothing;
      told_is = λ _. h.one;
      few = lit≤ tt;
      kept = λ _. refl;
      counted = omega arith;
      stops = none_is_not_full;
    }

pub calls_nothing : {E : Type 0} (enters : EntersBy E) (w : Worker) (f : FramingImage) (turn : Turn) (octets : List ℕ) (b : Becoming) (s : E) (ps : List (Event × Answer)) (u : ℕ) → b ≡ becoming.Nothing → Becomes w f turn octets b → Called enters true w f None s s [] (told_of turn octets) ps ps u u
calls_nothing enters w f turn octets b s ps u nothing is =
    called_still enters true w f None s s [] (told_of turn octets) ps ps u u none_is_not_full refl (λ _. none_told w f turn octets (subst (λ x. Becomes w f turn octets x) nothing is)) refl refl

-- what a turn hands out, behind what was handed out before
pub called_at : {E : Type 0} (enters : EntersBy E) (tells : Bool) (w : Worker) (f : FramingImage) (why : Option WorkerFault) (s t : E) (h h' ts : List Told) (ps ps' : List (Event × Answer)) (u u' : ℕ) → (tells ≡ true → h' ≡ h ++ ts) → Called enters true w f why s t [] ts ps ps' u u' → Called enters tells w f why s t h h' ps ps' u u'
called_at enters tells w f why s t h h' ts ps ps' u u' handed p =
    record {
      calls = p.calls;
      told = p.told;
      lost = p.lost;
      bare = p.bare;
      led = p.led;
      log = p.log;
      fed = p.fed;
      told_is = λ tell. handed tell ∙ ap (λ l. h ++ l) (p.told_is refl) ∙ sym (append_assoc h p.told p.lost);
      few = p.few;
      kept = p.kept;
      counted = p.counted;
      stops = p.stops;
    }

-- the same of what is the same
pub called_as : {E : Type 0} (enters : EntersBy E) (tells tells' : Bool) (w w' : Worker) (f : FramingImage) (why : Option WorkerFault) (s t : E) (h h' : List Told) (ps ps' : List (Event × Answer)) (u u' : ℕ) → tells ≡ tells' → w ≡ w' → Called enters tells w f why s t h h' ps ps' u u' → Called enters tells' w' f why s t h h' ps ps' u u'
called_as enters tells tells' w w' f why s t h h' ps ps' u u' tell who p =
    subst (λ (x : Bool × Worker). Called enters x.0 x.1 f why s t h h' ps ps' u u') (λ i. (tell i, who i)) p

-- what a worker hands back of its last moment
pub called_ended : {E : Type 0} (enters : EntersBy E) (tells : Bool) (w : Worker) (f : FramingImage) (why why' : Option WorkerFault) (s t t' : E) (h h' h'' : List Told) (ps ps' ps'' : List (Event × Answer)) (u u' u'' : ℕ) → why' ≡ why → t' ≡ t → h'' ≡ h' → ps ≡ [] → ps'' ≡ ps' → u'' ≡ u' → Called enters tells w f why s t h h' ps ps' u u' → Called enters tells w f why' s t' h h'' [] ps'' u u''
called_ended enters tells w f why why' s t t' h h' h'' ps ps' ps'' u u' u'' fault seat handed begin pairs unread p =
    record {
      calls = p.calls;
      told = p.told;
      lost = p.lost;
      bare = p.bare;
      led = subst (λ x. LedBy enters s p.calls x) (sym seat) p.led;
      log = pairs ∙ p.log ∙ ap (λ l. l ++ answered_in p.calls) begin;
      fed = p.fed;
      told_is = λ tell. handed ∙ p.told_is tell;
      few = p.few;
      kept = λ bare. p.kept (λ is. bare (fault ∙ is));
      counted = omega (arith, p.counted, unread);
      stops = subst (λ x. StopsBy p.calls x) (sym fault) p.stops;
    }
