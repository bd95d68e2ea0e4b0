-- What a turn brings.
use Rattle.std.proofs.Common.{◌≡◌, ◌≢◌, ℕ, ◌+◌, List, [], ◌∷◌, ◌++◌, None, Bool, true, false, refl, sym, ap, ◌∙◌, subst, arith, append-nil, true≢false}
use Rattle.std.specs.Prelude.{MatchBool, ◌↔◌, if◌then◌else◌}
use Rattle.sr_frame.specs.declared.ports.Port.TheVariants as port
use Rattle.sr_forwarding.specs.declared.fault.ReadFault.{ReadFault}
use Rattle.sr_forwarding.specs.declared.fault.ReadFault.TheVariants.{NoMemory}
use Rattle.sr_forwarding.specs.Parcels.{ParcelImage}
use Rattle.sr_forwarding.specs.Framings.{FramingImage}
use Rattle.sr_forwarding.specs.Encoding.{write_fault, IsWritten, Appends}
use Rattle.sr_node.specs.declared.event.Event.{Event}
use Rattle.sr_node.specs.declared.event.Event.TheVariants.{Arrive, Send, Tick, Take}
use Rattle.sr_node.specs.declared.event.Answer.{Answer}
use Rattle.sr_node.specs.declared.event.Answer.TheVariants.{Own, Passed, Sent, Ticked, Taken}
use Rattle.sr_ports.specs.declared.worker.Worker.{Worker}
use Rattle.sr_ports.specs.declared.worker.Worker.TheVariants as who
use Rattle.sr_workers.specs.declared.feed.Turn.{Turn}
use Rattle.sr_workers.specs.declared.feed.Turn.TheVariants as turn
use Rattle.sr_workers.specs.declared.feed.Given.{Given}
use Rattle.sr_workers.specs.declared.becoming.Becoming.{Becoming}
use Rattle.sr_workers.specs.declared.becoming.Becoming.TheVariants as becoming
use Rattle.sr_node.specs.Answers.{IsAnswerOf, SaysTaken}
use Rattle.sr_workers.specs.Told.{Told, Framed, Timed, told_of, put_of, lost_after}
use Rattle.sr_workers.specs.Work.{Became, entered, unread, refused, GivesEach, unwritten, gave, IsEventOf, HasNoEvent, IsOwn, brought_by, parcel_in, none_in}
use Rattle.sr_workers.specs.Turns.{Brings, Becomes, Out}

-- what was handed out is the worker's own, and no Take
pub record IsBrought (w : Worker) (e : Event) : Type 0 where
  pub own : IsOwn w e
  pub once : brought_by e ≡ e ∷ []

brought_at : (w : Worker) (e e' : Event) → e ≡ e' → IsBrought w e' → IsBrought w e
brought_at w e e' is b = subst (λ x. IsBrought w x) (sym is) b

pub own_of : (w : Worker) (f : FramingImage) (t : Told) (e : Event) → IsEventOf w f t e → IsBrought w e
own_of who.A f (Framed octets now) e is = brought_at who.A e (Arrive port.A is.parcel now) is.arrives (record { own = tt; once = refl })
own_of who.B f (Framed octets now) e is = brought_at who.B e (Arrive port.B is.parcel now) is.arrives (record { own = tt; once = refl })
own_of who.C f (Framed octets now) e is = brought_at who.C e (Arrive port.C is.parcel now) is.arrives (record { own = tt; once = refl })
own_of who.Ager f (Framed octets now) e is = absurd is
own_of who.Host f (Framed octets now) e is = brought_at who.Host e (Send octets now) is (record { own = refl; once = refl })
own_of w f (Timed now) e is = brought_at w e (Tick now) is (record { own = tt; once = refl })

-- an event that is no Take takes nothing
pub record TakesNothing (a : Answer) : Type 0 where
  pub taken : parcel_in a ≡ []
  pub nones : none_in a ≡ 0

not_taken : (a : Answer) → ¬ SaysTaken a → TakesNothing a
not_taken Own bare = record { taken = refl; nones = refl }
not_taken (Passed outlets) bare = record { taken = refl; nones = refl }
not_taken (Sent number) bare = record { taken = refl; nones = refl }
not_taken (Ticked a b c d) bare = record { taken = refl; nones = refl }
not_taken (Taken given) bare = absurd (bare tt)

pub takes_nothing : (e : Event) (a : Answer) → brought_by e ≡ e ∷ [] → IsAnswerOf e a → TakesNothing a
takes_nothing (Arrive p f n) a once is = not_taken a is
takes_nothing (Send f n) a once is = not_taken a is
takes_nothing (Tick n) a once is = not_taken a is
takes_nothing (Take p) a once is = cc

-- one thing was handed out, and became an event that was entered
brings_one : (w : Worker) (f : FramingImage) (turn : Turn) (octets : List ℕ) (t : Told) (e : Event) (a : Answer) (n n' : ℕ) (ps ps' : List (Event × Answer)) (u : ℕ) → told_of turn octets ≡ t ∷ [] → IsEventOf w f t e → IsAnswerOf e a → n' ≡ n + 1 → ps' ≡ ps ++ (e, a) ∷ [] → Brings w f turn octets n n' ps ps' u u
brings_one w f turn octets t e a n n' ps ps' u one is answers count log =
    let own = own_of w f t e is in
    let none = takes_nothing e a own.once answers in
    record {
      pairs = (e, a) ∷ [];
      unread = 0;
      log = log;
      count = count;
      own = (own.own, tt);
      became =
          subst (λ (x : List Told × List Event). Became w f x.0 x.1 0) (λ i. (sym one i, sym (append-nil (brought_by e) ∙ own.once) i)) (entered t e [] [] 0 is Became.nothing);
      counted = omega arith;
      taken = append-nil (parcel_in a) ∙ none.taken;
      nones = omega (arith, none.nones);
    }

brings_no : (w : Worker) (f : FramingImage) (turn : Turn) (octets : List ℕ) (t : Told) (n : ℕ) (ps : List (Event × Answer)) (u : ℕ) → told_of turn octets ≡ t ∷ [] → Became w f (t ∷ []) [] (1 + 0) → Brings w f turn octets n n ps ps u (u + 1)
brings_no w f turn octets t n ps u one became =
    record {
      pairs = [];
      unread = 1 + 0;
      log = sym (append-nil ps);
      count = omega arith;
      own = tt;
      became = subst (λ x. Became w f x [] (1 + 0)) (sym one) became;
      counted = omega arith;
      taken = refl;
      nones = refl;
    }

brings_none : (w : Worker) (f : FramingImage) (turn : Turn) (octets : List ℕ) (n : ℕ) (ps : List (Event × Answer)) (u : ℕ) → told_of turn octets ≡ [] → Brings w f turn octets n n ps ps u u
brings_none w f turn octets n ps u none =
    record {
      pairs = [];
      unread = 0;
      log = sym (append-nil ps);
      count = omega arith;
      own = tt;
      became = subst (λ x. Became w f x [] 0) (sym none) Became.nothing;
      counted = omega arith;
      taken = refl;
      nones = refl;
    }

-- what became an event was one thing, of which this event comes
pub record Comes (w : Worker) (f : FramingImage) (turn : Turn) (octets : List ℕ) (e : Event) : Type 0 where
  pub told_one : Told
  pub one : told_of turn octets ≡ told_one ∷ []
  pub event : IsEventOf w f told_one e

pub comes : (w : Worker) (f : FramingImage) (turn : Turn) (octets : List ℕ) (e : Event) → Becomes w f turn octets (becoming.Event e) → Comes w f turn octets e
comes who.A f (turn.Frame now) octets e is = record { told_one = Framed octets now; one = refl; event = is }
comes who.B f (turn.Frame now) octets e is = record { told_one = Framed octets now; one = refl; event = is }
comes who.C f (turn.Frame now) octets e is = record { told_one = Framed octets now; one = refl; event = is }
comes who.Ager f (turn.Frame now) octets e is = absurd is
comes who.Host f (turn.Frame now) octets e is = record { told_one = Framed octets now; one = refl; event = is }
comes w f (turn.Tick now) octets e is = record { told_one = Timed now; one = refl; event = is }
comes w f turn.Idle octets e is = absurd is
comes w f turn.End octets e is = absurd is

-- what a turn becomes for a worker of another name that is the same
pub becomes_at : (w w' : Worker) (f : FramingImage) (turn : Turn) (octets : List ℕ) (b : Becoming) → w' ≡ w → Becomes w' f turn octets b → Becomes w f turn octets b
becomes_at w w' f turn octets b is p = subst (λ x. Becomes x f turn octets b) is p

-- as much was unread
pub brings_as : (w : Worker) (f : FramingImage) (turn : Turn) (octets : List ℕ) (n n' : ℕ) (ps ps' : List (Event × Answer)) (u u' u'' : ℕ) → u' ≡ u'' → Brings w f turn octets n n' ps ps' u u' → Brings w f turn octets n n' ps ps' u u''
brings_as w f turn octets n n' ps ps' u u' u'' is b = subst (λ x. Brings w f turn octets n n' ps ps' u x) is b

pub brings_entered : (w : Worker) (f : FramingImage) (turn : Turn) (octets : List ℕ) (b : Becoming) (e : Event) (a : Answer) (n n' : ℕ) (ps ps' : List (Event × Answer)) (u : ℕ) → b ≡ becoming.Event e → Becomes w f turn octets b → IsAnswerOf e a → n' ≡ n + 1 → ps' ≡ ps ++ (e, a) ∷ [] → Brings w f turn octets n n' ps ps' u u
brings_entered w f turn octets b e a n n' ps ps' u event is answers count log =
    let c = comes w f turn octets e (subst (λ x. Becomes w f turn octets x) event is) in brings_one w f turn octets c.told_one e a n n' ps ps' u c.one c.event answers count log

pub brings_refused : (w : Worker) (f : FramingImage) (turn : Turn) (octets : List ℕ) (b : Becoming) (e : Event) (n n' : ℕ) (ps ps' : List (Event × Answer)) (u : ℕ) → b ≡ becoming.Event e → Becomes w f turn octets b → n' ≡ n → ps' ≡ ps → Brings w f turn octets n n' ps ps' u (u + 1)
brings_refused w f turn octets b e n n' ps ps' u event is count log =
    let c = comes w f turn octets e (subst (λ x. Becomes w f turn octets x) event is) in
    subst (λ (x : ℕ × List (Event × Answer)). Brings w f turn octets n x.0 ps x.1 u (u + 1)) (λ i. (sym count i, sym log i)) (brings_no w f turn octets c.told_one n ps u c.one (refused c.told_one e [] [] 0 c.event Became.nothing))

-- what has no event was one thing
pub record HasNone (w : Worker) (f : FramingImage) (turn : Turn) (octets : List ℕ) : Type 0 where
  pub told_one : Told
  pub one : told_of turn octets ≡ told_one ∷ []
  pub none : HasNoEvent w f told_one

pub has_none : (w : Worker) (f : FramingImage) (turn : Turn) (octets : List ℕ) → Becomes w f turn octets becoming.Unread → HasNone w f turn octets
has_none who.A f (turn.Frame now) octets is = record { told_one = Framed octets now; one = refl; none = is }
has_none who.B f (turn.Frame now) octets is = record { told_one = Framed octets now; one = refl; none = is }
has_none who.C f (turn.Frame now) octets is = record { told_one = Framed octets now; one = refl; none = is }
has_none who.Ager f (turn.Frame now) octets is = record { told_one = Framed octets now; one = refl; none = is }
has_none who.Host f (turn.Frame now) octets is = record { told_one = Framed octets now; one = refl; none = is }
has_none w f (turn.Tick now) octets is = absurd is
has_none w f turn.Idle octets is = absurd is
has_none w f turn.End octets is = absurd is

-- where nothing was handed out, nothing is told
pub none_told : (w : Worker) (f : FramingImage) (turn : Turn) (octets : List ℕ) → Becomes w f turn octets becoming.Nothing → told_of turn octets ≡ []
none_told who.A f (turn.Frame now) octets is = absurd is
none_told who.B f (turn.Frame now) octets is = absurd is
none_told who.C f (turn.Frame now) octets is = absurd is
none_told who.Ager f (turn.Frame now) octets is = absurd is
none_told who.Host f (turn.Frame now) octets is = absurd is
none_told w f (turn.Tick now) octets is = absurd is
none_told w f turn.Idle octets is = refl
none_told w f turn.End octets is = refl

pub brings_unread : (w : Worker) (f : FramingImage) (turn : Turn) (octets : List ℕ) (b : Becoming) (n : ℕ) (ps : List (Event × Answer)) (u : ℕ) → b ≡ becoming.Unread → Becomes w f turn octets b → Brings w f turn octets n n ps ps u (u + 1)
brings_unread w f turn octets b n ps u is becomes =
    let h = has_none w f turn octets (subst (λ x. Becomes w f turn octets x) is becomes) in brings_no w f turn octets h.told_one n ps u h.one (unread h.told_one [] [] 0 h.none Became.nothing)

pub brings_nothing : (w : Worker) (f : FramingImage) (turn : Turn) (octets : List ℕ) (b : Becoming) (n : ℕ) (ps : List (Event × Answer)) (u : ℕ) → b ≡ becoming.Nothing → Becomes w f turn octets b → Brings w f turn octets n n ps ps u u
brings_nothing w f turn octets b n ps u is becomes = brings_none w f turn octets n ps u (none_told w f turn octets (subst (λ x. Becomes w f turn octets x) is becomes))

-- a parcel was written, and given
pub out_gave : (tells : Bool) (f : FramingImage) (p : ParcelImage) (g g' : List (List ℕ)) (n n' : ℕ) (given : Given) (q : ParcelImage) (old new octets : List ℕ) → q ≡ p → old ≡ [] → octets ≡ new → write_fault f q ≡ None → Appends f q old new → (tells ≡ true → g' ≡ g ++ put_of given octets) → n' ≡ lost_after n given → Out tells f p g g' n n'
out_gave tells f p g g' n n' given q old new octets view none is can written put lost =
    let appends : Appends f p old new = subst (λ x. Appends f x old new) view written in
    let same : octets ≡ appends.written = is ∙ appends.appended ∙ ap (λ l. l ++ appends.written) none in
    record {
      gave = (given, octets) ∷ [];
      sends = gave p given octets [] [] (sym (ap (λ x. write_fault f x) view) ∙ can) (subst (λ x. IsWritten f p.form p x) (sym same) appends.is_written) GivesEach.nothing;
      given = λ tell. put tell ∙ ap (λ l. g ++ l) (sym (append-nil (put_of given octets)));
      short = lost;
    }

-- a parcel that was refused, and not for a failed allocation, can't be written
pub unwritable : (f : FramingImage) (p q : ParcelImage) (e : ReadFault) → q ≡ p → ((e ≡ NoMemory) ↔ (write_fault f q ≡ None)) → e ≢ NoMemory → write_fault f p ≢ None
unwritable f p q e view exact other none = other (exact.1 (ap (λ x. write_fault f x) view ∙ none))

-- a parcel can't be written
pub out_none : (tells : Bool) (f : FramingImage) (p : ParcelImage) (g : List (List ℕ)) (n : ℕ) → write_fault f p ≢ None → Out tells f p g g n n
out_none tells f p g n bare =
    record { gave = []; sends = unwritten p [] [] bare GivesEach.nothing; given = λ tell. sym (append-nil g); short = refl }

-- how often nothing was taken, by whether something was
abbrev pub none_if : Bool → ℕ
none_if some = if some then 0 else 1

pub none_as : (b c : Bool) → b ≡ c → none_if b ≡ none_if c
none_as b c is = ap none_if is

-- which of two holds
pub match_true : (P Q : Type 0) (b : Bool) → b ≡ true → MatchBool b P Q → P
match_true P Q true is m = m
match_true P Q false is m = absurd (true≢false (sym is))

pub match_false : (P Q : Type 0) (b : Bool) → b ≡ false → MatchBool b P Q → Q
match_false P Q true is m = absurd (true≢false is)
match_false P Q false is m = m
