-- What shows of a worker at work, and what each of its calls comes to.
use Rattle.std.specs.Prelude.{◌≡◌, ◌≢◌, ◌≤◌, ◌<◌, ◌⊎◌, ℕ, ◌+◌, Bool, true, false, List, [], ◌∷◌, ◌++◌, Option, None, Some}
use Rattle.std.specs.Prelude.{MatchBool, IfOk, OnOk, IfErr, OnErr, vec_capacity}
use Rattle.std.specs.declared.result.Result.{Result}
use Rattle.std.specs.declared.result.Result.TheVariants.{Ok, Err}
use Rattle.sr_forwarding.specs.Encoding.{write_fault}
use Rattle.sr_forwarding.specs.Parcels.{ParcelImage}
use Rattle.sr_forwarding.specs.Limits.{longest_frame}
use Rattle.sr_forwarding.specs.Framings.{FramingImage}
use Rattle.sr_node.specs.declared.event.Event.{Event}
use Rattle.sr_node.specs.declared.event.Answer.{Answer}
use Rattle.sr_node.specs.Answers.{IsAnswerOf}
use Rattle.sr_ports.specs.declared.fault.EnterFault.{EnterFault}
use Rattle.sr_workers.specs.declared.entering.Enters.{Ghosts as EntersOf}
use Rattle.sr_workers.specs.declared.fault.WorkerFault.{WorkerFault}
use Rattle.sr_workers.specs.declared.fault.WorkerFault.TheVariants.{NoMemory, FeedFault}
use Rattle.sr_workers.specs.declared.feed.Feed.{Ghosts as FeedOf}
use Rattle.sr_workers.specs.declared.feed.Turn.{Turn}
use Rattle.sr_workers.specs.declared.kit.WorkerEnd.{WorkerEnd}
use Rattle.sr_workers.specs.declared.post.Lists.{Lists}
use Rattle.sr_workers.specs.declared.post.Post.{Post}
use Rattle.sr_workers.specs.Calls.{Called}
use Rattle.sr_workers.specs.Ends.{stop_of}
use Rattle.sr_workers.specs.Told.{told_of}
use Rattle.sr_workers.specs.Turns.{Brings, Out}
use Rattle.sr_workers.specs.Work.{Moment, moment, Did, DidLast, Finished, Stopped, nones_of}

-- the lists for what goes out have room for the longest frame
pub record HasFrameRoom (l : Lists) : Type 0 where
  pub outgoing : longest_frame ≤ vec_capacity l.outgoing
  pub spare : longest_frame ≤ vec_capacity l.spare

-- a worker can take out parcels: it holds none, and its lists have room
pub record CanTakeOut {E F : Type 0} (p : Post E F) (l : Lists) : Type 0 where
  pub held : p.held ≡ None
  pub room : HasFrameRoom l

-- what shows of a post, by what shows of its seat and of its feed
abbrev pub post_moment : {E F : Type 0} → EntersOf E → FeedOf F → Post E F → Moment
post_moment way feed p =
    moment (way.count p.seat) p.log.pairs.items (feed.handed p.feed) (feed.asked p.feed) (feed.given p.feed) (feed.losses p.feed)
    (feed.failed p.feed) p.unread

-- by which calls it asked its node from one moment to another
abbrev pub CallsOf : {E F : Type 0} → EntersOf E → FeedOf F → FramingImage → Option WorkerFault → Post E F → Post E F → Type 0
CallsOf way feed f why p q =
    Called way.enters (feed.tells p.feed) (way.whose p.seat) f why p.seat q.seat (feed.handed p.feed) (feed.handed q.feed)
    p.log.pairs.items q.log.pairs.items p.unread q.unread

-- by which calls it asked its node for what a turn hands out
abbrev pub CallsFor : {E F : Type 0} → EntersOf E → FramingImage → Turn → List ℕ → Option WorkerFault → Post E F → Post E F
    → Type 0
CallsFor way f turn octets why p q =
    Called way.enters true (way.whose p.seat) f why p.seat q.seat [] (told_of turn octets) p.log.pairs.items q.log.pairs.items
    p.unread q.unread

-- it is the same worker, with the same log, and its feed is the same of name and in whether it tells
pub record StaysItself {E F : Type 0} (way : EntersOf E) (feed : FeedOf F) (p q : Post E F) : Type 0 where
  pub whose : way.whose q.seat ≡ way.whose p.seat
  pub worker : q.log.worker ≡ p.log.worker
  pub name : feed.name q.feed ≡ feed.name p.feed
  pub tells : feed.tells q.feed ≡ feed.tells p.feed

-- it did this and goes on: so many takes found nothing, its feed answered so many turns, and it holds no parcel
pub record CarriesOn {E F : Type 0} (way : EntersOf E) (feed : FeedOf F) (f : FramingImage) (none asks : ℕ) (p q : Post E F)
    : Type 0 where
  pub held : q.held ≡ None
  pub did : Did (feed.tells p.feed) (way.whose p.seat) f none asks [] [] (post_moment way feed p) (post_moment way feed q)
  pub calls : CallsOf way feed f None p q

-- it did this and stops by a fault, in the midst of a turn
pub record StopsShort {E F : Type 0} (way : EntersOf E) (feed : FeedOf F) (f : FramingImage) (reason : WorkerFault) (p q : Post E F)
    : Type 0 where
  pub did : DidLast (feed.tells p.feed) (way.whose p.seat) f reason q.held 0 (post_moment way feed p) (post_moment way feed q)
  pub calls : CallsOf way feed f (Some reason) p q

-- what is entered leaves whose the worker and its log are, its feed and what it holds as they are
pub record OnlyEnters {E F : Type 0} (way : EntersOf E) (p q : Post E F) : Type 0 where
  pub whose : way.whose q.seat ≡ way.whose p.seat
  pub worker : q.log.worker ≡ p.log.worker
  pub feed : q.feed ≡ p.feed
  pub held : q.held ≡ p.held

-- nothing is entered, written down or counted, and the feed is not the reason
pub record EntersNone {E F : Type 0} (way : EntersOf E) (reason : WorkerFault) (p q : Post E F) : Type 0 where
  pub other : reason ≢ FeedFault
  pub count : way.count q.seat ≡ way.count p.seat
  pub pairs : q.log.pairs.items ≡ p.log.pairs.items
  pub unread : q.unread ≡ p.unread

-- the event was entered and written down with its answer, or it was refused and the worker goes on
abbrev pub Logged : {E F : Type 0} → EntersOf E → Bool → Event → Post E F → Post E F → Type 0
Logged way entered e p q =
    MatchBool entered
    ((a : Answer) × (q.log.pairs.items ≡ p.log.pairs.items ++ (e, a) ∷ []) × (way.count q.seat ≡ way.count p.seat + 1)
    × IsAnswerOf e a × way.enters p.seat e (Ok a) q.seat)
    ((q.log.pairs.items ≡ p.log.pairs.items) × (way.count q.seat ≡ way.count p.seat)
    × (fault : EnterFault) × (stop_of fault ≡ None) × way.enters p.seat e (Err fault) q.seat)

-- the event was refused so that the worker stops with this fault, or an allocation failed before it was entered
abbrev pub StopsAtEvent : {E F : Type 0} → EntersOf E → WorkerFault → Event → Post E F → Post E F → Type 0
StopsAtEvent way reason e p q =
    ((q.seat ≡ p.seat) × (reason ≡ NoMemory))
    ⊎ ((fault : EnterFault) × (stop_of fault ≡ Some reason) × way.enters p.seat e (Err fault) q.seat)

-- an event is entered and written down, or refused
pub record EntersEvent {E F : Type 0} (way : EntersOf E) (e : Event) (p : Post E F) (result : Result Bool WorkerFault) (q : Post E F)
    : Type 0 where
  pub same : OnlyEnters way p q
  pub ok : IfOk result (λ entered. (q.unread ≡ p.unread) × Logged way entered e p q)
  pub err : IfErr result (λ reason. EntersNone way reason p q × StopsAtEvent way reason e p q)

-- what a turn of the feed brought
abbrev pub BringsTo : {E F : Type 0} → EntersOf E → FramingImage → Turn → List ℕ → Post E F → Post E F → Type 0
BringsTo way f turn octets p q =
    Brings (way.whose p.seat) f turn octets (way.count p.seat) (way.count q.seat) p.log.pairs.items q.log.pairs.items p.unread q.unread

-- what a turn of the feed becomes is entered, or it is unread
pub record BringsTurn {A E F : Type 0} (way : EntersOf E) (f : FramingImage) (turn : Turn) (octets : List ℕ) (p : Post E F)
    (result : Result A WorkerFault) (q : Post E F) : Type 0 where
  pub same : OnlyEnters way p q
  pub unread : q.unread ≤ p.unread + 1
  pub ok : OnOk result (BringsTo way f turn octets p q × CallsFor way f turn octets None p q)
  pub err : IfErr result (λ reason. EntersNone way reason p q × CallsFor way f turn octets (Some reason) p q)

-- what is given to a feed leaves what else shows of it as it is
pub record OnlyGives {F : Type 0} (feed : FeedOf F) (x y : F) : Type 0 where
  pub name : feed.name y ≡ feed.name x
  pub tells : feed.tells y ≡ feed.tells x
  pub handed : feed.tells x ≡ true → feed.handed y ≡ feed.handed x
  pub asked : feed.tells x ≡ true → feed.asked y ≡ feed.asked x
  pub ended : feed.ended y ≡ feed.ended x
  pub counted : feed.failed x ≤ feed.failed y

-- a feed failed to take a parcel that can be written
pub record FailsToTake {F : Type 0} (feed : FeedOf F) (f : FramingImage) (parcel : ParcelImage) (x y : F) : Type 0 where
  pub written : write_fault f parcel ≡ None
  pub given : feed.tells x ≡ true → feed.given y ≡ feed.given x
  pub losses : feed.losses y ≡ feed.losses x
  pub failed : feed.failed x < feed.failed y

-- a parcel is given to a feed as it is written, if it can be written
pub record PutsOut {A X F : Type 0} (feed : FeedOf F) (f : FramingImage) (parcel : ParcelImage) (x : F) (result : Result A X) (y : F)
    : Type 0 where
  pub same : OnlyGives feed x y
  pub ok : OnOk result (Out (feed.tells x) f parcel (feed.given x) (feed.given y) (feed.losses x) (feed.losses y))
  pub err : OnErr result (FailsToTake feed f parcel x y)

-- how many takes found nothing, by whether one found a parcel
abbrev pub none_by : {X : Type 0} → Result Bool X → ℕ
none_by (Ok true) = 0
none_by (Ok false) = 1
none_by (Err fault) = 0

-- parcels are taken out and given to the feed, and so many takes find nothing
pub record TakesParcels {A E F : Type 0} (way : EntersOf E) (feed : FeedOf F) (f : FramingImage) (none : ℕ) (p : Post E F)
    (result : Result A WorkerFault) (q : Post E F) (l : Lists) : Type 0 where
  pub same : StaysItself way feed p q
  pub unread : q.unread ≡ p.unread
  pub ended : feed.ended q.feed ≡ feed.ended p.feed
  pub ok : OnOk result (HasFrameRoom l × CarriesOn way feed f none 0 p q)
  pub err : IfErr result (λ reason. StopsShort way feed f reason p q)

-- a turn is made; where the feed has ended, nothing is done, and there is no more
pub record MakesTurn {E F : Type 0} (way : EntersOf E) (feed : FeedOf F) (f : FramingImage) (p : Post E F)
    (result : Result Bool WorkerFault) (q : Post E F) (l : Lists) : Type 0 where
  pub same : StaysItself way feed p q
  pub unread : q.unread ≤ p.unread + 1
  pub ok : IfOk result (λ more. HasFrameRoom l
      × MatchBool more (CarriesOn way feed f (nones_of (way.whose p.seat) 1) 1 p q)
      ((feed.ended q.feed ≡ true) × CarriesOn way feed f 0 0 p q))
  pub err : IfErr result (λ reason. StopsShort way feed f reason p q)

-- all turns are made, or the feed has ended
pub record FinishesTurns {E F : Type 0} (way : EntersOf E) (feed : FeedOf F) (f : FramingImage) (turns : ℕ) (p q : Post E F)
    : Type 0 where
  pub held : q.held ≡ None
  pub did : Finished (feed.tells p.feed) (way.whose p.seat) f turns (post_moment way feed p) (post_moment way feed q)
      (feed.ended q.feed)
  pub calls : CallsOf way feed f None p q

-- or some are made, and the worker stops by a fault
pub record StopsTurns {E F : Type 0} (way : EntersOf E) (feed : FeedOf F) (f : FramingImage) (turns : ℕ) (reason : WorkerFault)
    (p q : Post E F) : Type 0 where
  pub did : Stopped (feed.tells p.feed) (way.whose p.seat) f turns reason q.held (post_moment way feed p) (post_moment way feed q)
  pub calls : CallsOf way feed f (Some reason) p q

-- so many turns are made, or fewer
pub record MakesTurns {A E F : Type 0} (way : EntersOf E) (feed : FeedOf F) (f : FramingImage) (turns : ℕ) (p : Post E F)
    (result : Result A WorkerFault) (q : Post E F) : Type 0 where
  pub same : StaysItself way feed p q
  pub ok : OnOk result (FinishesTurns way feed f turns p q)
  pub err : IfErr result (λ reason. StopsTurns way feed f turns reason p q)

-- a worker hands back all that it has, and why it stopped
pub record HandsBack {E F : Type 0} (p : Post E F) (fault : Option WorkerFault) (seat : E) (e : WorkerEnd F) : Type 0 where
  pub seat_is : seat ≡ p.seat
  pub feed : e.feed ≡ p.feed
  pub log : e.log ≡ p.log
  pub unread : e.unread ≡ p.unread
  pub fault_is : e.fault ≡ fault
  pub held : e.held ≡ p.held
