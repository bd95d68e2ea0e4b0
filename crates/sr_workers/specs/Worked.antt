-- What a worker did from its beginning to its end.
use Rattle.std.specs.Prelude.{◌≡◌, ◌≢◌, ◌≤◌, ◌<◌, ◌⊎◌, ℕ, Bool, true, List, [], length, Option, None, Some}
use Rattle.sr_forwarding.specs.Parcels.{ParcelImage}
use Rattle.sr_forwarding.specs.Framings.{FramingImage}
use Rattle.sr_node.specs.declared.event.Event.{Event}
use Rattle.sr_node.specs.declared.event.Answer.{Answer}
use Rattle.sr_ports.specs.declared.worker.Worker.{Worker}
use Rattle.sr_ports.specs.Stamps.{Stamp}
use Rattle.sr_workers.specs.declared.fault.WorkerFault.{WorkerFault}
use Rattle.sr_workers.specs.declared.fault.WorkerFault.TheVariants as fault
use Rattle.sr_workers.specs.declared.kit.WorkerEnd.{WorkerEnd}
use Rattle.sr_workers.specs.Told.{Told}
use Rattle.sr_workers.specs.Work.{Moment, moment, Did, nones_of, parcels_held}

-- what a worker begins with: its name, its port's framing, how many turns it is to make, how many events were entered with its
-- pass, and of its feed whether it tells, what it has handed out and in how many turns, what was put, how many frames it has lost and
-- how often it failed
pub record Begun : Type 0 where
  pub worker : Worker
  pub framing : FramingImage
  pub turns : ℕ
  pub count : ℕ
  pub tells : Bool
  pub handed : List Told
  pub asked : ℕ
  pub given : List (List ℕ)
  pub losses : ℕ
  pub failed : ℕ

abbrev pub worker_begun : Worker → FramingImage → ℕ → ℕ → Bool → List Told → ℕ → List (List ℕ) → ℕ → ℕ → Begun
worker_begun w f turns count tells handed asked given losses failed =
    record {
      worker = w;
      framing = f;
      turns = turns;
      count = count;
      tells = tells;
      handed = handed;
      asked = asked;
      given = given;
      losses = losses;
      failed = failed;
    }

-- what it ends with: how many events were entered with its pass by then, its log, what of its feed shows, whether that has
-- ended, how much was unread, why the worker stopped, and the parcel that it holds
pub record Ended : Type 0 where
  pub count : ℕ
  pub pairs : List (Event × Answer)
  pub handed : List Told
  pub asked : ℕ
  pub given : List (List ℕ)
  pub losses : ℕ
  pub failed : ℕ
  pub ended : Bool
  pub unread : ℕ
  pub fault : Option WorkerFault
  pub held : Option ParcelImage

abbrev pub ended : {F : Type 0} → (F → List Told) → (F → ℕ) → (F → List (List ℕ)) → (F → ℕ) → (F → ℕ) → (F → Bool)
    → ℕ → WorkerEnd F → Ended
ended handed asked given losses failed has_ended count e =
    record {
      count = count;
      pairs = e.log.pairs.items;
      handed = handed e.feed;
      asked = asked e.feed;
      given = given e.feed;
      losses = losses e.feed;
      failed = failed e.feed;
      ended = has_ended e.feed;
      unread = e.unread;
      fault = e.fault;
      held = e.held;
    }

-- what shows of a worker as it begins, and as it ends
abbrev pub beginning : Begun → Moment
beginning b = moment b.count [] b.handed b.asked b.given b.losses b.failed 0

abbrev pub ending : Ended → Moment
ending e = moment e.count e.pairs e.handed e.asked e.given e.losses e.failed e.unread

-- without a fault nothing is lost, the feed answered a turn for each round, and these are as many as were asked for, or the feed has
-- ended
pub record EndsWhole (turns rounds asks : ℕ) (ended : Bool) (lost : List Told) : Type 0 where
  pub lost_none : lost ≡ []
  pub asked : asks ≡ rounds
  pub made : (rounds ≡ turns) ⊎ (ended ≡ true)

-- In so many rounds, at most as many as its turns, the worker did what `Did` says: what it entered is its log, and so on. A
-- fault loses one thing that was handed out at most; only a feed that fails leaves a parcel held, and is the fault; without a fault
-- all is whole.
pub record Worked (b : Begun) (e : Ended) : Type 0 where
  pub rounds : ℕ
  pub lost : List Told
  pub asks : ℕ
  pub did : Did b.tells b.worker b.framing (nones_of b.worker rounds) asks (parcels_held e.held) lost (beginning b) (ending e)
  pub few : rounds ≤ b.turns
  pub one : length lost ≤ 1
  pub only : e.fault ≢ Some fault.FeedFault → e.held ≡ None
  pub failed : e.fault ≡ Some fault.FeedFault → b.failed < e.failed
  pub whole : e.fault ≡ None → EndsWhole b.turns rounds asks e.ended lost

-- a worker that began with this pass, feed and framing ended so: the pass and the log are its own, of its feed stays what does, and
-- what it did is as above
pub record EndedAs {F N : Type 0} (name : F → N) (tells : F → Bool) (handed : F → List Told) (asked : F → ℕ)
    (given : F → List (List ℕ)) (losses failed : F → ℕ) (has_ended : F → Bool) (f : FramingImage) (turns : ℕ) (old : Stamp)
    (feed : F) (new : Stamp) (e : WorkerEnd F) : Type 0 where
  pub pass : new.worker ≡ old.worker
  pub log : e.log.worker ≡ old.worker
  pub feed_name : name e.feed ≡ name feed
  pub worked : Worked (worker_begun old.worker f turns old.count (tells feed) (handed feed) (asked feed) (given feed)
      (losses feed) (failed feed)) (ended handed asked given losses failed has_ended new.count e)
