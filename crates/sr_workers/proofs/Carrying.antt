-- What a worker at its post does, step by step.
use Rattle.std.proofs.Common.{◌≡◌, ◌≢◌, ◌≤◌, ℕ, ◌+◌, List, [], ◌++◌, Some, None, Bool, true, false, Ok, Err, refl, sym, ap, ◌∙◌, subst, arith, append-nil, true≢false}
use Rattle.sr_forwarding.specs.Framings.{FramingImage}
use Rattle.sr_workers.specs.declared.entering.Enters.{Ghosts as EntersOf}
use Rattle.sr_workers.specs.declared.fault.WorkerFault.{WorkerFault}
use Rattle.sr_workers.specs.declared.fault.WorkerFault.TheVariants.{FeedFault}
use Rattle.sr_workers.specs.declared.feed.Feed.{Ghosts as FeedOf}
use Rattle.sr_workers.specs.declared.feed.Turn.{Turn}
use Rattle.sr_workers.specs.declared.feed.Turn.TheVariants.{End}
use Rattle.sr_workers.specs.declared.post.Lists.{Lists}
use Rattle.sr_workers.specs.declared.post.Post.{Post}
use Rattle.sr_workers.specs.Calls.{Called}
use Rattle.sr_workers.specs.Posts.{StaysItself, CarriesOn, StopsShort, TakesParcels, FinishesTurns, StopsTurns, none_by, post_moment}
use Rattle.sr_workers.specs.Told.{Told, told_of, turns_in}
use Rattle.sr_workers.specs.Turns.{Brings}
use Rattle.sr_workers.specs.Work.{nones_of}
use Rattle.sr_workers.proofs.Calling.{called_still, called_more, called_at, called_as, none_is_not_full}
use Rattle.sr_workers.proofs.Steps.{did_still, did_more, did_as, did_bring, did_end, last_more, last_as, last_lost, nones_zero, nones_more, finished_end, finished_all, stopped_at}

-- what a take that found a parcel counts, and one that found none
pub none_found : (b : Bool) → b ≡ true → none_by {X = WorkerFault} (Ok b) ≡ 0
none_found true is = refl
none_found false is = absurd (true≢false (sym is))

pub none_left : (b : Bool) → b ≡ false → none_by {X = WorkerFault} (Ok b) ≡ 1
none_left true is = absurd (true≢false is)
none_left false is = refl

-- what a feed that was asked handed out, in so many turns
pub record HandsOut {F : Type 0} (feed : FeedOf F) (asks : ℕ) (told : List Told) (x y : F) : Type 0 where
  pub name : feed.name y ≡ feed.name x
  pub tells : feed.tells y ≡ feed.tells x
  pub handed : feed.tells x ≡ true → feed.handed y ≡ feed.handed x ++ told
  pub asked : feed.tells x ≡ true → feed.asked y ≡ feed.asked x + asks
  pub given : feed.tells x ≡ true → feed.given y ≡ feed.given x
  pub losses : feed.losses y ≡ feed.losses x
  pub counted : feed.failed x ≤ feed.failed y

module _ {E F : Type 0} (way : EntersOf E) (feed : FeedOf F) where
  -- it is the same worker over two steps, and over none
  pub same_then : (p m q : Post E F) → StaysItself way feed p m → StaysItself way feed m q → StaysItself way feed p q
  same_then p m q a b = record { whose = b.whose ∙ a.whose; worker = b.worker ∙ a.worker; name = b.name ∙ a.name; tells = b.tells ∙ a.tells }

  pub same_still : (p : Post E F) → StaysItself way feed p p
  same_still p = record { whose = refl; worker = refl; name = refl; tells = refl }

module _ {E F : Type 0} (way : EntersOf E) (feed : FeedOf F) (f : FramingImage) where
  -- as many takes found nothing, in as many turns
  pub on_as : (n n' k k' : ℕ) (p q : Post E F) → n ≡ n' → k ≡ k' → CarriesOn way feed f n k p q → CarriesOn way feed f n' k' p q
  on_as n n' k k' p q none asks a = subst (λ (x : ℕ × ℕ). CarriesOn way feed f x.0 x.1 p q) (λ i. (none i, asks i)) a

  -- nothing was done
  pub on_still : (p : Post E F) → p.held ≡ None → CarriesOn way feed f 0 0 p p
  on_still p held =
      record {
        held = held;
        did = did_still _ _ _ (post_moment way feed p) (post_moment way feed p) refl refl refl (λ _. refl) (λ _. refl) (λ _. refl) refl (omega arith);
        calls = called_still _ _ _ _ _ _ _ _ _ _ _ _ _ none_is_not_full refl (λ _. refl) refl refl;
      }

  -- one thing was done, and then another, or a fault came
  pub on_then : (n n' k k' : ℕ) (p m q : Post E F) → StaysItself way feed p m → CarriesOn way feed f n k p m → CarriesOn way feed f n' k' m q → CarriesOn way feed f (n + n') (k + k') p q
  on_then n n' k k' p m q same a b =
      record {
        held = b.held;
        did = did_more _ _ _ n n' k k' _ _ _ _ _ a.did (did_as _ _ _ _ _ n' n' k' k' _ _ _ _ same.tells same.whose refl refl b.did);
        calls = called_more _ _ _ _ _ _ _ _ _ _ _ _ _ _ _ _ _ a.calls (called_as _ _ _ _ _ _ _ _ _ _ _ _ _ _ _ same.tells same.whose b.calls);
      }

  pub short_then : (reason : WorkerFault) (k : ℕ) (p m q : Post E F) → StaysItself way feed p m → CarriesOn way feed f 0 k p m → StopsShort way feed f reason m q → StopsShort way feed f reason p q
  short_then reason k p m q same a b =
      record {
        did = last_more _ _ _ _ _ 0 0 k _ _ _ a.did (last_as _ _ _ _ _ _ _ 0 0 _ _ same.tells same.whose refl b.did);
        calls = called_more _ _ _ _ _ _ _ _ _ _ _ _ _ _ _ _ _ a.calls (called_as _ _ _ _ _ _ _ _ _ _ _ _ _ _ _ same.tells same.whose b.calls);
      }

  -- what a feed handed out was brought, by the same worker, or is lost where a fault came
  pub same_brought : (asks : ℕ) (told : List Told) (p q : Post E F) (y : F) → HandsOut feed asks told p.feed y → way.whose q.seat ≡ way.whose p.seat → q.log.worker ≡ p.log.worker → q.feed ≡ y → StaysItself way feed p q
  same_brought asks told p q y hands whose worker fed =
      record { whose = whose; worker = worker; name = ap (λ x. feed.name x) fed ∙ hands.name; tells = ap (λ x. feed.tells x) fed ∙ hands.tells }

  pub on_brought : (turn : Turn) (octets octets' : List ℕ) (p q : Post E F) (y : F) → p.held ≡ None → HandsOut feed (turns_in turn) (told_of turn octets) p.feed y → q.feed ≡ y → q.held ≡ p.held → Brings (way.whose p.seat) f turn octets' (way.count p.seat) (way.count q.seat) p.log.pairs.items q.log.pairs.items p.unread q.unread → Called way.enters true (way.whose p.seat) f None p.seat q.seat [] (told_of turn octets') p.log.pairs.items q.log.pairs.items p.unread q.unread → octets ≡ octets' → CarriesOn way feed f 0 (turns_in turn) p q
  on_brought turn octets octets' p q y held hands fed holds brings calls same =
      let handed : feed.tells p.feed ≡ true → feed.handed q.feed ≡ feed.handed p.feed ++ told_of turn octets' =
      λ tell. ap (λ x. feed.handed x) fed ∙ hands.handed tell ∙ ap (λ l. feed.handed p.feed ++ told_of turn l) same in
      record {
        held = holds ∙ held;
        did = did_bring _ _ _ (turns_in turn) turn octets' (post_moment way feed p) (post_moment way feed q) brings handed (λ tell. ap (λ x. feed.asked x) fed ∙ hands.asked tell) (λ tell. ap (λ x. feed.given x) fed ∙ hands.given tell) (ap (λ x. feed.losses x) fed ∙ hands.losses) (subst (λ x. feed.failed p.feed ≤ feed.failed x) (sym fed) hands.counted);
        calls = called_at _ _ _ _ _ _ _ _ _ _ _ _ _ _ handed calls;
      }

  pub short_brought : (reason : WorkerFault) (turn : Turn) (octets octets' : List ℕ) (p q : Post E F) (y : F) → p.held ≡ None → HandsOut feed (turns_in turn) (told_of turn octets) p.feed y → q.feed ≡ y → q.held ≡ p.held → reason ≢ FeedFault → way.count q.seat ≡ way.count p.seat → q.log.pairs.items ≡ p.log.pairs.items → q.unread ≡ p.unread → Called way.enters true (way.whose p.seat) f (Some reason) p.seat q.seat [] (told_of turn octets') p.log.pairs.items q.log.pairs.items p.unread q.unread → octets ≡ octets' → StopsShort way feed f reason p q
  short_brought reason turn octets octets' p q y held hands fed holds other count pairs unread calls same =
      let handed : feed.tells p.feed ≡ true → feed.handed q.feed ≡ feed.handed p.feed ++ told_of turn octets' =
      λ tell. ap (λ x. feed.handed x) fed ∙ hands.handed tell ∙ ap (λ l. feed.handed p.feed ++ told_of turn l) same in
      record {
        did = last_lost _ _ _ reason q.held turn octets' (post_moment way feed p) (post_moment way feed q) (holds ∙ held) count pairs unread handed (λ tell. ap (λ x. feed.asked x) fed ∙ hands.asked tell) (λ tell. ap (λ x. feed.given x) fed ∙ hands.given tell) (ap (λ x. feed.losses x) fed ∙ hands.losses) (subst (λ x. feed.failed p.feed ≤ feed.failed x) (sym fed) hands.counted) other;
        calls = called_at _ _ _ _ _ _ _ _ _ _ _ _ _ _ handed calls;
      }

  -- the feed has ended
  pub on_ended : (turn : Turn) (octets : List ℕ) (p q : Post E F) → turn ≡ End → p.held ≡ None → HandsOut feed (turns_in turn) (told_of turn octets) p.feed q.feed → q.seat ≡ p.seat → q.log.pairs.items ≡ p.log.pairs.items → q.unread ≡ p.unread → q.held ≡ p.held → CarriesOn way feed f 0 0 p q
  on_ended turn octets p q is held hands seat pairs unread holds =
      record {
        held = holds ∙ held;
        did = did_end _ _ _ turn octets (post_moment way feed p) (post_moment way feed q) is (ap (λ x. way.count x) seat) pairs unread hands.handed hands.asked hands.given hands.losses hands.counted;
        calls = called_still _ _ _ _ _ _ _ _ _ _ _ _ _ none_is_not_full seat (λ tell. hands.handed tell ∙ ap (λ x. feed.handed p.feed ++ told_of x octets) is ∙ append-nil (feed.handed p.feed)) pairs unread;
      }

  -- parcels were taken out, and then others, or a fault came
  pub takes_on : {A B C : Type 0} (n n' : ℕ) (a : A) (b : B) (c : C) (p m q : Post E F) (l l' : Lists) → TakesParcels way feed f 0 p (Ok a) m l → TakesParcels way feed f n m (Ok b) q l' → n ≡ n' → TakesParcels way feed f n' p (Ok c) q l'
  takes_on n n' a b c p m q l l' x y is =
      record {
        same = same_then way feed p m q x.same y.same;
        unread = y.unread ∙ x.unread;
        ended = y.ended ∙ x.ended;
        ok = (y.ok.0, on_as (0 + n) n' 0 0 p q (omega (arith, is)) refl (on_then 0 n 0 0 p m q x.same x.ok.1 y.ok.1));
        err = tt;
      }

  pub takes_off : {A B C : Type 0} (n n' : ℕ) (a : A) (reason : WorkerFault) (p m q : Post E F) (l l' : Lists) → TakesParcels way feed f 0 p (Ok a) m l → TakesParcels {A = B} way feed f n m (Err reason) q l' → TakesParcels {A = C} way feed f n' p (Err reason) q l'
  takes_off n n' a reason p m q l l' x y =
      record {
        same = same_then way feed p m q x.same y.same;
        unread = y.unread ∙ x.unread;
        ended = y.ended ∙ x.ended;
        ok = tt;
        err = short_then reason 0 p m q x.same x.ok.1 y.err;
      }

  -- so many turns were made, and one more
  pub on_more : (rounds : ℕ) (p m q : Post E F) → StaysItself way feed p m → CarriesOn way feed f (nones_of (way.whose p.seat) rounds) rounds p m → CarriesOn way feed f (nones_of (way.whose m.seat) 1) 1 m q → CarriesOn way feed f (nones_of (way.whose p.seat) (rounds + 1)) (rounds + 1) p q
  on_more rounds p m q same a b =
      on_as _ _ _ _ p q (ap (λ w. nones_of (way.whose p.seat) rounds + nones_of w 1) same.whose ∙ nones_more (way.whose p.seat) rounds) refl (on_then _ _ _ _ p m q same a b)

  -- none was made yet
  pub on_first : (p : Post E F) → p.held ≡ None → CarriesOn way feed f (nones_of (way.whose p.seat) 0) 0 p p
  on_first p held = on_as _ _ _ _ p p (nones_zero (way.whose p.seat)) refl (on_still p held)

  -- all turns were made, the feed has ended, or a fault came
  pub turns_all : (turns rounds : ℕ) (p q : Post E F) → rounds ≡ turns → CarriesOn way feed f (nones_of (way.whose p.seat) rounds) rounds p q → FinishesTurns way feed f turns p q
  turns_all turns rounds p q is a = record { held = a.held; did = finished_all _ _ _ turns rounds _ _ _ is a.did; calls = a.calls }

  pub turns_end : (turns rounds : ℕ) (p m q : Post E F) → rounds ≤ turns → StaysItself way feed p m → CarriesOn way feed f (nones_of (way.whose p.seat) rounds) rounds p m → feed.ended q.feed ≡ true → CarriesOn way feed f 0 0 m q → FinishesTurns way feed f turns p q
  turns_end turns rounds p m q few same a end b =
      record {
        held = b.held;
        did = finished_end _ _ _ turns rounds _ _ _ _ few a.did (did_as _ _ _ _ _ 0 0 0 0 _ _ _ _ same.tells same.whose refl refl b.did) end;
        calls = called_more _ _ _ _ _ _ _ _ _ _ _ _ _ _ _ _ _ a.calls (called_as _ _ _ _ _ _ _ _ _ _ _ _ _ _ _ same.tells same.whose b.calls);
      }

  pub turns_stop : (reason : WorkerFault) (turns rounds : ℕ) (p m q : Post E F) → rounds ≤ turns → StaysItself way feed p m → CarriesOn way feed f (nones_of (way.whose p.seat) rounds) rounds p m → StopsShort way feed f reason m q → StopsTurns way feed f turns reason p q
  turns_stop reason turns rounds p m q few same a b =
      record {
        did = stopped_at _ _ _ turns rounds _ _ _ _ _ few a.did (last_as _ _ _ _ _ _ _ 0 0 _ _ same.tells same.whose refl b.did);
        calls = called_more _ _ _ _ _ _ _ _ _ _ _ _ _ _ _ _ _ a.calls (called_as _ _ _ _ _ _ _ _ _ _ _ _ _ _ _ same.tells same.whose b.calls);
      }
