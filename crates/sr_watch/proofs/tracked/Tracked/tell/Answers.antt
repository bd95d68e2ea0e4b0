use Rattle.std.proofs.Common.{sym, refl, subst}
use Rattle.sr_watch.specs.Changed.{IsSmall}
use Rattle.sr_watch.specs.Counted.{always}
use Rattle.sr_watch.proofs.ToldLemmas.{told_more, small_of}
use Rattle.sr_watch.proofs.tracked.Tracked.tell.Goals as goal

pub returns-clause-told : goal.returns-clause-told
returns-clause-told c =
    let mark = c.args.mark in
    record {
      total = λ xs few tracks. c.counts-total.ensures mark xs few tracks (c.waits-waiting.ensures always xs tracks.taken);
      last = λ xs tracks. tracks.last;
      interval = c.since-interval.ensures;
      waiting = λ xs few tracks. c.waits-waiting.ensures always xs tracks.taken;
      settled = c.nothing_waits-self.ensures;
      spread = refl;
      none = refl;
      shown = refl;
      shown_spread = refl;
      shown_at = refl;
      all = refl;
      keeps = λ xs lines watched. record {
        tracks = record { taken = watched.tracks.taken; late = watched.tracks.late; first = watched.tracks.first; last = watched.tracks.last; newest = watched.tracks.newest };
        told = λ few. told_more lines _ c.args.self.now.told (watched.told few)
            (subst IsSmall (sym (c.counts-total.ensures mark xs few watched.tracks (c.waits-waiting.ensures always xs watched.tracks.taken)))
            (small_of mark xs few (watched.tracks.taken.skews few).small))
            c.since-interval.ensures;
        since = refl;
        settled = λ is few. (mark, c.counts-total.ensures mark xs few watched.tracks (c.waits-waiting.ensures always xs watched.tracks.taken));
      };
    }
