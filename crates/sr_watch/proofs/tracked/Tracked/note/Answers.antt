use Rattle.std.proofs.Common.{◌≤◌, ◌∷◌, ◌∙◌, length, arith, refl, ap, subst}
use Rattle.std.specs.Prelude.{nat_lt}
use Rattle.sr_audit.specs.Counting.{more_at}
use Rattle.sr_audit.specs.Faults.{last_class}
use Rattle.sr_audit.specs.Limits.{exact_arrivals}
use Rattle.sr_watch.specs.Alarms.{oldest_with}
use Rattle.sr_watch.specs.Counted.{always, lasts_with}
use Rattle.sr_watch.proofs.LateLemmas.{lates_after, lasts_after}
use Rattle.sr_watch.proofs.tracked.Tracked.note.Goals as goal

pub returns : goal.returns
returns c =
    let x = c.args.x in
    record {
      notes = λ xs lines few watched.
          let taken = c.note.ensures.taken.takes xs few watched.tracks.taken in
          record {
            tracks = record {
              taken = taken;
              late = λ exact.
                  let before : length xs ≤ exact_arrivals = omega (arith, exact) in
                  let old = c.over.ensures ∙ ap (λ k. last_class k.classes) (c.figures.ensures.skews always xs before watched.tracks.taken) in
                  let new = c.over-2.ensures ∙ ap (λ k. last_class k.classes) (c.figures-2.ensures.skews always (x ∷ xs) exact taken) in
                  let late = watched.tracks.late before in
                  let few : c.over-2.result ≤ 18446744073709551615 = omega arith in
                  c.late_with-self.ensures ∙ (λ i. more_at (late i) x.side (nat_lt (old i) (new i)))
                  ∙ lates_after xs x (subst (λ n. n ≤ 18446744073709551615) new few);
              first = c.oldest_with-self.ensures ∙ ap (oldest_with x.time) watched.tracks.first;
              last = c.with-self.ensures ∙ ap (lasts_with x.side x.time) watched.tracks.last ∙ lasts_after x xs;
              newest = refl;
            };
            told = λ exact. watched.told (omega (arith, exact));
            since = watched.since;
            settled = λ is few. absurd cc;
          };
      told = refl;
      unsettled = refl;
    }
