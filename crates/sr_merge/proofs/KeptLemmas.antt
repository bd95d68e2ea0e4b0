-- A run in which packets are taken and none is written.
use Rattle.std.proofs.Common.{◌≡◌, List, [], ◌∷◌, ◌++◌, refl, sym, ap, ◌∙◌, subst}
use Rattle.sr_dup_table.specs.Limits.{window}
use Rattle.sr_laws_dup.specs.TableRuns.{AreSteady}
use Rattle.sr_merge.specs.MergeRuns.{Numbered, MergeTurn, took, MergeRun, reads, written_in, packets_in, arrivals_read, AreInTime, firsts}
use Rattle.sr_merge.specs.Verdicts.{kept_of_all, in_order, HaveWholes, EachFrameIsKeptOnce}
use Rattle.sr_merge.specs.VerdictLemmas.{with_all_more}
use Rattle.sr_merge.proofs.RunLemmas.{each_frame_is_written_once}

abbrev turns_of : List Numbered → List MergeTurn
turns_of [] = []
turns_of (x ∷ before) = took x ∷ turns_of before

turns_read : (xs : List Numbered) → reads (turns_of xs) ≡ xs
turns_read [] = refl
turns_read (x ∷ before) = ap (λ l. x ∷ l) (turns_read before)

turns_write : (xs : List Numbered) → written_in (turns_of xs) ≡ []
turns_write [] = refl
turns_write (x ∷ before) = turns_write before

turns_run : (xs : List Numbered) → HaveWholes xs → MergeRun (turns_of xs) (kept_of_all (in_order xs))
turns_run [] numbered = (refl, refl)
turns_run (x ∷ before) (rest, whole) =
    let e = with_all_more (record { sources = []; waiting = []; untold = 0 }) (in_order before) x.packet in (
      kept_of_all (in_order before),
      turns_run before rest,
      (whole, record { sources = ap (λ m. m.sources) e; waiting = ap (λ m. m.waiting) e; untold = ap (λ m. m.untold) e }),
    )

pub each_frame_is_kept_once : EachFrameIsKeptOnce
each_frame_is_kept_once xs numbered order steady =
    let e = sym (turns_read xs) in
    let once = each_frame_is_written_once (turns_of xs) (kept_of_all (in_order xs)) (turns_run xs numbered)
    (subst (λ l. AreInTime (arrivals_read l)) e order) (subst (λ l. AreSteady window (arrivals_read l)) e steady) in
    ap (λ l. l ++ packets_in (kept_of_all (in_order xs)).waiting) (sym (turns_write xs)) ∙ once ∙ ap firsts (turns_read xs)
