-- What is printed of a network that ran.
use Rattle.std.proofs.Common.{◌≡◌, ℕ, List, length, map, ap, ◌∙◌, subst}
use Rattle.std.specs.Prelude.{OnOk, Ok, Err}
use Rattle.std.specs.declared.result.Result.{Result}
use Rattle.sr_threaded.specs.declared.kit.NodeEnd.{NodeEnd}
use Rattle.sr_workers.specs.declared.feed.Feed.{Ghosts}
use Rattle.sr_threaded_script.specs.declared.fault.RunFault.{RunFault}
use Rattle.sr_threaded_script.specs.declared.host.Host.{Host}
use Rattle.sr_threaded_script.specs.declared.setup.ThreadedSetup.{ThreadedSetup}
use Rattle.sr_threaded_script.specs.Beginnings.{beginning_of, starting_nodes}
use Rattle.sr_threaded_script.specs.Networks.{IsReport, Kit, RanIn}
use Rattle.sr_threaded_script.specs.Reports.{AllWhole, report_of}

-- the parts of a report; xs are the ends as a slice
pub reported : (feed : Ghosts Host) (setup : ThreadedSetup) (sent : List (ℕ × List ℕ)) (turns n : ℕ) (text : List ℕ) (kits : List Kit)
    (ends xs : List (NodeEnd Host feed)) (r : Result (Unit {0}) RunFault)
    → map beginning_of kits ≡ starting_nodes setup sent setup.nodes → RanIn feed setup.net turns kits ends
    → length xs ≡ n → n ≡ setup.nodes → xs ≡ ends
    → OnOk r (text ≡ report_of xs) → OnOk r (AllWhole xs)
    → OnOk r (IsReport feed setup sent turns text)
reported feed setup sent turns n text kits ends xs (Ok done) new ran count nodes xs_are printed whole = record {
  kits = kits;
  ends = ends;
  new = new;
  ran = ran;
  count = subst (λ es. length es ≡ setup.nodes) xs_are (count ∙ nodes);
  whole = subst (λ es. AllWhole es) xs_are whole;
  printed = printed ∙ ap (λ es. report_of es) xs_are;
}
reported feed setup sent turns n text kits ends xs (Err fault) new ran count nodes xs_are printed whole = tt
