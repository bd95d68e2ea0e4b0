-- A sending that is taken, and a run whose lines are answered.
use Rattle.std.proofs.Common.{◌≡◌, ◌+◌, ◌^◌, ◌-◌, ◌++◌, ℕ, List, [], ◌∷◌, length, Option, Some, None, refl, sym, ap, ◌∙◌, subst, append-nil, inr}
use Rattle.std.specs.Prelude.{min, IfErr, IfSome, OnOk, OnErr, Ok, Err}
use Rattle.std.specs.Io.KnownBytes.{Appends}
use Rattle.std.specs.declared.result.Result.{Result}
use Rattle.sr_session.specs.Lines.{lines_of}
use Rattle.sr_session.specs.Runs.{IsAnswered, IsAnsweredTo}
use Rattle.sr_plant_script.specs.declared.command.Receiver.{Receiver}
use Rattle.sr_plant_script.specs.Sendings.{send_refusal, sent_octets}
use Rattle.sr_threaded_script.specs.declared.fault.ThreadedFault.{ThreadedFault}
use Rattle.sr_threaded_script.specs.Faults.{IsBehindLines, fault_line}
use Rattle.sr_threaded_script.specs.Lines.{Asks, Sendings, IsSendingTaken, IsDone, threaded_dialogue}
use Rattle.sr_workers.specs.declared.feed.Feed.{Ghosts}
use Rattle.sr_threaded_script.specs.declared.host.Host.{Host}
use Rattle.sr_threaded_script.specs.declared.setup.ThreadedSetup.{ThreadedSetup}
use Rattle.sr_threaded_script.specs.Networks.{IsReport}
use Rattle.sr_threaded_script.proofs.Numbered.{line_behind}
use Rattle.sr_threaded_script.specs.Runs.{no_sendings_of, WritesFront, RunsWhole, StopsBehind, RunsThreaded}

pub taken : (s t : Sendings) (number node : ℕ) (receiver : Receiver) (octets line text frame : List ℕ) (asked : Option (ℕ × Receiver))
    → Asks line asked octets → asked ≡ Some (node, receiver) → send_refusal s.nodes node receiver (length octets) ≡ None
    → frame ≡ sent_octets node receiver octets → t ≡ record s { sent = s.sent ++ (node, frame) ∷ []; last = number }
    → (x : List ℕ) × ((a : Option (ℕ × Receiver)) × (os : List ℕ) × Asks line a os × IsDone s number a os x t) × (text ≡ text ++ x)
taken s t number node receiver octets line text frame asked asks is none sent then_is =
    let last : t ≡ record s { sent = s.sent ++ (node, sent_octets node receiver octets) ∷ []; last = number } =
    then_is ∙ ap (λ (f : List ℕ). record s { sent = s.sent ++ (node, f) ∷ []; last = number }) sent in (
      [],
      (
        Some (node, receiver),
        octets,
        subst (λ a. Asks line a octets) is asks,
        subst (λ r. IsSendingTaken s number node receiver octets r [] t) (sym none) (refl, last),
      ),
      sym (append-nil text),
    )

reported : (feed : Ghosts Host) (setup : ThreadedSetup) (turns : ℕ) (told : Sendings) (left held mid now : Option (List ℕ))
    (text : List ℕ) → IsReport feed setup told.sent turns text
    → IfSome left (λ input. IsAnsweredTo threaded_dialogue (no_sendings_of setup) (lines_of input) held mid told) → Appends mid now text
    → IfSome left (λ input. RunsWhole feed setup turns input held now)
reported feed setup turns told None held mid now text report answered written = tt
reported feed setup turns told (Some input) held mid now text report answered written = (mid, told, text, answered, report, written)

behind : (setup : ThreadedSetup) (told : Sendings) (fault : ThreadedFault) (left held mid now : Option (List ℕ)) (text : List ℕ)
    → IfSome left (λ input. IsAnsweredTo threaded_dialogue (no_sendings_of setup) (lines_of input) held mid told)
    → WritesFront text mid now → IsBehindLines fault → fault_line fault ≡ min (told.last + 1) (2 ^ 64 - 1)
    → IfSome left (λ input. StopsBehind (no_sendings_of setup) fault input held now)
behind setup told fault None held mid now text answered front why line = tt
behind setup told fault (Some input) held mid now text answered front why line =
    (mid, text, (told, answered), front, why, line ∙ line_behind setup told (lines_of input) answered.0 answered.2)

-- a run whose lines are all answered
pub runs_behind : (feed : Ghosts Host) (setup : ThreadedSetup) (turns : ℕ) (told : Sendings)
    (result : Result (Unit {0}) ThreadedFault) (left rest held mid now : Option (List ℕ))
    → OnOk result ((text : List ℕ) × IsReport feed setup told.sent turns text × Appends mid now text)
    → OnErr result ((text : List ℕ) × WritesFront text mid now) → IfErr result IsBehindLines
    → IfErr result (λ fault. fault_line fault ≡ min (told.last + 1) (2 ^ 64 - 1))
    → IfSome left (λ input. IsAnsweredTo threaded_dialogue (no_sendings_of setup) (lines_of input) held mid told)
    → RunsThreaded feed setup turns left rest held now result
runs_behind feed setup turns told (Ok x) left rest held mid now done failed why line answered =
    reported feed setup turns told left held mid now done.0 done.1 answered done.2
runs_behind feed setup turns told (Err fault) left rest held mid now done failed why line answered =
    inr (behind setup told fault left held mid now failed.0 answered failed.1 why line)
