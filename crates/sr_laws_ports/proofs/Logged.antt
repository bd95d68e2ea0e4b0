-- What the logs of workers say was taken out.
use Rattle.std.proofs.Common.{◌≡◌, ℕ, ℤ, Bool, true, false, List, [], ◌∷◌, ◌++◌, Option, Some, None, refl, sym, ap, ◌∙◌, subst, true≢false}
use Rattle.std.specs.Prelude.{if◌then◌else◌}
use Rattle.sr_frame.specs.declared.ports.Port.{Port}
use Rattle.sr_frame.specs.declared.ports.Port.TheVariants as port
use Rattle.sr_forwarding.specs.Parcels.{ParcelImage}
use Rattle.sr_node.specs.Answers.{IsAnswerOf, SaysTaken}
use Rattle.sr_node.specs.Images.{State}
use Rattle.sr_node.specs.Steps.{Step}
use Rattle.sr_node.specs.Outboxes.{box_at}
use Rattle.sr_node.specs.declared.event.Event.{Event}
use Rattle.sr_node.specs.declared.event.Event.TheVariants.{Arrive, Send, Tick, Take}
use Rattle.sr_node.specs.declared.event.Answer.{Answer}
use Rattle.sr_node.specs.declared.event.Answer.TheVariants.{Own, Passed, Sent, Ticked, Taken}
use Rattle.sr_laws_node.specs.NodeRuns.{Turn}
use Rattle.sr_laws_node.specs.Brought.{is_at, handed_by, event_takes}
use Rattle.sr_ports.specs.declared.entry.Entry.{Entry}
use Rattle.sr_ports.specs.declared.log.Log.{Log}
use Rattle.sr_ports.specs.declared.worker.Worker.{Worker}
use Rattle.sr_ports.specs.declared.worker.Worker.TheVariants as who
use Rattle.sr_ports.specs.Parts.{is_same_worker, part, logs_of, IsLogged}
use Rattle.sr_laws_ports.specs.Turns.{AreTurns, handed_out}
use Rattle.sr_laws_ports.specs.JournalLaws.{EnteredOnce}
use Rattle.sr_workers.specs.Work.{IsOwn, AreOwn, ServesPort, parcel_in, parcels_in}
use Rattle.sr_laws_ports.specs.LogLaws.{LoggedOnce, pairs_in_first, written_by}

-- the worker of a port
abbrev server_of : Port → Worker
server_of port.H = who.Host
server_of port.A = who.A
server_of port.B = who.B
server_of port.C = who.C

server : (w : Worker) (o : Port) → ServesPort w o → w ≡ server_of o
server who.A port.H is = absurd is
server who.A port.A is = refl
server who.A port.B is = absurd is
server who.A port.C is = absurd is
server who.B port.H is = absurd is
server who.B port.A is = absurd is
server who.B port.B is = refl
server who.B port.C is = absurd is
server who.C port.H is = absurd is
server who.C port.A is = absurd is
server who.C port.B is = absurd is
server who.C port.C is = refl
server who.Ager port.H is = absurd is
server who.Ager port.A is = absurd is
server who.Ager port.B is = absurd is
server who.Ager port.C is = absurd is
server who.Host port.H is = refl
server who.Host port.A is = absurd is
server who.Host port.B is = absurd is
server who.Host port.C is = absurd is

at_server : (o p : Port) → is_at o p ≡ is_same_worker (server_of o) (server_of p)
at_server port.H port.H = refl
at_server port.H port.A = refl
at_server port.H port.B = refl
at_server port.H port.C = refl
at_server port.A port.H = refl
at_server port.A port.A = refl
at_server port.A port.B = refl
at_server port.A port.C = refl
at_server port.B port.H = refl
at_server port.B port.A = refl
at_server port.B port.B = refl
at_server port.B port.C = refl
at_server port.C port.H = refl
at_server port.C port.A = refl
at_server port.C port.B = refl
at_server port.C port.C = refl

same_self : (w : Worker) → is_same_worker w w ≡ true
same_self who.A = refl
same_self who.B = refl
same_self who.C = refl
same_self who.Ager = refl
same_self who.Host = refl

is_at_server : (w v : Worker) (o p : Port) → ServesPort w o → ServesPort v p → is_at o p ≡ is_same_worker w v
is_at_server w v o p here there =
    at_server o p ∙ ap (λ x. is_same_worker x (server_of p)) (sym (server w o here)) ∙ ap (λ x. is_same_worker w x) (sym (server v p there))

-- what an answer hands out, by both of its names
same_parcel : (a : Answer) → handed_by a ≡ parcel_in a
same_parcel Own = refl
same_parcel (Passed outlets) = refl
same_parcel (Sent number) = refl
same_parcel (Ticked sources nodes proxies life) = refl
same_parcel (Taken None) = refl
same_parcel (Taken (Some p)) = refl

-- an event that takes nothing out hands nothing out, whoever entered it
abbrev if_so : Bool → List ParcelImage → List ParcelImage
if_so b ps = if b then ps else []

nothing_if : (b : Bool) (ps : List ParcelImage) → ps ≡ [] → [] ≡ if_so b ps
nothing_if true ps is = sym is
nothing_if false ps is = refl

not_taken : (a : Answer) → ((given : Option ParcelImage) → a ≡ Taken given → ⊥) → parcel_in a ≡ []
not_taken Own no_take = refl
not_taken (Passed outlets) no_take = refl
not_taken (Sent number) no_take = refl
not_taken (Ticked sources nodes proxies life) no_take = refl
not_taken (Taken given) no_take = absurd (no_take given refl)

takes_are : (w v : Worker) (o : Port) (e : Event) (a : Answer) → ServesPort w o → IsOwn v e → IsAnswerOf e a
    → event_takes o e a ≡ if_so (is_same_worker w v) (parcel_in a)
takes_are w v o (Arrive p parcel now) a here own answered =
    nothing_if (is_same_worker w v) (parcel_in a) (not_taken a (λ given is. answered (subst (λ x. SaysTaken x) (sym is) tt)))
takes_are w v o (Send frame now) a here own answered =
    nothing_if (is_same_worker w v) (parcel_in a) (not_taken a (λ given is. answered (subst (λ x. SaysTaken x) (sym is) tt)))
takes_are w v o (Tick now) a here own answered =
    nothing_if (is_same_worker w v) (parcel_in a) (not_taken a (λ given is. answered (subst (λ x. SaysTaken x) (sym is) tt)))
takes_are w v o (Take p) a here own answered =
    ap (λ b. if_so b (handed_by a)) (is_at_server w v o p here own) ∙ ap (λ ps. if_so (is_same_worker w v) ps) (same_parcel a)

-- one entry more
parcels_more : (b : Bool) (x : Event × Answer) (xs : List (Event × Answer))
    → if_so b (parcel_in x.1) ++ parcels_in xs ≡ parcels_in (if b then x ∷ xs else xs)
parcels_more true x xs = refl
parcels_more false x xs = refl

own_behind : (b : Bool) (v : Worker) (x : Event × Answer) (xs : List (Event × Answer)) → AreOwn v (if b then x ∷ xs else xs) → AreOwn v xs
own_behind true v x xs p = p.1
own_behind false v x xs p = p

own_first : (b : Bool) (v : Worker) (x : Event × Answer) (xs : List (Event × Answer)) → b ≡ true → AreOwn v (if b then x ∷ xs else xs) → IsOwn v x.0
own_first true v x xs is p = p.0
own_first false v x xs is p = absurd (true≢false (sym is))

-- what entries took out at a port is what the part of its worker has
abbrev AnswersBelong : Type 0
AnswersBelong = (s t : State) (e : Event) (a : Answer) → Step s e a t → IsAnswerOf e a

handed_is : AnswersBelong → (number : ℕ → ℤ) (before : List Turn) (s t : State) (es : List Entry) (turns : List Turn) (w : Worker) (o : Port)
    → AreTurns number before s es t turns → ((v : Worker) → AreOwn v (part v es)) → ServesPort w o → handed_out o es ≡ parcels_in (part w es)
handed_is belong number before s t [] turns w o are own here = refl
handed_is belong number before s t (e ∷ es) turns w o are own here =
    let first = takes_are w e.worker o e.event e.answer here
    (own_first (is_same_worker e.worker e.worker) e.worker (e.event, e.answer) (part e.worker es) (same_self e.worker) (own e.worker))
    (belong s are.0 e.event e.answer are.1.step) in
    let rest = handed_is belong number _ are.0 t es turns w o are.2
    (λ v. own_behind (is_same_worker v e.worker) v (e.event, e.answer) (part v es) (own v)) here in
    ap (λ l. l ++ handed_out o es) first ∙ ap (λ l. if_so (is_same_worker w e.worker) (parcel_in e.answer) ++ l) rest
    ∙ parcels_more (is_same_worker w e.worker) (e.event, e.answer) (part w es)

-- where logs settle, what a worker wrote down is its part
part_is : (ps : List (Event × Answer)) (ls : List Log) → IsLogged ps ls → ps ≡ pairs_in_first ls
part_is ps [] is = is
part_is ps (l ∷ []) is = is
part_is ps (l ∷ m ∷ ls) is = absurd is

pub logged_once : AnswersBelong → EnteredOnce → LoggedOnce
logged_once belong once origin number s t es ls turns w o begins are steady settled own here =
    let part_of = λ (v : Worker). part_is (part v es) (logs_of v ls) (settled v) in
    let owns = λ (v : Worker). subst (λ x. AreOwn v x) (sym (part_of v)) (own v) in
    let handed = handed_is belong number [] s t es turns w o are owns here in
    ap (λ l. parcels_in l ++ box_at t.core.out o) (sym (part_of w)) ∙ ap (λ l. l ++ box_at t.core.out o) (sym handed) ∙ once origin number s t es turns o begins are steady
