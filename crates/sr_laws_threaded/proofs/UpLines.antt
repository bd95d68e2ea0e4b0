-- The `up` lines of a settled node, whose history is steady.
use Rattle.std.proofs.Common.{◌≡◌, ◌≢◌, ℕ, ◌<◌, ℤ, true, List, [], ◌∷◌, ◌++◌, length, get_or, inl, inr, None, Some, slice_get, refl, sym, ap, ◌∙◌, subst, arith, append-nil}
use Rattle.std.specs.Prelude.{if◌then◌else◌, ◌-◌}
use Rattle.std.specs.List.{filter_map}
use Rattle.std.specs.Option.{option_map_or}
use Rattle.std.proofs.lemmas.Option.{get_or_from_slice_get, slice_get_within}
use Rattle.sr_frame.specs.declared.ports.Port.TheVariants.{H}
use Rattle.sr_forwarding.specs.Framings.{FramingImage}
use Rattle.sr_forwarding.specs.Kinds.{carriage}
use Rattle.sr_forwarding.specs.PortFramings.{carried_as}
use Rattle.sr_lines.specs.declared.line.Line.{Line}
use Rattle.sr_lines.specs.declared.line.Line.TheVariants as line
use Rattle.sr_lines.specs.Handed.{given_of, losses_of}
use Rattle.sr_lines.specs.Names.{OfHost, line_name}
use Rattle.sr_node.specs.Images.{State}
use Rattle.sr_node.specs.NodeImages.{image_state}
use Rattle.sr_node.specs.Starts.{begun_as}
use Rattle.sr_laws_node.specs.NodeRuns.{Turn}
use Rattle.sr_laws_node.specs.Origins.{new}
use Rattle.sr_laws_node.specs.SteadyNodes.{IsSteady}
use Rattle.sr_ports.specs.declared.log.Log.{Log}
use Rattle.sr_ports.specs.declared.segment.Segment.{Segment}
use Rattle.sr_ports.specs.declared.settling.Settlement.{Settlement}
use Rattle.sr_ports.specs.declared.settling.Settlement.TheVariants as settlement
use Rattle.sr_ports.specs.declared.worker.Worker.{Worker}
use Rattle.sr_ports.specs.declared.worker.Worker.TheVariants as who
use Rattle.sr_ports.specs.Parts.{is_same_worker, logs_of}
use Rattle.sr_ports.specs.Settling.{IsSettlement}
use Rattle.sr_laws_ports.specs.Turns.{AreTurns}
use Rattle.sr_threaded.specs.declared.kit.LineEnd.{LineEnd}
use Rattle.sr_threaded.specs.declared.kit.NodeEnd.{NodeEnd}
use Rattle.sr_threaded.specs.Ran.{LineStart, LineRan, IsSettlementFrom, host_start}
use Rattle.sr_threaded_script.specs.declared.host.Host.{Host}
use Rattle.sr_threaded_script.specs.declared.setup.ThreadedSetup.{ThreadedSetup}
use Rattle.sr_threaded_script.specs.Beginnings.{Beginning, beginning_of, starting_node}
use Rattle.sr_threaded_script.specs.Hosts.{host_given}
use Rattle.sr_threaded_script.specs.Members.{member_kind}
use Rattle.sr_threaded_script.specs.Networks.{Kit}
use Rattle.sr_threaded_script.specs.Reports.{end_lines, given_to, given_on_line, node_lines, faults_of, AllWhole}
use Rattle.sr_threaded_script.specs.Sent.{own_frames}
use Rattle.sr_workers.specs.declared.fault.WorkerFault.TheVariants as fault
use Rattle.sr_workers.specs.declared.feed.Feed.{Ghosts}
use Rattle.sr_workers.specs.Work.{AreOwn, GivesEach, puts, losses_after, parcels_in, parcels_held}
use Rattle.sr_laws_ports.specs.LogLaws.{LoggedOnce, pairs_in_first, written_by}
use Rattle.sr_laws_threaded.specs.ReportLaws.{start_in, PrintsWhatWent, UpLinesWentOnce}
use Rattle.sr_laws_threaded.proofs.Lists.{Three, three, last_none}
use Rattle.sr_laws_threaded.proofs.Printed.{lines_at}
use Rattle.sr_laws_threaded.proofs.Ran.{RanFrom, ran_from, settles_itself, kit_at}

-- a host tells what it was given, and counts what it lost
pub record TellsOfHosts (feed : Ghosts Host) : Type 0 where
  pub tells : (h : Host) → feed.tells h ≡ true
  pub given : (h : Host) → feed.given h ≡ host_given h
  pub losses : (h : Host) → feed.losses h ≡ h.lost

-- the line of a host's name is a host's
at_host : {N : Type 0} (name : Host → N) (l : Line Host) (n : N) → line_name name l ≡ OfHost n → (h : Host) × (l ≡ line.Host h)
at_host name (line.Host h) n is = (h, refl)
at_host name (line.Ring c) n is = absurd cc
at_host name (line.Lan l) n is = absurd cc

-- whatever holds of three logs by the names of their workers
abbrev named : Worker → Log → Log → Log → Worker → Worker → Worker → List Log
named w a b c x y z =
    if is_same_worker w x then a ∷ (if is_same_worker w y then b ∷ (if is_same_worker w z then c ∷ [] else []) else if is_same_worker w z then c ∷ [] else [])
    else if is_same_worker w y then b ∷ (if is_same_worker w z then c ∷ [] else []) else if is_same_worker w z then c ∷ [] else []

record AreNamed (a b c : Log) : Type 0 where
  pub at_a : a.worker ≡ who.A
  pub at_b : b.worker ≡ who.B
  pub at_host : c.worker ≡ who.Host

of_three : (P : List Log → Type 0) (w : Worker) (a b c : Log) → AreNamed a b c → P (named w a b c who.A who.B who.Host)
    → P (logs_of w (a ∷ b ∷ c ∷ []))
of_three P w a b c are p =
    subst (λ x. P (named w a b c x b.worker c.worker)) (sym are.at_a)
    (subst (λ y. P (named w a b c who.A y c.worker)) (sym are.at_b)
    (subst (λ z. P (named w a b c who.A who.B z)) (sym are.at_host) p))

-- each worker's log has events of its own alone
record AreOwnLogs (a b c : Log) : Type 0 where
  pub at_a : AreOwn who.A a.pairs.items
  pub at_b : AreOwn who.B b.pairs.items
  pub at_host : AreOwn who.Host c.pairs.items

own : (w : Worker) (a b c : Log) → AreNamed a b c → AreOwnLogs a b c → AreOwn w (written_by w (a ∷ b ∷ c ∷ []))
own who.A a b c are owns = of_three (λ ls. AreOwn who.A (pairs_in_first ls)) who.A a b c are owns.at_a
own who.B a b c are owns = of_three (λ ls. AreOwn who.B (pairs_in_first ls)) who.B a b c are owns.at_b
own who.C a b c are owns = of_three (λ ls. AreOwn who.C (pairs_in_first ls)) who.C a b c are tt
own who.Ager a b c are owns = of_three (λ ls. AreOwn who.Ager (pairs_in_first ls)) who.Ager a b c are tt
own who.Host a b c are owns = of_three (λ ls. AreOwn who.Host (pairs_in_first ls)) who.Host a b c are owns.at_host

of_host : (a b c : Log) → AreNamed a b c → written_by who.Host (a ∷ b ∷ c ∷ []) ≡ c.pairs.items
of_host a b c are = of_three (λ ls. pairs_in_first ls ≡ c.pairs.items) who.Host a b c are refl

-- a worker's log has its own events alone
own_log : (feed : Ghosts Host) (s : LineStart feed.Name) (l : Log) (x : LineEnd Host) → LineRan feed s l x → AreOwn s.begun.worker l.pairs.items
own_log feed s l x ran = subst (λ ps. AreOwn s.begun.worker ps) (sym ran.worked.did.log) ran.worked.did.own

-- no worker of a node among these ended early
whole_at : {feed : Ghosts Host} (ends : List (NodeEnd Host feed)) (i : ℕ) (e : NodeEnd Host feed)
    → AllWhole ends → slice_get ends i ≡ Some e → faults_of e ≡ []
whole_at ends i e whole at = subst (λ x. faults_of x ≡ []) (get_or_from_slice_get ends i e e at) (whole i e (slice_get_within ends i e at))

-- what became of what the host's worker took out
record Gave (feed : Ghosts Host) (f : FramingImage) (c : Log) (x : LineEnd Host) : Type 0 where
  pub host : Host
  pub at_host : x.line ≡ line.Host host
  pub gave : List (_ × List ℕ)
  pub sends : GivesEach f (parcels_in c.pairs.items) gave
  pub given : host_given host ≡ puts gave
  pub short : host.lost ≡ losses_after 0 gave

none_held : (x : LineEnd Host) → x.fault ≡ None → (x.fault ≢ Some fault.FeedFault → x.held ≡ None) → x.held ≡ None
none_held x whole only = only (λ is. absurd cc)

gave_to : (feed : Ghosts Host) → TellsOfHosts feed → (f : FramingImage) (rounds : ℕ) (new_host : Host) (c : Log) (x : LineEnd Host)
    → host_given new_host ≡ [] → new_host.lost ≡ 0 → LineRan feed (host_start feed f rounds new_host) c x → x.fault ≡ None → Gave feed f c x
gave_to feed tells f rounds new_host c x empty none ran whole =
    let did = ran.worked.did in
    let there = at_host feed.name x.line (feed.name new_host) ran.line in
    let held = none_held x whole ran.worked.only in
    let taken : parcels_in c.pairs.items ≡ did.sent =
    ap parcels_in did.log ∙ did.taken ∙ ap (λ h. did.sent ++ parcels_held h) held ∙ append-nil did.sent in
    record {
      host = there.0;
      at_host = there.1;
      gave = did.gave;
      sends = subst (λ ps. GivesEach f ps did.gave) (sym taken) did.sends;
      given = sym (tells.given there.0) ∙ ap (given_of feed.given) (sym there.1) ∙ did.given (tells.tells new_host)
          ∙ ap (λ g. g ++ puts did.gave) (tells.given new_host ∙ empty);
      short = sym (tells.losses there.0) ∙ ap (losses_of feed.losses) (sym there.1) ∙ did.short
          ∙ ap (λ n. losses_after n did.gave) (tells.losses new_host ∙ none);
    }

-- what the host was given is told by the last of the three lines
abbrev given_in : List (LineEnd Host) → List (List ℕ)
given_in xs = option_map_or (λ (x : LineEnd Host). given_on_line x.line) (slice_get xs (length xs - 1)) []

given_is : {feed : Ghosts Host} (e : NodeEnd Host feed) (a b c : LineEnd Host) (h : Host) → e.ends.items ≡ a ∷ b ∷ c ∷ [] → c.line ≡ line.Host h
    → given_to e ≡ host_given h
given_is e a b c h are at = ap given_in are ∙ ap given_on_line at

-- a history that settles opens with its node, and is settled by its logs
from_own : (node : State) (g : Segment) (ls : List Log) (own : Settlement) → IsSettlementFrom node g ls own → own ≡ settlement.Settled
    → (image_state g.opening ≡ node) × IsSettlement g.entries.items ls settlement.Settled
from_own node g ls own (inl is) settled = (is.0, subst (λ s. IsSettlement g.entries.items ls s) settled is.1)
from_own node g ls own (inr is) settled = (let none : settlement.Torn 0 ≡ settlement.Settled = sym is.1 ∙ settled in absurd cc)

-- the three workers of a node that ran, with their logs
record Trio (feed : Ghosts Host) (rounds : ℕ) (kit : Kit) (e : NodeEnd Host feed) : Type 0 where
  logs : Three e.logs.items
  ends : Three e.ends.items
  are : AreNamed logs.first logs.second logs.third
  owns : AreOwnLogs logs.first logs.second logs.third
  host : LineRan feed (host_start feed (carried_as kit.host) rounds kit.feed) logs.third ends.third

trio : (feed : Ghosts Host) (rounds : ℕ) (kit : Kit) (e : NodeEnd Host feed) → RanFrom feed rounds kit e → Trio feed rounds kit e
trio feed rounds kit e ran =
    let logs = three e.logs.items (sym e.logs.ok.0 ∙ ran.ran.logs) in
    let ends = three e.ends.items (sym e.ends.ok.0 ∙ ran.ran.ends) in
    let starts = ran.first ∷ ran.second ∷ host_start feed (carried_as kit.host) rounds kit.feed ∷ [] in
    let did : (i : ℕ) → i < 3 → LineRan feed (get_or starts i ran.first)
    (get_or (logs.first ∷ logs.second ∷ logs.third ∷ []) i logs.first) (get_or (ends.first ∷ ends.second ∷ ends.third ∷ []) i ends.first) =
    λ i below. subst (λ ls. LineRan feed (get_or starts i ran.first) (get_or ls i logs.first) (get_or (ends.first ∷ ends.second ∷ ends.third ∷ []) i ends.first)) logs.are
    (subst (λ xs. LineRan feed (get_or starts i ran.first) (get_or e.logs.items i logs.first) (get_or xs i ends.first)) ends.are
    (ran.ran.each i ran.first logs.first ends.first below)) in
    let at_a : LineRan feed ran.first logs.first ends.first = did 0 (omega arith) in
    let at_b : LineRan feed ran.second logs.second ends.second = did 1 (omega arith) in
    let host : LineRan feed (host_start feed (carried_as kit.host) rounds kit.feed) logs.third ends.third = did 2 (omega arith) in
    record {
      logs = logs;
      ends = ends;
      are = record { at_a = at_a.own ∙ ran.at_a; at_b = at_b.own ∙ ran.at_b; at_host = host.own };
      owns = record {
        at_a = subst (λ w. AreOwn w logs.first.pairs.items) ran.at_a (own_log feed ran.first logs.first ends.first at_a);
        at_b = subst (λ w. AreOwn w logs.second.pairs.items) ran.at_b (own_log feed ran.second logs.second ends.second at_b);
        at_host = own_log feed (host_start feed (carried_as kit.host) rounds kit.feed) logs.third ends.third host;
      };
      host = host;
    }

-- what is printed of one node
prints : (feed : Ghosts Host) → TellsOfHosts feed → LoggedOnce → (setup : ThreadedSetup) (sent : List (ℕ × List ℕ)) (rounds : ℕ) (node : ℕ)
    (kit : Kit) (e : NodeEnd Host feed) (number : ℕ → ℤ) (turns : List Turn)
    → beginning_of kit ≡ starting_node setup node (own_frames node sent) → RanFrom feed rounds kit e → faults_of e ≡ []
    → e.settlement ≡ settlement.Settled
    → AreTurns number [] (image_state e.segment.opening) e.segment.entries.items (image_state e.segment.closing) turns
    → IsSteady (start_in setup node) turns
    → PrintsWhatWent feed (carriage (member_kind setup.net) H) node e turns (end_lines node e)
prints feed tells once setup sent rounds node kit e number turns begins ran whole settled are steady =
    let t = trio feed rounds kit e ran in
    let f = carriage (member_kind setup.net) H in
    let history = from_own _ e.segment e.logs.items ran.own ran.ran.settles (settles_itself ran.own ran.judgement (sym ran.settlement ∙ settled)) in
    let opens : image_state e.segment.opening ≡ begun_as (start_in setup node) = history.0 ∙ ap (λ (b : Beginning). b.node) begins in
    let host : LineRan feed (host_start feed f rounds kit.feed) t.logs.third t.ends.third =
    subst (λ x. LineRan feed (host_start feed x rounds kit.feed) t.logs.third t.ends.third) (ap (λ (b : Beginning). b.at_host) begins) t.host in
    let faultless : t.ends.third.fault ≡ None =
    last_none (λ (x : LineEnd Host). x.fault) t.ends.first t.ends.second t.ends.third
    (subst (λ xs. filter_map (λ (x : LineEnd Host). x.fault) xs ≡ []) t.ends.are whole) in
    let gave = gave_to feed tells f rounds kit.feed t.logs.third t.ends.third (ap (λ (b : Beginning). b.host.given) begins)
    (ap (λ (b : Beginning). b.host.lost) begins) host faultless in
    let written : written_by who.Host e.logs.items ≡ t.logs.third.pairs.items =
    ap (λ ls. written_by who.Host ls) t.logs.are ∙ of_host t.logs.first t.logs.second t.logs.third t.are in
    let owns : (v : Worker) → AreOwn v (written_by v e.logs.items) =
    λ v. subst (λ ls. AreOwn v (written_by v ls)) (sym t.logs.are) (own v t.logs.first t.logs.second t.logs.third t.are t.owns) in
    record {
      host = gave.host;
      end = t.ends.third;
      at = ap (λ xs. slice_get xs 2) t.ends.are;
      at_host = gave.at_host;
      lines = ap (λ g. node_lines node g e.settlement e.lost) (given_is e t.ends.first t.ends.second t.ends.third gave.host t.ends.are gave.at_host)
          ∙ ap (λ s. node_lines node (host_given gave.host) s e.lost) settled;
      gave = gave.gave;
      sends = subst (λ ps. GivesEach f (parcels_in ps) gave.gave) (sym written) gave.sends;
      given = gave.given;
      short = gave.short;
      once = once (new (start_in setup node)) number (image_state e.segment.opening) (image_state e.segment.closing) e.segment.entries.items
          e.logs.items turns who.Host H opens are steady history.1 owns tt;
    }

pub up_lines_went_once : (feed : Ghosts Host) → TellsOfHosts feed → LoggedOnce → UpLinesWentOnce feed
up_lines_went_once feed tells once setup sent rounds text report node e number turns there settled are steady =
    let below = slice_get_within report.ends node e there in
    let begun = kit_at setup sent report.kits setup.nodes node report.new (omega (arith, below, report.count)) in
    let ran = ran_from feed setup.net rounds report.kits report.ends node begun.kit e report.ran begun.at there in (
      end_lines node e,
      report.printed ∙ lines_at 0 node report.ends node e there (omega arith),
      prints feed tells once setup sent rounds node begun.kit e number turns begun.begins ran (whole_at report.ends node e report.whole there)
          settled are steady,
    )
