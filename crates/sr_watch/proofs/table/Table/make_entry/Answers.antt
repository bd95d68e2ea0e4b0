use Rattle.std.proofs.Common.{rules, ◌≡◌, ◌<◌, [], ◌∷◌, arith, true, false, length, length-append, is_some}
use Rattle.std.specs.Map.{lookup}
use Rattle.sr_frame.specs.Addresses.{mac_eq}
use Rattle.sr_audit.specs.Limits.{most_audited}
use Rattle.sr_watch.proofs.TableLemmas.{watches_made, made_is, known_tabled, made_tabled, nothing_there}
use Rattle.sr_watch.proofs.table.Table.make_entry.Goals as goal

pub returns-clause-watches : goal.returns-clause-watches
returns-clause-watches c =
    let lacks : is_some (lookup (mac_eq c.args.src) c.args.self.now.sources.entries) ≡ false = search rules in
    let absent = nothing_there (lookup (mac_eq c.args.src) c.args.self.now.sources.entries) lacks in
    λ xs lines watches. rw c.in_ok-append.ensures.entries (watches_made xs lines c.args.self.now.sources.entries
    c.args.src c.in_ok-source.source absent c.in_ok-source.ensures watches)

pub returns-clause-made : goal.returns-clause-made
returns-clause-made c =
    let lacks : is_some (lookup (mac_eq c.args.src) c.args.self.now.sources.entries) ≡ false = search rules in
    let absent = nothing_there (lookup (mac_eq c.args.src) c.args.self.now.sources.entries) lacks in
    rw c.in_ok-append.ensures.entries (made_is c.args.self.now.sources.entries c.args.src c.in_ok-source.source absent)

pub returns-clause-few : goal.returns-clause-few
returns-clause-few c =
    let few : length c.args.self.now.sources.entries < most_audited = omega arith in
    λ before. rw c.in_ok-append.ensures.entries
    (omega (arith, few, length-append c.args.self.now.sources.entries ((c.args.src, c.in_ok-source.source) ∷ [])))

pub returns-then-is_some-clause-tabled : goal.returns-then-is_some-clause-tabled
returns-then-is_some-clause-tabled c =
    let there : is_some (lookup (mac_eq c.args.src) c.args.self.now.sources.entries) ≡ true = search rules in
    known_tabled c.args.src c.args.self.now.sources.entries there

pub returns-clause-tabled : goal.returns-clause-tabled
returns-clause-tabled c =
    let lacks : is_some (lookup (mac_eq c.args.src) c.args.self.now.sources.entries) ≡ false = search rules in
    rw c.in_ok-append.ensures.entries (made_tabled c.args.src c.in_ok-source.source c.args.self.now.sources.entries lacks)
