use Rattle.std.proofs.Common.{rules, ◌≡◌, ◌<◌, [], ◌∷◌, arith, false, length, length-append, is_some}
use Rattle.std.specs.Map.{lookup}
use Rattle.sr_frame.specs.Addresses.{mac_eq}
use Rattle.sr_sources.specs.Limits.{most_sources}
use Rattle.sr_sources.proofs.SourceLemmas.{sources_made, left_made, made_is, nothing_there}
use Rattle.sr_sources.proofs.table.Sources.make_entry.Goals as goal

pub returns-clause-sources : goal.returns-clause-sources
returns-clause-sources c =
    let lacks : is_some (lookup (mac_eq c.args.mac) c.args.self.now.sources.entries) ≡ false = search rules in
    let absent = nothing_there (lookup (mac_eq c.args.mac) c.args.self.now.sources.entries) lacks in
    let few : length c.args.self.now.sources.entries < most_sources = omega arith in
    λ xs all. rw c.in_ok-append.ensures.entries (sources_made xs c.args.self.now.sources.entries
    c.args.mac c.new.result all absent few c.new.ensures)

pub returns-clause-made : goal.returns-clause-made
returns-clause-made c =
    let lacks : is_some (lookup (mac_eq c.args.mac) c.args.self.now.sources.entries) ≡ false = search rules in
    let absent = nothing_there (lookup (mac_eq c.args.mac) c.args.self.now.sources.entries) lacks in
    rw c.in_ok-append.ensures.entries (made_is c.args.self.now.sources.entries c.args.mac c.new.result absent)

pub returns-clause-known : goal.returns-clause-known
returns-clause-known c =
    let lacks : is_some (lookup (mac_eq c.args.mac) c.args.self.now.sources.entries) ≡ false = search rules in
    let absent = nothing_there (lookup (mac_eq c.args.mac) c.args.self.now.sources.entries) lacks in
    let few : length c.args.self.now.sources.entries < most_sources = omega arith in
    λ xs all. rw c.in_ok-append.ensures.entries (left_made xs c.args.self.now.sources.entries c.args.mac c.new.result
    all absent few)

pub returns-clause-few : goal.returns-clause-few
returns-clause-few c =
    let few : length c.args.self.now.sources.entries < most_sources = omega arith in
    λ before. rw c.in_ok-append.ensures.entries
    (omega (arith, few, length-append c.args.self.now.sources.entries ((c.args.mac, c.new.result) ∷ [])))
