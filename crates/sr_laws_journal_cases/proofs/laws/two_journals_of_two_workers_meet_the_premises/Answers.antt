use Rattle.sr_laws_journal_cases.proofs.TwoWorkersLemmas.{segments_meet_the_premises}
use Rattle.sr_laws_journal_cases.proofs.laws.two_journals_of_two_workers_meet_the_premises.Goals as goal

pub returns : goal.returns
returns c = segments_meet_the_premises
