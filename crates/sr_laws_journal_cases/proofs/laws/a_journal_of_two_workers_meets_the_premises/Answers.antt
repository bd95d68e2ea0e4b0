use Rattle.sr_laws_journal_cases.proofs.TwoWorkersLemmas.{journals_meet_the_premises}
use Rattle.sr_laws_journal_cases.proofs.laws.a_journal_of_two_workers_meets_the_premises.Goals as goal

pub returns : goal.returns
returns c = journals_meet_the_premises
