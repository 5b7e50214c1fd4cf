use Rattle.shared_tables.proofs.law.journals_run_again.Goals as goal
use Rattle.shared_tables.proofs.Again.{runs_again}
use Rattle.shared_tables.proofs.Known.{gathered_runs_again}

pub returns-clause-legal : goal.returns-clause-legal
returns-clause-legal c = λ schema workers journals valid are readable. runs_again schema workers journals valid are readable

pub returns-clause-gathered : goal.returns-clause-gathered
returns-clause-gathered c = λ schema workers journals passes valid gathered known. gathered_runs_again schema workers journals passes valid gathered known
