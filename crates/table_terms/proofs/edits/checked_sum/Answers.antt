use Rattle.std.proofs.Common.{rules}
use Rattle.table_terms.proofs.Sums.{sum_is}
use Rattle.table_terms.proofs.edits.checked_sum.Goals as goal

pub returns : goal.returns
returns c = search (rules, sum_is)
