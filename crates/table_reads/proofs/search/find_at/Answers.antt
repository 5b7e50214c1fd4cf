use Rattle.std.proofs.Common.{rules}
use Rattle.table_reads.specs.Searches.{search_probe}
use Rattle.table_reads.proofs.search.find_at.Goals as goal

pub returns-in_ok-find_rank-in-FindRank : goal.returns-in_ok-find_rank-in-FindRank
unfolding search_probe
returns-in_ok-find_rank-in-FindRank c = rw c.in-FindRank.is (search rules)
