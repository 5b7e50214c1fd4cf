use Rattle.std.proofs.Common.{rules}
use Rattle.container_bench.proofs.book.Book.walk.Goals as goal

pub into_iter-record-iterator-requires-lives-I-Iterator : goal.into_iter-record-iterator-requires-lives-I-Iterator
into_iter-record-iterator-requires-lives-I-Iterator g c κs within = search (rules, c.type_bounds.static-E)
