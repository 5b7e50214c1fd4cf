use Rattle.std.proofs.Common.{sym, ◌∙◌}
use Rattle.node_store.specs.ByNode.{column_of}
use Rattle.seq_index.specs.Spelled.{spelled}
use Rattle.seq_index.proofs.Walks.{last_is}
use Rattle.seq_index.proofs.SeqIndex.last.Goals as goal

pub returns : goal.returns
returns g c = c.requires.last ∙ sym (last_is (spelled (column_of c.args.store.now) c.args.self.now))
