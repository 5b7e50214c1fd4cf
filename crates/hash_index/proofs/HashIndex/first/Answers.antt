use Rattle.std.proofs.Common.{◌∙◌, sym}
use Rattle.node_store.specs.ByNode.{column_of}
use Rattle.seq_index.proofs.Walks.{first_at}
use Rattle.hash_index.specs.Spelled.{spelled}
use Rattle.hash_index.proofs.Spelling.{first_spelled}
use Rattle.hash_index.proofs.HashIndex.first.Goals as goal

pub returns : goal.returns
returns g c =
    c.first_from.ensures ∙ (first_spelled (column_of c.args.store.now) c.args.self.now c.requires ∙ sym (first_at (spelled (column_of c.args.store.now) c.args.self.now)))
