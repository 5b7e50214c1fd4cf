use Rattle.std.proofs.Common.{subst}
use Rattle.seq_index.proofs.Laws as chains
use Rattle.row_index.proofs.Laws as rows
use Rattle.hash_index.proofs.Laws as buckets
use Rattle.index_tests.specs.Kinds.{IsSoundIn}
use Rattle.index_tests.proofs.Ordered.{tree_unlinked}
use Rattle.index_tests.proofs.index.Index.unlink.Goals as goal

pub returns-in-Chain-clause-sound : goal.returns-in-Chain-clause-sound
returns-in-Chain-clause-sound g c = chains.IsSound_from _ _ _ c.unlink.ensures.chain.list

pub returns-in-Row-clause-sound : goal.returns-in-Row-clause-sound
returns-in-Row-clause-sound g c = rows.IsSound_from _ _ _ c.unlink-in-Row.ensures.row.list

pub returns-in-Ordered-clause-sound : goal.returns-in-Ordered-clause-sound
returns-in-Ordered-clause-sound g c =
    tree_unlinked c.args.store.now c.unlink-in-Ordered.new.store c.in-Ordered.tree c.unlink-in-Ordered.new.self c.args.n c.unlink-in-Ordered.ensures.tree.contents c.unlink-in-Ordered.ensures.tree.col (subst (IsSoundIn c.args.store.now) c.in-Ordered.is c.requires.sound).1 c.unlink-in-Ordered.ensures.tree.list c.unlink-in-Ordered.ensures.digests

pub returns-in-Ranked-clause-sound : goal.returns-in-Ranked-clause-sound
returns-in-Ranked-clause-sound g c =
    tree_unlinked c.args.store.now c.unlink-in-Ranked.new.store c.in-Ranked.tree c.unlink-in-Ranked.new.self c.args.n c.unlink-in-Ranked.ensures.tree.contents c.unlink-in-Ranked.ensures.tree.col (subst (IsSoundIn c.args.store.now) c.in-Ranked.is c.requires.sound).1 c.unlink-in-Ranked.ensures.tree.list c.unlink-in-Ranked.ensures.digests

pub returns-in-Hashed-clause-sound : goal.returns-in-Hashed-clause-sound
returns-in-Hashed-clause-sound g c = buckets.IsSound_from _ _ _ c.unlink-in-Hashed.ensures.list
