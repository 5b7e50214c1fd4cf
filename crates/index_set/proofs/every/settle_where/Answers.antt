use Rattle.any_index.specs.Keyed.{marks_of}
use Rattle.std.proofs.Common.{sym}
use Rattle.any_index.proofs.Staying.{settled_keyed}
use Rattle.index_set.proofs.every.settle_where.Goals as goal

pub returns-else-changed-clause-list : goal.returns-else-changed-clause-list
returns-else-changed-clause-list g c =
    sym (settled_keyed (g.E.Extract.has_key c.args.keys.now) (g.E.Extract.order_of c.args.keys.now) (g.met.E.Extract.order_total c.args.keys.now) (marks_of g.E.Extract c.args.keys.now) c.args.store.now c.args.n c.args.index.now
    c.requires.filed.key c.requires.filed.node.sound c.requires.filed.node.held (c.requires.kept c.if-changed.false))
