use Rattle.std.proofs.Common.{◌<◌, subst, sym}
use Rattle.node_store.specs.Store.{width_of}
use Rattle.node_store.proofs.ByNode.{node_in_column, IsNodeOf_kept, width_kept}
use Rattle.index_tests.proofs.store.keep_last.Goals as goal

pub set_link-requires : goal.set_link-requires
set_link-requires c = node_in_column c.args.store.now c.args.last c.args.a c.requires.column c.requires.first

pub set_link-requires-2 : goal.set_link-requires-2
set_link-requires-2 c =
    let old = c.args.store.now in
    let new = c.set_link.new.self in
    let same = c.set_link.ensures.contents in
    node_in_column new c.args.last c.args.b (subst (λ width. c.args.last < width) (sym (width_kept old new same)) c.requires.column) (IsNodeOf_kept old new c.args.b same c.requires.second)
