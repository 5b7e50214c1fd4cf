use Rattle.std.proofs.Common.{◌∙◌}
use Rattle.index_set.specs.Set.{store_of}
use Rattle.index_set.proofs.Held.{has_record}
use Rattle.index_tests.proofs.Arrived.{node_rewritten}
use Rattle.index_tests.proofs.set.rewrite_and_undo.Goals as goal

pub returns : goal.returns
returns c =
    let had = has_record (store_of c.args.set.now) c.args.n c.requires.node in
    let after = c.modify_or_undo.ensures.modified had.0 had.1 in
    record {
      specs = after.same.specs ∙ c.requires.specs;
      sound = c.modify_or_undo.ensures.kept.filed.sound;
      node = node_rewritten (store_of c.args.set.now) (store_of c.modify_or_undo.new.self) c.args.n _ after.contents c.requires.node;
    }
