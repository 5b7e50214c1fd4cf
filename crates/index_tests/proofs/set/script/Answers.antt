use Rattle.std.proofs.Common.{◌∙◌}
use Rattle.index_tests.proofs.Arrived.{node_put}
use Rattle.index_tests.proofs.set.script.Goals as goal

pub finds-is_found-requires : goal.finds-is_found-requires
finds-is_found-requires c = record {
  specs = c.in_ok-n.ensures.put.same.specs ∙ c.in-Ok-new.ensures.specs ∙ c.in-Ok.ensures;
  sound = c.in_ok-n.ensures.sound;
  node = node_put c.in_ok-n.ensures.put.added;
}

pub changes-is_changed-requires : goal.changes-is_changed-requires
changes-is_changed-requires c = record {
  specs = c.in_ok-n.ensures.put.same.specs ∙ c.in-Ok-new.ensures.specs ∙ c.in-Ok.ensures;
  sound = c.in_ok-n.ensures.sound;
  node = node_put c.in_ok-n.ensures.put.added;
}
