use Rattle.table_alter.proofs.scaffold.scaffold.Goals as goal

pub with_only_index-requires : goal.with_only_index-requires
with_only_index-requires c = c.in_ok-sequence.ensures.new c.args.after.now.columns
