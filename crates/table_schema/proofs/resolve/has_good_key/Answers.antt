use Rattle.table_schema.proofs.resolve.has_good_key.Goals as goal

pub returns : goal.returns
returns c = c.is_good_key.ensures c.args.index.now.name
