-- What a shelf ends as, once a `&mut` to a record has ended.
use Rattle.std.specs.Borrow.{Lends, Fml, RattleType, MutBor}
use Rattle.node_store.specs.declared.Node.{Node}
use Rattle.node_store.specs.Store.{Store, with_record}
use Rattle.node_store.specs.contracts.shelf.Shelf.{the_row}

-- the record of n is the last value written through r
abbrev pub lends_record : (R N : RattleType) → MutBor (Store R.Denot) → Node → MutBor R.Denot → Fml
lends_record R N s n r = Lends (the_row R N) R s r (with_record s.now n)
