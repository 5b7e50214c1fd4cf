-- What blocks of one of several widths end as, once a `&mut` to a record has ended.
use Rattle.std.specs.Borrow.{Lends, Fml, RattleType, MutBor}
use Rattle.node_store.specs.declared.Node.{Node}
use Rattle.node_store.specs.declared.shelves.Shelves.{Shelves}
use Rattle.node_store.specs.Shelves.{with_record_in}
use Rattle.node_store.specs.contracts.shelves.Shelves.{the_row}

-- the record of n is the last value written through r
abbrev pub lends_record_in : (R : RattleType) → MutBor (Shelves R.Denot) → Node → MutBor R.Denot → Fml
lends_record_in R s n r = Lends (the_row R) R s r (with_record_in s.now n)
