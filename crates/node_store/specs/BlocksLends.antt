-- What the blocks end as, once a `&mut` to a value has ended.
use Rattle.std.specs.Borrow.{Lends, Fml, RattleType, MutBor}
use Rattle.std.specs.declared.alloc.Allocator.{Ghosts}
use denote.RawPtr.{Ptr, block_of as number_at}
use Rattle.node_store.specs.Blocks.{with_block}
use Rattle.node_store.specs.declared.blocks.Blocks.{Blocks}
use Rattle.node_store.specs.contracts.blocks.Blocks.{the_row}

-- the same blocks with another value in that of a place
abbrev pub with_value : {T A : Type 0} → Blocks T A → Ptr → T → Blocks T A
with_value b p x = record b { held = with_block (number_at p) x b.held }

abbrev pub lends_block : (T A : RattleType) (alloc : Ghosts A.Denot) → MutBor (Blocks T.Denot A.Denot) → Ptr → MutBor T.Denot → Fml
lends_block T A alloc b p r = Lends (the_row T A alloc) T b r (with_value b.now p)
