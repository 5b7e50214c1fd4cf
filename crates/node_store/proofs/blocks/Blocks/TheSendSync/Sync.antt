use denote.RattleType.{RattleType}
use denote.Param.Send.{IsSync}
use Rattle.core.specs.declared.alloc.Allocator.{Ghosts}
use Rattle.node_store.proofs.Crossing.{Blocks-sync}
use Rattle.node_store.specs.contracts.blocks.Blocks.{the_row}

pub sync : (T A : RattleType) (g : Ghosts A.Denot) → IsSync T → IsSync (the_row T A g)
sync T A g = Blocks-sync T A g
