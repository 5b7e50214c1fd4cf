use denote.RattleType.{RattleType}
use denote.Param.Send.{IsSend, Frees}
use Rattle.core.specs.declared.alloc.Allocator.{Ghosts}
use Rattle.node_store.proofs.Crossing.{Blocks-send}
use Rattle.node_store.specs.contracts.blocks.Blocks.{the_row}

pub send : (T A : RattleType) (g : Ghosts A.Denot) → IsSend T → IsSend A → Frees g g.dealloc_token → IsSend (the_row T A g)
send T A g s a = Blocks-send T A g s
