-- Blocks may cross threads as their values and their allocator may.
use Rattle.std.specs.Prelude.{ℕ, List, [], ◌∷◌}
use base.Shift.{Keyless}
use mir.Raw.{raw}
use denote.RattleType.{RattleType}
use denote.Memory.{lone}
use denote.Struct.Struct.{exits_of}
use denote.Struct.Owning.{shape, fields, to}
use denote.Param.Send.{IsSend, IsSync, AllSend, Common, Frees, owning_send, struct_send, struct_sync, sendable}
use Rattle.core.specs.declared.alloc.Allocator.{Ghosts}
use Rattle.std_alloc.proofs.SendSync.{lies, quiet, seen}
use Rattle.node_store.specs.Blocks.{Lying}
use Rattle.node_store.specs.Ownership.{blocks_own, blocks_lent}
use Rattle.node_store.specs.contracts.blocks.Blocks.{the_row, the_type}

module _ (T A : RattleType) (g : Ghosts A.Denot) where
  owned : IsSend T → Frees g g.dealloc_token → (es : List (Lying T.Denot A.Denot)) → Keyless (blocks_own T g.dealloc_token es)
  owned s f [] = tt
  owned s f (e ∷ es) = ((lies T s e.at e.value, f.frees e.alloc (raw (lone T.mir)) e.at), owned s f es)

  lent : IsSync T → (es : List (Lying T.Denot A.Denot)) → Common (blocks_lent T es)
  lent y [] κ = tt
  lent y (e ∷ es) κ = (seen T y e.at e.value κ, lent y es κ)

  pub Blocks-send : IsSend T → Frees g g.dealloc_token → IsSend (the_row T A g)
  Blocks-send s f =
      let O = the_type T A g in
      let all : AllSend (fields O) = (search sendable, tt) in
      owning_send O all (λ d. owned s f d.held) (λ k. quiet (to O) (exits_of k (fields O)) ((struct_send (shape O) all).leaving k))

  pub Blocks-sync : IsSync T → IsSync (the_row T A g)
  Blocks-sync y =
      let O = the_type T A g in
      record { shared = λ d b o κ. ((struct_sync (shape O) (search sendable, tt)).shared (to O d) b o κ, lent y d.held κ) }
