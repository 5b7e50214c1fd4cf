-- A chain whose nodes are parted when one is added: those that stay in it, and those that go to the new one.
use Rattle.std.specs.Prelude.{◌≡◌, ℕ, ◌≤◌, List, None}
use Rattle.node_store.specs.declared.Node.{Node}
use Rattle.node_store.specs.Column.{Column}
use Rattle.node_store.specs.Nodes.{Lacks, IsDistinct, first_or}
use Rattle.seq_index.specs.Links.{Runs}
use Rattle.hash_index.specs.declared.HashIndex.{HashIndex}
use Rattle.hash_index.specs.declared.head.Head.{Head}
use Rattle.hash_index.specs.Heads.{first_in, IsRight}
use Rattle.hash_index.specs.Chains.{untagged, KeepsTags}
use Rattle.hash_index.specs.Rising.{IsRising}
use Rattle.hash_index.specs.Split.{left, taken}
use Rattle.hash_index.specs.Walks.{rest_of, Ends}

-- the chain of the index that begins with this head, as it stands
pub record Stands (ages : Node → ℕ) (cs : ℕ → Column) (i : HashIndex) (head : Head) : Type 0 where
  pub ends : Ends cs i (first_in head)
  pub distinct : IsDistinct (rest_of cs i (first_in head))
  pub runs : Runs (untagged (cs i.col)) None (rest_of cs i (first_in head)) None
  pub rising : IsRising ages (cs i.col) (rest_of cs i (first_in head))
  pub right : IsRight (cs i.col) head

-- these nodes are a chain that begins with this head, where some of a longer one are left
pub record IsPart (ages : Node → ℕ) (c : Column) (longer head : Head) (xs : List Node) : Type 0 where
  pub first : first_in head ≡ first_or xs None
  pub runs : Runs (untagged c) None xs None
  pub rising : IsRising ages c xs
  pub right : IsRight c head
  pub oldest : 192 ≤ head.mark → 192 ≤ longer.mark
  pub same : 192 ≤ head.mark → first_in head ≡ first_in longer

-- a chain becomes two, and no other node of the column changes
pub record IsParted (ages : Node → ℕ) (cs ds : ℕ → Column) (i : HashIndex) (head stay moved : Head) : Type 0 where
  pub stays : IsPart ages (ds i.col) head stay (left (cs i.col) i (rest_of cs i (first_in head)))
  pub moves : IsPart ages (ds i.col) head moved (taken (cs i.col) i (rest_of cs i (first_in head)))
  pub tags : KeepsTags (cs i.col) (ds i.col)
  pub kept : (m : Node) → Lacks (rest_of cs i (first_in head)) m → ds i.col m ≡ cs i.col m
