-- What a change leaves of an index by itself.
use Rattle.std.proofs.Common.{ap, sym, ◌∙◌, arith}
use Rattle.container_model.specs.State.{has_key_kind}
use Rattle.node_store.specs.declared.Node.{Node}
use Rattle.node_store.specs.Column.{IsNode}
use Rattle.node_store.specs.Store.{Store, IsStore}
use Rattle.node_store.specs.ByNode.{column_of, AddsNode}
use Rattle.node_store.proofs.ByNode.{width_kept, node_in_column, IsNodeOf_added}
use Rattle.key_extract.specs.declared.extract.Extract.{Ghosts}
use Rattle.any_index.specs.declared.index.AnyIndex.{AnyIndex}
use Rattle.any_index.specs.Spelled.{col_of}
use Rattle.any_index.specs.Stored.{IsIn, IsFiled, KeepsRest}
use Rattle.any_index.specs.Keyed.{marks_of, IsKeyed}
use Rattle.any_index.proofs.Laws.{HasItsKey_from, IsSound_added, IsKeyed_added}
use Rattle.index_tests.specs.Lone.{IsLone}

module _ {E R P : Type 0} (X : Ghosts E R P) (keys : E) (s t : Store R) (i : AnyIndex) (h : IsLone X s i keys) where
  pub lone_filed : IsFiled X i s keys
  lone_filed = record { sound = h.sound; key = HasItsKey_from (X.has_key keys) i h.key; keyed = h.keyed }

  -- it changes in its own column
  pub lone_steps : (j : AnyIndex) → IsIn j t → KeepsRest i j s t → IsKeyed (X.order_of keys) (marks_of X keys) t j → IsLone X t j keys
  lone_steps j sound rest keyed = record {
    sound = sound;
    key = ap (X.has_key keys) rest.index ∙ (h.key ∙ sym (ap has_key_kind rest.kind));
    keyed = keyed;
    column = omega (arith, h.column, rest.col, width_kept s t rest.contents);
  }

  -- a node comes to the store
  module _ (n : Node) (value : R) (store : IsStore t) (a : AddsNode s t n value) where
    pub lone_added : IsLone X t i keys
    lone_added = record {
      sound = IsSound_added s t n value i a h.sound;
      key = h.key;
      keyed = IsKeyed_added (X.order_of keys) (marks_of X keys) s t n value i store a h.sound h.keyed;
      column = omega (arith, h.column, a.width);
    }

    pub node_added : IsNode (column_of t (col_of i)) n
    node_added = node_in_column t (col_of i) n (omega (arith, h.column, a.width)) (IsNodeOf_added s t n value a)
