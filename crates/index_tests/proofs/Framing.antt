-- What a change of one index leaves of those beside it.
use Rattle.std.proofs.Common.{◌≡◌, ℕ, zero, suc, ◌+◌, ◌<◌, ◌≤◌, List, [], ◌∷◌, length, get_or, set, sym, ◌∙◌, subst, arith}
use Rattle.std.proofs.lemmas.List.{length-set}
use Rattle.node_store.specs.declared.Node.{Node}
use Rattle.node_store.specs.Column.{Column, IsNode, KeepsOthers}
use Rattle.node_store.specs.Nodes.{Lacks, Holds}
use Rattle.node_store.specs.Store.{Store, IsNodeOf}
use Rattle.node_store.specs.ByNode.{column_of, contents, AddsNode}
use Rattle.node_store.proofs.ByNode.{width_kept, node_in_column}
use Rattle.seq_index.proofs.Laws as chains
use Rattle.row_index.proofs.Laws as rows
use Rattle.ord_tree.proofs.Laws as trees
use Rattle.hash_index.proofs.Laws as buckets
use Rattle.index_tests.specs.declared.keys.Keyed.{Keyed}
use Rattle.index_tests.specs.declared.index.Index.{Index}
use Rattle.index_tests.specs.declared.index.Index.TheVariants.{Chain, Row, Ordered, Ranked, Hashed}
use Rattle.index_tests.specs.Kinds.{IsSoundIn, listed, col_in}
use Rattle.index_tests.specs.Every.{AreSound, HaveColumns, LackFrom}
use Rattle.index_tests.proofs.Ordered.{tree_kept, tree_added}

listed_kept : (cs ds : ℕ → Column) (i : Index) → ds (col_in i) ≡ cs (col_in i) → listed ds i ≡ listed cs i
listed_kept cs ds (Chain i) e = chains.spelled_kept cs ds i e
listed_kept cs ds (Row i) e = rows.spelled_kept cs ds i e
listed_kept cs ds (Ordered i) e = trees.spelled_kept cs ds i e
listed_kept cs ds (Ranked i) e = trees.spelled_kept cs ds i e
listed_kept cs ds (Hashed i) e = buckets.spelled_kept cs ds i e

-- the nodes of a sound index are the store's
pub listed_node : {T : Type 0} (s : Store (Keyed T)) (i : Index) (n : Node) → IsSoundIn s i → Holds (listed (column_of s) i) n → IsNodeOf s n
listed_node s (Chain i) n h = chains.node_held s i n h
listed_node s (Row i) n h = rows.node_held s i n h
listed_node s (Ordered i) n h = trees.node_held s i n h.0
listed_node s (Ranked i) n h = trees.node_held s i n h.0
listed_node s (Hashed i) n h = buckets.node_held s i n h

-- no column from this one on changed
abbrev KeepsFrom : (ℕ → Column) → (ℕ → Column) → ℕ → Type 0
KeepsFrom cs ds col = (j : ℕ) → col ≤ j → ds j ≡ cs j

-- an index by its place
pub record At {T : Type 0} (s : Store (Keyed T)) (col : ℕ) (i : Index) : Type 0 where
  pub is : col_in i ≡ col
  pub sound : IsSoundIn s i

pub sound_at : {T : Type 0} (s : Store (Keyed T)) (col : ℕ) (is : List Index) (k : ℕ) (d : Index) → k < length is → AreSound s col is → At s (col + k) (get_or is k d)
sound_at s col [] k d lt h = absurd (omega (arith, lt))
sound_at s col (i ∷ is) zero d lt h = record { is = omega (arith, h.0); sound = h.1 }
sound_at s col (i ∷ is) (suc k) d lt h =
    let r = sound_at s (suc col) is k d (omega (arith, lt)) h.2 in
    record { is = omega (arith, r.is); sound = r.sound }

-- a node of the store has links in the column of an index
pub node_at : {T : Type 0} (s : Store (Keyed T)) (is : List Index) (n : Node) (k : ℕ) (d : Index) → k < length is → HaveColumns s is → IsNodeOf s n → IsNode (column_of s (col_in (get_or is k d))) n
node_at s is n k d lt h here = node_in_column s _ n (omega (arith, lt, (sound_at s 0 is k d lt h.sound).is, h.width)) here

pub lacks_at : (cs : ℕ → Column) (is : List Index) (n : Node) (k : ℕ) (d : Index) → k < length is → LackFrom cs k is n → Lacks (listed cs (get_or is k d)) n
lacks_at cs [] n k d lt h = absurd (omega (arith, lt))
lacks_at cs (i ∷ is) n zero d lt h = h.0
lacks_at cs (i ∷ is) n (suc k) d lt h = lacks_at cs is n k d (omega (arith, lt)) h

-- the index at a place is changed, in its own column alone
module _ {T : Type 0} (old new : Store (Keyed T)) (e : contents new ≡ contents old) where
  sound_kept : (i : Index) → column_of new (col_in i) ≡ column_of old (col_in i) → IsSoundIn old i → IsSoundIn new i
  sound_kept (Chain i) same h = chains.IsSound_kept (column_of old) (column_of new) i same h
  sound_kept (Row i) same h = rows.IsSound_kept (column_of old) (column_of new) i same h
  sound_kept (Ordered i) same h = tree_kept old new i e same h
  sound_kept (Ranked i) same h = tree_kept old new i e same h
  sound_kept (Hashed i) same h = buckets.Spells_contents old new (column_of new) i _ e (buckets.IsSound_kept (column_of old) (column_of new) i same h)

  all_kept : (col : ℕ) (is : List Index) → KeepsFrom (column_of old) (column_of new) col → AreSound old col is → AreSound new col is
  all_kept col [] keep h = tt
  all_kept col (i ∷ is) keep h =
      (h.0, sound_kept i (keep (col_in i) (omega (arith, h.0))) h.1, all_kept (suc col) is (λ j le. keep j (omega (arith, le))) h.2)

  lacks_kept : (col : ℕ) (is : List Index) (n : Node) → KeepsFrom (column_of old) (column_of new) col → AreSound old col is → LackFrom (column_of old) 0 is n → LackFrom (column_of new) 0 is n
  lacks_kept col [] n keep h k = tt
  lacks_kept col (i ∷ is) n keep h k =
      let same : column_of new (col_in i) ≡ column_of old (col_in i) = keep (col_in i) (omega (arith, h.0)) in
      (subst (λ z. Lacks z n) (sym (listed_kept (column_of old) (column_of new) i same)) k.0, lacks_kept (suc col) is n (λ j le. keep j (omega (arith, le))) h.2 k.1)

  sound_set : (col : ℕ) (is : List Index) (k : ℕ) (now : Index) → k < length is → AreSound old col is → col_in now ≡ col + k → IsSoundIn new now → KeepsOthers (column_of old) (column_of new) (col + k) → AreSound new col (set is k now)
  sound_set col [] k now lt h c s keep = absurd (omega (arith, lt))
  sound_set col (i ∷ is) zero now lt h c s keep =
      (omega (arith, c), s, all_kept (suc col) is (λ j le. keep j (λ f. omega (arith, le, f))) h.2)
  sound_set col (i ∷ is) (suc k) now lt h c s keep =
      let same : column_of new (col_in i) ≡ column_of old (col_in i) = keep (col_in i) (λ f. omega (arith, f, h.0)) in
      let next : KeepsOthers (column_of old) (column_of new) (suc col + k) = λ j ne. keep j (λ f. ne (omega (arith, f))) in
      (h.0, sound_kept i same h.1, sound_set (suc col) is k now (omega (arith, lt)) h.2 (omega (arith, c)) s next)

  lacks_set : (col : ℕ) (is : List Index) (n : Node) (k : ℕ) (now : Index) → k < length is → AreSound old col is → KeepsOthers (column_of old) (column_of new) (col + k) → LackFrom (column_of old) k is n → LackFrom (column_of new) (suc k) (set is k now) n
  lacks_set col [] n k now lt h keep l = absurd (omega (arith, lt))
  lacks_set col (i ∷ is) n zero now lt h keep l = lacks_kept (suc col) is n (λ j le. keep j (λ f. omega (arith, le, f))) h.2 l.1
  lacks_set col (i ∷ is) n (suc k) now lt h keep l =
      let next : KeepsOthers (column_of old) (column_of new) (suc col + k) = λ j ne. keep j (λ f. ne (omega (arith, f))) in
      lacks_set (suc col) is n k now (omega (arith, lt)) h.2 next l

  pub columns_changed : (is : List Index) (k : ℕ) (d now : Index) → k < length is → HaveColumns old is → col_in now ≡ col_in (get_or is k d) → IsSoundIn new now → KeepsOthers (column_of old) (column_of new) (col_in (get_or is k d)) → HaveColumns new (set is k now)
  columns_changed is k d now lt h c s keep =
      let at = (sound_at old 0 is k d lt h.sound).is in
      record {
        sound = sound_set 0 is k now lt h.sound (c ∙ at) s (subst (KeepsOthers (column_of old) (column_of new)) at keep);
        width = omega (arith, h.width, length-set is k now, width_kept old new e);
      }

  pub lacks_changed : (is : List Index) (n : Node) (k : ℕ) (d now : Index) → k < length is → AreSound old 0 is → KeepsOthers (column_of old) (column_of new) (col_in (get_or is k d)) → LackFrom (column_of old) k is n → LackFrom (column_of new) (k + 1) (set is k now) n
  lacks_changed is n k d now lt h keep l =
      let at = (sound_at old 0 is k d lt h).is in
      let more : suc k ≡ k + 1 = omega arith in
      subst (λ z. LackFrom (column_of new) z (set is k now) n) more (lacks_set 0 is n k now lt h (subst (KeepsOthers (column_of old) (column_of new)) at keep) l)

-- a node comes
module _ {T : Type 0} (old new : Store (Keyed T)) (n : Node) (value : Keyed T) (a : AddsNode old new n value) where
  index_added : (i : Index) → IsSoundIn old i → IsSoundIn new i
  index_added (Chain i) h = chains.IsSound_added old new n value i a h
  index_added (Row i) h = rows.IsSound_added old new n value i a h
  index_added (Ordered i) h = tree_added old new n value i a h
  index_added (Ranked i) h = tree_added old new n value i a h
  index_added (Hashed i) h = buckets.IsSound_added old new n value i a h

  index_lacks : (i : Index) → IsSoundIn old i → Lacks (listed (column_of new) i) n
  index_lacks (Chain i) h = chains.Lacks_spelled_added old new n value i a h
  index_lacks (Row i) h = rows.Lacks_spelled_added old new n value i a h
  index_lacks (Ordered i) h = trees.Lacks_spelled_added old new n value i a h.0
  index_lacks (Ranked i) h = trees.Lacks_spelled_added old new n value i a h.0
  index_lacks (Hashed i) h = buckets.Lacks_spelled_added old new n value i a h

  sound_added : (col : ℕ) (is : List Index) → AreSound old col is → AreSound new col is
  sound_added col [] h = tt
  sound_added col (i ∷ is) h = (h.0, index_added i h.1, sound_added (suc col) is h.2)

  pub columns_added : (is : List Index) → HaveColumns old is → HaveColumns new is
  columns_added is h = record { sound = sound_added 0 is h.sound; width = omega (arith, h.width, a.width) }

  pub lacks_added : (col : ℕ) (is : List Index) → AreSound old col is → LackFrom (column_of new) 0 is n
  lacks_added col [] h = tt
  lacks_added col (i ∷ is) h = (index_lacks i h.1, lacks_added (suc col) is h.2)
