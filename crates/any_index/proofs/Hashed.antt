-- The list of a hashed index.
use Rattle.std.proofs.Common.{◌≡◌, ℕ, List, [], ◌∷◌, ap, sym, ◌∙◌, subst}
use Rattle.std.specs.Prelude.{IsPermutation}
use Rattle.std.specs.List.{AllByRecursion}
use Rattle.std.proofs.lemmas.List.Sorted.{IsPermutation-refl, IsPermutation-trans}
use Rattle.list_model.specs.Walk.{without, placed}
use Rattle.node_store.specs.declared.Node.{Node}
use Rattle.node_store.specs.Nodes.{AllNodes}
use Rattle.node_store.specs.Store.{Store, IsStore, IsNodeOf, age_of}
use Rattle.node_store.specs.ByNode.{column_of, contents, same_node}
use Rattle.node_store.proofs.ByNode.{node_of_column, ages_kept}
use Rattle.hash_index.specs.declared.HashIndex.{HashIndex}
use Rattle.hash_index.specs.Hashed.{IsHashed}
use Rattle.hash_index.specs.Spelled.{IsSound, spelled, col_of, index_of, KeepsTags}
use Rattle.hash_index.proofs.Laws.{Spells_nodes, IsHashed_moved, IsHashed_tags}
use Rattle.node_store.proofs.Ages.{IsStore_kept}
use Rattle.any_index.specs.Spelled.{age_cmp, by_age}
use Rattle.any_index.proofs.ByAge.{by_age_moved, by_age_entered, by_age_filter, moved_by_age, moved_back}

module _ {R : Type 0} where
  each_node : (s : Store R) (col : ℕ) (xs : List Node) → AllNodes (column_of s col) xs → AllByRecursion (IsNodeOf s) xs
  each_node s col [] h = tt
  each_node s col (x ∷ xs) h = (node_of_column s col x h.0, each_node s col xs h.1)

  -- its nodes are those of the store
  pub nodes_of : (s : Store R) (i : HashIndex) → IsSound (age_of s) (column_of s) i → AllByRecursion (IsNodeOf s) (spelled (column_of s) i)
  nodes_of s i h = each_node s (col_of i) _ (Spells_nodes (column_of s) i _ h)

  -- the same nodes in other buckets
  pub list_moved : (s : Store R) → IsStore s → (i : HashIndex) (ys : List Node) → IsSound (age_of s) (column_of s) i → IsPermutation (spelled (column_of s) i) ys → by_age (age_of s) ys ≡ by_age (age_of s) (spelled (column_of s) i)
  list_moved s sound i ys h moved = by_age_moved s sound (spelled (column_of s) i) ys h.distinct (nodes_of s i h) moved

  -- the same once the store has other links
  pub list_stays : (s t : Store R) → IsStore s → (i : HashIndex) (ys : List Node) → contents t ≡ contents s → IsSound (age_of s) (column_of s) i → IsPermutation (spelled (column_of s) i) ys → by_age (age_of t) ys ≡ by_age (age_of s) (spelled (column_of s) i)
  list_stays s t sound i ys same h moved = ap (λ ages. by_age ages ys) (ages_kept s t same) ∙ list_moved s sound i ys h moved

  -- one node more
  pub list_entered : (s : Store R) → IsStore s → (i : HashIndex) (n : Node) (xs : List Node) → IsSound (age_of s) (column_of s) i → IsPermutation (n ∷ xs) (spelled (column_of s) i) → by_age (age_of s) (spelled (column_of s) i) ≡ placed (λ m. age_cmp (age_of s) m n) n (by_age (age_of s) xs)
  list_entered s sound i n xs h moved = by_age_entered s sound n xs (spelled (column_of s) i) h.distinct (nodes_of s i h) moved

  pub list_entered_late : (s t : Store R) → IsStore s → (i : HashIndex) (n : Node) (xs : List Node) → contents t ≡ contents s → IsSound (age_of t) (column_of t) i → IsPermutation (n ∷ xs) (spelled (column_of t) i) → by_age (age_of t) (spelled (column_of t) i) ≡ placed (λ m. age_cmp (age_of s) m n) n (by_age (age_of s) xs)
  list_entered_late s t sound i n xs same h moved = list_entered t (IsStore_kept s t same sound) i n xs h moved ∙ ap (λ ages. placed (λ m. age_cmp ages m n) n (by_age ages xs)) (ages_kept s t same)

  -- one node less
  pub list_left : (s : Store R) → IsStore s → (i : HashIndex) (n : Node) → IsSound (age_of s) (column_of s) i → by_age (age_of s) (without (same_node n) (spelled (column_of s) i)) ≡ without (same_node n) (by_age (age_of s) (spelled (column_of s) i))
  list_left s sound i n h = by_age_filter s sound _ (spelled (column_of s) i) h.distinct (nodes_of s i h)

  pub list_leaves : (s t : Store R) → IsStore s → (i : HashIndex) (n : Node) (ys : List Node) → contents t ≡ contents s → IsSound (age_of s) (column_of s) i → ys ≡ without (same_node n) (spelled (column_of s) i) → by_age (age_of t) ys ≡ without (same_node n) (by_age (age_of s) (spelled (column_of s) i))
  list_leaves s t sound i n ys same h is = ap (λ ages. by_age ages ys) (ages_kept s t same) ∙ (ap (by_age (age_of s)) is ∙ list_left s sound i n h)

  -- the nodes of an index of the same number and column are under their hashes in any order
  pub hashed_at : (hash : ℕ → R → ℕ) (s : Store R) (j k c d : ℕ) (xs ys : List Node) → j ≡ k → c ≡ d → IsPermutation xs ys → IsHashed (hash k) s d xs → IsHashed (hash j) s c ys
  hashed_at hash s j k c d xs ys e f moved h =
      subst (λ z. IsHashed (hash z) s c ys) (sym e) (subst (λ z. IsHashed (hash k) s z ys) (sym f) (IsHashed_moved (hash k) s d xs ys moved h))

  -- where the index keeps the hashes of its nodes
  pub keeps_hashed : (hash : ℕ → R → ℕ) (old new : Store R) (i j : HashIndex) → index_of j ≡ index_of i → col_of j ≡ col_of i → KeepsTags (column_of old (col_of i)) (column_of new (col_of i)) → contents new ≡ contents old → IsPermutation (spelled (column_of old) i) (spelled (column_of new) j) →
      IsHashed (hash (index_of i)) old (col_of i) (by_age (age_of old) (spelled (column_of old) i)) → IsHashed (hash (index_of j)) new (col_of j) (by_age (age_of new) (spelled (column_of new) j))
  keeps_hashed hash old new i j e f tags same moved h =
      let xs = spelled (column_of old) i in
      let ys = spelled (column_of new) j in
      hashed_at hash new (index_of j) (index_of i) (col_of j) (col_of i) (by_age (age_of old) xs) (by_age (age_of new) ys) e f
      (IsPermutation-trans _ _ _ (moved_back (age_of old) xs) (IsPermutation-trans _ _ _ moved (moved_by_age (age_of new) ys)))
      (IsHashed_tags (hash (index_of i)) old new (col_of i) (by_age (age_of old) xs) tags same h)

  -- the same for a list of some of them
  pub keeps_hashed_list : (hash : ℕ → R → ℕ) (old new : Store R) (i j : HashIndex) (xs ys : List Node) → index_of j ≡ index_of i → col_of j ≡ col_of i → KeepsTags (column_of old (col_of i)) (column_of new (col_of i)) → contents new ≡ contents old → ys ≡ xs →
      IsHashed (hash (index_of i)) old (col_of i) xs → IsHashed (hash (index_of j)) new (col_of j) ys
  keeps_hashed_list hash old new i j xs ys e f tags same is h =
      subst (λ (z : List Node). IsHashed (hash (index_of j)) new (col_of j) z) (sym is)
      (hashed_at hash new (index_of j) (index_of i) (col_of j) (col_of i) xs xs e f (IsPermutation-refl xs) (IsHashed_tags (hash (index_of i)) old new (col_of i) xs tags same h))
