-- Where the indices of a set have their nodes by keys, and that no two have one key, for the crates above.
use Rattle.key_extract.specs.Digests.{Marks}
use Rattle.std.proofs.Common.{◌≡◌, ℕ, ◌+◌, List, [], ◌∷◌, map, get_or, Option, Some, None, sym, subst}
use Rattle.std.specs.declared.cmp.Ordering.{Ordering}
use Rattle.list_model.specs.Walk.{without}
use Rattle.node_store.specs.declared.Node.{Node}
use Rattle.node_store.specs.ByNode.{same_node}
use Rattle.node_store.proofs.ByNode.{records_kept}
use Rattle.container_model.specs.declared.handle.Spec.{Spec}
use Rattle.any_index.proofs.Laws as any
use Rattle.index_set.specs.declared.parts.Parts.{Parts}
use Rattle.index_set.specs.Indices.{LackIt}
use Rattle.index_set.specs.Lists.{AreUniqueFrom}
use Rattle.index_set.specs.Set.{keys_of, specs_of, lists_of, record_of, contents, IsKeyed, IsKeyedBut, IsKeyedExcept, IsUniqueExcept, IsOfSame}

module _ {R E : Type 0} (order : E → ℕ → R → R → Ordering) (marks : E → ℕ → R → Marks) (s : Parts R E) where
  -- what is keyed is so but for any node
  pub but_from : (n : Node) → IsKeyed order marks s → IsKeyedBut order marks s n
  but_from n h = record { each = λ j d e lt. any.IsKeyedBut_from (order s.keys) (marks s.keys) s.store (get_or s.indices.items j e) n (h.each j d e lt) }

  pub except_none : IsKeyed order marks s → IsKeyedExcept order marks s None
  except_none h = record { each = h.each }

  pub except_some : (n : Node) → IsKeyedBut order marks s n → IsKeyedExcept order marks s (Some n)
  except_some n h = record { each = h.each }

-- lists without nodes have no two of one key
pub unique_empty : {R : Type 0} (order : ℕ → R → R → Ordering) (records : Node → Option R) (b : ℕ) (specs : List Spec) → AreUniqueFrom order records None b specs (map (λ _. []) specs)
unique_empty order records b [] = tt
unique_empty order records b (spec ∷ specs) = ((λ _. tt), unique_empty order records (b + 1) specs)

module _ {R E : Type 0} (order : E → ℕ → R → R → Ordering) (old new : Parts R E) (except : Option Node) where
  -- that stays where the records and the lists stay
  pub unique_kept : IsOfSame old new → lists_of new ≡ lists_of old → contents new ≡ contents old → IsUniqueExcept order old except → IsUniqueExcept order new except
  unique_kept same lists kept h =
      let records : record_of new ≡ record_of old = records_kept old.store new.store kept in
      subst (λ z. AreUniqueFrom (order (keys_of new)) (record_of new) except 0 (specs_of new) z) (sym lists)
      (subst (λ z. AreUniqueFrom (order (keys_of new)) (record_of new) except 0 z (lists_of old)) (sym same.specs)
      (subst (λ (z : Node → Option R). AreUniqueFrom (order (keys_of new)) z except 0 (specs_of old) (lists_of old)) (sym records)
      (subst (λ (z : E). AreUniqueFrom (order z) (record_of old) except 0 (specs_of old) (lists_of old)) (sym same.keys) h)))

-- a node that was taken out of each list is in none
pub lacks_left : (lists : List (List Node)) (n : Node) → LackIt (map (without (same_node n)) lists) n
lacks_left [] n = tt
lacks_left (list ∷ lists) n = (any.Lacks_without list n, lacks_left lists n)
