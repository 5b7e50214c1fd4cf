-- What calls of buckets ask for of a hashed index, and what they answer.
use Rattle.std.proofs.Common.{◌≡◌, List, Option, sym, subst}
use Rattle.std.specs.Prelude.{IsTrue}
use Rattle.std.specs.Cmp.{IsTotalOrder}
use Rattle.list_model.specs.Place.{find_equal}
use Rattle.node_store.specs.declared.Node.{Node}
use Rattle.node_store.specs.Store.{Store, age_of}
use Rattle.node_store.specs.ByNode.{record_of}
use Rattle.key_extract.specs.declared.extract.Extract.{Ghosts}
use Rattle.hash_index.specs.declared.HashIndex.{HashIndex}
use Rattle.hash_index.specs.Hashed.{IsHashed, others}
use Rattle.hash_index.specs.Spelled.{col_of, index_of}
use Rattle.hash_index.specs.Stored as buckets
use Rattle.hash_index.proofs.Laws.{IsHashed_moved}
use Rattle.any_index.specs.declared.index.AnyIndex.TheVariants.{Hashed}
use Rattle.any_index.specs.Side.{equal_but}
use Rattle.any_index.specs.Stored.{HasNode, IsFiledOnce, CanFind, nodes_of, record_side_in}
use Rattle.any_index.proofs.ByAge.{Holds_moved, moved_back}
use Rattle.any_index.proofs.Same.{others_is, same_answer, excepted_moved}

pub in_buckets : {R : Type 0} (s : Store R) (i : HashIndex) (n : Node) → HasNode (Hashed i) s n → buckets.HasNode i s n
in_buckets s i n h = record { chain = h.sound; held = Holds_moved _ _ n (moved_back (age_of s) _) h.held }

module _ {E R P : Type 0} (X : Ghosts E R P) (s : Store R) (keys : E) (i : HashIndex) where
  pub can_search : (probe : P) → CanFind X (Hashed i) s keys probe → buckets.CanSearch X i s keys probe
  can_search probe h = record {
    chain = h.sound;
    has_key = h.key;
    whole = h.fits;
    hashed = IsHashed_moved (X.hash_of keys (index_of i)) s (col_of i) _ _ (moved_back (age_of s) _) h.keyed;
  }

  pub hashed_but : (except : Option Node) → IsFiledOnce X except (Hashed i) s keys → buckets.IsHashedBut X except i s keys
  hashed_but except h =
      let hash = X.hash_of keys (index_of i) in
      let xs = buckets.nodes_of i s in
      record {
        chain = h.sound;
        has_key = h.key;
        hashed = subst (λ (z : List Node). IsHashed hash s (col_of i) z) (sym (others_is except xs)) (IsHashed_moved hash s (col_of i) _ _ (excepted_moved except _ xs (moved_back (age_of s) xs)) h.keyed);
      }

  -- the node of a record's key is that of the list by age
  pub same_in : (IsTrue (X.has_key keys (index_of i)) → IsTotalOrder (X.order_of keys (index_of i))) → (except : Option Node) (r : R) → IsFiledOnce X except (Hashed i) s keys →
      find_equal (buckets.record_side_in X i s keys r) (others except (buckets.nodes_of i s)) ≡ equal_but except (record_side_in X (Hashed i) s keys r) (nodes_of (Hashed i) s)
  same_in total except r h = same_answer (record_of s) (X.order_of keys (index_of i)) (total h.key) r (age_of s) except (buckets.nodes_of i s) h.unique
