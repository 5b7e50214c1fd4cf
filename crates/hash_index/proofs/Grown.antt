-- Growth by a chain, and by more of them.
use Rattle.std.proofs.Common.{◌≡◌, ℕ, ◌+◌, ◌-◌, ◌*◌, ◌<◌, ◌≤◌, [], ◌∷◌, ◌++◌, set, Some, sym, ap, ◌∙◌, subst, arith}
use Rattle.std.specs.Prelude.{IsPermutation}
use Rattle.std.specs.List.{slice_get}
use Rattle.std.proofs.lemmas.List.Sorted.{IsPermutation-trans}
use Rattle.node_store.specs.Column.{KeepsOthers}
use Rattle.node_store.specs.Store.{Store, age_of}
use Rattle.node_store.specs.ByNode.{column_of}
use Rattle.hash_index.specs.declared.HashIndex.{HashIndex}
use Rattle.hash_index.specs.declared.head.Head.{Head}
use Rattle.hash_index.specs.Chains.{members, KeepsTags}
use Rattle.hash_index.specs.Grown.{IsGrown}
use Rattle.hash_index.specs.LinearHashing.{chain_of}
use Rattle.hash_index.specs.Parts.{IsParted}
use Rattle.hash_index.specs.Segments.{spare}
use Rattle.hash_index.specs.Spelled.{all_of, col_of, leads_to}
use Rattle.hash_index.specs.Split.{IsSame}
use Rattle.hash_index.specs.Stored.{nodes_of, AreChainsOf, KeepsRest}
use Rattle.hash_index.proofs.Aged.{Spells_contents}
use Rattle.hash_index.proofs.Growing.{grown_sound, grown_moved, grown_order, order_both, same_spelled}
use Rattle.hash_index.proofs.Levels.{comes}

module _ {R : Type 0} where
  -- one chain more, with the nodes that go there
  pub chain_grown : (s t : Store R) (i j : HashIndex) → AreChainsOf i s → KeepsRest i j s t → j.level ≡ i.level → j.chains.len ≡ i.chains.len + 1 → j.len ≡ i.len → 0 < i.chains.len → i.chains.len < i.level * 2 → spare j.chains.segments.items + 1 ≡ spare i.chains.segments.items
      → (from : ℕ) (head stay moved : Head) → from ≡ i.chains.len - i.level → slice_get (all_of i) from ≡ Some head → IsParted (age_of s) (column_of s) (column_of t) i head stay moved → all_of j ≡ set (all_of i) from stay ++ moved ∷ [] → IsGrown 1 i j s t
  chain_grown s t i j h rest level count len some below room from head stay moved from_is at parted heads = record {
    chain = Spells_contents s t _ _ _ rest.contents (grown_sound i j level count some (column_of s) (column_of t) head stay moved from h from_is at parted rest.col len heads);
    list = grown_moved i j level count some (column_of s) (column_of t) head stay moved from h from_is at parted rest.col len heads;
    order = grown_order i j level count some (column_of s) (column_of t) head stay moved from h from_is at parted rest.col len heads;
    tags = parted.tags;
    leads = λ filled hash.
        let le : i.level ≤ i.chains.len = omega (arith, i.reached, some) in
        ap (λ l. chain_of i.level i.chains.len (chain_of l j.chains.len hash)) level ∙ (ap (λ k. chain_of i.level i.chains.len (chain_of i.level k hash)) count ∙ comes i.level i.chains.len hash i.some_level le below);
    len = len;
    count = count;
    room = room;
    rest = rest;
  }

  -- some chains more after others
  pub both_grown : (k m : ℕ) (i j l : HashIndex) (s t u : Store R) → IsGrown k i j s t → IsGrown m j l t u → 0 < j.chains.len → IsGrown (k + m) i l s u
  both_grown k m i j l s t u one more some =
      let col : col_of j ≡ col_of i = one.rest.col in
      let tags = subst (λ c. KeepsTags (column_of t c) (column_of u c)) col more.tags in
      let others = subst (KeepsOthers (column_of t) (column_of u)) col more.rest.others in
      record {
        chain = more.chain;
        list = IsPermutation-trans _ _ _ one.list more.list;
        order = λ b.
            let second = subst (λ c. members (column_of t c) (leads_to l) b (nodes_of l u) ≡ members (column_of t c) (leads_to l) b (nodes_of j t)) col (more.order b) in
            order_both (column_of s (col_of i)) (leads_to j) (leads_to l) (more.leads some) b (column_of t (col_of i)) (nodes_of i s) (nodes_of j t) (nodes_of l u) one.tags (one.order (leads_to j b)) second;
        tags = λ n. tags n ∙ one.tags n;
        leads = λ filled hash. sym (one.leads filled (leads_to l hash)) ∙ (ap (leads_to i) (more.leads some hash) ∙ one.leads filled hash);
        len = more.len ∙ one.len;
        count = omega (arith, more.count, one.count);
        room = omega (arith, more.room, one.room);
        rest = record { col = more.rest.col ∙ one.rest.col; index = more.rest.index ∙ one.rest.index; others = λ c ne. others c ne ∙ one.rest.others c ne; contents = more.rest.contents ∙ one.rest.contents };
      }

  -- growth of an index with the same chains
  pub same_grown : (k : ℕ) (i j l : HashIndex) (s t : Store R) → AreChainsOf i s → IsSame i j → j.chains ≡ i.chains → IsGrown k j l s t → IsGrown k i l s t
  same_grown k i j l s t h same chains g =
      let nodes = same_spelled (column_of s) i j same h in
      record {
        chain = g.chain;
        list = subst (λ z. IsPermutation z (nodes_of l t)) nodes g.list;
        order = λ b. subst (λ c. members (column_of s c) (leads_to l) b (nodes_of l t) ≡ members (column_of s c) (leads_to l) b (nodes_of i s)) same.col (g.order b ∙ ap (members (column_of s (col_of j)) (leads_to l) b) nodes);
        tags = subst (λ c. KeepsTags (column_of s c) (column_of t c)) same.col g.tags;
        leads = λ filled hash. sym (same.leads (leads_to l hash)) ∙ (g.leads (omega (arith, filled, ap (λ b. b.len) chains)) hash ∙ same.leads hash);
        len = g.len ∙ same.len;
        count = g.count ∙ ap (λ b. b.len + k) chains;
        room = g.room ∙ ap (λ b. spare b.segments.items) chains;
        rest = record { col = g.rest.col ∙ same.col; index = g.rest.index ∙ same.index; others = subst (KeepsOthers (column_of s) (column_of t)) same.col g.rest.others; contents = g.rest.contents };
      }
