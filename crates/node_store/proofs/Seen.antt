-- What a contract sees of a store's blocks.
use Rattle.std.proofs.Common.{◌≡◌, ℕ, ◌<◌, List, length, get_or, Option, Some, None, sym, ap, ◌∙◌, nat_cmp}
use Rattle.std.specs.Option.{option_map, option_map_or}
use Rattle.std.specs.Cmp.{nat_cmp_total}
use Rattle.std.proofs.lemmas.List.{length-map, get_or-map}
use Rattle.std.specs.FinMap as map
use Rattle.std.specs.FinMap.{find}
use Rattle.node_store.specs.declared.Node.{Node}
use Rattle.node_store.specs.declared.stored.Stored.{Stored}
use Rattle.node_store.specs.Stored.{link_of}
use Rattle.node_store.specs.Store.{Entry, IsStore, number_of, nodes, aged, age_of, link_at, no_link, len_of}
use Rattle.node_store.specs.Blocks.{found_in}
use Rattle.node_store.specs.Chain.{node_at, entry_at, listed, store_of, IsSound}
use Rattle.node_store.specs.ByNode.{column_of}
use Rattle.node_store.proofs.Keyed.{some_mapped}
use Rattle.node_store.proofs.ByNode.{column_of-at, column_there}
use Rattle.node_store.proofs.StoreLemmas.{HasBlocks}
use Rattle.node_store.proofs.Found.{found_number}
use Rattle.node_store.proofs.Chain.{Held, get_at, get_some, block_at, chain_block, listed_past, listed_here, listed_found, len_entries}

module _ {R A : Type 0} {N : ℕ} (es : List (Held R A N)) (added : ℕ) where
  pub aged_listed : (k : ℕ) → aged (store_of es added) k ≡ find nat_cmp k (listed es)
  unfolding aged
  aged_listed k = map.get-from_entries nat_cmp_total _ _

  -- what lies in a block is a node
  pub node_there : (k : ℕ) (h : Held R A N) → found_in k es ≡ Some h → nodes (store_of es added) k ≡ Some (node_at h)
  unfolding nodes
  node_there k h here = ap (option_map (λ (x : Entry R). x.node)) (get_some es k h here)

  pub age_is : (n : Node) (h : Held R A N) → found_in (number_of n) es ≡ Some h → age_of (store_of es added) n ≡ h.value.age
  unfolding age_of
  age_is n h here = ap (λ o. option_map_or (λ age. age) (option_map (λ (x : Entry R). x.age) o) 0) (get_some es (number_of n) h here)

  -- what a block has in a column
  pub link_kept : (n : Node) (h : Held R A N) (col : ℕ) (s : Stored) → nodes (store_of es added) (number_of n) ≡ Some n → found_in (number_of n) es ≡ Some h → col < N → col < length h.value.links.row
      → column_of (store_of es added) col n ≡ Some (link_of (get_or h.value.links.row col s))
  link_kept n h col s node here there below =
      column_of-at (store_of es added) col n node ∙ column_there (store_of es added) col (number_of n) there
      ∙ ap (option_map (λ (x : Entry R). link_at x col)) (get_some es (number_of n) h here)
      ∙ ap Some (get_or-map link_of h.value.links.row col s no_link below)

module _ {R A : Type 0} {N : ℕ} {es : List (Held R A N)} {al : A} {newest : Option Node} {len added : ℕ} (sound : IsSound es al newest len added) where
  pub IsStore-view : IsStore (store_of es added)
  IsStore-view = record {
    numbered = λ k n p. let b = block_at es added k n p in ap number_of (sym b.2) ∙ found_number k es b.0 b.1;
    node = λ k n p.
        let r = listed_found es sound.apart k n (sym (aged_listed es added k) ∙ p) in
        node_there es added (number_of n) r.0 r.1 ∙ ap Some r.3;
    age = λ k n p.
        let r = listed_found es sound.apart k n (sym (aged_listed es added k) ∙ p) in
        age_is es added n r.0 r.1 ∙ r.2;
    stands = λ n is.
        let b = block_at es added (number_of n) n is in
        ap (aged (store_of es added)) (age_is es added n b.0 b.1) ∙ aged_listed es added b.0.value.age
        ∙ listed_here al None newest added es sound.chain (number_of n) b.0 b.1 ∙ ap Some b.2;
    bounded = λ k past. aged_listed es added k ∙ listed_past al None newest added es sound.chain k past;
  }

  pub HasBlocks-view : HasBlocks (store_of es added)
  HasBlocks-view k e p =
      let h = some_mapped entry_at (found_in k es) e (sym (get_at es k) ∙ p) in
      ap (λ (x : Entry R). length x.links) (sym h.2) ∙ length-map h.0.value.links.row link_of ∙ (chain_block al None newest added es sound.chain k h.0 h.1).1

  pub len-store : len ≡ len_of (store_of es added)
  len-store = sound.counted ∙ sym (len_entries es sound.apart)
