-- A block of a store that is written in its place.
use Rattle.std.proofs.Common.{◌≡◌, ℕ, List, length, set, Option, Some, None, refl, sym, ap, ◌∙◌, ⊎_elim}
use Rattle.std.proofs.lemmas.Bool.{cases_eq}
use Rattle.std.specs.Option.{option_map, option_map_or}
use Rattle.std.specs.Prelude.{map as each}
use Rattle.std.proofs.lemmas.List.{map-set}
use Rattle.std.specs.FinMap as map
use Rattle.node_store.specs.declared.Node.{Node}
use Rattle.node_store.specs.declared.Link.{Link}
use Rattle.node_store.specs.declared.shelf.Block.{Block}
use Rattle.node_store.specs.declared.stored.Row.{Row}
use Rattle.node_store.specs.declared.stored.Stored.{Stored}
use Rattle.node_store.specs.Stored.{link_of}
use Rattle.node_store.specs.Store.{number_of, with_entry, with_link, with_record}
use Rattle.node_store.specs.Blocks.{lying, found_in, with_block}
use Rattle.node_store.specs.Chain.{node_at, entry_at, store_of, IsSound}
use Rattle.node_store.proofs.Keyed.{insert_same, insert_other, same_map}
use Rattle.node_store.proofs.Found.{with_same, with_other, length-with, places-with, HaveBlocks-placed}
use Rattle.node_store.proofs.Chain.{Held, get_at, get_some, chain_kept, listed_with}

module _ {R A : Type 0} {N : ℕ} where
  pub IsSound-kept : {es : List (Held R A N)} {al : A} {newest : Option Node} {len added : ℕ} → IsSound es al newest len added → (n : ℕ) (h : Held R A N) (x : Block R (Row N)) → found_in n es ≡ Some h
      → x.age ≡ h.value.age → x.newer ≡ h.value.newer → x.older ≡ h.value.older → length x.links.row ≡ N → IsSound (with_block n x es) al newest len added
  IsSound-kept {es = es} {al = al} {newest = newest} {added = added} sound n h x here age before after wide = record {
    chain = chain_kept al None newest added es sound.chain n h x here age before after wide;
    apart = HaveBlocks-placed es (with_block n x es) (places-with n x es) sound.apart;
    counted = sound.counted ∙ sym (length-with n x es);
    fits = sound.fits;
    narrow = sound.narrow;
  }

  module _ (es : List (Held R A N)) (added : ℕ) where
    pub store_written : (n : ℕ) (h : Held R A N) (x : Block R (Row N)) → found_in n es ≡ Some h → x.age ≡ h.value.age
        → store_of (with_block n x es) added ≡ with_entry (store_of es added) n (entry_at (lying h.at h.alloc x))
    store_written n h x here age =
        let nodes = same_map _ _ (λ q. ⊎_elim
        (λ same. ap (map.get _) same ∙ get_some (with_block n x es) n (lying h.at h.alloc x) (with_same n x es h here) ∙ sym (insert_same _ n q _ same))
        (λ off. get_at (with_block n x es) q ∙ ap (option_map entry_at) (with_other q n x es off) ∙ sym (get_at es q) ∙ sym (insert_other _ n q _ off))
        (cases_eq q n)) in
        let ages = ap map.from_entries (listed_with n x es h here age) in
        λ i. record { width = N; added = added; nodes = nodes i; ages = ages i }

    module _ (n : Node) (h : Held R A N) (here : found_in (number_of n) es ≡ Some h) where
      pub linked : (col : ℕ) (kept : Stored) (l : Link) → link_of kept ≡ l
          → store_of (with_block (number_of n) (record h.value { links = record { row = set h.value.links.row col kept } }) es) added ≡ with_link (store_of es added) n col l
      linked col kept l is =
          let s = store_of es added in
          store_written (number_of n) h (record h.value { links = record { row = set h.value.links.row col kept } }) here refl
          ∙ ap (λ xs. with_entry s (number_of n) (record { node = node_at h; age = h.value.age; value = h.value.value; links = xs })) (map-set link_of h.value.links.row col kept ∙ ap (set (each link_of h.value.links.row) col) is)
          ∙ sym (ap (λ o. option_map_or (λ e. with_entry s (number_of n) (record e { links = set e.links col l })) o s) (get_some es (number_of n) h here))

      pub rewritten : (w : R) → store_of (with_block (number_of n) (record h.value { value = w }) es) added ≡ with_record (store_of es added) n w
      unfolding with_record
      rewritten w =
          let s = store_of es added in
          store_written (number_of n) h (record h.value { value = w }) here refl
          ∙ sym (ap (λ o. option_map_or (λ e. with_entry s (number_of n) (record e { value = w })) o s) (get_some es (number_of n) h here))
