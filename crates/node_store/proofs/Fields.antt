-- A node and its links, as the block of the node has them.
use Rattle.std.proofs.Common.{◌≡◌, ℕ, ◌<◌, List, length, length-set, get_or, set, Option, Some, None, refl, sym, ap, Bool, cond, ◌∙◌, arith}
use Rattle.std.proofs.lemmas.Option.{same_Some}
use Rattle.std.specs.Option.{option_map}
use Rattle.node_store.specs.declared.Node.{Node}
use Rattle.node_store.specs.declared.Link.{Link}
use Rattle.node_store.specs.declared.shelf.Block.{Block}
use Rattle.node_store.specs.declared.stored.Row.{Row}
use Rattle.node_store.specs.declared.stored.Stored.{Stored}
use Rattle.node_store.specs.Stored.{link_of}
use Rattle.node_store.specs.Store.{Store, Entry, IsNodeOf, number_of, records, aged, age_of, with_record}
use Rattle.node_store.specs.Blocks.{lying, found_in, with_block, LiesAt}
use Rattle.node_store.specs.Chain.{store_of, IsSound}
use Rattle.node_store.specs.Age.{last_below}
use Rattle.node_store.specs.Column.{IsNode, IsPut, KeepsOthers}
use Rattle.node_store.specs.ByNode.{column_of, record_of, contents}
use Rattle.node_store.proofs.ByNode.{node_of_column, column_of_node, record_of-at, IsPut-relinked, others-relinked, contents-relinked}
use Rattle.node_store.proofs.StoreLemmas.{Relinks-with_link, len-with_link, added-with_link}
use Rattle.node_store.proofs.Found.{lies_at, read_block}
use Rattle.node_store.proofs.Chain.{Held, node_block, chain_block, get_some}
use Rattle.node_store.proofs.ChainAge.{older_in}
use Rattle.node_store.proofs.Seen.{age_is, link_kept, HasBlocks-view}
use Rattle.node_store.proofs.Written.{IsSound-kept, linked, rewritten}

-- the new store has these links at the node in one column, and else what the old one has
pub record IsLinked {R : Type 0} (old new : Store R) (n : Node) (col : ℕ) (link : Link) : Type 0 where
  pub put : IsPut (column_of old col) (column_of new col) n link
  pub others : KeepsOthers (column_of old) (column_of new) col
  pub contents : contents new ≡ contents old

module _ {R A : Type 0} {N : ℕ} {es : List (Held R A N)} {al : A} {newest : Option Node} {len added : ℕ} (sound : IsSound es al newest len added) {s : Store R} (view : store_of es added ≡ s) (n : Node) where
  -- a node's block lies at its place
  pub is_there : IsNodeOf s n → LiesAt es n.place.ptr
  is_there is = let b = node_block sound n (rw (← view) at is) in lies_at es n.place.ptr b.0 b.1 b.2

  -- ---- what is read from the block

  module _ (is : IsNodeOf s n) (b : Block R (Row N)) (read : (h : Held R A N) → found_in (number_of n) es ≡ Some h → b ≡ h.value) where
    lent : Held R A N
    lent = let h = node_block sound n (rw (← view) at is) in lying h.0.at h.0.alloc b

    here : found_in (number_of n) es ≡ Some lent
    unfolding lent
    here = let h = node_block sound n (rw (← view) at is) in read_block es (number_of n) h.0 b h.1 (read h.0 h.1)

    pub record_read : record_of s n ≡ Some b.value
    unfolding records lent
    record_read = record_of-at s n is ∙ rw (← view) (ap (option_map (λ (e : Entry R). e.value)) (get_some es (number_of n) lent here))

    pub age_read : b.age ≡ age_of s n
    unfolding lent
    age_read = rw (← view) (sym (age_is es added n lent here))

    pub older_read : b.older ≡ last_below (aged s) (age_of s n)
    unfolding lent
    older_read = rw (← view) (older_in sound (number_of n) lent here ∙ ap (last_below (aged (store_of es added))) (sym (age_is es added n lent here)))

    -- it has links in each column
    pub wide : length b.links.row ≡ N
    unfolding lent
    wide = (chain_block al None newest added es sound.chain (number_of n) lent here).1

    -- ---- a write of the record

    pub IsSound-rewritten : (w : R) → IsSound (with_block (number_of n) (record b { value = w }) es) al newest len added
    unfolding lent
    IsSound-rewritten w = IsSound-kept sound (number_of n) lent (record b { value = w }) here refl refl refl wide

    pub store_rewritten : (w : R) → store_of (with_block (number_of n) (record b { value = w }) es) added ≡ with_record s n w
    unfolding lent
    store_rewritten w = rewritten es added n lent here w ∙ ap (λ t. with_record t n w) view

  -- ---- its links in a column

  module _ (col : ℕ) (has : IsNode (column_of s col) n) where
    node : IsNodeOf s n
    node = node_of_column s col n has

    pub linked_there : LiesAt es n.place.ptr
    linked_there = is_there node

    -- the store has the column
    pub there : col < N
    there = column_of_node _ col n (rw (← view) at has)

    module _ (b : Block R (Row N)) (read : (h : Held R A N) → found_in (number_of n) es ≡ Some h → b ≡ h.value) where
      pub in_row : col < length b.links.row
      in_row = omega (arith, there, wide node b read)

      pub link_read : (default : Stored) → column_of s col n ≡ Some (link_of (get_or b.links.row col default))
      unfolding lent
      link_read default =
          rw (← view) (link_kept es added n (lent node b read) col default (rw (← view) at node) (here node b read) there in_row)

      -- its link `b`, or `a`
      pub side_read : (default : Stored) (second : Bool) (link : Link) → column_of s col n ≡ Some link → cond second (link_of (get_or b.links.row col default)).b (link_of (get_or b.links.row col default)).a ≡ cond second link.b link.a
      side_read default second link is = ap (λ (l : Link). cond second l.b l.a) (same_Some _ _ (sym (link_read default) ∙ is))

      -- ---- a write of links

      pub IsSound-linked : (kept : Stored) → IsSound (with_block (number_of n) (record b { links = record { row = set b.links.row col kept } }) es) al newest len added
      unfolding lent
      IsSound-linked kept =
          IsSound-kept sound (number_of n) (lent node b read) (record b { links = record { row = set b.links.row col kept } }) (here node b read) refl refl refl (length-set b.links.row col kept ∙ wide node b read)

      pub IsLinked-written : (kept : Stored) (link : Link) → link_of kept ≡ link → IsLinked s (store_of (with_block (number_of n) (record b { links = record { row = set b.links.row col kept } }) es) added) n col link
      unfolding lent
      IsLinked-written kept link is =
          let seen = store_of es added in
          let is_node : IsNodeOf seen n = rw (← view) at node in
          let relinked = Relinks-with_link seen n col link (HasBlocks-view sound) is_node there in
          let to = linked es added n (lent node b read) (here node b read) col kept link is in
          rw (← view, to) (record {
            put = IsPut-relinked _ _ n col link is_node relinked;
            others = others-relinked _ _ n col link relinked;
            contents = contents-relinked _ _ n col link relinked (added-with_link seen n col link) (len-with_link seen n col link);
          })

      -- the same, where it is the tag alone that is another
      pub IsLinked-tagged : (default kept : Stored) (tag : ℕ) → kept ≡ record (get_or b.links.row col default) { tag = tag } → (link : Link) → column_of s col n ≡ Some link
          → IsLinked s (store_of (with_block (number_of n) (record b { links = record { row = set b.links.row col kept } }) es) added) n col (record link { tag = tag })
      IsLinked-tagged default kept tag is link was =
          let same = same_Some _ _ (sym (link_read default) ∙ was) in
          IsLinked-written kept (record link { tag = tag }) (ap link_of is ∙ ap (λ (l : Link). record l { tag = tag }) same)
