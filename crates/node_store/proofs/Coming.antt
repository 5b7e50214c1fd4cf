-- A store once a record has come.
use Rattle.std.proofs.Common.{◌≡◌, ◌≢◌, ℕ, ◌+◌, List, ◌∷◌, replicate, Option, Some, None, refl, sym, ap, ◌∙◌, subst, arith}
use Rattle.std.proofs.lemmas.List.{length-replicate}
use Rattle.std.specs.Option.{option_map}
use Rattle.std.specs.FinMap as map
use denote.RawPtr.{Ptr, block_ptr, block_of as number_at}
use Rattle.node_store.specs.declared.Node.{Node}
use Rattle.node_store.specs.declared.shelf.Block.{Block}
use Rattle.node_store.specs.declared.stored.Row.{Row}
use Rattle.node_store.specs.declared.stored.Stored.{Stored}
use Rattle.node_store.specs.Stored.{link_of}
use Rattle.node_store.specs.Store.{Entry, Store, number_of, nodes, no_link, with_node, age_of, len_of}
use Rattle.node_store.specs.ByNode.{AddsNode}
use Rattle.node_store.specs.Blocks.{lying, LieApart, LieAtStarts, HaveBlocks}
use Rattle.node_store.specs.Chain.{node_at, entry_at, store_of, with_newer, HasBlock, IsSound}
use Rattle.node_store.proofs.StoreLemmas.{Adds-with_node, len-with_node}
use Rattle.node_store.proofs.ByNode.{is_node_by, AddsNode-added}
use Rattle.node_store.proofs.Found.{start_is, free_none, found_tail, HaveBlocks-apart, HaveBlocks-placed}
use Rattle.node_store.proofs.Chain.{Held, all_empty, get_at}
use Rattle.node_store.proofs.Neighbours.{Agree-newer, length_agrees, found_apart, with_newer_tail, newest_lies, HasBlock-lies, headed}

-- what the add of a record leaves
pub record IsAdded {R : Type 0} (old new : Store R) (n : Node) (value : R) : Type 0 where
  pub age : age_of new n ≡ old.added
  pub count : new.added ≡ old.added + 1
  pub added : AddsNode old new n value
  pub len : len_of new ≡ len_of old + 1

-- the blocks `es` are those of a store, to which that of a new record at `at` comes
module _ {R A : Type 0} {N : ℕ} (es : List (Held R A N)) (al : A) (newest : Option Node) (len added : ℕ) (sound : IsSound es al newest len added) (at : Ptr) (value : R) (s : Stored) (leads_nowhere : link_of s ≡ no_link) (newer : Option Node) (last : newer ≡ None) where
  abbrev made : Block R (Row N)
  made = record { age = added; older = newest; newer = newer; value = value; links = record { row = replicate N s } }

  abbrev h : Held R A N
  h = lying at al made

  abbrev node : Node
  node = node_at h

  module _ (a : A) (b : Block R (Row N)) (by : a ≡ al) (is_made : b ≡ made) (xs ys : List (Held R A N)) (put : xs ≡ lying at a b ∷ es) (lie_apart : LieApart xs) (same : ys ≡ xs) (at_starts : LieAtStarts ys) where
    laid : xs ≡ h ∷ es
    laid = put ∙ (λ i. lying at (by i) (is_made i) ∷ es)

    -- the block lies at its start
    pub begins : at ≡ block_ptr (number_at at) 0
    begins = let starts = subst LieAtStarts (same ∙ laid) at_starts in start_is at starts.0 starts.1

    apart : HaveBlocks (h ∷ es)
    apart = subst HaveBlocks laid (HaveBlocks-apart xs lie_apart (subst LieAtStarts same at_starts))

    -- the newest node lies in another block
    newest_apart : (m : Node) → newest ≡ Some m → number_of m ≢ number_at at
    newest_apart m q = let r = newest_lies al None newest added es sound.chain m q in found_apart (number_of m) (number_at at) es r.0 r.1 apart.0

    pub HasBlock-added : (zs : List (Held R A N)) → zs ≡ ys → HasBlock newest zs
    HasBlock-added zs still = subst (HasBlock newest) (sym (still ∙ same ∙ laid)) (
        HasBlock-lies newest (h ∷ es) (h ∷ es) refl (λ m q. let r = newest_lies al None newest added es sound.chain m q in (r.0, found_tail (number_of m) h es (newest_apart m q) ∙ r.1, r.2)))

    -- once the newest names the new one
    abbrev after : List (Held R A N)
    after = with_newer newest (Some node) es

    module _ (zs joined : List (Held R A N)) (still : zs ≡ ys) (n : Node) (lies : n.place.ptr ≡ at) (first : Option Node) (is : first ≡ Some n) (joins : joined ≡ with_newer newest first zs) where
      its : n ≡ node
      its = is_node_by n at lies

      newer_is : first ≡ Some node
      newer_is = is ∙ ap Some its

      moved : joined ≡ h ∷ after
      moved = joins ∙ ap (λ o. with_newer newest o zs) newer_is ∙ ap (with_newer newest (Some node)) (still ∙ same ∙ laid) ∙ with_newer_tail newest (Some node) h es newest_apart

      pub IsSound-added : IsSound joined al first (len + 1) (added + 1)
      IsSound-added = rw (moved, newer_is) (record {
        chain = (refl, last, omega arith, refl, length-replicate N s, begins, headed al None (Some node) newest added added es (omega arith) sound.chain);
        apart = HaveBlocks-placed (h ∷ es) (h ∷ after) (ap (λ ps. at ∷ ps) (Agree-newer newest (Some node) es).lie) apart;
        counted = let kept = length_agrees es after (Agree-newer newest (Some node) es) in let count = sound.counted in omega arith;
        fits = let fits = sound.fits in omega arith;
        narrow = sound.narrow;
      })

      store_added : store_of joined (added + 1) ≡ with_node (store_of es added) node value
      store_added = ap (λ l. store_of l (added + 1)) moved ∙ (λ i. record {
        width = N;
        added = added + 1;
        nodes = map.insert (map.from_entries ((Agree-newer newest (Some node) es).entries i)) (number_at at) (record { node = node; age = added; value = value; links = all_empty N s leads_nowhere i });
        ages = map.insert (map.from_entries ((Agree-newer newest (Some node) es).ages i)) added node;
      })

      absent : nodes (store_of es added) (number_at at) ≡ None
      unfolding nodes
      absent = ap (option_map (λ (e : Entry R). e.node)) (get_at es (number_at at) ∙ ap (option_map entry_at) (free_none (number_at at) es apart.0))

      pub IsAdded-added : (old : Store R) → store_of es added ≡ old → IsAdded old (store_of joined (added + 1)) n value
      IsAdded-added old view =
          let adds = Adds-with_node (store_of es added) node value absent in
          rw (← view, store_added, its) (record { age = adds.age; count = refl; added = AddsNode-added _ _ node value adds; len = len-with_node (store_of es added) node value absent })
