-- The laws of what an index spells, for the crates above.
use Rattle.std.proofs.Common.{◌≡◌, ◌≢◌, ℕ, Bool, true, false, cond, not, List, [], ◌∷◌, ◌++◌, map, Option, refl, ap, sym, ◌∙◌, subst}
use Rattle.std.specs.Prelude.{IsPermutation}
use Rattle.std.proofs.lemmas.List.Sorted.{IsPermutation-middle}
use Rattle.std.specs.Option.{option_map}
use Rattle.node_store.specs.declared.Node.{Node}
use Rattle.node_store.specs.declared.Link.{Link}
use Rattle.node_store.specs.Column.{Column, IsNode}
use Rattle.node_store.specs.Nodes.{AllNodes, Lacks, IsDistinct}
use Rattle.node_store.specs.Store.{Store, IsNodeOf, age_of}
use Rattle.node_store.specs.ByNode.{column_of, record_of, contents, same_node, AddsNode, RemovesNode}
use Rattle.node_store.proofs.ByNode.{lacks_added, same_added, same_removed, node_of_column, records_kept, same_node-true}
use Rattle.node_store.proofs.Members.{differ}
use Rattle.node_store.proofs.NodeLists.{IsSameAt-kept}
use Rattle.list_model.specs.Walk.{without}
use Rattle.list_model.proofs.Lists.{All-moved}
use Rattle.list_model.proofs.Kept.{All-filter}
use Rattle.seq_index.specs.Spelled.{follow}
use Rattle.seq_index.proofs.Walks.{without_at}
use Rattle.hash_index.specs.declared.HashIndex.{HashIndex}
use Rattle.hash_index.specs.Chains.{tag_at, KeepsTags, joined, untagged}
use Rattle.hash_index.specs.Spelled.{heads_of, Spells, IsSound, spelled, col_of, Holds}
use Rattle.hash_index.specs.Hashed.{KeepsHash, IsHashed}
use Rattle.hash_index.proofs.Spelling as spelling
use Rattle.hash_index.proofs.Spelling.{nodes_at}
pub use Rattle.hash_index.proofs.Aged.{Spells_aged, Spells_contents, aged_added, aged_removed}
pub use Rattle.hash_index.proofs.Spelling.{spelled_is, IsSound_from}

pub Spells_distinct : {ages : Node → ℕ} (cs : ℕ → Column) (i : HashIndex) (xs : List Node) → Spells ages cs i xs → IsDistinct xs
Spells_distinct {ages} cs i xs h = h.distinct

-- an index stays as it is where its column stays
pub spelled_kept : (cs ds : ℕ → Column) (i : HashIndex) → ds (col_of i) ≡ cs (col_of i) → spelled ds i ≡ spelled cs i
unfolding spelled
spelled_kept cs ds i e = ap (λ (c : Column). joined (map (λ head. follow (untagged c) head i.len) (heads_of i))) e

pub Spells_kept : {ages : Node → ℕ} (cs ds : ℕ → Column) (i : HashIndex) (xs : List Node) → ds (col_of i) ≡ cs (col_of i) → Spells ages cs i xs → Spells ages ds i xs
Spells_kept {ages} cs ds i xs e h = spelling.Spells_same cs ds i xs (IsSameAt-kept (cs (col_of i)) (ds (col_of i)) xs e) h

pub IsSound_kept : {ages : Node → ℕ} (cs ds : ℕ → Column) (i : HashIndex) → ds (col_of i) ≡ cs (col_of i) → IsSound ages cs i → IsSound ages ds i
IsSound_kept {ages} cs ds i e h = IsSound_from ds i (spelled cs i) (Spells_kept cs ds i (spelled cs i) e h)

-- ---- nodes that calls take out

without_by : (xs : List Node) (n x : Node) (b : Bool) → same_node n x ≡ b → Lacks (without (same_node n) xs) n → Lacks (cond (not b) (x ∷ without (same_node n) xs) (without (same_node n) xs)) n
without_by xs n x true e h = h
without_by xs n x false e h = (differ n x e, h)

-- the list without a node lacks it
pub Lacks_without : (xs : List Node) (n : Node) → Lacks (without (same_node n) xs) n
Lacks_without [] n = tt
Lacks_without (x ∷ xs) n = without_by xs n x (same_node n x) refl (Lacks_without xs n)

-- ---- when nodes come and go in the store

-- the store has each node of the list
pub Spells_nodes : {ages : Node → ℕ} (cs : ℕ → Column) (i : HashIndex) (xs : List Node) → Spells ages cs i xs → AllNodes (cs (col_of i)) xs
Spells_nodes {ages} = spelling.Spells_nodes

module _ {R : Type 0} where
  pub Spells_added : (old new : Store R) (n : Node) (value : R) (i : HashIndex) (xs : List Node) → AddsNode old new n value → Spells (age_of old) (column_of old) i xs → Spells (age_of new) (column_of new) i xs
  Spells_added old new n value i xs a h =
      let nodes = Spells_nodes (column_of old) i xs h in
      Spells_aged (age_of old) (age_of new) (column_of new) i xs (aged_added old new n value (col_of i) xs a nodes)
      (spelling.Spells_same (column_of old) (column_of new) i xs (same_added old new n value (col_of i) xs a nodes) h)

  -- the new node is not in the list
  pub Lacks_added : {ages : Node → ℕ} (old new : Store R) (n : Node) (value : R) (i : HashIndex) (xs : List Node) → AddsNode old new n value → Spells ages (column_of old) i xs → Lacks xs n
  Lacks_added {ages} old new n value i xs a h = lacks_added old new n value (col_of i) xs a (Spells_nodes (column_of old) i xs h)

  pub Spells_removed : (old new : Store R) (n : Node) (i : HashIndex) (xs : List Node) → RemovesNode old new n → Lacks xs n → Spells (age_of old) (column_of old) i xs → Spells (age_of new) (column_of new) i xs
  Spells_removed old new n i xs r lacks h =
      Spells_aged (age_of old) (age_of new) (column_of new) i xs (aged_removed old new n (col_of i) xs r lacks (Spells_nodes (column_of old) i xs h))
      (spelling.Spells_same (column_of old) (column_of new) i xs (same_removed old new n (col_of i) xs r lacks) h)

  pub spelled_added : (old new : Store R) (n : Node) (value : R) (i : HashIndex) → AddsNode old new n value → IsSound (age_of old) (column_of old) i → spelled (column_of new) i ≡ spelled (column_of old) i
  spelled_added old new n value i a h = spelled_is (column_of new) i (spelled (column_of old) i) (Spells_added old new n value i (spelled (column_of old) i) a h)

  pub IsSound_added : (old new : Store R) (n : Node) (value : R) (i : HashIndex) → AddsNode old new n value → IsSound (age_of old) (column_of old) i → IsSound (age_of new) (column_of new) i
  IsSound_added old new n value i a h = IsSound_from (column_of new) i (spelled (column_of old) i) (Spells_added old new n value i (spelled (column_of old) i) a h)

  pub Lacks_spelled_added : (old new : Store R) (n : Node) (value : R) (i : HashIndex) → AddsNode old new n value → IsSound (age_of old) (column_of old) i → Lacks (spelled (column_of new) i) n
  Lacks_spelled_added old new n value i a h = subst (λ (z : List Node). Lacks z n) (sym (spelled_added old new n value i a h)) (Lacks_added old new n value i (spelled (column_of old) i) a h)

  -- a node of the list is one of the column
  pub node_linked : {ages : Node → ℕ} (s : Store R) (i : HashIndex) (n : Node) → IsSound ages (column_of s) i → Holds (spelled (column_of s) i) n → IsNode (column_of s (col_of i)) n
  node_linked {ages} s i n h k =
      nodes_at (column_of s (col_of i)) k.before n k.after (subst (λ z. AllNodes (column_of s (col_of i)) z) k.is (Spells_nodes (column_of s) i (spelled (column_of s) i) h))

  -- and of the store
  pub node_held : {ages : Node → ℕ} (s : Store R) (i : HashIndex) (n : Node) → IsSound ages (column_of s) i → Holds (spelled (column_of s) i) n → IsNodeOf s n
  node_held {ages} s i n h k = node_of_column s (col_of i) n (node_linked s i n h k)

-- ---- hashes that the column keeps

module _ {R : Type 0} (hash : R → ℕ) (old new : Store R) (col : ℕ) where
  -- they stay where tags and records stay
  pub IsHashed_tags : (xs : List Node) → KeepsTags (column_of old col) (column_of new col) → contents new ≡ contents old → IsHashed hash old col xs → IsHashed hash new col xs
  IsHashed_tags [] tags e h = tt
  IsHashed_tags (x ∷ xs) tags e h =
      (tags x ∙ (h.0 ∙ sym (ap (λ (f : Node → Option R). option_map hash (f x)) (records_kept old new e))), IsHashed_tags xs tags e h.1)

  -- or where links and records of all other nodes stay, as when a node comes or goes, or its record is written
  pub IsHashed_others : (n : Node) (xs : List Node) → ((m : Node) → m ≢ n → tag_at (column_of new col) m ≡ tag_at (column_of old col) m) → ((m : Node) → m ≢ n → record_of new m ≡ record_of old m) → Lacks xs n → IsHashed hash old col xs → IsHashed hash new col xs
  IsHashed_others n [] tags records lacks h = tt
  IsHashed_others n (x ∷ xs) tags records lacks h =
      let ne : x ≢ n = λ e. lacks.0 (sym e) in
      (tags x ne ∙ (h.0 ∙ sym (ap (option_map hash) (records x ne))), IsHashed_others n xs tags records lacks.1 h.1)

  pub IsHashed_added : (n : Node) (value : R) (xs : List Node) → AddsNode old new n value → Lacks xs n → IsHashed hash old col xs → IsHashed hash new col xs
  IsHashed_added n value xs a lacks h = IsHashed_others n xs (λ m ne. ap (option_map (λ (l : Link). l.tag)) ((a.columns col).others m ne)) a.records.others lacks h

  pub IsHashed_removed : (n : Node) (xs : List Node) → RemovesNode old new n → Lacks xs n → IsHashed hash old col xs → IsHashed hash new col xs
  IsHashed_removed n xs r lacks h = IsHashed_others n xs (λ m ne. ap (option_map (λ (l : Link). l.tag)) ((r.columns col).others m ne)) r.records.others lacks h

module _ {R : Type 0} (hash : R → ℕ) (s : Store R) (col : ℕ) where
  pub IsHashed_moved : (xs ys : List Node) → IsPermutation xs ys → IsHashed hash s col xs → IsHashed hash s col ys
  IsHashed_moved xs ys moved h = All-moved (KeepsHash hash s col) xs ys moved h

  pub IsHashed_without : (n : Node) (xs : List Node) → IsHashed hash s col xs → IsHashed hash s col (without (same_node n) xs)
  IsHashed_without n xs h = All-filter (KeepsHash hash s col) (λ y. not (same_node n y)) xs h

  all_by : (n x : Node) (l xs : List Node) (b : Bool) → same_node n x ≡ b → KeepsHash hash s col n → (IsHashed hash s col l → IsHashed hash s col xs) → IsHashed hash s col (cond (not b) (x ∷ l) l) → IsHashed hash s col (x ∷ xs)
  all_by n x l xs true e one rest h = (subst (KeepsHash hash s col) (same_node-true n x e) one, rest h)
  all_by n x l xs false e one rest h = (h.0, rest h.1)

  -- hashed but for one node, and that one too
  pub IsHashed_all : (n : Node) (xs : List Node) → KeepsHash hash s col n → IsHashed hash s col (without (same_node n) xs) → IsHashed hash s col xs
  IsHashed_all n [] one h = tt
  IsHashed_all n (x ∷ xs) one h = all_by n x (without (same_node n) xs) xs (same_node n x) refl one (IsHashed_all n xs one) h

module _ {R : Type 0} (hash : R → ℕ) (old new : Store R) (col : ℕ) where
  -- one more node, put in by the hash of its record
  pub IsHashed_put : (n : Node) (xs ys : List Node) → tag_at (column_of new col) n ≡ option_map hash (record_of old n) → ((m : Node) → m ≢ n → tag_at (column_of new col) m ≡ tag_at (column_of old col) m) → contents new ≡ contents old → Lacks xs n → IsPermutation (n ∷ xs) ys → IsHashed hash old col xs → IsHashed hash new col ys
  IsHashed_put n xs ys tag tags e lacks moved h =
      let record_kept : (m : Node) → record_of new m ≡ record_of old m = λ m. ap (λ (f : Node → Option R). f m) (records_kept old new e) in
      IsHashed_moved hash new col (n ∷ xs) ys moved
      (tag ∙ sym (ap (option_map hash) (record_kept n)), IsHashed_others hash old new col n xs tags (λ m ne. record_kept m) lacks h)

-- a list has a node and the rest
pub Holds_moved : (xs : List Node) (n : Node) → IsDistinct xs → Holds xs n → IsPermutation xs (n ∷ without (same_node n) xs)
Holds_moved xs n dist h =
    subst (λ z. IsPermutation xs (n ∷ z)) (sym (ap (λ z. without (same_node n) z) h.is ∙ without_at h.before n h.after (subst IsDistinct h.is dist)))
    (subst (λ z. IsPermutation z (n ∷ (h.before ++ h.after))) (sym h.is) (IsPermutation-middle h.before n h.after))
