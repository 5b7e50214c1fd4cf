-- Chains stay what they are where the ages of their nodes stay.
use Rattle.std.proofs.Common.{◌≡◌, ℕ, ◌<◌, ◌+◌, List, [], ◌∷◌, Option, sym, subst, arith}
use Rattle.std.specs.List.{AllByRecursion}
use Rattle.node_store.specs.declared.Node.{Node}
use Rattle.node_store.specs.Column.{Column}
use Rattle.node_store.specs.Nodes.{AllNodes, Lacks}
use Rattle.node_store.specs.Store.{Store, age_of}
use Rattle.node_store.specs.ByNode.{column_of, contents, AddsNode, RemovesNode}
use Rattle.node_store.proofs.ByNode.{node_of_column, ages_kept}
use Rattle.list_model.proofs.Kept.{All-split}
use Rattle.hash_index.specs.declared.HashIndex.{HashIndex}
use Rattle.hash_index.specs.Chains.{AreChains, joined}
use Rattle.hash_index.specs.Rising.{Rises, IsRising}
use Rattle.hash_index.specs.Oldest.{IsOldestOf}
use Rattle.hash_index.specs.Spelled.{Spells, all_of, leads_to}
use Rattle.hash_index.proofs.Oldest.{oldest_kept}
use Rattle.hash_index.proofs.Spelling.{hangs_of, Spells_from}

-- the nodes have the same ages
abbrev pub AreAged : (before after : Node → ℕ) → List Node → Type 0
AreAged before after xs = AllByRecursion (λ m. after m ≡ before m) xs

module _ (before after : Node → ℕ) where
  above : (x : Node) (xs : List Node) → after x ≡ before x → AreAged before after xs → AllByRecursion (λ y. before x < before y) xs → AllByRecursion (λ y. after x < after y) xs
  above x [] e same h = tt
  above x (y ∷ ys) e same h = (omega (arith, e, same.0, h.0), above x ys e same.1 h.1)

  rises_aged : (xs : List Node) → AreAged before after xs → Rises before xs → Rises after xs
  rises_aged [] same h = tt
  rises_aged (x ∷ xs) same h = (above x xs same.0 same.1 h.0, rises_aged xs same.1 h.1)

  rising_aged : (c : Column) (xs : List Node) → AreAged before after xs → IsRising before c xs → IsRising after c xs
  rising_aged c xs same h = λ m e. let r = h m e in (r.0, rises_aged xs same r.1)

  chains_aged : (c : Column) (to : ℕ → ℕ) (b : ℕ) (heads : List (Option Node)) (xss : List (List Node)) → AreAged before after (joined xss) → AreChains before c to b heads xss → AreChains after c to b heads xss
  chains_aged c to b [] [] same h = tt
  chains_aged c to b [] (xs ∷ xss) same h = h
  chains_aged c to b (head ∷ heads) [] same h = h
  chains_aged c to b (head ∷ heads) (xs ∷ xss) same h =
      let parts = All-split (λ m. after m ≡ before m) xs (joined xss) same in (
        record { first = h.0.first; runs = h.0.runs; members = h.0.members; rising = rising_aged c xs parts.0 h.0.rising },
        chains_aged c to (b + 1) heads xss parts.1 h.1,
      )

  oldest_aged : (c : Column) (xs : List Node) (n : Node) → after n ≡ before n → AreAged before after xs → IsOldestOf before c xs n → IsOldestOf after c xs n
  oldest_aged c [] n e same h = tt
  oldest_aged c (x ∷ xs) n e same h = ((λ tag ne. let lt = h.0 tag ne in omega (arith, lt, e, same.0)), oldest_aged c xs n e same.1 h.1)

  pub Spells_aged : (cs : ℕ → Column) (i : HashIndex) (xs : List Node) → AreAged before after xs → Spells before cs i xs → Spells after cs i xs
  Spells_aged cs i xs same h =
      let k = hangs_of cs i xs h in
      let all : AreAged before after (joined k.chains) = subst (AreAged before after) (sym k.whole) same in
      Spells_from cs i xs (record { chains = k.chains; are = chains_aged (cs i.col) (leads_to i) 0 _ k.chains all k.are; whole = k.whole }) h.distinct h.len h.load h.right
      (oldest_kept before after (cs i.col) (cs i.col) (leads_to i) (λ m. after m ≡ before m) xs xs 0 (all_of i) k.chains k.are all (λ j m le e there old. oldest_aged (cs i.col) xs m e same old) h.oldest)

module _ {R : Type 0} (old new : Store R) where
  -- the ages stay with the contents
  pub Spells_contents : (cs : ℕ → Column) (i : HashIndex) (xs : List Node) → contents new ≡ contents old → Spells (age_of old) cs i xs → Spells (age_of new) cs i xs
  Spells_contents cs i xs e h = subst (λ ages. Spells ages cs i xs) (sym (ages_kept old new e)) h

  -- a node comes
  pub aged_added : (n : Node) (value : R) (col : ℕ) (xs : List Node) → AddsNode old new n value → AllNodes (column_of old col) xs → AreAged (age_of old) (age_of new) xs
  aged_added n value col [] a h = tt
  aged_added n value col (x ∷ xs) a h = (a.ages x (node_of_column old col x h.0), aged_added n value col xs a h.1)

  -- a node goes
  pub aged_removed : (n : Node) (col : ℕ) (xs : List Node) → RemovesNode old new n → Lacks xs n → AllNodes (column_of old col) xs → AreAged (age_of old) (age_of new) xs
  aged_removed n col [] r lacks h = tt
  aged_removed n col (x ∷ xs) r lacks h =
      (r.ages x (λ e. lacks.0 (sym e)) (node_of_column old col x h.0), aged_removed n col xs r lacks.1 h.1)
