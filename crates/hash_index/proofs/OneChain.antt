-- One chain among all.
use Rattle.std.proofs.Common.{◌≡◌, ◌≢◌, ℕ, zero, suc, ◌+◌, ◌<◌, ◌≤◌, List, [], ◌∷◌, ◌++◌, length, map, get_or, set, drop, Option, Some, None, option_and_then, refl, sym, ap, ◌∙◌, subst, arith, append_assoc, length-append}
use Rattle.std.specs.List.{AllByRecursion}
use Rattle.std.specs.Option.{option_map}
use Rattle.node_store.specs.declared.Node.{Node}
use Rattle.node_store.specs.declared.Link.{Link}
use Rattle.node_store.specs.Column.{Column}
use Rattle.node_store.specs.Nodes.{IsSameAt, AllNodes, first_or}
use Rattle.list_model.proofs.Lists.{All-join}
use Rattle.list_model.proofs.InOrder.{All-map}
use Rattle.seq_index.specs.Links.{Runs, chain_link}
use Rattle.seq_index.specs.Spelled.{follow, following}
use Rattle.seq_index.proofs.Runs.{Runs-same}
use Rattle.hash_index.specs.Chains.{untagged, IsIn, IsChain, AreChains, joined, first_head}
use Rattle.hash_index.specs.Walks.{Leads}
use Rattle.hash_index.proofs.Rising.{rising_same}
use Rattle.hash_index.proofs.Untagged.{tag_of, same_untagged, tagged_node, in_tag}

-- the node is in another chain, or in none
abbrev pub IsElsewhere : Column → (ℕ → ℕ) → ℕ → Node → Type 0
IsElsewhere c to b n = IsIn c to b n → ⊥

pub elsewhere_from : (c : Column) (to : ℕ → ℕ) (b k : ℕ) (n : Node) → b ≢ k → IsIn c to k n → IsElsewhere c to b n
elsewhere_from c to b k n ne h = λ e. let bad : Some b ≡ Some k = sym e ∙ h in ne cc

pub same_parts : (c d : Column) (xs ys : List Node) → IsSameAt c d (xs ++ ys) → IsSameAt c d xs × IsSameAt c d ys
same_parts c d [] ys h = (tt, h)
same_parts c d (x ∷ xs) ys h = let r = same_parts c d xs ys h.1 in ((h.0, r.0), r.1)

in_into : (c : Column) (to into : ℕ → ℕ) (b : ℕ) → ((hash : ℕ) → to hash ≡ b → into hash ≡ b) → (n : Node) → IsIn c to b n → IsIn c into b n
in_into c to into b keeps n h = let t = in_tag c to b n h in ap (option_map into) t.1.0 ∙ ap Some (keeps t.0 t.1.1)

in_same : (c d : Column) (to into : ℕ → ℕ) (b : ℕ) → ((hash : ℕ) → to hash ≡ b → into hash ≡ b) → (xs : List Node) → IsSameAt c d xs → AllByRecursion (IsIn c to b) xs → AllByRecursion (IsIn d into b) xs
in_same c d to into b keeps [] s h = tt
in_same c d to into b keeps (x ∷ xs) s h =
    (ap (λ o. option_map into (option_map tag_of o)) s.0 ∙ in_into c to into b keeps x h.0, in_same c d to into b keeps xs s.1 h.1)

-- a chain whose links stay, where each hash that led to its chain still does
pub chain_same : {ages : Node → ℕ} (c d : Column) (to into : ℕ → ℕ) (b : ℕ) → ((hash : ℕ) → to hash ≡ b → into hash ≡ b) → (head : Option Node) (xs : List Node) → IsSameAt c d xs → IsChain ages c to b head xs → IsChain ages d into b head xs
chain_same {ages} c d to into b keeps head xs s h = record {
  first = h.first;
  runs = Runs-same (untagged c) (untagged d) None xs None (same_untagged c d xs s) h.runs;
  members = in_same c d to into b keeps xs s h.members;
  rising = rising_same ages c d xs s h.rising;
}

pub chains_same : (ages : Node → ℕ) (c d : Column) (to into : ℕ → ℕ) (b : ℕ) → ((k : ℕ) → b ≤ k → (hash : ℕ) → to hash ≡ k → into hash ≡ k) → (heads : List (Option Node)) (xss : List (List Node)) → IsSameAt c d (joined xss) → AreChains ages c to b heads xss → AreChains ages d into b heads xss
chains_same ages c d to into b keeps [] [] s h = tt
chains_same ages c d to into b keeps [] (xs ∷ xss) s h = h
chains_same ages c d to into b keeps (head ∷ heads) [] s h = h
chains_same ages c d to into b keeps (head ∷ heads) (xs ∷ xss) s h =
    let p = same_parts c d xs (joined xss) s in
    (chain_same c d to into b (keeps b (omega arith)) head xs p.0 h.0, chains_same ages c d to into (b + 1) (λ k le. keeps k (omega arith)) heads xss p.1 h.1)

-- no node of a later chain is in this one
elsewhere_after : (ages : Node → ℕ) (c : Column) (to : ℕ → ℕ) (b k : ℕ) (heads : List (Option Node)) (xss : List (List Node)) → b < k → AreChains ages c to k heads xss → AllByRecursion (IsElsewhere c to b) (joined xss)
elsewhere_after ages c to b k [] [] lt h = tt
elsewhere_after ages c to b k [] (xs ∷ xss) lt h = absurd h
elsewhere_after ages c to b k (head ∷ heads) [] lt h = absurd h
elsewhere_after ages c to b k (head ∷ heads) (xs ∷ xss) lt h =
    let ne : b ≢ k = omega arith in
    All-join (IsElsewhere c to b) xs (joined xss) (All-map (IsIn c to k) (IsElsewhere c to b) (λ n e. elsewhere_from c to b k n ne e) xs h.0.members)
    (elsewhere_after ages c to b (k + 1) heads xss (omega arith) h.1)

-- the first node of all
pub heads_first : (ages : Node → ℕ) (c : Column) (to : ℕ → ℕ) (b : ℕ) (heads : List (Option Node)) (xss : List (List Node)) → AreChains ages c to b heads xss → first_head heads ≡ first_or (joined xss) None
heads_first ages c to b [] [] h = refl
heads_first ages c to b [] (xs ∷ xss) h = absurd h
heads_first ages c to b (head ∷ heads) [] h = absurd h
heads_first ages c to b (None ∷ heads) ([] ∷ xss) h = heads_first ages c to (b + 1) heads xss h.1
heads_first ages c to b (None ∷ heads) ((x ∷ xs) ∷ xss) h = let e = h.0.first in cc
heads_first ages c to b (Some n ∷ heads) ([] ∷ xss) h = let e = h.0.first in cc
heads_first ages c to b (Some n ∷ heads) ((x ∷ xs) ∷ xss) h = h.0.first

-- chains from these first nodes that have these nodes in all
pub record Hangs (ages : Node → ℕ) (c : Column) (to : ℕ → ℕ) (k : ℕ) (heads : List (Option Node)) (xs : List Node) : Type 0 where
  pub chains : List (List Node)
  pub are : AreChains ages c to k heads chains
  pub whole : joined chains ≡ xs

-- each hash that leads to another chain than this one leads there as before
abbrev pub KeepsOtherChains : (ℕ → ℕ) → (ℕ → ℕ) → ℕ → Type 0
KeepsOtherChains to into b = (hash : ℕ) → to hash ≢ b → into hash ≡ to hash

kept_to : (to into : ℕ → ℕ) (b k : ℕ) → KeepsOtherChains to into b → k ≢ b → (hash : ℕ) → to hash ≡ k → into hash ≡ k
kept_to to into b k keeps ne hash e = keeps hash (λ f. ne (sym e ∙ f)) ∙ e

-- one chain, with what stands before and after it, and what another chain in its place makes
pub record Focus (ages : Node → ℕ) (c : Column) (to : ℕ → ℕ) (k j b : ℕ) (heads : List (Option Node)) (xs : List Node) : Type 0 where
  pub front : List Node
  pub chain : List Node
  pub back : List Node
  pub whole : xs ≡ front ++ (chain ++ back)
  pub here : IsChain ages c to b (get_or heads j None) chain
  pub before : AllByRecursion (IsElsewhere c to b) front
  pub after : AllByRecursion (IsElsewhere c to b) back
  pub later : first_head (drop (j + 1) heads) ≡ first_or back None
  pub with_chain : (d : Column) (into : ℕ → ℕ) → KeepsOtherChains to into b → (head : Option Node) (ys : List Node) → IsSameAt c d front → IsSameAt c d back → IsChain ages d into b head ys → Hangs ages d into k (set heads j head) (front ++ (ys ++ back))

focus_at : {ages : Node → ℕ} (c : Column) (to : ℕ → ℕ) (k j b : ℕ) (heads : List (Option Node)) (xss : List (List Node)) → b ≡ k + j → j < length heads → AreChains ages c to k heads xss → Focus ages c to k j b heads (joined xss)
focus_at {ages} c to k j b [] xss e lt h = absurd (omega arith)
focus_at {ages} c to k j b (head ∷ heads) [] e lt h = absurd h
focus_at {ages} c to k zero b (head ∷ heads) (xs ∷ xss) e lt h =
    let same : k ≡ b = omega arith in
    record {
      front = [];
      chain = xs;
      back = joined xss;
      whole = refl;
      here = subst (λ z. IsChain ages c to z head xs) same h.0;
      before = tt;
      after = elsewhere_after ages c to b (k + 1) heads xss (omega arith) h.1;
      later = heads_first ages c to (k + 1) heads xss h.1;
      with_chain = λ d into keeps new ys sf sb chain.
          record { chains = ys ∷ xss; are = (subst (λ z. IsChain ages d into z new ys) (sym same) chain, chains_same ages c d to into (k + 1) (λ m le. kept_to to into b m keeps (omega arith)) heads xss sb h.1); whole = refl };
    }
focus_at {ages} c to k (suc j) b (head ∷ heads) (xs ∷ xss) e lt h =
    let r = focus_at c to (k + 1) j b heads xss (omega arith) (omega arith) h.1 in
    let ne : b ≢ k = omega arith in
    let past : suc j + 1 ≡ suc (j + 1) = omega arith in
    record {
      front = xs ++ r.front;
      chain = r.chain;
      back = r.back;
      whole = ap (λ z. xs ++ z) r.whole ∙ sym (append_assoc xs r.front (r.chain ++ r.back));
      here = r.here;
      before = All-join (IsElsewhere c to b) xs r.front (All-map (IsIn c to k) (IsElsewhere c to b) (λ n i. elsewhere_from c to b k n ne i) xs h.0.members) r.before;
      after = r.after;
      later = ap (λ m. first_head (drop m (head ∷ heads))) past ∙ r.later;
      with_chain = λ d into keeps new ys sf sb chain.
          let p = same_parts c d xs r.front sf in
          let q = r.with_chain d into keeps new ys p.1 sb chain in
          record { chains = xs ∷ q.chains; are = (chain_same c d to into k (kept_to to into b k keeps (λ e. ne (sym e))) head xs p.0 h.0, q.are); whole = ap (λ z. xs ++ z) q.whole ∙ sym (append_assoc xs r.front (ys ++ r.back)) };
    }

pub focus : {ages : Node → ℕ} (c : Column) (to : ℕ → ℕ) (b : ℕ) (heads : List (Option Node)) (xss : List (List Node)) → b < length heads → AreChains ages c to 0 heads xss → Focus ages c to 0 b b heads (joined xss)
focus {ages} c to b heads xss lt h = focus_at c to 0 b b heads xss (omega arith) lt h

-- ---- walks

pub leads_runs : (c : Column) (p : Option Node) (xs : List Node) → Runs (untagged c) p xs None → Leads (untagged c) (first_or xs None) xs
leads_runs c p [] h = refl
leads_runs c p (x ∷ xs) h =
    let e : following (untagged c) x ≡ first_or xs None = ap (λ (o : Option Link). option_and_then (λ l. l.b) o) h.0 in
    (refl, record { block = chain_link p (first_or xs None); is = h.0 }, subst (λ o. Leads (untagged c) o xs) (sym e) (leads_runs c (Some x) xs h.1))

pub follow_leads : (c : Column) (at : Option Node) (xs : List Node) (k : ℕ) → length xs ≤ k → Leads c at xs → follow c at k ≡ xs
follow_leads c at [] zero le h = refl
follow_leads c at [] (suc k) le h = ap (λ o. follow c o (suc k)) h
follow_leads c at (x ∷ xs) zero le h = absurd (omega arith)
follow_leads c at (x ∷ xs) (suc k) le h = ap (λ o. follow c o (suc k)) h.0 ∙ ap (λ z. x ∷ z) (follow_leads c (following c x) xs k (omega arith) h.2)

pub length-follow : (c : Column) (at : Option Node) (k : ℕ) → length (follow c at k) ≤ k
length-follow c at zero = omega arith
length-follow c None (suc k) = omega arith
length-follow c (Some n) (suc k) = let r = length-follow c (following c n) k in omega arith

-- the nodes of a chain after one of them
pub leads_past : (c : Column) (at : Option Node) (xs : List Node) (n : Node) (ys : List Node) → Leads c at (xs ++ n ∷ ys) → Leads c (following c n) ys
leads_past c at [] n ys h = h.2
leads_past c at (x ∷ xs) n ys h = leads_past c (following c x) xs n ys h.2

-- the chains are those that their first nodes lead through
pub chains_are : (ages : Node → ℕ) (c : Column) (to : ℕ → ℕ) (b k : ℕ) (heads : List (Option Node)) (xss : List (List Node)) → length (joined xss) ≤ k → AreChains ages c to b heads xss → map (λ head. follow (untagged c) head k) heads ≡ xss
chains_are ages c to b k [] [] le h = refl
chains_are ages c to b k [] (xs ∷ xss) le h = absurd h
chains_are ages c to b k (head ∷ heads) [] le h = absurd h
chains_are ages c to b k (head ∷ heads) (xs ∷ xss) le h =
    let both = length-append xs (joined xss) in
    let here : follow (untagged c) head k ≡ xs = follow_leads (untagged c) head xs k (omega arith) (subst (λ o. Leads (untagged c) o xs) (sym h.0.first) (leads_runs c None xs h.0.runs)) in
    ap (λ z. z ∷ map (λ o. follow (untagged c) o k) heads) here ∙ ap (λ z. xs ∷ z) (chains_are ages c to (b + 1) k heads xss (omega arith) h.1)

runs_nodes : (c : Column) (p : Option Node) (xs : List Node) → Runs (untagged c) p xs None → AllNodes c xs
runs_nodes c p [] h = tt
runs_nodes c p (x ∷ xs) h = (tagged_node c x (record { block = chain_link p (first_or xs None); is = h.0 }), runs_nodes c (Some x) xs h.1)

nodes_join : (c : Column) (xs ys : List Node) → AllNodes c xs → AllNodes c ys → AllNodes c (xs ++ ys)
nodes_join c [] ys h k = k
nodes_join c (x ∷ xs) ys h k = (h.0, nodes_join c xs ys h.1 k)

-- the column has each node
pub chains_nodes : (ages : Node → ℕ) (c : Column) (to : ℕ → ℕ) (b : ℕ) (heads : List (Option Node)) (xss : List (List Node)) → AreChains ages c to b heads xss → AllNodes c (joined xss)
chains_nodes ages c to b [] [] h = tt
chains_nodes ages c to b [] (xs ∷ xss) h = absurd h
chains_nodes ages c to b (head ∷ heads) [] h = absurd h
chains_nodes ages c to b (head ∷ heads) (xs ∷ xss) h = nodes_join c xs (joined xss) (runs_nodes c None xs h.0.runs) (chains_nodes ages c to (b + 1) heads xss h.1)
