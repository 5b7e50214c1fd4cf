-- What a store finds in its chain of blocks.
use Rattle.std.proofs.Common.{◌≡◌, ◌≢◌, ℕ, zero, suc, replicate, ◌+◌, ◌<◌, ◌≤◌, cond, is_some, List, [], ◌∷◌, length, Option, Some, None, refl, sym, ap, ◌∙◌, subst, ⊎_elim, arith, nat_cmp}
use Rattle.std.proofs.lemmas.Bool.{cases_eq}
use Rattle.std.proofs.lemmas.Option.{same_Some}
use Rattle.std.specs.Option.{option_map}
use Rattle.std.specs.Cmp.{nat_cmp_total}
use Rattle.std.specs.Prelude.{map as each}
use Rattle.std.specs.FinMap as map
use Rattle.std.specs.FinMap.{find}
use denote.RawPtr.{block_of as number_at}
use Rattle.node_store.specs.declared.Node.{Node}
use Rattle.node_store.specs.declared.shelf.Block.{Block}
use Rattle.node_store.specs.declared.stored.Row.{Row}
use Rattle.node_store.specs.declared.stored.Stored.{Stored}
use Rattle.node_store.specs.Stored.{link_of}
use Rattle.node_store.specs.Store.{Entry, IsNodeOf, number_of, nodes, no_link, no_links}
use Rattle.node_store.specs.Blocks.{Lying, found_in, with_block, HaveBlocks}
use Rattle.node_store.specs.Chain.{node_at, entry_at, entries_of, listed, store_of, LiesThere, IsChain, IsSound}
use Rattle.node_store.proofs.Keyed.{find_head, find_tail, some_mapped}
use Rattle.node_store.proofs.Found.{found_head, found_tail, with_head, with_tail, free_none}

-- links of no nodes, so many times
pub all_empty : (n : ℕ) (s : Stored) → link_of s ≡ no_link → each link_of (replicate n s) ≡ no_links n
all_empty zero s e = refl
all_empty (suc n) s e = λ i. e i ∷ all_empty n s e i

-- a record's block, where it lies
abbrev pub Held : Type 0 → Type 0 → ℕ → Type 0
Held R A N = Lying (Block R (Row N)) A

module _ {R A : Type 0} {N : ℕ} where
  -- what holds of each block
  pub chain_block : (al : A) (newer newest : Option Node) (bound : ℕ) (es : List (Held R A N)) → IsChain al newer newest bound es → (k : ℕ) (h : Held R A N) → found_in k es ≡ Some h
      → (h.alloc ≡ al) × (length h.value.links.row ≡ N)
  chain_block al newer newest bound [] chain k h p = absurd (cc)
  chain_block al newer newest bound (e ∷ es) chain k h p =
      ⊎_elim
      (λ here. let same : e ≡ h = same_Some e h (sym (found_head k e es here) ∙ p) in
      (ap (λ (m : Held R A N). m.alloc) (sym same) ∙ chain.3, ap (λ (m : Held R A N). length m.value.links.row) (sym same) ∙ chain.4))
      (λ off. chain_block al (Some (node_at e)) e.value.older e.value.age es chain.6 k h (sym (found_tail k e es off) ∙ p))
      (cases_eq k (number_at e.at))

  -- it lies where its node leads
  pub chain_lies : (al : A) (newer newest : Option Node) (bound : ℕ) (es : List (Held R A N)) → IsChain al newer newest bound es → (k : ℕ) (h : Held R A N) → found_in k es ≡ Some h → LiesThere h
  chain_lies al newer newest bound [] chain k h p = absurd (cc)
  chain_lies al newer newest bound (e ∷ es) chain k h p =
      ⊎_elim
      (λ here. subst LiesThere (same_Some e h (sym (found_head k e es here) ∙ p)) chain.5)
      (λ off. chain_lies al (Some (node_at e)) e.value.older e.value.age es chain.6 k h (sym (found_tail k e es off) ∙ p))
      (cases_eq k (number_at e.at))

  -- its age is below the bound
  pub chain_below : (al : A) (newer newest : Option Node) (bound : ℕ) (es : List (Held R A N)) → IsChain al newer newest bound es → (k : ℕ) (h : Held R A N) → found_in k es ≡ Some h → h.value.age < bound
  chain_below al newer newest bound [] chain k h p = absurd (cc)
  chain_below al newer newest bound (e ∷ es) chain k h p =
      let lower = chain.2 in
      ⊎_elim
      (λ here. let same = ap (λ (m : Held R A N). m.value.age) (same_Some e h (sym (found_head k e es here) ∙ p)) in omega arith)
      (λ off. let less = chain_below al (Some (node_at e)) e.value.older e.value.age es chain.6 k h (sym (found_tail k e es off) ∙ p) in omega arith)
      (cases_eq k (number_at e.at))

  -- a write that keeps a block's age and its two neighbours
  pub chain_kept : (al : A) (newer newest : Option Node) (bound : ℕ) (es : List (Held R A N)) → IsChain al newer newest bound es → (n : ℕ) (h : Held R A N) (x : Block R (Row N)) → found_in n es ≡ Some h
      → x.age ≡ h.value.age → x.newer ≡ h.value.newer → x.older ≡ h.value.older → length x.links.row ≡ N → IsChain al newer newest bound (with_block n x es)
  chain_kept al newer newest bound [] chain n h x p age before after eight = absurd (cc)
  chain_kept al newer newest bound (e ∷ es) chain n h x p age before after eight =
      ⊎_elim
      (λ here. let same : h ≡ e = same_Some h e (sym p ∙ found_head n e es here) in
      let aged : x.age ≡ e.value.age = age ∙ ap (λ (m : Held R A N). m.value.age) same in
      let next : x.older ≡ e.value.older = after ∙ ap (λ (m : Held R A N). m.value.older) same in
      subst (IsChain al newer newest bound) (sym (with_head n x e es here)) (
        chain.0,
        before ∙ ap (λ (m : Held R A N). m.value.newer) same ∙ chain.1,
        subst (λ k. k < bound) (sym aged) chain.2,
        chain.3,
        eight,
        chain.5,
        subst (λ o. IsChain al (Some (node_at e)) o x.age es) (sym next) (subst (λ k. IsChain al (Some (node_at e)) e.value.older k es) (sym aged) chain.6),
      ))
      (λ off. subst (IsChain al newer newest bound) (sym (with_tail n x e es off)) (
        chain.0,
        chain.1,
        chain.2,
        chain.3,
        chain.4,
        chain.5,
        chain_kept al (Some (node_at e)) e.value.older e.value.age es chain.6 n h x (sym (found_tail n e es off) ∙ p) age before after eight,
      ))
      (cases_eq n (number_at e.at))

  -- ---- the blocks by number

  find_entries : (k : ℕ) (es : List (Held R A N)) → find nat_cmp k (entries_of es) ≡ option_map entry_at (found_in k es)
  find_entries k [] = refl
  find_entries k (e ∷ es) =
      ⊎_elim
      (λ here. find_head k (number_at e.at) (entry_at e) (entries_of es) here ∙ sym (ap (option_map entry_at) (found_head k e es here)))
      (λ off. find_tail k (number_at e.at) (entry_at e) (entries_of es) off ∙ find_entries k es ∙ sym (ap (option_map entry_at) (found_tail k e es off)))
      (cases_eq k (number_at e.at))

  pub get_at : (es : List (Held R A N)) (k : ℕ) → map.get (map.from_entries {R = nat_cmp} (entries_of es)) k ≡ option_map entry_at (found_in k es)
  get_at es k = map.get-from_entries nat_cmp_total _ _ ∙ find_entries k es

  pub get_some : (es : List (Held R A N)) (k : ℕ) (h : Held R A N) → found_in k es ≡ Some h → map.get (map.from_entries {R = nat_cmp} (entries_of es)) k ≡ Some (entry_at h)
  get_some es k h p = get_at es k ∙ ap (option_map entry_at) p

  -- the block of what is at a number
  pub block_at : (es : List (Held R A N)) (added k : ℕ) (n : Node) → nodes (store_of es added) k ≡ Some n → (h : Held R A N) × (found_in k es ≡ Some h) × (node_at h ≡ n)
  unfolding nodes
  block_at es added k n p =
      let e = some_mapped (λ (x : Entry R). x.node) (map.get (store_of es added).nodes k) n p in
      let h = some_mapped entry_at (found_in k es) e.0 (sym (get_at es k) ∙ e.1) in
      (h.0, h.1, ap (λ (x : Entry R). x.node) h.2 ∙ e.2)

  -- the block of a node
  pub node_block : {es : List (Held R A N)} {al : A} {newest : Option Node} {len added : ℕ} → IsSound es al newest len added → (n : Node) → IsNodeOf (store_of es added) n
      → (h : Held R A N) × (found_in (number_of n) es ≡ Some h) × (h.at ≡ n.place.ptr)
  node_block {es} {al} {newest} {len} {added} sound n is =
      let b = block_at es added (number_of n) n is in
      (b.0, b.1, chain_lies al None newest added es sound.chain (number_of n) b.0 b.1 ∙ ap (λ (m : Node). m.place.ptr) b.2)

  -- ---- the nodes by age

  -- no block has an age above the bound
  pub listed_past : (al : A) (newer newest : Option Node) (bound : ℕ) (es : List (Held R A N)) → IsChain al newer newest bound es → (k : ℕ) → bound ≤ k → find nat_cmp k (listed es) ≡ None
  listed_past al newer newest bound [] chain k past = refl
  listed_past al newer newest bound (e ∷ es) chain k past =
      let lower = chain.2 in
      find_tail k e.value.age (node_at e) (listed es) (λ q. absurd (omega arith)) ∙ listed_past al (Some (node_at e)) e.value.older e.value.age es chain.6 k (omega arith)

  -- the node of each block is found at its age
  pub listed_here : (al : A) (newer newest : Option Node) (bound : ℕ) (es : List (Held R A N)) → IsChain al newer newest bound es → (k : ℕ) (h : Held R A N) → found_in k es ≡ Some h
      → find nat_cmp h.value.age (listed es) ≡ Some (node_at h)
  listed_here al newer newest bound [] chain k h p = absurd (cc)
  listed_here al newer newest bound (e ∷ es) chain k h p =
      ⊎_elim
      (λ here. let same : e ≡ h = same_Some e h (sym (found_head k e es here) ∙ p) in
      find_head h.value.age e.value.age (node_at e) (listed es) (ap (λ (m : Held R A N). m.value.age) (sym same)) ∙ ap (λ (m : Held R A N). Some (node_at m)) same)
      (λ off. let later = sym (found_tail k e es off) ∙ p in
      let less = chain_below al (Some (node_at e)) e.value.older e.value.age es chain.6 k h later in
      find_tail h.value.age e.value.age (node_at e) (listed es) (λ q. absurd (omega arith)) ∙ listed_here al (Some (node_at e)) e.value.older e.value.age es chain.6 k h later)
      (cases_eq k (number_at e.at))

  -- what is found at an age is the node of a block that has it
  pub listed_found : (es : List (Held R A N)) → HaveBlocks es → (k : ℕ) (n : Node) → find nat_cmp k (listed es) ≡ Some n
      → (h : Held R A N) × (found_in (number_of n) es ≡ Some h) × (h.value.age ≡ k) × (node_at h ≡ n)
  listed_found [] apart k n p = absurd (cc)
  listed_found (e ∷ es) apart k n p =
      ⊎_elim
      (λ here. let same : node_at e ≡ n = same_Some (node_at e) n (sym (find_head k e.value.age (node_at e) (listed es) here) ∙ p) in
      (e, found_head (number_of n) e es (ap number_of (sym same)), sym here, same))
      (λ off. let r = listed_found es apart.1 k n (sym (find_tail k e.value.age (node_at e) (listed es) off) ∙ p) in
      let away : number_of n ≢ number_at e.at = λ q. let none = sym r.1 ∙ ap (λ m. found_in m es) q ∙ free_none (number_at e.at) es apart.0 in cc none in
      (r.0, found_tail (number_of n) e es away ∙ r.1, r.2, r.3))
      (cases_eq k e.value.age)

  -- a write that keeps a block's age
  pub listed_with : (n : ℕ) (x : Block R (Row N)) (es : List (Held R A N)) (h : Held R A N) → found_in n es ≡ Some h → x.age ≡ h.value.age → listed (with_block n x es) ≡ listed es
  listed_with n x [] h p age = refl
  listed_with n x (e ∷ es) h p age =
      ⊎_elim
      (λ here. let same : h ≡ e = same_Some h e (sym p ∙ found_head n e es here) in
      ap listed (with_head n x e es here) ∙ ap (λ k. (k, node_at e) ∷ listed es) (age ∙ ap (λ (m : Held R A N). m.value.age) same))
      (λ off. ap listed (with_tail n x e es off) ∙ ap (λ ls. (e.value.age, node_at e) ∷ ls) (listed_with n x es h (sym (found_tail n e es off) ∙ p) age))
      (cases_eq n (number_at e.at))

  -- ---- how many there are

  pub len_entries : (es : List (Held R A N)) → HaveBlocks es → map.len (map.from_entries {R = nat_cmp} (entries_of es)) ≡ length es
  len_entries [] apart = map.len-empty nat_cmp (Entry R)
  len_entries (e ∷ es) apart =
      let later = len_entries es apart.1 in
      let more = map.from_entries {R = nat_cmp} (entries_of es) in
      let absent : map.get more (number_at e.at) ≡ None = get_at es (number_at e.at) ∙ ap (option_map entry_at) (free_none (number_at e.at) es apart.0) in
      let step : map.len (map.insert more (number_at e.at) (entry_at e)) ≡ map.len more + 1 =
      map.len-insert nat_cmp_total more (number_at e.at) (entry_at e) ∙ ap (λ o. cond (is_some o) (map.len more) (map.len more + 1)) absent in
      omega arith
