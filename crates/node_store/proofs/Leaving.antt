-- A store once a record has gone.
use Rattle.std.proofs.Common.{◌≡◌, ◌≢◌, ◌⊎◌, ℕ, ◌+◌, ◌-◌, List, [], ◌∷◌, Option, Some, None, refl, sym, ap, ◌∙◌, subst, inl, inr, ⊎_elim, arith, nat_cmp}
use Rattle.std.proofs.lemmas.Bool.{cases_eq}
use Rattle.std.proofs.lemmas.Option.{same_Some}
use Rattle.std.specs.Option.{option_map}
use Rattle.std.specs.Cmp.{nat_cmp_total}
use Rattle.std.specs.FinMap as map
use Rattle.std.specs.FinMap.{find}
use denote.RawPtr.{block_of as number_at}
use Rattle.node_store.specs.declared.Node.{Node}
use Rattle.node_store.specs.declared.shelf.Block.{Block}
use Rattle.node_store.specs.declared.stored.Row.{Row}
use Rattle.node_store.specs.Store.{Entry, Store, number_of, IsNodeOf, records, without, len_of}
use Rattle.node_store.specs.ByNode.{record_of, RemovesNode}
use Rattle.node_store.specs.Blocks.{lying, found_in, without_block, IsFree, HaveBlocks}
use Rattle.node_store.specs.Chain.{node_at, entry_at, entries_of, listed, store_of, with_older, with_newer, newest_without, HasBlock, IsChain, IsSound}
use Rattle.node_store.proofs.Keyed.{find_head, find_tail, remove_is}
use Rattle.node_store.proofs.StoreLemmas.{Removes-without, len-without}
use Rattle.node_store.proofs.ByNode.{RemovesNode-removed, record_of-at}
use Rattle.node_store.proofs.Found.{found_head, found_tail, free_none, edit_head, without_head, without_tail, without_same, without_other, length-without, HaveBlocks-without, HaveBlocks-placed}
use Rattle.node_store.proofs.Seen.{age_is}
use Rattle.node_store.proofs.Chain.{Held, chain_below, listed_past, get_at, get_some}
use Rattle.node_store.proofs.Neighbours.{Agree, Agree-older, Agree-newer, Agree-then, length_agrees, found_apart, with_older_absent, with_older_tail, with_newer_tail, Lies, HasBlock-lies, newest_lies, headed}

-- what the removal of a node leaves
pub record IsRemoved {R : Type 0} (old new : Store R) (n : Node) (value : R) : Type 0 where
  pub had : record_of old n ≡ Some value
  pub removed : RemovesNode old new n
  pub count : new.added ≡ old.added
  pub len : len_of new + 1 ≡ len_of old

module _ {R A : Type 0} {N : ℕ} where
  -- ---- the nodes by age

  listed_without : (n : ℕ) (es : List (Held R A N)) (h : Held R A N) → found_in n es ≡ Some h → (k : ℕ) → k ≢ h.value.age → find nat_cmp k (listed (without_block n es)) ≡ find nat_cmp k (listed es)
  listed_without n [] h p k apart = refl
  listed_without n (e ∷ es) h p k apart =
      ⊎_elim
      (λ here. let same : e ≡ h = same_Some e h (sym (found_head n e es here) ∙ p) in
      ap (λ xs. find nat_cmp k (listed xs)) (without_head n e es here)
      ∙ sym (find_tail k e.value.age (node_at e) (listed es) (λ q. apart (q ∙ ap (λ (m : Held R A N). m.value.age) same))))
      (λ off. let later = listed_without n es h (sym (found_tail n e es off) ∙ p) k apart in
      ap (λ xs. find nat_cmp k (listed xs)) (without_tail n e es off)
      ∙ ⊎_elim
      (λ same. find_head k e.value.age (node_at e) (listed (without_block n es)) same ∙ sym (find_head k e.value.age (node_at e) (listed es) same))
      (λ away. find_tail k e.value.age (node_at e) (listed (without_block n es)) away ∙ later ∙ sym (find_tail k e.value.age (node_at e) (listed es) away))
      (cases_eq k e.value.age))
      (cases_eq n (number_at e.at))

  none_listed : (al : A) (newer newest : Option Node) (bound : ℕ) (es : List (Held R A N)) → IsChain al newer newest bound es → (n : ℕ) (h : Held R A N) → found_in n es ≡ Some h
      → find nat_cmp h.value.age (listed (without_block n es)) ≡ None
  none_listed al newer newest bound [] chain n h p = refl
  none_listed al newer newest bound (e ∷ es) chain n h p =
      ⊎_elim
      (λ here. let age : h.value.age ≡ e.value.age = ap (λ (m : Held R A N). m.value.age) (same_Some h e (sym p ∙ found_head n e es here)) in
      ap (λ xs. find nat_cmp h.value.age (listed xs)) (without_head n e es here) ∙ listed_past al (Some (node_at e)) e.value.older e.value.age es chain.6 h.value.age (omega arith))
      (λ off. let later = sym (found_tail n e es off) ∙ p in
      let less = chain_below al (Some (node_at e)) e.value.older e.value.age es chain.6 n h later in
      ap (λ xs. find nat_cmp h.value.age (listed xs)) (without_tail n e es off)
      ∙ find_tail h.value.age e.value.age (node_at e) (listed (without_block n es)) (λ q. absurd (omega arith))
      ∙ none_listed al (Some (node_at e)) e.value.older e.value.age es chain.6 n h later)
      (cases_eq n (number_at e.at))

  -- ---- the two neighbours of a block

  -- the node of another block than that of this number
  abbrev LiesOff : ℕ → Node → List (Held R A N) → Type 0
  LiesOff n m es = Lies m es × (number_of m ≢ n)

  behind : (n : ℕ) (m : Node) (e : Held R A N) (es : List (Held R A N)) → IsFree es (number_at e.at) → LiesOff n m es → LiesOff n m (e ∷ es)
  behind n m e es free r = ((r.0.0, found_tail (number_of m) e es (found_apart (number_of m) (number_at e.at) es r.0.0 r.0.1 free) ∙ r.0.1, r.0.2), r.1)

  -- the block before one
  newer_lies : (al : A) (newer newest : Option Node) (bound : ℕ) (es : List (Held R A N)) → IsChain al newer newest bound es → HaveBlocks es → (n : ℕ) (h : Held R A N) → found_in n es ≡ Some h
      → (h.value.newer ≡ newer) ⊎ ((m : Node) × (h.value.newer ≡ Some m) × LiesOff n m es)
  newer_lies al newer newest bound [] chain apart n h p = absurd (cc)
  newer_lies al newer newest bound (e ∷ es) chain apart n h p =
      ⊎_elim
      (λ here. inl (ap (λ (m : Held R A N). m.value.newer) (same_Some h e (sym p ∙ found_head n e es here)) ∙ chain.1))
      (λ off.
      ⊎_elim
      (λ q. inr (node_at e, q, ((e, found_head (number_at e.at) e es refl, chain.5), λ z. off (sym z))))
      (λ r. inr (r.0, r.1, behind n r.0 e es apart.0 r.2))
      (newer_lies al (Some (node_at e)) e.value.older e.value.age es chain.6 apart.1 n h (sym (found_tail n e es off) ∙ p)))
      (cases_eq n (number_at e.at))

  -- the block after one
  older_lies : (al : A) (newer newest : Option Node) (bound : ℕ) (es : List (Held R A N)) → IsChain al newer newest bound es → HaveBlocks es → (n : ℕ) (h : Held R A N) → found_in n es ≡ Some h
      → (m : Node) → h.value.older ≡ Some m → LiesOff n m es
  older_lies al newer newest bound [] chain apart n h p m q = absurd (cc)
  older_lies al newer newest bound (e ∷ es) chain apart n h p m q =
      ⊎_elim
      (λ here.
      let is : e.value.older ≡ Some m = ap (λ (x : Held R A N). x.value.older) (same_Some e h (sym (found_head n e es here) ∙ p)) ∙ q in
      let lies = newest_lies al (Some (node_at e)) e.value.older e.value.age es chain.6 m is in
      behind n m e es apart.0 (lies, λ z. found_apart (number_of m) (number_at e.at) es lies.0 lies.1 apart.0 (z ∙ here)))
      (λ off. behind n m e es apart.0 (older_lies al (Some (node_at e)) e.value.older e.value.age es chain.6 apart.1 n h (sym (found_tail n e es off) ∙ p) m q))
      (cases_eq n (number_at e.at))

  -- ---- the chain

  -- the blocks once that of n has gone, and its neighbours name each other
  abbrev unlinked : ℕ → Block R (Row N) → List (Held R A N) → List (Held R A N)
  unlinked n b es = with_newer b.older b.newer (with_older b.newer b.older (without_block n es))

  unlink : (al : A) (newer newest : Option Node) (bound : ℕ) (es : List (Held R A N)) → IsChain al newer newest bound es → HaveBlocks es → ((m : Node) → newer ≡ Some m → IsFree es (number_of m))
      → (n : ℕ) (h : Held R A N) → found_in n es ≡ Some h
      → ((h.value.newer ≡ newer) × IsChain al newer h.value.older bound (unlinked n h.value es)) ⊎ (((m : Node) × (h.value.newer ≡ Some m) × LiesOff n m es) × IsChain al newer newest bound (unlinked n h.value es))
  unlink al newer newest bound [] chain apart free n h p = absurd (cc)
  unlink al newer newest bound (e ∷ es) chain apart free n h p =
      let b = h.value in
      let lower = chain.2 in
      ⊎_elim
      (λ here.
      let same : h ≡ e = same_Some h e (sym p ∙ found_head n e es here) in
      let before : b.newer ≡ newer = ap (λ (m : Held R A N). m.value.newer) same ∙ chain.1 in
      let next : b.older ≡ e.value.older = ap (λ (m : Held R A N). m.value.older) same in
      let gone : with_older b.newer b.older es ≡ es = with_older_absent b.newer b.older es (λ m q. free_none (number_of m) es (free m (sym before ∙ q)).1) in
      let list : unlinked n b (e ∷ es) ≡ with_newer e.value.older newer es =
      ap (λ w. with_newer b.older b.newer (with_older b.newer b.older w)) (without_head n e es here) ∙ ap (with_newer b.older b.newer) gone ∙ (λ i. with_newer (next i) (before i) es) in
      let chained : IsChain al newer e.value.older bound (with_newer e.value.older newer es) = headed al (Some (node_at e)) newer e.value.older e.value.age bound es (omega arith) chain.6 in
      inl (before, subst (λ xs. IsChain al newer b.older bound xs) (sym list) (subst (λ o. IsChain al newer o bound (with_newer e.value.older newer es)) (sym next) chained)))
      (λ off.
      let later = sym (found_tail n e es off) ∙ p in
      let w = without_block n es in
      let far : (m : Node) → b.older ≡ Some m → number_of m ≢ number_at e.at = λ m q.
      let r = older_lies al (Some (node_at e)) e.value.older e.value.age es chain.6 apart.1 n h later m q in found_apart (number_of m) (number_at e.at) es r.0.0 r.0.1 apart.0 in
      ⊎_elim
      (λ r.
      let gone : with_older b.newer b.older w ≡ w = with_older_absent b.newer b.older w (λ m q.
      let number : number_of m ≡ number_at e.at = ap number_of (sym (same_Some (node_at e) m (sym r.0 ∙ q))) in
      ap (λ k. found_in k w) number ∙ without_other (number_at e.at) n es (λ z. off (sym z)) ∙ free_none (number_at e.at) es apart.0) in
      let changed : Held R A N = lying e.at e.alloc (record e.value { older = b.older }) in
      let list : unlinked n b (e ∷ es) ≡ changed ∷ unlinked n b es =
      ap (λ xs. with_newer b.older b.newer (with_older b.newer b.older xs)) (without_tail n e es off)
      ∙ ap (λ o. with_newer b.older b.newer (with_older o b.older (e ∷ w))) r.0
      ∙ ap (with_newer b.older b.newer) (edit_head (number_at e.at) (λ x. record x { older = b.older }) e w refl)
      ∙ with_newer_tail b.older b.newer changed w far
      ∙ ap (λ xs. changed ∷ with_newer b.older b.newer xs) (sym gone) in
      inr ((node_at e, r.0, ((e, found_head (number_at e.at) e es refl, chain.5), λ z. off (sym z))), subst (IsChain al newer newest bound) (sym list) (chain.0, chain.1, chain.2, chain.3, chain.4, chain.5, r.1)))
      (λ r.
      let close : (m : Node) → b.newer ≡ Some m → number_of m ≢ number_at e.at = λ m q.
      let lies = r.0.2.0 in let number : number_of m ≡ number_of r.0.0 = ap number_of (same_Some m r.0.0 (sym q ∙ r.0.1)) in
      λ z. found_apart (number_of r.0.0) (number_at e.at) es lies.0 lies.1 apart.0 (sym number ∙ z) in
      let list : unlinked n b (e ∷ es) ≡ e ∷ unlinked n b es =
      ap (λ xs. with_newer b.older b.newer (with_older b.newer b.older xs)) (without_tail n e es off)
      ∙ ap (with_newer b.older b.newer) (with_older_tail b.newer b.older e w close)
      ∙ with_newer_tail b.older b.newer e (with_older b.newer b.older w) far in
      inr ((r.0.0, r.0.1, behind n r.0.0 e es apart.0 r.0.2), subst (IsChain al newer newest bound) (sym list) (chain.0, chain.1, chain.2, chain.3, chain.4, chain.5, r.1)))
      (unlink al (Some (node_at e)) e.value.older e.value.age es chain.6 apart.1 (λ m q. subst (IsFree es) (ap number_of (same_Some (node_at e) m q)) apart.0) n h later))
      (cases_eq n (number_at e.at))

  -- ---- a removal

  module _ (es : List (Held R A N)) (al : A) (newest : Option Node) (len added : ℕ) (sound : IsSound es al newest len added) (n : Node) (h : Held R A N) (here : found_in (number_of n) es ≡ Some h) where
    abbrev k : ℕ
    k = number_of n

    abbrev left : List (Held R A N)
    left = without_block k es

    kept_lies : (m : Node) → LiesOff k m es → Lies m left
    kept_lies m r = (r.0.0, without_other (number_of m) k es r.1 ∙ r.0.1, r.0.2)

    pub HasBlock-newer : (xs : List (Held R A N)) → xs ≡ left → HasBlock h.value.newer xs
    HasBlock-newer xs is =
        subst (HasBlock h.value.newer) (sym is) (HasBlock-lies h.value.newer left left refl (λ m q.
        ⊎_elim
        (λ none. absurd (let bad = sym none ∙ q in cc))
        (λ r. kept_lies m (subst (λ o. LiesOff k o es) (same_Some r.0 m (sym r.1 ∙ q)) r.2))
        (newer_lies al None newest added es sound.chain sound.apart k h here)))

    pub HasBlock-older : (xs : List (Held R A N)) → xs ≡ with_older h.value.newer h.value.older left → HasBlock h.value.older xs
    HasBlock-older xs is =
        subst (HasBlock h.value.older) (sym is) (HasBlock-lies h.value.older left (with_older h.value.newer h.value.older left) (Agree-older h.value.newer h.value.older left).lie (λ m q.
        kept_lies m (older_lies al None newest added es sound.chain sound.apart k h here m q)))

    agrees : Agree left (unlinked k h.value es)
    agrees =
        let joined = with_older h.value.newer h.value.older left in
        Agree-then left joined (unlinked k h.value es) (Agree-older h.value.newer h.value.older left) (Agree-newer h.value.older h.value.newer joined)

    pub IsSound-removed : (xs : List (Held R A N)) → xs ≡ unlinked k h.value es → (first : Option Node) → first ≡ newest_without h.value.newer h.value.older newest → IsSound xs al first (len - 1) added
    IsSound-removed xs is first now = rw (is, now) (record {
      chain =
          ⊎_elim
          (λ r. subst (λ o. IsChain al None o added (unlinked k h.value es)) (sym (ap (λ o. newest_without o h.value.older newest) r.0)) r.1)
          (λ r. subst (λ o. IsChain al None o added (unlinked k h.value es)) (sym (ap (λ o. newest_without o h.value.older newest) r.0.1)) r.1)
          (unlink al None newest added es sound.chain sound.apart (λ m q. absurd (cc)) k h here);
      apart = HaveBlocks-placed left (unlinked k h.value es) agrees.lie (HaveBlocks-without k es sound.apart);
      counted = let same = length_agrees left (unlinked k h.value es) agrees in let less = length-without k es h here in let count = sound.counted in omega arith;
      fits = let fits = sound.fits in omega arith;
      narrow = sound.narrow;
    })

    nodes_removed : map.from_entries {R = nat_cmp} (entries_of left) ≡ map.remove (map.from_entries (entries_of es)) k
    nodes_removed =
        remove_is (map.from_entries (entries_of left)) (map.from_entries (entries_of es)) k
        (get_at left k ∙ ap (option_map entry_at) (without_same k es sound.apart))
        (λ q off. get_at left q ∙ ap (option_map entry_at) (without_other q k es off) ∙ sym (get_at es q))

    ages_removed : map.from_entries {R = nat_cmp} (listed left) ≡ map.remove (map.from_entries (listed es)) h.value.age
    ages_removed =
        remove_is (map.from_entries (listed left)) (map.from_entries (listed es)) h.value.age
        (map.get-from_entries nat_cmp_total _ _ ∙ none_listed al None newest added es sound.chain k h here)
        (λ q off. map.get-from_entries nat_cmp_total _ _ ∙ listed_without k es h here q off ∙ sym (map.get-from_entries nat_cmp_total _ _))

    store_removed : store_of (unlinked k h.value es) added ≡ without (store_of es added) n
    store_removed = λ i. record {
      width = N;
      added = added;
      nodes = (ap (λ l. map.from_entries l) agrees.entries ∙ nodes_removed) i;
      ages = (ap (λ l. map.from_entries l) agrees.ages ∙ ages_removed ∙ ap (map.remove (map.from_entries (listed es))) (sym (age_is es added n h here))) i;
    }

    pub IsRemoved-removed : (old : Store R) → store_of es added ≡ old → IsNodeOf old n → (xs : List (Held R A N)) → xs ≡ unlinked k h.value es → IsRemoved old (store_of xs added) n h.value.value
    unfolding records
    IsRemoved-removed old view is xs to =
        let now = ap (λ l. store_of l added) to ∙ store_removed in
        let stood = rw (← view) at is in
        rw (← view, now) (record {
          had = record_of-at (store_of es added) n stood ∙ ap (option_map (λ (e : Entry R). e.value)) (get_some es k h here);
          removed = RemovesNode-removed _ _ n stood (Removes-without (store_of es added) n);
          count = refl;
          len = len-without (store_of es added) n stood;
        })
