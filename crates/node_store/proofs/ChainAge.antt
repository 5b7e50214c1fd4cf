-- The chain of a store's blocks goes by the ages of their nodes.
use Rattle.std.proofs.Common.{◌≡◌, ℕ, ◌≤◌, List, [], ◌∷◌, Option, Some, None, refl, sym, ◌∙◌, subst, ⊎_elim, arith, nat_cmp}
use Rattle.std.specs.FinMap.{find}
use Rattle.std.proofs.lemmas.Bool.{cases_eq}
use Rattle.std.proofs.lemmas.Option.{same_Some}
use denote.RawPtr.{block_of as number_at}
use Rattle.node_store.specs.declared.Node.{Node}
use Rattle.node_store.specs.Store.{aged}
use Rattle.node_store.specs.Blocks.{found_in}
use Rattle.node_store.specs.Chain.{node_at, listed, store_of, IsChain, IsSound}
use Rattle.node_store.specs.Age.{last_below}
use Rattle.node_store.proofs.Age.{last_below-same, last_below-none, last_below-is}
use Rattle.node_store.proofs.Keyed.{find_head, find_tail}
use Rattle.node_store.proofs.Found.{found_head, found_tail}
use Rattle.node_store.proofs.Chain.{Held, chain_below, listed_past}
use Rattle.node_store.proofs.Seen.{aged_listed}

module _ {R A : Type 0} {N : ℕ} where
  -- the node of each age, as the blocks have it
  abbrev at_age : List (Held R A N) → ℕ → Option Node
  at_age es k = find nat_cmp k (listed es)

  newest_listed : (al : A) (newer newest : Option Node) (bound : ℕ) (es : List (Held R A N)) → IsChain al newer newest bound es → newest ≡ last_below (at_age es) bound
  newest_listed al newer newest bound [] chain = chain ∙ sym (last_below-none (at_age []) bound (λ i less. refl))
  newest_listed al newer newest bound (e ∷ es) chain =
      chain.0 ∙ sym (last_below-is (at_age (e ∷ es)) bound e.value.age (node_at e) (record {
        at = find_head e.value.age e.value.age (node_at e) (listed es) refl;
        below = chain.2;
        last = λ i more less.
            find_tail i e.value.age (node_at e) (listed es) (λ q. absurd (omega arith)) ∙ listed_past al (Some (node_at e)) e.value.older e.value.age es chain.6 i (omega arith);
      }))

  -- what stands behind a block's head is seen below its age alone
  behind_head : (e : Held R A N) (es : List (Held R A N)) (k : ℕ) → k ≤ e.value.age → last_below (at_age es) k ≡ last_below (at_age (e ∷ es)) k
  behind_head e es k le = last_below-same (at_age (e ∷ es)) (at_age es) k (λ i less. sym (find_tail i e.value.age (node_at e) (listed es) (λ q. absurd (omega arith))))

  older_listed : (al : A) (newer newest : Option Node) (bound : ℕ) (es : List (Held R A N)) → IsChain al newer newest bound es → (k : ℕ) (h : Held R A N) → found_in k es ≡ Some h
      → h.value.older ≡ last_below (at_age es) h.value.age
  older_listed al newer newest bound [] chain k h p = absurd (cc)
  older_listed al newer newest bound (e ∷ es) chain k h p =
      ⊎_elim
      (λ here. subst (λ (m : Held R A N). m.value.older ≡ last_below (at_age (e ∷ es)) m.value.age) (same_Some e h (sym (found_head k e es here) ∙ p))
      (newest_listed al (Some (node_at e)) e.value.older e.value.age es chain.6 ∙ behind_head e es e.value.age (omega arith)))
      (λ off. let later = sym (found_tail k e es off) ∙ p in
      let less = chain_below al (Some (node_at e)) e.value.older e.value.age es chain.6 k h later in
      older_listed al (Some (node_at e)) e.value.older e.value.age es chain.6 k h later ∙ behind_head e es h.value.age (omega arith))
      (cases_eq k (number_at e.at))

  last_listed : (es : List (Held R A N)) (added k : ℕ) → last_below (at_age es) k ≡ last_below (aged (store_of es added)) k
  last_listed es added k = sym (last_below-same (at_age es) (aged (store_of es added)) k (λ i less. aged_listed es added i))

  module _ {es : List (Held R A N)} {al : A} {newest : Option Node} {len added : ℕ} (sound : IsSound es al newest len added) where
    pub newest_in : newest ≡ last_below (aged (store_of es added)) added
    newest_in = newest_listed al None newest added es sound.chain ∙ last_listed es added added

    pub older_in : (k : ℕ) (h : Held R A N) → found_in k es ≡ Some h → h.value.older ≡ last_below (aged (store_of es added)) h.value.age
    older_in k h here = older_listed al None newest added es sound.chain k h here ∙ last_listed es added h.value.age
