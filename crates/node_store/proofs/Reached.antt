-- Blocks that are reached from the newest on.
use Rattle.std.proofs.Common.{◌≡◌, ℕ, ◌<◌, List, [], ◌∷◌, length, Option, Some, None, refl, sym, ap, ◌∙◌, subst, arith}
use Rattle.std.proofs.lemmas.Option.{same_Some}
use denote.RawPtr.{block_of as number_at}
use Rattle.node_store.specs.declared.Node.{Node}
use Rattle.node_store.specs.declared.shelf.Block.{Block}
use Rattle.node_store.specs.declared.stored.Row.{Row}
use Rattle.node_store.specs.Store.{number_of}
use Rattle.node_store.specs.Blocks.{lying, found_in, without_block, IsAt}
use Rattle.node_store.specs.Chain.{node_at, IsChain, IsReached}
use Rattle.node_store.proofs.Found.{found_head, without_head, is_at}
use Rattle.node_store.proofs.Chain.{Held}

module _ {R A : Type 0} {N : ℕ} where
  pub IsReached-chain : (al : A) (newer newest : Option Node) (bound : ℕ) (es : List (Held R A N)) → IsChain al newer newest bound es → IsReached al newest es
  IsReached-chain al newer newest bound [] chain = chain
  IsReached-chain al newer newest bound (e ∷ es) chain = (chain.0, chain.3, chain.5, IsReached-chain al (Some (node_at e)) e.value.older e.value.age es chain.6)

  pub none_reached : (al : A) (newest : Option Node) (es : List (Held R A N)) → IsReached al newest es → newest ≡ None → es ≡ []
  none_reached al newest [] is none = refl
  none_reached al newest (e ∷ es) is none = absurd (let bad = sym is.0 ∙ none in cc)

  module _ (al : A) (newest : Option Node) (n : Node) (some : newest ≡ Some n) where
    newest_at : (e : Held R A N) → newest ≡ Some (node_at e) → n ≡ node_at e
    newest_at e q = same_Some n (node_at e) (sym some ∙ q)

    -- the newest block is there
    pub IsAt-newest : (es : List (Held R A N)) → IsReached al newest es → IsAt es n.place.ptr al
    IsAt-newest [] is = absurd (let bad = sym some ∙ is in cc)
    IsAt-newest (e ∷ es) is =
        let same = newest_at e is.0 in
        is_at (e ∷ es) n.place.ptr al e (found_head (number_of n) e es (ap number_of same)) (is.2 ∙ ap (λ (m : Node). m.place.ptr) (sym same)) is.1

    -- there is one less without it
    pub fewer : (es : List (Held R A N)) → IsReached al newest es → length (without_block (number_of n) es) < length es
    fewer [] is = absurd (let bad = sym some ∙ is in cc)
    fewer (e ∷ es) is = let rest = ap length (without_head (number_of n) e es (ap number_of (newest_at e is.0))) in omega arith

    -- what is reached from it
    pub reached : (es : List (Held R A N)) → IsReached al newest es → (b : Block R (Row N)) → found_in (number_of n) es ≡ Some (lying n.place.ptr al b) → IsReached al b.older (without_block (number_of n) es)
    reached [] is b here = absurd (let bad = sym some ∙ is in cc)
    reached (e ∷ es) is b here =
        let number : number_of n ≡ number_at e.at = ap number_of (newest_at e is.0) in
        let same : e ≡ lying n.place.ptr al b = same_Some e (lying n.place.ptr al b) (sym (found_head (number_of n) e es number) ∙ here) in
        subst (λ o. IsReached al o (without_block (number_of n) (e ∷ es))) (ap (λ (h : Held R A N). h.value.older) same)
        (subst (IsReached al e.value.older) (sym (without_head (number_of n) e es number)) is.3)
