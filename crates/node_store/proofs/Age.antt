-- Laws of what a map by number has in the order of the numbers, and of the nodes of a store in the order of their adds.
use Rattle.std.proofs.Common.{◌≡◌, ◌≢◌, ℕ, zero, suc, ◌+◌, ◌<◌, ◌≤◌, Bool, cond, [], ◌∷◌, ◌++◌, length, Option, Some, None, refl, sym, ap, ◌∙◌, ⊎_elim, arith, nat_cmp}
use Rattle.std.specs.Prelude.{map as each, filter, not}
use Rattle.std.specs.List.{All}
use Rattle.std.specs.Option.{option_map, option_or, option_map_or}
use Rattle.std.specs.FinMap as map
use Rattle.std.proofs.lemmas.Bool.{cases_eq}
use Rattle.std.proofs.lemmas.Option.{same_Some}
use Rattle.std.proofs.lemmas.List.{append-nil, length-append, map-append}
use Rattle.std.proofs.lemmas.List.Elements.{All-append, All-from_recursion, filter-append}
use Rattle.node_store.specs.declared.Node.{Node}
use Rattle.node_store.specs.Store.{Entry, Store, IsStore, IsNodeOf, nodes, aged, age_of, without, len_of}
use Rattle.node_store.specs.ByNode.{same_node, AddsNode, RemovesNode}
use Rattle.node_store.specs.Age.{last_below, all_below, nodes_of}
use Rattle.node_store.proofs.Keyed.{same_map}
use Rattle.node_store.proofs.StoreLemmas.{Removes-without, len-without}
use Rattle.node_store.proofs.ByNode.{same_node-refl, RemovesNode-removed, same_node-false}
use Rattle.node_store.proofs.Ages.{at_its_age, IsStore_removed}

module _ {A : Type 0} where
  -- what stands at j is the last below k
  pub record IsLast (f : ℕ → Option A) (k j : ℕ) (x : A) : Type 0 where
    pub at : f j ≡ Some x
    pub below : j < k
    pub last : (i : ℕ) → j < i → i < k → f i ≡ None

  -- ---- what they depend on

  pub last_below-same : (f g : ℕ → Option A) (k : ℕ) → ((i : ℕ) → i < k → g i ≡ f i) → last_below g k ≡ last_below f k
  last_below-same f g zero same = refl
  last_below-same f g (suc k) same = (λ i. option_or (same k (omega arith) i) (last_below-same f g k (λ j less. same j (omega arith)) i))

  pub all_below-same : (f g : ℕ → Option A) (k : ℕ) → ((i : ℕ) → i < k → g i ≡ f i) → all_below g k ≡ all_below f k
  all_below-same f g zero same = refl
  all_below-same f g (suc k) same = (λ i. all_below-same f g k (λ j less. same j (omega arith)) i ++ option_map_or (λ x. x ∷ []) (same k (omega arith) i) [])

  -- ---- the last one, and all before it

  pub last_below-none : (f : ℕ → Option A) (k : ℕ) → ((i : ℕ) → i < k → f i ≡ None) → last_below f k ≡ None
  last_below-none f zero none = refl
  last_below-none f (suc k) none = ap (λ o. option_or o (last_below f k)) (none k (omega arith)) ∙ last_below-none f k (λ i less. none i (omega arith))

  pub last_below-is : (f : ℕ → Option A) (k j : ℕ) (x : A) → IsLast f k j x → last_below f k ≡ Some x
  last_below-is f zero j x is = let below = is.below in absurd (omega arith)
  last_below-is f (suc k) j x is =
      let below = is.below in
      ⊎_elim
      (λ (e : k ≡ j). ap (λ o. option_or o (last_below f k)) (ap f e ∙ is.at))
      (λ (ne : k ≢ j). ap (λ o. option_or o (last_below f k)) (is.last k (omega arith) (omega arith))
      ∙ last_below-is f k j x (record { at = is.at; below = omega arith; last = λ i more less. is.last i more (omega arith) }))
      (cases_eq k j)

  -- where it stands
  pub IsLast-found : (f : ℕ → Option A) (k : ℕ) (x : A) → last_below f k ≡ Some x → (j : ℕ) × IsLast f k j x
  IsLast-found f zero x e = absurd (cc)
  IsLast-found f (suc k) x e =
      elim (f k) as (λ o. f k ≡ o → (j : ℕ) × IsLast f (suc k) j x) [
        | Some y ↦ λ p.
            let same : y ≡ x = same_Some y x (sym (ap (λ o. option_or o (last_below f k)) p) ∙ e) in
            (k, record { at = p ∙ ap Some same; below = omega arith; last = λ i more less. absurd (omega arith) })
        | None ↦ λ p.
            let r = IsLast-found f k x (sym (ap (λ o. option_or o (last_below f k)) p) ∙ e) in
            let below = r.1.below in (
              r.0,
              record {
                at = r.1.at;
                below = omega arith;
                last = λ i more less. ⊎_elim (λ (z : i ≡ k). ap f z ∙ p) (λ (z : i ≢ k). r.1.last i more (omega arith)) (cases_eq i k);
              },
            )
      ] refl

  pub none_found : (f : ℕ → Option A) (k : ℕ) → last_below f k ≡ None → (i : ℕ) → i < k → f i ≡ None
  none_found f zero e i less = absurd (omega arith)
  none_found f (suc k) e i less =
      elim (f k) as (λ o. f k ≡ o → f i ≡ None) [
        | Some y ↦ λ p. absurd (let bad = sym (ap (λ o. option_or o (last_below f k)) p) ∙ e in cc)
        | None ↦ λ p. ⊎_elim (λ (z : i ≡ k). ap f z ∙ p) (λ (z : i ≢ k). none_found f k (sym (ap (λ o. option_or o (last_below f k)) p) ∙ e) i (omega arith)) (cases_eq i k)
      ] refl

  pub all_below-none : (f : ℕ → Option A) (k : ℕ) → ((i : ℕ) → i < k → f i ≡ None) → all_below f k ≡ []
  all_below-none f zero none = refl
  all_below-none f (suc k) none = (λ i. all_below-none f k (λ j less. none j (omega arith)) i ++ option_map_or (λ x. x ∷ []) (none k (omega arith) i) [])

  pub all_below-last : (f : ℕ → Option A) (k j : ℕ) (x : A) → IsLast f k j x → all_below f k ≡ all_below f j ++ x ∷ []
  all_below-last f zero j x is = let below = is.below in absurd (omega arith)
  all_below-last f (suc k) j x is =
      let below = is.below in
      ⊎_elim
      (λ (e : k ≡ j). ap (λ o. all_below f k ++ option_map_or (λ y. y ∷ []) o []) (ap f e ∙ is.at) ∙ ap (λ i. all_below f i ++ x ∷ []) e)
      (λ (ne : k ≢ j). ap (λ o. all_below f k ++ option_map_or (λ y. y ∷ []) o []) (is.last k (omega arith) (omega arith))
      ∙ append-nil (all_below f k)
      ∙ all_below-last f k j x (record { at = is.at; below = omega arith; last = λ i more less. is.last i more (omega arith) }))
      (cases_eq k j)

  pub all_below-empty : (f : ℕ → Option A) (k : ℕ) → last_below f k ≡ None → all_below f k ≡ []
  all_below-empty f k e = all_below-none f k (none_found f k e)

  -- all that stands below has P, where each that stands has it
  pub all_below-each : (P : A → Type 0) (f : ℕ → Option A) (k : ℕ) → ((i : ℕ) (x : A) → i < k → f i ≡ Some x → P x) → All P (all_below f k)
  all_below-each P f zero h = All-from_recursion P [] tt
  all_below-each P f (suc k) h =
      All-append P (all_below f k) (option_map_or (λ x. x ∷ []) (f k) []) (all_below-each P f k (λ i x less. h i x (omega arith)))
      (elim (f k) as (λ o. f k ≡ o → All P (option_map_or (λ x. x ∷ []) o [])) [
        | None ↦ λ p. All-from_recursion P [] tt
        | Some x ↦ λ p. All-from_recursion P (x ∷ []) (h k x (omega arith) p, tt)
      ] refl)

  pub all_below-map : {B : Type 0} (g : A → B) (f : ℕ → Option A) (k : ℕ) → all_below (λ i. option_map g (f i)) k ≡ each g (all_below f k)
  all_below-map g f zero = refl
  all_below-map g f (suc k) =
      ap (λ xs. xs ++ option_map_or (λ x. x ∷ []) (option_map g (f k)) []) (all_below-map g f k)
      ∙ (elim (f k) as (λ o. each g (all_below f k) ++ option_map_or (λ x. x ∷ []) (option_map g o) [] ≡ each g (all_below f k ++ option_map_or (λ x. x ∷ []) o [])) [
        | None ↦ append-nil (each g (all_below f k)) ∙ sym (ap (each g) (append-nil (all_below f k)))
        | Some x ↦ sym (map-append g (all_below f k) (x ∷ []))
      ])

-- ---- the nodes of a store

module _ {R : Type 0} where
  -- the node that was added last before k
  pub record IsLastNode (s : Store R) (k : ℕ) (m : Node) : Type 0 where
    pub node : IsNodeOf s m
    pub below : age_of s m < k
    pub before : all_below (aged s) k ≡ all_below (aged s) (age_of s m) ++ m ∷ []

  pub last_node : (s : Store R) (k : ℕ) (m : Node) → IsStore s → last_below (aged s) k ≡ Some m → IsLastNode s k m
  last_node s k m store e =
      let r = IsLast-found (aged s) k m e in
      let age : age_of s m ≡ r.0 = store.age r.0 m r.1.at in
      let below = r.1.below in
      record {
        node = store.node r.0 m r.1.at;
        below = omega arith;
        before = all_below-last (aged s) k r.0 m r.1 ∙ ap (λ j. all_below (aged s) j ++ m ∷ []) (sym age);
      }

  -- all that stands up to what stands at an age is what stands below that age, and it
  pub up_to_age : (s : Store R) (k : ℕ) (n : Node) → aged s k ≡ Some n → all_below (aged s) (k + 1) ≡ all_below (aged s) k ++ n ∷ []
  up_to_age s k n at = all_below-last (aged s) (k + 1) k n (record { at = at; below = omega arith; last = λ i more less. absurd (omega arith) })

  -- the same for a node at its age
  pub up_to_node : (s : Store R) (n : Node) → IsStore s → IsNodeOf s n → all_below (aged s) (age_of s n + 1) ≡ all_below (aged s) (age_of s n) ++ n ∷ []
  up_to_node s n store is = up_to_age s (age_of s n) n (at_its_age s store n is)

  pub all_nodes_of : (s : Store R) → IsStore s → All (IsNodeOf s) (nodes_of s)
  all_nodes_of s store = all_below-each (IsNodeOf s) (aged s) s.added (λ i n less e. store.node i n e)

  pub nodes_of-added : (old new : Store R) (n : Node) (value : R) → new.added ≡ old.added + 1 → AddsNode old new n value → nodes_of new ≡ nodes_of old ++ n ∷ []
  nodes_of-added old new n value count adds =
      ap (all_below (aged new)) count
      ∙ up_to_age new old.added n adds.aged.changed
      ∙ ap (λ xs. xs ++ n ∷ []) (all_below-same (aged old) (aged new) old.added (λ i less. adds.aged.others i (λ q. absurd (omega arith))))

  below_removed : (old new : Store R) (n : Node) → IsStore old → IsNodeOf old n → RemovesNode old new n → (k : ℕ) → all_below (aged new) k ≡ filter (λ m. not (same_node n m)) (all_below (aged old) k)
  below_removed old new n store is removes zero = refl
  below_removed old new n store is removes (suc k) =
      let keep : Node → Bool = λ m. not (same_node n m) in
      let to_filter : filter keep (all_below (aged old) (suc k)) ≡ filter keep (all_below (aged old) k) ++ filter keep (option_map_or (λ x. x ∷ []) (aged old k) []) =
      filter-append keep (all_below (aged old) k) (option_map_or (λ x. x ∷ []) (aged old k) []) in
      let one : option_map_or (λ x. x ∷ []) (aged new k) [] ≡ filter keep (option_map_or (λ x. x ∷ []) (aged old k) []) =
      ⊎_elim
      (λ (z : k ≡ age_of old n). ap (λ o. option_map_or (λ x. x ∷ []) o []) (ap (aged new) z ∙ removes.aged.changed)
      ∙ sym (ap (λ o. filter keep (option_map_or (λ x. x ∷ []) o [])) (ap (aged old) z ∙ at_its_age old store n is) ∙ ap (λ b. cond (not b) (n ∷ []) []) (same_node-refl n)))
      (λ (z : k ≢ age_of old n). ap (λ o. option_map_or (λ x. x ∷ []) o []) (removes.aged.others k z)
      ∙ (elim (aged old k) as (λ o. aged old k ≡ o → option_map_or (λ x. x ∷ []) o [] ≡ filter keep (option_map_or (λ x. x ∷ []) o [])) [
        | None ↦ λ p. refl
        | Some m ↦ λ p.
            let apart : n ≢ m = λ q. z (sym (store.age k m p) ∙ ap (age_of old) (sym q)) in
            sym (ap (λ b. cond (not b) (m ∷ []) []) (same_node-false n m apart))
      ] refl))
      (cases_eq k (age_of old n)) in
      (λ i. below_removed old new n store is removes k i ++ one i) ∙ sym to_filter

  pub nodes_of-removed : (old new : Store R) (n : Node) → IsStore old → IsNodeOf old n → new.added ≡ old.added → RemovesNode old new n → nodes_of new ≡ filter (λ m. not (same_node n m)) (nodes_of old)
  nodes_of-removed old new n store is count removes = ap (all_below (aged new)) count ∙ below_removed old new n store is removes old.added

-- ---- how many there are

module _ {R : Type 0} where
  no_entry : (o : Option (Entry R)) → option_map (λ (e : Entry R). e.node) o ≡ None → o ≡ None
  no_entry None p = refl
  no_entry (Some e) p = absurd (cc)

  -- where nothing stands at an age there is no node
  none_left : (s : Store R) → IsStore s → ((i : ℕ) → aged s i ≡ None) → map.len s.nodes ≡ 0
  unfolding nodes
  none_left s store none =
      let no_node : (k : ℕ) → nodes s k ≡ None = λ k. elim (nodes s k) as (λ o. nodes s k ≡ o → o ≡ None) [
        | None ↦ λ p. refl
        | Some n ↦ λ p.
            let is = ap (nodes s) (store.numbered k n p) ∙ p in
            let bad = sym (store.stands n is) ∙ none (age_of s n) in absurd (cc)
      ] refl in
      let empty : s.nodes ≡ map.empty = same_map s.nodes map.empty (λ q. no_entry (map.get s.nodes q) (no_node q) ∙ sym (map.get-empty nat_cmp q)) in
      ap map.len empty ∙ map.len-empty nat_cmp (Entry R)

  lens : (k : ℕ) (s : Store R) → IsStore s → ((i : ℕ) → k ≤ i → aged s i ≡ None) → length (all_below (aged s) k) ≡ map.len s.nodes
  lens zero s store none = sym (none_left s store (λ i. none i (omega arith)))
  lens (suc k) s store none =
      elim (aged s k) as (λ o. aged s k ≡ o → length (all_below (aged s) (suc k)) ≡ map.len s.nodes) [
        | None ↦ λ p.
            ap (λ o. length (all_below (aged s) k ++ option_map_or (λ x. x ∷ []) o [])) p
            ∙ ap length (append-nil (all_below (aged s) k))
            ∙ lens k s store (λ i le. ⊎_elim (λ (z : i ≡ k). ap (aged s) z ∙ p) (λ (z : i ≢ k). none i (omega arith)) (cases_eq i k))
        | Some n ↦ λ p.
            let is = store.node k n p in
            let age = store.age k n p in
            let t = without s n in
            let gone : RemovesNode s t n = RemovesNode-removed s t n is (Removes-without s n) in
            let left = IsStore_removed s t n is gone refl store in
            let same : (i : ℕ) → i ≢ k → aged t i ≡ aged s i = λ i apart. gone.aged.others i (λ e. apart (e ∙ age)) in
            let less = lens k t left (λ i le. ⊎_elim (λ (z : i ≡ k). ap (aged t) (z ∙ sym age) ∙ gone.aged.changed) (λ (z : i ≢ k). same i z ∙ none i (omega arith)) (cases_eq i k)) in
            let below = ap length (all_below-same (aged s) (aged t) k (λ i less. same i (λ z. absurd (omega arith)))) in
            let more = ap (λ o. length (all_below (aged s) k ++ option_map_or (λ x. x ∷ []) o [])) p ∙ length-append (all_below (aged s) k) (n ∷ []) in
            let one : length (n ∷ []) ≡ 1 = refl in
            let fewer = len-without s n is in
            omega arith
      ] refl

  pub length-nodes_of : (s : Store R) → IsStore s → length (nodes_of s) ≡ len_of s
  length-nodes_of s store = lens s.added s store store.bounded
