-- What stays of blocks when the neighbours of a node name others.
use Rattle.std.proofs.Common.{◌≡◌, ◌≢◌, ℕ, ◌≤◌, List, [], ◌∷◌, length, Option, Some, None, refl, sym, ap, ◌∙◌, subst, ⊎_elim, arith}
use Rattle.std.proofs.lemmas.Bool.{cases_eq}
use Rattle.std.proofs.lemmas.List.{length-map}
use Rattle.std.proofs.lemmas.Option.{same_Some}
use Rattle.std.specs.Prelude.{map as each}
use denote.RawPtr.{block_of as number_at}
use Rattle.node_store.specs.declared.Node.{Node}
use Rattle.node_store.specs.declared.shelf.Block.{Block}
use Rattle.node_store.specs.declared.stored.Row.{Row}
use Rattle.node_store.specs.Store.{number_of}
use Rattle.node_store.specs.Blocks.{lying, found_in, IsFree}
use Rattle.node_store.specs.Chain.{node_at, entry_at, entries_of, listed, edit_block, with_older, with_newer, HasBlock, IsChain}
use Rattle.node_store.proofs.Found.{found_head, found_tail, edit_head, edit_tail, lies_at, free_none, places}
use Rattle.node_store.proofs.Chain.{Held}

-- the second blocks show what the first ones do
pub record Agree {R A : Type 0} {N : ℕ} (es xs : List (Held R A N)) : Type 0 where
  pub entries : entries_of xs ≡ entries_of es
  pub ages : listed xs ≡ listed es
  pub lie : places xs ≡ places es

module _ {R A : Type 0} {N : ℕ} where
  -- what lies in blocks that leave another one free lies elsewhere
  pub found_apart : (k n : ℕ) (es : List (Held R A N)) (g : Held R A N) → found_in k es ≡ Some g → IsFree es n → k ≢ n
  found_apart k n es g p free q = let bad = sym p ∙ ap (λ z. found_in z es) q ∙ free_none n es free in cc bad

  -- ---- an edit of one block

  edit_absent : (n : ℕ) (f : Block R (Row N) → Block R (Row N)) (es : List (Held R A N)) → found_in n es ≡ None → edit_block n f es ≡ es
  edit_absent n f [] p = refl
  edit_absent n f (e ∷ es) p =
      ⊎_elim
      (λ here. absurd (let bad = sym (found_head n e es here) ∙ p in cc))
      (λ off. edit_tail n f e es off ∙ ap (λ xs. e ∷ xs) (edit_absent n f es (sym (found_tail n e es off) ∙ p)))
      (cases_eq n (number_at e.at))

  module _ {X : Type 0} (see : Held R A N → X) (n : ℕ) (f : Block R (Row N) → Block R (Row N)) (keeps : (e : Held R A N) → see (lying e.at e.alloc (f e.value)) ≡ see e) where
    edit_unseen : (es : List (Held R A N)) → each see (edit_block n f es) ≡ each see es
    edit_unseen [] = refl
    edit_unseen (e ∷ es) =
        ⊎_elim
        (λ here. ap (each see) (edit_head n f e es here) ∙ ap (λ x. x ∷ each see es) (keeps e))
        (λ off. ap (each see) (edit_tail n f e es off) ∙ ap (λ xs. see e ∷ xs) (edit_unseen es))
        (cases_eq n (number_at e.at))

  entries_each : (es : List (Held R A N)) → entries_of es ≡ each (λ e. (number_at e.at, entry_at e)) es
  entries_each [] = refl
  entries_each (e ∷ es) = ap (λ xs. (number_at e.at, entry_at e) ∷ xs) (entries_each es)

  listed_each : (es : List (Held R A N)) → listed es ≡ each (λ e. (e.value.age, node_at e)) es
  listed_each [] = refl
  listed_each (e ∷ es) = ap (λ xs. (e.value.age, node_at e) ∷ xs) (listed_each es)

  Agree-edit : (n : ℕ) (f : Block R (Row N) → Block R (Row N)) → ((e : Held R A N) → entry_at (lying e.at e.alloc (f e.value)) ≡ entry_at e) → (es : List (Held R A N)) → Agree es (edit_block n f es)
  Agree-edit n f keeps es = record {
    entries = entries_each (edit_block n f es) ∙ edit_unseen (λ e. (number_at e.at, entry_at e)) n f (λ e. ap (λ x. (number_at e.at, x)) (keeps e)) es ∙ sym (entries_each es);
    ages = listed_each (edit_block n f es) ∙ edit_unseen (λ e. (e.value.age, node_at e)) n f (λ e. ap (λ x. (x.age, x.node)) (keeps e)) es ∙ sym (listed_each es);
    lie = edit_unseen (λ e. e.at) n f (λ e. refl) es;
  }

  -- ---- the edits of the two neighbours

  pub Agree-older : (n older : Option Node) (es : List (Held R A N)) → Agree es (with_older n older es)
  Agree-older None older es = record { entries = refl; ages = refl; lie = refl }
  Agree-older (Some n) older es = Agree-edit (number_of n) (λ b. record b { older = older }) (λ e. refl) es

  pub Agree-newer : (n newer : Option Node) (es : List (Held R A N)) → Agree es (with_newer n newer es)
  Agree-newer None newer es = record { entries = refl; ages = refl; lie = refl }
  Agree-newer (Some n) newer es = Agree-edit (number_of n) (λ b. record b { newer = newer }) (λ e. refl) es

  pub Agree-then : (es xs ys : List (Held R A N)) → Agree es xs → Agree xs ys → Agree es ys
  Agree-then es xs ys a b = record { entries = b.entries ∙ a.entries; ages = b.ages ∙ a.ages; lie = b.lie ∙ a.lie }

  pub length_agrees : (es xs : List (Held R A N)) → Agree es xs → length xs ≡ length es
  length_agrees es xs a = sym (length-map xs (λ e. e.at)) ∙ ap length a.lie ∙ length-map es (λ e. e.at)

  pub with_older_absent : (o older : Option Node) (es : List (Held R A N)) → ((m : Node) → o ≡ Some m → found_in (number_of m) es ≡ None) → with_older o older es ≡ es
  with_older_absent None older es absent = refl
  with_older_absent (Some n) older es absent = edit_absent (number_of n) (λ b. record b { older = older }) es (absent n refl)

  pub with_older_tail : (n older : Option Node) (e : Held R A N) (es : List (Held R A N)) → ((m : Node) → n ≡ Some m → number_of m ≢ number_at e.at) → with_older n older (e ∷ es) ≡ e ∷ with_older n older es
  with_older_tail None older e es apart = refl
  with_older_tail (Some n) older e es apart = edit_tail (number_of n) (λ b. record b { older = older }) e es (apart n refl)

  pub with_newer_tail : (n newer : Option Node) (e : Held R A N) (es : List (Held R A N)) → ((m : Node) → n ≡ Some m → number_of m ≢ number_at e.at) → with_newer n newer (e ∷ es) ≡ e ∷ with_newer n newer es
  with_newer_tail None newer e es apart = refl
  with_newer_tail (Some n) newer e es apart = edit_tail (number_of n) (λ b. record b { newer = newer }) e es (apart n refl)

  -- ---- a node's block

  -- the node has a block, where it lies
  abbrev pub Lies : Node → List (Held R A N) → Type 0
  Lies m es = (g : Held R A N) × (found_in (number_of m) es ≡ Some g) × (g.at ≡ m.place.ptr)

  -- blocks that lie where those of the node do
  lies_like : (n : Node) (es xs : List (Held R A N)) → places xs ≡ places es → Lies n es → Lies n xs
  lies_like n [] xs same is = absurd (let bad = is.1 in cc)
  lies_like n (e ∷ es) [] same is = absurd (cc)
  lies_like n (e ∷ es) (x ∷ xs) same is =
      let at : x.at ≡ e.at = cc in
      let rest : places xs ≡ places es = cc in
      ⊎_elim
      (λ here.
      let g : e ≡ is.0 = same_Some e is.0 (sym (found_head (number_of n) e es here) ∙ is.1) in
      (x, found_head (number_of n) x xs (here ∙ ap number_at (sym at)), at ∙ ap (λ (m : Held R A N). m.at) g ∙ is.2))
      (λ off.
      let r = lies_like n es xs rest (is.0, sym (found_tail (number_of n) e es off) ∙ is.1, is.2) in
      (r.0, found_tail (number_of n) x xs (λ q. off (q ∙ ap number_at at)) ∙ r.1, r.2))
      (cases_eq (number_of n) (number_at e.at))

  pub HasBlock-lies : (o : Option Node) (es xs : List (Held R A N)) → places xs ≡ places es → ((m : Node) → o ≡ Some m → Lies m es) → HasBlock o xs
  HasBlock-lies None es xs same lies = tt
  HasBlock-lies (Some n) es xs same lies = let r = lies_like n es xs same (lies n refl) in lies_at xs n.place.ptr r.0 r.1 r.2

  -- the newest node has one
  pub newest_lies : (al : A) (newer newest : Option Node) (bound : ℕ) (es : List (Held R A N)) → IsChain al newer newest bound es → (m : Node) → newest ≡ Some m → Lies m es
  newest_lies al newer newest bound [] chain m q = absurd (let bad = sym chain ∙ q in cc)
  newest_lies al newer newest bound (e ∷ es) chain m q =
      let same : node_at e ≡ m = same_Some (node_at e) m (sym chain.0 ∙ q) in
      (e, found_head (number_of m) e es (ap number_of (sym same)), chain.5 ∙ ap (λ (n : Node). n.place.ptr) same)

  -- ---- a chain under another block before it, and a higher bound

  pub headed : (al : A) (newer other newest : Option Node) (bound more : ℕ) (es : List (Held R A N)) → bound ≤ more → IsChain al newer newest bound es → IsChain al other newest more (with_newer newest other es)
  headed al newer other newest bound more [] le chain = subst (λ o. IsChain {R = R} {N = N} al other o more (with_newer o other [])) (sym chain) refl
  headed al newer other newest bound more (e ∷ es) le chain =
      subst (λ o. IsChain al other o more (with_newer o other (e ∷ es))) (sym chain.0) (
      subst (IsChain al other (Some (node_at e)) more) (sym (edit_head (number_at e.at) (λ b. record b { newer = other }) e es refl)) (
        refl,
        refl,
        (let lower = chain.2 in omega arith),
        chain.3,
        chain.4,
        chain.5,
        chain.6,
      ))
