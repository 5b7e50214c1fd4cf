-- The node whose record bans another is no excepted node.
use Rattle.std.proofs.Common.{◌≡◌, ◌≢◌, ℕ, ◌+◌, Bool, true, false, not, ◌&&◌, cond, List, [], ◌∷◌, get_or, Option, Some, None, refl, sym, ap, ◌∙◌, subst}
use Rattle.std.specs.Prelude.{find}
use Rattle.std.specs.Option.{option_map_or}
use Rattle.std.proofs.lemmas.Option.{same_Some}
use Rattle.std.specs.Ordering.{is_eq}
use Rattle.std.specs.declared.cmp.Ordering.{Ordering}
use Rattle.node_store.specs.declared.Node.{Node}
use Rattle.node_store.specs.ByNode.{same_node}
use Rattle.node_store.proofs.ByNode.{same_node-refl}
use Rattle.container_model.specs.declared.handle.Spec.{Spec}
use Rattle.any_index.specs.Side.{side_of, is_kept, equal_but}
use Rattle.index_set.specs.Lists.{ban_from}

-- what is found passes the test
found_true : {X : Type 0} (p : X → Bool) (xs : List X) (x : X) → find p xs ≡ Some x → p x ≡ true
found_true p [] x e = absurd (cc)
found_true p (y ∷ xs) x e = by (p y) refl (found_true p xs x) e
  where
    by : (b : Bool) → p y ≡ b → (find p xs ≡ Some x → p x ≡ true) → cond b (Some y) (find p xs) ≡ Some x → p x ≡ true
    by true is rest here = subst (λ z. p z ≡ true) (same_Some y x here) is
    by false is rest here = rest here

-- a node that passes a test for other nodes is another
other_of : (n m : Node) (b : Bool) → (is_kept (Some n) m && b) ≡ true → m ≢ n
other_of n m b e same =
    let out : not (same_node n m) ≡ false = ap (λ z. not (same_node n z)) same ∙ ap not (same_node-refl n) in
    let bad = sym e ∙ ap (λ z. z && b) out in absurd (cc)

pub ban_other : {R : Type 0} (order : ℕ → R → R → Ordering) (records : Node → Option R) (lists : List (List Node)) (n : Node) (row : R) (index : ℕ) (specs : List Spec) (at : ℕ × Node) → ban_from order records lists (Some n) row index specs ≡ Some at → at.1 ≢ n
ban_other order records lists n row index [] at e = absurd (cc)
ban_other order records lists n row index (spec ∷ specs) at e =
    by spec.unique (equal_but (Some n) (side_of records (λ a. order index a row)) (get_or lists index [])) refl (ban_other order records lists n row (index + 1) specs at) e
  where
    by : (b : Bool) (o : Option Node) → equal_but (Some n) (side_of records (λ a. order index a row)) (get_or lists index []) ≡ o → (ban_from order records lists (Some n) row (index + 1) specs ≡ Some at → at.1 ≢ n) →
        option_map_or (λ by. Some (index, by)) (cond b o None) (ban_from order records lists (Some n) row (index + 1) specs) ≡ Some at → at.1 ≢ n
    by false o is rest here = rest here
    by true None is rest here = rest here
    by true (Some m) is rest here =
        let test = found_true (λ z. is_kept (Some n) z && is_eq (side_of records (λ a. order index a row) z)) (get_or lists index []) m is in
        subst (λ (z : Node). z ≢ n) (ap (λ (q : ℕ × Node). q.1) (same_Some (index, m) at here)) (other_of n m _ test)
