-- What the definitions on lists say of a list at one of its nodes.
use Rattle.std.proofs.Common.{◌≡◌, Bool, true, false, cond, List, [], ◌∷◌, ◌++◌, length, slice_get, Option, Some, None, refl, ap, ◌∙◌}
use Rattle.std.specs.List.{AllByRecursion}
use Rattle.node_store.specs.declared.Node.{Node}
use Rattle.node_store.specs.Nodes.{IsDistinct, first_or, last_or}
use Rattle.node_store.specs.ByNode.{same_node}
use Rattle.node_store.proofs.ByNode.{same_node-refl}
use Rattle.node_store.proofs.Members.{others_differ}
use Rattle.node_store.proofs.NodeLists.{IsDistinct-parts, AreApart-head}
use Rattle.list_model.specs.Walk.{place_of, without, next, prev, prev_onto, last}
use Rattle.list_model.proofs.Settled.{without-middle, place_of-middle, next-middle, first}

-- no node beside this one is this one
pub record Apart (n : Node) (xs ys : List Node) : Type 0 where
  pub before : AllByRecursion (λ y. same_node n y ≡ false) xs
  pub after : AllByRecursion (λ y. same_node n y ≡ false) ys

pub apart_at : (xs : List Node) (n : Node) (ys : List Node) → IsDistinct (xs ++ n ∷ ys) → Apart n xs ys
apart_at xs n ys h =
    let p = IsDistinct-parts xs (n ∷ ys) h in
    record { before = others_differ n xs (AreApart-head xs ys n p.apart); after = others_differ n ys p.back.0 }

pub without_at : (xs : List Node) (n : Node) (ys : List Node) → IsDistinct (xs ++ n ∷ ys) → without (same_node n) (xs ++ n ∷ ys) ≡ xs ++ ys
without_at xs n ys h = let a = apart_at xs n ys h in without-middle (same_node n) xs n ys a.before (same_node-refl n) a.after

pub place_at : (xs : List Node) (n : Node) (ys : List Node) → IsDistinct (xs ++ n ∷ ys) → place_of (same_node n) (xs ++ n ∷ ys) ≡ length xs
place_at xs n ys h = place_of-middle (same_node n) xs n ys (apart_at xs n ys h).before (same_node-refl n)

first_is : (xs : List Node) → first xs ≡ first_or xs None
first_is [] = refl
first_is (x ∷ xs) = refl

pub next_at : (xs : List Node) (n : Node) (ys : List Node) → IsDistinct (xs ++ n ∷ ys) → next (same_node n) (xs ++ n ∷ ys) ≡ first_or ys None
next_at xs n ys h = next-middle (same_node n) xs n ys (apart_at xs n ys h).before (same_node-refl n) ∙ first_is ys

prev_onto_at : (is : Node → Bool) (before : Option Node) (xs : List Node) (n : Node) (ys : List Node) → AllByRecursion (λ y. is y ≡ false) xs → is n ≡ true → prev_onto is before (xs ++ n ∷ ys) ≡ last_or xs before
prev_onto_at is before [] n ys h e = ap (λ b. cond b before (prev_onto is (Some n) ys)) e
prev_onto_at is before (x ∷ xs) n ys h e = ap (λ b. cond b before (prev_onto is (Some x) (xs ++ n ∷ ys))) h.0 ∙ prev_onto_at is (Some x) xs n ys h.1 e

pub prev_at : (xs : List Node) (n : Node) (ys : List Node) → IsDistinct (xs ++ n ∷ ys) → prev (same_node n) (xs ++ n ∷ ys) ≡ last_or xs None
prev_at xs n ys h = prev_onto_at (same_node n) None xs n ys (apart_at xs n ys h).before (same_node-refl n)

last_from : (x : Node) (xs : List Node) → slice_get (x ∷ xs) (length xs) ≡ last_or xs (Some x)
last_from x [] = refl
last_from x (y ∷ xs) = last_from y xs

pub last_is : (xs : List Node) → last xs ≡ last_or xs None
last_is [] = refl
last_is (x ∷ xs) = last_from x xs

pub first_at : (xs : List Node) → slice_get xs 0 ≡ first_or xs None
first_at [] = refl
first_at (x ∷ xs) = refl
