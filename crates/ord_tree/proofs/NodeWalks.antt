-- What the definitions on lists say of a list at one of its nodes.
use Rattle.std.proofs.Common.{◌≡◌, false, cond, List, [], ◌∷◌, ◌++◌, length, slice_get, Option, Some, None, refl, ap, ◌∙◌}
use Rattle.std.specs.List.{AllByRecursion}
use Rattle.node_store.specs.declared.Node.{Node}
use Rattle.node_store.specs.Nodes.{Lacks, IsDistinct, first_or, last_or}
use Rattle.node_store.specs.ByNode.{same_node}
use Rattle.node_store.proofs.ByNode.{same_node-refl}
use Rattle.node_store.proofs.Members.{others_differ}
use Rattle.node_store.proofs.NodeLists.{IsDistinct-parts, AreApart-head, Lacks-append}
use Rattle.list_model.specs.Walk.{without, next, prev, prev_onto, last}
use Rattle.list_model.proofs.Settled.{without-middle, next-middle, first}

-- no node beside this one is this one
pub record Apart (n : Node) (xs ys : List Node) : Type 0 where
  pub before : AllByRecursion (λ y. same_node n y ≡ false) xs
  pub after : AllByRecursion (λ y. same_node n y ≡ false) ys

module _ (xs : List Node) (n : Node) (ys : List Node) (dist : IsDistinct (xs ++ n ∷ ys)) where
  pub apart_at : Apart n xs ys
  apart_at =
      let p = IsDistinct-parts xs (n ∷ ys) dist in
      record { before = others_differ n xs (AreApart-head xs ys n p.apart); after = others_differ n ys p.back.0 }

  pub rest_lacks : Lacks (xs ++ ys) n
  rest_lacks = let p = IsDistinct-parts xs (n ∷ ys) dist in Lacks-append xs ys n (AreApart-head xs ys n p.apart) p.back.0

  pub without_at : without (same_node n) (xs ++ n ∷ ys) ≡ xs ++ ys
  without_at = let a = apart_at in without-middle (same_node n) xs n ys a.before (same_node-refl n) a.after

  pub next_at : next (same_node n) (xs ++ n ∷ ys) ≡ first_or ys None
  next_at = next-middle (same_node n) xs n ys apart_at.before (same_node-refl n) ∙ first_is ys
    where
      first_is : (zs : List Node) → first zs ≡ first_or zs None
      first_is [] = refl
      first_is (z ∷ zs) = refl

  pub prev_at : prev (same_node n) (xs ++ n ∷ ys) ≡ last_or xs None
  prev_at = onto None xs apart_at.before
    where
      onto : (before : Option Node) (zs : List Node) → AllByRecursion (λ y. same_node n y ≡ false) zs → prev_onto (same_node n) before (zs ++ n ∷ ys) ≡ last_or zs before
      onto before [] h = ap (λ b. cond b before (prev_onto (same_node n) (Some n) ys)) (same_node-refl n)
      onto before (z ∷ zs) h = ap (λ b. cond b before (prev_onto (same_node n) (Some z) (zs ++ n ∷ ys))) h.0 ∙ onto (Some z) zs h.1

last_from : (x : Node) (xs : List Node) → slice_get (x ∷ xs) (length xs) ≡ last_or xs (Some x)
last_from x [] = refl
last_from x (y ∷ xs) = last_from y xs

pub last_is : (xs : List Node) → last xs ≡ last_or xs None
last_is [] = refl
last_is (x ∷ xs) = last_from x xs

pub first_at : (xs : List Node) → slice_get xs 0 ≡ first_or xs None
first_at [] = refl
first_at (x ∷ xs) = refl
