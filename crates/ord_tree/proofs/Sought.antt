-- The descent by a key.
use Rattle.std.proofs.Common.{◌≡◌, ℕ, ◌≤◌, Bool, true, false, cond, List, ◌∷◌, Option, Some, refl, sym, ap, ◌∙◌, arith}
use Rattle.std.specs.Prelude.{find}
use Rattle.std.specs.List.{AllByRecursion}
use Rattle.std.specs.Ordering.{ordering_index, is_lt, is_le}
use Rattle.std.specs.declared.cmp.Ordering.{Ordering}
use Rattle.std.specs.declared.cmp.Ordering.TheVariants.{Less, Equal, Greater}
use Rattle.node_store.specs.declared.Node.{Node}
use Rattle.node_store.specs.declared.Link.{Link}
use Rattle.node_store.specs.Column.{Column}
use Rattle.list_model.specs.Order.{EachPair}
use Rattle.list_model.specs.Place.{lower, upper}
use Rattle.list_model.proofs.InOrder.{All-map}
use Rattle.list_model.proofs.Orders.{lt_falls, le_falls}
use Rattle.ord_tree.specs.Seek.{Which, NotBefore, Same, After, is_sought, comes_before}
use Rattle.ord_tree.specs.Tree.{Tree, nodes}
use Rattle.ord_tree.proofs.Nearing.{EachPair-each, Nears, Opens, go_right, go_left, take_here}
use Rattle.ord_tree.proofs.KeySides.{Rises, cut_found}

-- what stands before one that comes before all that are looked for does so too
passed : (s : Which) (o p : Ordering) → comes_before s o ≡ true → ordering_index p ≤ ordering_index o → is_sought s p ≡ false
passed NotBefore Less Less h k = refl
passed NotBefore Less Equal h k = absurd (omega arith)
passed NotBefore Less Greater h k = absurd (omega arith)
passed NotBefore Equal p h k = cc
passed NotBefore Greater p h k = cc
passed Same Less Less h k = refl
passed Same Less Equal h k = absurd (omega arith)
passed Same Less Greater h k = absurd (omega arith)
passed Same Equal p h k = cc
passed Same Greater p h k = cc
passed After Less Less h k = refl
passed After Less Equal h k = refl
passed After Less Greater h k = absurd (omega arith)
passed After Equal Less h k = refl
passed After Equal Equal h k = refl
passed After Equal Greater h k = absurd (omega arith)
passed After Greater p h k = cc

-- what stands after one that comes after all that are looked for does so too
ahead : (s : Which) (o p : Ordering) → comes_before s o ≡ false → is_sought s o ≡ false → ordering_index o ≤ ordering_index p → is_sought s p ≡ false
ahead NotBefore Less p h e k = cc
ahead NotBefore Equal p h e k = cc
ahead NotBefore Greater p h e k = cc
ahead Same Less p h e k = cc
ahead Same Equal p h e k = cc
ahead Same Greater Less h e k = refl
ahead Same Greater Equal h e k = absurd (omega arith)
ahead Same Greater Greater h e k = refl
ahead After Less p h e k = cc
ahead After Equal p h e k = cc
ahead After Greater p h e k = cc

module _ (tally : ℕ → ℕ → ℕ) (c : Column) (side : Node → Ordering) (s : Which) (whole : Tree) (n : Node) (link : Link) (found : Option Node) (o : Opens tally c (Rises side) (λ x. is_sought s (side x)) whole n link found) (order : Ordering) (is : side n ≡ order) where
  pub sought_right : comes_before s order ≡ true → Nears tally c (Rises side) (λ x. is_sought s (side x)) whole link.b found
  sought_right h =
      let t : comes_before s (side n) ≡ true = ap (comes_before s) is ∙ h in
      go_right tally c (Rises side) (λ x. is_sought s (side x)) whole n link found o
      (All-map (λ x. AllByRecursion (Rises side x) (n ∷ nodes o.right)) (λ x. is_sought s (side x) ≡ false) (λ x k. passed s (side n) (side x) t k.0) (nodes o.left) o.pairs.across) (passed s (side n) (side n) t (omega arith))

  pub sought_here : is_sought s order ≡ true → Nears tally c (Rises side) (λ x. is_sought s (side x)) whole link.a (Some n)
  sought_here h = take_here tally c (Rises side) (λ x. is_sought s (side x)) whole n link found o (ap (is_sought s) is ∙ h)

  pub sought_left : comes_before s order ≡ false → is_sought s order ≡ false → Nears tally c (Rises side) (λ x. is_sought s (side x)) whole link.a found
  sought_left h e =
      let t : comes_before s (side n) ≡ false = ap (comes_before s) is ∙ h in
      let u : is_sought s (side n) ≡ false = ap (is_sought s) is ∙ e in
      go_left tally c (Rises side) (λ x. is_sought s (side x)) whole n link found o u
      (All-map (Rises side n) (λ x. is_sought s (side x) ≡ false) (λ x k. ahead s (side n) (side x) t u k) (nodes o.right) o.pairs.back.0)

-- what comes before all that are looked for is none of them
not_both : (s : Which) (o : Ordering) → comes_before s o ≡ true → is_sought s o ≡ true → ⊥
not_both s o h e = let no : true ≡ false = sym e ∙ passed s o o h (omega arith) in cc no

module _ (tally : ℕ → ℕ → ℕ) (c : Column) (side : Node → Ordering) (s : Which) (whole : Tree) (n : Node) (link : Link) (found : Option Node) (o : Opens tally c (Rises side) (λ x. is_sought s (side x)) whole n link found) (order : Ordering) (is : side n ≡ order) where
  -- the next node of the descent, and what was found so far
  pub sought_on : (before here : Bool) → comes_before s order ≡ before → is_sought s order ≡ here → Nears tally c (Rises side) (λ x. is_sought s (side x)) whole (cond before link.b link.a) (cond here (Some n) found)
  sought_on true true h e = absurd (not_both s order h e)
  sought_on true false h e = sought_right tally c side s whole n link found o order is h
  sought_on false true h e = sought_here tally c side s whole n link found o order is e
  sought_on false false h e = sought_left tally c side s whole n link found o order is h e

-- ---- the definitions by places

-- the first that does not come before the key, and the first that comes after it, are those looked for
pub lower_found : (side : Node → Ordering) (xs : List Node) → EachPair (Rises side) xs → lower side xs ≡ find (λ x. is_sought NotBefore (side x)) xs
lower_found side xs h = cut_found (λ x. is_lt (side x)) xs (EachPair-each (Rises side) (λ x y. is_lt (side x) ≡ false → is_lt (side y) ≡ false) (λ x y k. lt_falls (side x) (side y) k) xs h)

pub upper_found : (side : Node → Ordering) (xs : List Node) → EachPair (Rises side) xs → upper side xs ≡ find (λ x. is_sought After (side x)) xs
upper_found side xs h = cut_found (λ x. is_le (side x)) xs (EachPair-each (Rises side) (λ x y. is_le (side x) ≡ false → is_le (side y) ≡ false) (λ x y k. le_falls (side x) (side y) k) xs h)
