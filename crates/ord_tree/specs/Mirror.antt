-- Trees and columns with left and right exchanged.
use Rattle.std.specs.Prelude.{ℕ, option_map}
use Rattle.node_store.specs.declared.Link.{Link}
use Rattle.node_store.specs.Column.{Column}
use Rattle.ord_tree.specs.Tree.{Tree, Leaf, Fork}

abbrev pub mirror : Tree → Tree
mirror Leaf = Leaf
mirror (Fork l n r) = Fork (mirror r) n (mirror l)

abbrev pub flipped_link : Link → Link
flipped_link l = record { a = l.b; b = l.a; up = l.up; tag = l.tag; height = l.height; digest = l.digest }

abbrev pub flipped : Column → Column
flipped c n = option_map flipped_link (c n)

abbrev pub flipped_tally : (ℕ → ℕ → ℕ) → ℕ → ℕ → ℕ
flipped_tally tally x y = tally y x
