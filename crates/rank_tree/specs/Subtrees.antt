-- The number of nodes of a subtree, as its root keeps it.
use Rattle.std.specs.Prelude.{ℕ, ◌+◌, ◌%◌, ◌^◌}

-- the size of a tree whose sides have these sizes, as far as a tag holds it
abbrev pub size_tally : ℕ → ℕ → ℕ
size_tally left right = (left + right + 1) % 2 ^ 64
