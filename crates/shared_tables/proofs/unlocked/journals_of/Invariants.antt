use Rattle.std.proofs.Common.{◌≡◌, ◌+◌, ◌++◌, map, vec_len}
use Rattle.std.specs.Prelude.{vec_capacity, reverse}
use Rattle.shared_tables.proofs.unlocked.journals_of.Given as goal

abbrev pub invariant-loop-cell : goal.invariant-loop-cell
invariant-loop-cell l =
    (vec_len l.journals + vec_len l.cells ≡ vec_len l.initial.journals + vec_len l.initial.cells)
    × (vec_capacity l.journals ≡ vec_capacity l.initial.journals)
    × (map (λ entries. entries.items) l.journals.items ++ map (λ cell. cell.journal) (reverse l.cells.items)
    ≡ map (λ entries. entries.items) l.initial.journals.items ++ map (λ cell. cell.journal) (reverse l.initial.cells.items))

abbrev pub decreases-loop-cell : goal.decreases-loop-cell
decreases-loop-cell l = vec_len l.cells
