-- The hash of a key: what is fed to it, cell by cell, and what comes of it.
use Rattle.std.specs.Prelude.{ℕ, ◌++◌, List, Option, Some, pos, slice_get, fold}
use Rattle.std.specs.List.{flat_map}
use Rattle.std.specs.Hash.{HashWrites, isize, i64, str, bool, option}
use Rattle.std.specs.Hash.FoldHasher as folding
use Rattle.key_extract.specs.declared.cell.Cell.{Cell}
use Rattle.key_extract.specs.declared.cell.Cell.TheVariants.{Null, Int, Text, Bool as Truth}
use Rattle.key_extract.specs.declared.key.Part.{Part}

-- the type of the cell, and then its value
abbrev pub cell_writes : Cell → HashWrites
cell_writes Null = isize (pos 0)
cell_writes (Int a) = isize (pos 1) ++ i64 a
cell_writes (Text a) = isize (pos 2) ++ str a
cell_writes (Truth a) = isize (pos 3) ++ bool a

-- whether there is a cell, and then that cell
abbrev pub optional_cell_writes : Option Cell → HashWrites
optional_cell_writes = option cell_writes

-- the cells of a row's key, part by part
abbrev pub row_writes : List Part → List Cell → HashWrites
row_writes parts row = flat_map (λ part. optional_cell_writes (slice_get row part.column)) parts

-- the cells of a whole probe
abbrev pub probe_writes : List Cell → HashWrites
probe_writes cells = flat_map (λ cell. optional_cell_writes (Some cell)) cells

-- the hash of what is fed
unfoldable pub hash_from : HashWrites → ℕ
hash_from writes = folding.finish (fold folding.write folding.initial writes)

abbrev pub row_hash : List Part → List Cell → ℕ
row_hash parts row = hash_from (row_writes parts row)

abbrev pub probe_hash : List Cell → ℕ
probe_hash cells = hash_from (probe_writes cells)
