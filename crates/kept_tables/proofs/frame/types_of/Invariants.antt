use denote.Shadow.{shadow}
use denote.Text.{Utf8}
use Rattle.std.proofs.Common.{◌≡◌, ◌++◌, codes, drop, string_bytes}
use Rattle.kept_tables.specs.Types.{types_behind}
use Rattle.kept_tables.proofs.frame.types_of.Given as goal

abbrev pub invariant-loop-column : goal.invariant-loop-column
invariant-loop-column l =
    (string_bytes l.line ++ types_behind l.before (drop l.column-index l.columns) ≡ codes "{\"cells\":[" ++ types_behind (codes "\"") l.columns) × shadow (Utf8 l.before)
