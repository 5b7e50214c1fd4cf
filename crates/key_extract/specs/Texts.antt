-- What a text is, wherever its bytes stand.
use Rattle.std.specs.Prelude.{ℕ, List, string_bytes}
use Rattle.key_extract.specs.declared.cell.Stored.{Stored}
use Rattle.key_extract.specs.declared.cell.Stored.TheVariants.{Short, Long}

abbrev pub stored_bytes : Stored → List ℕ
stored_bytes (Short text) = text.bytes
stored_bytes (Long text) = string_bytes text
