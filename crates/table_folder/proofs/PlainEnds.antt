-- The logs of an older program.
use Rattle.std.proofs.Common.{◌≡◌, ◌≢◌, ℕ, nat_lt, false, List, Option, Some, None, refl, sym, ap, ◌∙◌}
use Rattle.std.specs.Option.{option_map_or}
use Rattle.std.specs.Prelude.{option_map}
use Rattle.table_folder.specs.Lines.{lines_of}
use Rattle.table_folder.specs.Older.{IsLeftBy}
use Rattle.table_folder.specs.Plain.{end_behind, end_of, ends_with}
use Rattle.table_folder.specs.declared.lines.Lines.{Lines}
use Rattle.table_folder.specs.declared.plain.PlainEnd.{PlainEnd}
use Rattle.table_log.specs.Loaded.{IsReplayed}
use Rattle.table_terms.specs.Table.{TableState}

-- a log that was found, of which all lines were counted
pub ends_are : (begin : Option ℕ) (x contents : Option (List ℕ)) (lines : Lines) → x ≡ contents → x ≢ None → ((bytes : List ℕ) → contents ≡ Some bytes → lines ≡ lines_of bytes)
    → Some (end_behind begin lines) ≡ option_map (end_of begin) x
ends_are begin None contents lines same there counted = absurd (there refl)
ends_are begin (Some bytes) contents lines same there counted = ap (λ l. Some (end_behind begin l)) (counted bytes (sym same))

-- what is told of the end of a log
pub told_of : (number : ℕ) (begin : Option ℕ) (end : Option PlainEnd) (x : Option (List ℕ)) → end ≡ option_map (end_of begin) x
    → option_map (ends_with number) end ≡ option_map (λ bytes. ends_with number (end_of begin bytes)) x
told_of number begin end None is = ap (option_map (ends_with number)) is
told_of number begin end (Some bytes) is = ap (option_map (ends_with number)) is

-- one that is no longer has no later write
pub not_longer : (number : ℕ) (begin : Option ℕ) (end : Option PlainEnd) (bytes : List ℕ) → option_map_or (λ (e : PlainEnd). nat_lt number e.number) end false ≡ false
    → end ≡ Some (end_of begin bytes) → nat_lt number (end_of begin bytes).number ≡ false
not_longer number begin end bytes isnt is = sym (ap (λ (o : Option PlainEnd). option_map_or (λ (e : PlainEnd). nat_lt number e.number) o false) is) ∙ isnt

-- a log that was found, whose lines were carried out
pub left_by : (start : TableState) (x contents : Option (List ℕ)) (torn : ℕ) (table : TableState) → x ≡ contents → x ≢ None
    → ((bytes : List ℕ) → contents ≡ Some bytes → IsReplayed start bytes torn table) → IsLeftBy start x table
left_by start None contents torn table same there replayed = absurd (there refl)
left_by start (Some bytes) contents torn table same there replayed = (torn, replayed bytes (sym same))
