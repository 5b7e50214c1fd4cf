-- What the commands of indices, records and orders say is what they were made of.
use Rattle.std.proofs.Common.{◌≡◌, ℕ, List, Some, ap, ap₂, ◌∙◌}
use Rattle.std.specs.Prelude.{option_map}
use Rattle.container_model.specs.declared.handle.Entry.{Entry}
use Rattle.container_model.specs.declared.handle.Handle.{Handle}
use Rattle.table_cmd.specs.declared.command.Command.{Command}
use Rattle.table_schema.specs.declared.column.Column.{Column}
use Rattle.table_schema.specs.declared.column.IndexSpec.{IndexSpec}
use Rattle.table_schema.specs.Shape.{TableShape}
use Rattle.table_state.specs.Parts.{EntryFits, IndexFits, entry_in, index_in, order_in}
use Rattle.table_state.specs.State.{index_command, order_command, record_command}
use Rattle.table_state.proofs.Again.{cells_again, handles_again}
use Rattle.table_terms.specs.Table.{Cells}

module _ (shape : TableShape) (columns : List Column) (command : Command) (all : columns ≡ shape.columns) where
  pub index_said : (indices : List IndexSpec) (index : IndexSpec) → IndexFits shape indices index → command ≡ index_command shape index → index_in columns indices command ≡ Some index
  index_said indices index fits is = ap₂ (λ (cs : List Column) (c : Command). index_in cs indices c) all is ∙ fits.again

  pub entry_said : (entry : Entry Cells) → EntryFits shape entry → command ≡ record_command shape entry → entry_in columns command ≡ Some entry
  entry_said entry fits is =
      ap₂ entry_in all is ∙ ap (option_map (λ (row : Cells). record { handle = entry.handle; row = row })) (cells_again shape.columns entry.row fits.row)

pub order_said : (shape : TableShape) (name : List ℕ) (handles : List Handle) (command : Command) → command ≡ order_command shape name handles → order_in command ≡ Some handles
order_said shape name handles command is = ap order_in is ∙ handles_again handles
