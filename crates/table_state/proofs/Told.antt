-- What all lines of a state tell.
use Rattle.std.proofs.Common.{◌≡◌, ℕ, List, [], ◌∷◌, ◌++◌, length, map, sym, ap, ap₂, ◌∙◌, append_assoc}
use Rattle.std.specs.Prelude.{codes, option_map}
use Rattle.container_model.specs.declared.handle.Entry.{Entry}
use Rattle.container_model.specs.declared.handle.Handle.{Handle}
use Rattle.table_cmd.specs.declared.command.Command.TheVariants as commands
use Rattle.table_schema.specs.declared.column.Column.{Column}
use Rattle.table_schema.specs.declared.column.IndexSpec.{IndexSpec}
use Rattle.table_schema.specs.Shape.{TableShape}
use Rattle.table_terms.specs.Table.{Cells, IsOfSameTable}
use Rattle.table_state.specs.State.{columns_command, count_command, head_commands, index_command, line_of, lines_text, order_commands, part_text, record_command}

module _ (made spec : TableShape) (same : IsOfSameTable made spec) where
  -- the lines of the numbers and the columns are those of the declaration
  same_head : (writes indices records : ℕ) → lines_text (head_commands spec writes indices records) ≡ lines_text (head_commands made writes indices records)
  same_head writes indices records =
      ap₂
      (λ name columns. lines_text
      (commands.Nth name (codes "writes") writes ∷ commands.Nth name (codes "indices") indices ∷ commands.Nth name (codes "records") records
      ∷ commands.Sort name (codes "columns") (map (λ (c : Column). c.name) columns) ∷ []))
      (sym same.name)
      (sym same.columns)

  -- and so are those of indices
  same_indices : (indices : List IndexSpec) → lines_text (map (index_command spec) indices) ≡ lines_text (map (index_command made) indices)
  same_indices indices =
      ap₂
      (λ name columns. lines_text (map (λ (index : IndexSpec). commands.AddIndex name index.name index.kind index.unique (option_map (map (part_text columns)) index.key)) indices))
      (sym same.name)
      (sym same.columns)

module _ (a b c d e f g rest : List ℕ) where
  -- the parts of a text, one behind another
  apart : ((a ++ (b ++ (c ++ (d ++ [])))) ++ (e ++ (f ++ g))) ++ rest ≡ a ++ (b ++ (c ++ (d ++ (e ++ (f ++ (g ++ rest))))))
  apart =
      append_assoc (a ++ (b ++ (c ++ (d ++ [])))) (e ++ (f ++ g)) rest
      ∙ ap (λ xs. (a ++ (b ++ (c ++ (d ++ [])))) ++ xs) (append_assoc e (f ++ g) rest ∙ ap (λ xs. e ++ xs) (append_assoc f g rest))
      ∙ append_assoc a (b ++ (c ++ (d ++ []))) (e ++ (f ++ (g ++ rest)))
      ∙ ap (λ xs. a ++ xs)
      (append_assoc b (c ++ (d ++ [])) (e ++ (f ++ (g ++ rest)))
      ∙ ap (λ xs. b ++ xs) (append_assoc c (d ++ []) (e ++ (f ++ (g ++ rest))) ∙ ap (λ xs. c ++ xs) (append_assoc d [] (e ++ (f ++ (g ++ rest))))))

-- the parts of a state of the declaration were taken, one behind another
pub all_taken : (made spec : TableShape) → IsOfSameTable made spec → (writes indices records : ℕ) (entries : List (Entry Cells)) (lists : List (List Handle)) (l0 l1 l2 l3 l4 l5 l6 l7 : List ℕ)
    → length made.indices ≡ indices → length entries ≡ records
    → l0 ≡ line_of (count_command spec (codes "writes") writes) ++ l1 → l1 ≡ line_of (count_command spec (codes "indices") indices) ++ l2 → l2 ≡ line_of (count_command spec (codes "records") records) ++ l3
    → l3 ≡ line_of (columns_command spec) ++ l4 → l4 ≡ lines_text (map (index_command spec) made.indices) ++ l5 → l5 ≡ lines_text (map (record_command made) entries) ++ l6 → l6 ≡ lines_text (order_commands made lists) ++ l7
    → l0 ≡ (lines_text (head_commands made writes (length made.indices) (length entries)) ++ (lines_text (map (index_command made) made.indices) ++ (lines_text (map (record_command made) entries) ++ lines_text (order_commands made lists)))) ++ l7
all_taken made spec same writes indices records entries lists l0 l1 l2 l3 l4 l5 l6 l7 many all e0 e1 e2 e3 e4 e5 e6 =
    let a = line_of (count_command spec (codes "writes") writes) in
    let b = line_of (count_command spec (codes "indices") indices) in
    let c = line_of (count_command spec (codes "records") records) in
    let d = line_of (columns_command spec) in
    let e = lines_text (map (index_command spec) made.indices) in
    let f = lines_text (map (record_command made) entries) in
    let g = lines_text (order_commands made lists) in
    e0 ∙ ap (λ l. a ++ l) (e1 ∙ ap (λ l. b ++ l) (e2 ∙ ap (λ l. c ++ l) (e3 ∙ ap (λ l. d ++ l) (e4 ∙ ap (λ l. e ++ l) (e5 ∙ ap (λ l. f ++ l) e6)))))
    ∙ sym (apart a b c d e f g l7)
    ∙ ap₂ (λ n m. (lines_text (head_commands spec writes n m) ++ (e ++ (f ++ g))) ++ l7) (sym many) (sym all)
    ∙ ap₂ (λ xs ys. (xs ++ (ys ++ (f ++ g))) ++ l7) (same_head made spec same writes (length made.indices) (length entries)) (same_indices made spec same made.indices)
