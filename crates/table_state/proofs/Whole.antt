-- What is read of the whole state of a table that can stand.
use Rattle.std.proofs.Common.{◌≡◌, ℕ, ◌≤◌, List, length, sym, ap, ◌∙◌, subst, arith}
use Rattle.std.specs.Prelude.{codes}
use Rattle.command_lines.specs.Fits.{CommandFits}
use Rattle.container_model.specs.declared.handle.Entry.{Entry}
use Rattle.container_model.specs.declared.handle.Handle.{Handle}
use Rattle.table_schema.specs.Shape.{TableShape}
use Rattle.table_schema.specs.Valid.{IsValidTable}
use Rattle.table_schema.proofs.Facts.{within_high}
use Rattle.table_terms.specs.Table.{Cells, IsOfSameTable, TableState, keys_of, specs_of}
use Rattle.table_state.specs.Parts.{EntriesFit, IndicesFit, OrdersFit}
use Rattle.table_state.specs.Standing.{CanStand}
use Rattle.table_state.specs.State.{columns_command, count_command}
use Rattle.table_state.proofs.Spelled.{columns_fit, count_fits, indices_utf8, records_utf8, writes_utf8}
use Rattle.table_state.proofs.Steps.{same_shape}
use Rattle.table_state.proofs.Stood.{entries_fit, orders_fit}

module _ (t : TableState) (stands : CanStand t) (spec : TableShape) (same : IsOfSameTable t.shape spec) where
  valid : IsValidTable (record spec { indices = t.shape.indices })
  valid = subst IsValidTable (sym (same_shape t.shape spec same)) stands.declared

  pub writes_fit : CommandFits (count_command spec (codes "writes") t.records.writes)
  writes_fit = count_fits (record spec { indices = t.shape.indices }) valid (codes "writes") t.records.writes writes_utf8 stands.writes

  pub indices_count_fits : CommandFits (count_command spec (codes "indices") (length t.shape.indices))
  indices_count_fits =
      let most : length t.shape.indices ≤ 8 = within_high 1 8 (length t.shape.indices) stands.declared.indices in
      count_fits (record spec { indices = t.shape.indices }) valid (codes "indices") (length t.shape.indices) indices_utf8 (omega (arith, most))

  pub records_count_fits : CommandFits (count_command spec (codes "records") (length t.records.entries))
  records_count_fits =
      let most : t.shape.max ≤ 4294967295 = within_high 1 4294967295 t.shape.max stands.declared.max in
      count_fits (record spec { indices = t.shape.indices }) valid (codes "records") (length t.records.entries) records_utf8 (omega (arith, most, stands.kept.within_max, stands.max))

  pub names_fit : CommandFits (columns_command spec)
  names_fit = columns_fit (record spec { indices = t.shape.indices }) valid

  pub indices_fit : (many : ℕ) → many ≡ length t.shape.indices → IndicesFit spec many t.shape.indices
  indices_fit many is = record { count = sym is; valid = valid }

module _ (t : TableState) (stands : CanStand t) (made : TableShape) (shape : made ≡ t.shape) where
  pub records_fit : (many : ℕ) → many ≡ length t.records.entries → EntriesFit made many t.records.entries
  records_fit many is =
      let found = entries_fit t stands in
      subst (λ s. EntriesFit s many t.records.entries) (sym shape) (record { count = sym is; each = found.each })

  pub lists_fit : OrdersFit made t.records.lists
  lists_fit = subst (λ s. OrdersFit s t.records.lists) (sym shape) (orders_fit t stands)

  -- what was read is the table
  pub told_is : (writes : ℕ) (entries : List (Entry Cells)) (lists : List (List Handle)) → writes ≡ t.records.writes → entries ≡ t.records.entries → lists ≡ t.records.lists →
      record { shape = made; records = record { keys = keys_of made; specs = specs_of made; most = 8; max = made.max; writes = writes; entries = entries; lists = lists } } ≡ t
  told_is writes entries lists w e l =
      let keys : keys_of made ≡ t.records.keys = ap keys_of shape ∙ sym stands.indices.keys in
      let specs : specs_of made ≡ t.records.specs = ap specs_of shape ∙ sym stands.indices.specs in
      let most : 8 ≡ t.records.most = sym stands.most in
      let max : made.max ≡ t.records.max = ap (λ (s : TableShape). s.max) shape ∙ sym stands.max in
      λ i. record {
        shape = shape i;
        records = record { keys = keys i; specs = specs i; most = most i; max = max i; writes = w i; entries = e i; lists = l i };
      }
