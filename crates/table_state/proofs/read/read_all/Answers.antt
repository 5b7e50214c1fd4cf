use Rattle.std.proofs.Common.{◌≡◌, ℕ, List, codes, length, map, sym, subst, ◌∙◌}
use Rattle.std.proofs.lemmas.Result.{err_from_is_err_and}
use Rattle.table_terms.specs.Table.{IsOfSameTable, TableState}
use Rattle.table_state.specs.Standing.{CanStand}
use Rattle.table_state.specs.State.{columns_command, count_command, index_command, line_of, lines_text, record_command}
use Rattle.table_state.proofs.Seeking.{rest_is}
use Rattle.table_state.proofs.Steps.{Passed, Stands, begins, behind, behind0, behind1, behind2, behind3, behind4, behind5, behind6, same_shapes}
use Rattle.table_state.proofs.Told.{all_taken}
use Rattle.table_state.proofs.Whole.{indices_count_fits, indices_fit, lists_fit, names_fit, records_count_fits, records_fit, told_is, writes_fit}
use Rattle.table_state.proofs.read.read_all.Given.{Over}
use Rattle.table_state.proofs.read.read_all.Goals.{After-read_columns, After-read_count-2, After-read_count-3, After-read_indices, After-read_orders, After-read_records}
use Rattle.table_state.proofs.read.read_all.Goals as goal

-- Of a table of the declaration whose text stands in front, each part is read, and the next one stands in front.
module _ (g : Over) (t : TableState) (bytes rest : List ℕ) where
  writes_read : (c : After-read_count-2 g) → CanStand t × IsOfSameTable t.shape c.args.spec.now → Stands (g.D.Disk.contents c.args.disk.now) c.args.source.now bytes (behind0 c.args.spec.now t rest)
      → Passed c.in_ok-writes.writes t.records.writes (g.D.Disk.contents c.read_count.new.disk) c.read_count.new.source bytes (behind1 c.args.spec.now t rest)
  writes_read c fits at =
      let told = c.in_ok-writes.ensures in
      let is : c.in_ok-writes.writes ≡ t.records.writes = told.finds t.records.writes bytes _ at.known (writes_fit t fits.0 c.args.spec.now fits.1) at.front in
      record { is = is; stands = behind (λ n. line_of (count_command c.args.spec.now (codes "writes") n)) at is told.takes told.reads.contents }

  indices_read : (c : After-read_count-3 g) → CanStand t × IsOfSameTable t.shape c.args.spec.now → Stands (g.D.Disk.contents c.read_count.new.disk) c.read_count.new.source bytes (behind1 c.args.spec.now t rest)
      → Passed c.in_ok-indices.indices (length t.shape.indices) (g.D.Disk.contents c.read_count-2.new.disk) c.read_count-2.new.source bytes (behind2 c.args.spec.now t rest)
  indices_read c fits at =
      let told = c.in_ok-indices.ensures in
      let is : c.in_ok-indices.indices ≡ length t.shape.indices = told.finds (length t.shape.indices) bytes _ at.known (indices_count_fits t fits.0 c.args.spec.now fits.1) at.front in
      record { is = is; stands = behind (λ n. line_of (count_command c.args.spec.now (codes "indices") n)) at is told.takes told.reads.contents }

  records_read : (c : After-read_columns g) → CanStand t × IsOfSameTable t.shape c.args.spec.now → Stands (g.D.Disk.contents c.read_count-2.new.disk) c.read_count-2.new.source bytes (behind2 c.args.spec.now t rest)
      → Passed c.in_ok-records.records (length t.records.entries) (g.D.Disk.contents c.read_count-3.new.disk) c.read_count-3.new.source bytes (behind3 c.args.spec.now t rest)
  records_read c fits at =
      let told = c.in_ok-records.ensures in
      let is : c.in_ok-records.records ≡ length t.records.entries = told.finds (length t.records.entries) bytes _ at.known (records_count_fits t fits.0 c.args.spec.now fits.1) at.front in
      record { is = is; stands = behind (λ n. line_of (count_command c.args.spec.now (codes "records") n)) at is told.takes told.reads.contents }

  columns_read : (c : After-read_indices g) → Stands (g.D.Disk.contents c.read_count-3.new.disk) c.read_count-3.new.source bytes (behind3 c.args.spec.now t rest)
      → Stands (g.D.Disk.contents c.read_columns.new.disk) c.read_columns.new.source bytes (behind4 c.args.spec.now t rest)
  columns_read c at =
      let told = c.in_ok-read_columns.ensures in
      record {
        known = told.reads.contents ∙ at.known;
        front = rest_is (g.D.Disk.contents c.read_count-3.new.disk) c.read_count-3.new.source c.read_columns.new.source (line_of (columns_command c.args.spec.now)) told.takes bytes (behind4 c.args.spec.now t rest) at.known at.front;
      }

  spec_read : (c : After-read_records g) → CanStand t × IsOfSameTable t.shape c.args.spec.now → c.in_ok-indices.indices ≡ length t.shape.indices
      → Stands (g.D.Disk.contents c.read_columns.new.disk) c.read_columns.new.source bytes (behind4 c.args.spec.now t rest)
      → Passed c.in_ok-spec.spec t.shape (g.D.Disk.contents c.read_indices.new.disk) c.read_indices.new.source bytes (behind5 c.in_ok-spec.spec t rest)
  spec_read c fits many at =
      let told = c.in_ok-spec.ensures in
      let is : c.in_ok-spec.spec.indices ≡ t.shape.indices = told.finds t.shape.indices bytes _ at.known (indices_fit t fits.0 c.args.spec.now fits.1 c.in_ok-indices.indices many) at.front in
      let shape : c.in_ok-spec.spec ≡ t.shape = same_shapes c.in_ok-spec.spec t.shape c.args.spec.now told.same fits.1 is in
      let stands : Stands (g.D.Disk.contents c.read_indices.new.disk) c.read_indices.new.source bytes (behind5 t.shape t rest) =
      behind (λ xs. lines_text (map (index_command c.args.spec.now) xs)) at is told.takes told.reads.contents in
      record { is = shape; stands = subst (λ s. Stands (g.D.Disk.contents c.read_indices.new.disk) c.read_indices.new.source bytes (behind5 s t rest)) (sym shape) stands }

  entries_read : (c : After-read_orders g) → CanStand t × IsOfSameTable t.shape c.args.spec.now → c.in_ok-records.records ≡ length t.records.entries → c.in_ok-spec.spec ≡ t.shape
      → Stands (g.D.Disk.contents c.read_indices.new.disk) c.read_indices.new.source bytes (behind5 c.in_ok-spec.spec t rest)
      → Passed c.in_ok-entries.entries.items t.records.entries (g.D.Disk.contents c.read_records.new.disk) c.read_records.new.source bytes (behind6 c.in_ok-spec.spec t rest)
  entries_read c fits many shape at =
      let told = c.in_ok-entries.ensures in
      let is : c.in_ok-entries.entries.items ≡ t.records.entries = told.finds t.records.entries bytes _ at.known (records_fit t fits.0 c.in_ok-spec.spec shape c.in_ok-records.records many) at.front in
      record { is = is; stands = behind (λ xs. lines_text (map (record_command c.in_ok-spec.spec) xs)) at is told.takes told.reads.contents }

pub returns-clause-takes : goal.returns-clause-takes
returns-clause-takes g c = λ bytes k0.
    let k1 = c.in_ok-writes.ensures.reads.contents ∙ k0 in
    let k2 = c.in_ok-indices.ensures.reads.contents ∙ k1 in
    let k3 = c.in_ok-records.ensures.reads.contents ∙ k2 in
    let k4 = c.in_ok-read_columns.ensures.reads.contents ∙ k3 in
    let k5 = c.in_ok-spec.ensures.reads.contents ∙ k4 in
    let k6 = c.in_ok-entries.ensures.reads.contents ∙ k5 in
    all_taken c.in_ok-spec.spec c.args.spec.now c.in_ok-spec.ensures.same _ _ _ c.in_ok-entries.entries.items (map (λ order. order.items) c.in_ok-orders.orders.items) _ _ _ _ _ _ _ _
    c.in_ok-spec.ensures.count c.in_ok-entries.ensures.count (c.in_ok-writes.ensures.takes bytes k0) (c.in_ok-indices.ensures.takes bytes k1) (c.in_ok-records.ensures.takes bytes k2)
    (c.in_ok-read_columns.ensures.takes bytes k3) (c.in_ok-spec.ensures.takes bytes k4) (c.in_ok-entries.ensures.takes bytes k5) (c.in_ok-orders.ensures.takes bytes k6)

pub returns-in_err-writes-clause-finds : goal.returns-in_err-writes-clause-finds
returns-in_err-writes-clause-finds g c = λ t bytes rest known fits front.
    let p = err_from_is_err_and c.from_residual.result c.from_residual.ensures.1 in rw (p.1, p.2)
    (c.in_err-writes.ensures.finds t.records.writes bytes _ known (writes_fit t fits.0 c.args.spec.now fits.1) (begins c.args.spec.now t rest {source = c.args.source.now} known fits.1 front).front)

pub returns-in_err-indices-clause-finds : goal.returns-in_err-indices-clause-finds
returns-in_err-indices-clause-finds g c = λ t bytes rest known fits front.
    let a = goal.at.returns-in_err-indices-clause-finds g c in
    let one = writes_read g t bytes rest a.After-read_count-2 fits (begins c.args.spec.now t rest known fits.1 front) in
    let p = err_from_is_err_and c.from_residual-in_err-indices.result c.from_residual-in_err-indices.ensures.1 in rw (p.1, p.2)
    (c.in_err-indices.ensures.finds (length t.shape.indices) bytes _ one.stands.known (indices_count_fits t fits.0 c.args.spec.now fits.1) one.stands.front)

pub returns-in_err-records-clause-finds : goal.returns-in_err-records-clause-finds
returns-in_err-records-clause-finds g c = λ t bytes rest known fits front.
    let a = goal.at.returns-in_err-records-clause-finds g c in
    let one = writes_read g t bytes rest a.After-read_count-2 fits (begins c.args.spec.now t rest known fits.1 front) in
    let two = indices_read g t bytes rest a.After-read_count-3 fits one.stands in
    let p = err_from_is_err_and c.from_residual-in_err-records.result c.from_residual-in_err-records.ensures.1 in rw (p.1, p.2)
    (c.in_err-records.ensures.finds (length t.records.entries) bytes _ two.stands.known (records_count_fits t fits.0 c.args.spec.now fits.1) two.stands.front)

pub returns-in_err-read_columns-clause-finds : goal.returns-in_err-read_columns-clause-finds
returns-in_err-read_columns-clause-finds g c = λ t bytes rest known fits front.
    let a = goal.at.returns-in_err-read_columns-clause-finds g c in
    let one = writes_read g t bytes rest a.After-read_count-2 fits (begins c.args.spec.now t rest known fits.1 front) in
    let two = indices_read g t bytes rest a.After-read_count-3 fits one.stands in
    let three = records_read g t bytes rest a.After-read_columns fits two.stands in
    let p = err_from_is_err_and c.from_residual-in_err-read_columns.result c.from_residual-in_err-read_columns.ensures.1 in rw (p.1, p.2)
    (c.in_err-read_columns.ensures.finds bytes _ three.stands.known (names_fit t fits.0 c.args.spec.now fits.1) three.stands.front)

pub returns-in_err-spec-clause-finds : goal.returns-in_err-spec-clause-finds
returns-in_err-spec-clause-finds g c = λ t bytes rest known fits front.
    let a = goal.at.returns-in_err-spec-clause-finds g c in
    let one = writes_read g t bytes rest a.After-read_count-2 fits (begins c.args.spec.now t rest known fits.1 front) in
    let two = indices_read g t bytes rest a.After-read_count-3 fits one.stands in
    let three = records_read g t bytes rest a.After-read_columns fits two.stands in
    let four = columns_read g t bytes rest a.After-read_indices three.stands in
    let p = err_from_is_err_and c.from_residual-in_err-spec.result c.from_residual-in_err-spec.ensures.1 in rw (p.1, p.2)
    (c.in_err-spec.ensures.finds t.shape.indices bytes _ four.known (indices_fit t fits.0 c.args.spec.now fits.1 c.in_ok-indices.indices two.is) four.front)

pub returns-in_err-entries-clause-finds : goal.returns-in_err-entries-clause-finds
returns-in_err-entries-clause-finds g c = λ t bytes rest known fits front.
    let a = goal.at.returns-in_err-entries-clause-finds g c in
    let one = writes_read g t bytes rest a.After-read_count-2 fits (begins c.args.spec.now t rest known fits.1 front) in
    let two = indices_read g t bytes rest a.After-read_count-3 fits one.stands in
    let three = records_read g t bytes rest a.After-read_columns fits two.stands in
    let four = columns_read g t bytes rest a.After-read_indices three.stands in
    let five = spec_read g t bytes rest a.After-read_records fits two.is four in
    let p = err_from_is_err_and c.from_residual-in_err-entries.result c.from_residual-in_err-entries.ensures.1 in rw (p.1, p.2)
    (c.in_err-entries.ensures.finds t.records.entries bytes _ five.stands.known (records_fit t fits.0 c.in_ok-spec.spec five.is c.in_ok-records.records three.is) five.stands.front)

pub returns-in_err-orders-clause-finds : goal.returns-in_err-orders-clause-finds
returns-in_err-orders-clause-finds g c = λ t bytes rest known fits front.
    let a = goal.at.returns-in_err-orders-clause-finds g c in
    let one = writes_read g t bytes rest a.After-read_count-2 fits (begins c.args.spec.now t rest known fits.1 front) in
    let two = indices_read g t bytes rest a.After-read_count-3 fits one.stands in
    let three = records_read g t bytes rest a.After-read_columns fits two.stands in
    let four = columns_read g t bytes rest a.After-read_indices three.stands in
    let five = spec_read g t bytes rest a.After-read_records fits two.is four in
    let six = entries_read g t bytes rest a.After-read_orders fits three.is five.is five.stands in
    let p = err_from_is_err_and c.from_residual-in_err-orders.result c.from_residual-in_err-orders.ensures.1 in rw (p.1, p.2)
    (c.in_err-orders.ensures.finds t.records.lists bytes _ six.stands.known (lists_fit t fits.0 c.in_ok-spec.spec five.is) six.stands.front)

pub returns-clause-finds : goal.returns-clause-finds
returns-clause-finds g c = λ t bytes rest known fits front.
    let a = goal.at.returns-clause-finds g c in
    let one = writes_read g t bytes rest a.After-read_count-2 fits (begins c.args.spec.now t rest known fits.1 front) in
    let two = indices_read g t bytes rest a.After-read_count-3 fits one.stands in
    let three = records_read g t bytes rest a.After-read_columns fits two.stands in
    let four = columns_read g t bytes rest a.After-read_indices three.stands in
    let five = spec_read g t bytes rest a.After-read_records fits two.is four in
    let six = entries_read g t bytes rest a.After-read_orders fits three.is five.is five.stands in
    let lists = map (λ order. order.items) c.in_ok-orders.orders.items in
    let is : lists ≡ t.records.lists = c.in_ok-orders.ensures.finds t.records.lists bytes _ six.stands.known (lists_fit t fits.0 c.in_ok-spec.spec five.is) six.stands.front in
    told_is t fits.0 c.in_ok-spec.spec five.is c.in_ok-writes.writes c.in_ok-entries.entries.items lists one.is six.is is
