-- Where each part of a state stands once those before it are read.
use Rattle.std.proofs.Common.{◌≡◌, ℕ, List, ◌++◌, length, map, Option, Some, refl, sym, ap, ◌∙◌, subst}
use Rattle.std.specs.Prelude.{codes}
use Rattle.table_schema.specs.declared.column.IndexSpec.{IndexSpec}
use Rattle.table_schema.specs.Shape.{TableShape}
use Rattle.table_terms.specs.Table.{IsOfSameTable, TableState}
use Rattle.table_state.specs.declared.source.Source.{Source}
use Rattle.table_state.specs.Reading.{Takes, left_of}
use Rattle.table_state.specs.State.{columns_command, count_command, index_command, line_of, lines_text, order_commands, record_command, state_text}
use Rattle.table_state.proofs.Seeking.{rest_is}
use Rattle.table_state.proofs.Told.{all_taken}

-- a declaration with these indices
pub same_shape : (a b : TableShape) → IsOfSameTable a b → record b { indices = a.indices } ≡ a
same_shape a b same = λ i. record {
  name = sym same.name i;
  max = sym same.max i;
  columns = sym same.columns i;
  indices = a.indices;
  place = sym same.place i;
  tables = sym same.tables i;
}

-- a declaration with other indices is of the same table
pub same_but_indices : (made old spec : TableShape) {indices : List IndexSpec} → made ≡ record old { indices = indices } → IsOfSameTable old spec → IsOfSameTable made spec
same_but_indices made old spec is same =
    subst (λ s. IsOfSameTable s spec) (sym is) (record { name = same.name; max = same.max; columns = same.columns; place = same.place; tables = same.tables })

-- two declarations of one table, with the same indices
pub same_shapes : (a b c : TableShape) → IsOfSameTable a c → IsOfSameTable b c → a.indices ≡ b.indices → a ≡ b
same_shapes a b c one two is = sym (same_shape a c one) ∙ ap (λ indices. record c { indices = indices }) is ∙ same_shape b c two

-- these bytes are known, and this is left of them
pub record Stands (contents : Option (List ℕ)) (source : Source) (bytes left : List ℕ) : Type 0 where
  pub known : contents ≡ Some bytes
  pub front : left_of bytes source ≡ left

-- a part was read and is this one, and this stands behind it
pub record Passed {X : Type 0} (read x : X) (contents : Option (List ℕ)) (source : Source) (bytes left : List ℕ) : Type 0 where
  pub is : read ≡ x
  pub stands : Stands contents source bytes left

-- what stands behind a part that was taken, and was this one
pub behind : {X : Type 0} {read x : X} {contents next : Option (List ℕ)} {old new : Source} {bytes left : List ℕ} (text : X → List ℕ) → Stands contents old bytes (text x ++ left) → read ≡ x
    → Takes contents old (text read) new → next ≡ contents → Stands next new bytes left
behind {X} {read} {x} {contents} {next} {old} {new} {bytes} {left} text at is takes same = record {
  known = same ∙ at.known;
  front = rest_is contents old new (text read) takes bytes left at.known (at.front ∙ ap (λ y. text y ++ left) (sym is));
}

module _ (shape : TableShape) (t : TableState) (rest : List ℕ) where
  -- what is left behind the records, the indices and so on
  abbrev pub behind6 : List ℕ
  behind6 = lines_text (order_commands shape t.records.lists) ++ rest

  abbrev pub behind5 : List ℕ
  behind5 = lines_text (map (record_command shape) t.records.entries) ++ behind6

module _ (spec : TableShape) (t : TableState) (rest : List ℕ) where
  abbrev pub behind4 : List ℕ
  behind4 = lines_text (map (index_command spec) t.shape.indices) ++ behind5 t.shape t rest

  abbrev pub behind3 : List ℕ
  behind3 = line_of (columns_command spec) ++ behind4

  abbrev pub behind2 : List ℕ
  behind2 = line_of (count_command spec (codes "records") (length t.records.entries)) ++ behind3

  abbrev pub behind1 : List ℕ
  behind1 = line_of (count_command spec (codes "indices") (length t.shape.indices)) ++ behind2

  abbrev pub behind0 : List ℕ
  behind0 = line_of (count_command spec (codes "writes") t.records.writes) ++ behind1

  pub begins : {contents : Option (List ℕ)} {source : Source} {bytes : List ℕ} → contents ≡ Some bytes → IsOfSameTable t.shape spec → left_of bytes source ≡ state_text t ++ rest → Stands contents source bytes behind0
  begins known same front = record {
    known = known;
    front = front ∙ sym (all_taken t.shape spec same t.records.writes _ _ t.records.entries t.records.lists behind0 behind1 behind2 behind3 behind4 (behind5 t.shape t rest) (behind6 t.shape t rest) rest refl refl refl refl refl refl refl refl refl);
  }
