-- What a table keeps besides its records.
use Rattle.std.specs.Prelude.{◌≡◌, List}
use Rattle.container_model.specs.State.{State}
use Rattle.table_reply.specs.declared.records.Heading.{Heading}
use Rattle.table_schema.specs.Shape.{TableShape}
use Rattle.table_records.specs.Headings.{headings_of}
use Rattle.table_terms.specs.Table.{Cells, Keys, keys_of, specs_of}

-- the keys and kinds of its indices, and its headings, are the declared ones
pub record FitsShape (shape : TableShape) (shown : List Heading) (records : State Keys Cells) : Type 0 where
  pub keys : records.keys ≡ keys_of shape
  pub specs : records.specs ≡ specs_of shape
  pub headings : shown ≡ headings_of shape.columns
