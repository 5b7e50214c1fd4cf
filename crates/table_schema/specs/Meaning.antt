-- What drafts mean: a schema, or the first fault.
use Rattle.std.specs.Prelude.{◌≡◌, List, if◌then◌else◌, Option, Some, None, Result, Ok, Err}
use Rattle.table_schema.specs.declared.fault.SchemaFault.{SchemaFault}
use Rattle.table_schema.specs.declared.fault.SchemaFault.TheVariants as faults
use Rattle.table_schema.specs.Shape.{TableShape}
use Rattle.table_schema.specs.Draft.{TableDraft}
use Rattle.table_schema.specs.Tests.{is_within_limits, have_good_names}
use Rattle.table_schema.specs.Resolved.{tables_for}

-- what is there, or else the fault
abbrev pub or_fault : {X : Type 0} → SchemaFault → Option X → Result X SchemaFault
or_fault fault None = Err fault
or_fault fault (Some x) = Ok x

-- limits before names, and names before keys
unfoldable pub tested : List TableDraft → Result (List TableShape) SchemaFault
tested drafts =
    if is_within_limits drafts then (if have_good_names drafts then or_fault faults.Key (tables_for drafts) else Err faults.Name)
    else Err faults.Limit

-- What a function returned is this, unless memory was refused.
abbrev pub Fails : {X : Type 0} → SchemaFault → Result X SchemaFault → Type 0
Fails faults.Memory answer = Unit {0}
Fails fault answer = answer ≡ Err fault

abbrev pub GivesSchema : {X : Type 0} → Result X SchemaFault → Result X SchemaFault → Type 0
GivesSchema (Ok x) answer = answer ≡ Ok x
GivesSchema (Err fault) answer = Fails fault answer
