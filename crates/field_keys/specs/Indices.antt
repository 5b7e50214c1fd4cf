-- Declared indices: what each is, and its key.
use Rattle.std.specs.Prelude.{List, map}
use Rattle.key_extract.specs.declared.key.Part.{Part}
use Rattle.container_model.specs.declared.handle.Spec.{Spec}
use Rattle.field_keys.specs.declared.index.Index.{Index}
use Rattle.field_keys.specs.declared.source.Source.{Source}
use Rattle.field_keys.specs.declared.source.Source.TheVariants.{Keys, Declared}
use Rattle.field_keys.specs.Fields.{part_of}

-- what the indices are
abbrev pub declared_specs : List Index → List Spec
declared_specs indices = map (λ i. i.0) indices

-- their keys
abbrev pub declared_keys : List Index → List (List Part)
declared_keys indices = map (λ i. map part_of i.1.now) indices

-- the keys of a table
abbrev pub keys_in : Source → List (List Part)
keys_in (Keys keys) = map (λ key. map part_of key.now) keys.now
keys_in (Declared indices) = declared_keys indices.now
