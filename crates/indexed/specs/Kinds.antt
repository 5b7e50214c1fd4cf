-- What declared indices are.
use Rattle.std.specs.Prelude.{ℕ, Bool, true, false, not, cond, ◌&&◌, List, length, nat_le, nat_lt, slice_get}
use Rattle.std.specs.List.{list_all}
use Rattle.std.specs.Option.{option_map_or}
use Rattle.container_model.specs.declared.handle.Kind.{Kind}
use Rattle.container_model.specs.declared.handle.Kind.TheVariants.{Sequenced, Random, Ordered, Ranked, Hashed}
use Rattle.container_model.specs.declared.handle.Spec.{Spec}
use Rattle.container_model.specs.State.{has_key_kind}
use Rattle.field_keys.specs.declared.index.Index.{Index}
use Rattle.field_keys.specs.Fields.{part_of}

abbrev pub sequenced : Spec
sequenced = record { kind = Sequenced; unique = false }

abbrev pub random : Spec
random = record { kind = Random; unique = false }

abbrev pub ordered : Spec
ordered = record { kind = Ordered; unique = false }

abbrev pub unique_ordered : Spec
unique_ordered = record { kind = Ordered; unique = true }

abbrev pub ranked : Spec
ranked = record { kind = Ranked; unique = false }

abbrev pub unique_ranked : Spec
unique_ranked = record { kind = Ranked; unique = true }

abbrev pub hashed : Spec
hashed = record { kind = Hashed; unique = false }

abbrev pub unique_hashed : Spec
unique_hashed = record { kind = Hashed; unique = true }

-- the kind of one of the indices
abbrev pub kind_of : List Spec → ℕ → Kind
kind_of indices number = option_map_or (λ spec. spec.kind) (slice_get indices number) Sequenced

-- whether a container can have the index: one that compares records has a key and may be unique, and no other is either
abbrev pub is_index : Index → Bool
is_index index = cond (has_key_kind index.0.kind) (nat_le 1 (length index.1.now)) (nat_le (length index.1.now) 0 && not index.0.unique)

-- whether a container can have the indices: there are one to eight
abbrev pub are_valid : List Index → Bool
are_valid indices = nat_le 1 (length indices) && (nat_le (length indices) 8 && list_all is_index indices)

-- whether each part of a key is one of so many fields
abbrev pub has_fields : ℕ → Index → Bool
has_fields count index = list_all (λ part. nat_lt (part_of part).column count) index.1.now

-- whether the parts of all keys are
abbrev pub have_fields : ℕ → List Index → Bool
have_fields count indices = list_all (has_fields count) indices
