-- Worked rows: which objects ask for an index more, or for one less.
use Rattle.std.proofs.Common.{◌≡◌, ℕ, List, [], ◌∷◌, true, false, Some, None, codes, refl}
use Rattle.container_model.specs.declared.handle.Kind.TheVariants.{Sequenced, Ranked, Hashed}
use Rattle.serde_json.specs.Data.{Data, null, boolean, string, array, object, no_items, item, Members, no_members, member}
use Rattle.table_cmd.specs.declared.command.Command.TheVariants.{AddIndex, DropIndex}
use Rattle.command_lines.specs.Meaning.{add_index_of, on_index, index_command, command_for, command_of}
use Rattle.command_lines.specs.Op.{op_of}

-- the end of an object that adds an index to the table p
abbrev added : Members
added = member (codes "op") (string (codes "add_index")) (member (codes "t") (string (codes "p")) no_members)

-- the same with a truth value
abbrev added_unique : Data → Members
added_unique d = member (codes "op") (string (codes "add_index")) (member (codes "t") (string (codes "p")) (member (codes "unique") d no_members))

-- an object with the name k, a kind and no key
abbrev keyless : List ℕ → Members → Data
keyless kind rest = object (member (codes "i") (string (codes "k")) (member (codes "kind") (string kind) rest))

-- an object with the name k, a key and a kind
abbrev keyed : Data → List ℕ → Members → Data
keyed key kind rest = object (member (codes "i") (string (codes "k")) (member (codes "key") key (member (codes "kind") (string kind) rest)))

sequence : command_of (keyless (codes "sequenced") added) ≡ Some (AddIndex (codes "p") (codes "k") Sequenced false None)
unfolding command_of command_for op_of add_index_of
sequence = refl

said_not_unique : command_of (keyless (codes "sequenced") (added_unique (boolean false))) ≡ Some (AddIndex (codes "p") (codes "k") Sequenced false None)
unfolding command_of command_for op_of add_index_of
said_not_unique = refl

falling : command_of (keyed (array (item (string (codes "-n")) no_items)) (codes "ranked") added) ≡ Some (AddIndex (codes "p") (codes "k") Ranked false (Some (codes "-n" ∷ [])))
unfolding command_of command_for op_of add_index_of
falling = refl

unique : command_of (keyed (array (item (string (codes "g")) (item (string (codes "n")) no_items))) (codes "hashed") (added_unique (boolean true))) ≡ Some (AddIndex (codes "p") (codes "k") Hashed true (Some (codes "g" ∷ codes "n" ∷ [])))
unfolding command_of command_for op_of add_index_of
unique = refl

no_columns : command_of (keyed (array no_items) (codes "ranked") added) ≡ Some (AddIndex (codes "p") (codes "k") Ranked false (Some []))
unfolding command_of command_for op_of add_index_of
no_columns = refl

other_kind : command_of (keyless (codes "Sequenced") added) ≡ None
unfolding command_of command_for op_of add_index_of
other_kind = refl

null_unique : command_of (keyless (codes "sequenced") (added_unique null)) ≡ None
unfolding command_of command_for op_of add_index_of
null_unique = refl

null_key : command_of (keyed null (codes "sequenced") added) ≡ None
unfolding command_of command_for op_of add_index_of
null_key = refl

null_column : command_of (keyed (array (item null no_items)) (codes "ranked") added) ≡ None
unfolding command_of command_for op_of add_index_of
null_column = refl

without_kind : command_of (object (member (codes "i") (string (codes "k")) added)) ≡ None
unfolding command_of command_for op_of add_index_of
without_kind = refl

without_name : command_of (object (member (codes "kind") (string (codes "sequenced")) added)) ≡ None
unfolding command_of command_for op_of add_index_of
without_name = refl

foreign_key : command_of (object (member (codes "h") (string (codes "0:1")) (member (codes "i") (string (codes "k")) (member (codes "kind") (string (codes "sequenced")) added)))) ≡ None
unfolding command_of command_for op_of add_index_of
foreign_key = refl

dropped : command_of (object (member (codes "i") (string (codes "k")) (member (codes "op") (string (codes "drop_index")) (member (codes "t") (string (codes "p")) no_members)))) ≡ Some (DropIndex (codes "p") (codes "k"))
unfolding command_of command_for op_of index_command on_index
dropped = refl
