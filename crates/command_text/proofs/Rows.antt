-- Worked rows: the texts of commands that add an index and drop one.
use Rattle.std.proofs.Common.{◌≡◌, [], ◌∷◌, true, false, Some, None, codes, refl}
use Rattle.json.specs.Print.{escape_byte}
use Rattle.container_model.specs.declared.handle.Kind.TheVariants.{Sequenced, Ranked, Hashed}
use Rattle.table_cmd.specs.declared.command.Command.TheVariants.{AddIndex, DropIndex}
use Rattle.command_text.specs.Text.{command_text}

falling : command_text (AddIndex (codes "p") (codes "k") Ranked false (Some (codes "-n" ∷ []))) ≡ codes "{\"i\":\"k\",\"key\":[\"-n\"],\"kind\":\"ranked\",\"op\":\"add_index\",\"t\":\"p\"}"
unfolding escape_byte
falling = refl

unique : command_text (AddIndex (codes "p") (codes "k") Hashed true (Some (codes "g" ∷ codes "n" ∷ []))) ≡ codes "{\"i\":\"k\",\"key\":[\"g\",\"n\"],\"kind\":\"hashed\",\"op\":\"add_index\",\"t\":\"p\",\"unique\":true}"
unfolding escape_byte
unique = refl

sequence : command_text (AddIndex (codes "p") (codes "k") Sequenced false None) ≡ codes "{\"i\":\"k\",\"kind\":\"sequenced\",\"op\":\"add_index\",\"t\":\"p\"}"
unfolding escape_byte
sequence = refl

no_columns : command_text (AddIndex (codes "p") (codes "k") Ranked false (Some [])) ≡ codes "{\"i\":\"k\",\"key\":[],\"kind\":\"ranked\",\"op\":\"add_index\",\"t\":\"p\"}"
unfolding escape_byte
no_columns = refl

dropped : command_text (DropIndex (codes "p") (codes "k")) ≡ codes "{\"i\":\"k\",\"op\":\"drop_index\",\"t\":\"p\"}"
unfolding escape_byte
dropped = refl
