-- What a line means, by what JSON reads of it.
use Rattle.std.proofs.Common.{◌≡◌, ℕ, List, Bool, true, false, cond, Some, None, Err, refl}
use Rattle.std.proofs.lemmas.Str.{IsUtf8-from_is_utf8, is_utf8-from_IsUtf8}
use Rattle.std.specs.Str.{IsUtf8, is_utf8}
use Rattle.serde_json.specs.Data.{Data}
use Rattle.serde_json.specs.Read.{read}
use Rattle.command_lines.specs.declared.fault.CommandFault.TheVariants.{Json}
use Rattle.command_lines.specs.Meaning.{meaning, read_data, command_of}
use Rattle.command_lines.specs.Parts.{or_fault}

no_json_at : (b : Bool) (line : List ℕ) → is_utf8 line ≡ b → (IsUtf8 line → read line ≡ None) → cond b (read_data (read line)) (Err Json) ≡ Err Json
no_json_at true line e h = rw (h (IsUtf8-from_is_utf8 line e)) refl
no_json_at false line e h = refl

pub meaning-no_json : (line : List ℕ) → (IsUtf8 line → read line ≡ None) → meaning line ≡ Err Json
unfolding meaning
meaning-no_json line h = no_json_at (is_utf8 line) line refl h

pub meaning-json : (line : List ℕ) (d : Data) → IsUtf8 line → read line ≡ Some d → meaning line ≡ or_fault (command_of d)
unfolding meaning
meaning-json line d h e = rw (is_utf8-from_IsUtf8 line h, e) refl
