-- What a text says of a handle.
use Rattle.std.specs.Prelude.{ℕ, ◌^◌, ◌==◌, ◌&&◌, List, if◌then◌else◌, nat_lt, bytes_eq}
use Rattle.std.specs.List.{before_first, after_first}
use Rattle.std.specs.Str.Parse.{digits_value}
use Rattle.container_model.specs.declared.handle.Handle.{Handle}
use Rattle.table_reply.specs.Spelling.{spelling}
use Rattle.table_cmd.specs.declared.command.HandleText.{HandleText}
use Rattle.table_cmd.specs.declared.command.HandleText.TheVariants as texts

-- the numbers that the digits before and after a text's first colon write
abbrev pub numbers_in : List ℕ → Handle
numbers_in text = record {
  slot = digits_value 10 (before_first (λ b. b == 58) text);
  stamp = digits_value 10 (after_first (λ b. b == 58) text);
}

-- the handle whose spelling a text is
unfoldable pub handle_said : List ℕ → HandleText
handle_said text =
    let h = numbers_in text in
    if nat_lt h.slot (2 ^ 32) && (nat_lt h.stamp (2 ^ 64) && bytes_eq text (spelling h)) then texts.Handle h else texts.Bad
