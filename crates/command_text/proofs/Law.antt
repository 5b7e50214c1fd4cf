-- What is written for a command means that command.
use Rattle.std.proofs.Common.{◌≡◌, Ok, ap, ◌∙◌, arith}
use Rattle.table_cmd.specs.declared.command.Command.{Command}
use Rattle.command_lines.specs.Fits.{CommandFits}
use Rattle.command_lines.specs.Meaning.{meaning}
use Rattle.command_lines.specs.Parts.{or_fault}
use Rattle.command_lines.proofs.Lines.{meaning-json}
use Rattle.command_text.specs.Text.{command_data, command_text}
use Rattle.command_text.specs.Line.{IsOneLine, IsPlain}
use Rattle.command_text.proofs.Compact.{IsUtf8-compact_text, read-compact_text}
use Rattle.command_text.proofs.Plain.{plain_line, text_plain}
use Rattle.command_text.proofs.Sound.{command_sound}
use Rattle.command_text.proofs.Back.{command_back}

pub meaning-command_text : (c : Command) → CommandFits c → meaning (command_text c) ≡ Ok c
meaning-command_text c h =
    let s = command_sound c h in
    let d = command_data c in
    meaning-json (command_text c) d (IsUtf8-compact_text d s.0) (read-compact_text d s.0 (omega (arith, s.1))) ∙ ap or_fault (command_back c h)

pub command_text_plain : (c : Command) → CommandFits c → IsPlain (command_text c)
command_text_plain c h = text_plain (command_data c) (command_sound c h).0

pub command_text_line : (c : Command) → CommandFits c → IsOneLine (command_text c)
command_text_line c h = plain_line (command_text c) (command_text_plain c h)
