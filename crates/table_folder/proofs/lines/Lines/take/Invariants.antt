use Rattle.std.proofs.Common.{◌≡◌, drop}
use Rattle.std.specs.List.{fold}
use Rattle.table_folder.specs.Lines.{with_byte}
use Rattle.table_folder.proofs.lines.Lines.take.Given as goal

abbrev pub invariant-loop-byte : goal.invariant-loop-byte
invariant-loop-byte l = fold with_byte l.self (drop l.byte-index l.piece) ≡ fold with_byte l.fn.self l.piece
