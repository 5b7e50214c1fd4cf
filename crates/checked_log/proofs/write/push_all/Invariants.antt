use Rattle.std.proofs.Common.{◌≡◌, ◌≤◌, ◌++◌, drop, length, take}
use Rattle.checked_log.specs.Write.{together}
use Rattle.checked_log.proofs.write.push_all.Given as goal

-- what was appended, and the pieces that are left, are all pieces
abbrev pub invariant-loop-piece : goal.invariant-loop-piece
invariant-loop-piece l = record {
  start : l.start ≡ length l.fn.text.items;
  front : take l.start l.text.items ≡ l.fn.text.items;
  within : l.start ≤ length l.text.items;
  so_far : l.text.items ++ together (drop l.piece-index l.pieces) ≡ l.fn.text.items ++ together l.pieces;
}
