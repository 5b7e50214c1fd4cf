use Rattle.std.proofs.Common.{refl}
use Rattle.command_lines.specs.Meaning.{add_index_of}
use Rattle.command_lines.proofs.Found.{given}
use Rattle.command_lines.proofs.read.add_index_of.Goals as goal

pub returns : goal.returns
unfolding add_index_of
returns c =
    rw (given _ _ c.in_ok-table.ensures)
    (rw (given _ _ c.in_ok-index.ensures)
    (rw (given _ _ c.in_ok-kind.ensures)
    (rw (given _ _ c.in_ok-unique.ensures)
    (rw (given _ _ c.in_ok-key.ensures) refl))))
