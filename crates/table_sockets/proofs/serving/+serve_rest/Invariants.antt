use Rattle.std.proofs.Common.{length}
use Rattle.table_sockets.proofs.serving.+serve_rest.Given as goal

abbrev pub decreases-serve_rest : goal.decreases-serve_rest
decreases-serve_rest g l = length l.passes.items
