use Rattle.std.proofs.Common.{rules}
use Rattle.schema_file.proofs.Documents.{document, no_document}
use Rattle.schema_file.proofs.read.read_document.Goals as goal

pub returns-in-Ok : goal.returns-in-Ok
returns-in-Ok c = document c.args.bytes.now _ c.in-Ok.ensures.ok.0 c.in-Ok.ensures.ok.1

pub returns-else-is_memory : goal.returns-else-is_memory
returns-else-is_memory c = no_document c.args.bytes.now (c.in-Err.ensures.refused (search rules))
