use Rattle.std.proofs.Common.{refl}
use Rattle.table_log.specs.declared.loading.Loader.{Loader}
use Rattle.table_log.proofs.Feeding.{is_other, loaded_newline, loads_byte, refused_newline}
use Rattle.table_log.proofs.loading.Loader.take_byte.Goals as goal

pub returns-then-byte-eq10-clause-loaded : goal.returns-then-byte-eq10-clause-loaded
returns-then-byte-eq10-clause-loaded c = loaded_newline c.end_line.result c.args.self.now c.end_line.new.self c.args.byte c.if-byte-eq10.true c.end_line.ensures.loaded

pub returns-then-byte-eq10-clause-refused : goal.returns-then-byte-eq10-clause-refused
returns-then-byte-eq10-clause-refused c = refused_newline c.end_line.result c.args.self.now c.args.byte c.if-byte-eq10.true c.end_line.ensures.refused

pub returns-in-Ok-clause-loaded : goal.returns-in-Ok-clause-loaded
returns-in-Ok-clause-loaded c =
    let old : Loader = c.args.self.now in
    let new : Loader = record old { line = c.push.new.self } in
    loads_byte old new c.args.byte (is_other c.args.byte c.if-byte-eq10.false) c.in-Ok.ensures.items refl refl
