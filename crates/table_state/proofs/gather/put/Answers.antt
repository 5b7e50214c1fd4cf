use Rattle.std.proofs.Common.{◌++◌, ap, ◌∙◌}
use Rattle.std.specs.Prelude.{codes}
use Rattle.table_state.proofs.Putting.{puts_line, putting_rest}
use Rattle.table_state.proofs.gather.put.Goals as goal

pub returns-then-bytes-lt-MANY-clause-puts : goal.returns-then-bytes-lt-MANY-clause-puts
returns-then-bytes-lt-MANY-clause-puts g c =
    puts_line (g.D.Disk.contents c.args.disk.now) (g.D.Disk.size c.args.disk.now) c.args.lines.now.bytes c.try_push.new.self.bytes c.args.command
    (c.in_ok-try_push.ensures.0 ∙ ap (λ xs. xs ++ codes "\n") c.in_ok-written.ensures.0)

pub returns-clause-puts : goal.returns-clause-puts
returns-clause-puts g c =
    putting_rest _ _ _
    (puts_line (g.D.Disk.contents c.args.disk.now) (g.D.Disk.size c.args.disk.now) c.args.lines.now.bytes c.try_push.new.self.bytes c.args.command
    (c.in_ok-try_push.ensures.0 ∙ ap (λ xs. xs ++ codes "\n") c.in_ok-written.ensures.0))
    _ c.flush.result c.flush.ensures.puts
