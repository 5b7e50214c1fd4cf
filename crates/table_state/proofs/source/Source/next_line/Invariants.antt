use Rattle.std.proofs.Common.{Ok}
use Rattle.command_text.specs.Line.{IsOneLine}
use Rattle.table_state.specs.Reading.{ReadsOn, Takes, unread}
use Rattle.table_state.proofs.source.Source.next_line.Given as goal

abbrev pub invariant-loop-self : goal.invariant-loop-self
invariant-loop-self g l = record {
  takes : Takes (g.D.Disk.contents l.initial.disk) l.initial.self l.self.line.items l.self;
  one_line : IsOneLine l.self.line.items;
  reads : ReadsOn g.D.Disk l.initial.disk l.disk l.self (Ok l.self.line);
}

abbrev pub decreases-loop-self : goal.decreases-loop-self
decreases-loop-self g l = unread l.self
