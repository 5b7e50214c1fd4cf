use Rattle.std.proofs.Common.{inl, inr, ap, sym, subst, ◌∙◌, ⊎_elim}
use Rattle.table_engine.specs.Stream.{Breaks, Meets, Starts, TellsAll}
use Rattle.logged_tables.specs.Hears.{RefusesTold, TellsText}
use Rattle.logged_tables.proofs.Ends.{ends_well, refused_within, served_within, unread_within, unwritten_within, was_over, was_unread, was_unwritten}
use Rattle.logged_tables.proofs.Hears.{heard_all, heard_ended, heard_front, heard_stop}
use Rattle.logged_tables.proofs.seat.Seat.serve.Goals as goal

pub returns-clause-served : goal.returns-clause-served
returns-clause-served g c =
    let names = c.args.self.now.names in
    ends_well names _ _ c.serve_lines-served.result c.end_of.result c.end_of.ensures
    (served_within g.R.Read.remaining g.W.Write.contents (λ v. v.peer.inner) c.args.source.now c.serve_lines-served.new.source c.new-sink.result c.serve_lines-served.new.sink c.args.writer c.into_inner-2.result
    (ap (λ s. s.inner.peer.inner) c.new-sink.ensures ∙ ap (λ p. p.inner) c.new-2.ensures) (ap (λ s. s.peer.inner) (sym c.into_inner.ensures) ∙ sym c.into_inner-2.ensures) _ _
    (λ bytes text told. heard_all names bytes text (subst (λ line. TellsAll (TellsText names) tt line bytes text tt) c.new-cutter.ensures told.0)))
    c.serve_lines-served.ensures.served

pub returns-clause-read : goal.returns-clause-read
returns-clause-read g c = λ is.
    let names = c.args.self.now.names in
    unread_within g.R.Read.remaining g.W.Write.contents (λ v. v.peer.inner) c.args.source.now c.serve_lines-served.new.source c.new-sink.result c.serve_lines-served.new.sink c.args.writer c.into_inner-2.result
    (ap (λ s. s.inner.peer.inner) c.new-sink.ensures ∙ ap (λ p. p.inner) c.new-2.ensures) (ap (λ s. s.peer.inner) (sym c.into_inner.ensures) ∙ sym c.into_inner-2.ensures) _ _
    (λ bytes text told. heard_ended names bytes text (subst (λ line. Starts (TellsText names) tt line bytes text tt) c.new-cutter.ensures told.0))
    (c.serve_lines-served.ensures.read (was_unread names c.serve_lines-served.result c.end_of.result c.end_of.ensures is))

pub returns-clause-write : goal.returns-clause-write
returns-clause-write g c = λ is.
    let names = c.args.self.now.names in
    unwritten_within g.R.Read.remaining g.W.Write.contents (λ v. v.peer.inner) c.args.source.now c.serve_lines-served.new.source c.new-sink.result c.serve_lines-served.new.sink c.args.writer c.into_inner-2.result
    (ap (λ s. s.inner.peer.inner) c.new-sink.ensures ∙ ap (λ p. p.inner) c.new-2.ensures) (ap (λ s. s.peer.inner) (sym c.into_inner.ensures) ∙ sym c.into_inner-2.ensures) _ _
    (λ bytes text told. heard_front names bytes text (subst (λ line. Breaks (TellsText names) tt line bytes text tt) c.new-cutter.ensures told.0))
    (c.serve_lines-served.ensures.write (was_unwritten names c.serve_lines-served.result c.end_of.result c.end_of.ensures is))

pub returns-clause-over : goal.returns-clause-over
returns-clause-over g c = λ at is.
    let names = c.args.self.now.names in
    let inner = ap (λ s. s.peer.inner) (sym c.into_inner.ensures) ∙ sym c.into_inner-2.ensures in
    ⊎_elim
    (λ e. inl (
      e.0,
      unwritten_within g.R.Read.remaining g.W.Write.contents (λ v. v.peer.inner) c.args.source.now c.serve_lines-served.new.source c.new-sink.result c.serve_lines-served.new.sink c.args.writer c.into_inner-2.result
          (ap (λ s. s.inner.peer.inner) c.new-sink.ensures ∙ ap (λ p. p.inner) c.new-2.ensures) inner _ _
          (λ bytes text told. heard_front names bytes text (subst (λ line. Breaks (TellsText names) tt line bytes text tt) c.new-cutter.ensures told.0))
          (c.serve_lines-served.ensures.write e.1),
    ))
    (λ e. inr (refused_within g.R.Read.remaining g.W.Write.contents (λ v. v.peer.inner) c.args.source.now c.serve_lines-served.new.source c.new-sink.result c.serve_lines-served.new.sink c.args.writer c.into_inner-2.result
    (ap (λ s. s.inner.peer.inner) c.new-sink.ensures ∙ ap (λ p. p.inner) c.new-2.ensures) inner _ _
    (λ bytes text told. heard_stop names bytes text at (subst (λ line. Meets (TellsText names) (RefusesTold names) tt line bytes text tt at) c.new-cutter.ensures told.0))
    (c.serve_lines-served.ensures.refused at e)))
    (was_over names c.serve_lines-served.result c.end_of.result at c.end_of.ensures is)
