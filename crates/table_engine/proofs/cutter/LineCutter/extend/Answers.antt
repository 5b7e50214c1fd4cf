use Rattle.std.proofs.Common.{◌≡◌, false, sym, ap, ◌∙◌, arith}
use Rattle.table_engine.specs.Lines.{Cutter, Unfinished, short, added}
use Rattle.table_engine.proofs.Added.{line_in, ended_line, takes_all, takes_too_many}
use Rattle.table_engine.proofs.cutter.LineCutter.extend.Goals as goal
use Rattle.table_engine.proofs.cutter.LineCutter.extend.Goals.{then-self, else-self}

pub returns-then-bytes-remaining_capacity : goal.returns-then-bytes-remaining_capacity
returns-then-bytes-remaining_capacity c =
    let inner = c.if-self.self-inside in
    let bytes = c.args.bytes.now in
    let line : Cutter → Unfinished = λ it. it.unfinished in
    let begun : inner.is_ended ≡ false = elim c.if-self.branch [
      | then-self w ↦ ap (λ it. it.is_ended) w.self-inside-is
      | else-self w ↦ ap (λ it. it.is_ended) w.self-inside-is ∙ w.if-self.false
    ] in
    let same : c.args.self.now.unfinished ≡ line_in inner.is_ended inner.is_long inner.buffer.items = elim c.if-self.branch [
      | then-self w ↦ sym (ap line c.self.view_is) ∙ (ended_line c.self.inside.is_ended c.self.inside.is_long c.self.inside.buffer.items w.if-self.true
          ∙ sym (ap (λ it. line_in it.is_ended it.is_long it.buffer.items) w.self-inside-is ∙ ap short w.clear.ensures))
      | else-self w ↦ sym (ap line c.self.view_is) ∙ sym (ap (λ it. line_in it.is_ended it.is_long it.buffer.items) w.self-inside-is)
    ] in
    let room = c.remaining_capacity.ensures in
    sym (ap (added bytes) same ∙ takes_too_many inner.is_ended inner.is_long inner.buffer.items bytes begun (omega arith) (omega arith))

pub returns-else-bytes-remaining_capacity : goal.returns-else-bytes-remaining_capacity
returns-else-bytes-remaining_capacity c =
    let inner = c.if-self.self-inside in
    let bytes = c.args.bytes.now in
    let line : Cutter → Unfinished = λ it. it.unfinished in
    let begun : inner.is_ended ≡ false = elim c.if-self.branch [
      | then-self w ↦ ap (λ it. it.is_ended) w.self-inside-is
      | else-self w ↦ ap (λ it. it.is_ended) w.self-inside-is ∙ w.if-self.false
    ] in
    let same : c.args.self.now.unfinished ≡ line_in inner.is_ended inner.is_long inner.buffer.items = elim c.if-self.branch [
      | then-self w ↦ sym (ap line c.self.view_is) ∙ (ended_line c.self.inside.is_ended c.self.inside.is_long c.self.inside.buffer.items w.if-self.true
          ∙ sym (ap (λ it. line_in it.is_ended it.is_long it.buffer.items) w.self-inside-is ∙ ap short w.clear.ensures))
      | else-self w ↦ sym (ap line c.self.view_is) ∙ sym (ap (λ it. line_in it.is_ended it.is_long it.buffer.items) w.self-inside-is)
    ] in
    let room = c.remaining_capacity.ensures in
    let items = c.try_extend_from_slice.ensures.ok in
    sym (ap (added bytes) same ∙ (takes_all inner.is_ended inner.is_long inner.buffer.items bytes begun (omega arith) ∙ ap (line_in inner.is_ended inner.is_long) (sym (rw c.unwrap.ensures at items))))
