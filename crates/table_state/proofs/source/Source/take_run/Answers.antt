use Rattle.std.proofs.Common.{◌≡◌, ◌-◌, ◌++◌, ◌∙◌, List, ap, drop, subst, take}
use Rattle.std.proofs.lemmas.Slice.{between_is}
use Rattle.command_text.specs.Line.{IsOneLine}
use Rattle.table_state.specs.Reading.{held}
use Rattle.table_state.proofs.Taking.{held_parts}
use Rattle.table_state.proofs.source.Source.take_run.Goals as goal

pub returns-clause-run : goal.returns-clause-run
returns-clause-run c =
    let own = c.args.self.now in
    let n = c.line_length-count.result in
    let same : take (own.end - own.start) (drop own.start c.deref.result.now) ≡ held own =
    ap (λ items. take (own.end - own.start) (drop own.start items)) c.deref.ensures.value ∙ between_is own.piece.items own.start own.end in record {
      run = take n (held own);
      line = c.in_ok-extend_from_slice.ensures.items ∙ ap (λ xs. own.line.items ++ take n xs) same;
      held = held_parts own.piece.items own.start own.end n;
      one_line = subst (λ (xs : List _). IsOneLine (take n xs)) same c.line_length-count.ensures.one_line;
    }
