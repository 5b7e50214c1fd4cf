use Rattle.std.proofs.Common.{take, drop, ap, ◌∙◌}
use Rattle.std.proofs.lemmas.List.{take_min}
use Rattle.shared_tables.proofs.line.first_bytes.Goals as goal

pub returns-clause-bytes : goal.returns-clause-bytes
returns-clause-bytes c =
    let line = c.split_at.result.1.now in
    c.split_at-2.ensures.front ∙ ap (λ n. take n line) c.min.ensures ∙ take_min 256 line ∙ ap (take 256) (c.split_at.ensures.back ∙ ap (drop c.args.start) c.bytes.ensures.bytes)
