use Rattle.std.proofs.Common.{Some, ap, sym, ◌∙◌}
use Rattle.std.proofs.lemmas.Slice.Eq.{bytes_eq-Decides}
use Rattle.logged_tables.proofs.tables.is_named.Goals as goal

pub returns-in-Some : goal.returns-in-Some
returns-in-Some c = λ is. c.in-Some.ensures.some ∙ ap (λ n. Some n) ((bytes_eq-Decides c.in-Some.known.now c.args.name.now).0 (sym c.eq.ensures ∙ is))
