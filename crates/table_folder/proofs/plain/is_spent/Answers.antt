use Rattle.std.proofs.Common.{ap, sym, Some, ◌∙◌}
use Rattle.std.specs.Prelude.{option_map}
use Rattle.table_folder.specs.Plain.{ends_with}
use Rattle.table_folder.proofs.PlainEnds.{told_of}
use Rattle.table_folder.proofs.plain.is_spent.Goals as goal

pub returns-in-Some : goal.returns-in-Some
returns-in-Some g c x is =
    ap Some c.is_at.ensures ∙ ap (option_map (ends_with c.args.number)) (sym c.in-Some.is) ∙ told_of c.args.number c.args.begin c.in_ok-end.field-0 x (c.in_ok-end.ensures.ends x is)

pub returns-in-None : goal.returns-in-None
returns-in-None g c x is =
    ap (option_map (ends_with c.args.number)) (sym c.in-None.is) ∙ told_of c.args.number c.args.begin c.in_ok-end.field-0 x (c.in_ok-end.ensures.ends x is)
