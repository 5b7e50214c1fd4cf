use Rattle.std.proofs.Common.{subst}
use Rattle.command_lines.specs.Tree.{IsTreeOf}
use Rattle.command_lines.proofs.Fitting.{read_fits}
use Rattle.command_lines.proofs.Lines.{meaning-json, meaning-no_json}
use Rattle.command_lines.proofs.Order.{ordered_read}
use Rattle.command_lines.proofs.ValueTexts.{value_texts}
use Rattle.command_lines.proofs.read.read_with.Goals as goal

pub returns-in-Some-clause-means : goal.returns-in-Some-clause-means
returns-in-Some-clause-means c =
    let told = subst (IsTreeOf c.args.line.now) c.in-Some.is c.in_ok-value.ensures in
    rw (meaning-json c.args.line.now _ told.0 told.1) c.command_of.ensures

pub returns-in-Some-clause-fits : goal.returns-in-Some-clause-fits
returns-in-Some-clause-fits c =
    let told = subst (IsTreeOf c.args.line.now) c.in-Some.is c.in_ok-value.ensures in
    read_fits c.command_of.result _ _ c.command_of.ensures told.1 (ordered_read c.args.line.now) (value_texts c.in-Some.value)

pub returns-in-None-clause-means : goal.returns-in-None-clause-means
returns-in-None-clause-means c =
    meaning-no_json c.args.line.now (subst (IsTreeOf c.args.line.now) c.in-None.is c.in_ok-value.ensures)
