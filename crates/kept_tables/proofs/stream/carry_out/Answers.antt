use Rattle.std.proofs.Common.{◌≡◌, ◌∙◌, Some, get_or, length, refl, sym, ap}
use Rattle.std.specs.Prelude.{slice_get}
use Rattle.std.proofs.lemmas.List.Quantifiers.{position-Some}
use Rattle.std.proofs.lemmas.Option.{slice_get_read}
use Rattle.std.proofs.lemmas.Result.{on_err_weaker, on_ok_weaker}
use Rattle.table_cmd.specs.Command.{table_in}
use Rattle.kept_tables.specs.Lines.{place_of}
use Rattle.kept_tables.proofs.stream.carry_out.Goals as goal

pub returns-in-Some-clause-told : goal.returns-in-Some-clause-told
returns-in-Some-clause-told g c =
    let tables = c.args.tables.now in
    let place = c.in-Some.place in
    let old = get_or tables place c.index-tables-place.result in
    let is : old ≡ get_or tables place old = ap (get_or tables place) c.index-tables-place.is in
    let at : place_of tables (table_in c.args.command.now) ≡ Some place = ap (place_of tables) (sym c.table.ensures) ∙ sym c.in-Some.ensures in
    let found = position-Some _ tables place old at in
    let got : slice_get tables place ≡ Some old = slice_get_read tables (length tables) place old refl found.0 is in
    on_ok_weaker c.call.result.what (λ told. (told.0, told.1, rw at (old, c.call.new.table, got, told.2, told.3, refl))) c.call.ensures.told

pub returns-in-Some-clause-stopped : goal.returns-in-Some-clause-stopped
returns-in-Some-clause-stopped g c =
    let tables = c.args.tables.now in
    let place = c.in-Some.place in
    let old = get_or tables place c.index-tables-place.result in
    let is : old ≡ get_or tables place old = ap (get_or tables place) c.index-tables-place.is in
    let at : place_of tables (table_in c.args.command.now) ≡ Some place = ap (place_of tables) (sym c.table.ensures) ∙ sym c.in-Some.ensures in
    let found = position-Some _ tables place old at in
    let got : slice_get tables place ≡ Some old = slice_get_read tables (length tables) place old refl found.0 is in
    on_err_weaker c.call.result.what (λ stopped. (stopped.0, rw at (old, c.call.new.table, got, stopped.1, refl))) c.call.ensures.stopped
