use Rattle.std.proofs.Common.{◌≡◌, Some, sym, ◌∙◌, rules}
use Rattle.table_cmd.specs.Command.{table_in}
use Rattle.logged_tables.specs.Found.{IsFound}
use Rattle.logged_tables.specs.Hears.{place_of}
use Rattle.logged_tables.proofs.Calls.{at_err, at_ok, heard, stops_over}
use Rattle.logged_tables.proofs.seat.Seat.call.Goals as goal

pub returns-in-Ok-clause-answered : goal.returns-in-Ok-clause-answered
returns-in-Ok-clause-answered g c =
    let at : place_of c.args.self.now.names (table_in c.args.command.now) ≡ Some c.in-Some.place = (λ i. place_of (sym c.self.view_is i).names (sym c.table.ensures i)) ∙ sym c.in-Some.ensures in
    let found : IsFound c.args.self.now.names c.in-Some.place c.deref_mut-2.result.now.number c.deref_mut-2.result.now.log = search rules in
    heard c.args.self.now.names c.in-Some.place _ c.deref_mut-2.result.now.log c.carry_out-what.new.held.log c.args.command.now c.args.out.out.now.bytes c.carry_out-what.result.out.now.bytes at found
    (at_ok _ _ c.in-Ok.is c.carry_out-what.ensures.answered)

pub returns-clause-refused : goal.returns-clause-refused
returns-clause-refused g c =
    let at : place_of c.args.self.now.names (table_in c.args.command.now) ≡ Some c.in-Some.place = (λ i. place_of (sym c.self.view_is i).names (sym c.table.ensures i)) ∙ sym c.in-Some.ensures in
    let found : IsFound c.args.self.now.names c.in-Some.place c.deref_mut-2.result.now.number c.deref_mut-2.result.now.log = search rules in
    stops_over c.args.self.now.names c.in-Some.place _ c.deref_mut-2.result.now.log c.carry_out-what.new.held.log c.args.command.now at found (at_err _ _ c.in-Err.is c.carry_out-what.ensures.stopped).2
