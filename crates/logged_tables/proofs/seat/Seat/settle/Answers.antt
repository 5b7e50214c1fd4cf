use Rattle.std.proofs.Common.{rules}
use Rattle.logged_tables.specs.Found.{IsFound}
use Rattle.logged_tables.proofs.Calls.{at_err, at_ok}
use Rattle.logged_tables.proofs.Marks.{covered_by, unsynced_by, was_away}
use Rattle.logged_tables.proofs.seat.Seat.settle.Goals as goal

pub returns-then-not-stands-clause-taken : goal.returns-then-not-stands-clause-taken
returns-then-not-stands-clause-taken g c = was_away c.args.standing.now c.args.place (c.stands.ensures c.if-not-stands.true)

pub returns-in-Ok-clause-covered : goal.returns-in-Ok-clause-covered
returns-in-Ok-clause-covered g c =
    let found : IsFound c.args.self.now.names c.args.place c.deref_mut.result.now.number c.deref_mut.result.now.log = search rules in
    covered_by c.args.self.now.names c.args.place _ _ _ _ found (at_ok _ _ c.in-Ok.is c.settle.ensures.settled).1

pub returns-clause-over : goal.returns-clause-over
returns-clause-over g c =
    let found : IsFound c.args.self.now.names c.args.place c.deref_mut.result.now.number c.deref_mut.result.now.log = search rules in
    unsynced_by c.args.self.now.names c.args.place _ _ _ _ found (at_err _ _ c.in-Err.is c.settle.ensures.stopped).1
