use Rattle.std.proofs.Common.{ℕ, Option, subst, sym}
use Rattle.std.proofs.lemmas.Result.{err_from_is_err_and}
use Rattle.table_folder.specs.Base.{state_in}
use Rattle.table_folder.specs.Compacting.{AreEarlier, AreSpent}
use Rattle.table_folder.specs.Found.{declared_as}
use Rattle.table_folder.specs.declared.name.FileName.TheVariants.{Log, Mark, State}
use Rattle.table_folder.proofs.Decisions.{earlier, goes, opens, there}
use Rattle.table_folder.proofs.found_log.find_log.Goals as goal

pub returns-clause-found : goal.returns-clause-found
returns-clause-found g c files seen = record {
  state = c.in_ok-base.ensures.read (files State) (seen State);
  mark = c.in_ok-marks.ensures.read (files Mark) (seen Mark);
  opens = c.in_ok-disk.ensures.recovered (files (Log (state_in c.in_ok-base.field-0.base))) (seen (Log (state_in c.in_ok-base.field-0.base)));
  there = c.in_ok-refuse_missing.ensures.there files seen;
}

pub returns-clause-spent : goal.returns-clause-spent
returns-clause-spent g c =
    subst (λ (s : Option ℕ). AreSpent c.args.declared c.in_ok-base.field-0.base.link s (g.F.Folder.seen c.args.folder.now) c.in_ok-spent.spent.items) c.state.ensures c.in_ok-spent.ensures.spent

pub returns-clause-earlier : goal.returns-clause-earlier
returns-clause-earlier g c files seen =
    subst (λ (s : Option ℕ). AreEarlier c.args.declared c.in_ok-base.field-0.base.link s files) c.state.ensures (c.in_ok-spent.ensures.earlier files seen)

pub returns-in_err-spent-clause-refused : goal.returns-in_err-spent-clause-refused
returns-in_err-spent-clause-refused g c =
    let begin = c.in_ok-base.field-0 in
    let d = declared_as c.args.table.now c.args.types.now c.args.declared in
    let p = err_from_is_err_and c.from_residual-in_err-spent.result c.from_residual-in_err-spent.ensures.1 in
    rw (p.1, p.2) (λ t last files seen finds.
    let same = c.in_ok-base.ensures.finds finds.from (files State) (seen State) finds.begins in
    c.in_err-spent.ensures.refused files seen
    (subst (λ (s : Option ℕ). AreEarlier c.args.declared begin.base.link s files) (sym c.state.ensures) (earlier d t last files finds begin.base begin.table same)))

pub returns-in_err-refuse_missing-clause-refused : goal.returns-in_err-refuse_missing-clause-refused
returns-in_err-refuse_missing-clause-refused g c =
    let begin = c.in_ok-base.field-0 in
    let d = declared_as c.args.table.now c.args.types.now c.args.declared in
    let p = err_from_is_err_and c.from_residual-in_err-refuse_missing.result c.from_residual-in_err-refuse_missing.ensures.1 in
    rw (p.1, p.2) (λ t last files seen finds.
    let same = c.in_ok-base.ensures.finds finds.from (files State) (seen State) finds.begins in
    c.in_err-refuse_missing.ensures.refused files seen (there d t last files finds begin.base begin.table same))

pub returns-in_err-disk-clause-refused : goal.returns-in_err-disk-clause-refused
returns-in_err-disk-clause-refused g c =
    let begin = c.in_ok-base.field-0 in
    let d = declared_as c.args.table.now c.args.types.now c.args.declared in
    let log = Log (state_in begin.base) in
    let p = err_from_is_err_and c.from_residual-in_err-disk.result c.from_residual-in_err-disk.ensures.1 in
    rw (p.1, p.2) (λ t last files seen finds.
    let same = c.in_ok-base.ensures.finds finds.from (files State) (seen State) finds.begins in
    c.in_err-disk.ensures.refused (files log) (goes d t last files finds begin.base begin.table same).recovered (seen log)
    (opens d t last files finds begin.base begin.table same c.in_ok-marks.marks (c.in_ok-marks.ensures.read (files Mark) (seen Mark))))
