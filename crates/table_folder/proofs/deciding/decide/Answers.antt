use Rattle.std.proofs.Common.{◌≡◌, Some, sym, ap, subst, ◌∙◌}
use Rattle.checked_disk.specs.Kept.{IsRecovered}
use Rattle.checked_disk.specs.Plain.{plain_contents, plain_text}
use Rattle.checked_disk.specs.declared.disk.Log.{Log as KeptLog}
use Rattle.table_folder.specs.Base.{state_in}
use Rattle.table_folder.specs.Found.{declared_as}
use Rattle.table_folder.specs.Opened.{bytes_in}
use Rattle.table_folder.specs.declared.name.FileName.TheVariants.{Log, State}
use Rattle.table_log.specs.Log.{replayed}
use Rattle.table_terms.specs.Table.{TableState}
use Rattle.table_folder.proofs.Decisions.{decided_is, goes}
use Rattle.table_folder.proofs.Replays.{broken, leaves}
use Rattle.table_folder.proofs.deciding.decide.Goals as goal

pub returns-in-Ok-clause-finds : goal.returns-in-Ok-clause-finds
returns-in-Ok-clause-finds g c t last files seen finds =
    let found = c.in_ok-disk.field-0 in
    let base = found.about.base in
    let log = files (Log (state_in base)) in
    let bytes = plain_text base.link (bytes_in log) in
    decided_is (declared_as c.args.table.now c.args.types.now c.args.declared) t last files finds base found.table (c.in_ok-disk.ensures.begins finds.from (files State) (seen State) finds.begins)
    found.about.marks found.about.recovered c.in-Ok.field-0.table (c.in_ok-disk.ensures.found files seen)
    (subst (λ (s : TableState). replayed s bytes ≡ Some c.in-Ok.field-0.table) c.in_ok-begun.ensures
    (leaves c.in_ok-begun.begun bytes c.in-Ok.field-0.torn c.in-Ok.field-0.table
    (c.in-Ok.ensures.replayed bytes (λ i. plain_contents (c.in_ok-disk.ensures.base i) (c.in_ok-disk.ensures.contents log (seen (Log (state_in base))) i)))))

pub returns-in-Ok-clause-found : goal.returns-in-Ok-clause-found
returns-in-Ok-clause-found g c files seen =
    let found = c.in_ok-disk.field-0 in
    let base = found.about.base in
    let log = files (Log (state_in base)) in
    let bytes = plain_text base.link (bytes_in log) in (
      found.table,
      c.in_ok-disk.ensures.found files seen,
      subst (λ (s : TableState). replayed s bytes ≡ Some c.in-Ok.field-0.table) c.in_ok-begun.ensures
          (leaves c.in_ok-begun.begun bytes c.in-Ok.field-0.torn c.in-Ok.field-0.table
          (c.in-Ok.ensures.replayed bytes (λ i. plain_contents (c.in_ok-disk.ensures.base i) (c.in_ok-disk.ensures.contents log (seen (Log (state_in base))) i)))),
    )

pub returns-in-Ok-clause-kept : goal.returns-in-Ok-clause-kept
returns-in-Ok-clause-kept g c x seen = c.kept-kept.ensures.of (bytes_in x) (c.in-Ok.ensures.same.contents ∙ c.in_ok-disk.ensures.contents x seen)

pub returns-in-Ok-clause-goes_on : goal.returns-in-Ok-clause-goes_on
returns-in-Ok-clause-goes_on g c =
    let same = c.in-Ok.ensures.same in
    let log = c.kept-kept.ensures.log ∙ same.log in (
      c.kept-kept.ensures.base ∙ same.base ∙ c.in_ok-disk.ensures.base,
      c.kept-kept.ensures.next ∙ same.next ∙ c.in_ok-disk.ensures.next,
      subst (IsRecovered c.in_ok-disk.field-0.about.recovered) (sym log) c.in_ok-disk.ensures.log,
    )

pub returns-in-Ok-clause-about : goal.returns-in-Ok-clause-about
returns-in-Ok-clause-about g c files seen =
    let same = c.in-Ok.ensures.same in
    let log = c.kept-kept.ensures.log ∙ same.log in
    record {
      opens = (c.in_ok-disk.ensures.found files seen).opens;
      base = c.kept-kept.ensures.base ∙ same.base ∙ c.in_ok-disk.ensures.base;
      last = ap (λ (l : KeptLog). l.last) log ∙ c.in_ok-disk.ensures.log.last;
      durable = ap (λ (l : KeptLog). l.durable) log ∙ c.in_ok-disk.ensures.log.durable;
      next = c.kept-kept.ensures.next ∙ same.next ∙ c.in_ok-disk.ensures.next;
    }

pub returns-clause-refused : goal.returns-clause-refused
returns-clause-refused g c t last files seen finds =
    let found = c.in_ok-disk.field-0 in
    let base = found.about.base in
    let log = files (Log (state_in base)) in
    let bytes = plain_text base.link (bytes_in log) in
    let same = c.in_ok-disk.ensures.begins finds.from (files State) (seen State) finds.begins in
    let going = goes (declared_as c.args.table.now c.args.types.now c.args.declared) t last files finds base found.table same in
    let unloaded = c.in-Err.ensures.refused bytes (λ i. plain_contents (c.in_ok-disk.ensures.base i) (c.in_ok-disk.ensures.contents log (seen (Log (state_in base))) i)) in
    c.of_loading.ensures (broken c.in_ok-begun.begun bytes c.in-Err.why t unloaded (subst (λ (s : TableState). replayed s bytes ≡ Some t) (sym c.in_ok-begun.ensures) going.leaves))
