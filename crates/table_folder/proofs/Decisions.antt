-- A start finds one table.
use Rattle.std.proofs.Common.{◌≡◌, Option, Some, Ok, sym, ap, subst, ◌∙◌}
use Rattle.checked_disk.specs.Plain.{plain_text}
use Rattle.checked_log.specs.Mark.{marks_of}
use Rattle.checked_log.specs.Recover.{recovered_of}
use Rattle.checked_log.specs.declared.mark.Marks.{Marks}
use Rattle.checked_log.specs.declared.recovery.Link.{Link}
use Rattle.checked_log.specs.declared.recovery.Recovered.{Recovered}
use Rattle.table_folder.specs.Base.{state_in}
use Rattle.table_folder.specs.Compacting.{AreEarlier}
use Rattle.table_folder.specs.Deciding.{IsFoundIn, IsThereWhereDeclared, start_of}
use Rattle.table_folder.specs.Disk.{Image}
use Rattle.table_folder.specs.Found.{Beginning, Declared, Finds, GoesOn}
use Rattle.table_folder.specs.Opened.{bytes_in}
use Rattle.table_folder.specs.StateIn.{beginning_of}
use Rattle.table_folder.specs.declared.base.Base.{Base}
use Rattle.table_folder.specs.declared.name.FileName.TheVariants.{Log, Mark}
use Rattle.table_log.specs.Log.{replayed}
use Rattle.table_terms.specs.Table.{TableState}

module _ (d : Declared) (t : TableState) (last : Link) (files : Image) (finds : Finds d t last files) (base : Base) (begun : Option TableState) (same : beginning_of d.shape base begun ≡ finds.from) where
  pub goes : GoesOn (beginning_of d.shape base begun) (files (Log (state_in base))) (files Mark) t last
  goes = subst (λ (b : Beginning). GoesOn b (files (Log b.state)) (files Mark) t last) (sym same) finds.goes_on

  -- beside what it begins behind no other log refuses it
  pub earlier : AreEarlier d.digest base.link (state_in base) files
  earlier = subst (λ (b : Beginning). AreEarlier d.digest b.link b.state files) (sym same) (λ begin bytes other is. let beside = finds.beside begin bytes other is in (beside.begins, beside.ends))

  pub there : IsThereWhereDeclared (state_in base) files
  there = subst (λ (b : Beginning). IsThereWhereDeclared b.state files) (sym same) finds.there

  pub opens : (marks : Marks) → marks ≡ marks_of (bytes_in (files Mark)) → recovered_of base.link marks.mark (bytes_in (files (Log (state_in base)))) ≡ Ok goes.recovered
  opens marks read = ap (λ (m : Marks). recovered_of base.link m.mark (bytes_in (files (Log (state_in base))))) read ∙ goes.opens

  pub decided_is : (marks : Marks) (recovered : Recovered) (table : TableState) → IsFoundIn d files base begun marks recovered
      → replayed (start_of d.shape begun) (plain_text base.link (bytes_in (files (Log (state_in base))))) ≡ Some table → (table ≡ t) × (recovered.last ≡ last)
  decided_is marks recovered table found leaves =
      let bytes = bytes_in (files (Log (state_in base))) in
      let one : Ok goes.recovered ≡ Ok recovered = sym goes.opens ∙ ap (λ (m : Marks). recovered_of base.link m.mark bytes) (sym found.mark) ∙ found.opens in
      let same_recovered : goes.recovered ≡ recovered = cc in
      let both : Some table ≡ Some t = sym leaves ∙ goes.leaves in
      let same_table : table ≡ t = cc in
      (same_table, ap (λ (r : Recovered). r.last) (sym same_recovered) ∙ goes.is_last)
