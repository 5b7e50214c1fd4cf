use Rattle.std.proofs.Common.{◌≡◌, ℕ, List, Option, Some, None, refl, subst, sym}
use Rattle.table_folder.specs.Disk.{Looks}
use Rattle.table_folder.specs.Found.{Beginning, BeginsWith, Declared, IsState, declared_as}
use Rattle.table_folder.specs.declared.name.FileName.TheVariants.{State}
use Rattle.table_folder.proofs.state_in.read_begin.Goals as goal

begins_some : (d : Declared) (x contents : Option (List ℕ)) (b : Beginning) (P : Type 0) → x ≡ contents → (x ≡ None → ⊥) → ((bytes : List ℕ) → contents ≡ Some bytes → IsState d bytes b → P) → BeginsWith d x b → P
begins_some d None contents b P same there then begins = absurd (there refl)
begins_some d (Some bytes) contents b P same there then begins = then bytes (sym same) begins

pub returns-in-Ok-Some-clause-finds : goal.returns-in-Ok-Some-clause-finds
returns-in-Ok-Some-clause-finds g c b x is begins =
    let found = subst (Looks g.F.File.LogFile.contents (g.F.Folder.seen c.args.folder.now State)) c.in-Ok-Some.field-0-is c.in-Ok-Some.ensures.seen in
    let looked = found.0 x is in
    begins_some (declared_as c.args.table.now c.args.types.now c.args.declared) x (g.F.File.LogFile.contents c.in-Ok-Some.file) b _ looked.0 looked.1 (λ bytes known state. c.begin_at.ensures.finds b bytes known state) begins
