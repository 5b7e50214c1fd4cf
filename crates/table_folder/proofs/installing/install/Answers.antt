use Rattle.table_folder.specs.Installing.{cleared_files}
use Rattle.table_folder.specs.StateFile.{state_file}
use Rattle.table_folder.specs.declared.name.FileName.TheVariants.{Declaration, DeclarationDraft}
use Rattle.table_folder.proofs.Installed.{installed_left, installed_seen, on_ok_two}
use Rattle.table_folder.proofs.Retired.{on_ok_then}
use Rattle.table_folder.proofs.installing.install.Goals as goal

pub returns-clause-seen : goal.returns-clause-seen
returns-clause-seen g c = on_ok_then c.declare.result (λ declared files image sees lacks there.
    let F = g.F.Folder in
    let state = state_file c.args.types.now c.args.digest c.args.table.now in
    let put = c.in_ok-put_state.ensures.seen (cleared_files files) (c.in_ok-clear.ensures.seen files sees lacks) in
    installed_seen files image state c.args.text.now (F.seen c.put_state.new.folder) (F.seen c.declare.new.folder) put c.declare.ensures.others
    (declared (cleared_files files DeclarationDraft) (put Declaration) (put DeclarationDraft)) there) c.declare.ensures.seen

pub returns-clause-left : goal.returns-clause-left
returns-clause-left g c = on_ok_two c.declare.result (λ no_older declared files image sees lacks left.
    let F = g.F.Folder in
    let state = state_file c.args.types.now c.args.digest c.args.table.now in
    let cleared = c.in_ok-clear.ensures.seen files sees lacks in
    let put = c.in_ok-put_state.ensures.seen (cleared_files files) cleared in
    let settled = c.in_ok-put_state.ensures.put (cleared_files files) cleared in
    let runs = c.declare.ensures.runs (cleared_files files DeclarationDraft) (put DeclarationDraft) in
    installed_left files image state c.args.text.now (F.has c.clear.new.folder) (F.was c.put_state.new.folder) (F.has c.put_state.new.folder) (F.was c.declare.new.folder) (F.has c.declare.new.folder)
    settled runs.within (no_older (put Declaration)) left (λ n is. (c.in_ok-clear.ensures.gone files sees lacks n is).1)
    (declared (cleared_files files DeclarationDraft) (put Declaration) (put DeclarationDraft))) c.declare.ensures.no_older c.declare.ensures.left
