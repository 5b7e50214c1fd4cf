use Rattle.std.proofs.Common.{◌++◌, subst}
use Rattle.checked_disk.specs.Plain.{plain_lines}
use Rattle.checked_disk.specs.Safe.{entries_of}
use Rattle.checked_disk.specs.Stands.{StandsFrom}
use Rattle.checked_log.specs.declared.recovery.Link.{Link}
use Rattle.table_folder.proofs.Joining.{further_stand, goes_on_front}
use Rattle.table_folder.proofs.Syncing.{disk_synced, finds_synced, more_synced}
use Rattle.table_folder.proofs.synced_law.what_was_synced_is_found.Goals as goal

pub returns : goal.returns
returns g c = λ d from files image bytes more t sure left begins accepted same known safe keeps since follow none joined.
    let old = c.args.old.now in
    let contents = g.F.LogFiles.contents old.disk.files in
    let es = entries_of from.link contents in
    let stands : StandsFrom from.link es sure left = subst (λ (base : Link). StandsFrom base (entries_of base contents) sure left) same ((keeps sure safe).0.each left since) in
    let are = more_synced from.link es more bytes old.log.durable old.log.synced (disk_synced old.texts.base from.link contents old.log bytes same known old.sure) in
    finds_synced d from (es ++ more) (bytes ++ plain_lines more) sure old.log.durable old.log.synced image are safe.enough
    (goes_on_front d from files image (es ++ more) t sure left begins accepted (further_stand from.link es more sure left follow stands) none joined)
