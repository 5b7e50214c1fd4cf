-- A start finds the bytes that a disk has synced.
use Rattle.std.proofs.Common.{◌≡◌, ℕ, ◌-◌, ◌≤◌, List, [], ◌∷◌, ◌++◌, drop, length, take, Option, Some, None, refl, sym, ap, subst, ◌∙◌, arith}
use Rattle.std.proofs.lemmas.Grind.{flat_map-append}
use Rattle.checked_disk.specs.Files.{Left}
use Rattle.checked_disk.specs.Plain.{plain_contents, plain_lines, plain_text}
use Rattle.checked_disk.specs.Safe.{IsSafe, entries_of}
use Rattle.checked_disk.specs.Stands.{Stands}
use Rattle.checked_disk.specs.Synced.{SyncedAreDurable}
use Rattle.checked_disk.specs.declared.disk.Log.{Log}
use Rattle.checked_disk.proofs.Synced.{plain_followed, plain_grows, plain_parts}
use Rattle.checked_log.specs.Line.{Entry}
use Rattle.checked_log.specs.Whole.{ended, last_link, whole}
use Rattle.checked_log.specs.declared.recovery.Link.{Link}
use Rattle.table_folder.specs.Disk.{Image}
use Rattle.table_folder.specs.Found.{Beginning, Declared}
use Rattle.table_folder.specs.Joined.{AreAccepted, FindsFront, GoesFrom, HasNoOther, IsJoined}
use Rattle.table_folder.specs.Synced.{FindsSynced}
use Rattle.table_terms.specs.Table.{TableState}
use Rattle.table_folder.proofs.Joining.{goes_on_front}
use Rattle.table_folder.proofs.Sure.{safe_left}

-- these bytes are the plain lines of these entries, and so many first ones are those of the ones up to a number
pub record AreSynced (base : Link) (es : List Entry) (bytes : List ℕ) (durable synced : ℕ) : Type 0 where
  pub is : bytes ≡ plain_lines es
  pub covered : synced ≤ length (plain_lines (take (durable - base.number) es))

-- so it is with the bytes of a disk
pub disk_synced : (base link : Link) (contents : Option (List ℕ)) (log : Log) (bytes : List ℕ) → base ≡ link → plain_contents base contents ≡ Some bytes → SyncedAreDurable base contents log
    → AreSynced link (entries_of link contents) bytes log.durable log.synced
disk_synced base link None log bytes same is covers = cc
disk_synced base link (Some known) log bytes same is covers =
    let here : plain_text base known ≡ bytes = cc in
    subst (λ (l : Link). AreSynced l (whole l (ended known)) bytes log.durable log.synced) same (record { is = sym here; covered = covers known refl })

-- and with further lines
pub more_synced : (base : Link) (es more : List Entry) (bytes : List ℕ) (durable synced : ℕ) → AreSynced base es bytes durable synced → AreSynced base (es ++ more) (bytes ++ plain_lines more) durable synced
more_synced base es more bytes durable synced are = record {
  is = ap (λ (l : List ℕ). l ++ plain_lines more) are.is ∙ sym (flat_map-append (λ e. e.write ++ (10 ∷ [])) es more);
  covered = omega (arith, are.covered, plain_followed (durable - base.number) es more);
}

-- a start that finds each line which is sure finds what was synced
pub finds_synced : (d : Declared) (from : Beginning) (es : List Entry) (bytes : List ℕ) (sure durable synced : ℕ) (image : Image) → AreSynced from.link es bytes durable synced → durable ≤ sure
    → FindsFront d from es sure image → FindsSynced d from bytes synced image
finds_synced d from es bytes sure durable synced image are few found = record {
  front = plain_lines (take found.count es);
  is_front = (plain_lines (drop found.count es), sym (are.is ∙ plain_parts found.count es));
  enough = omega (arith, are.covered, plain_grows es (durable - from.link.number) found.count (omega (arith, few, found.enough)));
  table = found.table;
  leave = found.leave;
  last = last_link from.link (take found.count es);
  finds = found.finds;
}

-- and so each fewer of them
pub fewer_synced : (d : Declared) (from : Beginning) (bytes : List ℕ) (synced few : ℕ) (image : Image) → few ≤ synced → FindsSynced d from bytes synced image → FindsSynced d from bytes few image
fewer_synced d from bytes synced few image le found = record {
  front = found.front;
  is_front = found.is_front;
  enough = omega (arith, le, found.enough);
  table = found.table;
  leave = found.leave;
  last = found.last;
  finds = found.finds;
}

-- of an open log
pub open_synced : (d : Declared) (from : Beginning) (files image : Image) (bytes : List ℕ) (t : TableState) (sure : ℕ) (c : Left) (base : Link) (contents : Option (List ℕ)) (next : ℕ) (log : Log)
    (may_leave : Left → Type 0) → GoesFrom d from files → AreAccepted from.table (entries_of from.link contents) t → base ≡ from.link → plain_contents base contents ≡ Some bytes
    → SyncedAreDurable base contents log → IsSafe base contents next log.durable sure may_leave → may_leave c → HasNoOther from.link (entries_of from.link contents) sure (ended c.log)
    → IsJoined files from.state c image → FindsSynced d from bytes log.synced image
open_synced d from files image bytes t sure c base contents next log may_leave begins accepted same known covers safe leaves none joined =
    let es = entries_of from.link contents in
    let stands : Stands from.link es sure c =
    subst (λ (b : Link). Stands b (entries_of b contents) sure c) same (safe_left base contents next log.durable sure may_leave c safe leaves) in
    finds_synced d from es bytes sure log.durable log.synced image (disk_synced base from.link contents log bytes same known covers) safe.enough
    (goes_on_front d from files image es t sure c begins accepted (sure, omega arith, stands) none joined)
