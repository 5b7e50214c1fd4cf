-- What reads leave as it is.
use Rattle.std.specs.Prelude.{◌≡◌, refl}
use Rattle.std.proofs.Common.{◌∙◌}
use Rattle.file_disk.specs.declared.disk.FileDisk.{FileDisk}
use Rattle.file_disk.specs.declared.file.LogFile.{Ghosts}

-- it has the same bytes and counts
pub record IsSame {F : Type 0} {G : Ghosts F} (a b : FileDisk F G) : Type 0 where
  pub bytes : G.contents b.file ≡ G.contents a.file
  pub settled : G.settles b.file ≡ G.settles a.file
  pub size : b.size ≡ a.size
  pub synced : b.synced ≡ a.synced

pub same_stays : {F : Type 0} {G : Ghosts F} (a : FileDisk F G) → IsSame a a
same_stays a = record { bytes = refl; settled = refl; size = refl; synced = refl }

pub same_goes_on : {F : Type 0} {G : Ghosts F} (a b c : FileDisk F G) → IsSame a b → IsSame b c → IsSame a c
same_goes_on a b c first second = record {
  bytes = second.bytes ∙ first.bytes;
  settled = second.settled ∙ first.settled;
  size = second.size ∙ first.size;
  synced = second.synced ∙ first.synced;
}
