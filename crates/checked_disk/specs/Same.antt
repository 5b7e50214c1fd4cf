-- What reads leave as it is.
use Rattle.std.specs.Prelude.{◌≡◌, refl}
use Rattle.std.proofs.Common.{◌∙◌, inl, inr, ⊎_elim, arith}
use Rattle.checked_disk.specs.Files.{IsQuiet}
use Rattle.checked_disk.specs.declared.disk.CheckedDisk.{CheckedDisk}
use Rattle.checked_disk.specs.declared.files.LogFiles.{Ghosts}

-- It has the same bytes, and the same is known of them; nothing was written.
pub record IsSame {F : Type 0} {G : Ghosts F} (a b : CheckedDisk F G) : Type 0 where
  pub contents : G.contents b.disk.files ≡ G.contents a.disk.files
  pub log : b.log ≡ a.log
  pub base : b.texts.base ≡ a.texts.base
  pub next : b.next ≡ a.next
  pub quiet : IsQuiet G.written G.may_leave G.moment G.left_since a.disk.files b.disk.files

pub same_stays : {F : Type 0} {G : Ghosts F} (a : CheckedDisk F G) → IsSame a a
same_stays a = record {
  contents = refl;
  log = refl;
  base = refl;
  next = refl;
  quiet = record { places = λ p. (λ w. w, λ w. w); less = λ c left. left; later = omega arith; nothing_else = λ t c le left. inl left };
}

pub same_goes_on : {F : Type 0} {G : Ghosts F} (a b c : CheckedDisk F G) → IsSame a b → IsSame b c → IsSame a c
same_goes_on a b c first second = record {
  contents = second.contents ∙ first.contents;
  log = second.log ∙ first.log;
  base = second.base ∙ first.base;
  next = second.next ∙ first.next;
  quiet = record {
    places = λ p. (λ w. (second.quiet.places p).0 ((first.quiet.places p).0 w), λ w. (first.quiet.places p).1 ((second.quiet.places p).1 w));
    less = λ x left. first.quiet.less x (second.quiet.less x left);
    later = omega (arith, first.quiet.later, second.quiet.later);
    nothing_else = λ t x le left.
        ⊎_elim (first.quiet.nothing_else t x le) (λ now. inr (first.quiet.less x now)) (second.quiet.nothing_else t x (omega (arith, le, first.quiet.later)) left);
  };
}
