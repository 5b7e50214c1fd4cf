use Rattle.std.proofs.Common.{refl, sym, subst, arith}
use Rattle.std.specs.List.{AllByRecursion}
use Rattle.std.proofs.Common.{None, ◌≡◌, [], map}
use Rattle.hash_index.specs.Oldest.{AreOldest}
use Rattle.hash_index.specs.Heads.{first_in, AreRight}
use Rattle.hash_index.proofs.Spelling.{Spells_from, empty_hangs}
use Rattle.hash_index.proofs.HashIndex.new.Goals as goal

pub returns-clause-empty : goal.returns-clause-empty
returns-clause-empty c = λ ages cs.
    Spells_from cs _ _ (empty_hangs _ _ 0 _ (subst (λ z. AllByRecursion (λ o. o ≡ None) (map first_in z)) (sym c.new.ensures) tt)) tt refl (omega arith) (subst (AreRight _) (sym c.new.ensures) tt) (subst (AreOldest ages (cs c.args.col) []) (sym c.new.ensures) tt)
