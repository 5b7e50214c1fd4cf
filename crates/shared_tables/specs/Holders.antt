-- Whose pass it is.
use Rattle.std.specs.Prelude.{◌≡◌, List, [], ◌∷◌}
use Rattle.shared_tables.specs.Pass.{PassData}
use Rattle.shared_tables.specs.declared.holder.Holder.{Holder}
use Rattle.shared_tables.specs.declared.holder.Holder.TheVariants.{Nobody, One, Several}

-- of these passes, there is none, this one alone, or more than one
abbrev pub IsHolder : Holder → List PassData → Type 0
IsHolder Nobody passes = passes ≡ []
IsHolder (One pass) passes = passes ≡ pass.now ∷ []
IsHolder Several passes = (p q : PassData) × (rest : List PassData) × (passes ≡ p ∷ q ∷ rest)
