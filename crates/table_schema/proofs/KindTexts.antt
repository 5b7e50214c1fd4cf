-- The text of a kind is that of no other.
use Rattle.std.proofs.Common.{◌≡◌, Some, refl}
use Rattle.container_model.specs.declared.handle.Kind.{Kind}
use Rattle.container_model.specs.declared.handle.Kind.TheVariants as kinds
use Rattle.table_schema.specs.KindText.{kind_of, kind_text}

pub kind_of-kind_text : (k : Kind) → kind_of (kind_text k) ≡ Some k
kind_of-kind_text kinds.Sequenced = refl
kind_of-kind_text kinds.Random = refl
kind_of-kind_text kinds.Ordered = refl
kind_of-kind_text kinds.Ranked = refl
kind_of-kind_text kinds.Hashed = refl
