-- The texts of the kinds of indices.
use Rattle.std.specs.Prelude.{ℕ, List, if◌then◌else◌, Option, Some, None, codes, bytes_eq}
use Rattle.container_model.specs.declared.handle.Kind.{Kind}
use Rattle.container_model.specs.declared.handle.Kind.TheVariants as kinds

-- the text of a kind
abbrev pub kind_text : Kind → List ℕ
kind_text kinds.Sequenced = codes "sequenced"
kind_text kinds.Random = codes "random"
kind_text kinds.Ordered = codes "ordered"
kind_text kinds.Ranked = codes "ranked"
kind_text kinds.Hashed = codes "hashed"

-- the kind whose text this is
abbrev pub kind_of : List ℕ → Option Kind
kind_of text =
    if bytes_eq text (kind_text kinds.Sequenced) then Some kinds.Sequenced
    else (if bytes_eq text (kind_text kinds.Random) then Some kinds.Random
    else (if bytes_eq text (kind_text kinds.Ordered) then Some kinds.Ordered
    else (if bytes_eq text (kind_text kinds.Ranked) then Some kinds.Ranked
    else (if bytes_eq text (kind_text kinds.Hashed) then Some kinds.Hashed
    else None))))
