-- The operations of commands: their names, and the keys of their objects.
use Rattle.std.specs.Prelude.{ℕ, List, [], ◌∷◌, if◌then◌else◌, Option, Some, None, codes, bytes_eq}
use Rattle.command_lines.specs.declared.op.Op.{Op}
use Rattle.command_lines.specs.declared.op.Op.TheVariants as ops
use Rattle.command_lines.specs.declared.op.TableOp.TheVariants.{Clear, Size}
use Rattle.command_lines.specs.declared.op.IndexOp.TheVariants.{Reverse, DropIndex, List as Listing}
use Rattle.command_lines.specs.declared.op.KeyOp.TheVariants.{EraseKey, Find, Count, Lower, Upper, FindRank, LowerRank, UpperRank}
use Rattle.command_lines.specs.declared.op.PositionOp.TheVariants.{Rank, Next, Prev}

-- each operation under its name
abbrev pub op_names : List (List ℕ × Op)
op_names =
    (codes "insert", ops.Insert)
    ∷ (codes "find", ops.OnKey Find)
    ∷ (codes "size", ops.OnTable Size)
    ∷ (codes "get", ops.Get)
    ∷ (codes "erase", ops.Erase)
    ∷ (codes "modify", ops.Modify)
    ∷ (codes "count", ops.OnKey Count)
    ∷ (codes "replace", ops.Replace)
    ∷ (codes "modify_key", ops.ModifyKey)
    ∷ (codes "erase_key", ops.OnKey EraseKey)
    ∷ (codes "clear", ops.OnTable Clear)
    ∷ (codes "move", ops.Move)
    ∷ (codes "rearrange", ops.Rearrange)
    ∷ (codes "reverse", ops.OnIndex Reverse)
    ∷ (codes "sort", ops.Sort)
    ∷ (codes "lower", ops.OnKey Lower)
    ∷ (codes "upper", ops.OnKey Upper)
    ∷ (codes "range", ops.Range)
    ∷ (codes "nth", ops.Nth)
    ∷ (codes "rank", ops.OnPosition Rank)
    ∷ (codes "place", ops.Place)
    ∷ (codes "find_rank", ops.OnKey FindRank)
    ∷ (codes "lower_rank", ops.OnKey LowerRank)
    ∷ (codes "upper_rank", ops.OnKey UpperRank)
    ∷ (codes "next", ops.OnPosition Next)
    ∷ (codes "prev", ops.OnPosition Prev)
    ∷ (codes "list", ops.OnIndex Listing)
    ∷ (codes "add_index", ops.AddIndex)
    ∷ (codes "drop_index", ops.OnIndex DropIndex)
    ∷ []

-- what stands under a name in a list
abbrev pub under : {X : Type 0} → List ℕ → List (List ℕ × X) → Option X
under name [] = None
under name (p ∷ ps) = if bytes_eq p.0 name then Some p.1 else under name ps

-- the operation of a name
unfoldable pub op_of : List ℕ → Option Op
op_of name = under name op_names

-- the keys that an operation's object may have
abbrev pub keys_of : Op → List (List ℕ)
keys_of ops.Insert = codes "op" ∷ codes "t" ∷ codes "r" ∷ codes "i" ∷ codes "p" ∷ []
keys_of ops.Replace = codes "op" ∷ codes "t" ∷ codes "h" ∷ codes "r" ∷ []
keys_of ops.Modify = codes "op" ∷ codes "t" ∷ codes "h" ∷ codes "set" ∷ codes "add" ∷ codes "rollback" ∷ []
keys_of ops.ModifyKey = codes "op" ∷ codes "t" ∷ codes "i" ∷ codes "h" ∷ codes "k" ∷ codes "rollback" ∷ []
keys_of ops.Erase = codes "op" ∷ codes "t" ∷ codes "h" ∷ codes "i" ∷ []
keys_of ops.Move = codes "op" ∷ codes "t" ∷ codes "i" ∷ codes "h" ∷ codes "p" ∷ []
keys_of ops.Rearrange = codes "op" ∷ codes "t" ∷ codes "i" ∷ codes "hs" ∷ []
keys_of ops.Sort = codes "op" ∷ codes "t" ∷ codes "i" ∷ codes "by" ∷ []
keys_of ops.AddIndex = codes "op" ∷ codes "t" ∷ codes "i" ∷ codes "kind" ∷ codes "unique" ∷ codes "key" ∷ []
keys_of ops.Get = codes "op" ∷ codes "t" ∷ codes "h" ∷ []
keys_of ops.Nth = codes "op" ∷ codes "t" ∷ codes "i" ∷ codes "n" ∷ []
keys_of ops.Place = codes "op" ∷ codes "t" ∷ codes "i" ∷ codes "h" ∷ []
keys_of ops.Range = codes "op" ∷ codes "t" ∷ codes "i" ∷ codes "ge" ∷ codes "gt" ∷ codes "le" ∷ codes "lt" ∷ []
keys_of (ops.OnTable op) = codes "op" ∷ codes "t" ∷ []
keys_of (ops.OnIndex op) = codes "op" ∷ codes "t" ∷ codes "i" ∷ []
keys_of (ops.OnKey op) = codes "op" ∷ codes "t" ∷ codes "i" ∷ codes "k" ∷ []
keys_of (ops.OnPosition op) = codes "op" ∷ codes "t" ∷ codes "i" ∷ codes "h" ∷ []
