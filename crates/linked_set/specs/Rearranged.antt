-- Refusals of a call that asks for memory before it has looked at everything.
use Rattle.std.specs.Prelude.{Bool, true, false, Option, Some, None}
use Rattle.container_model.specs.declared.refusal.Why.{Why}
use Rattle.container_model.specs.declared.refusal.Why.TheVariants.{Kind, Stale, Place, Order, Banned, Full, Spent, Memory, Definition, Clash}

-- whether what refuses a new order, or a new index, is seen only once memory was asked for
abbrev pub is_after_memory : Option Why → Bool
is_after_memory None = true
is_after_memory (Some Order) = true
is_after_memory (Some Spent) = true
is_after_memory (Some (Clash first second)) = true
is_after_memory (Some Definition) = false
is_after_memory (Some Kind) = false
is_after_memory (Some Stale) = false
is_after_memory (Some Place) = false
is_after_memory (Some (Banned index by)) = false
is_after_memory (Some Full) = false
is_after_memory (Some Memory) = false
