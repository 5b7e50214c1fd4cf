-- What holds of a value, where there is one.
use Rattle.std.proofs.Common.{◌≡◌, Option, Some, None, Ok, option_map, option_and_then, IfSome, ap}
use Rattle.std.specs.Prelude.{⊤}
use Rattle.command_lines.specs.Parts.{or_fault}

pub then_some : {X Y : Type 0} (P : X → Type 0) (Q : Y → Type 0) (f : X → Option Y) (o : Option X) → IfSome o P → ((x : X) → P x → IfSome (f x) Q) → IfSome (option_and_then f o) Q
then_some P Q f None h next = tt
then_some P Q f (Some x) h next = next x h

pub map_some : {X Y : Type 0} (P : X → Type 0) (Q : Y → Type 0) (f : X → Y) (o : Option X) → IfSome o P → ((x : X) → P x → Q (f x)) → IfSome (option_map f o) Q
map_some P Q f None h next = tt
map_some P Q f (Some x) h next = next x h

pub any_some : {X : Type 0} (o : Option X) → IfSome o (λ _. ⊤)
any_some None = tt
any_some (Some x) = tt

-- what was not refused is there
pub given : {X : Type 0} (o : Option X) (x : X) → or_fault o ≡ Ok x → o ≡ Some x
given None x h = cc
given (Some y) x h = let same : y ≡ x = cc in ap (λ z. Some z) same
