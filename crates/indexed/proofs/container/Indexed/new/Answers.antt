use Rattle.std.proofs.Common.{length, subst, sym}
use Rattle.field_keys.specs.Indices.{declared_keys}
use Rattle.multi_index.specs.Asked.{IsDeclared}
use Rattle.indexed.specs.Orders.{has_key}
use Rattle.indexed.proofs.Valid.{is_declared}
use Rattle.indexed.proofs.container.Indexed.new.Goals as goal

pub with_most-requires : goal.with_most-requires
with_most-requires g c =
    let indices = c.args.indices.now in
    subst (λ keys. IsDeclared (length indices) (has_key keys) c.in_ok-specs.specs.items) (sym c.declared-keys.ensures)
    (subst (IsDeclared (length indices) (has_key (declared_keys indices))) (sym c.in_ok-specs.ensures) (is_declared indices c.requires.valid))
