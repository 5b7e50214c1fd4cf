-- How the logic stores the parts of a set.
use Rattle.std.specs.Prelude.{refl}
use Rattle.std.specs.Coded.{Coded, code_by, coded×, coded_ℕ}
use Rattle.std.specs.contracts.alloc.Global as heap
use Rattle.std.specs.contracts.impls.GlobalAllocator.TheImpl.{ghosts}
use Rattle.std.specs.contracts.vec.Vec as vec
use Rattle.container_model.specs.contracts.handle.Spec as spec
use Rattle.any_index.specs.contracts.index.AnyIndex as any
use Rattle.node_store.specs.Store.{store_code}
use Rattle.index_set.specs.declared.parts.Parts.{Parts}

abbrev pub parts_code : {R E : Type 0} → Coded R → Coded E → Coded (Parts R E)
parts_code {R} {E} r e =
    code_by _
    (coded× heap.the_row.coded (coded× (store_code r) (coded× coded_ℕ (coded× e (coded× (vec.the_row spec.the_row heap.the_row ghosts).coded (vec.the_row any.the_row heap.the_row ghosts).coded)))))
    (λ p. (p.alloc, (p.store, (p.columns, (p.keys, (p.specs, p.indices))))))
    (λ t. record { alloc = t.0; store = t.1.0; columns = t.1.1.0; keys = t.1.1.1.0; specs = t.1.1.1.1.0; indices = t.1.1.1.1.1 })
    (λ _. refl)
