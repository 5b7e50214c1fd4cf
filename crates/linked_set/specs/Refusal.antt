-- Why an index is not added, told by nodes and by handles.
use Rattle.std.specs.Prelude.{◌≡◌, ◌⊎◌, Option, Some, option_map}
use Rattle.node_store.specs.declared.Node.{Node}
use Rattle.node_store.specs.Store.{Store, IsNodeOf}
use Rattle.container_model.specs.declared.handle.Handle.{Handle}
use Rattle.container_model.specs.declared.handle.Entry.{Entry}
use Rattle.container_model.specs.declared.refusal.Why.{Why}
use Rattle.container_model.specs.declared.refusal.Why.TheVariants as cause
use Rattle.index_set.specs.declared.build.NoIndex.{NoIndex}
use Rattle.index_set.specs.declared.build.NoIndex.TheVariants.{Columns, Clash, Memory}
use Rattle.linked_set.specs.Linked.{handle_of}

-- the nodes that it names are of the store
abbrev pub HasItsNodes : {R : Type 0} → Store R → NoIndex → Type 0
HasItsNodes s Columns = Unit {0}
HasItsNodes s (Clash first second) = IsNodeOf s first × IsNodeOf s second
HasItsNodes s Memory = Unit {0}

-- the same by the handles of the nodes
abbrev pub by_handles : {R : Type 0} → (Node → Option (Entry R)) → NoIndex → Why
by_handles records Columns = cause.Definition
by_handles records (Clash first second) = cause.Clash (handle_of records first) (handle_of records second)
by_handles records Memory = cause.Memory

-- memory is refused, or these two records have one key
abbrev pub IsRefusal : Option (Handle × Handle) → Why → Type 0
IsRefusal clash why = (why ≡ cause.Memory) ⊎ (Some why ≡ option_map (λ pair. cause.Clash pair.0 pair.1) clash)
