use Rattle.std.proofs.Common.{◌∙◌, ap}
use Rattle.std_alloc.specs.Box.{box_allocator}
use Rattle.node_store.proofs.Coming.{begins, HasBlock-added, IsSound-added, IsAdded-added}
use Rattle.node_store.proofs.shelf.Shelf.add.Goals as goal

pub at-node-requires : goal.at-node-requires
at-node-requires g c =
    begins c.self.inside.heap.held c.self.inside.alloc c.self.inside.newest c.self.inside.len c.self.inside.added c.self.invariant c.put.result.0.ptr c.args.value c.of.result (c.of.ensures ∙ c.empty.ensures) c.none.result c.none.ensures
    (box_allocator c.in-Ok.boxed) c.in-Ok.boxed.value c.in-Ok.ensures.allocator c.in-Ok.ensures.ok c.put.new.self.held c.lie_apart.new.self.held
    c.put.ensures.held c.lie_apart.ensures.apart (ap (λ b. b.held) c.lie_apart.ensures.same) c.lie_at_starts.ensures.starts

pub set_newer-requires : goal.set_newer-requires
set_newer-requires g c =
    HasBlock-added c.self.inside.heap.held c.self.inside.alloc c.self.inside.newest c.self.inside.len c.self.inside.added c.self.invariant c.put.result.0.ptr c.args.value c.of.result (c.of.ensures ∙ c.empty.ensures) c.none.result c.none.ensures
    (box_allocator c.in-Ok.boxed) c.in-Ok.boxed.value c.in-Ok.ensures.allocator c.in-Ok.ensures.ok c.put.new.self.held c.lie_apart.new.self.held
    c.put.ensures.held c.lie_apart.ensures.apart (ap (λ b. b.held) c.lie_apart.ensures.same) c.lie_at_starts.ensures.starts c.lie_at_starts.new.self.held (ap (λ b. b.held) c.lie_at_starts.ensures.same)

pub invariant_of-self : goal.invariant_of-self
invariant_of-self g c =
    IsSound-added c.self.inside.heap.held c.self.inside.alloc c.self.inside.newest c.self.inside.len c.self.inside.added c.self.invariant c.put.result.0.ptr c.args.value c.of.result (c.of.ensures ∙ c.empty.ensures) c.none.result c.none.ensures
    (box_allocator c.in-Ok.boxed) c.in-Ok.boxed.value c.in-Ok.ensures.allocator c.in-Ok.ensures.ok c.put.new.self.held c.lie_apart.new.self.held
    c.put.ensures.held c.lie_apart.ensures.apart (ap (λ b. b.held) c.lie_apart.ensures.same) c.lie_at_starts.ensures.starts c.lie_at_starts.new.self.held _
    (ap (λ b. b.held) c.lie_at_starts.ensures.same) c.at-node.result (ap (λ p. p.ptr) c.at-node.ensures) _ c.of-newest.ensures c.set_newer.ensures

pub returns-in-Ok : goal.returns-in-Ok
returns-in-Ok g c =
    let made = IsAdded-added c.self.inside.heap.held c.self.inside.alloc c.self.inside.newest c.self.inside.len c.self.inside.added c.self.invariant c.put.result.0.ptr c.args.value c.of.result (c.of.ensures ∙ c.empty.ensures) c.none.result c.none.ensures
    (box_allocator c.in-Ok.boxed) c.in-Ok.boxed.value c.in-Ok.ensures.allocator c.in-Ok.ensures.ok c.put.new.self.held c.lie_apart.new.self.held
    c.put.ensures.held c.lie_apart.ensures.apart (ap (λ b. b.held) c.lie_apart.ensures.same) c.lie_at_starts.ensures.starts c.lie_at_starts.new.self.held _
    (ap (λ b. b.held) c.lie_at_starts.ensures.same) c.at-node.result (ap (λ p. p.ptr) c.at-node.ensures) _ c.of-newest.ensures c.set_newer.ensures c.args.self.now c.self.view_is in
    record { age = made.age; count = made.count; added = made.added; len = made.len; unchanged = tt; returned = tt }
