use Rattle.node_store.specs.ByNode.{columns_in}
use Rattle.any_index.specs.Keyed.{marks_of}
use Rattle.std.proofs.Common.{◌≡◌, ◌<◌, ◌==◌, false, length, ap, ◌∙◌, subst, arith}
use Rattle.std.specs.List.{list_any}
use Rattle.any_index.specs.Spelled.{col_of}
use Rattle.index_set.specs.Indices.{lists_in}
use Rattle.index_set.proofs.Joining.{unused, new_key, new_unique, next_of, placed_beside, lists_beside, keyed_beside}
use Rattle.index_set.proofs.Stores.{IsStore_kept, columns_kept}
use Rattle.index_set.proofs.parts.Parts.made_index.Goals as goal

pub build-requires-clause-key : goal.build-requires-clause-key
build-requires-clause-key g c has =
    new_key (g.E.Extract.has_key c.args.keys.now) c.args.self.now.specs.items c.args.spec c.len-index.result (c.len-index.ensures ∙ c.reserve_index.new.self.specs.ok.0 ∙ ap length c.in-Ok.ensures.same.specs) c.requires.can.keys ∙ has

pub build-requires-clause-unique : goal.build-requires-clause-unique
build-requires-clause-unique g c = new_unique (g.E.Extract.has_key c.args.keys.now) c.args.self.now.specs.items c.args.spec c.requires.can.keys

pub returns-clause-sound : goal.returns-clause-sound
returns-clause-sound g c =
    let t = c.reserve_index.new.self in
    let old = c.in-Ok.ensures.sound in
    let free = subst (λ xs. list_any (λ i. col_of i == c.free_column-column.result) xs ≡ false) c.deref.ensures.value c.free_column-column.ensures.free in
    record {
      some = old.some;
      few = old.few;
      keys = old.keys;
      placed = placed_beside t.store c.build.new.store t.specs.items t.indices.items c.free_column-column.result old.placed (λ j d lt. unused t.indices.items c.free_column-column.result free j d (omega (arith, lt, old.placed.one_each))) c.build.ensures.others c.build.ensures.contents;
      nodes = IsStore_kept t.store c.build.new.store c.build.ensures.contents old.nodes;
      columns = old.columns;
      most = old.most;
      within = old.within;
      wide = columns_kept t.store c.build.new.store c.build.ensures.contents old.wide;
    }

pub returns-clause-lists : goal.returns-clause-lists
returns-clause-lists g c =
    let t = c.reserve_index.new.self in
    let r = c.in-Ok.ensures in
    let free = subst (λ xs. list_any (λ i. col_of i == c.free_column-column.result) xs ≡ false) c.deref.ensures.value c.free_column-column.ensures.free in
    lists_beside t.store c.build.new.store t.specs.items t.indices.items c.free_column-column.result r.sound.placed (λ j d lt. unused t.indices.items c.free_column-column.result free j d (omega (arith, lt, r.sound.placed.one_each))) c.build.ensures.others c.build.ensures.contents
    ∙ (λ i. lists_in (columns_in (r.store i)) (r.indices i))

pub returns-clause-keyed : goal.returns-clause-keyed
returns-clause-keyed g c =
    let t = c.reserve_index.new.self in
    let r = c.in-Ok.ensures in
    let free = subst (λ xs. list_any (λ i. col_of i == c.free_column-column.result) xs ≡ false) c.deref.ensures.value c.free_column-column.ensures.free in
    keyed_beside t.store c.build.new.store t.specs.items t.indices.items c.free_column-column.result r.sound.placed (λ j d lt. unused t.indices.items c.free_column-column.result free j d (omega (arith, lt, r.sound.placed.one_each))) c.build.ensures.others
    c.build.ensures.contents (g.E.Extract.order_of t.keys) (marks_of g.E.Extract t.keys) (r.keyed c.requires.filed.keyed)

pub returns-clause-next : goal.returns-clause-next
returns-clause-next g c =
    let t = c.reserve_index.new.self in
    let r = c.in-Ok.ensures in
    let counted = c.len-index.ensures ∙ t.specs.ok.0 in
    let free = subst (λ xs. list_any (λ i. col_of i == c.free_column-column.result) xs ≡ false) c.deref.ensures.value c.free_column-column.ensures.free in
    let few = ap length r.same.specs in
    let within : c.free_column-column.result < t.columns =
    omega (arith, c.free_column-column.ensures.within, c.deref.ensures.len, t.indices.ok.0, t.specs.ok.0, r.sound.placed.one_each, few, r.same.columns, c.len.ensures, c.args.self.now.specs.ok.0, c.if-len-self.false, c.requires.filed.sound.columns) in
    next_of g.E.Extract c.args.self.now (record t { store = c.build.new.store }) c.args.spec c.args.keys.now c.args.nodes.now t.store c.len-index.result c.free_column-column.result
    r.store (counted ∙ ap length r.same.specs) counted c.build.result c.build.ensures.placed c.build.ensures.column within
    (λ j d lt. unused t.indices.items c.free_column-column.result free j d (omega (arith, lt, r.sound.placed.one_each))) c.build.ensures.list c.build.ensures.keyed c.build.ensures.unique
