use Rattle.any_index.specs.Keyed.{marks_of}
use Rattle.std.proofs.Common.{[], map, None, sym, ap, subst, ◌∙◌}
use Rattle.node_store.specs.Store.{Store, width_of}
use Rattle.node_store.specs.ByNode as node
use Rattle.node_store.proofs.ByNode.{added_kept}
use Rattle.container_model.specs.declared.handle.Entry.{Entry}
use Rattle.container_model.specs.State.{AreIndices}
use Rattle.index_set.specs.Lists.{AreUniqueFrom}
use Rattle.index_set.specs.declared.parts.Parts.{Parts}
use Rattle.index_set.specs.ByRow.{order_by_row, marks_by_row}
use Rattle.index_set.specs.Set.{store_of, keys_of, specs_of, columns_of, contents, record_of, lists_of, IsKeyed}
use Rattle.index_set.proofs.Keys.{unique_empty}
use Rattle.linked_set.specs.LeadsTo.{LeadsTo}
use Rattle.linked_set.specs.Linked.{entries_in, handles_in}
use Rattle.linked_set.specs.Restored.{AreApart, restored}
use Rattle.linked_set.specs.Seen.{seen}
use Rattle.linked_set.proofs.Contents.{entries-empty}
use Rattle.linked_set.proofs.LeadsTo.{leads-empty}
use Rattle.linked_set.proofs.Whole.{all_held}
use Rattle.linked_set.proofs.restoring.restore.Goals as goal

pub add_all-requires-clause-keyed : goal.add_all-requires-clause-keyed
add_all-requires-clause-keyed g c =
    subst (λ (p : Parts _ _). IsKeyed (order_by_row g.E.Extract.order_of) (marks_by_row (marks_of g.E.Extract)) p) (sym c.open-set.ensures) c.in-Ok.ensures.kept.filed.keyed

pub add_all-requires-clause-none : goal.add_all-requires-clause-none
add_all-requires-clause-none g c =
    ap (λ (p : Parts _ _). entries_in (contents p)) c.open-set.ensures ∙ (ap (λ (t : Store (Entry _)). entries_in (node.contents t)) c.in-Ok.ensures.empty ∙ entries-empty (width_of (store_of c.in-Ok.empty)))

pub add_all-requires-clause-leads : goal.add_all-requires-clause-leads
add_all-requires-clause-leads g c =
    subst (λ s. LeadsTo s []) (sym (ap (λ (p : Parts _ _). store_of p) c.open-set.ensures ∙ c.in-Ok.ensures.empty)) (leads-empty _ (width_of (store_of c.in-Ok.empty)))

pub returns-in-Err-clause-cause : goal.returns-in-Err-clause-cause
returns-in-Err-clause-cause g c = c.in-Err.ensures.cause (g.E.Extract.order_of c.args.keys) c.args.specs.items (map (λ order. order.items) c.args.orders.now)

pub fill_all-requires-clause-linked : goal.fill_all-requires-clause-linked
fill_all-requires-clause-linked g c =
    let set = c.add_all.new.set in
    let a = c.in-Ok-add_all.ensures in
    let made = c.in-Ok.ensures in
    let order = g.E.Extract.order_of (keys_of set).keys in
    let opened = c.open-set.ensures in
    let specs = a.same.specs ∙ (ap (λ (p : Parts _ _). specs_of p) opened ∙ made.specs) in
    let lists = a.lists ∙ (ap (λ (p : Parts _ _). lists_of p) opened ∙ (made.lists ∙ ap (map (λ _. [])) (sym specs))) in
    record {
      sound = a.sound;
      keyed = a.keyed;
      unique = subst (AreUniqueFrom (λ index a b. order index a.row b.row) (record_of set) None 0 (specs_of set)) (sym lists) (unique_empty (λ index a b. order index a.row b.row) (record_of set) 0 (specs_of set));
      apart = subst AreApart (sym a.entries) a.apart;
      leads = subst (LeadsTo (store_of set)) (sym c.in-Ok-of_items.ensures) a.leads;
    }

pub returns-in-Ok-fill_all-clause-seen : goal.returns-in-Ok-fill_all-clause-seen
returns-in-Ok-fill_all-clause-seen g c max writes =
    let a = c.in-Ok-add_all.ensures in
    let f = c.in-Ok-fill_all.ensures in
    let made = c.in-Ok.ensures in
    let opened = c.open-set.ensures in
    let keys = f.same.keys ∙ (a.same.keys ∙ (ap (λ (p : Parts _ _). keys_of p) opened ∙ made.keys)) in
    let specs = f.same.specs ∙ (a.same.specs ∙ (ap (λ (p : Parts _ _). specs_of p) opened ∙ made.specs)) in
    let most = f.same.columns ∙ (a.same.columns ∙ (ap (λ (p : Parts _ _). columns_of p) opened ∙ made.columns)) in
    let entries = ap entries_in f.contents ∙ a.entries in
    ap (λ (p : Parts _ _). seen p max writes) c.close.ensures ∙ (λ i. restored (most i) max writes (keys i).keys (specs i) (entries i) (f.lists i))

pub returns-in-Ok-fill_all-clause-count : goal.returns-in-Ok-fill_all-clause-count
returns-in-Ok-fill_all-clause-count g c =
    ap (λ (p : Parts _ _). (store_of p).added) c.close.ensures ∙ (added_kept (store_of c.add_all.new.set) (store_of c.in-Ok-fill_all.set) c.in-Ok-fill_all.ensures.contents ∙ c.in-Ok-add_all.ensures.count)

pub close-requires : goal.close-requires
close-requires g c =
    let set = c.in-Ok-fill_all.set in
    let f = c.in-Ok-fill_all.ensures in
    let listed : AreIndices (g.E.Extract.order_of (keys_of set).keys) (entries_in (contents set)) 0 (specs_of set) (handles_in (record_of set) (lists_of set)) =
    rw f.lists (rw f.same.keys (rw f.same.specs (rw f.contents f.fits))) in
    all_held set c.in-Ok-of_items.slots.items (record { linked = f.linked; listed = listed })
