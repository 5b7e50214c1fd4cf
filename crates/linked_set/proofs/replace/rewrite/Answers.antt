use Rattle.std.proofs.Common.{Some, sym, ap, ◌∙◌}
use Rattle.index_set.specs.Set.{store_of, keys_of, specs_of, contents, record_of, lists_of}
use Rattle.index_set.proofs.Members.{nodes_held, distinct}
use Rattle.container_model.specs.Insert.{ban_from}
use Rattle.index_set.proofs.Held.{node_of_all}
use Rattle.linked_set.specs.Linked.{handle_of, entries_in, handles_in}
use Rattle.linked_set.proofs.Bans.{ban_known}
use Rattle.linked_set.proofs.Excepted.{told_some}
use Rattle.linked_set.proofs.Joined.{none_before}
use Rattle.linked_set.proofs.Reading.{known_all}
use Rattle.linked_set.proofs.Rewritten.{same_count, entries_rewritten, apart_rewritten, leads_rewritten, lists_rewritten}
use Rattle.linked_set.proofs.replace.rewrite.Goals as goal

pub replace_node-old-requires-clause-node : goal.replace_node-old-requires-clause-node
replace_node-old-requires-clause-node g c = node_of_all c.args.set.now c.args.node c.requires.linked.sound c.requires.held

pub replace_node-old-requires-clause-allowed : goal.replace_node-old-requires-clause-allowed
replace_node-old-requires-clause-allowed g c =
    let set = c.args.set.now in
    let slots = c.args.slots.now.items in
    let linked = c.requires.linked in
    let order = g.E.Extract.order_of (keys_of set).keys in
    let is = node_of_all set c.args.node linked.sound c.requires.held in
    let told = told_some (store_of set) slots linked.leads c.args.node is (lists_of set) (nodes_held set linked.sound) in
    none_before (λ at. (at.0, handle_of (record_of set) at.1)) _
    (sym (ban_known order (record_of set) (entries_in (contents set)) (lists_of set) (Some c.args.node) (known_all set slots linked) told c.args.entry 0 (specs_of set))
    ∙ (ap (λ h. ban_from order (entries_in (contents set)) (handles_in (record_of set) (lists_of set)) (Some h) c.args.entry.row 0 (specs_of set)) c.requires.handle ∙ c.requires.allowed))

pub returns-clause-linked : goal.returns-clause-linked
returns-clause-linked g c =
    let old = c.args.set.now in
    let slots = c.args.slots.now.items in
    let linked = c.requires.linked in
    let made = c.replace_node-old.ensures in
    let is = node_of_all old c.args.node linked.sound c.requires.held in
    record {
      sound = made.kept.filed.sound;
      keyed = made.kept.filed.keyed;
      unique = made.kept.filed.unique;
      apart = apart_rewritten (store_of old) (store_of c.replace_node-old.new.set) c.args.node c.args.entry.handle c.args.entry.row slots linked.sound.nodes linked.leads linked.apart is c.requires.handle made.written.contents;
      leads = leads_rewritten (store_of old) (store_of c.replace_node-old.new.set) c.args.node c.args.entry.handle c.args.entry.row slots linked.sound.nodes linked.leads linked.apart is c.requires.handle made.written.contents;
    }

pub returns-clause-entries : goal.returns-clause-entries
returns-clause-entries g c =
    let old = c.args.set.now in
    let linked = c.requires.linked in
    let is = node_of_all old c.args.node linked.sound c.requires.held in
    entries_rewritten (store_of old) (store_of c.replace_node-old.new.set) c.args.node c.args.entry.handle c.args.entry.row c.args.slots.now.items linked.sound.nodes linked.leads linked.apart is c.requires.handle
    c.replace_node-old.ensures.written.contents

pub returns-clause-lists : goal.returns-clause-lists
returns-clause-lists g c =
    let old = c.args.set.now in
    let linked = c.requires.linked in
    let order = g.E.Extract.order_of (keys_of old).keys in
    let is = node_of_all old c.args.node linked.sound c.requires.held in
    ap (handles_in (record_of c.replace_node-old.new.set)) c.replace_node-old.ensures.written.lists
    ∙ lists_rewritten (store_of old) (store_of c.replace_node-old.new.set) c.args.node c.args.entry.handle c.args.entry.row c.args.slots.now.items linked.sound.nodes linked.leads linked.apart is c.requires.handle
    c.replace_node-old.ensures.written.contents order (specs_of old) (lists_of old) c.requires.held (distinct old linked.sound) (nodes_held old linked.sound)

pub returns-clause-count : goal.returns-clause-count
returns-clause-count g c =
    let old = c.args.set.now in
    let linked = c.requires.linked in
    let is = node_of_all old c.args.node linked.sound c.requires.held in
    same_count (store_of old) (store_of c.replace_node-old.new.set) c.args.node c.args.entry.handle c.args.entry.row c.args.slots.now.items linked.sound.nodes linked.leads linked.apart is c.requires.handle c.replace_node-old.ensures.written.contents
