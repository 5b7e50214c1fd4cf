use Rattle.std.proofs.Common.{◌∙◌, ap, sym, Some}
use Rattle.std.specs.Prelude.{option_map}
use Rattle.node_store.specs.Store.{IsNodeOf}
use Rattle.index_set.specs.Set.{store_of, keys_of, specs_of, contents, record_of, lists_of}
use Rattle.index_set.proofs.Members.{nodes_held}
use Rattle.index_set.proofs.Held.{node_of_all}
use Rattle.linked_set.specs.Linked.{handle_of, entries_in}
use Rattle.linked_set.proofs.Bans.{ban_known, ban_of}
use Rattle.linked_set.proofs.Excepted.{told_some}
use Rattle.linked_set.proofs.Reading.{known_all}
use Rattle.linked_set.proofs.linked.replacement_ban.Goals as goal

pub bans-requires : goal.bans-requires
bans-requires g c = node_of_all c.args.set.now c.args.node c.requires.linked.sound c.requires.held

pub returns-in_err-index : goal.returns-in_err-index
returns-in_err-index g c =
    let set = c.args.set.now in
    let order = g.E.Extract.order_of (keys_of set).keys in
    let told = told_some (store_of set) c.args.slots.now.items c.requires.linked.leads c.args.node (node_of_all set c.args.node c.requires.linked.sound c.requires.held) (lists_of set) (nodes_held set c.requires.linked.sound) in
    c.from_residual.ensures
    ∙ (ap (option_map (λ at. (at.0, handle_of (record_of set) at.1))) c.in_err-index.ensures
    ∙ sym (ban_known order (record_of set) (entries_in (contents set)) (lists_of set) (Some c.args.node) (known_all set c.args.slots.now.items c.requires.linked) told c.args.entry.now 0 (specs_of set)))

pub handle_at-requires : goal.handle_at-requires
handle_at-requires g c =
    let set = c.args.set.now in
    ban_of (IsNodeOf (store_of set)) (λ index a b. g.E.Extract.order_of (keys_of set).keys index a.row b.row) (record_of set) (lists_of set) (Some c.args.node) c.args.entry.now 0 (specs_of set)
    (c.in_ok-index.index, c.in_ok-index.by) (nodes_held set c.requires.linked.sound) (sym c.in_ok-index.ensures)

pub returns : goal.returns
returns g c =
    let set = c.args.set.now in
    let order = g.E.Extract.order_of (keys_of set).keys in
    let told = told_some (store_of set) c.args.slots.now.items c.requires.linked.leads c.args.node (node_of_all set c.args.node c.requires.linked.sound c.requires.held) (lists_of set) (nodes_held set c.requires.linked.sound) in
    ap (λ h. Some (c.in_ok-index.index, h)) c.handle_at.ensures
    ∙ (ap (option_map (λ at. (at.0, handle_of (record_of set) at.1))) c.in_ok-index.ensures
    ∙ sym (ban_known order (record_of set) (entries_in (contents set)) (lists_of set) (Some c.args.node) (known_all set c.args.slots.now.items c.requires.linked) told c.args.entry.now 0 (specs_of set)))
