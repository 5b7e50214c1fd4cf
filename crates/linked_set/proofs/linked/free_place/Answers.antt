use Rattle.std.proofs.Common.{◌∙◌, ap, sym, Some, None}
use Rattle.std.specs.Prelude.{option_map}
use Rattle.node_store.specs.Store.{IsNodeOf}
use Rattle.index_set.specs.Set.{store_of, keys_of, specs_of, contents, record_of, lists_of}
use Rattle.index_set.proofs.Members.{nodes_held}
use Rattle.linked_set.specs.Linked.{handle_of, entries_in}
use Rattle.linked_set.proofs.Bans.{ban_known, ban_of, told_none}
use Rattle.linked_set.proofs.Reading.{known_all}
use Rattle.linked_set.proofs.linked.free_place.Goals as goal

pub returns-in-Ok-clause-free : goal.returns-in-Ok-clause-free
returns-in-Ok-clause-free g c =
    let set = c.args.set.now in
    let order = g.E.Extract.order_of (keys_of set).keys in
    ban_known order (record_of set) (entries_in (contents set)) (lists_of set) None (known_all set c.args.slots.now.items c.requires.linked) (told_none (record_of set) (lists_of set)) c.args.entry.now 0 (specs_of set)
    ∙ ap (option_map (λ at. (at.0, handle_of (record_of set) at.1))) c.in-Ok.ensures.free

pub handle_at-requires : goal.handle_at-requires
handle_at-requires g c =
    let set = c.args.set.now in
    ban_of (IsNodeOf (store_of set)) (λ index a b. g.E.Extract.order_of (keys_of set).keys index a.row b.row) (record_of set) (lists_of set) None c.args.entry.now 0 (specs_of set)
    (c.in-Err.index, c.in-Err.node) (nodes_held set c.requires.linked.sound) c.in-Err.ensures.taken

pub returns-in-Err-clause-taken : goal.returns-in-Err-clause-taken
returns-in-Err-clause-taken g c =
    let set = c.args.set.now in
    let order = g.E.Extract.order_of (keys_of set).keys in
    ban_known order (record_of set) (entries_in (contents set)) (lists_of set) None (known_all set c.args.slots.now.items c.requires.linked) (told_none (record_of set) (lists_of set)) c.args.entry.now 0 (specs_of set)
    ∙ (ap (option_map (λ at. (at.0, handle_of (record_of set) at.1))) c.in-Err.ensures.taken
    ∙ sym (ap (λ h. Some (c.in-Err.index, h)) c.handle_at.ensures))
