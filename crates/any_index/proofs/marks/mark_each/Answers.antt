use Rattle.std.proofs.Common.{◌≡◌, false, [], refl, sym, ap, subst, ◌∙◌}
use Rattle.node_store.specs.Nodes.{Holds}
use Rattle.node_store.specs.ByNode.{column_of, columns_in, same_node}
use Rattle.node_store.proofs.ByNode.{IsNodeOf_kept}
use Rattle.list_model.specs.Walk.{next}
use Rattle.row_index.specs.Spelled as rows
use Rattle.row_index.proofs.Closing.{sound_marks, row_same}
use Rattle.row_index.proofs.Lowest.{low_sound, low_goes_on}
use Rattle.any_index.proofs.Laws.{node_held}
use Rattle.any_index.specs.Marks.{walk_of, matches_in, is_marked}
use Rattle.any_index.specs.Stored.{side_in}
use Rattle.any_index.specs.Spelled.{list_of}
use Rattle.any_index.proofs.Marking.{held_passes, matches_distinct, match_listed, matches_kept, find_kept, walk_at, walked_on, fewer_left, walk_moved, all_marked}
use Rattle.any_index.proofs.marks.mark_each.Goals as goal

pub loop-at-init : goal.loop-at-init
loop-at-init g c =
    let row = c.args.row.now in
    let columns = column_of c.args.store.now in
    let clean = sound_marks columns row 18446744073709551615 c.requires.row in
    record {
      walked = record {
        done = [];
        rest = matches_in g.E.Extract c.args.by.now c.args.store.now c.args.keys.now c.args.probe.now;
        is = refl;
        at_is = c.first_match-at.ensures;
        marked = tt;
        unmarked = λ m held lacks. held_passes (λ n. is_marked (columns (rows.col_of row)) n ≡ false) (rows.spelled columns row) m clean.1 held;
      };
      marks = clean.0;
      low = low_sound columns row c.requires.row;
      others = λ j ne. refl;
      contents = refl;
    }

pub mark-low-requires-clause-node : goal.mark-low-requires-clause-node
mark-low-requires-clause-node g c =
    let distinct = matches_distinct g.E.Extract c.args.by.now c.args.store.now c.args.keys.now c.args.probe.now c.requires.find.sound in
    let at = walk_at _ _ _ _ c.in-Some.n c.loop-at.invariant.walked c.in-Some.is distinct in
    IsNodeOf_kept c.args.store.now c.loop-at.store c.in-Some.n c.loop-at.invariant.contents
    (node_held c.args.store.now c.args.by.now c.in-Some.n c.requires.find.sound (match_listed g.E.Extract c.args.by.now c.args.store.now c.args.keys.now c.args.probe.now c.in-Some.n at))

pub next_match-at-requires-clause-find : goal.next_match-at-requires-clause-find
next_match-at-requires-clause-find g c =
    find_kept g.E.Extract c.args.by.now c.args.store.now c.mark-low.new.store c.args.keys.now c.args.probe.now
    (c.mark-low.ensures.others _ c.requires.apart ∙ c.loop-at.invariant.others _ c.requires.apart) (c.mark-low.ensures.contents ∙ c.loop-at.invariant.contents) c.requires.find

pub next_match-at-requires-clause-held : goal.next_match-at-requires-clause-held
next_match-at-requires-clause-held g c =
    let distinct = matches_distinct g.E.Extract c.args.by.now c.args.store.now c.args.keys.now c.args.probe.now c.requires.find.sound in
    let same = matches_kept g.E.Extract c.args.by.now c.args.store.now c.mark-low.new.store c.args.keys.now c.args.probe.now
    (c.mark-low.ensures.others _ c.requires.apart ∙ c.loop-at.invariant.others _ c.requires.apart) (c.mark-low.ensures.contents ∙ c.loop-at.invariant.contents) in
    subst (λ l. Holds l c.in-Some.n) (sym same) (walk_at _ _ _ _ c.in-Some.n c.loop-at.invariant.walked c.in-Some.is distinct)

pub loop-at-smaller : goal.loop-at-smaller
loop-at-smaller g c =
    let distinct = matches_distinct g.E.Extract c.args.by.now c.args.store.now c.args.keys.now c.args.probe.now c.requires.find.sound in
    let same = matches_kept g.E.Extract c.args.by.now c.args.store.now c.mark-low.new.store c.args.keys.now c.args.probe.now
    (c.mark-low.ensures.others _ c.requires.apart ∙ c.loop-at.invariant.others _ c.requires.apart) (c.mark-low.ensures.contents ∙ c.loop-at.invariant.contents) in
    fewer_left _ _ _ _ c.in-Some.n c.loop-at.invariant.walked c.in-Some.is distinct c.next_match-at.result (c.next_match-at.ensures ∙ ap (next (same_node c.in-Some.n)) same)

pub loop-at-preserved : goal.loop-at-preserved
loop-at-preserved g c =
    let first = column_of c.args.store.now in
    let distinct = matches_distinct g.E.Extract c.args.by.now c.args.store.now c.args.keys.now c.args.probe.now c.requires.find.sound in
    let same = matches_kept g.E.Extract c.args.by.now c.args.store.now c.mark-low.new.store c.args.keys.now c.args.probe.now
    (c.mark-low.ensures.others _ c.requires.apart ∙ c.loop-at.invariant.others _ c.requires.apart) (c.mark-low.ensures.contents ∙ c.loop-at.invariant.contents) in
    record {
      walked = walked_on _ _ _ _ c.in-Some.n c.loop-at.invariant.walked c.in-Some.is distinct c.next_match-at.result (c.next_match-at.ensures ∙ ap (next (same_node c.in-Some.n)) same)
          (column_of c.mark-low.new.store (rows.col_of c.args.row.now)) (λ held. c.mark-low.ensures.marked (row_same first (column_of c.loop-at.store) c.args.row.now c.in-Some.n held)) c.mark-low.ensures.unmarked;
      marks = c.mark-low.ensures.marks;
      low = low_goes_on first (column_of c.loop-at.store) (column_of c.mark-low.new.store) c.args.row.now c.in-Some.n c.loop-at.low c.mark-low.result c.loop-at.invariant.low c.mark-low.ensures.low c.mark-low.ensures.marked c.mark-low.ensures.unmarked;
      others = λ j ne. c.mark-low.ensures.others j ne ∙ c.loop-at.invariant.others j ne;
      contents = c.mark-low.ensures.contents ∙ c.loop-at.invariant.contents;
    }

pub returns-clause-marked : goal.returns-clause-marked
returns-clause-marked g c = λ n held.
    let columns = columns_in c.args.store.now in
    all_marked (side_in g.E.Extract c.args.by.now c.args.store.now c.args.keys.now c.args.probe.now) (walk_of columns c.args.by.now) _ _ _ c.loop-at.invariant.walked c.in_default.is (list_of columns c.args.by.now) (walk_moved columns c.args.by.now) n held
