use Rattle.std.proofs.Common.{◌≡◌, ◌+◌, ◌<◌, ◌++◌, ◌∷◌, [], Some, length, map, get_or, take, drop, sym, ap, ap₂, subst, ◌∙◌, arith}
use Rattle.std.specs.Prelude.{slice_get}
use Rattle.std.specs.List.{range_with_len}
use Rattle.std.specs.Option.{option_map_or}
use Rattle.std.proofs.lemmas.List.{length-map, length_push, map-append}
use Rattle.std.proofs.lemmas.Result.{err_from_is_err_and}
use Rattle.command_lines.specs.Fits.{CommandFits}
use Rattle.container_model.specs.State.{list_at}
use Rattle.list_model.proofs.Lists.{slice_get_at}
use Rattle.table_state.specs.Reading.{left_of}
use Rattle.table_state.specs.State.{line_of, lines_text, order_at, order_command, order_commands}
use Rattle.table_state.proofs.Fronts.{begins_all, one_more}
use Rattle.table_state.proofs.NextOrder.{order_front}
use Rattle.table_state.proofs.Orders.{last_list, orders_more}
use Rattle.table_state.proofs.ReadingOn.{reads_then}
use Rattle.table_state.proofs.Taking.{takes_then}
use Rattle.table_state.proofs.read.read_orders.Goals as goal

pub loop-index-preserved : goal.loop-index-preserved
loop-index-preserved g c =
    let old = c.loop-index.invariant in
    let spec = c.args.spec.now in
    let i = c.loop-index.index-index in
    let item = c.index-item.result in
    let order = c.in_ok-read_order.field-0 in
    let lists = map (λ order. order.items) c.loop-index.orders.items in
    let count : length lists ≡ i = length-map c.loop-index.orders.items (λ order. order.items) ∙ old.count in
    let same : c.indices-indices.result.now ≡ spec.indices = c.indices-indices.ensures.value in
    let lt : i < length spec.indices = subst (λ xs. i < length xs) same c.loop-index-test.true in
    let here : item ≡ get_or spec.indices i item = c.index-item.is ∙ ap (λ xs. get_or xs i item) same in
    let found : slice_get spec.indices i ≡ Some item = slice_get_at spec.indices i item lt ∙ ap Some (sym here) in
    let named : c.as_str.result.now ≡ option_map_or (λ i. i.name) (slice_get spec.indices i) [] = c.as_str.ensures ∙ sym (ap (λ o. option_map_or (λ i. i.name) o []) found) in
    let line : order_command spec c.as_str.result.now order.items ≡ order_at spec (lists ++ order.items ∷ []) i =
    ap₂ (λ n hs. order_command spec n hs) named (sym (last_list spec lists order.items i count)) in
    let pushed : map (λ order. order.items) c.push.new.self.items ≡ lists ++ order.items ∷ [] =
    ap (map (λ order. order.items)) c.in_ok-push.ensures.items ∙ map-append (λ order. order.items) c.loop-index.orders.items (order ∷ []) in
    let is = ap (λ x. lines_text (map (order_at spec lists) (range_with_len 0 i)) ++ line_of x) line ∙ sym (orders_more spec lists order.items i count)
    ∙ ap (λ ls. lines_text (map (order_at spec ls) (range_with_len 0 (i + 1)))) (sym pushed) in
    record {
      takes = takes_then (g.D.Disk.contents c.args.disk.now) (g.D.Disk.contents c.loop-index.disk) old.reads.contents c.args.source.now c.loop-index.source c.read_order.new.source
          (lines_text (map (order_at spec lists) (range_with_len 0 i))) (line_of (order_command spec c.as_str.result.now order.items))
          (lines_text (map (order_at spec (map (λ order. order.items) c.push.new.self.items)) (range_with_len 0 (i + 1)))) is old.takes c.in_ok-read_order.ensures.takes;
      begins = λ xs bytes rest known fits front.
          let so = old.begins xs bytes rest known fits front in
          let as_many : take (length lists) xs ≡ take i xs = ap (λ n. take n xs) count in
          let next = order_front spec (g.D.Disk.contents c.args.disk.now) c.args.source.now c.loop-index.source lists xs i old.takes (so ∙ as_many) lt bytes rest known front in
          let same_line : order_at spec xs i ≡ order_command spec c.as_str.result.now (list_at xs i) = ap (λ n. order_command spec n (list_at xs i)) (sym named) in
          let is : order.items ≡ list_at xs i =
          c.in_ok-read_order.ensures.finds (list_at xs i) bytes _ (old.reads.contents ∙ known) (subst CommandFits same_line (fits.each i lt)) (subst (λ l. left_of bytes c.loop-index.source ≡ line_of l ++ (lines_text (drop (i + 1) (order_commands spec xs)) ++ rest)) same_line next) in
          let at : order.items ≡ get_or xs (length lists) [] = is ∙ ap (list_at xs) (sym count) in
          let below : length lists < length xs = omega (arith, lt, count, fits.count) in
          subst (λ ys. ys ≡ take (length ys) xs) (sym pushed) (one_more xs lists order.items [] below so at);
      count = ap length c.in_ok-push.ensures.items ∙ length_push c.loop-index.orders.items order ∙ ap (λ n. n + 1) old.count;
      reads = reads_then old.reads c.in_ok-read_order.ensures.reads;
    }

pub returns-clause-takes : goal.returns-clause-takes
returns-clause-takes g c =
    let spec = c.args.spec.now in
    let lists = map (λ order. order.items) c.loop-index.orders.items in
    let all : c.loop-index.index-index ≡ length spec.indices = omega (arith, ap length c.indices-indices.ensures.value) in
    λ bytes known. c.loop-index.invariant.takes bytes known
    ∙ ap (λ n. lines_text (map (order_at spec lists) (range_with_len 0 n)) ++ left_of bytes c.loop-index.source) all

pub returns-clause-finds : goal.returns-clause-finds
returns-clause-finds g c = λ xs bytes rest known fits front.
    let lists = map (λ order. order.items) c.loop-index.orders.items in
    let count = length-map c.loop-index.orders.items (λ order. order.items) ∙ c.loop-index.invariant.count in
    let all : c.loop-index.index-index ≡ length c.args.spec.now.indices = omega (arith, ap length c.indices-indices.ensures.value) in
    begins_all xs lists (c.loop-index.invariant.begins xs bytes rest known fits front) (omega (arith, count, all, fits.count))

pub returns-in_err-read_order-clause-finds : goal.returns-in_err-read_order-clause-finds
returns-in_err-read_order-clause-finds g c = λ xs bytes rest known fits front.
    let old = c.loop-index.invariant in
    let spec = c.args.spec.now in
    let i = c.loop-index.index-index in
    let item = c.index-item.result in
    let lists = map (λ order. order.items) c.loop-index.orders.items in
    let count : length lists ≡ i = length-map c.loop-index.orders.items (λ order. order.items) ∙ old.count in
    let same : c.indices-indices.result.now ≡ spec.indices = c.indices-indices.ensures.value in
    let lt : i < length spec.indices = subst (λ xs. i < length xs) same c.loop-index-test.true in
    let here : item ≡ get_or spec.indices i item = c.index-item.is ∙ ap (λ xs. get_or xs i item) same in
    let found : slice_get spec.indices i ≡ Some item = slice_get_at spec.indices i item lt ∙ ap Some (sym here) in
    let named : c.as_str.result.now ≡ option_map_or (λ i. i.name) (slice_get spec.indices i) [] = c.as_str.ensures ∙ sym (ap (λ o. option_map_or (λ i. i.name) o []) found) in
    let so = old.begins xs bytes rest known fits front ∙ ap (λ n. take n xs) count in
    let next = order_front spec (g.D.Disk.contents c.args.disk.now) c.args.source.now c.loop-index.source lists xs i old.takes so lt bytes rest known front in
    let same_line : order_at spec xs i ≡ order_command spec c.as_str.result.now (list_at xs i) = ap (λ n. order_command spec n (list_at xs i)) (sym named) in
    let p = err_from_is_err_and c.from_residual-in_err-read_order.result c.from_residual-in_err-read_order.ensures.1 in rw (p.1, p.2)
    (c.in_err-read_order.ensures.finds (list_at xs i) bytes _ (old.reads.contents ∙ known) (subst CommandFits same_line (fits.each i lt)) (subst (λ l. left_of bytes c.loop-index.source ≡ line_of l ++ (lines_text (drop (i + 1) (order_commands spec xs)) ++ rest)) same_line next))
