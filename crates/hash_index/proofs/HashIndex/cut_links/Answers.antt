use Rattle.std.proofs.Common.{◌∙◌, ◌*◌, ◌%◌, not, length, ap, sym, refl, subst, arith}
use Rattle.node_store.specs.ByNode.{column_of}
use Rattle.node_store.specs.Nodes.{Lacks}
use Rattle.seq_index.proofs.Runs.{Lacks-first}
use Rattle.hash_index.specs.Spelled.{col_of}
use Rattle.hash_index.specs.Split.{Builds, goes, left, taken}
use Rattle.hash_index.specs.Walks.{rest_of}
use Rattle.hash_index.proofs.Untagged.{tag_is, leads_there, leads_elsewhere}
use Rattle.hash_index.proofs.Matching.{rest_none}
use Rattle.hash_index.proofs.Cutting.{builds_aged, rising_still, first_node, Lacks_filter, builds_links, rising_apart, last_node, halves_start, halves_flip, halves_step, halves_done, done_is, never_both, either_both, ready}
use Rattle.node_store.specs.Store.{age_of}
use Rattle.hash_index.proofs.HashIndex.cut_links.Goals as goal

pub loop-at-init : goal.loop-at-init
loop-at-init g c = record {
  ends = c.requires.ends;
  halves = halves_start _ _ _ _ c.new-moved.result c.new-stay.result (c.new-moved.ensures _ _) (c.new-stay.ensures _ _);
  others = λ j ne. refl;
  contents = refl;
}

pub append-requires-clause-last : goal.append-requires-clause-last
append-requires-clause-last g c = last_node _ c.loop-at.moved _ c.loop-at.invariant.halves.one_is

pub append-requires-else-remainder-len-clause-last : goal.append-requires-else-remainder-len-clause-last
append-requires-else-remainder-len-clause-last g c = last_node _ c.loop-at.stay _ c.loop-at.invariant.halves.other_is

pub loop-at-smaller-then-remainder-len : goal.loop-at-smaller-then-remainder-len
loop-at-smaller-then-remainder-len g c =
    let r = ready (column_of c.args.store.now) c.args.self.now _ _ _ _ c.loop-at.at c.in-Some.n c.link-link.result _ _ c.requires.distinct c.loop-at.invariant.ends c.in-Some.is c.link-link.ensures c.loop-at.invariant.halves in
    omega (arith, ap length r.rest)

pub loop-at-smaller : goal.loop-at-smaller
loop-at-smaller g c =
    let r = ready (column_of c.args.store.now) c.args.self.now _ _ _ _ c.loop-at.at c.in-Some.n c.link-link.result _ _ c.requires.distinct c.loop-at.invariant.ends c.in-Some.is c.link-link.ensures c.loop-at.invariant.halves in
    omega (arith, ap length r.rest)

pub loop-at-preserved-then-remainder-len : goal.loop-at-preserved-then-remainder-len
loop-at-preserved-then-remainder-len g c =
    let i = c.args.self.now in
    let old = column_of c.args.store.now (col_of c.args.self.now) in
    let r = ready (column_of c.args.store.now) c.args.self.now _ _ _ _ c.loop-at.at c.in-Some.n c.link-link.result _ _ c.requires.distinct c.loop-at.invariant.ends c.in-Some.is c.link-link.ensures c.loop-at.invariant.halves in
    let passes = leads_there old (λ hash. hash % (i.level * 2)) i.chains.len c.in-Some.n c.link-link.result.tag (tag_is old c.in-Some.n c.link-link.result r.is) (sym c.remainder.ensures ∙ (c.if-remainder-len.true ∙ c.len.ensures)) in
    record {
      ends = r.ends;
      halves = halves_step old _ _ (goes old i) (λ n. not (goes old i n)) (never_both (goes old i)) _ c.in-Some.n _ c.loop-at.moved c.append.new.self c.loop-at.stay c.requires.distinct r.halves passes (ap not passes)
          (builds_aged c.args.store.now c.loop-at.store _ _ _ _ _ c.loop-at.invariant.contents c.append.ensures.builds) c.append.ensures.tags c.append.ensures.same c.append.ensures.nodes;
      others = λ j ne. c.append.ensures.others j ne ∙ c.loop-at.invariant.others j ne;
      contents = c.append.ensures.contents ∙ c.loop-at.invariant.contents;
    }

pub loop-at-preserved : goal.loop-at-preserved
loop-at-preserved g c =
    let i = c.args.self.now in
    let old = column_of c.args.store.now (col_of c.args.self.now) in
    let r = ready (column_of c.args.store.now) c.args.self.now _ _ _ _ c.loop-at.at c.in-Some.n c.link-link.result _ _ c.requires.distinct c.loop-at.invariant.ends c.in-Some.is c.link-link.ensures c.loop-at.invariant.halves in
    let fails = leads_elsewhere old (λ hash. hash % (i.level * 2)) i.chains.len c.in-Some.n c.link-link.result.tag (tag_is old c.in-Some.n c.link-link.result r.is) (λ e. c.if-remainder-len.false (c.remainder.ensures ∙ (e ∙ sym c.len.ensures))) in
    record {
      ends = r.ends;
      halves = halves_flip _ _ _ _ _ _ _ _ (halves_step old _ _ (λ n. not (goes old i n)) (goes old i) (either_both (goes old i)) _ c.in-Some.n _ c.loop-at.stay c.append-else-remainder-len.new.self c.loop-at.moved c.requires.distinct
          (halves_flip _ _ _ _ _ _ _ _ r.halves) (ap not fails) fails (builds_aged c.args.store.now c.loop-at.store _ _ _ _ _ c.loop-at.invariant.contents c.append-else-remainder-len.ensures.builds) c.append-else-remainder-len.ensures.tags c.append-else-remainder-len.ensures.same c.append-else-remainder-len.ensures.nodes);
      others = λ j ne. c.append-else-remainder-len.ensures.others j ne ∙ c.loop-at.invariant.others j ne;
      contents = c.append-else-remainder-len.ensures.contents ∙ c.loop-at.invariant.contents;
    }

pub close-requires : goal.close-requires
close-requires g c =
    let i = c.args.self.now in
    let old = column_of c.args.store.now (col_of i) in
    let none = ap (λ o. rest_of (column_of c.args.store.now) i o) c.in_default.is ∙ rest_none (column_of c.args.store.now) i in
    let h = halves_done _ _ _ _ _ _ _ _ c.loop-at.invariant.halves none in
    let all = done_is _ _ _ _ _ _ _ h in
    let stay = subst (λ z. Builds (age_of c.args.store.now) (column_of c.loop-at.store (col_of i)) c.loop-at.stay (left old i z)) all h.other_is in
    let moved = subst (λ z. Builds (age_of c.args.store.now) (column_of c.loop-at.store (col_of i)) c.loop-at.moved (taken old i z)) all h.one_is in
    first_node _ _ _ stay

pub close-requires-2 : goal.close-requires-2
close-requires-2 g c = λ m e.
    let i = c.args.self.now in
    let old = column_of c.args.store.now (col_of i) in
    let none = ap (λ o. rest_of (column_of c.args.store.now) i o) c.in_default.is ∙ rest_none (column_of c.args.store.now) i in
    let h = halves_done _ _ _ _ _ _ _ _ c.loop-at.invariant.halves none in
    let all = done_is _ _ _ _ _ _ _ h in
    let stay = subst (λ z. Builds (age_of c.args.store.now) (column_of c.loop-at.store (col_of i)) c.loop-at.stay (left old i z)) all h.other_is in
    let moved = subst (λ z. Builds (age_of c.args.store.now) (column_of c.loop-at.store (col_of i)) c.loop-at.moved (taken old i z)) all h.one_is in
    c.close.ensures.nodes m (first_node _ _ _ moved m e)

pub returns-clause-stay : goal.returns-clause-stay
returns-clause-stay g c =
    let i = c.args.self.now in
    let old = column_of c.args.store.now (col_of i) in
    let none = ap (λ o. rest_of (column_of c.args.store.now) i o) c.in_default.is ∙ rest_none (column_of c.args.store.now) i in
    let h = halves_done _ _ _ _ _ _ _ _ c.loop-at.invariant.halves none in
    let all = done_is _ _ _ _ _ _ _ h in
    let stay = subst (λ z. Builds (age_of c.args.store.now) (column_of c.loop-at.store (col_of i)) c.loop-at.stay (left old i z)) all h.other_is in
    let moved = subst (λ z. Builds (age_of c.args.store.now) (column_of c.loop-at.store (col_of i)) c.loop-at.moved (taken old i z)) all h.one_is in
    builds_links _ _ _ _ (λ m. c.close-2.ensures.links m ∙ c.close.ensures.links m) stay

pub returns-clause-moved : goal.returns-clause-moved
returns-clause-moved g c =
    let i = c.args.self.now in
    let old = column_of c.args.store.now (col_of i) in
    let none = ap (λ o. rest_of (column_of c.args.store.now) i o) c.in_default.is ∙ rest_none (column_of c.args.store.now) i in
    let h = halves_done _ _ _ _ _ _ _ _ c.loop-at.invariant.halves none in
    let all = done_is _ _ _ _ _ _ _ h in
    let stay = subst (λ z. Builds (age_of c.args.store.now) (column_of c.loop-at.store (col_of i)) c.loop-at.stay (left old i z)) all h.other_is in
    let moved = subst (λ z. Builds (age_of c.args.store.now) (column_of c.loop-at.store (col_of i)) c.loop-at.moved (taken old i z)) all h.one_is in
    builds_links _ _ _ _ (λ m. c.close-2.ensures.links m ∙ c.close.ensures.links m) moved

pub returns-clause-stay_rising : goal.returns-clause-stay_rising
returns-clause-stay_rising g c =
    let i = c.args.self.now in
    let old = column_of c.args.store.now (col_of i) in
    let none = ap (λ o. rest_of (column_of c.args.store.now) i o) c.in_default.is ∙ rest_none (column_of c.args.store.now) i in
    let h = halves_done _ _ _ _ _ _ _ _ c.loop-at.invariant.halves none in
    let all = done_is _ _ _ _ _ _ _ h in
    let stay = subst (λ z. Builds (age_of c.args.store.now) (column_of c.loop-at.store (col_of i)) c.loop-at.stay (left old i z)) all h.other_is in
    let moved = subst (λ z. Builds (age_of c.args.store.now) (column_of c.loop-at.store (col_of i)) c.loop-at.moved (taken old i z)) all h.one_is in
    rising_apart _ _ _ _ (goes old i) _ moved c.close-2.ensures.same (rising_still c.args.store.now c.loop-at.store _ (column_of c.close.new.store (col_of i)) _ c.loop-at.invariant.contents c.close.ensures.rising _ stay)

pub returns-clause-moved_rising : goal.returns-clause-moved_rising
returns-clause-moved_rising g c =
    let i = c.args.self.now in
    let old = column_of c.args.store.now (col_of i) in
    let none = ap (λ o. rest_of (column_of c.args.store.now) i o) c.in_default.is ∙ rest_none (column_of c.args.store.now) i in
    let h = halves_done _ _ _ _ _ _ _ _ c.loop-at.invariant.halves none in
    let all = done_is _ _ _ _ _ _ _ h in
    let stay = subst (λ z. Builds (age_of c.args.store.now) (column_of c.loop-at.store (col_of i)) c.loop-at.stay (left old i z)) all h.other_is in
    let moved = subst (λ z. Builds (age_of c.args.store.now) (column_of c.loop-at.store (col_of i)) c.loop-at.moved (taken old i z)) all h.one_is in
    rising_still c.args.store.now c.close.new.store _ (column_of c.close-2.new.store (col_of i)) _ (c.close.ensures.contents ∙ c.loop-at.invariant.contents) c.close-2.ensures.rising _ (builds_links _ _ _ _ c.close.ensures.links moved)

pub returns-clause-same : goal.returns-clause-same
returns-clause-same g c = λ m lacks.
    let i = c.args.self.now in
    let old = column_of c.args.store.now (col_of i) in
    let none = ap (λ o. rest_of (column_of c.args.store.now) i o) c.in_default.is ∙ rest_none (column_of c.args.store.now) i in
    let h = halves_done _ _ _ _ _ _ _ _ c.loop-at.invariant.halves none in
    let all = done_is _ _ _ _ _ _ _ h in
    let stay = subst (λ z. Builds (age_of c.args.store.now) (column_of c.loop-at.store (col_of i)) c.loop-at.stay (left old i z)) all h.other_is in
    let moved = subst (λ z. Builds (age_of c.args.store.now) (column_of c.loop-at.store (col_of i)) c.loop-at.moved (taken old i z)) all h.one_is in
    c.close-2.ensures.same m (λ e. Lacks-first _ m (Lacks_filter (goes old i) _ m lacks) (sym moved.first ∙ e))
    ∙ (c.close.ensures.same m (λ e. Lacks-first _ m (Lacks_filter (λ n. not (goes old i n)) _ m lacks) (sym stay.first ∙ e)) ∙ h.kept m (subst (λ z. Lacks z m) (sym all) lacks))
