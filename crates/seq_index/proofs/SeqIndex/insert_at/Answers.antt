use Rattle.std.proofs.Common.{List, take, drop, sym, subst, rules}
use Rattle.std.proofs.lemmas.List.{take-append-drop}
use Rattle.node_store.specs.declared.Node.{Node}
use Rattle.node_store.specs.Nodes.{Lacks}
use Rattle.node_store.specs.ByNode.{column_of}
use Rattle.seq_index.specs.Spelled.{Spells, spelled}
use Rattle.seq_index.proofs.SeqIndex.insert_at.Goals as goal

pub returns : goal.returns
returns g c =
    let whole = sym (take-append-drop c.args.place (spelled (column_of c.args.store.now) c.args.self.now)) in
    let chain = subst (λ (z : List Node). Spells (column_of c.args.store.now) c.args.self.now z) whole c.requires.chain in
    let lacks = subst (λ (z : List Node). Lacks z c.args.n) whole c.requires.new in
    record {
      list = c.insert_between.ensures.list
          (take c.args.place (spelled (column_of c.args.store.now) c.args.self.now))
          (drop c.args.place (spelled (column_of c.args.store.now) c.args.self.now))
          chain lacks c.ends_at-before.ensures.ends.before c.ends_at-before.ensures.ends.after;
      col = search rules;
      others = search rules;
      contents = search rules;
    }
