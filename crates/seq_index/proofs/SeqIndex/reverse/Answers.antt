use Rattle.std.proofs.Common.{◌≡◌, refl, ◌∙◌, arith, rules}
use Rattle.node_store.specs.ByNode.{column_of}
use Rattle.seq_index.specs.Spelled.{spelled}
use Rattle.seq_index.proofs.Turns.{Turning_node, Turning_step, Turning_done}
use Rattle.seq_index.proofs.SeqIndex.reverse.Goals as goal

pub link-a-requires : goal.link-a-requires
link-a-requires g c = Turning_node _ _ _ _ c.in-Some.n c.loop.invariant.turning c.in-Some.is

pub loop-preserved : goal.loop-preserved
loop-preserved g c =
    let put = rw c.chain_link.ensures at c.set_link.ensures.put in
    record {
      turning = Turning_step _ _ _ _ _ c.in-Some.n c.link-a.result c.loop.invariant.turning c.in-Some.is c.link-a.ensures put;
      others = λ j ne. c.set_link.ensures.others j ne ∙ c.loop.invariant.others j ne;
      contents = c.set_link.ensures.contents ∙ c.loop.invariant.contents;
    }

pub returns : goal.returns
returns g c =
    let all : c.loop.counter ≡ c.args.self.now.len = omega arith in
    record {
      chain = record {
        list = Turning_done (column_of c.args.store.now) (column_of c.loop.store) c.args.self.now _ c.loop.at (spelled (column_of c.args.store.now) c.args.self.now) c.loop.counter c.requires c.loop.invariant.turning all c.swap.ensures.x_after c.swap.ensures.y_after refl;
        col = search rules;
        others = search rules;
        contents = search rules;
      };
      room = search rules;
    }
