use Rattle.std.proofs.Common.{◌≢◌, ◌<◌, None, ◌∷◌, sym, subst, arith}
use Rattle.node_store.specs.Store.{age_of}
use Rattle.node_store.specs.Column.{IsNode}
use Rattle.node_store.specs.Nodes.{Lacks}
use Rattle.node_store.specs.ByNode.{column_of}
use Rattle.node_store.proofs.ByNode.{node_of_column}
use Rattle.node_store.proofs.NodeLists.{Lacks-back}
use Rattle.seq_index.specs.Links.{Runs}
use Rattle.seq_index.proofs.Runs.{Runs-node}
use Rattle.hash_index.specs.Chains.{untagged}
use Rattle.node_store.proofs.Ages.{same_age}
use Rattle.hash_index.proofs.Rising.{walked_none, walked_meets, walked_next, walked_there, behind_first}
use Rattle.hash_index.proofs.Spelling.{neighbours}
use Rattle.hash_index.proofs.Untagged.{tagged_node}
use Rattle.hash_index.proofs.HashIndex.place_near.Goals as goal

pub loop-at-init : goal.loop-at-init
loop-at-init g c = walked_none _ c.args.end c.args.n c.requires.last

pub link-at-requires : goal.link-at-requires
link-at-requires g c =
    let d = column_of c.args.store.now c.args.self.now.col in
    let w = walked_meets _ c.loop-at.at c.in-Some.m c.loop-at.top c.args.n c.in-Some.is c.loop-at.invariant in
    tagged_node d c.in-Some.m (Runs-node (untagged d) None w.front c.in-Some.m w.back None (subst (λ z. Runs (untagged d) None z None) w.is c.requires.runs))

pub age-age-requires : goal.age-age-requires
age-age-requires g c = node_of_column c.args.store.now c.args.self.now.col c.args.n c.requires.node

pub age-requires : goal.age-requires
age-requires g c =
    let d = column_of c.args.store.now c.args.self.now.col in
    let w = walked_meets _ c.loop-at.at c.in-Some.m c.loop-at.top c.args.n c.in-Some.is c.loop-at.invariant in
    node_of_column c.args.store.now c.args.self.now.col c.in-Some.m (tagged_node d c.in-Some.m (Runs-node (untagged d) None w.front c.in-Some.m w.back None (subst (λ z. Runs (untagged d) None z None) w.is c.requires.runs)))

pub loop-at-preserved : goal.loop-at-preserved
loop-at-preserved g c =
    let s = c.args.store.now in
    let i = c.args.self.now in
    let d = column_of s i.col in
    let w = walked_meets _ c.loop-at.at c.in-Some.m c.loop-at.top c.args.n c.in-Some.is c.loop-at.invariant in
    let near = neighbours d w.front c.in-Some.m w.back c.link-at.result (subst (λ z. Runs (untagged d) None z None) w.is c.requires.runs) c.link-at.ensures in
    let here : IsNode d c.in-Some.m = record { block = c.link-at.result; is = c.link-at.ensures } in
    let lacks = (Lacks-back w.front (c.in-Some.m ∷ w.back) c.args.n (subst (λ z. Lacks z c.args.n) w.is c.requires.new)).0 in
    let differ : age_of s c.in-Some.m ≢ age_of s c.args.n = λ e. lacks (sym (same_age s c.age.ensures.sound c.in-Some.m c.args.n (node_of_column s i.col c.in-Some.m here) (node_of_column s i.col c.args.n c.requires.node) e)) in
    let later : age_of s c.args.n < age_of s c.in-Some.m = omega (arith, differ, c.if-age.false, c.age.ensures.age, c.age-age.ensures.age) in
    walked_next _ c.in-Some.m c.loop-at.top c.args.end c.args.n c.link-at.result.a w c.requires.last near.a later

pub returns-then-age : goal.returns-then-age
returns-then-age g c =
    let w = walked_meets _ c.loop-at.at c.in-Some.m c.loop-at.top c.args.n c.in-Some.is c.loop-at.invariant in
    walked_there _ c.in-Some.m c.loop-at.top c.args.n w c.requires.rises (omega (arith, c.if-age.true, c.age.ensures.age, c.age-age.ensures.age))

pub returns-then-steps-eq0 : goal.returns-then-steps-eq0
returns-then-steps-eq0 g c = behind_first _ c.args.first c.args.n c.requires.first

pub returns-in_default : goal.returns-in_default
returns-in_default g c = behind_first _ c.args.first c.args.n c.requires.first
