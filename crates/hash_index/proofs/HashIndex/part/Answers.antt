use Rattle.std.proofs.Common.{sym, ap, ◌∙◌, subst}
use Rattle.node_store.specs.ByNode.{column_of}
use Rattle.node_store.specs.Nodes.{Lacks, IsDistinct}
use Rattle.node_store.specs.Store.{age_of}
use Rattle.node_store.proofs.ByNode.{node_of_column, IsNodeOf_kept}
use Rattle.hash_index.specs.Spelled.{col_of}
use Rattle.hash_index.specs.Heads.{first_in}
use Rattle.hash_index.specs.Split.{left, taken}
use Rattle.hash_index.specs.Walks.{rest_of, Ends}
use Rattle.hash_index.specs.Parts.{IsPart}
use Rattle.hash_index.proofs.Cutting.{first_node}
use Rattle.hash_index.proofs.Matching.{walk_node}
use Rattle.hash_index.proofs.Oldest.{cut_right}
use Rattle.hash_index.proofs.HashIndex.part.Goals as goal

pub cut_links-requires-clause-ends : goal.cut_links-requires-clause-ends
cut_links-requires-clause-ends g c = subst (Ends (column_of c.args.store.now) c.args.self.now) (sym c.node.ensures) c.requires.ends

pub cut_links-requires-clause-distinct : goal.cut_links-requires-clause-distinct
cut_links-requires-clause-distinct g c = subst (λ o. IsDistinct (rest_of (column_of c.args.store.now) c.args.self.now o)) (sym c.node.ensures) c.requires.distinct

pub head_of-stay-requires : goal.head_of-stay-requires
head_of-stay-requires g c = first_node _ _ _ c.cut_links.ensures.stay

pub head_of-moved-requires : goal.head_of-moved-requires
head_of-moved-requires g c = first_node _ _ _ c.cut_links.ensures.moved

pub cut_from-requires-clause-node : goal.cut_from-requires-clause-node
cut_from-requires-clause-node g c = λ n e. node_of_column c.cut_links.new.store _ n (first_node _ _ _ c.cut_links.ensures.stay n (sym c.head_of-stay.ensures.first ∙ e))

pub cut_from-requires-2-clause-node : goal.cut_from-requires-2-clause-node
cut_from-requires-2-clause-node g c = λ n e. node_of_column c.cut_links.new.store _ n (first_node _ _ _ c.cut_links.ensures.moved n (sym c.head_of-moved.ensures.first ∙ e))

pub cut_from-requires-clause-longer : goal.cut_from-requires-clause-longer
cut_from-requires-clause-longer g c = λ n e. IsNodeOf_kept c.args.store.now c.cut_links.new.store n c.cut_links.ensures.contents (node_of_column c.args.store.now _ n (walk_node (column_of c.args.store.now) c.args.self.now (first_in c.args.head) n c.requires.ends e))

pub cut_from-requires-2-clause-longer : goal.cut_from-requires-2-clause-longer
cut_from-requires-2-clause-longer g c = λ n e. IsNodeOf_kept c.args.store.now c.cut_links.new.store n c.cut_links.ensures.contents (node_of_column c.args.store.now _ n (walk_node (column_of c.args.store.now) c.args.self.now (first_in c.args.head) n c.requires.ends e))

pub returns-clause-parted : goal.returns-clause-parted
returns-clause-parted g c =
    let i = c.args.self.now in
    let same = ap (λ o. rest_of (column_of c.args.store.now) i o) c.node.ensures in
    let old = column_of c.args.store.now (col_of i) in
    let new = column_of c.cut_links.new.store (col_of i) in
    record {
      stays = subst (λ z. IsPart (age_of c.args.store.now) new c.args.head c.cut_from.result (left old i z)) same (record {
        first = c.cut_from.ensures.first ∙ (c.head_of-stay.ensures.first ∙ c.cut_links.ensures.stay.first);
        runs = c.cut_links.ensures.stay.runs;
        rising = c.cut_links.ensures.stay_rising;
        right = cut_right _ _ c.cut_from.result c.cut_from.ensures.kept c.head_of-stay.ensures.right;
        oldest = c.cut_from.ensures.oldest;
        same = c.cut_from.ensures.same;
      });
      moves = subst (λ z. IsPart (age_of c.args.store.now) new c.args.head c.cut_from-2.result (taken old i z)) same (record {
        first = c.cut_from-2.ensures.first ∙ (c.head_of-moved.ensures.first ∙ c.cut_links.ensures.moved.first);
        runs = c.cut_links.ensures.moved.runs;
        rising = c.cut_links.ensures.moved_rising;
        right = cut_right _ _ c.cut_from-2.result c.cut_from-2.ensures.kept c.head_of-moved.ensures.right;
        oldest = c.cut_from-2.ensures.oldest;
        same = c.cut_from-2.ensures.same;
      });
      tags = c.cut_links.ensures.tags;
      kept = λ m lacks. c.cut_links.ensures.same m (subst (λ z. Lacks z m) (sym same) lacks);
    }
