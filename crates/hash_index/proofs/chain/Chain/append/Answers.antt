use Rattle.std.proofs.Common.{◌≡◌, true, false, Some, None, sym, ap, ◌∙◌}
use Rattle.std.specs.Prelude.{nat_lt}
use Rattle.std.specs.Option.{option_map, option_map_or}
use Rattle.node_store.specs.Store.{age_of}
use Rattle.hash_index.proofs.Rising.{rises_appended}
use Rattle.node_store.specs.Nodes.{last_or}
use Rattle.node_store.specs.ByNode.{column_of}
use Rattle.seq_index.specs.Links.{end_beside}
use Rattle.hash_index.proofs.Untagged.{tag_of, seen_put}
use Rattle.hash_index.proofs.Cutting.{append_runs, first_appended, last_appended}
use Rattle.hash_index.proofs.chain.Chain.append.Goals as goal
use Rattle.node_store.proofs.ByNode.{node_of_column}
use Rattle.hash_index.proofs.chain.Chain.append.Goals.{then-self, else-self}

pub returns-clause-builds : goal.returns-clause-builds
returns-clause-builds g c = λ xs dist h.
    let was = c.args.self.now in
    record {
      first = c.first_beside-self.ensures ∙ (ap (λ o. end_beside o was.first (Some c.args.n)) h.last ∙ (ap (λ o. end_beside (last_or xs None) o (Some c.args.n)) h.first ∙ first_appended xs c.args.n));
      last = last_appended xs c.args.n;
      runs = append_runs (column_of c.args.store.now c.args.col) _ (column_of c.set_next.new.store c.args.col) was.last c.args.n c.args.hash c.set_link.ensures.put c.set_next.ensures.ends xs h.last dist h.runs;
      rises = λ yes. elim c.if-self.branch [
        | then-self w ↦ rises_appended (age_of c.args.store.now) xs c.args.n (ap (λ o. option_map_or (λ k. nat_lt (age_of c.args.store.now k) (age_of c.args.store.now c.args.n)) o true) (sym h.last) ∙ (sym w.is_after-rises.ensures ∙ (sym w.rises-is ∙ yes))) (h.rises w.if-self.true)
        | else-self w ↦ (let bad : false ≡ true = sym w.if-self.false ∙ (sym w.rises-is ∙ yes) in absurd (cc))
      ];
    }

pub is_after-rises-requires-clause-last : goal.is_after-rises-requires-clause-last
is_after-rises-requires-clause-last g c = λ m e. node_of_column c.args.store.now c.args.col m (c.requires.last m e)

pub is_after-rises-requires-clause-node : goal.is_after-rises-requires-clause-node
is_after-rises-requires-clause-node g c = node_of_column c.args.store.now c.args.col c.args.n c.requires.node

pub returns-clause-tags : goal.returns-clause-tags
returns-clause-tags g c = λ m.
    c.set_next.ensures.tags m
    ∙ seen_put (option_map tag_of) _ _ _ _ _ c.requires.node.is c.set_link.ensures.put (sym c.requires.hash ∙ ap (option_map tag_of) c.requires.node.is) m
