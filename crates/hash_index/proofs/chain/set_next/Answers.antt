use Rattle.std.proofs.Common.{refl, option_and_then}
use Rattle.std.specs.Option.{option_map}
use Rattle.node_store.specs.declared.Link.{Link}
use Rattle.seq_index.proofs.Runs.{SetsNext-none}
use Rattle.hash_index.proofs.Untagged.{tag_of, seen_put, next_untagged}
use Rattle.hash_index.proofs.chain.set_next.Goals as goal

pub returns-in-Some-clause-ends : goal.returns-in-Some-clause-ends
returns-in-Some-clause-ends g c = rw c.in-Some.is (next_untagged _ _ _ _ _ c.link-link.ensures c.set_link.ensures.put)

pub returns-in_default-clause-ends : goal.returns-in_default-clause-ends
returns-in_default-clause-ends g c = rw c.in_default.is (SetsNext-none _ _)

pub returns-in-Some-clause-tags : goal.returns-in-Some-clause-tags
returns-in-Some-clause-tags g c = seen_put (option_map tag_of) _ _ _ _ _ c.link-link.ensures c.set_link.ensures.put refl

pub returns-in-Some-clause-ups : goal.returns-in-Some-clause-ups
returns-in-Some-clause-ups g c = seen_put (option_and_then (λ (l : Link). l.up)) _ _ _ _ _ c.link-link.ensures c.set_link.ensures.put refl
