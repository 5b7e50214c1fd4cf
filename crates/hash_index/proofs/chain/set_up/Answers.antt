use Rattle.std.proofs.Common.{refl}
use Rattle.std.specs.Option.{option_map}
use Rattle.hash_index.specs.Chains.{untagged_link}
use Rattle.hash_index.proofs.Untagged.{tag_of, seen_put}
use Rattle.hash_index.proofs.chain.set_up.Goals as goal

pub returns-in-Some-clause-links : goal.returns-in-Some-clause-links
returns-in-Some-clause-links g c = seen_put (option_map untagged_link) _ _ _ _ _ c.link-link.ensures c.set_link.ensures.put refl

pub returns-in-Some-clause-tags : goal.returns-in-Some-clause-tags
returns-in-Some-clause-tags g c = seen_put (option_map tag_of) _ _ _ _ _ c.link-link.ensures c.set_link.ensures.put refl
