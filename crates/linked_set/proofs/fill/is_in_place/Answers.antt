use Rattle.std.proofs.Common.{◌≡◌, map, sym, ap, ◌∙◌}
use Rattle.container_model.specs.declared.handle.Kind.TheVariants.{Hashed}
use Rattle.index_set.specs.Set.{contents, store_of, specs_of}
use Rattle.linked_set.specs.Linked.{entries_in}
use Rattle.linked_set.specs.Restored.{spec_at}
use Rattle.linked_set.proofs.Contents.{handles_by_age}
use Rattle.linked_set.proofs.fill.is_in_place.Goals as goal

pub returns-in_ok-handles-in-Hashed : goal.returns-in_ok-handles-in-Hashed
returns-in_ok-handles-in-Hashed g c =
    let set = c.args.set.now in
    let own : c.deref-in-Hashed.result.now ≡ map (λ e. e.handle) (entries_in (contents set)) =
    c.deref-in-Hashed.ensures.value ∙ (c.in_ok-handles-in-Hashed.ensures ∙ sym (handles_by_age (store_of set) c.requires.sound.nodes)) in
    let same = c.are_same-in-Hashed.ensures in
    let kind : (spec_at (specs_of set) c.args.index).kind ≡ Hashed = ap (λ specs. (spec_at specs c.args.index).kind) (sym c.specs.ensures) ∙ c.in-Hashed.is in
    rw kind (λ e. same.0 e ∙ own, λ e. same.1 (e ∙ sym own))
