use Rattle.std.proofs.Common.{◌∙◌, ap, length}
use Rattle.multi_index.proofs.container.MultiIndex.len.Goals as goal

pub returns : goal.returns
returns g c = c.len.ensures ∙ ap (λ s. length s.entries) c.self.view_is
